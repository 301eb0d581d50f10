-- `copy::whole::copy_functions` meets its contract (`Chunks.antt`). Assumes nothing.
use mathlib.Core.Path.{refl}
use mathlib.Core.Bool.{true}
use Rattle.format.specs.GrammarChunk.{outermost}
use Rattle.copy_parts.specs.Inner.Parts.{function_bytes}
use Rattle.copy_walk.proofs.Tails.{put_part}
use Rattle.copy.proofs.Chunks.{main-put}
use Rattle.copy.proofs.whole.copy_functions.Goals as goal

pub returns : goal.returns
returns c =
    let a = c.args in
    let main = c.in_ok-main.ensures in
    λ bytes short. main-put a.s.now bytes short a.limits a.cursor.at c.in_ok-main.main.walk _ _ (main.walk_value outermost refl refl) c.remaining.ensures
    (main.puts_function outermost refl refl (λ _. refl) bytes).counts
    (λ ps to rest e. put_part (function_bytes true ps) 32 _ a.out.now _ _ _ c.within-start.ensures ((main.puts_function outermost refl refl (λ _. refl) bytes).put ps to rest e) c.plus-behind.ensures)
    c.put_front.ensures c.put_bytes.ensures
