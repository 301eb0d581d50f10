-- `copy_full::whole::full_functions` meets its contract (`FullMain.antt`). Assumes nothing.
use mathlib.Core.Path.{refl, sym}
use mathlib.Core.Option.{none}
use Rattle.format.specs.GrammarChunk.{outermost}
use Rattle.read_walk.proofs.Sources.{none-at-end}
use Rattle.copy_walk.proofs.Tails.{put_part}
use Rattle.copy_full_walk.specs.Inner.Walk.{full_bytes}
use Rattle.copy_full.proofs.FullMain.{full_main-put}
use Rattle.copy_full.proofs.whole.full_functions.Goals as goal

pub returns : goal.returns
returns c =
    let a = c.args in
    let main = c.in_ok-main.ensures in
    let none_around = sym (none-at-end a.limits.max_string_bytes a.s.now) in
    λ bytes short. full_main-put a.s.now bytes short a.limits a.cursor.at c.in_ok-main.main.walk _ _ (main.walk_value outermost refl refl) c.remaining.ensures
    (main.puts_function outermost refl refl none_around bytes).counts
    (λ ps to rest e. put_part (full_bytes none ps) 32 _ a.out.now _ _ _ c.within-start.ensures ((main.puts_function outermost refl refl none_around bytes).put ps to rest e) c.plus-behind.ensures)
    c.put_front.ensures c.put_bytes.ensures
