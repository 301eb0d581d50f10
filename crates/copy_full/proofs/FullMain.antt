-- Main and all that nest in it, copied in full, in the code's terms.
--     chunk_is         the full copy of a reading: header, byte 31, functions, trailing bytes
--     full_main-put    what was put of main, of the header and of the trailing bytes is the full copy
-- Assumes nothing.
use Rattle.std.specs.Prelude.{Ok}
use mathlib.Core.Path.{◌≡◌, refl, sym, ◌∙◌, ap}
use mathlib.Core.List.{List, [], ◌++◌, append-nil}
use mathlib.Core.Option.{none}
use Prim.Native.Nat.{ℕ, ◌-◌, ◌≤◌}
use lib.ListN.{length, take, drop}
use Rattle.format.specs.Limits.{MOST}
use Rattle.format.specs.declared.limits.ResourceLimits.{ResourceLimits}
use Rattle.format.specs.Form.{Bytes, Below}
use Rattle.format.specs.Reading.{Prototype, Reading}
use Rattle.format.specs.GrammarChunk.{outermost}
use Rattle.format.specs.Read.{ok}
use Rattle.format.specs.Copy.{field_bytes, header_bytes, upvalues_of_main}
use Rattle.format.specs.FullCopy.{all_within, full_functions, full_copy}
use Rattle.read_walk.specs.declared.walk.Skimmed.{Skimmed}
use Rattle.read_walk.specs.Inner.Skim.{skim_result}
use Rattle.copy_put.specs.Inner.Put.{Put}
use Rattle.copy_parts.proofs.PutParts.{put_as}
use Rattle.copy_walk.proofs.Nests.{function_single}
use Rattle.copy_full_walk.specs.Inner.Walk.{full_bytes}
use Rattle.copy_full_walk.proofs.Full.{none_nested, full, single}
use Rattle.copy.specs.Inner.Answers.{chunkBy, Answers}
use Rattle.copy.proofs.Chunks.{functions_at, functions-put}

pub chunk_is : (x : Reading) → chunkBy full_functions x.functions x.trailing ≡ full_copy x
unfolding full_copy
chunk_is x = refl

module _ (s : Bytes) (bytes : Below 256 s) (short : length s ≤ MOST) (L : ResourceLimits) (at : ℕ) where
  -- main is one function, and has no source around it
  functions_are : (ps : List Prototype) (to : ℕ) (rest : Bytes) → functions_at L s at ≡ ok ps to rest → full_bytes none ps ≡ full_functions ps
  functions_are ps to rest e =
      let one = (function_single full s bytes L single L.max_nesting_depth outermost at).holds e in
      sym (ap (all_within none) (one.stack []) ∙ one.joins [] ∙ ap (λ b. full_bytes none ps ++ b) (none_nested none) ∙ append-nil (full_bytes none ps))

  pub full_main-put : (k : Skimmed) (upvalues n : ℕ) → Ok k ≡ skim_result outermost (functions_at L s at) → n ≡ length (drop k.next.at s)
      → {l l₁ l₂ l' : Bytes} {after m len : ℕ}
      → ((ps : List Prototype) (to : ℕ) (rest : Bytes) → functions_at L s at ≡ ok ps to rest → upvalues ≡ upvalues_of_main ps)
      → ((ps : List Prototype) (to : ℕ) (rest : Bytes) → functions_at L s at ≡ ok ps to rest → Put (full_bytes none ps) 32 l after l₁)
      → Put (header_bytes 0 ++ field_bytes 1 upvalues) 0 l₁ m l₂
      → (n ≤ length s - k.next.at → Put (take n (drop k.next.at s)) after l₂ len l')
      → Answers (chunkBy full_functions) (functions_at L s at) l (Ok len) l'
  full_main-put k upvalues n e size u p q r =
      functions-put full_functions s short L at (λ ps to rest f. rw (functions_are ps to rest f) at ((function_single full s bytes L single L.max_nesting_depth outermost at).holds f).short) k upvalues n e size
      u (λ ps to rest f. put_as (functions_are ps to rest f) (p ps to rest f)) q r
