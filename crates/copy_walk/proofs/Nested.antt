-- A walk that copies a function and those that nest in it, whatever copy that is: what its returns show and have put, wherever the function stands,
-- by its head, and by what the loop over the functions that nest in it keeps.
--     Refuses, Shows               what is asked at a return
--     head-refused                 where the head is refused
--     Kept                         what the loop keeps: those passed are read, and copied (Loops.antt)
--     deep, many, stops            where the loop gives up: too deep, too many, the next one refused
--     begins, goes_on, ends        before the first; behind one more; behind the last
-- Assumes nothing.
use Rattle.std.specs.Prelude.{Result, Ok, Err, IfOk}
use Prim.Native.Nat.{ℕ, ◌+◌, ◌-◌, ◌<◌, ◌≤◌}
use mathlib.Core.Path.{◌≡◌, refl}
use mathlib.Core.Bool.{Bool, cond}
use mathlib.Core.List.{List, [], ◌∷◌, ◌++◌, foldr}
use mathlib.Core.Option.{Option}
use lib.Dec.{leb}
use lib.ListN.{length, take, drop}
use borrow.Rule.Slice.PartMut.{put_mid}
use Rattle.format.specs.declared.limits.ResourceLimits.{ResourceLimits}
use Rattle.format.specs.declared.refusal.Refusal.{Refusal}
use Rattle.format.specs.declared.refusal.Refusal.TheVariants.{NestingDepth, TotalPrototypes}
use Rattle.format.specs.Form.{Bytes, Below}
use Rattle.format.specs.GrammarFields.{LuaString}
use Rattle.format.specs.Reading.{Prototype}
use Rattle.format.specs.GrammarChunk.{Where}
use Rattle.format.specs.Read.{Read}
use Rattle.format.specs.ReadChunk.{forest, function}
use Rattle.slice.specs.declared.cursor.Cursor.{Cursor}
use Rattle.read_prototype.specs.Parts as parts
use Rattle.read_prototype.specs.PartsShown.{head_result}
use Rattle.read_prototype.specs.Inner.Whole.{prototype_of}
use Rattle.read_walk.specs.declared.walk.Skimmed.{Skimmed}
use Rattle.read_walk.specs.Inner.Skim.{entered, on, skim_result}
use Rattle.read_walk.proofs.SoFar as so_far
use Rattle.copy_parts.specs.declared.ends.Copied.{Copied}
use Rattle.copy_parts.specs.declared.parts.Counts.{Counts}
use Rattle.copy_parts.specs.Inner.Parts.{head_bytes, tail_bytes}
use Rattle.copy_parts.specs.Inner.Heads.{head_counted, PutsHead}
use Rattle.copy_parts.specs.Inner.Ends.{PutsTail, end_shown, walk_of}
use Rattle.copy_walk.specs.Inner.Walk.{PutsFunction}
use Rattle.copy_walk.proofs.Nests.{Way, Single, Parts}
use Rattle.copy_walk.proofs.Tails.{put_part}
use Rattle.copy_walk.proofs.Loops.{Copies, copies_none, copies_one, copies_all}
use Rattle.copy_walk.proofs.Functions as copied

-- what follows from two facts of an answer that is no refusal
both-ok : {X : Type 0} (r : Result X Refusal) {P Q R : X → Type 0} → ((x : X) → P x → Q x → R x) → IfOk r P → IfOk r Q → IfOk r R
both-ok (Ok x) f p q = f x p q
both-ok (Err q) f p r = tt

module _ (s : Bytes) (L : ResourceLimits) (left : ℕ) (from : Skimmed) where
  abbrev its : Where → Read (List Prototype)
  its w = function L left w from.next.at (drop from.next.at s)

  -- what its head shows
  abbrev its_parts : Read parts.Head
  its_parts = parts.head L from.instructions from.next.at (drop from.next.at s)

  -- what a refusal shows
  abbrev Refuses : Refusal → Type 0
  Refuses q = (w : Where) → from.number ≡ w.number → from.instructions ≡ w.instructions → Err q ≡ skim_result w (its w)

  -- where what is asked of the function holds, its bytes are put
  pub record Shows (Asks : Where → Type 0) (bytes : Where → List Prototype → Bytes) (l : Bytes) (r : Result Copied Refusal) (l' : Bytes) : Type 0 where
    pub walk_value : (w : Where) → from.number ≡ w.number → from.instructions ≡ w.instructions → walk_of r ≡ skim_result w (its w)
    pub puts_function : (w : Where) → from.number ≡ w.number → from.instructions ≡ w.instructions
        → Asks w → IfOk r (λ k. PutsFunction (bytes w) (its w) l k.upvalues k.len l')

  pub head-refused : {q : Refusal} → Err q ≡ head_counted (head_result its_parts) → Refuses q
  head-refused {q} told w e i = copied.head-refused s L left w from.next.at i q told

  -- behind the head: what it gave; of the functions in it, what is asked of the source that they inherit
  module _ (h : Counts) (behind : Cursor) (begun : Ok (h, behind) ≡ head_counted (head_result its_parts))
      (way : Way) (If : Option LuaString → Type 0) where
    -- where the first one stands
    abbrev inside : Skimmed
    inside = record { next = behind; number = from.number + 1; instructions = from.instructions + h.instructions }

    abbrev pub Kept : (n₁ : ℕ) (l₁ : Bytes) (k : Skimmed) (more n : ℕ) (l : Bytes) → Type 0
    Kept n₁ l₁ k more n l = (w : Where) → inside.number ≡ w.number → inside.instructions ≡ w.instructions
        → Copies way (If w.source) s L left w h.protos behind.at n₁ l₁ k more n l

    pub begins : (n : ℕ) (l : Bytes) → Kept n l inside h.protos n l
    begins n l w e i = copies_none way (If w.source) s L left w h.protos inside n l e i

    abbrev pub its_head : (w : Where) → from.instructions ≡ w.instructions → parts.Head
    its_head w i = copied.its_head s L left w from.next.at i h behind begun

    abbrev pub first : (w : Where) → from.instructions ≡ w.instructions → Where
    first w i = copied.first s L left w from.next.at i h behind begun

    module _ {n₁ : ℕ} {l₁ : Bytes} {k : Skimmed} {more n : ℕ} {l : Bytes} (kept : Kept n₁ l₁ k more n l) where
      module _ (w : Where) (e : from.number ≡ w.number) (i : from.instructions ≡ w.instructions) where
        those : Copies way (If (first w i).source) s L left (first w i) h.protos behind.at n₁ l₁ k more n l
        those = kept (first w i) (λ j. e j + 1) (copied.first_instructions s L left w from.next.at i h behind begun)

        inner_refused : (q : Refusal)
            → Err q ≡ skim_result (first w i) (forest h.protos (entered L left) (first w i) behind.at (drop behind.at s))
            → Err q ≡ skim_result w (its w)
        inner_refused = copied.nested_refused s L left w from.next.at i h behind begun

      -- where the function's bytes are those of its parts, with those of the functions in it between them
      pub ends : (Asks : Where → Type 0) (bytes : Where → List Prototype → Bytes) (named : Bool) {l₀ : Bytes} (r : Result Copied Refusal) {l' : Bytes} → more ≤ 0
          → ((w : Where) (i : from.instructions ≡ w.instructions) → Asks w → Below 256 s × If (first w i).source
          × ((x : parts.Tail) (end : ℕ) (ps : List Prototype) → bytes w (prototype_of w from.next.at (its_head w i) x end ∷ ps)
          ≡ head_bytes named (its_head w i) ++ (way.all (first w i).source (foldr way.nest [] ps) ++ tail_bytes x)))
          → (Below 256 s → PutsHead named its_parts l₀ n₁ l₁)
          → IfOk r (λ k. k.upvalues ≡ h.upvalues)
          → walk_of r ≡ end_shown k (parts.tail L.max_string_bytes k.next.at (drop k.next.at s))
          → IfOk r (λ z. PutsTail (parts.tail L.max_string_bytes k.next.at (drop k.next.at s)) n l z.len l')
          → Shows Asks bytes l₀ r l'
      ends Asks bytes named r over made put u shown rest = record {
        walk_value = λ w e i.
            copied.end-shows s L left w from.next.at i h behind begun k (so_far.those (those w e i).so_far over) _ shown;
        puts_function = λ w e i asked.
            let so = made w i asked in
            both-ok r
            (λ z u rest. copied.whole-put s L left w from.next.at i h behind begun k (so_far.those (those w e i).so_far over) (bytes w) named _
            (λ x end. so.2 x end (those w e i).passed) u (put so.0) (copies_all L left (those w e i) so.1) rest)
            u rest;
      }

      -- there is one more
      module _ (some : 0 < more) where
        pub deep : left ≡ 0 → Refuses (NestingDepth k.next.at)
        deep over w e i = inner_refused w e i _ (so_far.deep _ _ (those w e i).so_far some over)

        module _ (level : 0 < left) where
          pub many : L.max_total_prototypes < k.number → Refuses (TotalPrototypes k.next.at)
          many above w e i = inner_refused w e i _ (so_far.many _ _ (those w e i).so_far some level above)

          -- it was read, and put behind those before
          module _ (few : k.number ≤ L.max_total_prototypes) where
            abbrev Walked : Result Skimmed Refusal → Type 0
            Walked walk = (w : Where) → k.number ≡ w.number → k.instructions ≡ w.instructions → walk ≡ skim_result w (function L (left - 1) w k.next.at (drop k.next.at s))

            pub stops : {q : Refusal} → Walked (Err q) → Refuses q
            stops {q} told w e i = inner_refused w e i q (so_far.stops _ _ (those w e i).so_far some level few q (told (on (first w i) k) refl refl))

            pub goes_on : {later : Skimmed} {start after upvalues len : ℕ} {part : Bytes}
                → ((w : Where) (ps : List Prototype) (at to : ℕ) → Parts way w ps at to → Single way w.source ps at to)
                → ((source : Option LuaString) → If source → Below 256 s)
                → Walked (Ok later)
                → start ≡ cond (leb n (length l)) n (length l)
                → ((w : Where) → k.number ≡ w.number → k.instructions ≡ w.instructions → If w.source
                → PutsFunction (way.one w.source) (function L (left - 1) w k.next.at (drop k.next.at s))
                (take (length l - start) (drop start l)) upvalues len part)
                → (n + len ≤ 4294967296 → after ≡ n + len)
                → Kept n₁ l₁ later (more - 1) after (put_mid start (length l - start) l part)
            goes_on {later} single below told begin puts sum = λ w e i.
                copies_one L left (kept w e i) single (below w.source) some level few later (told (on w k) refl refl)
                λ holds ps to rest f. put_part (way.one w.source ps) _ _ l _ _ _ begin ((puts (on w k) refl refl holds).put ps to rest f) sum
