-- Functions one after the other, as a loop walks over them: those passed so far, and those that are left.
--     SoFar            n functions from w on are those passed and the `more` that are left from k on
--     level            the test that a walk makes before it goes deeper
--     starts, ended    before the first; where none is left
--     deep, many, stops, goes_on_lem       what the next one gives
-- Assumes nothing.
use Rattle.std.specs.Prelude.{Ok, Err}
use mathlib.Core.Path.{◌≡◌, refl, sym, subst, ◌∙◌, ap}
use mathlib.Core.List.{List, [], ◌++◌, append_assoc, append-nil}
use Prim.Native.Nat.{ℕ, suc, ◌+◌, ◌-◌, ◌<◌, ◌≤◌}
use native.Mathlib.Omega.{arith}
use lib.ListN.{length, length-append, drop}
use Rattle.format.specs.declared.limits.ResourceLimits.{ResourceLimits}
use Rattle.format.specs.declared.refusal.Refusal.{Refusal}
use Rattle.format.specs.declared.refusal.Refusal.TheVariants.{NestingDepth, TotalPrototypes}
use Rattle.format.specs.Form.{Bytes, Form}
use Rattle.format.specs.Reading.{Prototype}
use Rattle.format.specs.GrammarChunk.{Where, instructions_of, after}
use Rattle.format.specs.Read.{Read, ok, refused, Reader, next, ◌>>=◌, give}
use Rattle.format.specs.ReadChunk.{forest, function}
use Rattle.format.proofs.Exact.{Exact}
use Rattle.format.proofs.ExactChunk.{exact_function}
use Rattle.format.proofs.Totals.{instructions-append}
use Rattle.read_prototype.proofs.On.{taken, stopped}
use Rattle.read_walk.specs.declared.walk.Skimmed.{Skimmed}
use Rattle.read_walk.specs.Inner.Skim.{entered_by, entered, on, skimmed_of, skim_result}
use Rattle.read_walk.proofs.Entering.{too_deep_lem, too_many, enters_by}
use Rattle.read_walk.proofs.OneFunction.{skim_err, Skims, skim_read}

-- a level is left where the number of levels is not 0
pub level : (left : ℕ) → (left ≡ 0 → ⊥) → 0 < left
level left h = omega arith

pub record SoFar (r : Where → Reader (List Prototype)) (s : Bytes) (w : Where) (n from : ℕ) (k : Skimmed) (more : ℕ) (passed : List Prototype) : Type 0 where
  pub number : k.number ≡ w.number + length passed
  pub instructions : k.instructions ≡ w.instructions + instructions_of passed
  pub reads : forest n r w from (drop from s) ≡ next (forest more r (on w k) k.next.at (drop k.next.at s)) (λ qs. give (passed ++ qs))

given : (o : Read (List Prototype)) → next o give ≡ o
given (ok ps to rest) = refl
given (refused q) = refl

grouped : (ps qs : List Prototype) (o : Read (List Prototype)) → next (next o (λ rs. give (qs ++ rs))) (λ rs. give (ps ++ rs)) ≡ next o (λ rs. give ((ps ++ qs) ++ rs))
grouped ps qs (ok rs to rest) = ap (λ l. ok l to rest) (sym (append_assoc ps qs rs))
grouped ps qs (refused q) = refl

pub starts : (r : Where → Reader (List Prototype)) (s : Bytes) (w : Where) (n : ℕ) (k : Skimmed) → k.number ≡ w.number → k.instructions ≡ w.instructions → SoFar r s w n k.next.at k n []
starts r s w n k e i = record {
  number = e ∙ omega arith;
  instructions = i ∙ omega arith;
  reads = (λ j. forest n r (record { number = sym e j; instructions = sym i j; depth = w.depth; parent = w.parent; source = w.source }) k.next.at (drop k.next.at s)) ∙ sym (given _);
}

module _ {r : Where → Reader (List Prototype)} {s : Bytes} {w : Where} {n from : ℕ} {k : Skimmed} {more : ℕ} {passed : List Prototype} (a : SoFar r s w n from k more passed) where
  -- where none is left
  pub ended : more ≤ 0 → forest n r w from (drop from s) ≡ ok passed k.next.at (drop k.next.at s)
  ended over =
      let e : more ≡ 0 = omega arith in
      a.reads ∙ ap (λ m. next (forest m r (on w k) k.next.at (drop k.next.at s)) (λ qs. give (passed ++ qs))) e ∙ ap (λ l. ok l k.next.at (drop k.next.at s)) (append-nil passed)

  abbrev pub those : more ≤ 0 → Skims (forest n r) s w from k
  those over = record { value = passed; is = ended over; shows = λ i. record { next = k.next; number = a.number i; instructions = a.instructions i } }

  pub ends : more ≤ 0 → Ok k ≡ skim_result w (forest n r w from (drop from s))
  ends over = ap Ok (those over).shows ∙ sym (ap (skim_result w) (ended over))

  -- the next one
  turn : 0 < more → forest more r (on w k) k.next.at (drop k.next.at s)
      ≡ next (r (on w k) k.next.at (drop k.next.at s)) (λ qs. forest (more - 1) r (after qs (on w k)) >>= λ rs. give (qs ++ rs))
  turn some = let e : more ≡ suc (more - 1) = omega arith in ap (λ m. forest m r (on w k) k.next.at (drop k.next.at s)) e

  pub one-refused : 0 < more → {q : Refusal} → r (on w k) k.next.at (drop k.next.at s) ≡ refused q → forest n r w from (drop from s) ≡ refused q
  one-refused some e = a.reads ∙ stopped _ (turn some ∙ stopped _ e)

  pub one-read : 0 < more → {ps : List Prototype} {to : ℕ} → r (on w k) k.next.at (drop k.next.at s) ≡ ok ps to (drop to s) → SoFar r s w n from (skimmed_of (on w k) ps to) (more - 1) (passed ++ ps)
  one-read some {ps} {to} e = record {
    number = ap (λ m. m + length ps) a.number ∙ (rw length-append (omega arith));
    instructions = ap (λ m. m + instructions_of ps) a.instructions ∙ (rw (instructions-append passed ps) (omega arith));
    reads = a.reads ∙ ap (λ o. next o (λ qs. give (passed ++ qs))) (turn some ∙ taken _ e) ∙ grouped passed ps (forest (more - 1) r (after ps (on w k)) to (drop to s));
  }

-- ## Of functions that are entered, whatever reads a function
module _ {f : ℕ → Where → Reader (List Prototype)} {F : ℕ → Where → Form (List Prototype)} (exact : (left : ℕ) (w : Where) → Exact (f left w) (F left w))
    (L : ResourceLimits) (left : ℕ) {s : Bytes} {w : Where} {n from : ℕ} {k : Skimmed} {more : ℕ} {passed : List Prototype} (a : SoFar (entered_by f L left) s w n from k more passed) (some : 0 < more) where
  pub deep_by : left ≡ 0 → Err (NestingDepth k.next.at) ≡ skim_result w (forest n (entered_by f L left) w from (drop from s))
  deep_by e = sym (ap (skim_result w) (one-refused a some (too_deep_lem f L left (on w k) k.next.at (drop k.next.at s) e)))

  module _ (level : 0 < left) where
    pub many_by : L.max_total_prototypes < k.number → Err (TotalPrototypes k.next.at) ≡ skim_result w (forest n (entered_by f L left) w from (drop from s))
    many_by h = sym (ap (skim_result w) (one-refused a some (too_many f L left (on w k) k.next.at (drop k.next.at s) level h)))

    module _ (few : k.number ≤ L.max_total_prototypes) where
      enter : entered_by f L left (on w k) k.next.at (drop k.next.at s) ≡ f (left - 1) (on w k) k.next.at (drop k.next.at s)
      enter = enters_by f L left (on w k) k.next.at (drop k.next.at s) level few

      pub stops_by : (q : Refusal) → Err q ≡ skim_result (on w k) (f (left - 1) (on w k) k.next.at (drop k.next.at s)) → Err q ≡ skim_result w (forest n (entered_by f L left) w from (drop from s))
      stops_by q e = sym (ap (skim_result w) (one-refused a some (enter ∙ skim_err (on w k) _ q e)))

      module _ (later : Skimmed) (e : Ok later ≡ skim_result (on w k) (f (left - 1) (on w k) k.next.at (drop k.next.at s))) where
        pub next_by : Skims (f (left - 1)) s (on w k) k.next.at later
        next_by = skim_read (exact (left - 1)) s (on w k) k.next.at later e

        pub goes_on_by : SoFar (entered_by f L left) s w n from later (more - 1) (passed ++ next_by.value)
        goes_on_by = subst (λ l. SoFar (entered_by f L left) s w n from l (more - 1) (passed ++ next_by.value)) (sym next_by.shows) (one-read a some (enter ∙ next_by.is))

-- ## Of the ordinary reading
module _ (L : ResourceLimits) (left : ℕ) {s : Bytes} {w : Where} {n from : ℕ} {k : Skimmed} {more : ℕ} {passed : List Prototype} (a : SoFar (entered L left) s w n from k more passed) (some : 0 < more) where
  pub deep : left ≡ 0 → Err (NestingDepth k.next.at) ≡ skim_result w (forest n (entered L left) w from (drop from s))
  deep e = deep_by (exact_function L) L left a some e

  module _ (level : 0 < left) where
    pub many : L.max_total_prototypes < k.number → Err (TotalPrototypes k.next.at) ≡ skim_result w (forest n (entered L left) w from (drop from s))
    many h = many_by (exact_function L) L left a some level h

    module _ (few : k.number ≤ L.max_total_prototypes) where
      pub stops : (q : Refusal) → Err q ≡ skim_result (on w k) (function L (left - 1) (on w k) k.next.at (drop k.next.at s)) → Err q ≡ skim_result w (forest n (entered L left) w from (drop from s))
      stops q e = stops_by (exact_function L) L left a some level few q e

      module _ (later : Skimmed) (e : Ok later ≡ skim_result (on w k) (function L (left - 1) (on w k) k.next.at (drop k.next.at s))) where
        -- what the next one is
        abbrev pub next-read : Skims (function L (left - 1)) s (on w k) k.next.at later
        next-read = next_by (exact_function L) L left a some level few later e

        pub goes_on_lem : SoFar (entered L left) s w n from later (more - 1) (passed ++ next-read.value)
        goes_on_lem = goes_on_by (exact_function L) L left a some level few later e
