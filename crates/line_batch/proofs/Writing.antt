-- Writing the lines, one turn at a time: what is written in the end stays the same.
-- Assumes nothing.
use mathlib.Core.Path.{◌≡◌, refl, sym, ◌∙◌, ap}
use mathlib.Core.Bool.{cond}
use mathlib.Core.List.{List, [], ◌∷◌}
use Prim.Native.Nat.{ℕ, ◌+◌, ◌≤◌, ◌<◌}
use native.Mathlib.Nat.{zero-add}
use native.Mathlib.Numerals.{add-one}
use native.Mathlib.Omega.{arith}
use borrow.Author.Tests.{lt-ltb, le-ltb}
use lib.ListN.{length, drop, set, get_or, length-set}
use lib.Seq.{drop-cons}
use Rattle.format.specs.Form.{Bytes}
use Rattle.slice.specs.Inner.Splice.{splice}
use Rattle.slice.proofs.Splices.{splice-none, splice_set, splice_then}
use Rattle.line_anchors.proofs.Tests.{drop_beyond}
use Rattle.line_batch.specs.Inner.Numbered.{Passed, pass_to, numbered_from}
use Rattle.line_batch.specs.Inner.Walk.{Step, forward, line_in, lines_from, end_of}
use Rattle.line_batch.specs.Inner.Steps.{Writable}

-- a list with one number more in front
one_more : (k x : ℕ) (xs l : List ℕ) → k < length l → splice k (x ∷ xs) l ≡ splice (k + 1) xs (set l k x)
one_more k x xs l h = sym (ap (splice (k + 1) xs) (splice_set k x l h) ∙ splice_then k (x ∷ []) xs l (omega arith))

turn : (pcs : List ℕ) (k : ℕ) → k < length pcs → drop k pcs ≡ get_or pcs k 0 ∷ drop (k + 1) pcs
turn pcs k h = rw (add-one, drop-cons pcs k 0 h)

-- ## The walk
module _ (deltas : Bytes) (z : Step) (pcs : List ℕ) (k : ℕ) where
  module _ (h : k < length pcs) where
    pub this_one : Writable deltas z (drop k pcs) → let pc = get_or pcs k 0 in Writable deltas z (pc ∷ drop (k + 1) pcs)
    this_one w = rw (turn pcs k h) at w

    pub written_on : (lines : List ℕ) → k < length lines
        → splice (k + 1) (lines_from deltas (forward deltas (get_or pcs k 0) z) (drop (k + 1) pcs)) (set lines k (line_in deltas (forward deltas (get_or pcs k 0) z))) ≡ splice k (lines_from deltas z (drop k pcs)) lines
    written_on lines room =
        sym (one_more k (line_in deltas (forward deltas (get_or pcs k 0) z)) (lines_from deltas (forward deltas (get_or pcs k 0) z) (drop (k + 1) pcs)) lines room) ∙ ap (λ qs. splice k (lines_from deltas z qs) lines) (sym (turn pcs k h))

    pub read-on : end_of deltas (forward deltas (get_or pcs k 0) z) (drop (k + 1) pcs) ≡ end_of deltas z (drop k pcs)
    read-on = ap (end_of deltas z) (sym (turn pcs k h))

  module _ (h : length pcs ≤ k) where
    pub written_all : (lines : List ℕ) → splice k (lines_from deltas z (drop k pcs)) lines ≡ lines
    written_all lines = ap (λ qs. splice k (lines_from deltas z qs) lines) (drop_beyond pcs k h) ∙ splice-none k lines

    pub read_all : end_of deltas z (drop k pcs) ≡ z
    read_all = ap (end_of deltas z) (drop_beyond pcs k h)

-- ## Those that rule 2 answers
module _ (n : ℕ) (z : Passed) (pcs : List ℕ) (k : ℕ) where
  -- the pc is not below n, or there is none
  pub none_numbered : k < length pcs → n ≤ get_or pcs k 0 → numbered_from n z (drop k pcs) ≡ []
  none_numbered h over = ap (numbered_from n z) (turn pcs k h) ∙ ap (λ t. cond t ((pass_to (get_or pcs k 0) z).line ∷ numbered_from n (pass_to (get_or pcs k 0) z) (drop (k + 1) pcs)) []) (le-ltb (get_or pcs k 0) n over)

  pub no_more : length pcs ≤ k → numbered_from n z (drop k pcs) ≡ []
  no_more h = ap (numbered_from n z) (drop_beyond pcs k h)

  pub one_numbered : k < length pcs → get_or pcs k 0 < n → numbered_from n z (drop k pcs) ≡ (pass_to (get_or pcs k 0) z).line ∷ numbered_from n (pass_to (get_or pcs k 0) z) (drop (k + 1) pcs)
  one_numbered h under = ap (numbered_from n z) (turn pcs k h) ∙ ap (λ t. cond t ((pass_to (get_or pcs k 0) z).line ∷ numbered_from n (pass_to (get_or pcs k 0) z) (drop (k + 1) pcs)) []) (lt-ltb (get_or pcs k 0) n under)

-- what is left to write from k on, in memory and in number
pub record Left (k : ℕ) (rest now all old : List ℕ) : Type 0 where
  pub same : length now ≡ length old
  pub writes : splice k rest now ≡ splice 0 all old
  pub size : k + length rest ≡ length all

pub at_first : (all old : List ℕ) → Left 0 all old all old
at_first all old = record { same = refl; writes = refl; size = zero-add (length all) }

module _ {k : ℕ} {rest now all old : List ℕ} (l : Left k rest now all old) where
  pub ended : rest ≡ [] → (now ≡ splice 0 all old) × (k ≡ length all)
  ended e = (sym (splice-none k now) ∙ ap (λ xs. splice k xs now) (sym e) ∙ l.writes, let size = l.size in let none : length rest ≡ 0 = ap length e in omega arith)

  pub goes_on_lem : (x : ℕ) (more : List ℕ) → rest ≡ x ∷ more → k < length now → Left (k + 1) more (set now k x) all old
  goes_on_lem x more e room = record {
    same = length-set now k x ∙ l.same;
    writes = sym (one_more k x more now room) ∙ ap (λ xs. splice k xs now) (sym e) ∙ l.writes;
    size = let size = l.size in let longer : length rest ≡ length more + 1 = ap length e ∙ sym (add-one (length more)) in omega arith;
  }
