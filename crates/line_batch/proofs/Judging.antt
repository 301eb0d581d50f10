-- The judge, part by part.
--     seen_large       a line is too large
--     seen_rises       the anchors' pcs rise
--     falls-..         the pcs, one turn at a time
--     stop-.., go      what is decided, by the tests
-- Assumes nothing.
use mathlib.Core.Path.{◌≡◌, refl, sym, ◌∙◌, ap}
use mathlib.Core.Bool.{Bool, true, false, ◌&&◌, ◌||◌, cond, or-false, and-true}
use mathlib.Core.List.{List, [], ◌∷◌, map}
use Prim.Native.Nat.{ℕ, ◌+◌, ◌^◌, ◌≤◌, ◌<◌}
use native.Mathlib.Numerals.{add-one}
use native.Mathlib.Omega.{arith}
use borrow.Author.Tests.{le-leb, lt-leb}
use lib.Dec.{leb, ltb}
use lib.ListN.{length, drop, get_or}
use lib.Seq.{drop-cons}
use Rattle.format.specs.Any.{any}
use Rattle.format.specs.declared.entry.AbsLineInfo.{AbsLineInfo}
use Rattle.format.specs.declared.refusal.Refusal.TheVariants.{LineTooLarge, LentSpace, AnchorOrder, PcOrder}
use Rattle.line_anchors.specs.Inner.Scan.{or_large}
use Rattle.line_anchors.proofs.Tests.{drop_beyond}
use Rattle.line_lookup.specs.Lines.{large}
use Rattle.line_batch.specs.declared.judge.Seen.{Seen}
use Rattle.std.specs.Prelude.{Ok, Err}
use Rattle.line_batch.specs.Batch.{ordered_from, below, rises, never_falls, refusal_of}
use Rattle.line_batch.specs.Inner.Judged.{see_by, seen_of, start_seen, judged_by}

-- ## The anchors
large-from : (z : Seen) (anchors : List AbsLineInfo) → (seen_of z anchors).large ≡ (z.large || any (leb (2 ^ 62)) (map (λ (a : AbsLineInfo). a.line) anchors))
large-from z [] = sym (or-false z.large)
large-from z (a ∷ more) = large-from (see_by z a) more ∙ by z.large (any (leb (2 ^ 62)) (map (λ (a : AbsLineInfo). a.line) more))
  where
    by : (b later : Bool) → (or_large b a.line || later) ≡ (b || (leb (2 ^ 62) a.line || later))
    by true later = refl
    by false later = refl

pub seen_large : (line : ℕ) (anchors : List AbsLineInfo) → (seen_of (start_seen line) anchors).large ≡ large line anchors
seen_large line anchors = large-from (start_seen line) anchors

-- behind the anchor b
rising_from : (z : Seen) (b : AbsLineInfo) → z.any ≡ true → z.last ≡ b.pc → (anchors : List AbsLineInfo) → (seen_of z anchors).rising ≡ (z.rising && ordered_from below b anchors)
rising_from z b one last [] = sym (and-true z.rising)
rising_from z b one last (a ∷ more) = rising_from (see_by z a) a refl refl more ∙ by z.rising
  where
    by : (r : Bool) → (cond r (cond z.any (ltb z.last a.pc) true) false && ordered_from below a more) ≡ (r && (ltb b.pc a.pc && ordered_from below a more))
    by true = rw (one, last)
    by false = refl

pub seen_rises : (line : ℕ) (anchors : List AbsLineInfo) → (seen_of (start_seen line) anchors).rising ≡ rises anchors
seen_rises line [] = refl
seen_rises line (a ∷ more) = rising_from (see_by (start_seen line) a) a refl refl more

-- ## The pcs
pub falls_first : (pcs : List ℕ) → never_falls pcs ≡ ordered_from leb 0 pcs
falls_first [] = refl
falls_first (pc ∷ pcs) = sym (ap (λ t. t && ordered_from leb pc pcs) (le-leb 0 pc (omega arith)))

module _ (pcs : List ℕ) (last k : ℕ) (inv : never_falls pcs ≡ ordered_from leb last (drop k pcs)) where
  module _ (h : k < length pcs) where
    turn : never_falls pcs ≡ (leb last (get_or pcs k 0) && ordered_from leb (get_or pcs k 0) (drop (k + 1) pcs))
    turn = inv ∙ rw (add-one, drop-cons pcs k 0 h)

    pub falls_here : get_or pcs k 0 < last → false ≡ never_falls pcs
    falls_here less = sym (turn ∙ ap (λ t. t && ordered_from leb (get_or pcs k 0) (drop (k + 1) pcs)) (lt-leb last (get_or pcs k 0) less))

    pub falls_later : last ≤ get_or pcs k 0 → never_falls pcs ≡ ordered_from leb (get_or pcs k 0) (drop (k + 1) pcs)
    falls_later more = turn ∙ ap (λ t. t && ordered_from leb (get_or pcs k 0) (drop (k + 1) pcs)) (le-leb last (get_or pcs k 0) more)

  pub falls_nowhere : length pcs ≤ k → true ≡ never_falls pcs
  falls_nowhere over = sym (inv ∙ ap (ordered_from leb last) (drop_beyond pcs k over))

-- ## What is decided
module _ (line : ℕ) (anchors : List AbsLineInfo) (space : ℕ) (pcs : List ℕ) where
  pub stop_large : large line anchors ≡ true → Err LineTooLarge ≡ judged_by (refusal_of line anchors space pcs)
  stop_large e = rw e

  module _ (small : large line anchors ≡ false) where
    pub stop_anchors : rises anchors ≡ false → Err AnchorOrder ≡ judged_by (refusal_of line anchors space pcs)
    stop_anchors e = rw (small, e)

    module _ (up : rises anchors ≡ true) where
      pub stop_pcs : never_falls pcs ≡ false → Err PcOrder ≡ judged_by (refusal_of line anchors space pcs)
      stop_pcs e = rw (small, up, e)

      module _ (on : never_falls pcs ≡ true) where
        pub stop_space : space < length pcs → Err LentSpace ≡ judged_by (refusal_of line anchors space pcs)
        stop_space h = rw (small, up, on, lt-leb (length pcs) space h)

        pub go : length pcs ≤ space → Ok tt ≡ judged_by (refusal_of line anchors space pcs)
        go h = rw (small, up, on, le-leb (length pcs) space h)
