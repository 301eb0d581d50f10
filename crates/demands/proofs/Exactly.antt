-- The two refusals that every call tests first, exactly; and what tells a refusal's and a warning's report.
--     twenty_one           a call begins with 21 exactly where `within_ceilings` says no: a limit is above its ceiling
--     twenty_two           with 22 exactly where it says yes and the file is longer than the input limit
--     warned_apart         code and place of a warning tell it (`report_warning`; of a refusal number and place do, `report_refusal`: crates/format/proofs/RefusalNumbers.antt). A warning is no refusal: what is warned of is read
-- Assumes nothing.
use mathlib.Core.Path.{◌≡◌, refl, sym, ◌∙◌, ap}
use mathlib.Core.Bool.{Bool, true, false, cond}
use mathlib.Core.Logic.{◌↔◌}
use mathlib.Core.Option.{some}
use Prim.Native.Nat.{ℕ, ◌≤◌}
use native.Mathlib.Omega.{arith}
use lib.Dec.{leb}
use lib.ListN.{length}
use Rattle.format.specs.declared.limits.ResourceLimits.{ResourceLimits}
use Rattle.format.specs.declared.refusal.Refusal.{Refusal}
use Rattle.format.specs.declared.refusal.Refusal.TheVariants as refusals
use Rattle.format.specs.declared.refusal.Report.{Report}
use Rattle.format.specs.declared.header.Warning.{Warning}
use Rattle.format.specs.declared.header.Warning.TheVariants.{NonStandardFormat, TrailingBytes}
use Rattle.format.specs.declared.header.WarningCode.{WarningCode}
use Rattle.format.specs.declared.header.WarningCode.TheVariants.{L54Header003, L54Chunk001}
use Rattle.format.specs.declared.header.WarningReport.{WarningReport}
use Rattle.format.specs.Warnings.{warned}
use Rattle.format.specs.Refusals.{bare, reported}
use Rattle.format.specs.Form.{Bytes}
use Rattle.format.specs.Limits.{within_ceilings}
use Rattle.format.specs.GrammarChunk.{Loaded}
use Rattle.format.specs.Read.{Read, ok, refused}
use Rattle.format.specs.ReadChunk.{Outcome, refusal, outcome, main, read}
use Rattle.format.proofs.OrderCases.{refused_with}
use Rattle.demands.proofs.Order.{in_byte_order}

number_of : {r t : Report} → some r ≡ some t → r.number ≡ t.number
number_of e = let same = e in cc

-- the tests, and what a reader gives behind them, which is neither 21 nor 22
module _ (L : ResourceLimits) (m : Read Loaded) (neither : (q : Refusal) → m ≡ refused q → ((reported q).number ≡ 21 → ⊥) × ((reported q).number ≡ 22 → ⊥)) where
  by_reader_lem : (n : ℕ) → ((q : Refusal) → m ≡ refused q → (reported q).number ≡ n → ⊥) → refused_with (outcome L m) ≡ some (bare n) → ⊥
  by_reader_lem n not e = go m refl e
    where
      go : (o : Read Loaded) → m ≡ o → refused_with (outcome L o) ≡ some (bare n) → ⊥
      go (ok x to rest) is e = let z : ◌≡◌ {A = ℕ} 0 1 = cc in omega arith
      go (refused q) is e = not q is (number_of e)

  abbrev tests : Bool → Bool → Outcome
  tests within short = cond within (cond short (outcome L m) (refusal refusals.InputBytes)) (refusal refusals.LimitAboveCeiling)

  pub first_test : (within short : Bool) → (refused_with (tests within short) ≡ some (bare 21)) ↔ (within ≡ false)
  first_test true true = (λ e. absurd (by_reader_lem 21 (λ q is. (neither q is).0) e), λ k. absurd (let z : ◌≡◌ {A = ℕ} 0 1 = cc in omega arith))
  first_test true false = (λ e. absurd (let z : ◌≡◌ {A = ℕ} 22 21 = number_of e in omega arith), λ k. absurd (let z : ◌≡◌ {A = ℕ} 0 1 = cc in omega arith))
  first_test false short = (λ e. refl, λ k. refl)

  pub second_test : (within short : Bool) → (refused_with (tests within short) ≡ some (bare 22)) ↔ ((within ≡ true) × (short ≡ false))
  second_test true true = (λ e. absurd (by_reader_lem 22 (λ q is. (neither q is).1) e), λ k. absurd (let l = k.1 in let z : ◌≡◌ {A = ℕ} 0 1 = cc in omega arith))
  second_test true false = (λ e. (refl, refl), λ k. refl)
  second_test false short = (λ e. absurd (let z : ◌≡◌ {A = ℕ} 21 22 = number_of e in omega arith), λ k. absurd (let l = k.0 in let z : ◌≡◌ {A = ℕ} 0 1 = cc in omega arith))

module _ (L : ResourceLimits) (s : Bytes) where
  -- the reader refuses by 1 to 20 alone
  neither : (q : Refusal) → main L 0 s ≡ refused q → ((reported q).number ≡ 21 → ⊥) × ((reported q).number ≡ 22 → ⊥)
  neither q is = let few : (reported q).number ≤ 20 = (in_byte_order L s q is).by_file.to in (λ e. omega arith, λ e. omega arith)

  pub twenty_one : (refused_with (read L s) ≡ some (bare 21)) ↔ (within_ceilings L ≡ false)
  unfolding read
  twenty_one = first_test L (main L 0 s) neither (within_ceilings L) (leb (length s) L.max_input_bytes)

  pub twenty_two : (refused_with (read L s) ≡ some (bare 22)) ↔ ((within_ceilings L ≡ true) × (leb (length s) L.max_input_bytes ≡ false))
  unfolding read
  twenty_two = second_test L (main L 0 s) neither (within_ceilings L) (leb (length s) L.max_input_bytes)

-- ## Warnings
abbrev warning_of : WarningCode → ℕ → Warning
warning_of L54Header003 place = NonStandardFormat place
warning_of L54Chunk001 place = TrailingBytes place

pub warned_apart : (v w : Warning) → warned v ≡ warned w → v ≡ w
warned_apart v w e = sym (back v) ∙ ap (λ (x : WarningReport). warning_of x.code x.place) e ∙ back w
  where
    back : (w : Warning) → warning_of (warned w).code (warned w).place ≡ w
    back (NonStandardFormat place) = refl
    back (TrailingBytes place) = refl
