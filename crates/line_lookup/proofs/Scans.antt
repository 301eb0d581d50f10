-- What the pass over the anchors gives of the base and of the lines.
--     scanned_base     the base is that of rule 3
--     scanned_sought   the line of the anchor whose number is the pc
--     scanned-large    a line is too large exactly where refusal 25 says so
--     scanned-small    else the base and the reset are below 2^62
-- Assumes nothing.
use mathlib.Core.Path.{◌≡◌, refl, sym, ◌∙◌, ap}
use mathlib.Core.Bool.{Bool, true, false, cond, ◌||◌, or-false}
use mathlib.Core.List.{List, [], ◌∷◌}
use mathlib.Core.Option.{Option, none, some, map}
use Prim.Native.Nat.{ℕ, zero, suc, ◌-◌, ◌^◌, ◌≤◌}
use native.Mathlib.Omega.{arith}
use borrow.Author.Tests.{leb-false, ne_eqb}
use lib.Dec.{eqb, leb, ltb}
use lib.ListN.{get_or, get_elem?}
use Rattle.format.specs.declared.entry.AbsLineInfo.{AbsLineInfo}
use Rattle.format.specs.Form.{Bytes}
use Rattle.line_anchors.specs.declared.Scan.{Scan}
use Rattle.line_anchors.specs.declared.Sought.{Sought}
use Rattle.line_anchors.specs.declared.Sought.TheVariants.{Ahead, At}
use Rattle.line_lookup.specs.Lines.{base_of, large}
use Rattle.line_anchors.specs.Inner.Scan.{or_large, still_taking, seek_by, passed, scanned, start_of}
use Rattle.line_lookup.specs.Inner.Scan.{start_in}
use Rattle.line_anchors.proofs.Tests.{other}

abbrev pub line_sought : Sought → Option ℕ
line_sought (At l) = some l
line_sought (Ahead n) = none

-- what holds of both holds of the one picked
pub pick_both : {A : Type 0} (P : A → Type 0) (t : Bool) {a b : A} → P a → P b → P (cond t a b)
pick_both P true p q = p
pick_both P false p q = q

module _ (ds : Bytes) (pc : ℕ) where
  -- ## The base
  base_kept : (z : Scan) (anchors : List AbsLineInfo) → z.taking ≡ false → (scanned ds pc z anchors).base ≡ z.base
  base_kept z [] e = refl
  base_kept z (a ∷ more) e =
      base_kept (passed ds pc z a) more (ap (λ b. still_taking b pc a) e) ∙ ap (λ b. cond (still_taking b pc a) a z.base) e

  base_taken : (z : Scan) (anchors : List AbsLineInfo) → z.taking ≡ true → (scanned ds pc z anchors).base ≡ base_of pc z.base anchors
  base_taken z [] e = refl
  base_taken z (a ∷ more) e = by (leb a.pc pc) (ap (λ b. still_taking b pc a) e) (base_taken (passed ds pc z a) more)
    where
      by : (t : Bool) → still_taking z.taking pc a ≡ t → (still_taking z.taking pc a ≡ true → (scanned ds pc (passed ds pc z a) more).base ≡ base_of pc (passed ds pc z a).base more)
          → (scanned ds pc (passed ds pc z a) more).base ≡ cond t (base_of pc a more) z.base
      by true e go = go e ∙ ap (λ b. base_of pc (cond b a z.base) more) e
      by false e go = base_kept (passed ds pc z a) more e ∙ ap (λ b. cond b a z.base) e

  pub scanned_base : (line : ℕ) (anchors : List AbsLineInfo) → (scanned ds pc (start_of pc line) anchors).base ≡ base_of pc (record { pc = 0; line = line }) anchors
  scanned_base line anchors = base_taken (start_of pc line) anchors refl

  -- ## The anchor by its number
  at_stays : (z : Scan) (anchors : List AbsLineInfo) {l : ℕ} → z.sought ≡ At l → (scanned ds pc z anchors).sought ≡ At l
  at_stays z [] e = e
  at_stays z (a ∷ more) e = at_stays (passed ds pc z a) more (ap (λ x. seek_by x a.line) e)

  ahead : (n : ℕ) (z : Scan) (anchors : List AbsLineInfo) → z.sought ≡ Ahead n → line_sought (scanned ds pc z anchors).sought ≡ map (λ (a : AbsLineInfo). a.line) (get_elem? anchors n)
  ahead n z [] e = ap line_sought e
  ahead zero z (a ∷ more) e = ap line_sought (at_stays (passed ds pc z a) more (ap (λ x. seek_by x a.line) e))
  ahead (suc n) z (a ∷ more) e =
      let one : suc n - 1 ≡ n = omega arith in
      ahead n (passed ds pc z a) more (ap (λ x. seek_by x a.line) e ∙ sym (other (At a.line) (Ahead (suc n - 1)) (ne_eqb (suc n) 0 (λ p. omega arith))) ∙ ap Ahead one)

  pub scanned_sought : (line : ℕ) (anchors : List AbsLineInfo) → line_sought (scanned ds pc (start_of pc line) anchors).sought ≡ map (λ (a : AbsLineInfo). a.line) (get_elem? anchors pc)
  scanned_sought line anchors = ahead pc (start_of pc line) anchors refl

  -- ## Large lines
  large_stays : (z : Scan) (anchors : List AbsLineInfo) → z.large ≡ true → (scanned ds pc z anchors).large ≡ true
  large_stays z [] e = e
  large_stays z (a ∷ more) e = large_stays (passed ds pc z a) more (ap (λ b. or_large b a.line) e)

  large-from : (line : ℕ) (z : Scan) (anchors : List AbsLineInfo) → z.large ≡ leb (2 ^ 62) line → (scanned ds pc z anchors).large ≡ large line anchors
  large-from line z [] e = e ∙ sym (or-false (leb (2 ^ 62) line))
  large-from line z (a ∷ more) e = by (leb (2 ^ 62) line) e (large-from a.line (passed ds pc z a) more)
    where
      by : (t : Bool) → z.large ≡ t → (or_large z.large a.line ≡ leb (2 ^ 62) a.line → (scanned ds pc (passed ds pc z a) more).large ≡ large a.line more)
          → (scanned ds pc (passed ds pc z a) more).large ≡ (t || large a.line more)
      by true e go = large_stays (passed ds pc z a) more (ap (λ b. or_large b a.line) e)
      by false e go = go (ap (λ b. or_large b a.line) e)

  pub scanned-large : (line : ℕ) (anchors : List AbsLineInfo) → (scanned ds pc (start_of pc line) anchors).large ≡ large line anchors
  scanned-large line anchors = large-from line (start_of pc line) anchors refl

  -- ## Small lines
  abbrev Small : AbsLineInfo → Type 0
  Small a = a.line ≤ 2 ^ 62

  abbrev AllSmall : Scan → Type 0
  AllSmall z = z.large ≡ false → Small z.base × Small z.reset

  small_step : (z : Scan) (a : AbsLineInfo) → AllSmall z → AllSmall (passed ds pc z a)
  small_step z a h e = by z.large refl e
    where
      by : (t : Bool) → z.large ≡ t → or_large t a.line ≡ false → Small (passed ds pc z a).base × Small (passed ds pc z a).reset
      by true is e = absurd (let z : ◌≡◌ {A = ℕ} 0 1 = cc in omega arith)
      by false is e =
          let less = leb-false (2 ^ 62) a.line e in
          let this : Small a = omega arith in
          let old = h is in (
            pick_both Small (still_taking z.taking pc a) this old.0,
            pick_both Small (eqb (get_or ds a.pc 0) 128) (pick_both Small (ltb a.pc z.reset.pc) old.1 this) old.1,
          )

  small_all : (z : Scan) (anchors : List AbsLineInfo) → AllSmall z → AllSmall (scanned ds pc z anchors)
  small_all z [] h = h
  small_all z (a ∷ more) h = small_all (passed ds pc z a) more (small_step z a h)

  pub scanned-small : (line : ℕ) (anchors : List AbsLineInfo) → (scanned ds pc (start_of pc line) anchors).large ≡ false → (start_in (scanned ds pc (start_of pc line) anchors)).line ≤ 2 ^ 62
  scanned-small line anchors e =
      let both = small_all (start_of pc line) anchors (λ h. let less = leb-false (2 ^ 62) line h in (omega arith, omega arith)) e in
      pick_both Small (ltb (scanned ds pc (start_of pc line) anchors).base.pc (scanned ds pc (start_of pc line) anchors).reset.pc) both.1 both.0
