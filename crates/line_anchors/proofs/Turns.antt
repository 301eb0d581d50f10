-- The pass over the anchors, one turn at a time: what it gives from the start on it gives from each turn on.
-- Assumes nothing.
use Rattle.std.specs.Prelude.{Result, Ok}
use mathlib.Core.Path.{◌≡◌, refl, sym, ◌∙◌, ap}
use mathlib.Core.List.{List, ◌∷◌}
use Prim.Native.Nat.{ℕ, suc, ◌≤◌}
use native.Mathlib.Omega.{arith}
use lib.ListN.{drop}
use Rattle.format.specs.declared.entry.AbsLineInfo.{AbsLineInfo}
use Rattle.format.specs.declared.refusal.Refusal.{Refusal}
use Rattle.format.specs.Form.{Bytes}
use Rattle.format.specs.Read.{Read, ok, refused, next, ◌>>=◌, give, many}
use Rattle.format.specs.ReadChunk.{anchor}
use Rattle.format.proofs.ExactChunk.{exact_anchor}
use Rattle.read_field.proofs.Shows.{Was, onward}
use Rattle.line_anchors.specs.declared.Scan.{Scan}
use Rattle.line_anchors.specs.Inner.Scan.{passed, scan_result}

-- what is given of a scan and the anchors left, from a place on
abbrev pub scan_from : Bytes → ℕ → Bytes → Scan → ℕ → ℕ → Result Scan Refusal
scan_from ds pc s z left at = scan_result ds pc z (many left anchor at (drop at s))

one-passed : (ds : Bytes) (pc : ℕ) (z : Scan) (a : AbsLineInfo) (o : Read (List AbsLineInfo)) → scan_result ds pc z (next o (λ xs. give (a ∷ xs))) ≡ scan_result ds pc (passed ds pc z a) o
one-passed ds pc z a (ok xs to rest) = refl
one-passed ds pc z a (refused q) = refl

-- all are left
pub begins : (ds : Bytes) (pc : ℕ) (s : Bytes) (z : Scan) (n at : ℕ) {left : ℕ} → left ≡ n → scan_from ds pc s z n at ≡ scan_from ds pc s z left at
begins ds pc s z n at all = ap (λ n. scan_from ds pc s z n at) (sym all)

module _ (ds : Bytes) (pc : ℕ) (s : Bytes) (z : Scan) (left at : ℕ) {whole : Result Scan Refusal} (inv : whole ≡ scan_from ds pc s z left at) where
  -- none is left
  pub ends : left ≤ 0 → Ok z ≡ whole
  ends h = let e : left ≡ 0 = omega arith in sym (inv ∙ ap (λ n. scan_from ds pc s z n at) e)

  -- an anchor is read
  pub goes_on_lem : {fewer : ℕ} → left ≡ suc fewer → {a : AbsLineInfo} {to : ℕ} → Was (anchor at (drop at s)) a to → {y : Scan} → y ≡ passed ds pc z a → whole ≡ scan_from ds pc s y fewer to
  goes_on_lem {fewer} one {a} {to} w is =
      inv
      ∙ ap (λ n. scan_from ds pc s z n at) one
      ∙ ap (λ o. scan_result ds pc z (next o (λ a. many fewer anchor >>= λ xs. give (a ∷ xs)))) (onward exact_anchor s at w)
      ∙ one-passed ds pc z a (many fewer anchor to (drop to s))
      ∙ ap (λ y. scan_from ds pc s y fewer to) (sym is)
