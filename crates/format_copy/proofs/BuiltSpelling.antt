-- How what is put together of its parts (crates/format/proofs/Build.antt) is spelt.
--     carried      a count at another place, by an equation of places
--     skip_tally   a first part without bytes adds nothing
-- Assumes nothing.
use mathlib.Core.Path.{◌≡◌, sym, ◌∙◌, ap, subst, subst_refl, path_j}
use mathlib.Core.List.{[]}
use Prim.Native.Nat.{ℕ}
use native.Mathlib.Nat.{add-zero}
use Rattle.format.specs.Form.{Bytes, Form}
use Rattle.format.specs.declared.spelling.Spelling.{Spelling}
use Rattle.format_spelling.specs.Spelling.{Tally, none, both}
use Rattle.format.proofs.Build.{skip}
use Rattle.format_spelling.proofs.Sums.{same_join}

pub carried : {I : Type 0} {P : I → Type 0} (q : (k : I) → P k → Spelling) {a b : I} (e : a ≡ b) (g : P a) → q b (subst P e g) ≡ q a g
carried {I} {P} q {a} e g = path_j (λ b e. q b (subst P e g) ≡ q a g) (ap (q a) (subst_refl P g)) e

module _ {A B : Type 0} (F : Form A) {G : A → Form B} {at : ℕ} where
  pub skip_tally : (q : (x : A) → Tally (G x)) {bytes : Bytes} (x : A) {y : B} (f : F at [] x) (g : G x at bytes y) → (both (none {F = F}) q).of at bytes y (skip {G = G} x f g) ≡ (q x).of at bytes y g
  unfolding skip both none
  skip_tally q {bytes} x {y} f g = same_join _ ∙ carried {P = λ k. G x k bytes y} (λ k d. (q x).of k bytes y d) (sym (add-zero at)) g
