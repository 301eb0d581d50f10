-- An enum whose variants hold nothing.
--     of_every     what a test that antt computes finds of each variant holds of every value: no proof goes through the variants one by one
--     same         two values of one tag are one value
-- Assumes nothing.
use mathlib.Core.Path.{◌≡◌, refl, subst, ap}
use mathlib.Core.Bool.{Bool, true, false, ◌&&◌}
use mathlib.Core.List.{List, [], ◌∷◌}
use mathlib.Core.Logic.{inl, inr}
use native.Mathlib.Omega.{arith}
use lib.Dec.{T, eqb, eqb→eq}
use denote.Struct.Field.{Field}
use denote.Enum.Enum.{tag}
use denote.Enum.Declared.{Record, Choice, rowss, intoss, declared, tag_of, values_one}
use Rattle.word_opcodes.proofs.Tests.{both-parts}

-- the test f passes at each variant, and none holds anything
abbrev pub variants : (Fss : List (List Field)) → (Choice Fss → Bool) → Bool
variants [] f = true
variants ([] ∷ Fss) f = f (inl tt) && variants Fss (λ c. f (inr c))
variants ((F ∷ Fs) ∷ Fss) f = false

passed : (Fss : List (List Field)) (f : Choice Fss → Bool) → T (variants Fss f) → (c : Choice Fss) → T (f c)
passed [] f t c = absurd c
passed ([] ∷ Fss) f t (inl u) = (both-parts (f (inl tt)) (variants Fss (λ c. f (inr c))) t).0
passed ([] ∷ Fss) f t (inr c) = passed Fss (λ c. f (inr c)) (both-parts (f (inl tt)) (variants Fss (λ c. f (inr c))) t).1 c
passed ((F ∷ Fs) ∷ Fss) f t c = absurd t

one_tag : (Fss : List (List Field)) → T (variants Fss (λ c. true)) → (c e : Choice Fss)
    → tag (rowss Fss) (intoss Fss c) ≡ tag (rowss Fss) (intoss Fss e) → c ≡ e
one_tag [] t c e p = absurd c
one_tag ([] ∷ Fss) t (inl u) (inl v) p = refl
one_tag ([] ∷ Fss) t (inl u) (inr e) p = absurd (omega arith)
one_tag ([] ∷ Fss) t (inr c) (inl v) p = absurd (omega arith)
one_tag ([] ∷ Fss) t (inr c) (inr e) p =
    let fewer : tag (rowss Fss) (intoss Fss c) ≡ tag (rowss Fss) (intoss Fss e) = omega arith in
    ap inr (one_tag Fss t c e fewer)
one_tag ((F ∷ Fs) ∷ Fss) t c e p = absurd t

module _ (N : Record) where
  pub of_every : (f : N.D → Bool) → T (variants N.parts (λ c. f (N.make c))) → (d : N.D) → T (f d)
  of_every f t d = subst (λ (x : N.D). T (f x)) (N.eta d) (passed N.parts (λ c. f (N.make c)) t (N.as_values d))

  pub same : T (variants N.parts (λ c. true)) → (x y : N.D) → T (eqb (tag_of (declared N) x) (tag_of (declared N) y)) → x ≡ y
  same t x y e = values_one N x y (one_tag N.parts t (N.as_values x) (N.as_values y) (eqb→eq _ _ e))
