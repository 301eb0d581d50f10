-- The test of two sources, and what a full copy writes of a function's (specs/FullCopy.antt).
--     same_source_lem, same_kept   it holds exactly where the two are the same, places aside
--     alike_sources            it does not go by places
--     absent_exactly           02's sentence: a nested source is absent exactly where its bytes are the parent's, or both are missing
--     inherited                a source that is spelt as absent reads as the parent's, and is absent
--     main-source              main's is written as it is
-- Assumes nothing.
use mathlib.Core.Path.{◌≡◌, refl, sym, ◌∙◌, ap}
use mathlib.Core.Logic.{◌↔◌}
use mathlib.Core.Bool.{Bool, true, false, true≢false, cond}
use mathlib.Core.Option.{Option, none, some, map}
use Prim.Native.Nat.{ℕ}
use native.Mathlib.Omega.{arith}
use lib.Dec.{T}
use Rattle.format.specs.GrammarFields.{LuaString}
use Rattle.format.specs.ReadHeader.{same_bytes}
use Rattle.format.specs.Copy.{kept_string}
use Rattle.format.specs.FullCopy.{equal_sources, nested_source}
use Rattle.format.proofs.ExactHeader.{same_eq, same_refl}

true_T : (b : Bool) → b ≡ true → T b
true_T true e = tt
true_T false e = absurd (true≢false (sym e))

T_true : (b : Bool) → T b → b ≡ true
T_true true t = refl
T_true false t = elim t [ ]

pub same_source_lem : (t u : Option LuaString) → equal_sources t u ≡ true → map kept_string t ≡ map kept_string u
same_source_lem none none e = refl
same_source_lem none (some u) e = absurd (true≢false (sym e))
same_source_lem (some t) none e = absurd (true≢false (sym e))
same_source_lem (some t) (some u) e = ap (λ b. some (record { place = 0; bytes = b })) (same_eq t.bytes u.bytes (true_T _ e))

pub same_kept : (t u : Option LuaString) → map kept_string t ≡ map kept_string u → equal_sources t u ≡ true
same_kept none none e = refl
same_kept none (some u) e = absurd (let z : ◌≡◌ {A = ℕ} 0 1 = cc in omega arith)
same_kept (some t) none e = absurd (let z : ◌≡◌ {A = ℕ} 0 1 = cc in omega arith)
same_kept (some t) (some u) e =
    let kept : kept_string t ≡ kept_string u = cc in
    ap (λ (x : LuaString). same_bytes x.bytes u.bytes) kept ∙ T_true _ (same_refl u.bytes)

pub alike_sources : (t t' u u' : Option LuaString) → map kept_string t ≡ map kept_string t' → map kept_string u ≡ map kept_string u' → equal_sources t u ≡ equal_sources t' u'
alike_sources t t' u u' e f = by (equal_sources t u) (equal_sources t' u') refl refl
  where
    by : (b b' : Bool) → equal_sources t u ≡ b → equal_sources t' u' ≡ b' → b ≡ b'
    by true b' h k = sym (sym k ∙ same_kept t' u' (sym e ∙ same_source_lem t u h ∙ f))
    by false true h k = sym h ∙ same_kept t u (e ∙ same_source_lem t' u' k ∙ sym f)
    by false false h k = refl

-- what is read as missing has a parent that misses one too: an absent source reads as the parent's (`inherit`)
pub absent_exactly : (parent own : Option LuaString) → (own ≡ none → parent ≡ none) → nested_source parent own ≡ none ↔ map kept_string own ≡ map kept_string parent
absent_exactly parent own h = (from (equal_sources own parent) refl, λ e. ap (λ b. cond b none own) (same_kept own parent e))
  where
    from : (b : Bool) → equal_sources own parent ≡ b → cond b none own ≡ none → map kept_string own ≡ map kept_string parent
    from true e f = same_source_lem own parent e
    from false e f = rw (f, h f)

pub inherited : (t : Option LuaString) → equal_sources t t ≡ true
inherited t = same_kept t t refl

pub main-source : (own : Option LuaString) → nested_source none own ≡ own
main-source none = refl
main-source (some t) = refl
