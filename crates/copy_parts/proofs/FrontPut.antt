-- The front of a function, put: by what the calls put of each field.
--     ..-were, ..-stops   how far it came says what was read
--     ..-copied    what was put of what was read
-- Assumes nothing.
use Rattle.std.specs.Prelude.{Option, Result, Ok, Err, IfOk}
use Rattle.read_field.specs.declared.string.StringAt.{StringAt}
use Rattle.read_prototype.specs.declared.front.Front.{Front}
use mathlib.Core.Path.{◌≡◌, refl, sym, subst, ◌∙◌, ap}
use mathlib.Core.Bool.{Bool, cond}
use mathlib.Core.List.{[], ◌∷◌}
use Prim.Native.Nat.{ℕ}
use native.Mathlib.Omega.{arith}
use Rattle.format.specs.declared.refusal.Refusal.{Refusal}
use Rattle.format.specs.Form.{Bytes}
use Rattle.format.specs.Shortest.{shortest}
use Rattle.slice.specs.declared.cursor.Cursor.{Cursor}
use Rattle.read_prototype.specs.declared.front.Lines.{Lines}
use Rattle.read_prototype.specs.declared.front.Sizes.{Sizes}
use Rattle.read_prototype.specs.declared.front.Front as declared-front
use Rattle.copy_put.specs.Inner.Put.{Put}
use Rattle.copy_put.specs.Inner.Text.{There, spelt}
use Rattle.copy_entry.specs.declared.entry.Passed.{Passed}
use Rattle.copy_entry.specs.Inner.Passed.{cursor_of}
use Rattle.copy_parts.specs.Inner.Parts.{lines_bytes}
use Rattle.copy_parts.specs.Inner.Fronts.{lines_read, sizes_read, front_read, PutsLines, PutsSizes, FrontPut, PutsFront}

-- what was read, of the value and the place behind it
pub same-value : {A : Type 0} {x y : A} {c d : Cursor} → ◌≡◌ {A = Result (A × Cursor) Refusal} (Ok (x, c)) (Ok (y, d)) → x ≡ y
same-value {A} {x} {y} {c} {d} e = let both : ◌≡◌ {A = A × Cursor} (x, c) (y, d) = cc in ap (λ p. p.0) both

pub same-behind : {A : Type 0} {x y : A} {c d : Cursor} → ◌≡◌ {A = Result (A × Cursor) Refusal} (Ok (x, c)) (Ok (y, d)) → c ≡ d
same-behind {A} {x} {y} {c} {d} e = let both : ◌≡◌ {A = A × Cursor} (x, c) (y, d) = cc in ap (λ p. p.1) both

pub lines_copied : {z : Result (Lines × Cursor) Refusal} {x : Lines} {c : Cursor} {at behind : ℕ} {l l' : Bytes} → Ok (x, c) ≡ z → Put (lines_bytes x) at l behind l' → PutsLines z at l behind l'
lines_copied {x} {at} {behind} {l} {l'} is p = record { put = λ y d e. let same : x ≡ y = same-value (is ∙ e) in subst (λ x. Put (lines_bytes x) at l behind l') same p }

pub sizes_copied : {z : Result (Sizes × Cursor) Refusal} {x : Sizes} {c : Cursor} {at behind : ℕ} {l l' : Bytes} → Ok (x, c) ≡ z → Put (x.numparams ∷ x.is_vararg ∷ x.maxstacksize ∷ []) at l behind l' → PutsSizes z at l behind l'
sizes_copied {x} {at} {behind} {l} {l'} is p = record { put = λ y d e. let same : x ≡ y = same-value (is ∙ e) in subst (λ (x : Sizes). Put (x.numparams ∷ x.is_vararg ∷ x.maxstacksize ∷ []) at l behind l') same p }

front_copied : {s : Bytes} {named : Bool} {o : Result (Front × Cursor) Refusal} {t : Option StringAt} {x : Lines} {y : Sizes} {c : Cursor} {a b behind : ℕ} {l l₁ l₂ l' : Bytes}
    → Ok ((record { source = t; lines = x; sizes = y }), c) ≡ o
    → (There s t → Put (cond named (spelt s t) (shortest 0)) 0 l a l₁) → Put (lines_bytes x) a l₁ b l₂ → Put (y.numparams ∷ y.is_vararg ∷ y.maxstacksize ∷ []) b l₂ behind l'
    → PutsFront s named o l behind l'
front_copied {s} {named} {t} {x} {y} {a} {b} {behind} {l} {l₁} {l₂} {l'} is p q r = record {
  put = λ f d e.
      let same : record { source = t; lines = x; sizes = y } ≡ f = same-value (is ∙ e) in
      subst (λ f. FrontPut s named f l behind l') same (record { w₁ = a; l₁ = l₁; w₂ = b; l₂ = l₂; source = p; lines = q; sizes = r });
}

-- ## What was read
nothing_read : {c : Cursor} {q : Refusal} → ◌≡◌ {A = Result Cursor Refusal} (Ok c) (Err q) → ⊥
nothing_read e = let z : ◌≡◌ {A = ℕ} 0 1 = cc in omega arith

same_end : {c d : Cursor} → ◌≡◌ {A = Result Cursor Refusal} (Ok c) (Ok d) → c ≡ d
same_end e = cc

same-refusal : {p q : Refusal} → ◌≡◌ {A = Result Cursor Refusal} (Err p) (Err q) → p ≡ q
same-refusal e = cc

pub record LinesWere (y : Result (Lines × Cursor) Refusal) (c : Cursor) : Type 0 where
  pub value : Lines
  pub is : Ok (value, c) ≡ y

pub lines_were : (y : Result (Lines × Cursor) Refusal) (c : Cursor) → Ok c ≡ lines_read y → LinesWere y c
lines_were (Ok (x, d)) c e = record { value = x; is = ap (λ c. Ok (x, c)) (same_end e) }
lines_were (Err q) c e = absurd (nothing_read e)

pub lines_stops : (y : Result (Lines × Cursor) Refusal) (q : Refusal) → Err q ≡ lines_read y → Err q ≡ y
lines_stops (Ok (x, d)) q e = absurd (nothing_read (sym e))
lines_stops (Err p) q e = ap Err (same-refusal e)

pub record FrontWas (y : Result (Front × Cursor) Refusal) (c : Cursor) : Type 0 where
  pub value : declared-front.Front
  pub is : Ok (value, c) ≡ y

pub front_was : (y : Result (Front × Cursor) Refusal) (c : Cursor) → Ok c ≡ front_read y → FrontWas y c
front_was (Ok (x, d)) c e = record { value = x; is = ap (λ c. Ok (x, c)) (same_end e) }
front_was (Err q) c e = absurd (nothing_read e)

-- the three bytes stand last: how far they were read is how far the front was
pub front-last : (s : Bytes) (named : Bool) (l' : Bytes) {t : Option StringAt} {x : Lines} {a b : ℕ} {l l₁ l₂ : Bytes} (r : Result Passed Refusal) (y : Result (Sizes × Cursor) Refusal) (o : Result (Front × Cursor) Refusal)
    → ((q : Refusal) → Err q ≡ y → Err q ≡ o)
    → ((z : Sizes) (c : Cursor) → Ok (z, c) ≡ y → Ok ((record { source = t; lines = x; sizes = z }), c) ≡ o)
    → (There s t → Put (cond named (spelt s t) (shortest 0)) 0 l a l₁) → Put (lines_bytes x) a l₁ b l₂ → IfOk r (λ p. PutsSizes y b l₂ p.behind l') → cursor_of r ≡ sizes_read y
    → (cursor_of r ≡ front_read o) × IfOk r (λ p. PutsFront s named o l p.behind l')
front-last s named l' (Ok p) (Ok (z, c)) o stops reads u v k e = let f = reads z c refl in (e ∙ ap front_read f, front_copied f u v (k.put z c refl))
front-last s named l' (Ok p) (Err q) o stops reads u v k e = absurd (nothing_read e)
front-last s named l' (Err d) (Ok (z, c)) o stops reads u v k e = absurd (nothing_read (sym e))
front-last s named l' (Err d) (Err q) o stops reads u v k e = (e ∙ ap front_read (stops q refl), tt)
