-- From what a call showed back to what the reader of `format` gave: a refusal, or a value with the rest of the slice from the next cursor on.
--     .._ok        of an answer `Ok`: the reader accepted, with the value, and left the slice from the cursor on
--     .._err       of an answer `Err`: the reader refused so
-- Assumes nothing.
use mathlib.Core.Path.{◌≡◌, refl, sym, ◌∙◌, ap}
use mathlib.Core.Bool.{Bool}
use mathlib.Core.Option.{Option}
use Rattle.std.specs.Prelude.{Result, Ok, Err}
use Rattle.std.specs.Prelude as prelude
use Rattle.read_field.specs.declared.string.StringAt.{StringAt}
use Prim.Native.Nat.{ℕ}
use native.Mathlib.Omega.{arith}
use lib.ListN.{drop}
use Rattle.format.specs.declared.refusal.Refusal.{Refusal}
use Rattle.format.specs.Form.{Bytes, Form}
use Rattle.format.specs.GrammarFields.{LuaString}
use Rattle.format.specs.Read.{Read, ok, refused, Reader, next, ◌>>◌}
use Rattle.format.proofs.Exact.{Exact}
use Rattle.format.proofs.Left.{left}
use Rattle.slice.specs.declared.cursor.Cursor.{Cursor}
use Rattle.slice.specs.Shown.{cursor_at}
use Rattle.slice.specs.Inner.Results.{cursor_result, and_then}
use Rattle.read_field.specs.Shown.{shown, shown_as, number_result, option_string, string_result}

-- what a reader gave, with the rest left open
pub record Was {A : Type 0} (o : Read A) (x : A) (to : ℕ) : Type 0 where
  pub rest : Bytes
  pub is : o ≡ ok x to rest

-- and of the value only what is shown of it
pub record Showed {A B : Type 0} (of : A → B) (o : Read A) (shown : B) (to : ℕ) : Type 0 where
  pub value : A
  pub was : Was o value to
  pub shows : shown ≡ of value

-- the rest is the slice from the next place on
pub onward : {A : Type 0} {r : Reader A} {F : Form A} → Exact r F → (s : Bytes) (at : ℕ) {x : A} {to : ℕ} → Was (r at (drop at s)) x to → r at (drop at s) ≡ ok x to (drop to s)
onward exact s at {x} {to} w = w.is ∙ ap (λ rest. ok x to rest) (left exact s at w.is)

-- ## Each kind of answer
pub shown_err : {A : Type 0} (o : Read A) (q : Refusal) → Err q ≡ shown o → o ≡ refused q
shown_err (ok v to rest) q e = absurd (let z : ◌≡◌ {A = ℕ} 0 1 = cc in omega arith)
shown_err (refused p) q e = cc

pub shown_ok : {A : Type 0} (o : Read A) (v : A) (c : Cursor) → Ok (v, c) ≡ shown o → Was o v c.at
shown_ok {A} (ok w to rest) v c e =
    let both : ◌≡◌ {A = A × Cursor} (v, c) (w, cursor_at to) = cc in
    record { rest = rest; is = rw (ap (λ p. p.0) both, ap (λ p. p.1) both) }
shown_ok {A} (refused p) v c e = absurd (let z : ◌≡◌ {A = ℕ} 0 1 = cc in omega arith)

-- of a number, whether it is padded too
pub number_err : (padded : Bool) (o : Read ℕ) (q : Refusal) → Err q ≡ number_result padded o → o ≡ refused q
number_err padded (ok v to rest) q e = absurd (let z : ◌≡◌ {A = ℕ} 0 1 = cc in omega arith)
number_err padded (refused p) q e = cc

pub number_ok : (padded : Bool) (o : Read ℕ) (v : ℕ) (c : Cursor) (p : Bool) → Ok (v, c, p) ≡ number_result padded o → Was o v c.at × (p ≡ padded)
number_ok padded (ok w to rest) v c p e =
    let all : ◌≡◌ {A = ℕ × Cursor × Bool} (v, c, p) (w, cursor_at to, padded) = cc in
    (record { rest = rest; is = rw (ap (λ q. q.0) all, ap (λ q. q.1) all) }, ap (λ q. q.2) all)
number_ok padded (refused q) v c p e = absurd (let z : ◌≡◌ {A = ℕ} 0 1 = cc in omega arith)

pub shown_as_err : {A B : Type 0} (of : A → B) (o : Read A) (q : Refusal) → Err q ≡ shown_as of o → o ≡ refused q
shown_as_err of (ok t to rest) q e = absurd (let z : ◌≡◌ {A = ℕ} 0 1 = cc in omega arith)
shown_as_err of (refused p) q e = cc

pub shown_as_ok : {A B : Type 0} (of : A → B) (o : Read A) (v : B) (c : Cursor) → Ok (v, c) ≡ shown_as of o → Showed of o v c.at
shown_as_ok {B} of (ok t to rest) v c e =
    let both : ◌≡◌ {A = B × Cursor} (v, c) (of t, cursor_at to) = cc in
    record { value = t; was = record { rest = rest; is = rw (ap (λ p. p.1) both) }; shows = ap (λ p. p.0) both }
shown_as_ok {B} of (refused p) v c e = absurd (let z : ◌≡◌ {A = ℕ} 0 1 = cc in omega arith)

pub string_err : (o : Read (Option LuaString)) (q : Refusal) → Err q ≡ string_result o → o ≡ refused q
string_err = shown_as_err option_string

pub string-ok : (o : Read (Option LuaString)) (t : prelude.Option StringAt) (c : Cursor) → Ok (t, c) ≡ string_result o → Showed option_string o t c.at
string-ok = shown_as_ok option_string

pub cursor_err : {A : Type 0} (o : Read A) (q : Refusal) → Err q ≡ cursor_result o → o ≡ refused q
cursor_err (ok v to rest) q e = absurd (let z : ◌≡◌ {A = ℕ} 0 1 = cc in omega arith)
cursor_err (refused p) q e = cc

-- of what was passed over only the end is known
pub record Passed {A : Type 0} (o : Read A) (to : ℕ) : Type 0 where
  pub value : A
  pub was : Was o value to

pub cursor_ok : {A : Type 0} (o : Read A) (c : Cursor) → Ok c ≡ cursor_result o → Passed o c.at
cursor_ok (ok w to rest) c e =
    let next : c ≡ cursor_at to = cc in
    record { value = w; was = record { rest = rest; is = rw next } }
cursor_ok (refused p) c e = absurd (let z : ◌≡◌ {A = ℕ} 0 1 = cc in omega arith)

-- one reader behind another, of which only the ends are shown
pub then_shown : {A B : Type 0} {r : Reader A} {F : Form A} → Exact r F → (f : Reader B) (s : Bytes) (at : ℕ)
    → cursor_result ((r >> f) at (drop at s)) ≡ and_then (cursor_result (r at (drop at s))) (λ to. cursor_result (f to (drop to s)))
then_shown {r} exact f s at = go (r at (drop at s)) refl
  where
    go : (o : Read _) → r at (drop at s) ≡ o → cursor_result (next o (λ _. f)) ≡ and_then (cursor_result o) (λ to. cursor_result (f to (drop to s)))
    go (ok x to rest) e = rw (left exact s at e)
    go (refused q) e = refl

-- a chain of calls, each behind the one before: what they show is what the chain of readers gives
module _ (s : Bytes) (at : ℕ) where
  pub on : {A B : Type 0} {r : Reader A} {F : Form A} → Exact r F → (f : Reader B) {x y : Result Cursor Refusal} → x ≡ cursor_result (r at (drop at s))
      → y ≡ and_then x (λ to. cursor_result (f to (drop to s))) → y ≡ cursor_result ((r >> f) at (drop at s))
  on exact f e d = d ∙ ap (λ z. and_then z (λ to. cursor_result (f to (drop to s)))) e ∙ sym (then_shown exact f s at)

-- and how the readers are grouped does not matter
grouped : {A B C : Type 0} (o : Read A) (f : Reader B) (g : Reader C) → next (next o (λ _. f)) (λ _. g) ≡ next o (λ _. f >> g)
grouped (ok x to rest) f g = refl
grouped (refused q) f g = refl

pub regroup : {A B C : Type 0} (r : Reader A) (f : Reader B) (g : Reader C) (at : ℕ) (s : Bytes) → ((r >> f) >> g) at s ≡ (r >> (f >> g)) at s
regroup r f g at s = grouped (r at s) f g
