-- Passing over fields of any width w without a loop: by how many there are.
-- Assumes nothing.
use Rattle.std.specs.Prelude.{Ok, Err}
use mathlib.Core.Path.{◌≡◌, refl, sym, ◌∙◌}
use mathlib.Core.List.{List, ◌∷◌}
use Prim.Native.Nat.{ℕ, zero, suc, ◌+◌, ◌*◌, ◌≤◌, ◌<◌}
use native.Mathlib.Omega.{arith}
use native.Mathlib.Nat.{zero-mul, suc-mul}
use lib.ListN.{length, drop, length-drop}
use Rattle.format.specs.Form.{Bytes}
use Rattle.format.specs.Read.{Read, ok, refused, Reader, next, ◌>>=◌, give, short, many}
use Rattle.format.specs.ReadFields.{field}
use Rattle.format.specs.ReadChunk.{upvalue}
use Rattle.format.proofs.Steps.{field-short, field_enough}
use Rattle.slice.specs.Shown.{cursor_at}
use Rattle.slice.specs.Inner.Results.{cursor_result}
use Rattle.read_entry.proofs.Turns.{same_end}

module _ (w : ℕ) where
  -- n fields are there
  pub fields_enough : (n at : ℕ) (s : Bytes) → n * w ≤ length s → Ok (cursor_at (at + n * w)) ≡ cursor_result (many n (field w) at s)
  fields_enough zero at s h = let e : at + zero * w ≡ at = omega (arith, zero-mul w) in rw e
  fields_enough (suc n) at s h =
      let more = suc-mul n w in
      let e : at + suc n * w ≡ at + w + n * w = omega arith in
      rw (field_enough w at s (omega arith), e)
      (fields_enough n (at + w) (drop w s) (rw length-drop (omega arith)) ∙ sym (same_end _ (many n (field w) (at + w) (drop w s))))

  -- k are there, and not one more, of n that are wanted: the refusal is where the next would begin
  pub fields_short : (k n at : ℕ) (s : Bytes) → k < n → k * w ≤ length s → length s < k * w + w → Err (short w (at + k * w)) ≡ cursor_result (many n (field w) at s)
  fields_short k zero at s l h m = absurd (omega arith)
  fields_short zero (suc n) at s l h m =
      let none = zero-mul w in
      let e : at + zero * w ≡ at = omega arith in
      rw (field-short w at s (omega arith), e)
  fields_short (suc k) (suc n) at s l h m =
      let more = suc-mul k w in
      let e : at + suc k * w ≡ at + w + k * w = omega arith in
      rw (field_enough w at s (omega arith), e)
      (fields_short k n (at + w) (drop w s) (omega arith) (rw length-drop (omega arith)) (rw length-drop (omega arith)) ∙ sym (same_end _ (many n (field w) (at + w) (drop w s))))

-- ## An upvalue is three single bytes
-- one byte in front of what shows the same
byte_more : {A B : Type 0} (o : Read ℕ) (f : ℕ → Reader A) (k : A → Reader B) (m : Reader (List ℕ)) → ((x at : ℕ) (s : Bytes) → cursor_result (next (f x at s) k) ≡ cursor_result (m at s))
    → cursor_result (next (next o f) k) ≡ cursor_result (next o (λ x. m >>= λ xs. give (x ∷ xs)))
byte_more (ok x to rest) f k m same = same x to rest ∙ sym (same_end _ (m to rest))
byte_more (refused q) f k m same = refl

upvalues-bytes : (n at : ℕ) (s : Bytes) → cursor_result (many n upvalue at s) ≡ cursor_result (many (n * 3) (field 1) at s)
upvalues-bytes zero at s = refl
upvalues-bytes (suc n) at s =
    let e : suc n * 3 ≡ suc (suc (suc (n * 3))) = omega arith in
    rw e
    (byte_more (field 1 at s) _ _ (many (suc (suc (n * 3))) (field 1)) λ _ at s.
    byte_more (field 1 at s) _ _ (many (suc (n * 3)) (field 1)) λ _ at s.
    byte_more (field 1 at s) _ _ (many (n * 3) (field 1)) λ _ at s.
    same_end _ (many n upvalue at s) ∙ upvalues-bytes n at s)

module _ (n at : ℕ) (s : Bytes) where
  pub upvalues_enough : n * 3 ≤ length s → Ok (cursor_at (at + n * 3)) ≡ cursor_result (many n upvalue at s)
  upvalues_enough h =
      let e : n * 3 * 1 ≡ n * 3 = omega arith in
      rw (upvalues-bytes n at s) (rw e at (fields_enough 1 (n * 3) at s (omega arith)))

  pub upvalues-short : length s < n * 3 → Err (short 1 (at + length s)) ≡ cursor_result (many n upvalue at s)
  upvalues-short h =
      let e : length s * 1 ≡ length s = omega arith in
      rw (upvalues-bytes n at s) (rw e at (fields_short 1 (length s) (n * 3) at s h (omega arith) (omega arith)))
