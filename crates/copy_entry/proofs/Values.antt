-- A constant that was read, and the copy's bytes of it: a string's size is written anew, any other constant's bytes are those that stand there.
-- Assumes nothing.
use mathlib.Core.Path.{◌≡◌, refl, sym, ◌∙◌, ap}
use mathlib.Core.Bool.{Bool, true, false, cond}
use mathlib.Core.List.{[], ◌∷◌, ◌++◌}
use mathlib.Core.Option.{Option, none, some, get_or}
use Prim.Native.Nat.{ℕ, suc, ◌-◌, ◌≤◌, zero-le}
use native.Mathlib.Omega.{arith}
use borrow.Author.Tests.{eqb-true}
use lib.Dec.{eqb}
use lib.ListN.{length, take, drop}
use Rattle.format.specs.Form.{Bytes, Below}
use Rattle.format.specs.GrammarFields.{LuaString}
use Rattle.format.specs.Read.{Reader}
use Rattle.format.specs.ReadChunk.{always, constant}
use Rattle.format.specs.Reading.{ConstantValue}
use Rattle.format.specs.Shortest.{shortest}
use Rattle.format.specs.Copy.{field_bytes, constant_bytes}
use Rattle.format.proofs.ExactFields.{exact_field, exact_string}
use Rattle.format.proofs.ExactChunk.{exact_always}
use Rattle.format.proofs.Located.{AtPlace, at_give, at_here, at_then, at-refuse, at-string, Stands, StandsIf}
use Rattle.read_entry.specs.Shown.{constant_value}
use Rattle.copy_entry.specs.Inner.Value.{Stood, value_bytes}
use Rattle.copy_entry.proofs.Entries.{Raw, raw_field, joined}

pub record Kept (s : Bytes) (at to : ℕ) (k : ConstantValue) : Type 0 where
  pub stood : Stood s at to (constant_value k)
  pub same : value_bytes s at to (constant_value k) ≡ constant_bytes k

pub at_pick : {A : Type 0} {s : Bytes} {at : ℕ} {r q : Reader A} {P : ℕ → A → Type 0} (b : Bool) → (b ≡ true → AtPlace s at r P) → (b ≡ false → AtPlace s at q P) → AtPlace s at (cond b r q) P
at_pick true f g = f refl
at_pick false f g = g refl

at-always : {s : Bytes} {at : ℕ} (limit : ℕ) → AtPlace s at (always limit []) (λ to t. Stands s t)
at-always {s} limit = at_then (exact_string limit) (at-string limit) λ t _ h. at_here λ place. at_give λ _. from t place h
  where
    from : (t : Option LuaString) (place : ℕ) → StandsIf s t → Stands s (get_or t (record { place = place; bytes = [] }))
    from none place h = record { inside = zero-le; there = refl }
    from (some t) place h = h

module _ (s : Bytes) (bytes : Below 256 s) (at : ℕ) where
  -- the tag alone
  alone : (tag mid : ℕ) → Raw s (field_bytes 1) 1 at mid tag → (n : ℕ) → tag ≡ n → (at ≤ mid) × (mid ≤ length s) × (take (mid - at) (drop at s) ≡ field_bytes 1 n)
  alone tag mid h n e =
      let size : mid - at ≡ 1 = omega (arith, h.place) in
      (omega (arith, h.place), omega (arith, h.place, h.inside), ap (λ k. take k (drop at s)) size ∙ sym h.same ∙ ap (field_bytes 1) e)

  -- the tag and eight bytes
  eight : (tag mid : ℕ) → Raw s (field_bytes 1) 1 at mid tag → (n : ℕ) → tag ≡ n → (to v : ℕ) → Raw s (field_bytes 8) 8 mid to v → (at ≤ to) × (to ≤ length s) × (take (to - at) (drop at s) ≡ field_bytes 1 n ++ field_bytes 8 v)
  eight tag mid h n e to v k =
      let size : to - at ≡ 9 = omega (arith, h.place, k.place) in
      (omega (arith, h.place, k.place), omega (arith, h.place, k.place, k.inside), ap (λ m. take m (drop at s)) size ∙ sym (joined s bytes at 1 mid 8 (field_bytes 1 n) (field_bytes 8 v) h.place (ap (field_bytes 1) (sym e) ∙ h.same) k.same))

  pub at_constant : (limit : ℕ) → AtPlace s at (constant limit) (λ to k. Kept s at to k)
  at_constant limit =
      at_here λ place.
      at_then (exact_field 1) (raw_field s bytes 1 at) λ tag mid h.
      at_pick (eqb tag 0) (λ e. let z = alone tag mid h 0 (eqb-true tag 0 e) in at_give λ _. record { stood = (z.0, z.1); same = z.2 }) λ _.
      at_pick (eqb tag 1) (λ e. let z = alone tag mid h 1 (eqb-true tag 1 e) in at_give λ _. record { stood = (z.0, z.1); same = z.2 }) λ _.
      at_pick (eqb tag 17) (λ e. let z = alone tag mid h 17 (eqb-true tag 17 e) in at_give λ _. record { stood = (z.0, z.1); same = z.2 }) λ _.
      at_pick (eqb tag 3) (λ e. at_then (exact_field 8) (raw_field s bytes 8 mid) λ n to k. let z = eight tag mid h 3 (eqb-true tag 3 e) to n k in at_give λ _. record { stood = (z.0, z.1); same = z.2 }) λ _.
      at_pick (eqb tag 19) (λ e. at_then (exact_field 8) (raw_field s bytes 8 mid) λ n to k. let z = eight tag mid h 19 (eqb-true tag 19 e) to n k in at_give λ _. record { stood = (z.0, z.1); same = z.2 }) λ _.
      at_pick (eqb tag 4) (λ e. at_then (exact_always limit []) (at-always limit) λ t _ k. at_give λ _. record { stood = k.inside; same = ap (λ b. 4 ∷ (shortest (suc (length t.bytes)) ++ b)) k.there }) λ _.
      at_pick (eqb tag 20) (λ e. at_then (exact_always limit []) (at-always limit) λ t _ k. at_give λ _. record { stood = k.inside; same = ap (λ b. 20 ∷ (shortest (suc (length t.bytes)) ++ b)) k.there }) λ _.
      at-refuse
