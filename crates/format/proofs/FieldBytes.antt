-- A field of n bytes as the copy writes it (`fieldBytes`), for any n.
--     field_back       the bytes of a field come back from its value
--     field_spells     so the copy's bytes spell the field's value
-- Assumes nothing.
use mathlib.Core.Path.{◌≡◌, refl, sym, ◌∙◌, ap, ap₂}
use mathlib.Core.List.{[], ◌∷◌}
use Prim.Native.Nat.{ℕ, zero, suc, ◌+◌, ◌*◌, ◌/◌, ◌%◌}
use native.Mathlib.Omega.{arith}
use lib.ListN.{length}
use Rattle.format.specs.Form.{Bytes, Below}
use Rattle.format.specs.GrammarFields.{little, Field}
use Rattle.format.specs.Copy.{field_bytes}
use Rattle.format.proofs.Below.{below_split}
use Rattle.format.proofs.Build.{last}

pub length-field : (n v : ℕ) → length (field_bytes n v) ≡ n
length-field zero v = refl
length-field (suc n) v = ap suc (length-field n (v / 256))

pub field_below : (n v : ℕ) → Below 256 (field_bytes n v)
field_below zero v = tt
field_below (suc n) v = (omega arith, field_below n (v / 256))

pub field_back : (b : Bytes) → Below 256 b → field_bytes (length b) (little b) ≡ b
field_back [] h = refl
field_back (x ∷ xs) h =
    let low : (x + 256 * little xs) % 256 ≡ x = omega (arith, h.0) in
    let high : (x + 256 * little xs) / 256 ≡ little xs = omega (arith, h.0) in
    ap₂ ◌∷◌ low (ap (field_bytes (length xs)) high ∙ field_back xs h.1)

-- any n bytes are a field
pub field-any : (n v at : ℕ) → Field n at (field_bytes n v) (little (field_bytes n v))
field-any n v at = last (field_bytes n v) (refl, length-field n v) (refl, refl)

pub field_spells : (n at to : ℕ) (b : Bytes) (v : ℕ) → Below 256 b → Field n at b v → Field n to (field_bytes n v) v
field_spells n at to b v h d =
    let front = (below_split 256 d.front d.back (rw d.whole at h)).0 in
    let value : little d.front ≡ v = ap little d.one.0 ∙ d.two.1 in
    let back : field_bytes n v ≡ d.front = ap₂ field_bytes (sym d.one.1) (sym value) ∙ field_back d.front front in
    last (field_bytes n v) (refl, length-field n v) (refl, ap little back ∙ value)
