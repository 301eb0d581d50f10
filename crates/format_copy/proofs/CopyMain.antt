-- The header of a copy: format 0.
-- Assumes nothing.
use mathlib.Core.Path.{refl}
use mathlib.Core.List.{[], ◌∷◌, ◌++◌}
use Prim.Native.Nat.{ℕ}
use native.Mathlib.Omega.{arith}
use Rattle.format.specs.Form.{Bytes, Below, Spelt}
use Rattle.format.specs.GrammarHeader.{signature, luac_data, luac_int, luac_num, header_of, Headed, BeforeFormat, BehindFormat, Header}
use Rattle.format.specs.Copy.{header_bytes}
use Rattle.format.proofs.Build.{put, skip, last}
use Rattle.format.proofs.FieldBytes.{field-any}

abbrev pub standard : Headed
standard = record { header = header_of 0; warnings = [] }

spelt : (b : Bytes) (at : ℕ) → Spelt b at b tt
spelt b at = last b (refl, refl) (refl, refl)

before-spelt : BeforeFormat 0 (signature ++ 0x54 ∷ []) tt
before-spelt = put signature (0x54 ∷ []) tt (spelt signature 0) (spelt (0x54 ∷ []) 4)

behind-spelt : BehindFormat 6 (luac_data ++ (4 ∷ 8 ∷ 8 ∷ luac_int ++ luac_num)) tt
behind-spelt =
    put luac_data _ tt (spelt luac_data 6)
    (put (4 ∷ []) _ tt (spelt (4 ∷ []) 12)
    (put (8 ∷ []) _ tt (spelt (8 ∷ []) 13)
    (put (8 ∷ []) _ tt (spelt (8 ∷ []) 14)
    (put luac_int luac_num tt (spelt luac_int 15)
    (spelt luac_num 23)))))

pub header-spelt : Header 0 (header_bytes 0) standard
header-spelt = put (signature ++ 0x54 ∷ []) _ tt before-spelt (skip 5 (refl, refl) (put (0 ∷ []) _ 0 (field-any 1 0 5) (last tt behind-spelt (refl, refl))))

pub header-below : Below 256 (header_bytes 0)
header-below = omega arith
