-- The output that 01 prints: files and their listings in a list, and one theorem over the list, which antt computes.
-- Assumes nothing.
use mathlib.Core.Path.{◌≡◌, refl}
use mathlib.Core.List.{List, [], ◌∷◌, map}
use Prim.Native.Nat.{ℕ}
use lib.ListN.{replicate, take}
use Rattle.format.specs.Ascii.{ascii}
use Rattle.format.specs.Form.{Bytes}
use Rattle.format.specs.ReadChunk.{body, function, read}
use Rattle.validate_rules.specs.Findings.{code_groups, groups, limited, chunk_findings}
use Rattle.chunklist_lines.specs.Lines.{digits_up_to, first_line, refusal_line}
use Rattle.chunklist_listing.specs.Listing.{listing}

-- 01's 46 bytes
unfoldable pub small : Bytes
small =
    0x1b ∷ 0x4c ∷ 0x75 ∷ 0x61 ∷ 0x54 ∷ 0 ∷ 0x19 ∷ 0x93 ∷ 0x0d ∷ 0x0a ∷ 0x1a ∷ 0x0a ∷ 4 ∷ 8 ∷ 8
    ∷ 0x78 ∷ 0x56 ∷ 0 ∷ 0 ∷ 0 ∷ 0 ∷ 0 ∷ 0 ∷ 0 ∷ 0 ∷ 0 ∷ 0 ∷ 0 ∷ 0x28 ∷ 0x77 ∷ 0x40
    ∷ 0 ∷ 0x80 ∷ 0x80 ∷ 0x80 ∷ 0 ∷ 0 ∷ 2 ∷ replicate 8 0x80

-- a chunk that is read, and the same cut short by a byte
unfoldable pub cases : List (Bytes × List ℕ)
unfolding small
cases =
    (small, ascii "chunk 46 functions 1 trailing 0 verdict valid-for-analysis\n0 0 0 0 0 0 2 0 0 0\n")
    ∷ (take 45 small, ascii "refused 1 at 45\n")
    ∷ []

pub all_hold : map (λ c. listing c.0) cases ≡ map (λ c. c.1) cases
unfolding cases small read body function code_groups groups limited chunk_findings digits_up_to first_line refusal_line
all_hold = refl
