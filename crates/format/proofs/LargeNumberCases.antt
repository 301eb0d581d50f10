-- A function whose lines, anchor and local have the six largest numbers (01, 'reader.rs': a number is below 2^64 − 128; Lua's loader would take none of them): each is shown as it is spelt, and copied so. Antt computes both.
--     numbers_hold     first and last line, the anchor's pc and line, the local's start and end
--     copied_whole     the copy is the chunk
-- Told apart: a number cut off at 31, 32 or 63 bits, or at 2^62; two of the six exchanged.
-- Assumes nothing.
use mathlib.Core.Path.{◌≡◌, refl}
use mathlib.Core.List.{List, [], ◌∷◌, ◌++◌}
use Prim.Native.Nat.{ℕ, ◌-◌, ◌^◌}
use lib.ListN.{replicate, set}
use Rattle.format.specs.declared.entry.AbsLineInfo.{AbsLineInfo}
use Rattle.format.specs.Form.{Bytes}
use Rattle.format.specs.Limits.{ceilings}
use Rattle.format.specs.Reading.{LocalVar, Prototype}
use Rattle.format.specs.ReadChunk.{body, function, Outcome, shown, refusal, read}
use Rattle.format.specs.Copy.{list_bytes, behind_source, copy}
use Rattle.format.specs.Shortest.{shortest}
use Rattle.format.proofs.Distinct.{header}

-- a number that ends with this byte: for 0xff it is 2^64 − 129
abbrev large : ℕ → Bytes
large last = 1 ∷ replicate 7 0x7f ++ 0x7e ∷ last ∷ []

-- main, with an anchor and a local; format 0, no upvalues
chunk : Bytes
chunk =
    set header 5 0 ++ 0 ∷ 0x80 ∷ large 0xff ++ large 0xfe ++ (0 ∷ 0 ∷ 2 ∷ replicate 5 0x80)
    ++ (0x81 ∷ large 0xfd ++ large 0xfc) ++ (0x81 ∷ 0x82 ∷ 0x76 ∷ large 0xfb ++ large 0xfa) ++ 0x80 ∷ []

anchor_numbers : List AbsLineInfo → List ℕ
anchor_numbers [] = []
anchor_numbers (a ∷ more) = a.pc ∷ a.line ∷ anchor_numbers more

local_numbers : List LocalVar → List ℕ
local_numbers [] = []
local_numbers (l ∷ more) = l.startpc ∷ l.endpc ∷ local_numbers more

numbers : List Prototype → List ℕ
numbers [] = []
numbers (p ∷ ps) = p.line_defined ∷ p.last_line_defined ∷ anchor_numbers p.abs_line_info ++ local_numbers p.loc_vars ++ numbers ps

of_read : {A : Type 0} → (List Prototype → List A) → Outcome → List A
of_read f (shown r) = f r.functions
of_read f (refusal q) = []

numbers_hold : of_read numbers (read ceilings chunk) ≡ (2 ^ 64 - 129) ∷ (2 ^ 64 - 130) ∷ (2 ^ 64 - 131) ∷ (2 ^ 64 - 132) ∷ (2 ^ 64 - 133) ∷ (2 ^ 64 - 134) ∷ []
unfolding chunk anchor_numbers local_numbers numbers of_read read body function
numbers_hold = refl

copy_of : Outcome → Bytes
copy_of (shown r) = copy r
copy_of (refusal q) = []

copied_whole : copy_of (read ceilings chunk) ≡ chunk
unfolding chunk copy_of read body function copy behind_source list_bytes shortest mathlib.Core.List.flatten
copied_whole = refl
