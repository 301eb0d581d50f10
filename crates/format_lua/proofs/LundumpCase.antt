-- Worked cases of Lua's own loader as it is defined (specs/LundumpFunctions.antt), which `proofs/LundumpRead.antt` computes: what is loaded and what is not.
-- A loader that takes no constant, upvalue, nested function, anchor or local, not every tag, or not the second level, loads no `full`.
--     small-loaded, full_loaded    two chunks of `proofs/LuaChunks.antt` are loaded, with each field of each function
--     within_limits                what is loaded of `full` is within the limits at their ceilings, so `proofs/LundumpChunk.antt` speaks of such chunks:
--     full_read                    by it we read what Lua loads
--     not-loaded                   each of `refused` is not loaded, however deep functions may nest
--     loaded_beside                what is just beside those is loaded
-- Lua 5.4.4 was run on all of these, and does the same.
-- Assumes nothing.
use mathlib.Core.Path.{◌≡◌, refl}
use mathlib.Core.Bool.{Bool, true, false}
use mathlib.Core.List.{List, [], ◌∷◌, ◌++◌, map}
use mathlib.Core.Option.{Option, none, some}
use Prim.Native.Nat.{ℕ, zero, suc}
use native.Mathlib.Omega.{arith}
use lib.ListN.{replicate, set, take}
use Rattle.format.specs.Form.{Bytes, All}
use Rattle.format.specs.Limits.{ceilings}
use Rattle.format.specs.GrammarChunk.{Loaded, outermost, reading}
use Rattle.format_lua.specs.LundumpFunctions.{LoadFunction, Undump}
use Rattle.format_lua.specs.LundumpWithin.{FunctionsWithin}
use Rattle.format.specs.ReadChunk.{shown, read}
use Rattle.format_lua.proofs.LundumpChunk.{loaded-is-read}
use Rattle.format_lua.proofs.LundumpRead.{take-function, loads, loads_exactly, never_loads}
use Rattle.format_lua.proofs.LuaChunks.{header, small, full, small-function, full_functions_lem, loaded}

-- ## Loaded
pub small-loaded : Undump 1 0 small (loaded (small-function ∷ []))
unfolding take-function LoadFunction
small-loaded = (loads_exactly 1 small (loaded (small-function ∷ []))).0 refl

pub full_loaded : Undump 3 0 full (loaded full_functions_lem)
unfolding take-function LoadFunction
full_loaded = (loads_exactly 3 full (loaded full_functions_lem)).0 refl

pub within_limits : FunctionsWithin ceilings outermost full_functions_lem
within_limits = record { each = (omega arith, (omega arith, (omega arith, (omega arith, tt)))); instructions = omega arith; functions = omega arith }

pub full_read : read ceilings full ≡ shown (reading ceilings (loaded full_functions_lem) 208 [])
full_read = loaded-is-read ceilings 3 full [] (loaded full_functions_lem) full_loaded within_limits refl (omega arith)

-- ## Not loaded
-- 2^31 - 128, and one less
abbrev pub huge : Bytes
huge = 0x07 ∷ 0x7f ∷ 0x7f ∷ 0x7f ∷ 0x80 ∷ []

abbrev pub largest : Bytes
largest = 0x07 ∷ 0x7f ∷ 0x7f ∷ 0x7e ∷ 0xff ∷ []

-- the 46 bytes with this int as first line, last line, an anchor's pc, its line, a local's startpc, its endpc
abbrev pub ints : Bytes → List Bytes
ints n =
    (header ++ 0 ∷ 0x80 ∷ n ++ 0x80 ∷ 0 ∷ 0 ∷ 2 ∷ replicate 8 0x80)
    ∷ (header ++ 0 ∷ 0x80 ∷ 0x80 ∷ n ++ 0 ∷ 0 ∷ 2 ∷ replicate 8 0x80)
    ∷ (header ++ 0 ∷ 0x80 ∷ 0x80 ∷ 0x80 ∷ 0 ∷ 0 ∷ 2 ∷ replicate 5 0x80 ++ 0x81 ∷ n ++ 0x80 ∷ 0x80 ∷ 0x80 ∷ [])
    ∷ (header ++ 0 ∷ 0x80 ∷ 0x80 ∷ 0x80 ∷ 0 ∷ 0 ∷ 2 ∷ replicate 5 0x80 ++ 0x81 ∷ 0x80 ∷ n ++ 0x80 ∷ 0x80 ∷ [])
    ∷ (header ++ 0 ∷ 0x80 ∷ 0x80 ∷ 0x80 ∷ 0 ∷ 0 ∷ 2 ∷ replicate 6 0x80 ++ 0x81 ∷ 0x82 ∷ 0x6c ∷ n ++ 0x80 ∷ 0x80 ∷ [])
    ∷ (header ++ 0 ∷ 0x80 ∷ 0x80 ∷ 0x80 ∷ 0 ∷ 0 ∷ 2 ∷ replicate 6 0x80 ++ 0x81 ∷ 0x82 ∷ 0x6c ∷ 0x80 ∷ n ++ 0x80 ∷ [])
    ∷ []

-- with this constant
abbrev pub constant : Bytes → Bytes
constant bytes = header ++ 0 ∷ 0x80 ∷ 0x80 ∷ 0x80 ∷ 0 ∷ 0 ∷ 2 ∷ 0x80 ∷ 0x81 ∷ bytes ++ replicate 6 0x80

-- each part of the header changed, the format byte among them; string constants of size 0, one of them padded; cut short; ints
abbrev pub refused : List Bytes
refused =
    set small 0 0x1a
    ∷ set small 3 0x62
    ∷ set small 4 0x53
    ∷ set small 5 1
    ∷ set small 11 0x0b
    ∷ set small 12 8
    ∷ set small 13 4
    ∷ set small 14 4
    ∷ set small 22 1
    ∷ set small 30 0xc0
    ∷ constant (4 ∷ 0x80 ∷ [])
    ∷ constant (20 ∷ 0 ∷ 0x80 ∷ [])
    ∷ take 45 small
    ∷ ints huge

abbrev pub beside : List Bytes
beside = constant (4 ∷ 0x81 ∷ []) ∷ ints largest

none-loads : (left : ℕ) → map (loads left) refused ≡ map (λ _. none) refused
unfolding take-function LoadFunction
none-loads zero = refl
none-loads (suc left) = refl

nones : (left : ℕ) (chunks : List Bytes) → map (loads left) chunks ≡ map (λ _. none) chunks → All (λ c. (m : Loaded) → Undump left 0 c m → ⊥) chunks
nones left [] e = tt
nones left (c ∷ cs) e = (never_loads left c (cc), nones left cs (cc))

pub not-loaded : (left : ℕ) → All (λ c. (m : Loaded) → Undump left 0 c m → ⊥) refused
not-loaded left = nones left refused (none-loads left)

-- ## Loaded, just beside those: a string constant of size 1 is empty, and 2^31 - 129 is an int
abbrev there : {A : Type 0} → Option A → Bool
there none = false
there (some x) = true

found : {A : Type 0} (o : Option A) → there o ≡ true → (x : A) × (o ≡ some x)
found none e = absurd (let z : ◌≡◌ {A = ℕ} 0 1 = cc in omega arith)
found (some x) e = (x, refl)

somes : (left : ℕ) (chunks : List Bytes) → map (λ c. there (loads left c)) chunks ≡ map (λ _. true) chunks → All (λ c. (m : Loaded) × Undump left 0 c m) chunks
somes left [] e = tt
somes left (c ∷ cs) e = let (m, f) = found (loads left c) (cc) in ((m, (loads_exactly left c m).0 f), somes left cs (cc))

all_load : map (λ c. there (loads 1 c)) beside ≡ map (λ _. true) beside
unfolding take-function LoadFunction
all_load = refl

pub loaded_beside : All (λ c. (m : Loaded) × Undump 1 0 c m) beside
loaded_beside = somes 1 beside all_load
