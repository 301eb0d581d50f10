-- 01's list of refusals ('Who can cause a refusal'), with those that 02 adds: each with its number and, where it has one, its place; the two warnings with their codes. One theorem over each list, which antt computes.
--     refusals_hold    told apart: two refusals with one number (24 given as 23), two numbers exchanged, a place left out, a place where 01 gives none (2, 3 and 21 to 30)
--     warnings_hold    told apart: the two codes exchanged, a place left out
-- Assumes nothing.
use Rattle.std.specs.Prelude.{Some, None}
use mathlib.Core.Path.{◌≡◌, refl}
use mathlib.Core.List.{List, [], ◌∷◌, map}
use Prim.Native.Nat.{ℕ}
use Rattle.format.specs.declared.refusal.Refusal.{Refusal}
use Rattle.format.specs.declared.refusal.Refusal.TheVariants.{
  Truncated,
  Overflow,
  VarintOverflow,
  Signature,
  Version,
  LuacData,
  InstructionSize,
  LuaIntegerSize,
  LuaNumberSize,
  LuacInt,
  LuacNum,
  ConstantTag,
  StringBytes,
  Instructions,
  TotalInstructions,
  Constants,
  Upvalues,
  Prototypes,
  NestingDepth,
  TotalPrototypes,
  LimitAboveCeiling,
  InputBytes,
  NoFunction,
  NoEntry,
  LineTooLarge,
  LentSpace,
  FieldRange,
  NoOpcode,
  AnchorOrder,
  PcOrder,
  Format,
  IntOverflow,
  NullString,
}
use Rattle.format.specs.declared.refusal.Report.{Report}
use Rattle.format.specs.declared.header.Warning.{Warning}
use Rattle.format.specs.declared.header.Warning.TheVariants.{NonStandardFormat, TrailingBytes}
use Rattle.format.specs.declared.header.WarningCode.TheVariants.{L54Header003, L54Chunk001}
use Rattle.format.specs.declared.header.WarningReport.{WarningReport}
use Rattle.format.specs.Refusals.{reported}
use Rattle.format.specs.Warnings.{warned}

-- ## Refusals
abbrev at : ℕ → ℕ → Report
at place n = record { number = n; place = Some place }

abbrev alone : ℕ → Report
alone n = record { number = n; place = None }

-- whatever the place is
refusals : ℕ → List (Refusal × Report)
refusals place =
    -- the file: cut short; place plus length 2^64 or more; a number 2^64 - 128 or more
    (Truncated place, at place 1) ∷ (Overflow, alone 2) ∷ (VarintOverflow, alone 3)
    -- the header: L54-HEADER-001, -002, -004 to -009
    ∷ (Signature place, at place 4) ∷ (Version place, at place 5) ∷ (LuacData place, at place 6)
    ∷ (InstructionSize place, at place 7) ∷ (LuaIntegerSize place, at place 8) ∷ (LuaNumberSize place, at place 9)
    ∷ (LuacInt place, at place 10) ∷ (LuacNum place, at place 11)
    -- a constant's tag
    ∷ (ConstantTag place, at place 12)
    -- the file with the limits: a string; instructions of a function, and in all; constants, upvalues, nested functions of a function; too deep; nested functions in all
    ∷ (StringBytes place, at place 13) ∷ (Instructions place, at place 14) ∷ (TotalInstructions place, at place 15)
    ∷ (Constants place, at place 16) ∷ (Upvalues place, at place 17) ∷ (Prototypes place, at place 18)
    ∷ (NestingDepth place, at place 19) ∷ (TotalPrototypes place, at place 20)
    -- the caller: a limit above its ceiling; a file longer than the input limit; no function, no entry of that number; a line of 2^62 or more; lent space too short
    ∷ (LimitAboveCeiling, alone 21) ∷ (InputBytes, alone 22) ∷ (NoFunction, alone 23) ∷ (NoEntry, alone 24)
    ∷ (LineTooLarge, alone 25) ∷ (LentSpace, alone 26)
    -- words: a field out of range; an opcode above 82
    ∷ (FieldRange, alone 27) ∷ (NoOpcode, alone 28)
    -- 02: of a list of pcs, the anchors' pcs do not rise strictly; a pc is below the one before it
    ∷ (AnchorOrder, alone 29) ∷ (PcOrder, alone 30)
    -- 02, the stricter reading: a format byte that is not 0; an int of 2^31 - 128 or more; a string constant of size 0
    ∷ (Format place, at place 31) ∷ (IntOverflow place, at place 32) ∷ (NullString place, at place 33)
    ∷ []

refusals_hold : (place : ℕ) → map (λ c. reported c.0) (refusals place) ≡ map (λ c. c.1) (refusals place)
unfolding refusals
refusals_hold place = refl

-- ## Warnings
warnings : ℕ → List (Warning × WarningReport)
warnings place =
    (NonStandardFormat place, record { code = L54Header003; place = place })
    ∷ (TrailingBytes place, record { code = L54Chunk001; place = place })
    ∷ []

warnings_hold : (place : ℕ) → map (λ c. warned c.0) (warnings place) ≡ map (λ c. c.1) (warnings place)
unfolding warnings
warnings_hold place = refl
