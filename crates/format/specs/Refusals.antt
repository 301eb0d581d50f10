-- 01's list of refusals ('Who can cause a refusal'), with those that 02 adds: the number and the place of each.
use Rattle.std.specs.Prelude.{Some, None}
use Rattle.std.specs.Prelude.{ℕ}
use Rattle.format.specs.declared.refusal.Refusal.{Refusal}
use Rattle.format.specs.declared.refusal.Refusal.TheVariants.{
  Truncated,
  Overflow,
  VarintOverflow,
  Signature,
  Version,
  LuacData,
  InstructionSize,
  LuaIntegerSize,
  LuaNumberSize,
  LuacInt,
  LuacNum,
  ConstantTag,
  StringBytes,
  Instructions,
  TotalInstructions,
  Constants,
  Upvalues,
  Prototypes,
  NestingDepth,
  TotalPrototypes,
  LimitAboveCeiling,
  InputBytes,
  NoFunction,
  NoEntry,
  LineTooLarge,
  LentSpace,
  FieldRange,
  NoOpcode,
  AnchorOrder,
  PcOrder,
  Format,
  IntOverflow,
  NullString,
}
use Rattle.format.specs.declared.refusal.Report.{Report}

-- a number with a place, and one without
abbrev pub placed : ℕ → ℕ → Report
placed n at = record { number = n; place = Some at }

abbrev pub bare : ℕ → Report
bare n = record { number = n; place = None }

abbrev pub reported : Refusal → Report
reported (Truncated at) = placed 1 at
reported Overflow = bare 2
reported VarintOverflow = bare 3
reported (Signature at) = placed 4 at
reported (Version at) = placed 5 at
reported (LuacData at) = placed 6 at
reported (InstructionSize at) = placed 7 at
reported (LuaIntegerSize at) = placed 8 at
reported (LuaNumberSize at) = placed 9 at
reported (LuacInt at) = placed 10 at
reported (LuacNum at) = placed 11 at
reported (ConstantTag at) = placed 12 at
reported (StringBytes at) = placed 13 at
reported (Instructions at) = placed 14 at
reported (TotalInstructions at) = placed 15 at
reported (Constants at) = placed 16 at
reported (Upvalues at) = placed 17 at
reported (Prototypes at) = placed 18 at
reported (NestingDepth at) = placed 19 at
reported (TotalPrototypes at) = placed 20 at
reported LimitAboveCeiling = bare 21
reported InputBytes = bare 22
reported NoFunction = bare 23
reported NoEntry = bare 24
reported LineTooLarge = bare 25
reported LentSpace = bare 26
reported FieldRange = bare 27
reported NoOpcode = bare 28
-- 02, item 3
reported AnchorOrder = bare 29
reported PcOrder = bare 30
-- 02, item 7
reported (Format at) = placed 31 at
reported (IntOverflow at) = placed 32 at
reported (NullString at) = placed 33 at
