-- `format_report::report_refusal` meets its contract: each arm is told which refusal it has. Assumes nothing.
use mathlib.Core.Path.{ap, sym}
use borrow.Author.Rules.{rules}
use Rattle.format.specs.Refusals.{reported}
use Rattle.format_report.proofs.report_refusal.Goals as goal

pub returns-in-Truncated : goal.returns-in-Truncated
returns-in-Truncated c = ap reported (sym c.in-Truncated.is)

pub returns-in-Overflow : goal.returns-in-Overflow
returns-in-Overflow c = ap reported (sym c.in-Overflow.is)

pub returns-in-VarintOverflow : goal.returns-in-VarintOverflow
returns-in-VarintOverflow c = ap reported (sym c.in-VarintOverflow.is)

pub returns-in-Signature : goal.returns-in-Signature
returns-in-Signature c = ap reported (sym c.in-Signature.is)

pub returns-in-Version : goal.returns-in-Version
returns-in-Version c = ap reported (sym c.in-Version.is)

pub returns-in-LuacData : goal.returns-in-LuacData
returns-in-LuacData c = ap reported (sym c.in-LuacData.is)

pub returns-in-InstructionSize : goal.returns-in-InstructionSize
returns-in-InstructionSize c = ap reported (sym c.in-InstructionSize.is)

pub returns-in-LuaIntegerSize : goal.returns-in-LuaIntegerSize
returns-in-LuaIntegerSize c = ap reported (sym c.in-LuaIntegerSize.is)

pub returns-in-LuaNumberSize : goal.returns-in-LuaNumberSize
returns-in-LuaNumberSize c = ap reported (sym c.in-LuaNumberSize.is)

pub returns-in-LuacInt : goal.returns-in-LuacInt
returns-in-LuacInt c = ap reported (sym c.in-LuacInt.is)

pub returns-in-LuacNum : goal.returns-in-LuacNum
returns-in-LuacNum c = ap reported (sym c.in-LuacNum.is)

pub returns-in-ConstantTag : goal.returns-in-ConstantTag
returns-in-ConstantTag c = ap reported (sym c.in-ConstantTag.is)

pub returns-in-StringBytes : goal.returns-in-StringBytes
returns-in-StringBytes c = ap reported (sym c.in-StringBytes.is)

pub returns-in-Instructions : goal.returns-in-Instructions
returns-in-Instructions c = ap reported (sym c.in-Instructions.is)

pub returns-in-TotalInstructions : goal.returns-in-TotalInstructions
returns-in-TotalInstructions c = ap reported (sym c.in-TotalInstructions.is)

pub returns-in-Constants : goal.returns-in-Constants
returns-in-Constants c = ap reported (sym c.in-Constants.is)

pub returns-in-Upvalues : goal.returns-in-Upvalues
returns-in-Upvalues c = ap reported (sym c.in-Upvalues.is)

pub returns-in-Prototypes : goal.returns-in-Prototypes
returns-in-Prototypes c = ap reported (sym c.in-Prototypes.is)

pub returns-in-NestingDepth : goal.returns-in-NestingDepth
returns-in-NestingDepth c = ap reported (sym c.in-NestingDepth.is)

pub returns-in-TotalPrototypes : goal.returns-in-TotalPrototypes
returns-in-TotalPrototypes c = ap reported (sym c.in-TotalPrototypes.is)

pub returns-in-LimitAboveCeiling : goal.returns-in-LimitAboveCeiling
returns-in-LimitAboveCeiling c = ap reported (sym c.in-LimitAboveCeiling.is)

pub returns-in-InputBytes : goal.returns-in-InputBytes
returns-in-InputBytes c = ap reported (sym c.in-InputBytes.is)

pub returns-in-NoFunction : goal.returns-in-NoFunction
returns-in-NoFunction c = ap reported (sym c.in-NoFunction.is)

pub returns-in-NoEntry : goal.returns-in-NoEntry
returns-in-NoEntry c = ap reported (sym c.in-NoEntry.is)

pub returns-in-LineTooLarge : goal.returns-in-LineTooLarge
returns-in-LineTooLarge c = ap reported (sym c.in-LineTooLarge.is)

pub returns-in-LentSpace : goal.returns-in-LentSpace
returns-in-LentSpace c = ap reported (sym c.in-LentSpace.is)

pub returns-in-FieldRange : goal.returns-in-FieldRange
returns-in-FieldRange c = ap reported (sym c.in-FieldRange.is)

pub returns-in-NoOpcode : goal.returns-in-NoOpcode
returns-in-NoOpcode c = ap reported (sym c.in-NoOpcode.is)

pub returns-in-AnchorOrder : goal.returns-in-AnchorOrder
returns-in-AnchorOrder c = ap reported (sym c.in-AnchorOrder.is)

pub returns-in-PcOrder : goal.returns-in-PcOrder
returns-in-PcOrder c = ap reported (sym c.in-PcOrder.is)

pub returns-in-Format : goal.returns-in-Format
returns-in-Format c = ap reported (sym c.in-Format.is)

pub returns-in-IntOverflow : goal.returns-in-IntOverflow
returns-in-IntOverflow c = ap reported (sym c.in-IntOverflow.is)

pub returns-in-NullString : goal.returns-in-NullString
returns-in-NullString c = ap reported (sym c.in-NullString.is)
