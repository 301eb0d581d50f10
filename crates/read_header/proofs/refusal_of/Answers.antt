-- `read_header::refusal_of` meets its contract: each arm is told which part it has. Assumes nothing.
use mathlib.Core.Path.{ap, sym}
use borrow.Author.Rules.{rules}
use Rattle.read_header.specs.Inner.Results.{refusal_of}
use Rattle.read_header.proofs.refusal_of.Goals as goal

pub returns-in-Signature : goal.returns-in-Signature
returns-in-Signature c = rw c.in-Signature.is

pub returns-in-Version : goal.returns-in-Version
returns-in-Version c = rw c.in-Version.is

pub returns-in-LuacData : goal.returns-in-LuacData
returns-in-LuacData c = rw c.in-LuacData.is

pub returns-in-InstructionSize : goal.returns-in-InstructionSize
returns-in-InstructionSize c = rw c.in-InstructionSize.is

pub returns-in-LuaIntegerSize : goal.returns-in-LuaIntegerSize
returns-in-LuaIntegerSize c = rw c.in-LuaIntegerSize.is

pub returns-in-LuaNumberSize : goal.returns-in-LuaNumberSize
returns-in-LuaNumberSize c = rw c.in-LuaNumberSize.is

pub returns-in-LuacInt : goal.returns-in-LuacInt
returns-in-LuacInt c = rw c.in-LuacInt.is

pub returns-in-LuacNum : goal.returns-in-LuacNum
returns-in-LuacNum c = rw c.in-LuacNum.is
