-- The reading: what a chunk shows. Names are the Rust's (model.rs).
--     ConstantValue    a constant: 8-byte values are numbers, the integer's and the float's bits
--     LocalVar         a local variable
--     Places           where each list of a function begins, just after its count
--     Prototype        a function: 01's fields and entries, in the grammar's order
--     Reading          a chunk
-- Not shown by any call that takes a function's number: `places`, and the place of a local variable's name, whose bytes are shown. (The calls at a place show where lists begin, crates/c_parts, and a name that is there, crates/c_entries_at.)
-- `start` and `end`, and of `places` those of the instructions and the constants, are shown by the index. All else is shown by the summary, the fields and the entries together (crates/demands/proofs/Together.antt, `alike-exactly`).
use Rattle.std.specs.Prelude.{Bool, List, ℕ}
use Rattle.std.proofs.Math.Option.{Option}
use Rattle.format.specs.declared.entry.UpvalueDesc.{UpvalueDesc}
use Rattle.format.specs.declared.entry.AbsLineInfo.{AbsLineInfo}
use Rattle.format.specs.declared.header.Header as declared
use Rattle.format.specs.declared.header.Warning.{Warning}
use Rattle.format.specs.Form.{Bytes}
use Rattle.format.specs.GrammarFields.{LuaString}

pub data ConstantValue : Type 0 where
  nil : ConstantValue
  boolean : Bool → ConstantValue
  integer : ℕ → ConstantValue
  float : ℕ → ConstantValue
  short_string : LuaString → ConstantValue
  long_string : LuaString → ConstantValue

pub record LocalVar : Type 0 where
  pub name : LuaString
  pub startpc : ℕ
  pub endpc : ℕ

pub record Places : Type 0 where
  pub instructions : ℕ
  pub constants : ℕ
  pub upvalues : ℕ
  pub protos : ℕ
  pub line_info_lem : ℕ
  pub abs_line_info : ℕ
  pub loc_vars : ℕ
  pub upvalue_names_lem : ℕ

pub record Prototype : Type 0 where
  pub depth : ℕ
  pub parent : ℕ
  pub start : ℕ
  pub end : ℕ
  pub source_name : Option LuaString
  pub line_defined : ℕ
  pub last_line_defined : ℕ
  pub numparams : ℕ
  pub is_vararg : ℕ
  pub maxstacksize : ℕ
  pub instructions : List ℕ
  pub constants : List ConstantValue
  pub upvalues : List UpvalueDesc
  -- how many functions nest in it: they follow it in the list of functions
  pub protos : ℕ
  pub line_info_lem : Bytes
  pub abs_line_info : List AbsLineInfo
  pub loc_vars : List LocalVar
  pub upvalue_names_lem : List (Option LuaString)
  pub places : Places

pub record Reading : Type 0 where
  pub header : declared.Header
  pub warnings : List Warning
  -- in the order their bytes begin, main first
  pub functions : List Prototype
  pub trailing_at : ℕ
  pub trailing : Bytes
