-- What is shown of a function: the fields that 01 lists.
use Rattle.std.specs.Prelude.{Result, Ok, Err}
use Rattle.format.specs.declared.refusal.Refusal.{Refusal}
use Rattle.std.specs.Prelude.{length}
use Rattle.format.specs.Reading.{Prototype}
use Rattle.read_field.specs.Shown.{option_string}
use Rattle.show_chunk.specs.declared.fields.FunctionFields.{FunctionFields}
use Rattle.show_row.specs.Asked.{Asked, found, refused}

abbrev pub fields_of : Prototype → FunctionFields
fields_of p = record {
  depth = p.depth;
  parent = p.parent;
  source_name = option_string p.source_name;
  line_defined = p.line_defined;
  last_line_defined = p.last_line_defined;
  numparams = p.numparams;
  is_vararg = p.is_vararg;
  maxstacksize = p.maxstacksize;
  counts = record {
    instructions = length p.instructions;
    constants = length p.constants;
    upvalues = length p.upvalues;
    protos = p.protos;
    line_info = length p.line_info_lem;
    abs_line_info = length p.abs_line_info;
    loc_vars = length p.loc_vars;
    upvalue_names = length p.upvalue_names_lem;
  };
}

abbrev pub shown_fields : Asked Prototype → Result FunctionFields Refusal
shown_fields (found p) = Ok (fields_of p)
shown_fields (refused q) = Err q
