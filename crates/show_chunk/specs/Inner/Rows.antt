-- A function's fields, of its row.
use Rattle.read_prototype.specs.declared.row.FunctionRow.{FunctionRow}
use Rattle.show_chunk.specs.declared.fields.FunctionFields.{FunctionFields}

abbrev pub fields_shown : FunctionRow → FunctionFields
fields_shown r = record {
  depth = r.depth;
  parent = r.parent;
  source_name = r.source_name;
  line_defined = r.lines.line_defined;
  last_line_defined = r.lines.last_line_defined;
  numparams = r.sizes.numparams;
  is_vararg = r.sizes.is_vararg;
  maxstacksize = r.sizes.maxstacksize;
  counts = record {
    instructions = r.lists.instructions.count;
    constants = r.lists.constants.count;
    upvalues = r.lists.upvalues.count;
    protos = r.lists.protos.count;
    line_info = r.lists.line_info.count;
    abs_line_info = r.lists.abs_line_info.count;
    loc_vars = r.lists.loc_vars.count;
    upvalue_names = r.lists.upvalue_names.count;
  };
}
