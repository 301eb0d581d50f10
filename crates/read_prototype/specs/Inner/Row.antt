-- What a walk shows of a function: its row.
--     row_of p              the row of the function p
--     lookup n k ps        of functions that are numbered from k on, the one with the number n, if it is among them
use Rattle.std.specs.Prelude as prelude
use Rattle.std.specs.Prelude.{Some, None}
use Rattle.std.specs.Prelude.{cond, List, [], ◌∷◌, ℕ, ◌+◌, eqb, length}
use Rattle.std.proofs.Math.Option.{Option, none, some}
use Rattle.format.specs.Reading.{Prototype}
use Rattle.read_field.specs.Shown.{option_string}
use Rattle.read_list.specs.declared.ListAt.{ListAt}
use Rattle.read_prototype.specs.declared.row.FunctionRow.{FunctionRow}

abbrev pub list_at : {A : Type 0} → List A → ℕ → ListAt
list_at items place = record { count = length items; place = place }

abbrev pub row_of : Prototype → FunctionRow
row_of p = record {
  start = p.start;
  end = p.end;
  depth = p.depth;
  parent = p.parent;
  source_name = option_string p.source_name;
  lines = record { line_defined = p.line_defined; last_line_defined = p.last_line_defined };
  sizes = record { numparams = p.numparams; is_vararg = p.is_vararg; maxstacksize = p.maxstacksize };
  lists = record {
    instructions = list_at p.instructions p.places.instructions;
    constants = list_at p.constants p.places.constants;
    upvalues = list_at p.upvalues p.places.upvalues;
    protos = record { count = p.protos; place = p.places.protos };
    line_info = list_at p.line_info_lem p.places.line_info_lem;
    abs_line_info = list_at p.abs_line_info p.places.abs_line_info;
    loc_vars = list_at p.loc_vars p.places.loc_vars;
    upvalue_names = list_at p.upvalue_names_lem p.places.upvalue_names_lem;
  };
}

abbrev pub shown_row : Option Prototype → prelude.Option FunctionRow
shown_row none = None
shown_row (some p) = Some (row_of p)

abbrev pub lookup : ℕ → ℕ → List Prototype → Option Prototype
lookup n k [] = none
lookup n k (p ∷ ps) = let later = lookup n (k + 1) ps in cond (eqb n k) (some p) later
