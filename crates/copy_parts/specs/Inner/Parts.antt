-- The copy's bytes of a function, before and behind the functions that nest in it.
--     source_bytes named t      main's source is kept, a nested function's is absent
--     head_bytes, tail_bytes     the two parts. (crates/copy_walk/proofs/Nests.antt: the copy of a function is made of these.)
--     function_bytes named ps   a function and all that nest in it
use Rattle.std.specs.Prelude.{Bool, cond, length}
use mathlib.Core.List.{List, [], ◌∷◌, ◌++◌, foldr, flatten}
use Rattle.std.proofs.Math.Option.{Option, none}
use Rattle.format.specs.Form.{Bytes}
use Rattle.format.specs.GrammarFields.{LuaString}
use Rattle.format.specs.Reading.{Prototype}
use Rattle.format.specs.Shortest.{shortest}
use Rattle.format.specs.Copy.{field_bytes, option_bytes, constant_bytes, upvalue_bytes, anchor_bytes, local_bytes, list_bytes, behind_source, nest}
use Rattle.read_prototype.specs.declared.front.Lines.{Lines}
use Rattle.read_prototype.specs.declared.front.Sizes.{Sizes}
use Rattle.read_prototype.specs.Parts.{HeadLists, Head, Tail}

abbrev pub source_bytes : Bool → Option LuaString → Bytes
source_bytes named t = option_bytes (cond named t none)

abbrev pub lines_bytes : Lines → Bytes
lines_bytes l = shortest l.line_defined ++ shortest l.last_line_defined

abbrev pub sizes_bytes : Sizes → Bytes
sizes_bytes z = field_bytes 1 z.numparams ++ (field_bytes 1 z.is_vararg ++ field_bytes 1 z.maxstacksize)

abbrev pub lists_bytes : HeadLists → Bytes
lists_bytes h = list_bytes (field_bytes 4) h.instructions.items ++ (list_bytes constant_bytes h.constants.items ++ list_bytes upvalue_bytes h.upvalues.items)

abbrev pub head_bytes : Bool → Head → Bytes
head_bytes named h = source_bytes named h.front.source ++ (lines_bytes h.front.lines ++ (sizes_bytes h.front.sizes ++ (lists_bytes h.lists ++ shortest h.protos.count)))

abbrev pub tail_bytes : Tail → Bytes
tail_bytes t =
    (shortest (length t.line_info_lem.items) ++ t.line_info_lem.items)
    ++ (list_bytes anchor_bytes t.abs_line_info.items
    ++ (list_bytes local_bytes t.loc_vars.items
    ++ list_bytes option_bytes t.upvalue_names_lem.items))

abbrev pub function_bytes : Bool → List Prototype → Bytes
function_bytes named [] = []
function_bytes named (p ∷ ps) = source_bytes named p.source_name ++ behind_source p (flatten (foldr nest [] ps))
