-- What the walk that finds one function leaves of it, its spot, and the row that is read there.
--     spot_of a k tail      the six numbers of a spot
--     standing L s a k     where the function stands that inherits a, behind the walk k
--     function_at, functions_at      what is read there: a function, or n of them
--     row_at L s l          the row that is read at a spot, where both parts of a function are read there
--     Found n k o r r'     where o was read, numbered from k on, the row r' is that of the function n, if it is among them, else still r
use Rattle.std.specs.Prelude as prelude
use Rattle.std.specs.Prelude.{Some, None, Result, Ok, Err}
use Rattle.format.specs.declared.refusal.Refusal.{Refusal}
use Rattle.read_field.specs.declared.string.StringAt.{StringAt}
use Rattle.slice.specs.declared.cursor.Cursor.{Cursor}
use Rattle.std.specs.Prelude.{◌≡◌, Bool, List, [], ◌∷◌, ℕ, ◌+◌, drop, get_or}
use Rattle.std.proofs.Math.Option.{Option, none, some}
use Rattle.format.specs.declared.limits.ResourceLimits.{ResourceLimits}
use Rattle.format.specs.Form.{Bytes}
use Rattle.format.specs.Reading.{Prototype}
use Rattle.format.specs.GrammarChunk as grammar
use Rattle.format.specs.Read.{Read, ok}
use Rattle.format.specs.ReadChunk.{forest, function}
use Rattle.read_field.specs.Shown.{option_string}
use Rattle.read_prototype.specs.declared.parts.Head.{Head}
use Rattle.read_prototype.specs.declared.parts.Tail.{Tail}
use Rattle.read_prototype.specs.declared.row.FunctionRow.{FunctionRow}
use Rattle.read_prototype.specs.Parts as parts
use Rattle.read_prototype.specs.PartsShown.{head_result, tail_result}
use Rattle.read_prototype.specs.Inner.Row.{row_of, lookup}
use Rattle.read_walk.specs.declared.walk.Skimmed.{Skimmed}
use Rattle.read_walk.specs.Inner.Skim.{entered}
use Rattle.read_walk.specs.Inner.Source.{source_at, handed}
use Rattle.read_find.specs.declared.spot.Above.{Above}

abbrev pub spot_of : Above → Skimmed → ℕ → List ℕ
spot_of a k tail = k.next.at ∷ tail ∷ k.instructions ∷ a.depth ∷ a.parent ∷ a.source ∷ []

-- what the functions inherit that nest in one
abbrev pub below_shown : Above → Skimmed → Bool → Above
below_shown a k named = record { depth = a.depth + 1; parent = k.number; source = handed named k.next.at a.source }

abbrev pub standing : ResourceLimits → Bytes → Above → Skimmed → grammar.Where
standing L s a k = record { number = k.number; instructions = k.instructions; depth = a.depth; parent = a.parent; source = source_at L.max_string_bytes s a.source }

abbrev pub function_at : ResourceLimits → Bytes → ℕ → Above → Skimmed → Read (List Prototype)
function_at L s left a k = function L left (standing L s a k) k.next.at (drop k.next.at s)

abbrev pub functions_at : ResourceLimits → Bytes → ℕ → ℕ → Above → Skimmed → Read (List Prototype)
functions_at L s n left a k = forest n (entered L left) (standing L s a k) k.next.at (drop k.next.at s)

-- ## The row at a spot
abbrev pub inherit_shown : prelude.Option StringAt → prelude.Option StringAt → prelude.Option StringAt
inherit_shown (Some t) parent = Some t
inherit_shown None parent = parent

abbrev pub row_shown : ℕ → ℕ → prelude.Option StringAt → ℕ → Head → Tail → ℕ → FunctionRow
row_shown depth parent source start head tail end = record {
  start = start;
  end = end;
  depth = depth;
  parent = parent;
  source_name = inherit_shown head.front.source source;
  lines = head.front.lines;
  sizes = head.front.sizes;
  lists = record {
    instructions = head.lists.instructions;
    constants = head.lists.constants;
    upvalues = head.lists.upvalues;
    protos = head.protos;
    line_info = tail.line_info;
    abs_line_info = tail.abs_line_info;
    loc_vars = tail.loc_vars;
    upvalue_names = tail.upvalue_names;
  };
}

-- of what is read before and behind the nested functions
abbrev pub row_from : ℕ → ℕ → prelude.Option StringAt → ℕ → Result (Head × Cursor) Refusal → Result (Tail × Cursor) Refusal → prelude.Option FunctionRow
row_from depth parent source start (Ok (h, c)) (Ok (t, d)) = Some (row_shown depth parent source start h t d.at)
row_from depth parent source start (Ok (h, c)) (Err q) = None
row_from depth parent source start (Err q) t = None

abbrev pub row_at : ResourceLimits → Bytes → List ℕ → prelude.Option FunctionRow
row_at L s l =
    let start = get_or l 0 0 in
    let behind = get_or l 1 0 in
    let source = option_string (source_at L.max_string_bytes s (get_or l 5 0)) in
    row_from (get_or l 3 0) (get_or l 4 0) source start (head_result (parts.head L (get_or l 2 0) start (drop start s))) (tail_result (parts.tail L.max_string_bytes behind (drop behind s)))

-- ## What a walk leaves
abbrev pub row_or : Option Prototype → prelude.Option FunctionRow → prelude.Option FunctionRow
row_or none before = before
row_or (some p) before = Some (row_of p)

pub record Found (wanted first : ℕ) (o : Read (List Prototype)) (before after : prelude.Option FunctionRow) : Type 0 where
  pub found : (ps : List Prototype) (to : ℕ) (rest : Bytes) → o ≡ ok ps to rest → after ≡ row_or (lookup wanted first ps) before
