-- The rows of the functions of a chunk, in the order in which their bytes begin; and the rows that are still to come from a place in the
-- middle, where `left` says how many functions are left at each level. A reading that is refused gives the rows up to there.
-- (The totals over all functions are not tested: this is a pass over a chunk that was read. `proofs/Agreement.antt`: its rows are those of the reading.)
use Rattle.std.specs.Prelude.{Option, Some, None, Result, Ok, Err}
use Rattle.format.specs.declared.refusal.Refusal.{Refusal}
use Rattle.read_prototype.specs.declared.parts.Tail.{Tail}
use Rattle.slice.specs.declared.cursor.Cursor.{Cursor}
use Rattle.std.specs.Prelude.{ℕ, zero, suc, ◌+◌, ◌-◌, ◌<◌, ◌≤◌, Bool, true, false, List, [], ◌∷◌, ◌++◌, length, drop, get_or, set}
use Rattle.format.specs.declared.limits.ResourceLimits.{ResourceLimits}
use Rattle.format.specs.Limits.{DEEPEST, MOST}
use Rattle.format.specs.Form.{Bytes}
use Rattle.format.specs.Reading.{Prototype}
use Rattle.read_prototype.specs.declared.parts.Head.{Head}
use Rattle.read_prototype.specs.Parts.{head, tail}
use Rattle.read_prototype.specs.PartsShown.{head_result, tail_result}
use Rattle.read_next.specs.declared.Row.{Row}

-- the levels of functions, main's included
abbrev pub LEVELS : ℕ
LEVELS = DEEPEST + 1

abbrev pub row_shown : ℕ → Head → Row
row_shown depth h = record {
  depth = depth;
  lines = h.front.lines;
  sizes = h.front.sizes;
  instructions = h.lists.instructions.count;
  constants = h.lists.constants.count;
  upvalues = h.lists.upvalues.count;
  protos = h.protos.count;
  instructions_at = h.lists.instructions.place;
}

-- a function's head, and its tail
unfoldable pub head_at : ResourceLimits → Bytes → ℕ → Result (Head × Cursor) Refusal
head_at L s at = head_result (head L 0 at (drop at s))

unfoldable pub tail_at : ResourceLimits → Bytes → ℕ → Result (Tail × Cursor) Refusal
tail_at L s at = tail_result (tail L.max_string_bytes at (drop at s))

abbrev pub on_head : {R : Type 0} → ℕ → Result (Head × Cursor) Refusal → R → (Row → ℕ → R) → R
on_head depth (Ok (h, next)) bad good = good (row_shown depth h) next.at
on_head depth (Err q) bad good = bad

abbrev pub on_tail : {R : Type 0} → Result (Tail × Cursor) Refusal → R → (ℕ → R) → R
on_tail (Ok (t, next)) bad good = good next.at
on_tail (Err q) bad good = bad

-- rows and the place behind them, or the rows up to a refusal
pub data Walked : Type 0 where
  through : List Row → ℕ → Walked
  cut : List Row → Walked

abbrev pub before : List Row → Walked → Walked
before rows (through more place) = through (rows ++ more) place
before rows (cut more) = cut (rows ++ more)

abbrev pub and_then : Walked → (ℕ → Walked) → Walked
and_then (through rows place) k = before rows (k place)
and_then (cut rows) k = cut rows

-- n functions, one behind the other, where `one` reads one
unfoldable pub times : (ℕ → Walked) → ℕ → ℕ → Walked
times one zero at = through [] at
times one (suc n) at = and_then (one at) (times one n)

-- a function of a level, where `nested` reads so many nested functions
unfoldable pub body_at : ResourceLimits → Bytes → ℕ → (ℕ → ℕ → Walked) → ℕ → Walked
body_at L s depth nested at =
    on_head depth (head_at L s at) (cut []) (λ row first.
    before (row ∷ []) (and_then (nested row.protos first) (λ behind.
    on_tail (tail_at L s behind) (cut []) (through []))))

-- a function, at most so many levels deep: of all levels those that are left
unfoldable pub function_at : ResourceLimits → Bytes → ℕ → ℕ → Walked
function_at L s zero at = cut []
function_at L s (suc levels) at = body_at L s (DEEPEST - levels) (times (function_at L s levels)) at

abbrev pub rows_of : Walked → List Row
rows_of (through rows place) = rows
rows_of (cut rows) = rows

-- THE ROWS OF A CHUNK: those of the function at a place, with all levels
unfoldable pub chunk_rows : ResourceLimits → Bytes → ℕ → List Row
chunk_rows L s at = rows_of (function_at L s LEVELS at)

-- the rows of a walk, and then those from the place behind it
abbrev pub onward : Walked → (ℕ → List Row) → List Row
onward (through rows place) k = rows ++ k place
onward (cut rows) k = rows

-- WHAT IS STILL TO COME at the place `at` of a function whose nested functions are at the level d: those left at this level, the tail of the
-- function, and what is still to come one level up
unfoldable pub rows_from : ResourceLimits → Bytes → List ℕ → ℕ → ℕ → List Row
rows_from L s left zero at = onward (times (function_at L s LEVELS) (get_or left 0 0) at) (λ behind. [])
rows_from L s left (suc d) at =
    onward (times (function_at L s (LEVELS - suc d)) (get_or left (suc d) 0) at) (λ behind.
    on_tail (tail_at L s behind) [] (rows_from L s left d))

abbrev pub any_row : List Row → Bool
any_row [] = false
any_row (row ∷ rows) = true

-- what the code's answers say
abbrev pub up_to : ResourceLimits → Bytes → List ℕ → Option (ℕ × Cursor) → List Row
up_to L s left (Some (d, place)) = rows_from L s left d place.at
up_to L s left None = []

abbrev pub Ready : List ℕ → Option (ℕ × Cursor) → Type 0
Ready left (Some (d, place)) = (d < LEVELS) × (0 < get_or left d 0)
Ready left None = Unit {0}

-- one function fewer at the level d, and n at the level below it
abbrev pub entered : List ℕ → ℕ → ℕ → List ℕ
entered left d n = set (set left d (get_or left d 0 - 1)) (d + 1) n

abbrev pub met : ResourceLimits → Bytes → List ℕ → Option (Row × ℕ × Cursor) → List Row
met L s left (Some (row, d, first)) = row ∷ rows_from L s (entered left d row.protos) (d + 1) first.at
met L s left None = []

abbrev pub Within : List ℕ → Option (Row × ℕ × Cursor) → Type 0
Within left (Some (row, d, first)) = (d < LEVELS) × (0 < get_or left d 0) × (row.instructions ≤ MOST)
Within left None = Unit {0}

-- ## What a function of a reading shows
abbrev pub prototype_row : Prototype → Row
prototype_row p = record {
  depth = p.depth;
  lines = record { line_defined = p.line_defined; last_line_defined = p.last_line_defined };
  sizes = record { numparams = p.numparams; is_vararg = p.is_vararg; maxstacksize = p.maxstacksize };
  instructions = length p.instructions;
  constants = length p.constants;
  upvalues = length p.upvalues;
  protos = p.protos;
  instructions_at = p.places.instructions;
}
