-- What is shown of main and all functions that nest in it, as a reader gives them: where they end, and the row of one.
use Rattle.std.specs.Prelude.{Option, Result, Ok, Err}
use Rattle.format.specs.declared.refusal.Refusal.{Refusal}
use Rattle.read_prototype.specs.declared.row.FunctionRow.{FunctionRow}
use Rattle.read_walk.specs.declared.walk.Skimmed.{Skimmed}
use Rattle.std.specs.Prelude.{List, ℕ}
use Rattle.format.specs.Reading.{Prototype}
use Rattle.format.specs.GrammarChunk.{outermost}
use Rattle.format.specs.Read.{Read, ok, refused}
use Rattle.read_prototype.specs.Inner.Row.{shown_row, lookup}
use Rattle.read_walk.specs.Inner.Skim.{skimmed_of}

abbrev pub find_result : ℕ → Read (List Prototype) → Result (Skimmed × Option FunctionRow) Refusal
find_result wanted (ok ps to rest) = Ok ((skimmed_of outermost ps to), (shown_row (lookup wanted 0 ps)))
find_result wanted (refused q) = Err q
