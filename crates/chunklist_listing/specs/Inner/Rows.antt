-- What `chunklist` prints, of the code's values.
use Rattle.std.specs.Prelude.{ℕ, ◌+◌, List, [], ◌∷◌, ◌++◌}
use Rattle.format.specs.ReadChunk.{Outcome, shown, refusal}
use Rattle.read_next.specs.declared.Row.{Row}
use Rattle.validate_rules.specs.declared.finding.Verdict.{Verdict}
use Rattle.chunklist_lines.specs.Inner.Rows.{row_line}
use Rattle.chunklist_listing.specs.Listing.{chunk_lines}

-- of a chunk that has this verdict; nothing, where it is refused
abbrev pub lines_of : ℕ → Verdict → Outcome → List ℕ
lines_of bytes v (shown r) = chunk_lines bytes v r
lines_of bytes v (refusal q) = []

abbrev pub row_lines : ℕ → List Row → List ℕ
row_lines k [] = []
row_lines k (row ∷ rows) = row_line k row ++ row_lines (k + 1) rows
