-- What is shown of a chunk as a whole, as the code has it.
use Rattle.std.specs.Prelude.{List, length, drop}
use Rattle.format.specs.declared.header.Warning.{Warning}
use Rattle.format.specs.Reading.{Reading}
use Rattle.read_header.specs.Shown.{first_warning}
use Rattle.read_chunk.specs.declared.summary.Warnings.{Warnings}
use Rattle.read_chunk.specs.declared.summary.Summary.{Summary}

-- a reading has at most two warnings
abbrev pub shown_warnings : List Warning → Warnings
shown_warnings ws = record { first = first_warning ws; second = first_warning (drop 1 ws) }

abbrev pub summary_of : Reading → Summary
summary_of r = record {
  header = r.header;
  warnings = shown_warnings r.warnings;
  functions = length r.functions;
  trailing_at = r.trailing_at;
  trailing_len = length r.trailing;
}
