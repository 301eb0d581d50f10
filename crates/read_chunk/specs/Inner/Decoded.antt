-- What the code shows of a chunk's reading.
use Rattle.std.specs.Prelude.{Option, Some, None, Result, Ok, Err}
use Rattle.format.specs.declared.refusal.Refusal.{Refusal}
use Rattle.read_chunk.specs.declared.summary.Decoded.{Decoded}
use Rattle.std.specs.Prelude.{List, [], ◌∷◌, ◌++◌, ℕ, length, take, drop}
use Rattle.format.specs.declared.header.Warning.{Warning}
use Rattle.format.specs.declared.spelling.Spelling.{Spelling}
use Rattle.format.specs.Form.{Bytes}
use Rattle.format.specs.GrammarChunk.{trailing_warnings}
use Rattle.format.specs.ReadChunk.{Outcome, shown, refusal}
use Rattle.slice.specs.declared.cursor.Cursor.{Cursor}
use Rattle.read_prototype.specs.Inner.Row.{shown_row, lookup}
use Rattle.read_chunk.specs.declared.Opening.{Opening}
use Rattle.read_chunk.specs.declared.summary.Summary.{Summary}
use Rattle.read_chunk.specs.Decoded.{shown_warnings, summary_of}

-- how the chunk is spelt, and its reading
abbrev pub spelt_result : Spelling → Outcome → Result (Summary × Spelling) Refusal
spelt_result k (shown r) = Ok ((summary_of r), k)
spelt_result k (refusal q) = Err q

abbrev pub judged_result : Outcome → Result Summary Refusal
judged_result (shown r) = Ok (summary_of r)
judged_result (refusal q) = Err q

abbrev pub decoded_result : ℕ → Outcome → Result Decoded Refusal
decoded_result wanted (shown r) = Ok (record { summary = summary_of r; row = shown_row (lookup wanted 0 r.functions) })
decoded_result wanted (refusal q) = Err q

-- ## The same of the code's values
abbrev pub list_of : Option Warning → List Warning
list_of None = []
list_of (Some w) = w ∷ []

abbrev pub summary_shown : Bytes → ℕ → Opening → Cursor → ℕ → Summary
summary_shown s limit o next n = record {
  header = o.header;
  warnings = shown_warnings (take limit (list_of o.warning ++ trailing_warnings next.at (drop next.at s)));
  functions = n;
  trailing_at = next.at;
  trailing_len = length (drop next.at s);
}
