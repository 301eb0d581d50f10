-- What is shown of a chunk as a whole.
use Rattle.std.specs.Prelude.{Result, Ok, Err}
use Rattle.format.specs.declared.refusal.Refusal.{Refusal}
use Rattle.show_chunk.specs.declared.summary.ChunkSummary.{ChunkSummary}
use Rattle.std.specs.Prelude.{[]}
use Rattle.format.specs.declared.spelling.Spelling.{Spelling}
use Rattle.format.specs.Form.{Bytes}
use Rattle.format.specs.ReadChunk.{Outcome, shown, refusal}
use Rattle.read_chunk.specs.Decoded.{summary_of}

-- beside the reading, how many of the chunk's numbers are padded, by how it is spelt: they are no part of the reading (02, item 1)
abbrev pub shown_summary : Spelling → Outcome → Result ChunkSummary Refusal
shown_summary k (shown r) = Ok (record { summary = summary_of r; padded_numbers = k.padded })
shown_summary k (refusal q) = Err q

-- of a chunk that is refused none
abbrev pub trailing_of : Outcome → Bytes
trailing_of (shown r) = r.trailing
trailing_of (refusal q) = []
