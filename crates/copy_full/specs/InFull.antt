-- What the calls on the full copy answer, and what they leave of lent memory: as those on the archive copy (crates/copy/specs/Copied.antt), by the full copy.
--     shown_full_length o        the length of the full copy, where o was read
--     shown_full space o        the same; 26 where the space is shorter, after every other refusal
--     full_written old o        what then stands in the lent memory that held `old`
use Rattle.std.specs.Prelude.{ℕ, Result}
use Rattle.format.specs.declared.refusal.Refusal.{Refusal}
use Rattle.format.specs.Form.{Bytes}
use Rattle.format.specs.ReadChunk.{Outcome}
use Rattle.format.specs.FullCopy.{full_copy}
use Rattle.copy.specs.Copied.{length_by, shown_by, written_by}

abbrev pub shown_full_length : Outcome → Result ℕ Refusal
shown_full_length = length_by full_copy

abbrev pub shown_full : ℕ → Outcome → Result ℕ Refusal
shown_full = shown_by full_copy

abbrev pub full_written : Bytes → Outcome → Bytes
full_written = written_by full_copy
