-- What the copying calls answer, and what they leave of lent memory: of the archive copy here, of the full copy in crates/copy_full/specs/InFull.antt.
--     shown_length o            the length of the copy, where o was read
--     shown_copy space o        the same; 26 where the space is shorter, after every other refusal
--     copy_written old o        what then stands in the lent memory that held `old`
--     length_by, shown_by, written_by     the same, by what the copy of a reading is
use Rattle.std.specs.Prelude.{cond, ℕ, leb, length, Result, Ok, Err}
use Rattle.format.specs.declared.refusal.Refusal.{Refusal}
use Rattle.format.specs.declared.refusal.Refusal.TheVariants.{LentSpace}
use Rattle.format.specs.Form.{Bytes}
use Rattle.format.specs.Reading.{Reading}
use Rattle.format.specs.ReadChunk.{Outcome, shown, refusal}
use Rattle.format.specs.Copy.{copy}
use Rattle.slice.specs.Over.{over}

abbrev pub length_by : (Reading → Bytes) → Outcome → Result ℕ Refusal
length_by copied (shown r) = Ok (length (copied r))
length_by copied (refusal q) = Err q

abbrev pub shown_by : (Reading → Bytes) → ℕ → Outcome → Result ℕ Refusal
shown_by copied space (shown r) = cond (leb (length (copied r)) space) (Ok (length (copied r))) (Err LentSpace)
shown_by copied space (refusal q) = Err q

-- the copy, and behind it what stood there; on any refusal all that stood there
abbrev pub written_by : (Reading → Bytes) → Bytes → Outcome → Bytes
written_by copied old (shown r) = over (copied r) old
written_by copied old (refusal q) = old

abbrev pub shown_length : Outcome → Result ℕ Refusal
shown_length = length_by copy

abbrev pub shown_copy : ℕ → Outcome → Result ℕ Refusal
shown_copy = shown_by copy

abbrev pub copy_written : Bytes → Outcome → Bytes
copy_written = written_by copy
