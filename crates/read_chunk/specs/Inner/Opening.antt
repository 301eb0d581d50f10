-- What the code shows of a chunk up to main.
use Rattle.std.specs.Prelude.{Result, Ok, Err}
use Rattle.format.specs.declared.refusal.Refusal.{Refusal}
use Rattle.read_chunk.specs.declared.Opening.{Opening}
use Rattle.std.specs.Prelude.{cond, leb, length}
use Rattle.format.specs.declared.limits.ResourceLimits.{ResourceLimits}
use Rattle.format.specs.declared.refusal.Refusal.TheVariants.{LimitAboveCeiling, InputBytes}
use Rattle.format.specs.Form.{Bytes}
use Rattle.format.specs.Limits.{within_ceilings}
use Rattle.format.specs.GrammarHeader.{Headed}
use Rattle.format.specs.Read.{Read, ok, refused, Reader, ◌>>=◌, give}
use Rattle.format.specs.ReadFields.{byte}
use Rattle.format.specs.ReadHeader.{header}
use Rattle.slice.specs.Shown.{cursor_at}
use Rattle.read_header.specs.Shown.{first_warning}

-- the header, and the byte behind it
abbrev pub before_main : Reader Headed
before_main = do
  headed ← header
  forgotten ← byte
  give headed

-- behind the tests of the limits and of the length
abbrev pub opened : ResourceLimits → Bytes → Read Headed
opened L chunk = cond (within_ceilings L) (cond (leb (length chunk) L.max_input_bytes) (before_main 0 chunk) (refused InputBytes)) (refused LimitAboveCeiling)

abbrev pub opening_result : Read Headed → Result Opening Refusal
opening_result (ok h to rest) = Ok (record { header = h.header; warning = first_warning h.warnings; next = cursor_at to })
opening_result (refused q) = Err q
