-- What a walk over functions shows of those that a reader gives.
--     entered L left w     a function that nests in another, below which functions nest at most `left` deep; `enteredBy f` where f reads the function
--     on w k               where the next function stands, behind a walk that began at w
--     skim_result w o       what a walk that began at w shows of what was read
use Rattle.std.specs.Prelude.{Result, Ok, Err}
use Rattle.format.specs.declared.refusal.Refusal.{Refusal}
use Rattle.std.specs.Prelude.{List, ℕ, zero, suc, ◌+◌, length}
use Rattle.format.specs.declared.limits.ResourceLimits.{ResourceLimits}
use Rattle.format.specs.declared.refusal.Refusal.TheVariants.{NestingDepth, TotalPrototypes}
use Rattle.format.specs.Reading.{Prototype}
use Rattle.format.specs.GrammarChunk as grammar
use Rattle.format.specs.GrammarChunk.{instructions_of}
use Rattle.format.specs.Read.{Read, ok, refused, Reader, ◌>>=◌, ◌>>◌, here, refuse, at_most}
use Rattle.format.specs.ReadChunk.{function}
use Rattle.slice.specs.Shown.{cursor_at}
use Rattle.read_walk.specs.declared.walk.Skimmed.{Skimmed}

abbrev pub entered_by : (ℕ → grammar.Where → Reader (List Prototype)) → ResourceLimits → ℕ → grammar.Where → Reader (List Prototype)
entered_by f L zero w = do
  place ← here
  refuse (NestingDepth place)
entered_by f L (suc left) w = do
  place ← here
  at_most w.number L.max_total_prototypes (TotalPrototypes place)
  f left w

abbrev pub entered : ResourceLimits → ℕ → grammar.Where → Reader (List Prototype)
entered L left w = entered_by (function L) L left w

abbrev pub on : grammar.Where → Skimmed → grammar.Where
on w k = record { number = k.number; instructions = k.instructions; depth = w.depth; parent = w.parent; source = w.source }

-- behind functions: the place, the number of the next one, and the instructions so far
abbrev pub skimmed_of : grammar.Where → List Prototype → ℕ → Skimmed
skimmed_of w ps to = record { next = cursor_at to; number = w.number + length ps; instructions = w.instructions + instructions_of ps }

abbrev pub skim_result : grammar.Where → Read (List Prototype) → Result Skimmed Refusal
skim_result w (ok ps to rest) = Ok (skimmed_of w ps to)
skim_result w (refused q) = Err q
