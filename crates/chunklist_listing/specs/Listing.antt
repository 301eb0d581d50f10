-- WHAT `chunklist` PRINTS of a file (01, 'Calls', last paragraph), in ASCII.
--     function_line k p     the line of a function, whose number is k
--     listing s            all that is printed of the file s
use Rattle.std.specs.Prelude.{ℕ, ◌+◌, List, [], ◌∷◌, ◌++◌, length}
use Rattle.format.specs.declared.limits.ResourceLimits.{ResourceLimits}
use Rattle.format.specs.Limits.{ceilings}
use Rattle.format.specs.Form.{Bytes}
use Rattle.format.specs.Reading.{Prototype, Reading}
use Rattle.format.specs.ReadChunk.{Outcome, shown, refusal, read}
use Rattle.validate_rules.specs.declared.finding.Verdict.{Verdict}
use Rattle.validate_rules.specs.Findings.{chunk_findings, verdict}
use Rattle.chunklist_lines.specs.Lines.{decimal, spaced, first_line, refusal_line}

-- number, depth, first line, last line, parameters, vararg, stack, instructions, constants, upvalues
abbrev pub function_line : ℕ → Prototype → List ℕ
function_line k p =
    decimal k ++ spaced (
    p.depth
    ∷ p.line_defined
    ∷ p.last_line_defined
    ∷ p.numparams
    ∷ p.is_vararg
    ∷ p.maxstacksize
    ∷ length p.instructions
    ∷ length p.constants
    ∷ length p.upvalues
    ∷ []
    )

-- a line for each function, of which the first has the number k
abbrev pub function_lines : ℕ → List Prototype → List ℕ
function_lines k [] = []
function_lines k (p ∷ ps) = function_line k p ++ function_lines (k + 1) ps

-- ## The whole
abbrev pub list_limits : ResourceLimits
list_limits = record {
  max_input_bytes = 49152;
  max_nesting_depth = ceilings.max_nesting_depth;
  max_total_prototypes = ceilings.max_total_prototypes;
  max_instructions_per_proto = ceilings.max_instructions_per_proto;
  max_total_instructions = ceilings.max_total_instructions;
  max_constants_per_proto = ceilings.max_constants_per_proto;
  max_upvalues_per_proto = ceilings.max_upvalues_per_proto;
  max_string_bytes = ceilings.max_string_bytes;
  max_diagnostics = ceilings.max_diagnostics;
}

-- a line for the chunk, with a verdict, and one for each function
abbrev pub chunk_lines : ℕ → Verdict → Reading → List ℕ
chunk_lines bytes v r = first_line bytes (length r.functions) (length r.trailing) v ++ function_lines 0 r.functions

abbrev pub listed : ℕ → Outcome → List ℕ
listed bytes (shown r) = chunk_lines bytes (verdict (chunk_findings r)) r
listed bytes (refusal q) = refusal_line q

abbrev pub listing : Bytes → List ℕ
listing s = listed (length s) (read list_limits s)
