-- THE FINDINGS OF A CHUNK by groups (validator.rs, `validate_chunk_lua54`). Its functions in order give groups of findings: an empty one for a function itself, and
-- one for each of its instructions. Before each group comes the Rust's test whether there are enough diagnostics already.
--     limited max n gs     the findings of groups, where there are n diagnostics already
--     chunk_findings r      of a reading, whose warnings count
--     verdict              on findings
use Rattle.std.specs.Prelude.{Bool, true, false, cond, List, [], ◌∷◌, ◌++◌, ℕ, ◌+◌, length, leb, ltb}
use Rattle.format.specs.Any.{any}
use Rattle.format.specs.Ascii.{ascii}
use Rattle.format.specs.Reading.{Prototype, Reading}
use Rattle.validate_rules.specs.declared.finding.Finding.{Finding}
use Rattle.validate_rules.specs.declared.finding.Severity.{Severity}
use Rattle.validate_rules.specs.declared.finding.Severity.TheVariants.{Error, Warning}
use Rattle.validate_rules.specs.declared.finding.Bounds.{Bounds}
use Rattle.validate_rules.specs.declared.finding.Verdict.{Verdict}
use Rattle.validate_rules.specs.declared.finding.Verdict.TheVariants.{ValidForAnalysis, Invalid, Incomplete}
use Rattle.validate_rules.specs.Rules.{severity, instruction}

-- `MAX_DIAGNOSTICS`
abbrev pub MAX-DIAGNOSTICS : ℕ
MAX-DIAGNOSTICS = 10000

-- `num_instructions`, `num_constants`, `num_upvalues`, `num_protos`, and `maxstacksize`
abbrev pub bounds_of : Prototype → Bounds
bounds_of p = record {
  maxstacksize = p.maxstacksize;
  instructions = length p.instructions;
  constants = length p.constants;
  upvalues = length p.upvalues;
  protos = p.protos;
}

-- the groups of the words of function k from pc on
unfoldable pub code_groups : ℕ → Bounds → List ℕ → ℕ → List (List Finding)
code_groups k b [] pc = []
code_groups k b (word ∷ words) pc = instruction k b pc word ∷ code_groups k b words (pc + 1)

-- the groups of functions, of which the first has the number k
unfoldable pub groups : ℕ → List Prototype → List (List Finding)
groups k [] = []
groups k (p ∷ ps) = [] ∷ (code_groups k (bounds_of p) p.instructions 0 ++ groups (k + 1) ps)

-- findings, and whether the search was stopped: `limit_reached`
pub record Listing : Type 0 where
  pub findings : List Finding
  pub stopped : Bool

abbrev pub ended : Bool → Listing
ended b = record { findings = []; stopped = b }

abbrev pub prepend : List Finding → Listing → Listing
prepend l rest = record { findings = l ++ rest.findings; stopped = rest.stopped }

-- at the end more than the maximum is a stop too
unfoldable pub limited : ℕ → ℕ → List (List Finding) → Listing
limited max n [] = ended (ltb max n)
limited max n (g ∷ gs) = cond (leb max n) (ended true) (prepend g (limited max (n + length g) gs))

unfoldable pub chunk_findings : Reading → Listing
chunk_findings r = limited MAX-DIAGNOSTICS (length r.warnings) (groups 0 r.functions)

-- ## The verdict
abbrev pub is_error : Severity → Bool
is_error Error = true
is_error Warning = false

-- `has_errors`: the warnings of the reading are none
abbrev pub any_error : List Finding → Bool
any_error fs = any (λ f. is_error (severity f.rule)) fs

abbrev pub verdict : Listing → Verdict
verdict l = cond (any_error l.findings) Invalid (cond l.stopped Incomplete ValidForAnalysis)

-- 01's word for each
abbrev pub verdict_word : Verdict → List ℕ
verdict_word ValidForAnalysis = ascii "valid-for-analysis"
verdict_word Invalid = ascii "invalid"
verdict_word Incomplete = ascii "incomplete"
