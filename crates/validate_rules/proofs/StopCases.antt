-- Worked cases near the stop of validation (validator.rs, `MAX_DIAGNOSTICS`; 01, 'validator.rs'), one theorem over the list for each of the two definitions: by groups (specs/Findings.antt) and by the Rust's loops
-- (specs/Rust.antt). Both take the maximum as a parameter, so that cases compute; `stops_at` and `loops-stop-at` say that the real one is 10,000.
--     cases            maximum, warnings of the reading, the words of each function; then the findings, whether the search was stopped, and the verdict
--     by_groups, by_loops      each definition gives every case's result
--     near_the_end     at the real maximum: 10,000 after the last instruction are no stop, 10,001 are one, 10,000 with anything behind are one
-- Ruled out, with the case that does it: the stop tested with `>` (b, c) or after the instruction (a); exactly as many after the last instruction called a stop (a, f, h); the last test left out (d); functions not
-- tested, or only those with instructions (c); incomplete before invalid (d, g); an error behind the stop found (e); the reading's warnings not counted (i, j) or listed (h); a stop that forgets what was found (b).
-- Assumes nothing.
use mathlib.Core.Path.{◌≡◌, refl}
use mathlib.Core.Bool.{Bool, true, false}
use mathlib.Core.List.{List, [], ◌∷◌, ◌++◌, map}
use mathlib.Core.Option.{none}
use Prim.Native.Nat.{ℕ}
use lib.ListN.{length}
use Rattle.format.specs.Reading.{Prototype, Reading}
use Rattle.word_fields.specs.Word.{decoded}
use Rattle.validate_rules.specs.declared.finding.Finding.{Finding}
use Rattle.validate_rules.specs.declared.finding.Rule.TheVariants.{Opcode, Register, Upvalue}
use Rattle.validate_rules.specs.declared.finding.Verdict.{Verdict}
use Rattle.validate_rules.specs.declared.finding.Verdict.TheVariants.{ValidForAnalysis, Invalid, Incomplete}
use Rattle.validate_rules.specs.Rules.{at, instruction}
use Rattle.validate_rules.specs.Findings.{code_groups, groups, Listing, ended, limited, chunk_findings, verdict}
use Rattle.validate_rules.specs.Rust.{over_code, over_functions, over_chunk, validate}

-- a function of these words, with a stack of 2 and empty lists
abbrev pub function : List ℕ → Prototype
function words = record {
  depth = 0;
  parent = 0;
  start = 0;
  end = 0;
  source_name = none;
  line_defined = 0;
  last_line_defined = 0;
  numparams = 0;
  is_vararg = 0;
  maxstacksize = 2;
  instructions = words;
  constants = [];
  upvalues = [];
  protos = 0;
  line_info_lem = [];
  abs_line_info = [];
  loc_vars = [];
  upvalue_names_lem = [];
  places = record {
    instructions = 0;
    constants = 0;
    upvalues = 0;
    protos = 0;
    line_info_lem = 0;
    abs_line_info = 0;
    loc_vars = 0;
    upvalue_names_lem = 0;
  };
}

-- words, and what they add: RETURN0 nothing; MOVE to register 2 a warning; a word without an opcode an error; GETUPVAL of upvalue 0 to register 2 a warning and an error
abbrev pub fine : ℕ
fine = 0x47

abbrev pub warns : ℕ
warns = 0x100

abbrev pub errs : ℕ
errs = 0x53

abbrev pub twice : ℕ
twice = 0x109

-- and the findings of each, as instruction pc of function k
abbrev pub one_warned : ℕ → ℕ → List Finding
one_warned k pc = at k pc (Register 2 ∷ [])

abbrev pub one_erred : ℕ → ℕ → List Finding
one_erred k pc = at k pc (Opcode 0x53 ∷ [])

abbrev pub one_both : ℕ → ℕ → List Finding
one_both k pc = at k pc (Register 2 ∷ Upvalue 0 ∷ [])

pub record Case : Type 0 where
  pub max : ℕ
  pub warnings : ℕ
  pub code : List (List ℕ)
  pub findings : List Finding
  pub stopped : Bool
  pub verdict : Verdict

abbrev pub case : ℕ → ℕ → List (List ℕ) → List Finding → Bool → Verdict → Case
case max warnings code findings stopped v = record { max = max; warnings = warnings; code = code; findings = findings; stopped = stopped; verdict = v }

unfoldable pub cases : List Case
cases =
    -- nothing to find; and one below the maximum, in two functions, the last with words behind
    case 3 0 ((fine ∷ []) ∷ []) [] false ValidForAnalysis
    ∷ case 3 0 ((warns ∷ []) ∷ (fine ∷ warns ∷ fine ∷ []) ∷ []) (one_warned 0 0 ++ one_warned 1 1) false ValidForAnalysis
    -- a. exactly the maximum after the last instruction: no stop
    ∷ case 3 0 ((warns ∷ warns ∷ warns ∷ []) ∷ []) (one_warned 0 0 ++ one_warned 0 1 ++ one_warned 0 2) false ValidForAnalysis
    ∷ case 3 0 ((warns ∷ []) ∷ (warns ∷ fine ∷ warns ∷ []) ∷ []) (one_warned 0 0 ++ one_warned 1 0 ++ one_warned 1 2) false ValidForAnalysis
    -- b. the maximum with an instruction behind, though it adds nothing: a stop
    ∷ case 3 0 ((warns ∷ warns ∷ warns ∷ fine ∷ []) ∷ []) (one_warned 0 0 ++ one_warned 0 1 ++ one_warned 0 2) true Incomplete
    -- c. with a function behind, though it is empty: a stop
    ∷ case 3 0 ((warns ∷ warns ∷ warns ∷ []) ∷ [] ∷ []) (one_warned 0 0 ++ one_warned 0 1 ++ one_warned 0 2) true Incomplete
    ∷ case 3 0 ((warns ∷ []) ∷ (warns ∷ warns ∷ []) ∷ [] ∷ (warns ∷ []) ∷ []) (one_warned 0 0 ++ one_warned 1 0 ++ one_warned 1 1) true Incomplete
    -- d. one more than the maximum after the last instruction, which adds two: a stop, and invalid
    ∷ case 3 0 ((warns ∷ warns ∷ twice ∷ []) ∷ []) (one_warned 0 0 ++ one_warned 0 1 ++ one_both 0 2) true Invalid
    ∷ case 3 0 ((twice ∷ twice ∷ []) ∷ []) (one_both 0 0 ++ one_both 0 1) true Invalid
    -- e. what stands behind the stop is not looked at: its error is not found
    ∷ case 3 0 ((warns ∷ warns ∷ warns ∷ errs ∷ []) ∷ []) (one_warned 0 0 ++ one_warned 0 1 ++ one_warned 0 2) true Incomplete
    ∷ case 3 0 ((warns ∷ warns ∷ warns ∷ []) ∷ (errs ∷ []) ∷ []) (one_warned 0 0 ++ one_warned 0 1 ++ one_warned 0 2) true Incomplete
    -- f. exactly the maximum by an instruction that adds two, the last: no stop, and invalid for its error
    ∷ case 4 0 ((twice ∷ twice ∷ []) ∷ []) (one_both 0 0 ++ one_both 0 1) false Invalid
    ∷ case 3 0 ((warns ∷ twice ∷ []) ∷ []) (one_warned 0 0 ++ one_both 0 1) false Invalid
    -- g. an error before the stop: invalid
    ∷ case 3 0 ((errs ∷ warns ∷ warns ∷ fine ∷ []) ∷ []) (one_erred 0 0 ++ one_warned 0 1 ++ one_warned 0 2) true Invalid
    ∷ case 2 0 ((twice ∷ []) ∷ (errs ∷ []) ∷ []) (one_both 0 0) true Invalid
    -- h. the reading's warnings count, and are not among the findings: at the maximum with them, no stop
    ∷ case 3 1 ((warns ∷ warns ∷ []) ∷ []) (one_warned 0 0 ++ one_warned 0 1) false ValidForAnalysis
    ∷ case 3 2 ((warns ∷ []) ∷ []) (one_warned 0 0) false ValidForAnalysis
    -- i. the same with an instruction, or a function, behind; and one more than the maximum: stops
    ∷ case 3 1 ((warns ∷ warns ∷ fine ∷ []) ∷ []) (one_warned 0 0 ++ one_warned 0 1) true Incomplete
    ∷ case 3 2 ((warns ∷ []) ∷ (fine ∷ []) ∷ []) (one_warned 0 0) true Incomplete
    ∷ case 3 2 ((twice ∷ []) ∷ []) (one_both 0 0) true Invalid
    -- j. warnings alone reach the maximum: nothing is looked at
    ∷ case 2 2 ((errs ∷ []) ∷ []) [] true Incomplete
    ∷ case 2 2 ([] ∷ []) [] true Incomplete
    ∷ []

abbrev pub expected : Case → Listing
expected c = record { findings = c.findings; stopped = c.stopped }

pub by_groups : map (λ c. limited c.max c.warnings (groups 0 (map function c.code))) cases ≡ map expected cases
unfolding cases limited groups code_groups instruction decoded
by_groups = refl

pub by_loops : map (λ c. over_chunk c.max c.warnings (map function c.code)) cases ≡ map expected cases
unfolding cases over_chunk over_functions over_code instruction decoded
by_loops = refl

pub verdicts : map (λ c. verdict (expected c)) cases ≡ map (λ c. c.verdict) cases
unfolding cases
verdicts = refl

-- ## The real maximum
pub stops_at : (r : Reading) → chunk_findings r ≡ limited 10000 (length r.warnings) (groups 0 r.functions)
unfolding chunk_findings
stops_at r = refl

pub loops_stop_at : (r : Reading) → validate r ≡ over_chunk 10000 (length r.warnings) r.functions
unfolding validate
loops_stop_at r = refl

-- after the last instruction; with a function or an instruction behind, whose findings g would be
pub near_the_end : (g : List Finding) (gs : List (List Finding)) → (limited 10000 10000 [] ≡ ended false) × (limited 10000 10001 [] ≡ ended true) × (limited 10000 10000 (g ∷ gs) ≡ ended true)
unfolding limited
near_the_end g gs = (refl, refl, refl)
