-- The refusals of a call, in 01's order, each with its condition, its number and its place; and the refusal that an answer holds, as 01's number and place (`reported`).
--     first qs         the first of the conditions that holds
--     of_chunk L s      21, 22, then 1 to 20: what every call on a chunk tests
--     no_function ..    23, 24, 25, 26, 29 and 30, of a chunk that is read
--     for_chunk ..      all conditions of a call, in their order
--     in_summary ..     the refusal in an answer
use Rattle.std.specs.Prelude as prelude
use Rattle.std.specs.Prelude.{Some, None, Result, Ok, Err, ℤ}
use Rattle.format.specs.declared.entry.AbsLineInfo.{AbsLineInfo}
use Rattle.format.specs.declared.entry.UpvalueDesc.{UpvalueDesc}
use Rattle.format.specs.declared.refusal.Refusal.{Refusal}
use Rattle.read_entry.specs.declared.constant.ConstantValue.{ConstantValue}
use Rattle.read_field.specs.declared.string.StringAt.{StringAt}
use Rattle.show_chunk.specs.declared.fields.FunctionFields.{FunctionFields}
use Rattle.show_chunk.specs.declared.summary.ChunkSummary.{ChunkSummary}
use Rattle.show_local.specs.declared.LocalShown.{LocalShown}
use Rattle.validate_rules.specs.declared.finding.Verdict.{Verdict}
use Rattle.word_opcodes.specs.declared.opcode.Opcode54.{Opcode54}
use mathlib.Core.Path.{◌≡◌, refl}
use mathlib.Core.Bool.{Bool, cond}
use mathlib.Core.List.{List, [], ◌∷◌}
use mathlib.Core.Option.{Option, none, some}
use Prim.Native.Nat.{ℕ}
use lib.Dec.{leb}
use lib.ListN.{length, get_elem?}
use Rattle.format.specs.declared.limits.ResourceLimits.{ResourceLimits}
use Rattle.format.specs.declared.refusal.Refusal.{Refusal}
use Rattle.format.specs.declared.refusal.Report.{Report}
use Rattle.format.specs.Refusals.{bare, reported}
use Rattle.format.specs.Form.{Bytes}
use Rattle.format.specs.Limits.{within_ceilings}
use Rattle.format.specs.Reading.{Reading, Prototype, LocalVar}
use Rattle.format.specs.Read.{Read, ok, refused}
use Rattle.format.specs.ReadChunk.{Outcome, shown, refusal, main, read}
use Rattle.line_lookup.specs.Lines.{large}
use Rattle.line_batch.specs.Batch.{rises, never_falls}
use Rattle.word_opcodes.specs.Table.{mode_of}
use Rattle.word_fields.specs.declared.instruction.RawInstruction54.{RawInstruction54}
use Rattle.word_fields.proofs.Ranges.{in_range}

-- ## Conditions, in an order
-- a refusal where a test fails, and where something is not there
abbrev pub unless : Bool → Report → Option Report
unless b q = cond b none (some q)

abbrev pub missing : {A : Type 0} → Option A → Report → Option Report
missing none q = some q
missing (some x) q = none

abbrev pub first : List (Option Report) → Option Report
first [] = none
first (none ∷ qs) = first qs
first (some q ∷ qs) = some q

-- ## 21, 22, 1 to 20
abbrev pub by_reader : {A : Type 0} → Read A → Option Report
by_reader (ok x to rest) = none
by_reader (refused q) = some (reported q)

abbrev pub of_chunk : ResourceLimits → Bytes → List (Option Report) → List (Option Report)
of_chunk L s later = unless (within_ceilings L) (bare 21) ∷ unless (leb (length s) L.max_input_bytes) (bare 22) ∷ by_reader (main L 0 s) ∷ later

-- what a chunk that is read is then held to
abbrev pub and_then : Outcome → (Reading → List (Option Report)) → List (Option Report)
and_then (shown r) later = later r
and_then (refusal q) later = []

-- ## 23 to 26
abbrev pub no_function : ℕ → Reading → Option Report
no_function f r = missing (get_elem? r.functions f) (bare 23)

-- of a function that is there
abbrev pub of_function_lem : Option Prototype → (Prototype → Option Report) → Option Report
of_function_lem none q = none
of_function_lem (some p) q = q p

abbrev pub no_entry : {A : Type 0} → (Prototype → List A) → ℕ → ℕ → Reading → Option Report
no_entry list f i r = of_function_lem (get_elem? r.functions f) (λ p. missing (get_elem? (list p) i) (bare 24))

abbrev pub large_line : ℕ → Reading → Option Report
large_line f r = of_function_lem (get_elem? r.functions f) (λ p. cond (large p.line_defined p.abs_line_info) (some (bare 25)) none)

-- 02, item 3: the function's anchors, whatever the pcs are; the list of pcs
abbrev pub anchor_order : ℕ → Reading → Option Report
anchor_order f r = of_function_lem (get_elem? r.functions f) (λ p. unless (rises p.abs_line_info) (bare 29))

abbrev pub pc_order : List ℕ → Option Report
pc_order pcs = unless (never_falls pcs) (bare 30)

abbrev pub too_long_lem : {A : Type 0} → List A → ℕ → Option Report
too_long_lem result space = unless (leb (length result) space) (bare 26)

abbrev pub of_local : Option LocalVar → (LocalVar → Option Report) → Option Report
of_local none q = none
of_local (some l) q = q l

-- a local variable's name that is longer than the lent space
abbrev pub long_name : ℕ → ℕ → ℕ → Reading → Option Report
long_name space f i r = of_function_lem (get_elem? r.functions f) (λ p. of_local (get_elem? p.loc_vars i) (λ l. too_long_lem l.name.bytes space))

-- ## 28, 27
abbrev pub no_opcode : prelude.Option Opcode54 → Option Report
no_opcode None = some (bare 28)
no_opcode (Some o) = none

-- a field that the opcode's mode uses is out of its range
abbrev pub out_of_range : prelude.Option Opcode54 → RawInstruction54 → Option Report
out_of_range None r = none
out_of_range (Some o) r = unless (in_range (mode_of o) r) (bare 27)

-- ## Two laws
-- one condition alone
pub alone : (q : Option Report) → q ≡ first (q ∷ [])
alone none = refl
alone (some q) = refl

-- nothing is tested of what is read
pub nothing_later : (o : Outcome) → and_then o (λ r. []) ≡ []
nothing_later (shown r) = refl
nothing_later (refusal q) = refl

-- ## The conditions of each call, in 01's order
module _ (L : ResourceLimits) (s : Bytes) where
  -- on a chunk as a whole: 21, 22, 1 to 20
  abbrev pub for_chunk : List (Option Report)
  for_chunk = of_chunk L s []

  -- and then on what is read
  abbrev pub for_reading : (Reading → List (Option Report)) → List (Option Report)
  for_reading later = of_chunk L s (and_then (read L s) later)

  -- where a result is written into lent space: 26
  abbrev pub for_space : {A : Type 0} → (Reading → List A) → ℕ → List (Option Report)
  for_space result space = for_reading (λ r. too_long_lem (result r) space ∷ [])

  -- on a function: 23
  abbrev pub for_function : ℕ → List (Option Report)
  for_function f = for_reading (λ r. no_function f r ∷ [])

  -- on its lines: 23, 25
  abbrev pub for_line : ℕ → List (Option Report)
  for_line f = for_reading (λ r. no_function f r ∷ large_line f r ∷ [])

  -- on the lines of a list of pcs, which are written into lent space, a line for each pc: 23, 25, 29, 30, 26
  abbrev pub for_lines : ℕ → List ℕ → ℕ → List (Option Report)
  for_lines f pcs space = for_reading (λ r. no_function f r ∷ large_line f r ∷ anchor_order f r ∷ pc_order pcs ∷ too_long_lem pcs space ∷ [])

  -- on an entry of a list of it: 23, 24
  abbrev pub for_entry : {A : Type 0} → (Prototype → List A) → ℕ → ℕ → List (Option Report)
  for_entry list f i = for_reading (λ r. no_function f r ∷ no_entry list f i r ∷ [])

  -- on a local variable, whose name is written into lent space: 23, 24, 26
  abbrev pub for_local : ℕ → ℕ → ℕ → List (Option Report)
  for_local f i space = for_reading (λ r. no_function f r ∷ no_entry (λ p. p.loc_vars) f i r ∷ long_name space f i r ∷ [])

-- on a word that is encoded: 28, 27
abbrev pub for_word : RawInstruction54 → List (Option Report)
for_word r = no_opcode r.opcode ∷ out_of_range r.opcode r ∷ []

-- ## The refusal in an answer
abbrev pub in_summary : Result ChunkSummary Refusal → Option Report
in_summary (Ok x) = none
in_summary (Err q) = some (reported q)

abbrev pub in_fields : Result FunctionFields Refusal → Option Report
in_fields (Ok x) = none
in_fields (Err q) = some (reported q)

abbrev pub in_word : Result ℕ Refusal → Option Report
in_word (Ok x) = none
in_word (Err q) = some (reported q)

abbrev pub in_constant : Result ConstantValue Refusal → Option Report
in_constant (Ok x) = none
in_constant (Err q) = some (reported q)

abbrev pub in_upvalue : Result UpvalueDesc Refusal → Option Report
in_upvalue (Ok x) = none
in_upvalue (Err q) = some (reported q)

abbrev pub in_delta : Result ℤ Refusal → Option Report
in_delta (Ok x) = none
in_delta (Err q) = some (reported q)

abbrev pub in_anchor : Result AbsLineInfo Refusal → Option Report
in_anchor (Ok x) = none
in_anchor (Err q) = some (reported q)

abbrev pub in_name : Result (prelude.Option StringAt) Refusal → Option Report
in_name (Ok x) = none
in_name (Err q) = some (reported q)

abbrev pub in_local : Result LocalShown Refusal → Option Report
in_local (Ok x) = none
in_local (Err q) = some (reported q)

abbrev pub in_line : Result ℕ Refusal → Option Report
in_line (Ok x) = none
in_line (Err q) = some (reported q)

abbrev pub in_lines : Result ℕ Refusal → Option Report
in_lines (Ok x) = none
in_lines (Err q) = some (reported q)

abbrev pub in_index : Result ℕ Refusal → Option Report
in_index (Ok x) = none
in_index (Err q) = some (reported q)

abbrev pub in_copy : Result ℕ Refusal → Option Report
in_copy (Ok x) = none
in_copy (Err q) = some (reported q)

abbrev pub in_verdict : Result Verdict Refusal → Option Report
in_verdict (Ok x) = none
in_verdict (Err q) = some (reported q)

abbrev pub in_count : Result ℕ Refusal → Option Report
in_count (Ok x) = none
in_count (Err q) = some (reported q)

abbrev pub in_findings : Result (Verdict × ℕ) Refusal → Option Report
in_findings (Ok (x, y)) = none
in_findings (Err q) = some (reported q)

abbrev pub in_encoded : Result ℕ Refusal → Option Report
in_encoded (Ok x) = none
in_encoded (Err q) = some (reported q)
