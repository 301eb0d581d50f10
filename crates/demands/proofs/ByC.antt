-- Demand 1 of the calls behind C: each returns number and place of the first of its conditions that holds, coded in one number (crates/c_boundary/specs/Status.antt), and then leaves its array as it was;
-- where none holds it returns 0, and the array holds the answer. One law, and a line for each call.
--     InC a qs             so it is of a call whose answer is a and whose conditions are qs, in 01's order
--     law                  it is enough that the refusal in the answer is the first of the conditions
--     findings-kept        a call that refuses leaves its list as it was. (Rows, copies and name: Demand1.antt, `index_kept`, `copy-kept`, `full_kept`, `local-kept`, of the same definitions.)
--     coded_chunk          what stands for a refusal of a chunk is its number and 256 times the place and one, which below 2^32 is never left out (Demand1.antt, `places`)
-- (crates/c_boundary/proofs/Numbers.antt: 0 is returned nowhere else, and number and place can be got back.)
-- Assumes nothing.
use Rattle.std.specs.Prelude.{Some, None, Result, Ok, Err, ℤ}
use Rattle.format.specs.declared.entry.AbsLineInfo.{AbsLineInfo}
use Rattle.format.specs.declared.entry.UpvalueDesc.{UpvalueDesc}
use Rattle.read_entry.specs.declared.constant.ConstantValue.{ConstantValue}
use Rattle.read_field.specs.declared.string.StringAt.{StringAt}
use Rattle.show_chunk.specs.declared.fields.FunctionFields.{FunctionFields}
use Rattle.show_chunk.specs.declared.summary.ChunkSummary.{ChunkSummary}
use Rattle.show_local.specs.declared.LocalShown.{LocalShown}
use Rattle.validate_rules.specs.declared.finding.Verdict.{Verdict}
use mathlib.Core.Path.{◌≡◌, refl, sym, ◌∙◌, ap}
use mathlib.Core.Bool.{Bool, true, false, cond}
use mathlib.Core.List.{List, [], ◌++◌}
use mathlib.Core.Option.{Option, none, some}
use Prim.Native.Nat.{ℕ, ◌+◌, ◌*◌, ◌/◌, ◌^◌}
use native.Mathlib.Omega.{arith}
use lib.Dec.{leb}
use lib.IntN.{ℤ}
use lib.ListN.{length, drop}
use borrow.Author.Tests.{lt-leb}
use Rattle.std.specs.Prelude as prelude
use Rattle.format.specs.declared.limits.ResourceLimits.{ResourceLimits}
use Rattle.format.specs.declared.refusal.Refusal.{Refusal}
use Rattle.format.specs.declared.refusal.Refusal.TheVariants.{LentSpace}
use Rattle.format.specs.declared.refusal.Report.{Report}
use Rattle.format.specs.Refusals.{reported}
use Rattle.format.specs.Form.{Bytes}
use Rattle.format.specs.ReadChunk.{Outcome, shown, refusal, read}
use Rattle.format.specs.Copy.{copy}
use Rattle.format.specs.FullCopy.{full_copy}
use Rattle.format_spelling.specs.ReadSpelling.{spelling}
use Rattle.show_row.specs.Asked.{function_of, entry_of}
use Rattle.index.specs.Index.{index, shown_index}
use Rattle.line_lookup.specs.Lines.{shown_line}
use Rattle.copy.specs.Copied.{shown_length, shown_copy}
use Rattle.copy_full.specs.InFull.{shown_full_length, shown_full}
use Rattle.show_chunk.specs.Summaries.{shown_summary}
use Rattle.show_chunk.specs.Fields.{shown_fields}
use Rattle.show_entry.specs.Entries.{shown_word, shown_constant, shown_upvalue, shown_delta, shown_anchor, shown_name}
use Rattle.show_local.specs.Locals.{shown_local}
use Rattle.validate_rules.specs.Findings.{chunk_findings, verdict}
use Rattle.validate_verdict.specs.Answers.{shownVerdict, shownCount}
use Rattle.validate_plan.specs.Validated.{shown_findings}
use Rattle.word_fields.specs.Word.{decoded, encoded}
use Rattle.c_boundary.specs.Status.{limits_of, with_place, coded, Answer, done, refuses, status, written}
use Rattle.lafzimdo.specs.Answers.{ofSummary, of_fields, ofLine, ofWord, ofConstant, ofUpvalue, ofDelta, ofAnchor, of_local, ofName, ofIndex, ofCopy, ofVerdict, ofCount}
use Rattle.c_words.specs.Words.{word_numbers, spelt, of_encoded}
use Rattle.c_findings.specs.FindingNumbers.{list_numbers, of_findings, numbers_written}
use Rattle.demands.proofs.Refused.{first, for_chunk, for_space, for_function, for_line, for_entry, for_local, for_word}
use Rattle.demands.proofs.Refused.{in_summary, in_fields, in_word, in_constant, in_upvalue, in_delta, in_anchor, in_name, in_local, in_line, in_index, in_copy, in_verdict, in_count, in_findings, in_encoded}
use Rattle.demands.proofs.InOrder.{Inside}
use Rattle.demands.proofs.Demand1 as calls
use Rattle.c_findings.proofs.Numbered.{all-or-none}

-- ## The law
-- what is returned for a refusal, or for none
abbrev pub code : Option Report → ℕ
code none = 0
code (some r) = with_place r.number r.place

abbrev pub in_answer : Answer → Option Report
in_answer (done l) = none
in_answer (refuses q) = some (reported q)

pub record InC (a : Answer) (qs : List (Option Report)) : Type 0 where
  pub returns : status a ≡ code (first qs)
  pub kept : (q : Report) (old : List ℕ) → first qs ≡ some q → written a old ≡ old
  pub answers : (old : List ℕ) → first qs ≡ none → a ≡ done (written a old)

pub law : (a : Answer) (qs : List (Option Report)) → in_answer a ≡ first qs → InC a qs
law (done l) qs e = record { returns = ap code e; kept = λ q old h. absurd (let z : ◌≡◌ {A = ℕ} 0 1 = cc in omega arith); answers = λ old h. refl }
law (refuses q) qs e = record { returns = ap code e; kept = λ q old h. refl; answers = λ old h. absurd (let z : ◌≡◌ {A = ℕ} 0 1 = cc in omega arith) }

-- ## The refusal in each answer is the one in its numbers
pub of_summary : (a : Result ChunkSummary Refusal) → in_answer (ofSummary a) ≡ in_summary a
of_summary (Ok x) = refl
of_summary (Err q) = refl

of_fields_lem : (a : Result FunctionFields Refusal) → in_answer (of_fields a) ≡ in_fields a
of_fields_lem (Ok x) = refl
of_fields_lem (Err q) = refl

of-line : (a : Result ℕ Refusal) → in_answer (ofLine a) ≡ in_line a
of-line (Ok x) = refl
of-line (Err q) = refl

of_word : (a : Result ℕ Refusal) → in_answer (ofWord a) ≡ in_word a
of_word (Ok x) = refl
of_word (Err q) = refl

of-constant : (a : Result ConstantValue Refusal) → in_answer (ofConstant a) ≡ in_constant a
of-constant (Ok x) = refl
of-constant (Err q) = refl

of-upvalue : (a : Result UpvalueDesc Refusal) → in_answer (ofUpvalue a) ≡ in_upvalue a
of-upvalue (Ok x) = refl
of-upvalue (Err q) = refl

of_delta : (a : Result ℤ Refusal) → in_answer (ofDelta a) ≡ in_delta a
of_delta (Ok x) = refl
of_delta (Err q) = refl

of-anchor : (a : Result AbsLineInfo Refusal) → in_answer (ofAnchor a) ≡ in_anchor a
of-anchor (Ok x) = refl
of-anchor (Err q) = refl

of-name : (a : Result (prelude.Option StringAt) Refusal) → in_answer (ofName a) ≡ in_name a
of-name (Ok x) = refl
of-name (Err q) = refl

of-local : (a : Result LocalShown Refusal) → in_answer (of_local a) ≡ in_local a
of-local (Ok x) = refl
of-local (Err q) = refl

of-index : (a : Result ℕ Refusal) → in_answer (ofIndex a) ≡ in_index a
of-index (Ok x) = refl
of-index (Err q) = refl

of-copy : (a : Result ℕ Refusal) → in_answer (ofCopy a) ≡ in_copy a
of-copy (Ok x) = refl
of-copy (Err q) = refl

of-verdict : (a : Result Verdict Refusal) → in_answer (ofVerdict a) ≡ in_verdict a
of-verdict (Ok x) = refl
of-verdict (Err q) = refl

of-count : (a : Result ℕ Refusal) → in_answer (ofCount a) ≡ in_count a
of-count (Ok x) = refl
of-count (Err q) = refl

of-findings : (a : Result (Verdict × ℕ) Refusal) → in_answer (of_findings a) ≡ in_findings a
of-findings (Ok (x, y)) = refl
of-findings (Err q) = refl

of-encoded : (a : Result ℕ Refusal) → in_answer (of_encoded a) ≡ in_encoded a
of-encoded (Ok w) = refl
of-encoded (Err q) = refl

-- ## The calls
-- limits are an array of nine numbers
module _ (limits : List ℕ) (s : Bytes) where
  abbrev L : ResourceLimits
  L = limits_of limits

  pub lafzimdo_summary : InC (ofSummary (shown_summary (spelling L s) (read L s))) (for_chunk L s)
  lafzimdo_summary = law _ _ (of_summary (shown_summary (spelling L s) (read L s)) ∙ calls.summary L s)

  pub lafzimdo_copy-length : InC (ofCopy (shown_length (read L s))) (for_chunk L s)
  lafzimdo_copy-length = law _ _ (of-copy (shown_length (read L s)) ∙ calls.copy_length L s)

  pub lafzimdo_full_copy-length : InC (ofCopy (shown_full_length (read L s))) (for_chunk L s)
  lafzimdo_full_copy-length = law _ _ (of-copy (shown_full_length (read L s)) ∙ calls.full_length L s)

  pub lafzimdo_verdict : InC (ofVerdict (shownVerdict (read L s))) (for_chunk L s)
  lafzimdo_verdict = law _ _ (of-verdict (shownVerdict (read L s)) ∙ calls.verdict L s)

  pub lafzimdo_finding_count : InC (ofCount (shownCount (read L s))) (for_chunk L s)
  lafzimdo_finding_count = law _ _ (of-count (shownCount (read L s)) ∙ calls.count L s)

  pub lafzimdo_index : (space : ℕ) → InC (ofIndex (shown_index space (read L s))) (for_space L s (λ r. index r.functions) space)
  lafzimdo_index space = law _ _ (of-index (shown_index space (read L s)) ∙ calls.index_rows L s space)

  pub lafzimdo_copy : (space : ℕ) → InC (ofCopy (shown_copy space (read L s))) (for_space L s copy space)
  lafzimdo_copy space = law _ _ (of-copy (shown_copy space (read L s)) ∙ calls.copied L s space)

  pub lafzimdo_full_copy : (space : ℕ) → InC (ofCopy (shown_full space (read L s))) (for_space L s full_copy space)
  lafzimdo_full_copy space = law _ _ (of-copy (shown_full space (read L s)) ∙ calls.full_copied L s space)

  -- four numbers for each finding
  pub lafzimdo_findings : (list : List ℕ) → InC (of_findings (shown_findings (length list / 4) (read L s))) (for_space L s (λ r. (chunk_findings r).findings) (length list / 4))
  lafzimdo_findings list = law _ _ (of-findings (shown_findings (length list / 4) (read L s)) ∙ calls.findings L s (length list / 4))

  pub lafzimdo_function : (f : ℕ) → InC (of_fields (shown_fields (function_of f (read L s)))) (for_function L s f)
  lafzimdo_function f = law _ _ (of_fields_lem (shown_fields (function_of f (read L s))) ∙ calls.fields L s f)

  pub lafzimdo_line : (f pc : ℕ) → InC (ofLine (shown_line pc (function_of f (read L s)))) (for_line L s f)
  lafzimdo_line f pc = law _ _ (of-line (shown_line pc (function_of f (read L s))) ∙ calls.line L s f pc)

  module _ (f i : ℕ) where
    pub lafzimdo_instruction : InC (ofWord (shown_word (entry_of (λ p. p.instructions) f i (read L s)))) (for_entry L s (λ p. p.instructions) f i)
    lafzimdo_instruction = law _ _ (of_word (shown_word (entry_of (λ p. p.instructions) f i (read L s))) ∙ calls.instruction L s f i)

    pub lafzimdo_constant : InC (ofConstant (shown_constant (entry_of (λ p. p.constants) f i (read L s)))) (for_entry L s (λ p. p.constants) f i)
    lafzimdo_constant = law _ _ (of-constant (shown_constant (entry_of (λ p. p.constants) f i (read L s))) ∙ calls.constant L s f i)

    pub lafzimdo_upvalue : InC (ofUpvalue (shown_upvalue (entry_of (λ p. p.upvalues) f i (read L s)))) (for_entry L s (λ p. p.upvalues) f i)
    lafzimdo_upvalue = law _ _ (of-upvalue (shown_upvalue (entry_of (λ p. p.upvalues) f i (read L s))) ∙ calls.upvalue L s f i)

    pub lafzimdo_delta : InC (ofDelta (shown_delta (entry_of (λ p. p.line_info_lem) f i (read L s)))) (for_entry L s (λ p. p.line_info_lem) f i)
    lafzimdo_delta = law _ _ (of_delta (shown_delta (entry_of (λ p. p.line_info_lem) f i (read L s))) ∙ calls.delta L s f i)

    pub lafzimdo_anchor : InC (ofAnchor (shown_anchor (entry_of (λ p. p.abs_line_info) f i (read L s)))) (for_entry L s (λ p. p.abs_line_info) f i)
    lafzimdo_anchor = law _ _ (of-anchor (shown_anchor (entry_of (λ p. p.abs_line_info) f i (read L s))) ∙ calls.anchor L s f i)

    pub lafzimdo_upvalue-name : InC (ofName (shown_name (entry_of (λ p. p.upvalue_names_lem) f i (read L s)))) (for_entry L s (λ p. p.upvalue_names_lem) f i)
    lafzimdo_upvalue-name = law _ _ (of-name (shown_name (entry_of (λ p. p.upvalue_names_lem) f i (read L s))) ∙ calls.upvalue_name L s f i)

    pub lafzimdo_local : (space : ℕ) → InC (of_local (shown_local space (entry_of (λ p. p.loc_vars) f i (read L s)))) (for_local L s f i space)
    lafzimdo_local space = law _ _ (of-local (shown_local space (entry_of (λ p. p.loc_vars) f i (read L s))) ∙ calls.local L s f i space)

-- decoding has no condition
pub lafzimdo_decode : (w : ℕ) → InC (done (word_numbers (decoded w))) []
lafzimdo_decode w = law _ _ refl

-- 28 where the opcode is above 82, then 27
pub lafzimdo_encode : (op a k b c bx : ℕ) (sbx : ℤ) (ax : ℕ) (sj : ℤ) → InC (of_encoded (encoded (spelt op a k b c bx sbx ax sj))) (for_word (spelt op a k b c bx sbx ax sj))
lafzimdo_encode op a k b c bx sbx ax sj = law _ _ (of-encoded (encoded (spelt op a k b c bx sbx ax sj)) ∙ calls.encode (spelt op a k b c bx sbx ax sj))

-- ## The list of findings
pub findings-kept : (old : List ℕ) (o : Outcome) (q : Report) → in_findings (shown_findings (length old / 4) o) ≡ some q → numbers_written old o ≡ old
unfolding list_numbers
findings-kept old (shown r) q e = sym (all-or-none old (shown r)) ∙ by (leb (length (chunk_findings r).findings) (length old / 4)) e
  where
    by : (b : Bool) → in_findings (cond b (Ok ((verdict (chunk_findings r)), (length (chunk_findings r).findings))) (Err LentSpace)) ≡ some q
        → list_numbers (cond b (chunk_findings r).findings []) ++ drop (length (list_numbers (cond b (chunk_findings r).findings []))) old ≡ old
    by true e = absurd (let z : ◌≡◌ {A = ℕ} 0 1 = cc in omega arith)
    by false e = refl
findings-kept old (refusal p) q e = refl

-- ## Number and place in one
abbrev pub in_one : ℕ → prelude.Option ℕ → ℕ
in_one n None = n
in_one n (Some place) = n + 256 * (place + 1)

-- a place that lies in a file, or is its end, is below 2^32
pub coded-inside : (q : Refusal) → Inside 16777216 (reported q).place → coded q ≡ in_one (reported q).number (reported q).place
coded-inside q h = by (reported q).place h
  where
    by : (p : prelude.Option ℕ) → Inside 16777216 p → with_place (reported q).number p ≡ in_one (reported q).number p
    by None h = refl
    by (Some place) h = ap (λ b. cond b (reported q).number ((reported q).number + 256 * (place + 1))) (lt-leb (2 ^ 32) place (omega arith))

pub coded_chunk : (L : ResourceLimits) (s : Bytes) (q : Refusal) → read L s ≡ refusal q → coded q ≡ in_one (reported q).number (reported q).place
coded_chunk L s q e = coded-inside q (calls.places L s q e).1
