-- DEMAND 2, the calls behind C (crates/lafzimdo/src, include/lafzimdo.h): a theorem for each, which states its whole contract and is met by the code. How to read one is said in Demand2.antt; what it means, in Promise.antt.
--     Answered r out out' a     of the answer a: the number that is returned, 0 or the refusal, and what then stands in the array out that the caller lends: the answer's numbers, or on a refusal what stood there before
-- a is that of the Rattle call in Demand2.antt (`shown..`), in numbers (`of..`, crates/lafzimdo/specs/Answers.antt), or of a part at a place (crates/c_parts/specs/PartNumbers.antt, crates/c_entries_at/specs/EntryNumbers.antt).
-- Compared: the static library with the kept answers (compare/kept.py) and with the Rust (compare/run).
-- Assumes nothing.
use mathlib.Core.Path.{◌≡◌}
use mathlib.Core.List.{List, [], ◌∷◌, ◌++◌}
use Prim.Native.Nat.{ℕ, ◌/◌}
use lib.ListN.{length}
use denote.Ref.{Bor, MutBor}
use Rattle.format.specs.ReadChunk.{Outcome, read}
use Rattle.format.specs.Form.{Bytes}
use Rattle.format_spelling.specs.ReadSpelling.{spelling}
use Rattle.format_strict.specs.ReadStrict.{strict_read}
use Rattle.show_row.specs.Asked.{function_of, entry_of}
use Rattle.index.specs.Index.{shown_index, index_written}
use Rattle.line_lookup.specs.Lines.{shown_line}
use Rattle.show_chunk.specs.Summaries.{shown_summary}
use Rattle.show_chunk.specs.Fields.{shown_fields}
use Rattle.show_entry.specs.Entries.{shown_word, shown_constant, shown_upvalue, shown_delta, shown_anchor, shown_name}
use Rattle.show_local.specs.Locals.{shown_local, name_written}
use Rattle.copy.specs.Copied.{shown_length, shown_copy, copy_written}
use Rattle.copy_full.specs.InFull.{shown_full_length, shown_full, full_written}
use Rattle.validate_verdict.specs.Answers.{shownVerdict, shownCount}
use Rattle.validate_plan.specs.Validated.{shown_findings}
use Rattle.word_fields.specs.Word.{decoded, encoded}
use Rattle.c_boundary.specs.Status.{Answer, limits_of, status, written}
use Rattle.lafzimdo.specs.Answers.{ofSummary, of_fields, ofWord, ofConstant, ofUpvalue, ofDelta, ofAnchor, ofName, of_local, ofIndex, ofLine, ofCopy, ofVerdict, ofCount}
use Rattle.c_words.specs.Words.{word_numbers, spelt, of_encoded}
use Rattle.c_findings.specs.FindingNumbers.{of_findings, numbers_written}
use Rattle.c_parts.specs.PartNumbers.{head_at, tail_at}
use Rattle.c_entries_at.specs.EntryNumbers.{word_at, constant_at, upvalue_at, delta_at, anchor_at, local_at, string_at}
use Rattle.lafzimdo.specs.Version as of-version
use Rattle.lafzimdo.specs.contracts.version.lafzimdo_version as version-contract
use Rattle.lafzimdo.proofs.version.lafzimdo_version as version-call
use Rattle.lafzimdo.specs.contracts.summary.lafzimdo_summary as summary-contract
use Rattle.lafzimdo.proofs.summary.lafzimdo_summary as summary-call
use Rattle.lafzimdo.specs.contracts.stricter.lafzimdo_strict_summary as strict-summary-contract
use Rattle.lafzimdo.proofs.stricter.lafzimdo_strict_summary as strict-summary-call
use Rattle.lafzimdo.specs.contracts.function.lafzimdo_function as function-contract
use Rattle.lafzimdo.proofs.function.lafzimdo_function as function-call
use Rattle.lafzimdo.specs.contracts.entry.lafzimdo_instruction as instruction-contract
use Rattle.lafzimdo.proofs.entry.lafzimdo_instruction as instruction-call
use Rattle.lafzimdo.specs.contracts.entry.lafzimdo_constant as constant-contract
use Rattle.lafzimdo.proofs.entry.lafzimdo_constant as constant-call
use Rattle.lafzimdo.specs.contracts.entry.lafzimdo_upvalue as upvalue-contract
use Rattle.lafzimdo.proofs.entry.lafzimdo_upvalue as upvalue-call
use Rattle.lafzimdo.specs.contracts.entry.lafzimdo_delta as delta-contract
use Rattle.lafzimdo.proofs.entry.lafzimdo_delta as delta-call
use Rattle.lafzimdo.specs.contracts.entry.lafzimdo_anchor as anchor-contract
use Rattle.lafzimdo.proofs.entry.lafzimdo_anchor as anchor-call
use Rattle.lafzimdo.specs.contracts.entry.lafzimdo_upvalue_name as upvalue-name-contract
use Rattle.lafzimdo.proofs.entry.lafzimdo_upvalue_name as upvalue-name-call
use Rattle.lafzimdo.specs.contracts.space.lafzimdo_local as local-contract
use Rattle.lafzimdo.proofs.space.lafzimdo_local as local-call
use Rattle.lafzimdo.specs.contracts.space.lafzimdo_index as index-contract
use Rattle.lafzimdo.proofs.space.lafzimdo_index as index-call
use Rattle.lafzimdo.specs.contracts.function.lafzimdo_line as line-contract
use Rattle.lafzimdo.proofs.function.lafzimdo_line as line-call
use Rattle.lafzimdo.specs.contracts.whole.lafzimdo_copy_length as copy-length-contract
use Rattle.lafzimdo.proofs.whole.lafzimdo_copy_length as copy-length-call
use Rattle.lafzimdo.specs.contracts.space.lafzimdo_copy as copy-contract
use Rattle.lafzimdo.proofs.space.lafzimdo_copy as copy-call
use Rattle.lafzimdo.specs.contracts.full.lafzimdo_full_copy_length as full-copy-length-contract
use Rattle.lafzimdo.proofs.full.lafzimdo_full_copy_length as full-copy-length-call
use Rattle.lafzimdo.specs.contracts.full.lafzimdo_full_copy as full-copy-contract
use Rattle.lafzimdo.proofs.full.lafzimdo_full_copy as full-copy-call
use Rattle.lafzimdo.specs.contracts.whole.lafzimdo_verdict as verdict-contract
use Rattle.lafzimdo.proofs.whole.lafzimdo_verdict as verdict-call
use Rattle.lafzimdo.specs.contracts.whole.lafzimdo_finding_count as finding-count-contract
use Rattle.lafzimdo.proofs.whole.lafzimdo_finding_count as finding-count-call
use Rattle.lafzimdo.specs.contracts.finding.lafzimdo_findings as findings-contract
use Rattle.lafzimdo.proofs.finding.lafzimdo_findings as findings-call
use Rattle.lafzimdo.specs.contracts.word.lafzimdo_decode as decode-contract
use Rattle.lafzimdo.proofs.word.lafzimdo_decode as decode-Call
use Rattle.lafzimdo.specs.contracts.word.lafzimdo_encode as encode-contract
use Rattle.lafzimdo.proofs.word.lafzimdo_encode as encode-call
use Rattle.lafzimdo.specs.contracts.part.lafzimdo_head_at as head-at-contract
use Rattle.lafzimdo.proofs.part.lafzimdo_head_at as head-at-call
use Rattle.lafzimdo.specs.contracts.part.lafzimdo_tail_at as tail-at-contract
use Rattle.lafzimdo.proofs.part.lafzimdo_tail_at as tail-at-call
use Rattle.lafzimdo.specs.contracts.part.lafzimdo_word_at as word-at-contract
use Rattle.lafzimdo.proofs.part.lafzimdo_word_at as word-at-call
use Rattle.lafzimdo.specs.contracts.part.lafzimdo_constant_at as constant-at-contract
use Rattle.lafzimdo.proofs.part.lafzimdo_constant_at as constant-at-call
use Rattle.lafzimdo.specs.contracts.part.lafzimdo_upvalue_at as upvalue-at-contract
use Rattle.lafzimdo.proofs.part.lafzimdo_upvalue_at as upvalue-at-call
use Rattle.lafzimdo.specs.contracts.part.lafzimdo_delta_at as delta-at-contract
use Rattle.lafzimdo.proofs.part.lafzimdo_delta_at as delta-at-call
use Rattle.lafzimdo.specs.contracts.part.lafzimdo_anchor_at as anchor-at-contract
use Rattle.lafzimdo.proofs.part.lafzimdo_anchor_at as anchor-at-call
use Rattle.lafzimdo.specs.contracts.part.lafzimdo_local_at as local-at-contract
use Rattle.lafzimdo.proofs.part.lafzimdo_local_at as local-at-call
use Rattle.lafzimdo.specs.contracts.part.lafzimdo_string_at as string-at-contract
use Rattle.lafzimdo.proofs.part.lafzimdo_string_at as string-at-call
use Rattle.demands.proofs.Promise.{Promise}

abbrev pub Answered : ℕ → MutBor (List ℕ) → MutBor (List ℕ) → Answer → List (Type 0)
Answered r out out' a = (r ≡ status a) ∷ (out'.now ≡ written a out.now) ∷ []

-- the chunk, read under nine limits in their order
abbrev pub read_in : Bor (List ℕ) → Bor Bytes → Outcome
read_in limits chunk = read (limits_of limits.now) chunk.now

-- ## Chunks
pub summary : Promise summary-contract.ended summary-call.Symbol.code summary-call.Symbol.name (λ _ chunk limits out out' r.
    Answered r out out' (ofSummary (shown_summary (spelling (limits_of limits.now) chunk.now) (read_in limits chunk))))
summary _ = summary-call.Met.met

pub strict_summary : Promise strict-summary-contract.ended strict-summary-call.Symbol.code strict-summary-call.Symbol.name (λ _ chunk limits out out' r.
    Answered r out out' (ofSummary (shown_summary (spelling (limits_of limits.now) chunk.now) (strict_read (limits_of limits.now) chunk.now))))
strict_summary _ = strict-summary-call.Met.met

pub function : Promise function-contract.ended function-call.Symbol.code function-call.Symbol.name (λ _ chunk limits function out out' r.
    Answered r out out' (of_fields (shown_fields (function_of function (read_in limits chunk)))))
function _ = function-call.Met.met

pub instruction : Promise instruction-contract.ended instruction-call.Symbol.code instruction-call.Symbol.name (λ _ chunk limits function entry out out' r.
    Answered r out out' (ofWord (shown_word (entry_of (λ p. p.instructions) function entry (read_in limits chunk)))))
instruction _ = instruction-call.Met.met

pub constant : Promise constant-contract.ended constant-call.Symbol.code constant-call.Symbol.name (λ _ chunk limits function entry out out' r.
    Answered r out out' (ofConstant (shown_constant (entry_of (λ p. p.constants) function entry (read_in limits chunk)))))
constant _ = constant-call.Met.met

pub upvalue : Promise upvalue-contract.ended upvalue-call.Symbol.code upvalue-call.Symbol.name (λ _ chunk limits function entry out out' r.
    Answered r out out' (ofUpvalue (shown_upvalue (entry_of (λ p. p.upvalues) function entry (read_in limits chunk)))))
upvalue _ = upvalue-call.Met.met

pub delta : Promise delta-contract.ended delta-call.Symbol.code delta-call.Symbol.name (λ _ chunk limits function entry out out' r.
    Answered r out out' (ofDelta (shown_delta (entry_of (λ p. p.line_info_lem) function entry (read_in limits chunk)))))
delta _ = delta-call.Met.met

pub anchor : Promise anchor-contract.ended anchor-call.Symbol.code anchor-call.Symbol.name (λ _ chunk limits function entry out out' r.
    Answered r out out' (ofAnchor (shown_anchor (entry_of (λ p. p.abs_line_info) function entry (read_in limits chunk)))))
anchor _ = anchor-call.Met.met

pub upvalue_name : Promise upvalue-name-contract.ended upvalue-name-call.Symbol.code upvalue-name-call.Symbol.name (λ _ chunk limits function entry out out' r.
    Answered r out out' (ofName (shown_name (entry_of (λ p. p.upvalue_names_lem) function entry (read_in limits chunk)))))
upvalue_name _ = upvalue-name-call.Met.met

pub local : Promise local-contract.ended local-call.Symbol.code local-call.Symbol.name (λ _ chunk limits function entry name name' out out' r.
    Answered r out out' (of_local (shown_local (length name.now) (entry_of (λ p. p.loc_vars) function entry (read_in limits chunk))))
    ++ (name'.now ≡ name_written name.now (entry_of (λ p. p.loc_vars) function entry (read_in limits chunk)))
    ∷ [])
local _ = local-call.Met.met

pub index : Promise index-contract.ended index-call.Symbol.code index-call.Symbol.name (λ _ chunk limits rows rows' out out' r.
    Answered r out out' (ofIndex (shown_index (length rows.now) (read_in limits chunk)))
    ++ (rows'.now ≡ index_written rows.now (read_in limits chunk))
    ∷ [])
index _ = index-call.Met.met

pub line : Promise line-contract.ended line-call.Symbol.code line-call.Symbol.name (λ _ chunk limits function pc out out' r.
    Answered r out out' (ofLine (shown_line pc (function_of function (read_in limits chunk)))))
line _ = line-call.Met.met

-- ## The archive copy, the full copy, and validation. A finding takes four numbers of its list
pub copy_length : Promise copy-length-contract.ended copy-length-call.Symbol.code copy-length-call.Symbol.name (λ _ chunk limits out out' r.
    Answered r out out' (ofCopy (shown_length (read_in limits chunk))))
copy_length _ = copy-length-call.Met.met

pub copy : Promise copy-contract.ended copy-call.Symbol.code copy-call.Symbol.name (λ _ chunk limits copy copy' out out' r.
    Answered r out out' (ofCopy (shown_copy (length copy.now) (read_in limits chunk)))
    ++ (copy'.now ≡ copy_written copy.now (read_in limits chunk))
    ∷ [])
copy _ = copy-call.Met.met

pub full_copy-length : Promise full-copy-length-contract.ended full-copy-length-call.Symbol.code full-copy-length-call.Symbol.name (λ _ chunk limits out out' r.
    Answered r out out' (ofCopy (shown_full_length (read_in limits chunk))))
full_copy-length _ = full-copy-length-call.Met.met

pub full_copy_lem : Promise full-copy-contract.ended full-copy-call.Symbol.code full-copy-call.Symbol.name (λ _ chunk limits copy copy' out out' r.
    Answered r out out' (ofCopy (shown_full (length copy.now) (read_in limits chunk)))
    ++ (copy'.now ≡ full_written copy.now (read_in limits chunk))
    ∷ [])
full_copy_lem _ = full-copy-call.Met.met

pub verdict : Promise verdict-contract.ended verdict-call.Symbol.code verdict-call.Symbol.name (λ _ chunk limits out out' r.
    Answered r out out' (ofVerdict (shownVerdict (read_in limits chunk))))
verdict _ = verdict-call.Met.met

pub finding_count : Promise finding-count-contract.ended finding-count-call.Symbol.code finding-count-call.Symbol.name (λ _ chunk limits out out' r.
    Answered r out out' (ofCount (shownCount (read_in limits chunk))))
finding_count _ = finding-count-call.Met.met

pub findings : Promise findings-contract.ended findings-call.Symbol.code findings-call.Symbol.name (λ _ chunk limits list list' out out' r.
    Answered r out out' (of_findings (shown_findings (length list.now / 4) (read_in limits chunk)))
    ++ (list'.now ≡ numbers_written list.now (read_in limits chunk))
    ∷ [])
findings _ = findings-call.Met.met

-- ## Instruction words
pub decode : Promise decode-contract.ended decode-Call.Symbol.code decode-Call.Symbol.name (λ _ word out out' r.
    (r ≡ 0)
    ∷ (out'.now ≡ word_numbers (decoded word))
    ∷ [])
decode _ = decode-Call.Met.met

pub encode : Promise encode-contract.ended encode-call.Symbol.code encode-call.Symbol.name (λ _ op a k b c bx sbx ax sj out out' r.
    Answered r out out' (of_encoded (encoded (spelt op a k b c bx sbx ax sj))))
encode _ = encode-call.Met.met

-- ## Parts at a place
pub head_at_lem : Promise head-at-contract.ended head-at-call.Symbol.code head-at-call.Symbol.name (λ _ chunk limits place out out' r.
    Answered r out out' (head_at limits.now place chunk.now))
head_at_lem _ = head-at-call.Met.met

pub tail-at : Promise tail-at-contract.ended tail-at-call.Symbol.code tail-at-call.Symbol.name (λ _ chunk limits place out out' r.
    Answered r out out' (tail_at limits.now place chunk.now))
tail-at _ = tail-at-call.Met.met

pub word_at_lem : Promise word-at-contract.ended word-at-call.Symbol.code word-at-call.Symbol.name (λ _ chunk limits place out out' r.
    Answered r out out' (word_at limits.now place chunk.now))
word_at_lem _ = word-at-call.Met.met

pub constant-at : Promise constant-at-contract.ended constant-at-call.Symbol.code constant-at-call.Symbol.name (λ _ chunk limits place out out' r.
    Answered r out out' (constant_at limits.now place chunk.now))
constant-at _ = constant-at-call.Met.met

pub upvalue-at : Promise upvalue-at-contract.ended upvalue-at-call.Symbol.code upvalue-at-call.Symbol.name (λ _ chunk limits place out out' r.
    Answered r out out' (upvalue_at limits.now place chunk.now))
upvalue-at _ = upvalue-at-call.Met.met

pub delta_at_lem : Promise delta-at-contract.ended delta-at-call.Symbol.code delta-at-call.Symbol.name (λ _ chunk limits place out out' r.
    Answered r out out' (delta_at limits.now place chunk.now))
delta_at_lem _ = delta-at-call.Met.met

pub anchor-at : Promise anchor-at-contract.ended anchor-at-call.Symbol.code anchor-at-call.Symbol.name (λ _ chunk limits place out out' r.
    Answered r out out' (anchor_at limits.now place chunk.now))
anchor-at _ = anchor-at-call.Met.met

pub local-at : Promise local-at-contract.ended local-at-call.Symbol.code local-at-call.Symbol.name (λ _ chunk limits place out out' r.
    Answered r out out' (local_at limits.now place chunk.now))
local-at _ = local-at-call.Met.met

pub string-at : Promise string-at-contract.ended string-at-call.Symbol.code string-at-call.Symbol.name (λ _ chunk limits place out out' r.
    Answered r out out' (string_at limits.now place chunk.now))
string-at _ = string-at-call.Met.met

-- ## The version
pub version : Promise version-contract.ended version-call.Symbol.code version-call.Symbol.name (λ _ r.
    (r ≡ of-version.version)
    ∷ [])
version _ = version-call.Met.met
