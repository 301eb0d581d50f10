-- DEMAND 2. Every call gives what the Rust gives: here a theorem for each call of Rattle, which states its whole contract and is met by the code; those behind C stand in Demand2C.antt.
-- How to read one (proofs/Promise.antt has the frame, and what it means to keep a promise: the call is safe, it ENDS, and
-- then what is promised holds):
--     Promise T c k (λ _ chunk limits r. ..)     T is the call's signature (`ended`), k its name, c the code that its source
--                                                is compiled to, with that of all that it calls. Nothing is asked of the
--                                                caller. Behind the dot a list of all that the contract says, a line for
--                                                each: of the result r, and of each slice that is lent as `&mut`, x before
--                                                the call and x' after it. `x.now` is what stands behind a reference
-- Each line is an equation with a definition that mirrors the Rust, and antt holds it to be the contract's own clause, word for word. That the definitions are the Rust's was compared by running, since it cannot be
-- proved: crates/vectors replays the kept answers of the unchanged Rust, oracle/findings asks it. What is compared there is said with each group.
--     as_the_rust      validation as validator.rs has it, a list and a flag, on every chunk that is read. CALL_as_the_rust: so the promises of the calls that validate, said by the Rust's list and flag
--     as_lua_loads     the format against Lua's C: what Lua's own loader takes is read, and the reading is what it loads. And back: Request07.antt, `strict_as_lua`, `strict_then_read`, `only_besides`: a chunk that is read is one
--                      that Lua loads, or refusal 31, 32 or 33 of the stricter reading says why it is not
--     as_lua_dumps     what the copying call writes is what Lua's own dumper writes; as_lua_strips: with strip
-- Assumes nothing.
use Rattle.std.specs.Prelude.{Ok, Err}
use mathlib.Core.Path.{◌≡◌, refl, ap, sym, ◌∙◌}
use Prim.Native.Nat.{ℕ, ◌<◌, ◌≤◌}
use mathlib.Core.Bool.{true, false}
use mathlib.Core.List.{List, [], ◌∷◌, ◌++◌}
use mathlib.Core.Option.{none}
use lib.ListN.{length, take, drop}
use mir.Syntax.{Dict, a_type, dcons, dnil}
use contract.BorrowLft.{◌⊑◌}
use contract.Lifetimes.{lft_at}
use denote.Param.{bounded}
use denote.Param.Laws.{Laws}
use denote.RattleType.{RattleType}
use Rattle.std.specs.Prelude.{IfOk}
use Rattle.std.specs.declared.io.traits.Write as writer
use Rattle.std.specs.contracts.io.traits.Write.TheBound as writer-bound
use Rattle.format.specs.declared.limits.ResourceLimits.{ResourceLimits}
use Rattle.format.specs.declared.refusal.Refusal.{Refusal}
use Rattle.format.specs.Reading.{Reading}
use Rattle.format.specs.Form.{Bytes, All}
use Rattle.format.specs.Limits as limits
use Rattle.format.specs.Limits.{within_ceilings}
use Rattle.format.specs.Refusals.{reported}
use Rattle.format.specs.Warnings.{warned}
use Rattle.format.specs.GrammarChunk.{Loaded, outermost, reading}
use Rattle.format.specs.ReadChunk.{Outcome, shown, refusal, read}
use Rattle.format_lua.specs.LundumpFunctions.{Undump}
use Rattle.format_lua.specs.LdumpFunctions.{lua_u_dump}
use Rattle.format.proofs.ReadChunkLaws.{read_sound}
use Rattle.format_lua.proofs.LdumpWhole.{source_of, AsLua, AsStripped, copy_as_dumped, copy_as_stripped}
use Rattle.format_lua.specs.LundumpWithin.{FunctionsWithin}
use Rattle.format_lua.proofs.LundumpChunk.{loaded-is-read}
use Rattle.show_row.specs.Asked.{function_of, entry_of}
use Rattle.index.specs.Index.{shown_index, index_written}
use Rattle.line_lookup.specs.Lines.{shown_line}
use Rattle.show_chunk.specs.Summaries.{shown_summary, trailing_of}
use Rattle.show_chunk.specs.Fields.{shown_fields}
use Rattle.show_entry.specs.Entries.{shown_word, shown_constant, shown_upvalue, shown_delta, shown_anchor, shown_name}
use Rattle.show_local.specs.Locals.{shown_local, name_written}
use Rattle.copy.specs.Copied.{shown_length, shown_copy, copy_written}
use Rattle.copy_full.specs.InFull.{shown_full_length, shown_full, full_written}
use Rattle.validate_rules.specs.declared.finding.Finding.{Finding}
use Rattle.validate_rules.specs.Findings.{Listing, chunk_findings, verdict}
use Rattle.validate_rules.specs.Rust as rust
use Rattle.validate_verdict.specs.Answers.{shownVerdict, shownCount}
use Rattle.validate_verdict.proofs.Chunk.{findings_are}
use Rattle.validate_plan.specs.Validated.{listing_answer, shown_findings, findings_written}
use Rattle.validate_findings.specs.Blank.{LONGEST, blank_list}
use Rattle.word_fields.specs.Word.{decoded, encoded}
use Rattle.text_print.specs.Output.{waiting, puts, Printed}
use Rattle.chunklist_listing.specs.Listing as listings
use Rattle.format.specs.contracts.limits.ResourceLimits.ceilings as ceilings-contract
use Rattle.format.proofs.limits.ResourceLimits.ceilings as ceilings-call
use Rattle.format.specs.contracts.limits.ResourceLimits.within_ceilings as within-ceilings-contract
use Rattle.format.proofs.limits.ResourceLimits.within_ceilings as within-ceilings-call
use Rattle.format_spelling.specs.ReadSpelling.{spelling}
use Rattle.format_strict.specs.ReadStrict.{strict_read}
use Rattle.format_report.specs.contracts.report_refusal as report-refusal-contract
use Rattle.format_report.proofs.report_refusal as report-refusal-call
use Rattle.format_report.specs.contracts.report_warning as report-warning-contract
use Rattle.format_report.proofs.report_warning as report-warning-call
use Rattle.show_chunk.specs.contracts.summary.chunk_summary as chunk-summary-contract
use Rattle.show_chunk.proofs.summary.chunk_summary as chunk-summary-call
use Rattle.strict.specs.contracts.strict_summary as strict-summary-contract
use Rattle.strict.proofs.strict_summary as strict-summary-call
use Rattle.show_chunk.specs.contracts.bytes.trailing_bytes as trailing-bytes-contract
use Rattle.show_chunk.proofs.bytes.trailing_bytes as trailing-bytes-call
use Rattle.show_chunk.specs.contracts.bytes.string_bytes as string-bytes-contract
use Rattle.show_chunk.proofs.bytes.string_bytes as string-bytes-call
use Rattle.show_chunk.specs.contracts.fields.function_fields as function-fields-contract
use Rattle.show_chunk.proofs.fields.function_fields as function-fields-call
use Rattle.show_entry.specs.contracts.instruction as instruction-contract
use Rattle.show_entry.proofs.instruction as instruction-call
use Rattle.show_entry.specs.contracts.constant as constant-contract
use Rattle.show_entry.proofs.constant as constant-call
use Rattle.show_entry.specs.contracts.upvalue as upvalue-contract
use Rattle.show_entry.proofs.upvalue as upvalue-call
use Rattle.show_entry.specs.contracts.delta as delta-contract
use Rattle.show_entry.proofs.delta as delta-call
use Rattle.show_entry.specs.contracts.anchor as anchor-contract
use Rattle.show_entry.proofs.anchor as anchor-call
use Rattle.show_entry.specs.contracts.upvalue_name as upvalue-name-contract
use Rattle.show_entry.proofs.upvalue_name as upvalue-name-call
use Rattle.show_local.specs.contracts.local as local-contract
use Rattle.show_local.proofs.local as local-call
use Rattle.index.specs.contracts.function_index as function-index-contract
use Rattle.index.proofs.function_index as function-index-call
use Rattle.line_lookup.specs.contracts.line.get_line_for_pc as get-line-for-pc-contract
use Rattle.line_lookup.proofs.line.get_line_for_pc as get-line-for-pc-call
use Rattle.copy.specs.contracts.copy_length as copy-length-contract
use Rattle.copy.proofs.copy_length as copy-length-call
use Rattle.copy.specs.contracts.encode_chunk_lua54 as encode-chunk-lua54-contract
use Rattle.copy.proofs.encode_chunk_lua54 as encode-chunk-lua54-call
use Rattle.copy_full.specs.contracts.full_copy_length as full-copy-length-contract
use Rattle.copy_full.proofs.full_copy_length as full-copy-length-call
use Rattle.copy_full.specs.contracts.full_copy as full-copy-contract
use Rattle.copy_full.proofs.full_copy as full-copy-call
use Rattle.validate_verdict.specs.contracts.verdict.chunk_verdict as chunk-verdict-contract
use Rattle.validate_verdict.proofs.verdict.chunk_verdict as chunk-verdict-call
use Rattle.validate_verdict.specs.contracts.verdict.finding_count as finding-count-contract
use Rattle.validate_verdict.proofs.verdict.finding_count as finding-count-call
use Rattle.validate_findings.specs.contracts.validate_chunk_lua54 as validate-chunk-lua54-contract
use Rattle.validate_findings.proofs.validate_chunk_lua54 as validate-chunk-lua54-call
use Rattle.validate_findings.specs.contracts.array.chunk_findings as chunk-findings-contract
use Rattle.validate_findings.proofs.array.chunk_findings as chunk-findings-call
use Rattle.word_fields.specs.contracts.instruction.RawInstruction54.decode as decode-contract
use Rattle.word_fields.proofs.instruction.RawInstruction54.decode as decode-Call
use Rattle.word_fields.specs.contracts.instruction.RawInstruction54.encode as encode-contract
use Rattle.word_fields.proofs.instruction.RawInstruction54.encode as encode-call
use Rattle.chunklist_listing.specs.contracts.listing as listing-contract
use Rattle.chunklist_listing.proofs.listing as listing-call
use Rattle.demands.proofs.Written.{Writes, written-is-copy}
use Rattle.demands.proofs.Promise.{Promise, PromiseGiven}
use Rattle.slice.specs.Over.{over}

-- ## Chunks. (The Rust has no count of padded numbers: `Request01.antt`.) Compared: 5,528 chunks, each with its summary, every field and entry, the index, the copy and the lines (crates/vectors); 150,000 more were asked once (docs/DIFFERENCES.md).
pub chunk_summary : Promise chunk-summary-contract.ended chunk-summary-call.Symbol.code chunk-summary-call.Symbol.name (λ _ chunk limits r.
    (r ≡ shown_summary (spelling limits chunk.now) (read limits chunk.now))
    ∷ [])
chunk_summary _ = chunk-summary-call.Met.met

-- what the Rust has not: the stricter reading (02, item 7: `Request07.antt`)
pub strict_summary : Promise strict-summary-contract.ended strict-summary-call.Symbol.code strict-summary-call.Symbol.name (λ _ chunk limits r.
    (r ≡ shown_summary (spelling limits chunk.now) (strict_read limits chunk.now))
    ∷ [])
strict_summary _ = strict-summary-call.Met.met

pub trailing-bytes : Promise trailing-bytes-contract.ended trailing-bytes-call.Symbol.code trailing-bytes-call.Symbol.name (λ _ chunk limits r.
    (r.now ≡ trailing_of (read limits chunk.now))
    ∷ [])
trailing-bytes _ = trailing-bytes-call.Met.met

pub string_bytes_lem : Promise string-bytes-contract.ended string-bytes-call.Symbol.code string-bytes-call.Symbol.name (λ _ chunk place len r.
    (r.now ≡ take len (drop place chunk.now))
    ∷ [])
string_bytes_lem _ = string-bytes-call.Met.met

pub function_fields : Promise function-fields-contract.ended function-fields-call.Symbol.code function-fields-call.Symbol.name (λ _ chunk limits function r.
    (r ≡ shown_fields (function_of function (read limits chunk.now)))
    ∷ [])
function_fields _ = function-fields-call.Met.met

pub instruction : Promise instruction-contract.ended instruction-call.Symbol.code instruction-call.Symbol.name (λ _ chunk limits function entry r.
    (r ≡ shown_word (entry_of (λ p. p.instructions) function entry (read limits chunk.now)))
    ∷ [])
instruction _ = instruction-call.Met.met

pub constant : Promise constant-contract.ended constant-call.Symbol.code constant-call.Symbol.name (λ _ chunk limits function entry r.
    (r ≡ shown_constant (entry_of (λ p. p.constants) function entry (read limits chunk.now)))
    ∷ [])
constant _ = constant-call.Met.met

pub upvalue : Promise upvalue-contract.ended upvalue-call.Symbol.code upvalue-call.Symbol.name (λ _ chunk limits function entry r.
    (r ≡ shown_upvalue (entry_of (λ p. p.upvalues) function entry (read limits chunk.now)))
    ∷ [])
upvalue _ = upvalue-call.Met.met

pub delta : Promise delta-contract.ended delta-call.Symbol.code delta-call.Symbol.name (λ _ chunk limits function entry r.
    (r ≡ shown_delta (entry_of (λ p. p.line_info_lem) function entry (read limits chunk.now)))
    ∷ [])
delta _ = delta-call.Met.met

pub anchor : Promise anchor-contract.ended anchor-call.Symbol.code anchor-call.Symbol.name (λ _ chunk limits function entry r.
    (r ≡ shown_anchor (entry_of (λ p. p.abs_line_info) function entry (read limits chunk.now)))
    ∷ [])
anchor _ = anchor-call.Met.met

pub upvalue_name : Promise upvalue-name-contract.ended upvalue-name-call.Symbol.code upvalue-name-call.Symbol.name (λ _ chunk limits function entry r.
    (r ≡ shown_name (entry_of (λ p. p.upvalue_names_lem) function entry (read limits chunk.now)))
    ∷ [])
upvalue_name _ = upvalue-name-call.Met.met

pub local : Promise local-contract.ended local-call.Symbol.code local-call.Symbol.name (λ _ chunk limits function entry name name' r.
    (r ≡ shown_local (length name.now) (entry_of (λ p. p.loc_vars) function entry (read limits chunk.now)))
    ∷ (name'.now ≡ name_written name.now (entry_of (λ p. p.loc_vars) function entry (read limits chunk.now)))
    ∷ [])
local _ = local-call.Met.met

pub function-index : Promise function-index-contract.ended function-index-call.Symbol.code function-index-call.Symbol.name (λ _ chunk limits rows rows' r.
    (r ≡ shown_index (length rows.now) (read limits chunk.now))
    ∷ (rows'.now ≡ index_written rows.now (read limits chunk.now))
    ∷ [])
function-index _ = function-index-call.Met.met

-- ## Lines. Compared: 910 requests on lines alone (crates/vectors), beside those of the chunks above.
pub get_line_for_pc : Promise get-line-for-pc-contract.ended get-line-for-pc-call.Symbol.code get-line-for-pc-call.Symbol.name (λ _ chunk limits function pc r.
    (r ≡ shown_line pc (function_of function (read limits chunk.now)))
    ∷ [])
get_line_for_pc _ = get-line-for-pc-call.Met.met

-- ## The archive copy: its length, and the copy in lent memory.
pub copy_length : Promise copy-length-contract.ended copy-length-call.Symbol.code copy-length-call.Symbol.name (λ _ chunk limits r.
    (r ≡ shown_length (read limits chunk.now))
    ∷ [])
copy_length _ = copy-length-call.Met.met

pub encode_chunk_lua54 : Promise encode-chunk-lua54-contract.ended encode-chunk-lua54-call.Symbol.code encode-chunk-lua54-call.Symbol.name (λ _ chunk limits out out' r.
    (r ≡ shown_copy (length out.now) (read limits chunk.now))
    ∷ (out'.now ≡ copy_written out.now (read limits chunk.now))
    ∷ [])
encode_chunk_lua54 _ = encode-chunk-lua54-call.Met.met

-- ## The full copy. (The Rust has none: `Request06.antt`.) Compared with one that is made of what the Rust decodes (compare/src/full.rs).
pub full_copy-length : Promise full-copy-length-contract.ended full-copy-length-call.Symbol.code full-copy-length-call.Symbol.name (λ _ chunk limits r.
    (r ≡ shown_full_length (read limits chunk.now))
    ∷ [])
full_copy-length _ = full-copy-length-call.Met.met

pub full_copy_lem : Promise full-copy-contract.ended full-copy-call.Symbol.code full-copy-call.Symbol.name (λ _ chunk limits out out' r.
    (r ≡ shown_full (length out.now) (read limits chunk.now))
    ∷ (out'.now ≡ full_written out.now (read limits chunk.now))
    ∷ [])
full_copy_lem _ = full-copy-call.Met.met

-- ## Validation: the verdict, the number of findings, and the findings in a lent list. Compared: 5,528 chunks and 31 requests for a verdict alone (crates/vectors); the lent list too, on the same chunks (crates/vectors; oracle/findings).
pub chunk_verdict : Promise chunk-verdict-contract.ended chunk-verdict-call.Symbol.code chunk-verdict-call.Symbol.name (λ _ chunk limits r.
    (r ≡ shownVerdict (read limits chunk.now))
    ∷ [])
chunk_verdict _ = chunk-verdict-call.Met.met

pub finding_count : Promise finding-count-contract.ended finding-count-call.Symbol.code finding-count-call.Symbol.name (λ _ chunk limits r.
    (r ≡ shownCount (read limits chunk.now))
    ∷ [])
finding_count _ = finding-count-call.Met.met

pub validate_chunk_lua54 : Promise validate-chunk-lua54-contract.ended validate-chunk-lua54-call.Symbol.code validate-chunk-lua54-call.Symbol.name (λ _ chunk limits list list' r.
    ((r ≡ shown_findings (length list.now) (read limits chunk.now)) × (list'.now ≡ findings_written list.now (read limits chunk.now)))
    ∷ [])
validate_chunk_lua54 _ = validate-chunk-lua54-call.Met.met

pub chunk_findings_lem : Promise chunk-findings-contract.ended chunk-findings-call.Symbol.code chunk-findings-call.Symbol.name (λ _ chunk limits r.
    ((r.answer ≡ shown_findings LONGEST (read limits chunk.now)) × (r.list ≡ findings_written blank_list (read limits chunk.now)))
    ∷ [])
chunk_findings_lem _ = chunk-findings-call.Met.met

-- ## Instruction words. Compared: 4,704 requests on words (crates/vectors).
pub decode : Promise decode-contract.ended decode-Call.Symbol.code decode-Call.Symbol.name (λ _ w r.
    (r ≡ decoded w)
    ∷ [])
decode _ = decode-Call.Met.met

pub encode : Promise encode-contract.ended encode-call.Symbol.code encode-call.Symbol.name (λ _ fields r.
    (r ≡ encoded fields)
    ∷ [])
encode _ = encode-call.Met.met

-- ## Limits, and refusals and warnings as numbers.
pub ceilings : Promise ceilings-contract.ended ceilings-call.Symbol.code ceilings-call.Symbol.name (λ _ r.
    (r ≡ limits.ceilings)
    ∷ [])
ceilings _ = ceilings-call.Met.met

pub within-ceilings : Promise within-ceilings-contract.ended within-ceilings-call.Symbol.code within-ceilings-call.Symbol.name (λ _ limits r.
    (r ≡ within_ceilings limits)
    ∷ [])
within-ceilings _ = within-ceilings-call.Met.met

pub report_refusal : Promise report-refusal-contract.ended report-refusal-call.Symbol.code report-refusal-call.Symbol.name (λ _ refusal r.
    (r ≡ reported refusal)
    ∷ [])
report_refusal _ = report-refusal-call.Met.met

pub report_warning : Promise report-warning-contract.ended report-warning-call.Symbol.code report-warning-call.Symbol.name (λ _ warning r.
    (r ≡ warned warning)
    ∷ [])
report_warning _ = report-warning-call.Met.met

-- ## What `chunklist` prints of a file, behind what waits in a buffer already, to a writer of any type W (`w` is what is
-- known of the bytes that it holds, `d` its methods): what waits then, and how much of the buffer is used; and the writer was
-- given what waited and the text, but for what waits then, or it failed. Its caller sees to it that the buffer is not full, the
-- one thing that any call here asks (beside it what Rust's own types say of a `&mut W`: W's loans outlast the call).
pub listing : (W : RattleType) → Laws W → (w : writer.Ghosts W.Denot) (d : Dict)
    → PromiseGiven (listing-contract.ended W w d) (λ _ 𝓤 𝓛 𝓜 𝓡. writer-bound.Met 𝓛 𝓜 𝓡 𝓡.env W w d)
    listing-call.Symbol.code (listing-call.Symbol.name (bounded (a_type ∷ []) (W, tt) (dcons d dnil)))
    (λ κs a. let used = a.1.1.1.0 in (lft_at 4 3 tt κs ⊑ W.lives) ∷ (used < 65536) ∷ []) (λ _ chunk to to' out out' used r.
    IfOk r (λ after. after < 65536)
    ∷ IfOk r (λ after. waiting out'.now after ≡ puts (listings.listing chunk.now) (waiting out.now used))
    ∷ Printed (w.contents to.now) (w.contents to'.now) (take used out.now ++ listings.listing chunk.now) out'.now r
    ∷ [])
listing W laws w d M 𝓤 𝓛 𝓜 𝓡 wired met = listing-call.Met.met 𝓤 𝓛 𝓜 𝓡 wired W laws w d met

-- ## The Rust's validator (crates/validate_rules/specs/Rust.antt, after validator.rs: a list and a flag, tested before each function and each instruction)
-- of every chunk that is read it gives what the calls go by
pub as_the_rust : (L : ResourceLimits) (s : Bytes) (r : Reading) → read L s ≡ shown r → rust.validate r ≡ chunk_findings r
as_the_rust = findings_are

-- an answer that is made of the Rust's list and flag, or of the refusal
abbrev pub validated : {X : Type 0} → (Listing → X) → (Refusal → X) → Outcome → X
validated ok err (shown r) = ok (rust.validate r)
validated ok err (refusal q) = err q

-- such an answer is ours, where ours is made so of `chunk_findings`
by_the_rust : {X : Type 0} (ok : Listing → X) (err : Refusal → X) (ours : Outcome → X) → ((r : Reading) → ours (shown r) ≡ ok (chunk_findings r)) → ((q : Refusal) → ours (refusal q) ≡ err q)
    → (L : ResourceLimits) (s : Bytes) → ours (read L s) ≡ validated ok err (read L s)
by_the_rust ok err ours on-readings on-refusals L s = from (read L s) refl where
  from : (o : Outcome) → read L s ≡ o → ours o ≡ validated ok err o
  from (shown r) e = on-readings r ∙ ap ok (sym (as_the_rust L s r e))
  from (refusal q) e = on-refusals q

-- what the calls show and write, by the Rust's list and flag
pub verdict-shown : (L : ResourceLimits) (s : Bytes) → shownVerdict (read L s) ≡ validated (λ l. Ok (verdict l)) Err (read L s)
verdict-shown = by_the_rust (λ l. Ok (verdict l)) Err shownVerdict (λ r. refl) (λ q. refl)

pub count-shown : (L : ResourceLimits) (s : Bytes) → shownCount (read L s) ≡ validated (λ l. Ok (length l.findings)) Err (read L s)
count-shown = by_the_rust (λ l. Ok (length l.findings)) Err shownCount (λ r. refl) (λ q. refl)

pub findings-shown : (room : ℕ) (L : ResourceLimits) (s : Bytes) → shown_findings room (read L s) ≡ validated (listing_answer room) Err (read L s)
findings-shown room = by_the_rust (listing_answer room) Err (shown_findings room) (λ r. refl) (λ q. refl)

pub findings-written : (old : List Finding) (L : ResourceLimits) (s : Bytes) → findings_written old (read L s) ≡ validated (λ l. over l.findings old) (λ q. old) (read L s)
findings-written old = by_the_rust (λ l. over l.findings old) (λ q. old) (findings_written old) (λ r. refl) (λ q. refl)

-- and so the calls' promises, said by the Rust's list and flag
pub chunk_verdict_as_the_rust : Promise chunk-verdict-contract.ended chunk-verdict-call.Symbol.code chunk-verdict-call.Symbol.name (λ _ chunk limits r.
    (r ≡ validated (λ l. Ok (verdict l)) Err (read limits chunk.now))
    ∷ [])
chunk_verdict_as_the_rust = coe 0 1 (i. Promise chunk-verdict-contract.ended chunk-verdict-call.Symbol.code chunk-verdict-call.Symbol.name (λ _ chunk limits r. (r ≡ verdict-shown limits chunk.now i) ∷ [])) chunk_verdict

pub finding_count_as_the_rust : Promise finding-count-contract.ended finding-count-call.Symbol.code finding-count-call.Symbol.name (λ _ chunk limits r.
    (r ≡ validated (λ l. Ok (length l.findings)) Err (read limits chunk.now))
    ∷ [])
finding_count_as_the_rust = coe 0 1 (i. Promise finding-count-contract.ended finding-count-call.Symbol.code finding-count-call.Symbol.name (λ _ chunk limits r. (r ≡ count-shown limits chunk.now i) ∷ [])) finding_count

pub validate_chunk_lua54_as_the_rust : Promise validate-chunk-lua54-contract.ended validate-chunk-lua54-call.Symbol.code validate-chunk-lua54-call.Symbol.name (λ _ chunk limits list list' r.
    ((r ≡ validated (listing_answer (length list.now)) Err (read limits chunk.now)) × (list'.now ≡ validated (λ l. over l.findings list.now) (λ q. list.now) (read limits chunk.now)))
    ∷ [])
validate_chunk_lua54_as_the_rust = coe 0 1 (i. Promise validate-chunk-lua54-contract.ended validate-chunk-lua54-call.Symbol.code validate-chunk-lua54-call.Symbol.name (λ _ chunk limits list list' r. ((r ≡ findings-shown (length list.now) limits chunk.now i) × (list'.now ≡ findings-written list.now limits chunk.now i)) ∷ [])) validate_chunk_lua54

-- ## Lua's own loader (crates/format_lua/specs/LundumpFunctions.antt, after lundump.c)
-- what it takes at the front of a file and makes of it, within the limits, is the reading; what stands behind is the trailing bytes
pub as_lua_loads : (L : ResourceLimits) (left : ℕ) (front trailing : Bytes) (m : Loaded) → Undump left 0 front m → FunctionsWithin L outermost m.functions
    → within_ceilings L ≡ true → length (front ++ trailing) ≤ L.max_input_bytes → read L (front ++ trailing) ≡ shown (reading L m (length front) trailing)
as_lua_loads = loaded-is-read

-- ## Lua's own dumper (crates/format_lua/specs/LdumpFunctions.antt, after ldump.c)
-- what `encode_chunk_lua54` writes (Written.antt) is what `luaU_dump` writes and the trailing bytes, where functions are as Lua would have them (`AsLua`), or stripped
pub as_lua_dumps : (L : ResourceLimits) (chunk old written : Bytes) (r : Reading) → Writes L chunk old written → read L chunk ≡ shown r → All (AsLua r.functions) r.functions
    → written ≡ lua_u_dump false r.functions ++ r.trailing
as_lua_dumps L chunk old written r w e a = written-is-copy L chunk old written r w e ∙ copy_as_dumped L chunk r (read_sound L chunk r e) a

pub as_lua_strips : (L : ResourceLimits) (chunk old written : Bytes) (r : Reading) → Writes L chunk old written → read L chunk ≡ shown r → source_of r.functions 0 ≡ none → All AsStripped r.functions
    → written ≡ lua_u_dump true r.functions ++ r.trailing
as_lua_strips L chunk old written r w e source a = written-is-copy L chunk old written r w e ∙ copy_as_stripped L chunk r (read_sound L chunk r e) source a
