-- What the exported calls show of a chunk that belongs to the grammar: each shows its part of the reading. The calls' contracts (README, The calls) say that
--     chunk_summary           answers    shown_summary (spelling L s) (read L s): beside the reading, how many numbers are padded (02, item 1: `Request01.antt`)
--     strict_summary          answers    shown_summary (spelling L s) (strict_read L s): where the stricter reading accepts, what chunk_summary answers (02, item 7: `Request07.antt`)
--     trailing_bytes          shows      trailing_of (read L s)
--     string_bytes            shows      take len (drop place s)
--     function_fields         answers    shown_fields (function_of f (read L s))
--     instruction ..          answer     shown_word, .. (entry_of (λ p. p.instructions) f i (read L s)), and so for the other lists
--     local                   answers    shown_local space (entry_of (λ p. p.loc_vars) f i (read L s)), and leaves name_written old of the same
--     get_line_for_pc         answers    shown_line pc (function_of f (read L s))
--     get_lines_for_pcs       answers    shown_lines (length old) pcs (function_of f (read L s)), and leaves lines_written old pcs (function_of f (read L s))
--     function_index          answers    shown_index space (read L s), and leaves index_written old (read L s)
--     chunk_verdict           answers    shownVerdict (read L s)
--     finding_count           answers    shownCount (read L s)
--     validate_chunk_lua54    answers    shown_findings space (read L s), and leaves findings_written old (read L s); chunk_findings does so with a list of its own
--     copy_length             answers    shown_length (read L s)
--     encode_chunk_lua54      answers    shown_copy space (read L s), and leaves copy_written old (read L s)
--     full_copy_length        answers    shown_full_length (read L s)
--     full_copy               answers    shown_full space (read L s), and leaves full_written old (read L s)
-- and the theorems below say what these are: `shows` where the chunk is read, `refuses` where it is refused. They leave `strict_summary` out, which does not go by `read` (Request05.antt, `Strict-Above`, and Request07.antt).
-- Assumes nothing.
use Rattle.std.specs.Prelude.{Ok, Err}
use mathlib.Core.Path.{◌≡◌, refl, ◌∙◌, ap}
use mathlib.Core.Bool.{Bool, true, false, cond}
use mathlib.Core.List.{List, [], ◌++◌}
use mathlib.Core.Option.{Option, none, some}
use Prim.Native.Nat.{ℕ, ◌≤◌, ◌<◌}
use borrow.Author.Tests.{le-leb, lt-leb}
use lib.Dec.{leb}
use lib.ListN.{length, drop, length-replicate, get_elem?}
use Rattle.format.specs.declared.limits.ResourceLimits.{ResourceLimits}
use Rattle.format.specs.declared.refusal.Refusal.{Refusal}
use Rattle.format.specs.declared.refusal.Refusal.TheVariants.{NoFunction, NoEntry, LentSpace}
use Rattle.format.specs.Form.{Bytes}
use Rattle.format.specs.GrammarFields.{LuaString}
use Rattle.format.specs.Reading.{Reading, Prototype, ConstantValue, LocalVar}
use Rattle.format.specs.ReadFields.{string}
use Rattle.format.specs.ReadChunk.{constant, shown, refusal, read}
use Rattle.format.specs.Copy.{copy}
use Rattle.format.specs.FullCopy.{full_copy}
use Rattle.format_spelling.specs.ReadSpelling.{spelling}
use Rattle.format.proofs.Located.{Located, StandsIf}
use Rattle.read_nth.proofs.Items.{many_nth}
use Rattle.read_nth.proofs.Strings.{ConstantStands, constant_stands, name_stands}
use Rattle.validate_rules.specs.declared.finding.Finding.{Finding}
use Rattle.validate_rules.specs.declared.finding.Rule.TheVariants.{Register}
use Rattle.validate_rules.specs.Findings.{chunk_findings, verdict}
use Rattle.validate_verdict.specs.Answers.{shownVerdict, shownCount}
use Rattle.validate_search.proofs.Few.{findings_few}
use Rattle.validate_plan.specs.Validated.{shown_findings, findings_written}
use Rattle.validate_findings.specs.Blank.{LONGEST, blank_list}
use Rattle.line_lookup.specs.Lines.{answer_of, shown_line}
use Rattle.line_batch.specs.Batch.{shown_lines, lines_written}
use Rattle.index.specs.Index.{index, shown_index, index_written}
use Rattle.copy.specs.Copied.{shown_length, shown_copy, copy_written}
use Rattle.copy_full.specs.InFull.{shown_full_length, shown_full, full_written}
use Rattle.show_row.specs.Asked.{found, refused, or_refuse, function_of, entry_of, entry_in}
use Rattle.read_chunk.specs.Decoded.{summary_of}
use Rattle.show_chunk.specs.Summaries.{shown_summary, trailing_of}
use Rattle.show_chunk.specs.Fields.{fields_of, shown_fields}
use Rattle.show_entry.specs.Entries.{shown_word, shown_constant, shown_upvalue, shown_delta, shown_anchor, shown_name}
use Rattle.show_local.specs.Locals.{shown_local, name_written}
use Rattle.show_row.proofs.Whole.{all_nth, whole}

-- ## What is shown of a function
pub record ShowsFunction (L : ResourceLimits) (s : Bytes) (f : ℕ) (p : Prototype) : Type 0 where
  pub fields : shown_fields (function_of f (read L s)) ≡ Ok (fields_of p)
  -- an entry by its number, or refusal 24
  pub instruction : (i : ℕ) → shown_word (entry_of (λ p. p.instructions) f i (read L s)) ≡ shown_word (or_refuse NoEntry (get_elem? p.instructions i))
  pub constant : (i : ℕ) → shown_constant (entry_of (λ p. p.constants) f i (read L s)) ≡ shown_constant (or_refuse NoEntry (get_elem? p.constants i))
  pub upvalue : (i : ℕ) → shown_upvalue (entry_of (λ p. p.upvalues) f i (read L s)) ≡ shown_upvalue (or_refuse NoEntry (get_elem? p.upvalues i))
  pub delta : (i : ℕ) → shown_delta (entry_of (λ p. p.line_info_lem) f i (read L s)) ≡ shown_delta (or_refuse NoEntry (get_elem? p.line_info_lem i))
  pub anchor : (i : ℕ) → shown_anchor (entry_of (λ p. p.abs_line_info) f i (read L s)) ≡ shown_anchor (or_refuse NoEntry (get_elem? p.abs_line_info i))
  pub upvalue_name : (i : ℕ) → shown_name (entry_of (λ p. p.upvalue_names_lem) f i (read L s)) ≡ shown_name (or_refuse NoEntry (get_elem? p.upvalue_names_lem i))
  -- a local variable's name is written into lent space that has room for it, and what stood behind it stays; else 26, and all that stood there stays
  pub local : (i : ℕ) (l : LocalVar) → get_elem? p.loc_vars i ≡ some l → (old : Bytes) → length l.name.bytes ≤ length old
      → (shown_local (length old) (entry_of (λ p. p.loc_vars) f i (read L s)) ≡ Ok (record { name_len = (length l.name.bytes); startpc = l.startpc; endpc = l.endpc }))
      × (name_written old (entry_of (λ p. p.loc_vars) f i (read L s)) ≡ l.name.bytes ++ drop (length l.name.bytes) old)
  pub local_too_long : (i : ℕ) (l : LocalVar) → get_elem? p.loc_vars i ≡ some l → (old : Bytes) → length old < length l.name.bytes
      → (shown_local (length old) (entry_of (λ p. p.loc_vars) f i (read L s)) ≡ Err LentSpace) × (name_written old (entry_of (λ p. p.loc_vars) f i (read L s)) ≡ old)
  pub no_local : (i : ℕ) → get_elem? p.loc_vars i ≡ none → (old : Bytes)
      → (shown_local (length old) (entry_of (λ p. p.loc_vars) f i (read L s)) ≡ Err NoEntry) × (name_written old (entry_of (λ p. p.loc_vars) f i (read L s)) ≡ old)
  -- strings: what `string_bytes` shows by the place and length that are shown are their bytes
  pub source_bytes : StandsIf s p.source_name
  pub constant_bytes : (i : ℕ) (k : ConstantValue) → get_elem? p.constants i ≡ some k → ConstantStands s k
  pub upvalue_name_bytes : (i : ℕ) (t : Option LuaString) → get_elem? p.upvalue_names_lem i ≡ some t → StandsIf s t
  -- the line of any pc, by 01's rules
  pub line : (pc : ℕ) → shown_line pc (function_of f (read L s)) ≡ answer_of (length p.instructions) p.line_defined p.line_info_lem p.abs_line_info pc
  -- those of any list of pcs, in lent space
  pub lines : (old pcs : List ℕ) → (shown_lines (length old) pcs (function_of f (read L s)) ≡ shown_lines (length old) pcs (found p)) × (lines_written old pcs (function_of f (read L s)) ≡ lines_written old pcs (found p))

-- ## A function that is not shown: every call on it answers with the same refusal, and lent memory stays as it was
pub record RefusesFunction (L : ResourceLimits) (s : Bytes) (f : ℕ) (q : Refusal) : Type 0 where
  pub fields : shown_fields (function_of f (read L s)) ≡ Err q
  pub instruction : (i : ℕ) → shown_word (entry_of (λ p. p.instructions) f i (read L s)) ≡ Err q
  pub constant : (i : ℕ) → shown_constant (entry_of (λ p. p.constants) f i (read L s)) ≡ Err q
  pub upvalue : (i : ℕ) → shown_upvalue (entry_of (λ p. p.upvalues) f i (read L s)) ≡ Err q
  pub delta : (i : ℕ) → shown_delta (entry_of (λ p. p.line_info_lem) f i (read L s)) ≡ Err q
  pub anchor : (i : ℕ) → shown_anchor (entry_of (λ p. p.abs_line_info) f i (read L s)) ≡ Err q
  pub upvalue_name : (i : ℕ) → shown_name (entry_of (λ p. p.upvalue_names_lem) f i (read L s)) ≡ Err q
  pub local : (i : ℕ) (old : Bytes) → (shown_local (length old) (entry_of (λ p. p.loc_vars) f i (read L s)) ≡ Err q) × (name_written old (entry_of (λ p. p.loc_vars) f i (read L s)) ≡ old)
  pub line : (pc : ℕ) → shown_line pc (function_of f (read L s)) ≡ Err q
  pub lines : (old pcs : List ℕ) → (shown_lines (length old) pcs (function_of f (read L s)) ≡ Err q) × (lines_written old pcs (function_of f (read L s)) ≡ old)

refuses-function : (L : ResourceLimits) (s : Bytes) (f : ℕ) (q : Refusal) → function_of f (read L s) ≡ refused q → RefusesFunction L s f q
refuses-function L s f q is = record {
  fields = ap shown_fields is;
  instruction = λ i. ap (λ a. shown_word (entry_in (λ p. p.instructions) i a)) is;
  constant = λ i. ap (λ a. shown_constant (entry_in (λ p. p.constants) i a)) is;
  upvalue = λ i. ap (λ a. shown_upvalue (entry_in (λ p. p.upvalues) i a)) is;
  delta = λ i. ap (λ a. shown_delta (entry_in (λ p. p.line_info_lem) i a)) is;
  anchor = λ i. ap (λ a. shown_anchor (entry_in (λ p. p.abs_line_info) i a)) is;
  upvalue_name = λ i. ap (λ a. shown_name (entry_in (λ p. p.upvalue_names_lem) i a)) is;
  local = λ i old. (ap (λ a. shown_local (length old) (entry_in (λ p. p.loc_vars) i a)) is, ap (λ a. name_written old (entry_in (λ p. p.loc_vars) i a)) is);
  line = λ pc. ap (shown_line pc) is;
  lines = λ old pcs. (ap (shown_lines (length old) pcs) is, ap (lines_written old pcs) is);
}

-- ## What is shown of a chunk
pub record Shows (L : ResourceLimits) (s : Bytes) (r : Reading) : Type 0 where
  pub summary : shown_summary (spelling L s) (read L s) ≡ Ok (record { summary = summary_of r; padded_numbers = (spelling L s).padded })
  pub trailing : trailing_of (read L s) ≡ r.trailing
  pub function : (f : ℕ) (p : Prototype) → get_elem? r.functions f ≡ some p → ShowsFunction L s f p
  -- refusal 23
  pub no_function_lem : (f : ℕ) → get_elem? r.functions f ≡ none → RefusesFunction L s f NoFunction
  -- the index is written into lent space that has room for it, and what stood behind it stays; else 26, and all that stood there stays
  pub index_rows : (old : List ℕ) → length (index r.functions) ≤ length old
      → (shown_index (length old) (read L s) ≡ Ok (length r.functions)) × (index_written old (read L s) ≡ index r.functions ++ drop (length (index r.functions)) old)
  pub index_too_long : (old : List ℕ) → length old < length (index r.functions) → (shown_index (length old) (read L s) ≡ Err LentSpace) × (index_written old (read L s) ≡ old)
  -- validation: the verdict, the number of findings, and the findings in a list that has room for them
  pub chunk_verdict : shownVerdict (read L s) ≡ Ok (verdict (chunk_findings r))
  pub finding_count : shownCount (read L s) ≡ Ok (length (chunk_findings r).findings)
  pub findings : (old : List Finding) → length (chunk_findings r).findings ≤ length old
      → (shown_findings (length old) (read L s) ≡ Ok ((verdict (chunk_findings r)), (length (chunk_findings r).findings)))
      × (findings_written old (read L s) ≡ (chunk_findings r).findings ++ drop (length (chunk_findings r).findings) old)
  pub findings_too_many : (old : List Finding) → length old < length (chunk_findings r).findings → (shown_findings (length old) (read L s) ≡ Err LentSpace) × (findings_written old (read L s) ≡ old)
  -- the array by value always has room
  pub finding_array : (shown_findings LONGEST (read L s) ≡ Ok ((verdict (chunk_findings r)), (length (chunk_findings r).findings)))
      × (findings_written blank_list (read L s) ≡ (chunk_findings r).findings ++ drop (length (chunk_findings r).findings) blank_list)
  pub copy_length : shown_length (read L s) ≡ Ok (length (copy r))
  -- the copy is written into lent space that has room for it, and what stood behind it stays; else 26, and all that stood there stays
  pub copied : (old : Bytes) → length (copy r) ≤ length old → (shown_copy (length old) (read L s) ≡ Ok (length (copy r))) × (copy_written old (read L s) ≡ copy r ++ drop (length (copy r)) old)
  pub copy_too_long : (old : Bytes) → length old < length (copy r) → (shown_copy (length old) (read L s) ≡ Err LentSpace) × (copy_written old (read L s) ≡ old)
  -- so is the full copy
  pub full_length : shown_full_length (read L s) ≡ Ok (length (full_copy r))
  pub full_copied : (old : Bytes) → length (full_copy r) ≤ length old → (shown_full (length old) (read L s) ≡ Ok (length (full_copy r))) × (full_written old (read L s) ≡ full_copy r ++ drop (length (full_copy r)) old)
  pub full_too_long : (old : Bytes) → length old < length (full_copy r) → (shown_full (length old) (read L s) ≡ Err LentSpace) × (full_written old (read L s) ≡ old)

-- the array of `chunk_findings` is as long as there can be findings
array_length : length blank_list ≡ LONGEST
unfolding blank_list
array_length = length-replicate {A = Finding} LONGEST (record { function = 0; pc = 0; rule = Register 0 })

module _ (L : ResourceLimits) (s : Bytes) (r : Reading) (is : read L s ≡ shown r) where
  module _ (f : ℕ) (p : Prototype) (there : get_elem? r.functions f ≡ some p) where
    pub function-is : function_of f (read L s) ≡ found p
    function-is = ap (function_of f) is ∙ ap (or_refuse NoFunction) there

    pub entry_is : {A : Type 0} (list : Prototype → List A) (i : ℕ) → entry_of list f i (read L s) ≡ or_refuse NoEntry (get_elem? (list p) i)
    entry_is list i = ap (entry_in list i) function-is

    name : (i : ℕ) (l : LocalVar) → get_elem? p.loc_vars i ≡ some l → (old : Bytes) (b : Bool) → leb (length l.name.bytes) (length old) ≡ b
        → (shown_local (length old) (entry_of (λ p. p.loc_vars) f i (read L s)) ≡ cond b (Ok (record { name_len = (length l.name.bytes); startpc = l.startpc; endpc = l.endpc })) (Err LentSpace))
        × (name_written old (entry_of (λ p. p.loc_vars) f i (read L s)) ≡ cond b (l.name.bytes ++ drop (length l.name.bytes) old) old)
    name i l e old b test =
        let one = entry_is (λ p. p.loc_vars) i ∙ ap (or_refuse NoEntry) e in
        (ap (shown_local (length old)) one ∙ rw test, ap (name_written old) one ∙ rw test)

    pub located : Located L s p
    located = all_nth (Located L s) r.functions (whole L s r is).located f there

    function-shown : ShowsFunction L s f p
    function-shown = record {
      fields = ap shown_fields function-is;
      instruction = λ i. ap shown_word (entry_is (λ p. p.instructions) i);
      constant = λ i. ap shown_constant (entry_is (λ p. p.constants) i);
      upvalue = λ i. ap shown_upvalue (entry_is (λ p. p.upvalues) i);
      delta = λ i. ap shown_delta (entry_is (λ p. p.line_info_lem) i);
      anchor = λ i. ap shown_anchor (entry_is (λ p. p.abs_line_info) i);
      upvalue_name = λ i. ap shown_name (entry_is (λ p. p.upvalue_names_lem) i);
      local = λ i l e old room. name i l e old true (le-leb (length l.name.bytes) (length old) room);
      local_too_long = λ i l e old short. name i l e old false (lt-leb (length l.name.bytes) (length old) short);
      no_local = λ i e old. let one = entry_is (λ p. p.loc_vars) i ∙ ap (or_refuse NoEntry) e in (ap (shown_local (length old)) one, ap (name_written old) one);
      source_bytes = located.source_name;
      constant_bytes = λ i k e. constant_stands s L.max_string_bytes i (many_nth (constant L.max_string_bytes) (length p.constants) located.constants i e);
      upvalue_name_bytes = λ i t e. name_stands s L.max_string_bytes i (many_nth (string L.max_string_bytes) (length p.upvalue_names_lem) located.upvalue_names_lem i e);
      line = λ pc. ap (shown_line pc) function-is;
      lines = λ old pcs. (ap (shown_lines (length old) pcs) function-is, ap (lines_written old pcs) function-is);
    }

  -- the findings in a list of that length
  listed : (space : ℕ) (old : List Finding) → length old ≡ space → (b : Bool) → leb (length (chunk_findings r).findings) space ≡ b
      → (shown_findings space (read L s) ≡ cond b (Ok ((verdict (chunk_findings r)), (length (chunk_findings r).findings))) (Err LentSpace))
      × (findings_written old (read L s) ≡ cond b ((chunk_findings r).findings ++ drop (length (chunk_findings r).findings) old) old)
  listed space old size b test = (ap (shown_findings space) is ∙ rw test, ap (findings_written old) is ∙ rw (size, test))

  pub shows : Shows L s r
  shows = record {
    summary = ap (shown_summary (spelling L s)) is;
    trailing = ap trailing_of is;
    function = function-shown;
    no_function_lem = λ f e. refuses-function L s f NoFunction (ap (function_of f) is ∙ ap (or_refuse NoFunction) e);
    index_rows = λ old room. let test = le-leb (length (index r.functions)) (length old) room in (ap (shown_index (length old)) is ∙ rw test, ap (index_written old) is ∙ rw test);
    index_too_long = λ old short. let test = lt-leb (length (index r.functions)) (length old) short in (ap (shown_index (length old)) is ∙ rw test, ap (index_written old) is ∙ rw test);
    chunk_verdict = ap shownVerdict is;
    finding_count = ap shownCount is;
    findings = λ old room. listed (length old) old refl true (le-leb (length (chunk_findings r).findings) (length old) room);
    findings_too_many = λ old short. listed (length old) old refl false (lt-leb (length (chunk_findings r).findings) (length old) short);
    finding_array = listed LONGEST blank_list array_length true (le-leb (length (chunk_findings r).findings) LONGEST (findings_few r));
    copy_length = ap shown_length is;
    copied = λ old room. let test = le-leb (length (copy r)) (length old) room in (ap (shown_copy (length old)) is ∙ rw test, ap (copy_written old) is ∙ rw test);
    copy_too_long = λ old short. let test = lt-leb (length (copy r)) (length old) short in (ap (shown_copy (length old)) is ∙ rw test, ap (copy_written old) is ∙ rw test);
    full_length = ap shown_full_length is;
    full_copied = λ old room. let test = le-leb (length (full_copy r)) (length old) room in (ap (shown_full (length old)) is ∙ rw test, ap (full_written old) is ∙ rw test);
    full_too_long = λ old short. let test = lt-leb (length (full_copy r)) (length old) short in (ap (shown_full (length old)) is ∙ rw test, ap (full_written old) is ∙ rw test);
  }

-- ## A chunk that is refused: every call answers with the same refusal, and lent memory stays as it was
pub record Refuses (L : ResourceLimits) (s : Bytes) (q : Refusal) : Type 0 where
  pub summary : shown_summary (spelling L s) (read L s) ≡ Err q
  pub trailing : trailing_of (read L s) ≡ []
  pub function : (f : ℕ) → RefusesFunction L s f q
  pub index_rows : (old : List ℕ) → (shown_index (length old) (read L s) ≡ Err q) × (index_written old (read L s) ≡ old)
  pub chunk_verdict : shownVerdict (read L s) ≡ Err q
  pub finding_count : shownCount (read L s) ≡ Err q
  pub findings : (old : List Finding) → (shown_findings (length old) (read L s) ≡ Err q) × (findings_written old (read L s) ≡ old)
  pub finding_array : (shown_findings LONGEST (read L s) ≡ Err q) × (findings_written blank_list (read L s) ≡ blank_list)
  pub copy_length : shown_length (read L s) ≡ Err q
  pub copied : (old : Bytes) → (shown_copy (length old) (read L s) ≡ Err q) × (copy_written old (read L s) ≡ old)
  pub full_length : shown_full_length (read L s) ≡ Err q
  pub full_copied : (old : Bytes) → (shown_full (length old) (read L s) ≡ Err q) × (full_written old (read L s) ≡ old)

pub refuses : (L : ResourceLimits) (s : Bytes) (q : Refusal) → read L s ≡ refusal q → Refuses L s q
refuses L s q is = record {
  summary = ap (shown_summary (spelling L s)) is;
  trailing = ap trailing_of is;
  function = λ f. refuses-function L s f q (ap (function_of f) is);
  index_rows = λ old. (ap (shown_index (length old)) is, ap (index_written old) is);
  chunk_verdict = ap shownVerdict is;
  finding_count = ap shownCount is;
  findings = λ old. (ap (shown_findings (length old)) is, ap (findings_written old) is);
  finding_array = (ap (shown_findings LONGEST) is, ap (findings_written blank_list) is);
  copy_length = ap shown_length is;
  copied = λ old. (ap (shown_copy (length old)) is, ap (copy_written old) is);
  full_length = ap shown_full_length is;
  full_copied = λ old. (ap (shown_full (length old)) is, ap (full_written old) is);
}
