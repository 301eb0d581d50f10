-- `Shows` and `Refuses` (`Calls.antt`) leave no call out that goes by the reading: whatever two chunks show one reading, or are refused for one reason, every such call answers alike on both (the summary but for its
-- count of padded numbers, which is no part of the reading), whatever is asked of it and whatever space it is lent. Left out: `strict_summary`, which goes by the stricter reading and so by more than this one
-- (Request07.antt); `string_bytes`, which shows bytes of the chunk by place and length; words and limits, which are of no chunk.
--     RestAlike            the calls that `AnswerAlike` (`Alike.antt`) does not name: lines, the index, verdict and findings, the copy, the full copy
--     shown_alike          both show the same reading
--     refused_alike        both are refused for the same reason
-- Refused: a `Shows` or `Refuses` that lacks a call, or says of lent space only what happens where there is room.
-- Assumes nothing.
use mathlib.Core.Path.{◌≡◌, refl, sym, ◌∙◌, ap}
use mathlib.Core.Bool.{Bool, true, false}
use mathlib.Core.List.{List}
use mathlib.Core.Option.{Option, none, some}
use Prim.Native.Nat.{ℕ, ◌≤◌, ◌<◌}
use lib.Dec.{leb}
use lib.ListN.{length, get_elem?}
use borrow.Author.Tests.{leb-true, leb-false}
use Rattle.format.specs.declared.limits.ResourceLimits.{ResourceLimits}
use Rattle.format.specs.declared.refusal.Refusal.{Refusal}
use Rattle.format.specs.declared.refusal.Refusal.TheVariants.{NoFunction}
use Rattle.format.specs.Form.{Bytes}
use Rattle.format.specs.Reading.{Reading, Prototype}
use Rattle.format.specs.ReadChunk.{read}
use Rattle.format.specs.Copy.{copy}
use Rattle.format.specs.FullCopy.{full_copy}
use Rattle.show_row.specs.Asked.{function_of, entry_of}
use Rattle.validate_rules.specs.declared.finding.Finding.{Finding}
use Rattle.validate_rules.specs.Findings.{chunk_findings}
use Rattle.validate_verdict.specs.Answers.{shownVerdict, shownCount}
use Rattle.validate_plan.specs.Validated.{shown_findings, findings_written}
use Rattle.validate_findings.specs.Blank.{LONGEST, blank_list}
use Rattle.line_lookup.specs.Lines.{shown_line}
use Rattle.line_batch.specs.Batch.{shown_lines, lines_written}
use Rattle.index.specs.Index.{index, shown_index, index_written}
use Rattle.copy.specs.Copied.{shown_length, shown_copy, copy_written}
use Rattle.copy_full.specs.InFull.{shown_full_length, shown_full, full_written}
use Rattle.show_local.specs.Locals.{shown_local, name_written}
use Rattle.demands.proofs.Calls.{ShowsFunction, RefusesFunction, Shows, Refuses}
use Rattle.demands.proofs.Alike.{without_count, source_shown, constant_shown, name_shown, AnswerAlike, IndexAlike}
use Rattle.demands.proofs.ShownEqual.{option_shown_lem, value-shown, name_shown_lem}

pub record RestAlike (L : ResourceLimits) (s : Bytes) (M : ResourceLimits) (t : Bytes) : Type 0 where
  pub line : (f pc : ℕ) → shown_line pc (function_of f (read L s)) ≡ shown_line pc (function_of f (read M t))
  pub lines : (f : ℕ) (old pcs : List ℕ) → (shown_lines (length old) pcs (function_of f (read L s)) ≡ shown_lines (length old) pcs (function_of f (read M t))) × (lines_written old pcs (function_of f (read L s)) ≡ lines_written old pcs (function_of f (read M t)))
  pub index_rows : IndexAlike L s M t
  pub chunk_verdict : shownVerdict (read L s) ≡ shownVerdict (read M t)
  pub finding_count : shownCount (read L s) ≡ shownCount (read M t)
  pub findings : (old : List Finding) → (shown_findings (length old) (read L s) ≡ shown_findings (length old) (read M t)) × (findings_written old (read L s) ≡ findings_written old (read M t))
  pub finding_array : (shown_findings LONGEST (read L s) ≡ shown_findings LONGEST (read M t)) × (findings_written blank_list (read L s) ≡ findings_written blank_list (read M t))
  pub copy_length : shown_length (read L s) ≡ shown_length (read M t)
  pub copied : (old : Bytes) → (shown_copy (length old) (read L s) ≡ shown_copy (length old) (read M t)) × (copy_written old (read L s) ≡ copy_written old (read M t))
  pub full_length : shown_full_length (read L s) ≡ shown_full_length (read M t)
  pub full_copied : (old : Bytes) → (shown_full (length old) (read L s) ≡ shown_full (length old) (read M t)) × (full_written old (read L s) ≡ full_written old (read M t))

-- what is one thing on both sides: an answer, or an answer with what is left in lent space
via : {A : Type 0} {x y z : A} → x ≡ z → y ≡ z → x ≡ y
via e f = e ∙ sym f

both : {A B : Type 0} {a b c : A} {x y z : B} → (a ≡ c) × (x ≡ z) → (b ≡ c) × (y ≡ z) → (a ≡ b) × (x ≡ y)
both e f = (via e.0 f.0, via e.1 f.1)

-- an entry is there or not; there is room or not
there : {A C : Type 0} (a : Option A) → ((x : A) → a ≡ some x → C) → (a ≡ none → C) → C
there none is not = not refl
there (some x) is not = is x refl

room : {C : Type 0} (n space : ℕ) → (n ≤ space → C) → (space < n → C) → C
room {C} n space enough short = go (leb n space) refl
  where
    go : (b : Bool) → leb n space ≡ b → C
    go true e = enough (leb-true n space e)
    go false e = short (leb-false n space e)

module _ (L M : ResourceLimits) (s t : Bytes) where
  -- ## Of one function
  module _ (f : ℕ) (p : Prototype) (x : ShowsFunction L s f p) (y : ShowsFunction M t f p) where
    local_alike : (i : ℕ) (old : Bytes) → (shown_local (length old) (entry_of (λ p. p.loc_vars) f i (read L s)) ≡ shown_local (length old) (entry_of (λ p. p.loc_vars) f i (read M t)))
        × (name_written old (entry_of (λ p. p.loc_vars) f i (read L s)) ≡ name_written old (entry_of (λ p. p.loc_vars) f i (read M t)))
    local_alike i old =
        there (get_elem? p.loc_vars i)
        (λ l e. room (length l.name.bytes) (length old) (λ fits. both (x.local i l e old fits) (y.local i l e old fits)) (λ short. both (x.local_too_long i l e old short) (y.local_too_long i l e old short)))
        (λ e. both (x.no_local i e old) (y.no_local i e old))

  -- ## Both show one reading
  module _ (r : Reading) (x : Shows L s r) (y : Shows M t r) where
    -- of a function that is there, and of one that is not
    function : {C : Type 0} (f : ℕ) → ((p : Prototype) → ShowsFunction L s f p → ShowsFunction M t f p → C) → ((q : Refusal) → RefusesFunction L s f q → RefusesFunction M t f q → C) → C
    function f is not = there (get_elem? r.functions f) (λ p e. is p (x.function f p e) (y.function f p e)) (λ e. not NoFunction (x.no_function_lem f e) (y.no_function_lem f e))

    rows : (old : List ℕ) → (shown_index (length old) (read L s) ≡ shown_index (length old) (read M t)) × (index_written old (read L s) ≡ index_written old (read M t))
    rows old = room (length (index r.functions)) (length old) (λ fits. both (x.index_rows old fits) (y.index_rows old fits)) (λ short. both (x.index_too_long old short) (y.index_too_long old short))

    pub shown_alike : AnswerAlike L s M t × RestAlike L s M t
    shown_alike = (
      record {
        summary = via (ap without_count x.summary) (ap without_count y.summary);
        trailing = via x.trailing y.trailing;
        fields = λ f. function f (λ p a b. via a.fields b.fields) (λ q a b. via a.fields b.fields);
        source_bytes = λ f. function f
            (λ p a b. via (ap (source_shown s) a.fields ∙ option_shown_lem s p.source_name a.source_bytes) (ap (source_shown t) b.fields ∙ option_shown_lem t p.source_name b.source_bytes))
            (λ q a b. via (ap (source_shown s) a.fields) (ap (source_shown t) b.fields));
        instruction = λ f i. function f (λ p a b. via (a.instruction i) (b.instruction i)) (λ q a b. via (a.instruction i) (b.instruction i));
        constant = λ f i. function f (λ p a b. via (a.constant i) (b.constant i)) (λ q a b. via (a.constant i) (b.constant i));
        constant_bytes = λ f i. function f
            (λ p a b. via (ap (constant_shown s) (a.constant i) ∙ value-shown s (get_elem? p.constants i) (a.constant_bytes i)) (ap (constant_shown t) (b.constant i) ∙ value-shown t (get_elem? p.constants i) (b.constant_bytes i)))
            (λ q a b. via (ap (constant_shown s) (a.constant i)) (ap (constant_shown t) (b.constant i)));
        upvalue = λ f i. function f (λ p a b. via (a.upvalue i) (b.upvalue i)) (λ q a b. via (a.upvalue i) (b.upvalue i));
        delta = λ f i. function f (λ p a b. via (a.delta i) (b.delta i)) (λ q a b. via (a.delta i) (b.delta i));
        anchor = λ f i. function f (λ p a b. via (a.anchor i) (b.anchor i)) (λ q a b. via (a.anchor i) (b.anchor i));
        upvalue_name = λ f i. function f (λ p a b. via (a.upvalue_name i) (b.upvalue_name i)) (λ q a b. via (a.upvalue_name i) (b.upvalue_name i));
        upvalue_name_bytes = λ f i. function f
            (λ p a b. via (ap (name_shown s) (a.upvalue_name i) ∙ name_shown_lem s (get_elem? p.upvalue_names_lem i) (a.upvalue_name_bytes i)) (ap (name_shown t) (b.upvalue_name i) ∙ name_shown_lem t (get_elem? p.upvalue_names_lem i) (b.upvalue_name_bytes i)))
            (λ q a b. via (ap (name_shown s) (a.upvalue_name i)) (ap (name_shown t) (b.upvalue_name i)));
        local = λ f i old. function f (λ p a b. (local_alike f p a b i old).0) (λ q a b. (both (a.local i old) (b.local i old)).0);
        local_name = λ f i old. function f (λ p a b. (local_alike f p a b i old).1) (λ q a b. (both (a.local i old) (b.local i old)).1);
      },
      record {
        line = λ f pc. function f (λ p a b. via (a.line pc) (b.line pc)) (λ q a b. via (a.line pc) (b.line pc));
        lines = λ f old pcs. function f (λ p a b. both (a.lines old pcs) (b.lines old pcs)) (λ q a b. both (a.lines old pcs) (b.lines old pcs));
        index_rows = record { answer = λ old. (rows old).0; rows = λ old. (rows old).1 };
        chunk_verdict = via x.chunk_verdict y.chunk_verdict;
        finding_count = via x.finding_count y.finding_count;
        findings = λ old. room (length (chunk_findings r).findings) (length old) (λ fits. both (x.findings old fits) (y.findings old fits)) (λ short. both (x.findings_too_many old short) (y.findings_too_many old short));
        finding_array = both x.finding_array y.finding_array;
        copy_length = via x.copy_length y.copy_length;
        copied = λ old. room (length (copy r)) (length old) (λ fits. both (x.copied old fits) (y.copied old fits)) (λ short. both (x.copy_too_long old short) (y.copy_too_long old short));
        full_length = via x.full_length y.full_length;
        full_copied = λ old. room (length (full_copy r)) (length old) (λ fits. both (x.full_copied old fits) (y.full_copied old fits)) (λ short. both (x.full_too_long old short) (y.full_too_long old short));
      },
    )

  -- ## Both are refused for one reason
  module _ (q : Refusal) (x : Refuses L s q) (y : Refuses M t q) where
    pub refused_alike : AnswerAlike L s M t × RestAlike L s M t
    refused_alike = (
      record {
        summary = via (ap without_count x.summary) (ap without_count y.summary);
        trailing = via x.trailing y.trailing;
        fields = λ f. via (x.function f).fields (y.function f).fields;
        source_bytes = λ f. via (ap (source_shown s) (x.function f).fields) (ap (source_shown t) (y.function f).fields);
        instruction = λ f i. via ((x.function f).instruction i) ((y.function f).instruction i);
        constant = λ f i. via ((x.function f).constant i) ((y.function f).constant i);
        constant_bytes = λ f i. via (ap (constant_shown s) ((x.function f).constant i)) (ap (constant_shown t) ((y.function f).constant i));
        upvalue = λ f i. via ((x.function f).upvalue i) ((y.function f).upvalue i);
        delta = λ f i. via ((x.function f).delta i) ((y.function f).delta i);
        anchor = λ f i. via ((x.function f).anchor i) ((y.function f).anchor i);
        upvalue_name = λ f i. via ((x.function f).upvalue_name i) ((y.function f).upvalue_name i);
        upvalue_name_bytes = λ f i. via (ap (name_shown s) ((x.function f).upvalue_name i)) (ap (name_shown t) ((y.function f).upvalue_name i));
        local = λ f i old. via ((x.function f).local i old).0 ((y.function f).local i old).0;
        local_name = λ f i old. via ((x.function f).local i old).1 ((y.function f).local i old).1;
      },
      record {
        line = λ f pc. via ((x.function f).line pc) ((y.function f).line pc);
        lines = λ f old pcs. both ((x.function f).lines old pcs) ((y.function f).lines old pcs);
        index_rows = record { answer = λ old. (both (x.index_rows old) (y.index_rows old)).0; rows = λ old. (both (x.index_rows old) (y.index_rows old)).1 };
        chunk_verdict = via x.chunk_verdict y.chunk_verdict;
        finding_count = via x.finding_count y.finding_count;
        findings = λ old. both (x.findings old) (y.findings old);
        finding_array = both x.finding_array y.finding_array;
        copy_length = via x.copy_length y.copy_length;
        copied = λ old. both (x.copied old) (y.copied old);
        full_length = via x.full_length y.full_length;
        full_copied = λ old. both (x.full_copied old) (y.full_copied old);
      },
    )
