-- Everything else is accepted (demand 1), call by call: where none of a call's conditions holds (Refused.antt), the chunk is read and the answer is Ok, with the call's part of the reading; and lent space then
-- holds the result, and beyond it what it held.
--     Accepted L s Shown       the chunk s is read under the limits L, and `Shown` holds of its reading
--     Present o Shown          o is there, and `Shown` holds of it
-- One theorem for each call, under its name in Demand1.antt (but `verdict-of`, `encoded_word`), whose theorems say the other half: the answer holds a refusal where a condition holds.
-- (`decode` refuses no word; `string_bytes` shows bytes of any place.)
-- Refused by these: a call that answers nothing but refusals, one that refuses what it could show, one that answers Ok of another function or entry, one that answers Ok and writes nothing.
-- Assumes nothing.
use Rattle.std.specs.Prelude.{Result, Ok, Err}
use Rattle.format.specs.declared.refusal.Refusal.{Refusal}
use mathlib.Core.Path.{◌≡◌, refl, sym, ◌∙◌, ap}
use mathlib.Core.Bool.{Bool, true, false, cond}
use mathlib.Core.List.{List, [], ◌∷◌, ◌++◌}
use mathlib.Core.Option.{Option, none, some}
use Prim.Native.Nat.{ℕ}
use native.Mathlib.Omega.{arith}
use lib.Dec.{leb}
use lib.ListN.{length, drop, get_elem?}
use mir.Syntax.{w8}
use mir.Val.{to_z}
use borrow.Author.Tests.{le-leb}
use Rattle.std.specs.Prelude as prelude
use Rattle.format.specs.declared.limits.ResourceLimits.{ResourceLimits}
use Rattle.format.specs.declared.refusal.Refusal.{Refusal}
use Rattle.format.specs.declared.refusal.Refusal.TheVariants as refusals
use Rattle.format.specs.declared.refusal.Report.{Report}
use Rattle.format.specs.Refusals.{bare}
use Rattle.format.specs.Form.{Bytes}
use Rattle.format.specs.Reading.{Reading, Prototype, LocalVar}
use Rattle.format.specs.ReadChunk.{Outcome, shown, refusal, read}
use Rattle.format.specs.Copy.{copy}
use Rattle.format.specs.FullCopy.{full_copy}
use Rattle.format_spelling.specs.ReadSpelling.{spelling}
use Rattle.read_field.specs.Shown.{option_string}
use Rattle.read_entry.specs.Shown.{constant_value}
use Rattle.show_row.specs.Asked.{Asked, found, or_refuse, function_of, entry_in, entry_of}
use Rattle.index.specs.Index.{index, shown_index, index_written}
use Rattle.line_lookup.specs.Lines.{large, line_of, shown_line}
use Rattle.copy.specs.Copied.{shown_length, shown_copy, copy_written}
use Rattle.copy_full.specs.InFull.{shown_full_length, shown_full, full_written}
use Rattle.read_chunk.specs.Decoded.{summary_of}
use Rattle.show_chunk.specs.Summaries.{shown_summary, trailing_of}
use Rattle.show_chunk.specs.Fields.{fields_of, shown_fields}
use Rattle.show_entry.specs.Entries.{shown_word, shown_constant, shown_upvalue, shown_delta, shown_anchor, shown_name}
use Rattle.show_local.specs.Locals.{shown_local, name_written}
use Rattle.validate_rules.specs.declared.finding.Finding.{Finding}
use Rattle.validate_rules.specs.Findings.{chunk_findings, verdict}
use Rattle.validate_verdict.specs.Answers.{shownVerdict, shownCount}
use Rattle.validate_search.proofs.Few.{findings_few}
use Rattle.validate_plan.specs.Validated.{shown_findings, findings_written}
use Rattle.word_fields.specs.declared.instruction.RawInstruction54.{RawInstruction54}
use Rattle.word_fields.specs.Word.{encoded}
use Rattle.demands.proofs.Refused.{nothing_later, unless, missing, first, of_chunk, no_function, of_function_lem, no_entry, large_line, of_local, long_name, too_long_lem, in_encoded}
use Rattle.demands.proofs.Refused.{for_chunk, for_reading, for_space, for_function, for_line, for_entry, for_local, for_word}
use Rattle.demands.proofs.Demand1.{after, order, encode}

pub record Accepted (L : ResourceLimits) (s : Bytes) (Shown : Reading → Type 0) : Type 0 where
  pub reading : Reading
  pub is : read L s ≡ shown reading
  pub shows : Shown reading

pub record Present {A : Type 0} (o : Option A) (Shown : A → Type 0) : Type 0 where
  pub value : A
  pub is : o ≡ some value
  pub shows : Shown value

-- ## No condition holds
met : {P : Type 0} {q : Report} → some q ≡ none → P
met e = absurd (let z : ◌≡◌ {A = ℕ} 0 1 = cc in omega arith)

passed : (b : Bool) (q : Report) (qs : List (Option Report)) → first (unless b q ∷ qs) ≡ none → b ≡ true
passed true q qs e = refl
passed false q qs e = met e

found-there : {A : Type 0} (o : Option A) (q : Report) (later : A → List (Option Report)) (others : List (Option Report)) → first (missing o q ∷ others) ≡ none
    → ((x : A) → o ≡ some x → first others ≡ first (later x)) → Present o (λ x. first (later x) ≡ none)
found-there none q later others e same = met e
found-there (some x) q later others e same = record { value = x; is = refl; shows = sym (same x refl) ∙ e }

module _ (L : ResourceLimits) (s : Bytes) where
  -- the chunk is read, and none of what is then tested holds
  is_read : (later : Reading → List (Option Report)) (o : Outcome) → read L s ≡ o → after o later ≡ none → Accepted L s (λ r. first (later r) ≡ none)
  is_read later (shown r) is e = record { reading = r; is = is; shows = e }
  is_read later (refusal q) is e = met e

  by_reading : (later : Reading → List (Option Report)) → first (for_reading L s later) ≡ none → Accepted L s (λ r. first (later r) ≡ none)
  by_reading later e = is_read later (read L s) refl (order L s later ∙ e)

  pub chunk_read : first (for_chunk L s) ≡ none → Accepted L s (λ r. Unit {0})
  chunk_read e = let a = is_read (λ r. []) (read L s) refl (order L s (λ r. []) ∙ ap (λ qs. first (of_chunk L s qs)) (nothing_later (read L s)) ∙ e) in record { reading = a.reading; is = a.is; shows = tt }

  -- ## Calls on a chunk as a whole
  module _ (fine : first (for_chunk L s) ≡ none) where
    whole : {B : Type 0} (answer : Outcome → B) → Accepted L s (λ r. answer (read L s) ≡ answer (shown r))
    whole answer = let a = chunk_read fine in record { reading = a.reading; is = a.is; shows = ap answer a.is }

    pub summary : Accepted L s (λ r. shown_summary (spelling L s) (read L s) ≡ Ok (record { summary = summary_of r; padded_numbers = (spelling L s).padded }))
    summary = whole (shown_summary (spelling L s))

    pub trailing : Accepted L s (λ r. trailing_of (read L s) ≡ r.trailing)
    trailing = whole trailing_of

    pub verdict-of : Accepted L s (λ r. shownVerdict (read L s) ≡ Ok (verdict (chunk_findings r)))
    verdict-of = whole shownVerdict

    pub count : Accepted L s (λ r. shownCount (read L s) ≡ Ok (length (chunk_findings r).findings))
    count = whole shownCount

    pub copy_length : Accepted L s (λ r. shown_length (read L s) ≡ Ok (length (copy r)))
    copy_length = whole shown_length

    pub full_length : Accepted L s (λ r. shown_full_length (read L s) ≡ Ok (length (full_copy r)))
    full_length = whole shown_full_length

    -- `chunk_findings`, whose array has room for 10,001
    pub all_fit : Accepted L s (λ r. shown_findings 10001 (read L s) ≡ Ok ((verdict (chunk_findings r)), (length (chunk_findings r).findings)))
    all_fit =
        let a = whole (shown_findings 10001) in
        record { reading = a.reading; is = a.is; shows = a.shows ∙ ap (λ b. cond b (Ok ((verdict (chunk_findings a.reading)), (length (chunk_findings a.reading).findings))) (Err refusals.LentSpace)) (le-leb _ 10001 (findings_few a.reading)) }

  -- ## Calls that write a result into lent space, which held `old`
  module _ {A B : Type 0} (answer : ℕ → Outcome → B) (written : List A → Outcome → List A) (result : Reading → List A) (good bad : Reading → B) (old : List A)
      (by_room : (r : Reading) → answer (length old) (shown r) ≡ cond (leb (length (result r)) (length old)) (good r) (bad r))
      (put : (r : Reading) → written old (shown r) ≡ cond (leb (length (result r)) (length old)) (result r ++ drop (length (result r)) old) old) where
    into : first (for_space L s result (length old)) ≡ none → Accepted L s (λ r. (answer (length old) (read L s) ≡ good r) × (written old (read L s) ≡ result r ++ drop (length (result r)) old))
    into e =
        let a = by_reading (λ r. too_long_lem (result r) (length old) ∷ []) e in
        let r = a.reading in
        let room : leb (length (result r)) (length old) ≡ true = passed (leb (length (result r)) (length old)) (bare 26) [] a.shows in
        record {
          reading = r;
          is = a.is;
          shows = (ap (answer (length old)) a.is ∙ by_room r ∙ ap (λ b. cond b (good r) (bad r)) room, ap (written old) a.is ∙ put r ∙ ap (λ b. cond b (result r ++ drop (length (result r)) old) old) room);
        }

  pub index_rows : (old : List ℕ) → first (for_space L s (λ r. index r.functions) (length old)) ≡ none
      → Accepted L s (λ r. (shown_index (length old) (read L s) ≡ Ok (length r.functions)) × (index_written old (read L s) ≡ index r.functions ++ drop (length (index r.functions)) old))
  index_rows old = into shown_index index_written (λ r. index r.functions) (λ r. Ok (length r.functions)) (λ r. Err refusals.LentSpace) old (λ r. refl) (λ r. refl)

  pub copied : (old : Bytes) → first (for_space L s copy (length old)) ≡ none
      → Accepted L s (λ r. (shown_copy (length old) (read L s) ≡ Ok (length (copy r))) × (copy_written old (read L s) ≡ copy r ++ drop (length (copy r)) old))
  copied old = into shown_copy copy_written copy (λ r. Ok (length (copy r))) (λ r. Err refusals.LentSpace) old (λ r. refl) (λ r. refl)

  pub full_copied : (old : Bytes) → first (for_space L s full_copy (length old)) ≡ none
      → Accepted L s (λ r. (shown_full (length old) (read L s) ≡ Ok (length (full_copy r))) × (full_written old (read L s) ≡ full_copy r ++ drop (length (full_copy r)) old))
  full_copied old = into shown_full full_written full_copy (λ r. Ok (length (full_copy r))) (λ r. Err refusals.LentSpace) old (λ r. refl) (λ r. refl)

  pub findings : (old : List Finding) → first (for_space L s (λ r. (chunk_findings r).findings) (length old)) ≡ none
      → Accepted L s (λ r. (shown_findings (length old) (read L s) ≡ Ok ((verdict (chunk_findings r)), (length (chunk_findings r).findings)))
      × (findings_written old (read L s) ≡ (chunk_findings r).findings ++ drop (length (chunk_findings r).findings) old))
  findings old = into shown_findings findings_written (λ r. (chunk_findings r).findings) (λ r. Ok ((verdict (chunk_findings r)), (length (chunk_findings r).findings))) (λ r. Err refusals.LentSpace) old (λ r. refl) (λ r. refl)

  -- ## Calls on a function
  module _ (f : ℕ) where
    -- the function is there, and none of what is then tested holds of it
    module _ (later : Prototype → List (Option Report)) (others : Reading → List (Option Report)) (same : (r : Reading) (p : Prototype) → get_elem? r.functions f ≡ some p → first (others r) ≡ first (later p)) where
      there : first (for_reading L s (λ r. no_function f r ∷ others r)) ≡ none → Accepted L s (λ r. Present (get_elem? r.functions f) (λ p. first (later p) ≡ none))
      there e =
          let a = by_reading (λ r. no_function f r ∷ others r) e in
          record { reading = a.reading; is = a.is; shows = found-there (get_elem? a.reading.functions f) (bare 23) later (others a.reading) a.shows (same a.reading) }

    function-is : (r : Reading) (p : Prototype) → read L s ≡ shown r → get_elem? r.functions f ≡ some p → function_of f (read L s) ≡ found p
    function-is r p is there = ap (function_of f) is ∙ ap (or_refuse refusals.NoFunction) there

    pub fields : first (for_function L s f) ≡ none → Accepted L s (λ r. Present (get_elem? r.functions f) (λ p. shown_fields (function_of f (read L s)) ≡ Ok (fields_of p)))
    fields e =
        let a = there (λ p. []) (λ r. []) (λ r p is. refl) e in
        let p = a.shows in
        record { reading = a.reading; is = a.is; shows = record { value = p.value; is = p.is; shows = ap shown_fields (function-is a.reading p.value a.is p.is) } }

    pub line : (pc : ℕ) → first (for_line L s f) ≡ none
        → Accepted L s (λ r. Present (get_elem? r.functions f) (λ p. shown_line pc (function_of f (read L s)) ≡ Ok (line_of (length p.instructions) p.line_defined p.line_info_lem p.abs_line_info pc)))
    line pc e =
        let a = there (λ p. cond (large p.line_defined p.abs_line_info) (some (bare 25)) none ∷ []) (λ r. large_line f r ∷ []) (λ r p is. ap (λ o. first (of_function_lem o (λ p. cond (large p.line_defined p.abs_line_info) (some (bare 25)) none) ∷ [])) is) e in
        let p = a.shows in
        record {
          reading = a.reading;
          is = a.is;
          shows = record {
            value = p.value;
            is = p.is;
            shows = ap (shown_line pc) (function-is a.reading p.value a.is p.is) ∙ fine p.value p.shows;
          };
        }
      where
        fine : (p : Prototype) → first (cond (large p.line_defined p.abs_line_info) (some (bare 25)) none ∷ []) ≡ none
            → shown_line pc (found p) ≡ Ok (line_of (length p.instructions) p.line_defined p.line_info_lem p.abs_line_info pc)
        fine p = small (large p.line_defined p.abs_line_info) (line_of (length p.instructions) p.line_defined p.line_info_lem p.abs_line_info pc)
          where
            small : (b : Bool) (n : ℕ) → first (cond b (some (bare 25)) none ∷ []) ≡ none → cond b (Err refusals.LineTooLarge) (Ok n) ≡ Ok n
            small true n e = met e
            small false n e = refl

    -- ## Entries of a function's list
    module _ (i : ℕ) where
      module _ {A : Type 0} (list : Prototype → List A) (later : A → List (Option Report)) (others : Reading → List (Option Report))
          (same : (r : Reading) (p : Prototype) (x : A) → get_elem? r.functions f ≡ some p → get_elem? (list p) i ≡ some x → first (others r) ≡ first (later x)) where
        entry_there : first (for_reading L s (λ r. no_function f r ∷ no_entry list f i r ∷ others r)) ≡ none
            → Accepted L s (λ r. Present (get_elem? r.functions f) (λ p. Present (get_elem? (list p) i) (λ x. first (later x) ≡ none)))
        entry_there e = by (by_reading (λ r. no_function f r ∷ no_entry list f i r ∷ others r) e)
          where
            in_list : (r : Reading) (p : Prototype) → get_elem? r.functions f ≡ some p → (o : Option Prototype) → o ≡ some p → first (of_function_lem o (λ p. missing (get_elem? (list p) i) (bare 24)) ∷ others r) ≡ none → Present (get_elem? (list p) i) (λ x. first (later x) ≡ none)
            in_list r p is o k e = found-there (get_elem? (list p) i) (bare 24) later (others r) (ap (λ o. first (of_function_lem o (λ p. missing (get_elem? (list p) i) (bare 24)) ∷ others r)) (sym k) ∙ e) (λ x there. same r p x is there)

            by_function : (r : Reading) (o : Option Prototype) → get_elem? r.functions f ≡ o → first (missing o (bare 23) ∷ of_function_lem o (λ p. missing (get_elem? (list p) i) (bare 24)) ∷ others r) ≡ none
                → Present (get_elem? r.functions f) (λ p. Present (get_elem? (list p) i) (λ x. first (later x) ≡ none))
            by_function r none k e = met e
            by_function r (some p) k e = record { value = p; is = k; shows = in_list r p k (some p) refl e }

            by : Accepted L s (λ r. first (no_function f r ∷ no_entry list f i r ∷ others r) ≡ none) → Accepted L s (λ r. Present (get_elem? r.functions f) (λ p. Present (get_elem? (list p) i) (λ x. first (later x) ≡ none)))
            by a = record { reading = a.reading; is = a.is; shows = by_function a.reading (get_elem? a.reading.functions f) refl a.shows }

      entry_is : {A : Type 0} (list : Prototype → List A) (r : Reading) (p : Prototype) (x : A) → read L s ≡ shown r → get_elem? r.functions f ≡ some p → get_elem? (list p) i ≡ some x → entry_of list f i (read L s) ≡ found x
      entry_is list r p x is there here = ap (entry_in list i) (function-is r p is there) ∙ ap (or_refuse refusals.NoEntry) here

      entry : {A B : Type 0} (list : Prototype → List A) (answer : Asked A → B) → first (for_entry L s list f i) ≡ none
          → Accepted L s (λ r. Present (get_elem? r.functions f) (λ p. Present (get_elem? (list p) i) (λ x. answer (entry_of list f i (read L s)) ≡ answer (found x))))
      entry list answer e =
          let a = entry_there list (λ x. []) (λ r. []) (λ r p x is there. refl) e in
          let p = a.shows in
          let x = p.shows in
          record { reading = a.reading; is = a.is; shows = record { value = p.value; is = p.is; shows = record { value = x.value; is = x.is; shows = ap answer (entry_is list a.reading p.value x.value a.is p.is x.is) } } }

      pub instruction : first (for_entry L s (λ p. p.instructions) f i) ≡ none
          → Accepted L s (λ r. Present (get_elem? r.functions f) (λ p. Present (get_elem? p.instructions i) (λ w. shown_word (entry_of (λ p. p.instructions) f i (read L s)) ≡ Ok w)))
      instruction = entry (λ p. p.instructions) shown_word

      pub constant : first (for_entry L s (λ p. p.constants) f i) ≡ none
          → Accepted L s (λ r. Present (get_elem? r.functions f) (λ p. Present (get_elem? p.constants i) (λ k. shown_constant (entry_of (λ p. p.constants) f i (read L s)) ≡ Ok (constant_value k))))
      constant = entry (λ p. p.constants) shown_constant

      pub upvalue : first (for_entry L s (λ p. p.upvalues) f i) ≡ none
          → Accepted L s (λ r. Present (get_elem? r.functions f) (λ p. Present (get_elem? p.upvalues i) (λ u. shown_upvalue (entry_of (λ p. p.upvalues) f i (read L s)) ≡ Ok u)))
      upvalue = entry (λ p. p.upvalues) shown_upvalue

      pub delta : first (for_entry L s (λ p. p.line_info_lem) f i) ≡ none
          → Accepted L s (λ r. Present (get_elem? r.functions f) (λ p. Present (get_elem? p.line_info_lem i) (λ b. shown_delta (entry_of (λ p. p.line_info_lem) f i (read L s)) ≡ Ok (to_z w8 b))))
      delta = entry (λ p. p.line_info_lem) shown_delta

      pub anchor : first (for_entry L s (λ p. p.abs_line_info) f i) ≡ none
          → Accepted L s (λ r. Present (get_elem? r.functions f) (λ p. Present (get_elem? p.abs_line_info i) (λ a. shown_anchor (entry_of (λ p. p.abs_line_info) f i (read L s)) ≡ Ok a)))
      anchor = entry (λ p. p.abs_line_info) shown_anchor

      pub upvalue_name : first (for_entry L s (λ p. p.upvalue_names_lem) f i) ≡ none
          → Accepted L s (λ r. Present (get_elem? r.functions f) (λ p. Present (get_elem? p.upvalue_names_lem i) (λ t. shown_name (entry_of (λ p. p.upvalue_names_lem) f i (read L s)) ≡ Ok (option_string t))))
      upvalue_name = entry (λ p. p.upvalue_names_lem) shown_name

      pub local : (old : Bytes) → first (for_local L s f i (length old)) ≡ none
          → Accepted L s (λ r. Present (get_elem? r.functions f) (λ p. Present (get_elem? p.loc_vars i) (λ l.
          (shown_local (length old) (entry_of (λ p. p.loc_vars) f i (read L s)) ≡ Ok (record { name_len = (length l.name.bytes); startpc = l.startpc; endpc = l.endpc }))
          × (name_written old (entry_of (λ p. p.loc_vars) f i (read L s)) ≡ l.name.bytes ++ drop (length l.name.bytes) old))))
      local old e =
          let a = entry_there (λ p. p.loc_vars) (λ l. too_long_lem l.name.bytes (length old) ∷ []) (λ r. long_name (length old) f i r ∷ []) long e in
          let p = a.shows in
          let l = p.shows in
          let found_it = entry_is (λ p. p.loc_vars) a.reading p.value l.value a.is p.is l.is in
          let room = passed (leb (length l.value.name.bytes) (length old)) (bare 26) [] l.shows in
          record {
            reading = a.reading;
            is = a.is;
            shows = record {
              value = p.value;
              is = p.is;
              shows = record {
                value = l.value;
                is = l.is;
                shows = (
                  ap (shown_local (length old)) found_it ∙ ap (λ b. cond b (Ok (record { name_len = (length l.value.name.bytes); startpc = l.value.startpc; endpc = l.value.endpc })) (Err refusals.LentSpace)) room,
                  ap (name_written old) found_it ∙ ap (λ b. cond b (l.value.name.bytes ++ drop (length l.value.name.bytes) old) old) room,
                );
              };
            };
          }
        where
          long : (r : Reading) (p : Prototype) (l : LocalVar) → get_elem? r.functions f ≡ some p → get_elem? p.loc_vars i ≡ some l → first (long_name (length old) f i r ∷ []) ≡ first (too_long_lem l.name.bytes (length old) ∷ [])
          long r p l is there =
              ap (λ o. first (of_function_lem o (λ p. of_local (get_elem? p.loc_vars i) (λ l. too_long_lem l.name.bytes (length old))) ∷ [])) is
              ∙ ap (λ o. first (of_local o (λ l. too_long_lem l.name.bytes (length old)) ∷ [])) there

-- ## Words
pub record IsWord (r : RawInstruction54) : Type 0 where
  pub word : ℕ
  pub is : encoded r ≡ Ok word

pub encoded_word : (r : RawInstruction54) → first (for_word r) ≡ none → IsWord r
encoded_word r e = by (encoded r) refl (encode r ∙ e)
  where
    by : (a : Result ℕ Refusal) → encoded r ≡ a → in_encoded a ≡ none → IsWord r
    by (Ok w) is e = record { word = w; is = is }
    by (Err q) is e = met e
