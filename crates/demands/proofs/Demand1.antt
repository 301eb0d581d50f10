-- Demand 1. Only what 01 lists is refused, with its number, and of several conditions the first in 01's order is the one that is reported; lent memory is then as it was.
-- One theorem for each call: number and place of the refusal in its answer are those of the first of its conditions that holds (Refused.antt), in the order 21, 22, 1 to 20, 23, 24, 25, 26, for words 28, 27;
-- where none holds there is none. Each call's contract says that its answer is the definition that stands here on the left (Demand2.antt).
-- (That every call ends and that nothing wraps is proved with each function. `trailing_bytes` and `string_bytes` show bytes and hold no refusal: of a chunk that is refused there are no trailing bytes, `no_trailing`.
-- `validate_findings::array::chunk_findings` has `findings` with a space of 10,001, which is always enough: `all_fit`.)
--     places           a refusal's place is one of the file, or the file's end
--     summary ..       the order of a call's refusals
--     ..-kept          a call that refuses leaves lent memory as it was
-- Order.antt: 1 to 20 come in the order of the bytes, each for its cause (Causes.antt); AtOneByte.antt: at one byte. CutShort.antt: 1 lacks bytes. ByLimits.antt: what some limits read, others refuse by 13 to 20 alone. Blamed.antt: a number names what is to blame.
-- crates/format/proofs/RefusalNumbers.antt: the numbers. Exactly.antt: 21 and 22. Accepted.antt: where no condition holds, the answer is Ok. ByC.antt, RefusedAt.antt (PartsInOrder.antt): the calls behind C. Printed.antt: what `chunklist` prints.
-- Assumes nothing.
use Rattle.std.specs.Prelude as prelude
use Rattle.std.specs.Prelude.{Some, None, Result, Ok, Err}
use mathlib.Core.Path.{◌≡◌, refl, sym, ◌∙◌, ap}
use mathlib.Core.Bool.{Bool, true, false, cond}
use mathlib.Core.List.{List, [], ◌∷◌, ◌++◌}
use mathlib.Core.Option.{Option, none, some}
use Prim.Native.Nat.{ℕ, ◌^◌}
use native.Mathlib.Omega.{arith}
use lib.Dec.{leb, ltb}
use lib.IntN.{ℤ, pos, negsuc, ◌+ℤ◌}
use lib.ListN.{length, drop, get_elem?}
use borrow.Author.Tests.{le-leb}
use Rattle.std.specs.Prelude as prelude
use Rattle.format.specs.declared.limits.ResourceLimits.{ResourceLimits}
use Rattle.format.specs.declared.refusal.Refusal.{Refusal}
use Rattle.format.specs.declared.refusal.Refusal.TheVariants as refusals
use Rattle.format.specs.Form.{Bytes}
use Rattle.format.specs.Limits.{within_ceilings}
use Rattle.format.specs.declared.refusal.Report.{Report}
use Rattle.format.specs.Refusals.{bare, reported}
use Rattle.format.specs.Reading.{Reading, Prototype, LocalVar}
use Rattle.format.specs.GrammarChunk.{Loaded}
use Rattle.format.specs.Read.{Read, ok, refused}
use Rattle.format.specs.ReadChunk.{Outcome, shown, refusal, main, outcome, read}
use Rattle.format.specs.Copy.{copy}
use Rattle.format.specs.FullCopy.{full_copy}
use Rattle.format_spelling.specs.ReadSpelling.{spelling}
use Rattle.show_row.specs.Asked.{Asked, found, or_refuse, function_of, entry_in, entry_of}
use Rattle.show_row.specs.Asked as asked
use Rattle.index.specs.Index.{index, shown_index, index_written}
use Rattle.line_lookup.specs.Lines.{large, shown_line}
use Rattle.copy.specs.Copied.{shown_by, written_by, shown_length, shown_copy, copy_written}
use Rattle.copy_full.specs.InFull.{shown_full_length, shown_full, full_written}
use Rattle.show_chunk.specs.Summaries.{shown_summary, trailing_of}
use Rattle.show_chunk.specs.Fields.{shown_fields}
use Rattle.show_entry.specs.Entries.{shown_word, shown_constant, shown_upvalue, shown_delta, shown_anchor, shown_name}
use Rattle.show_local.specs.Locals.{shown_local, name_written}
use Rattle.validate_rules.specs.declared.finding.Finding.{Finding}
use Rattle.validate_rules.specs.Findings.{chunk_findings}
use Rattle.validate_verdict.specs.Answers.{shownVerdict, shownCount}
use Rattle.validate_search.proofs.Few.{findings_few}
use Rattle.validate_plan.specs.Validated.{shown_findings, findings_written}
use Rattle.word_opcodes.specs.declared.opcode.OpMode54.{OpMode54}
use Rattle.word_opcodes.specs.declared.opcode.OpMode54.TheVariants.{IABC, IABx, IAsBx, IAx, IsJ}
use Rattle.word_opcodes.specs.declared.opcode.Opcode54.{Opcode54}
use Rattle.word_opcodes.specs.Table.{mode_of}
use Rattle.word_fields.specs.declared.instruction.RawInstruction54.{RawInstruction54}
use Rattle.word_fields.specs.Word.{unbiased, with_unbiased, encodedIABx, encodedIAx, by_mode, by_opcode, encoded}
use Rattle.word_fields.proofs.Ranges.{in_range, is_word, ranges}
use Rattle.demands.proofs.InOrder.{Inside}
use Rattle.demands.proofs.Order.{in_byte_order, places_by}
use Rattle.demands.proofs.Refused.{alone, nothing_later, unless, missing, first, by_reader, of_chunk, and_then, no_function, of_function_lem, no_entry, large_line, of_local, long_name, too_long_lem, no_opcode, out_of_range}
use Rattle.demands.proofs.Refused.{for_chunk, for_space, for_function, for_line, for_entry, for_local, for_word}
use Rattle.demands.proofs.Refused.{in_summary, in_fields, in_word, in_constant, in_upvalue, in_delta, in_anchor, in_name, in_local, in_line, in_index, in_copy, in_verdict, in_count, in_findings, in_encoded}

-- ## Places
-- a place, if there is one, is at most the file's length; and then that is within its ceiling
pub places : (L : ResourceLimits) (s : Bytes) (q : Refusal) → read L s ≡ refusal q → Inside (length s) (reported q).place × Inside 16777216 (reported q).place
unfolding read
places L s q = places_by L (main L) s (in_byte_order L s) q

-- ## The order, in general
-- what comes of conditions behind the chunk's
abbrev pub after : Outcome → (Reading → List (Option Report)) → Option Report
after (shown r) later = first (later r)
after (refusal q) later = some (reported q)

never : {A : Type 0} {q : Report} → none ≡ some q → A
never e = absurd (let z : ◌≡◌ {A = ℕ} 0 1 = cc in omega arith)

-- 26 is tested last, and where it is met nothing is written
module _ {B : Type 0} (inside : B → Option Report) (x y : B) (fine : inside x ≡ none) where
  by_room : (b : Bool) → inside y ≡ some (bare 26) → inside (cond b x y) ≡ first (unless b (bare 26) ∷ [])
  by_room true e = fine
  by_room false e = e

  room-kept : {A : Type 0} (b : Bool) (new old : List A) (q : Report) → inside (cond b x y) ≡ some q → cond b new old ≡ old
  room-kept true new old q e = never (sym fine ∙ e)
  room-kept false new old q e = refl

module _ (L : ResourceLimits) (s : Bytes) where
  module _ (later : Reading → List (Option Report)) where
    by_tests : (within short : Bool) (m : Read Loaded) → let o = cond within (cond short (outcome L m) (refusal refusals.InputBytes)) (refusal refusals.LimitAboveCeiling) in
        after o later ≡ first (unless within (bare 21) ∷ unless short (bare 22) ∷ by_reader m ∷ and_then o later)
    by_tests true true (ok m to rest) = refl
    by_tests true true (refused q) = refl
    by_tests true false m = refl
    by_tests false short m = refl

    pub order : after (read L s) later ≡ first (of_chunk L s (and_then (read L s) later))
    unfolding read
    order = by_tests (within_ceilings L) (leb (length s) L.max_input_bytes) (main L 0 s)

  -- calls that show a part of every chunk that is read
  module _ {B : Type 0} (answer : Outcome → B) (inside : B → Option Report) (fine : (r : Reading) → inside (answer (shown r)) ≡ none) (bad : (q : Refusal) → inside (answer (refusal q)) ≡ some (reported q)) where
    of-all : (o : Outcome) → inside (answer o) ≡ after o (λ r. [])
    of-all (shown r) = fine r
    of-all (refusal q) = bad q

    whole_chunk : inside (answer (read L s)) ≡ first (for_chunk L s)
    whole_chunk = of-all (read L s) ∙ order (λ r. []) ∙ ap (λ ls. first (of_chunk L s ls)) (nothing_later (read L s))

  -- calls that write so many numbers, bytes or records
  module _ {A B : Type 0} (answer : ℕ → Outcome → B) (result : Reading → List A) (inside : B → Option Report) (space : ℕ)
      (room : (r : Reading) → inside (answer space (shown r)) ≡ first (too_long_lem (result r) space ∷ [])) (bad : (q : Refusal) → inside (answer space (refusal q)) ≡ some (reported q)) where
    of_room : (o : Outcome) → inside (answer space o) ≡ after o (λ r. too_long_lem (result r) space ∷ [])
    of_room (shown r) = room r
    of_room (refusal q) = bad q

    into_space : inside (answer space (read L s)) ≡ first (for_space L s result space)
    into_space = of_room (read L s) ∙ order _

  -- calls on an entry of a function's list
  module _ {A B : Type 0} (list : Prototype → List A) (answer : Asked A → B) (inside : B → Option Report) (fine : (x : A) → inside (answer (found x)) ≡ none) (bad : (q : Refusal) → inside (answer (asked.refused q)) ≡ some (reported q)) (f i : ℕ) where
    of_entry : (e : Option A) → inside (answer (or_refuse refusals.NoEntry e)) ≡ first (missing e (bare 24) ∷ [])
    of_entry none = bad refusals.NoEntry
    of_entry (some x) = fine x

    of_list : (p : Option Prototype) → inside (answer (entry_in list i (or_refuse refusals.NoFunction p))) ≡ first (missing p (bare 23) ∷ of_function_lem p (λ p. missing (get_elem? (list p) i) (bare 24)) ∷ [])
    of_list none = bad refusals.NoFunction
    of_list (some p) = of_entry (get_elem? (list p) i)

    of_function : (o : Outcome) → inside (answer (entry_of list f i o)) ≡ after o (λ r. no_function f r ∷ no_entry list f i r ∷ [])
    of_function (shown r) = of_list (get_elem? r.functions f)
    of_function (refusal q) = bad q

    entry : inside (answer (entry_of list f i (read L s))) ≡ first (for_entry L s list f i)
    entry = of_function (read L s) ∙ order _

  -- ## The calls
  -- chunk_summary, chunk_verdict, finding_count, copy_length, full_copy_length: 21, 22, 1 to 20
  pub summary : in_summary (shown_summary (spelling L s) (read L s)) ≡ first (for_chunk L s)
  summary = whole_chunk (shown_summary (spelling L s)) in_summary (λ r. refl) (λ q. refl)

  pub verdict : in_verdict (shownVerdict (read L s)) ≡ first (for_chunk L s)
  verdict = whole_chunk shownVerdict in_verdict (λ r. refl) (λ q. refl)

  pub count : in_count (shownCount (read L s)) ≡ first (for_chunk L s)
  count = whole_chunk shownCount in_count (λ r. refl) (λ q. refl)

  pub copy_length : in_copy (shown_length (read L s)) ≡ first (for_chunk L s)
  copy_length = whole_chunk shown_length in_copy (λ r. refl) (λ q. refl)

  pub full_length : in_copy (shown_full_length (read L s)) ≡ first (for_chunk L s)
  full_length = whole_chunk shown_full_length in_copy (λ r. refl) (λ q. refl)

  -- trailing_bytes, where one of these is met
  pub no_trailing : (q : Report) → first (for_chunk L s) ≡ some q → trailing_of (read L s) ≡ []
  no_trailing q e = go (read L s) (summary ∙ e)
    where
      go : (o : Outcome) → in_summary (shown_summary (spelling L s) o) ≡ some q → trailing_of o ≡ []
      go (shown r) e = never e
      go (refusal q) e = refl

  -- function_index, encode_chunk_lua54, full_copy, validate_chunk_lua54: then 26
  pub index_rows : (space : ℕ) → in_index (shown_index space (read L s)) ≡ first (for_space L s (λ r. index r.functions) space)
  index_rows space = into_space shown_index (λ r. index r.functions) in_index space (λ r. by_room in_index _ _ refl (leb (length (index r.functions)) space) refl) (λ q. refl)

  pub copied : (space : ℕ) → in_copy (shown_copy space (read L s)) ≡ first (for_space L s copy space)
  copied space = into_space shown_copy copy in_copy space (λ r. by_room in_copy _ _ refl (leb (length (copy r)) space) refl) (λ q. refl)

  -- by the full copy's length
  pub full_copied : (space : ℕ) → in_copy (shown_full space (read L s)) ≡ first (for_space L s full_copy space)
  full_copied space = into_space shown_full full_copy in_copy space (λ r. by_room in_copy _ _ refl (leb (length (full_copy r)) space) refl) (λ q. refl)

  pub findings : (space : ℕ) → in_findings (shown_findings space (read L s)) ≡ first (for_space L s (λ r. (chunk_findings r).findings) space)
  findings space = into_space shown_findings (λ r. (chunk_findings r).findings) in_findings space (λ r. by_room in_findings _ _ refl (leb (length (chunk_findings r).findings) space) refl) (λ q. refl)

  -- with room for 10,001 there is no 26
  pub all_fit : in_findings (shown_findings 10001 (read L s)) ≡ first (for_chunk L s)
  all_fit = whole_chunk (shown_findings 10001) in_findings (λ r. rw (le-leb _ 10001 (findings_few r))) (λ q. refl)

  -- function_fields: then 23
  pub fields : (f : ℕ) → in_fields (shown_fields (function_of f (read L s))) ≡ first (for_function L s f)
  fields f = go (read L s) ∙ order _
    where
      there : (p : Option Prototype) → in_fields (shown_fields (or_refuse refusals.NoFunction p)) ≡ first (missing p (bare 23) ∷ [])
      there none = refl
      there (some p) = refl

      go : (o : Outcome) → in_fields (shown_fields (function_of f o)) ≡ after o (λ r. no_function f r ∷ [])
      go (shown r) = there (get_elem? r.functions f)
      go (refusal q) = refl

  -- get_line_for_pc: then 23, 25
  pub line : (f pc : ℕ) → in_line (shown_line pc (function_of f (read L s))) ≡ first (for_line L s f)
  line f pc = go (read L s) ∙ order _
    where
      of-lines : (b : Bool) (n : ℕ) → in_line (cond b (Err refusals.LineTooLarge) (Ok n)) ≡ first (cond b (some (bare 25)) none ∷ [])
      of-lines true n = refl
      of-lines false n = refl

      there : (p : Option Prototype) → in_line (shown_line pc (or_refuse refusals.NoFunction p)) ≡ first (missing p (bare 23) ∷ of_function_lem p (λ p. cond (large p.line_defined p.abs_line_info) (some (bare 25)) none) ∷ [])
      there none = refl
      there (some p) = of-lines (large p.line_defined p.abs_line_info) _

      go : (o : Outcome) → in_line (shown_line pc (function_of f o)) ≡ after o (λ r. no_function f r ∷ large_line f r ∷ [])
      go (shown r) = there (get_elem? r.functions f)
      go (refusal q) = refl

  -- instruction, constant, upvalue, delta, anchor, upvalue_name: then 23, 24
  module _ (f i : ℕ) where
    pub instruction : in_word (shown_word (entry_of (λ p. p.instructions) f i (read L s))) ≡ first (for_entry L s (λ p. p.instructions) f i)
    instruction = entry (λ p. p.instructions) shown_word in_word (λ x. refl) (λ q. refl) f i

    pub constant : in_constant (shown_constant (entry_of (λ p. p.constants) f i (read L s))) ≡ first (for_entry L s (λ p. p.constants) f i)
    constant = entry (λ p. p.constants) shown_constant in_constant (λ x. refl) (λ q. refl) f i

    pub upvalue : in_upvalue (shown_upvalue (entry_of (λ p. p.upvalues) f i (read L s))) ≡ first (for_entry L s (λ p. p.upvalues) f i)
    upvalue = entry (λ p. p.upvalues) shown_upvalue in_upvalue (λ x. refl) (λ q. refl) f i

    pub delta : in_delta (shown_delta (entry_of (λ p. p.line_info_lem) f i (read L s))) ≡ first (for_entry L s (λ p. p.line_info_lem) f i)
    delta = entry (λ p. p.line_info_lem) shown_delta in_delta (λ x. refl) (λ q. refl) f i

    pub anchor : in_anchor (shown_anchor (entry_of (λ p. p.abs_line_info) f i (read L s))) ≡ first (for_entry L s (λ p. p.abs_line_info) f i)
    anchor = entry (λ p. p.abs_line_info) shown_anchor in_anchor (λ x. refl) (λ q. refl) f i

    pub upvalue_name : in_name (shown_name (entry_of (λ p. p.upvalue_names_lem) f i (read L s))) ≡ first (for_entry L s (λ p. p.upvalue_names_lem) f i)
    upvalue_name = entry (λ p. p.upvalue_names_lem) shown_name in_name (λ x. refl) (λ q. refl) f i

    -- local: then 23, 24, 26
    pub local : (space : ℕ) → in_local (shown_local space (entry_of (λ p. p.loc_vars) f i (read L s))) ≡ first (for_local L s f i space)
    local space = go (read L s) ∙ order _
      where
        named : (l : Option LocalVar) → in_local (shown_local space (or_refuse refusals.NoEntry l)) ≡ first (missing l (bare 24) ∷ of_local l (λ l. too_long_lem l.name.bytes space) ∷ [])
        named none = refl
        named (some l) = by_room in_local _ _ refl (leb (length l.name.bytes) space) refl

        there : (p : Option Prototype) → in_local (shown_local space (entry_in (λ p. p.loc_vars) i (or_refuse refusals.NoFunction p)))
            ≡ first (missing p (bare 23) ∷ of_function_lem p (λ p. missing (get_elem? p.loc_vars i) (bare 24)) ∷ of_function_lem p (λ p. of_local (get_elem? p.loc_vars i) (λ l. too_long_lem l.name.bytes space)) ∷ [])
        there none = refl
        there (some p) = named (get_elem? p.loc_vars i)

        go : (o : Outcome) → in_local (shown_local space (entry_of (λ p. p.loc_vars) f i o)) ≡ after o (λ r. no_function f r ∷ no_entry (λ p. p.loc_vars) f i r ∷ long_name space f i r ∷ [])
        go (shown r) = there (get_elem? r.functions f)
        go (refusal q) = refl

-- ## Lent memory
-- a call that refuses leaves it as it was
pub local-kept : (old : Bytes) (a : Asked LocalVar) (q : Report) → in_local (shown_local (length old) a) ≡ some q → name_written old a ≡ old
local-kept old (found l) q e = room-kept in_local _ _ refl (leb (length l.name.bytes) (length old)) (l.name.bytes ++ drop (length l.name.bytes) old) old q e
local-kept old (asked.refused p) q e = refl

pub index_kept : (old : List ℕ) (o : Outcome) (q : Report) → in_index (shown_index (length old) o) ≡ some q → index_written old o ≡ old
index_kept old (shown r) q e = room-kept in_index _ _ refl (leb (length (index r.functions)) (length old)) (index r.functions ++ drop (length (index r.functions)) old) old q e
index_kept old (refusal p) q e = refl

-- whatever the copy of a reading is
copied_kept : (copied : Reading → Bytes) (old : Bytes) (o : Outcome) (q : Report) → in_copy (shown_by copied (length old) o) ≡ some q → written_by copied old o ≡ old
copied_kept copied old (shown r) q e = room-kept in_copy _ _ refl (leb (length (copied r)) (length old)) (copied r ++ drop (length (copied r)) old) old q e
copied_kept copied old (refusal p) q e = refl

pub copy-kept : (old : Bytes) (o : Outcome) (q : Report) → in_copy (shown_copy (length old) o) ≡ some q → copy_written old o ≡ old
copy-kept = copied_kept copy

pub full_kept : (old : Bytes) (o : Outcome) (q : Report) → in_copy (shown_full (length old) o) ≡ some q → full_written old o ≡ old
full_kept = copied_kept full_copy

pub findings-kept : (old : List Finding) (o : Outcome) (q : Report) → in_findings (shown_findings (length old) o) ≡ some q → findings_written old o ≡ old
findings-kept old (shown r) q e =
    room-kept in_findings _ _ refl (leb (length (chunk_findings r).findings) (length old)) ((chunk_findings r).findings ++ drop (length (chunk_findings r).findings) old) old q e
findings-kept old (refusal p) q e = refl

-- ## Words
-- decoding refuses nothing; encoding: 28, then 27
range_only : (b : Bool) (w : ℕ) → in_encoded (cond b (Ok w) (Err refusals.FieldRange)) ≡ unless (is_word (cond b (Ok w) (Err refusals.FieldRange))) (bare 27)
range_only true w = refl
range_only false w = refl

handed : (z : ℤ) (limit : ℕ) (f : ℕ → Result ℕ Refusal) → ((n : ℕ) → in_encoded (f n) ≡ unless (is_word (f n)) (bare 27))
    → in_encoded (with_unbiased (unbiased z limit) f) ≡ unless (is_word (with_unbiased (unbiased z limit) f)) (bare 27)
handed (pos n) limit f h = go (ltb n limit) refl
  where
    go : (t : Bool) → ltb n limit ≡ t → in_encoded (with_unbiased (unbiased (pos n) limit) f) ≡ unless (is_word (with_unbiased (unbiased (pos n) limit) f)) (bare 27)
    go true e = rw e (h n)
    go false e = rw e
handed (negsuc n) limit f h = refl

by_mode_lem : (m : OpMode54) (o : Opcode54) (r : RawInstruction54) → in_encoded (by_mode m o r) ≡ unless (is_word (by_mode m o r)) (bare 27)
by_mode_lem IABC o r = range_only (ltb r.k 2) _
by_mode_lem IABx o r = range_only (ltb r.bx 131072) _
by_mode_lem IAsBx o r = handed (r.sbx +ℤ pos 65535) 131072 (encodedIABx o r.a) (λ n. range_only (ltb n 131072) _)
by_mode_lem IAx o r = range_only (ltb r.ax (2 ^ 25)) _
by_mode_lem IsJ o r = handed (r.sj +ℤ pos 16777215) (2 ^ 25) (encodedIAx o) (λ n. range_only (ltb n (2 ^ 25)) _)

module _ (r : RawInstruction54) where
  -- the word of an opcode's mode
  module _ (o : Opcode54) (e : r.opcode ≡ Some o) where
    chosen : encoded r ≡ by_mode (mode_of o) o r
    unfolding encoded
    chosen = ap (λ k. by_opcode k r) e

    in_mode : in_encoded (encoded r) ≡ unless (in_range (mode_of o) r) (bare 27)
    in_mode =
        ap in_encoded chosen ∙ by_mode_lem (mode_of o) o r ∙ ap (λ w. unless (is_word w) (bare 27)) (sym chosen) ∙ ap (λ b. unless b (bare 27)) (ranges r o e)

  by_opcode_lem : (o : prelude.Option Opcode54) → r.opcode ≡ o → in_encoded (encoded r) ≡ first (no_opcode o ∷ out_of_range o r ∷ [])
  unfolding encoded
  by_opcode_lem None e = rw e
  by_opcode_lem (Some o) e = in_mode o e ∙ alone (unless (in_range (mode_of o) r) (bare 27))

  pub encode : in_encoded (encoded r) ≡ first (for_word r)
  encode = by_opcode_lem r.opcode refl
