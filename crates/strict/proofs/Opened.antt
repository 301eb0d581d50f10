-- A chunk judged by the stricter grammar: what its calls show is what the reader shows.
--     steps, as_steps              what stands before main, as one run of steps
--     main-is                      a chunk is what stands before main, and main
--     functions-refused, judged    by what a walk over the functions showed
--     in_ceilings                  what a walk asks of the limits
--     refused_so, same-reading     the answer, by what judging showed
-- Assumes nothing.
use Rattle.std.specs.Prelude.{Result, Ok, Err}
use mathlib.Core.Path.{◌≡◌, sym, ◌∙◌, ap}
use mathlib.Core.Bool.{true, false}
use mathlib.Core.List.{List, [], ◌∷◌}
use Prim.Native.Nat.{ℕ, ◌≤◌, ◌<◌}
use native.Mathlib.Omega.{arith}
use borrow.Author.Tests.{le-leb, lt-leb}
use lib.ListN.{length, drop}
use Rattle.format.specs.declared.limits.ResourceLimits.{ResourceLimits}
use Rattle.format.specs.declared.refusal.Refusal.{Refusal}
use Rattle.format.specs.declared.refusal.Refusal.TheVariants.{LimitAboveCeiling, InputBytes, Format}
use Rattle.format.specs.Form.{Bytes, Form, Then, Is}
use Rattle.format.specs.Limits.{within_ceilings}
use Rattle.format.specs.GrammarFields.{Byte, little}
use Rattle.format.specs.Reading.{Prototype}
use Rattle.format.specs.GrammarHeader.{Headed, header_of}
use Rattle.format.specs.GrammarChunk.{outermost, Loaded, reading}
use Rattle.format.specs.Read.{Read, ok, refused, Reader, next, ◌>>=◌, give, run}
use Rattle.format.specs.ReadFields.{byte}
use Rattle.format.specs.ReadHeader.{expect, before_format, behind_format}
use Rattle.format.specs.ReadChunk.{shown, outcome, read}
use Rattle.format.proofs.Exact.{Exact, exact_give, exact_then}
use Rattle.format.proofs.ExactFields.{exact_field}
use Rattle.format_strict.specs.GrammarStrict.{StrictHeader}
use Rattle.format_strict.specs.ReadStrict.{strict_function, strict_main, strict_read}
use Rattle.format_strict.proofs.ExactStrict.{exact_strict_header}
use Rattle.format_strict.proofs.StrictLaws.{strict_is-read}
use Rattle.slice.specs.declared.cursor.Cursor.{Cursor}
use Rattle.slice.specs.Inner.Results.{cursor_result}
use Rattle.read_field.proofs.Shows.{onward, cursor_err, cursor_ok}
use Rattle.read_list.proofs.Within.{regroup}
use Rattle.read_walk.specs.declared.walk.Skimmed.{Skimmed}
use Rattle.read_walk.specs.Inner.Skim.{skimmed_of, skim_result}
use Rattle.read_walk.proofs.OneFunction.{skim_err}
use Rattle.format.specs.declared.spelling.Spelling.{Spelling}
use Rattle.show_chunk.specs.Summaries.{shown_summary}
use Rattle.strict_entry.proofs.Chains.{value}
use Rattle.strict.specs.Inner.Opening.{strict_opening}

-- ## Before main
abbrev headed : Headed
headed = record { header = header_of 0; warnings = [] }

abbrev pub behind_back : Reader Headed
behind_back = byte >>= λ forgotten. give headed

abbrev pub behind_format_byte : Reader Headed
behind_format_byte = behind_format >>= λ _. behind_back

abbrev pub behind_front : Reader Headed
behind_front = expect (0 ∷ []) Format >>= λ _. behind_format_byte

-- the byte behind the header
pub one : (at : ℕ) (s : Bytes) → cursor_result (run 1 at s) ≡ cursor_result (behind_back at s)
one at s = sym (value (byte at s) (λ _. headed) ∙ value (run 1 at s) little)

steps : Reader Headed
steps at s = next (before_format at s) (λ _ a b. next (expect (0 ∷ []) Format a b) (λ _ c d. next (behind_format c d) (λ _ e f. next (byte e f) (λ _ g h. ok headed g h))))

opening_steps : (at : ℕ) (s : Bytes) → strict_opening at s ≡ steps at s
unfolding steps
opening_steps at s = simp regroup

pub opened : (at : ℕ) (s : Bytes) → strict_opening at s ≡ (before_format >>= λ _. behind_front) at s
unfolding steps
opened at s = opening_steps at s

-- ## Main, behind it
abbrev OpeningForm : Form Headed
OpeningForm = Then StrictHeader λ headed. Then Byte λ _. Is headed

exact_opening : Exact strict_opening OpeningForm
exact_opening = exact_then exact_strict_header λ _. exact_then (exact_field 1) λ _. exact_give _

abbrev main_behind : ResourceLimits → Headed → Reader Loaded
main_behind L headed = strict_function L L.max_nesting_depth outermost >>= λ functions. give (record { headed = headed; functions = functions })

main-is : (L : ResourceLimits) (at : ℕ) (s : Bytes) → next (strict_opening at s) (main_behind L) ≡ strict_main L at s
main-is L at s = simp regroup

module _ (L : ResourceLimits) (s : Bytes) where
  pub opening_refused : {x : Result Cursor Refusal} {q : Refusal} → x ≡ cursor_result (strict_opening 0 s) → x ≡ Err q → x ≡ cursor_result (strict_main L 0 s)
  opening_refused {q = q} e told = told ∙ sym (ap cursor_result (sym (main-is L 0 s) ∙ ap (λ o. next o (main_behind L)) (cursor_err (strict_opening 0 s) q (sym told ∙ e))))

  module _ {x : Result Cursor Refusal} {c : Cursor} (e : x ≡ cursor_result (strict_opening 0 s)) (told : x ≡ Ok c) where
    abbrev functions-at : Read (List Prototype)
    functions-at = strict_function L L.max_nesting_depth outermost c.at (drop c.at s)

    abbrev made : List Prototype → Reader Loaded
    made functions = give (record { headed = (cursor_ok (strict_opening 0 s) c (sym told ∙ e)).value; functions = functions })

    to_functions : strict_main L 0 s ≡ next functions-at made
    to_functions = sym (main-is L 0 s) ∙ ap (λ o. next o (main_behind L)) (onward exact_opening s 0 (cursor_ok (strict_opening 0 s) c (sym told ∙ e)).was)

    pub functions-refused : (q : Refusal) → Err q ≡ skim_result outermost functions-at → Err q ≡ cursor_result (strict_main L 0 s)
    functions-refused q h = sym (ap cursor_result (to_functions ∙ ap (λ o. next o made) (skim_err outermost functions-at q h)))

    pub functions-passed : (k : Skimmed) → Ok k ≡ skim_result outermost functions-at → Ok k.next ≡ cursor_result (strict_main L 0 s)
    functions-passed k h = by functions-at h ∙ sym (ap cursor_result to_functions)
      where
        by : (o : Read (List Prototype)) → Ok k ≡ skim_result outermost o → Ok k.next ≡ cursor_result (next o made)
        by (ok ps to rest) h = let all : k ≡ skimmed_of outermost ps to = cc in ap (λ k. Ok k.next) all
        by (refused q) h = absurd (let z : ◌≡◌ {A = ℕ} 0 1 = cc in omega arith)

-- ## The answer
module _ (L : ResourceLimits) (s : Bytes) (k : Spelling) where
  pub above : within_ceilings L ≡ false → Err LimitAboveCeiling ≡ shown_summary k (strict_read L s)
  unfolding strict_read
  above e = rw e

  module _ (within : within_ceilings L ≡ true) where
    pub too_long : L.max_input_bytes < length s → Err InputBytes ≡ shown_summary k (strict_read L s)
    unfolding strict_read
    too_long h = rw (within, lt-leb (length s) L.max_input_bytes h)

    module _ (short : length s ≤ L.max_input_bytes) where
      by_main : strict_read L s ≡ outcome L (strict_main L 0 s)
      unfolding strict_read
      by_main = rw (within, le-leb (length s) L.max_input_bytes short)

      pub refused_so : (q : Refusal) → Err q ≡ cursor_result (strict_main L 0 s) → Err q ≡ shown_summary k (strict_read L s)
      refused_so q e = sym (ap (shown_summary k) (by_main ∙ ap (outcome L) (cursor_err (strict_main L 0 s) q e)))

      -- what is read strictly is what is read
      pub same-reading : (c : Cursor) → Ok c ≡ cursor_result (strict_main L 0 s) → read L s ≡ strict_read L s
      same-reading c e =
          let p = cursor_ok (strict_main L 0 s) c e in
          let all : strict_read L s ≡ shown (reading L p.value c.at p.was.rest) = by_main ∙ ap (outcome L) p.was.is in
          strict_is-read L s _ all ∙ sym all
