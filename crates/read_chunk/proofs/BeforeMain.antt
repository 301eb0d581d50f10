-- A chunk up to main, and what is shown of it behind main, by what the calls showed.
--     long-before          header and byte are 32 bytes
--     was_opened           what is known where a chunk is opened: the reading goes on with the functions
--     functions-refused    .. and ends with them
--     spelt-read           .. or is shown, with how the chunk is spelt: as main is, and all that nest in it
--     decoded-read         .. or with one
-- Assumes nothing.
use Rattle.std.specs.Prelude.{Option, Ok, Err}
use Rattle.read_prototype.specs.declared.row.FunctionRow.{FunctionRow}
use mathlib.Core.Path.{◌≡◌, refl, sym, ◌∙◌, ap}
use mathlib.Core.Bool.{Bool, true, false, cond}
use mathlib.Core.List.{List, ◌++◌}
use Prim.Native.Nat.{ℕ, ◌+◌, ◌≤◌}
use native.Mathlib.Nat.{zero-add}
use native.Mathlib.Omega.{arith}
use borrow.Author.Tests.{leb-true}
use lib.Dec.{leb}
use lib.ListN.{length, take, drop, length-append}
use Rattle.format.specs.declared.limits.ResourceLimits.{ResourceLimits}
use Rattle.format.specs.declared.refusal.Refusal.{Refusal}
use Rattle.format.specs.declared.refusal.Refusal.TheVariants.{InputBytes, LimitAboveCeiling}
use Rattle.format.specs.declared.spelling.Spelling.{Spelling}
use Rattle.format.specs.Form.{Bytes, Form, Then, Is, Here, Spelt}
use Rattle.format.specs.Limits.{within_ceilings}
use Rattle.format.specs.Reading.{Prototype, Reading}
use Rattle.format.specs.GrammarFields.{Byte}
use Rattle.format.specs.GrammarHeader.{Headed, Header}
use Rattle.format.specs.GrammarChunk.{outermost, Loaded, reading, trailing_warnings}
use Rattle.format.specs.Read.{Read, ok, refused, Reader, next, give}
use Rattle.format.specs.ReadFields.{byte}
use Rattle.format.specs.ReadHeader.{header}
use Rattle.format.specs.ReadChunk.{function, main, outcome, shown, refusal, read}
use Rattle.format.proofs.Exact.{Exact, exact_give, exact_then}
use Rattle.format.proofs.ExactFields.{exact_field}
use Rattle.format.proofs.ExactHeader.{exact_header}
use Rattle.format.proofs.ExactChunk.{exact_function}
use Rattle.format.proofs.Left.{left}
use Rattle.format_spelling.specs.Spelling.{same, ◌⊕◌}
use Rattle.format_spelling.specs.ReadSpelling.{spelling}
use Rattle.format_spelling.specs.ReadSpelling as count
use Rattle.format_spelling.specs.Inner.Tally.{counts, Adds}
use Rattle.format_spelling.proofs.Sums.{same_join}
use Rattle.slice.specs.Shown.{cursor_at}
use Rattle.read_header.specs.Shown.{first_warning}
use Rattle.read_prototype.specs.Inner.Row.{shown_row, lookup}
use Rattle.read_walk.specs.declared.walk.Skimmed.{Skimmed}
use Rattle.read_walk.specs.Inner.Skim.{skimmed_of, skim_result}
use Rattle.read_walk.proofs.OneFunction.{skim_err}
use Rattle.read_find.specs.Inner.Find.{find_result}
use Rattle.read_chunk.specs.declared.Opening.{Opening}
use Rattle.read_chunk.specs.Inner.Opening.{before_main, opened, opening_result}
use Rattle.read_chunk.specs.Decoded.{shown_warnings, summary_of}
use Rattle.read_chunk.specs.Inner.Decoded.{spelt_result, decoded_result, list_of, summary_shown}
use Rattle.read_chunk.proofs.Summaries.{AtMostOne, every_header}

-- ## The header has 31 bytes
record Long {A : Type 0} (F : Form A) (n : ℕ) : Type 0 where
  holds : (at : ℕ) (b : Bytes) (x : A) → F at b x → length b ≡ n

long_then : {A B : Type 0} {F : Form A} {G : A → Form B} {n m : ℕ} → Long F n → ((x : A) → Long (G x) m) → Long (Then F G) (n + m)
long_then {n} {m} one two = record {
  holds = λ at b y d. ap length d.whole ∙ length-append d.front d.back ∙ (λ i. one.holds at d.front d.value d.one i + (two d.value).holds _ d.back y d.two i);
}

long-is : {A : Type 0} {x : A} → Long (Is x) 0
long-is = record { holds = λ at b y d. ap length d.0 }

long-here : Long Here 0
long-here = record { holds = λ at b y d. ap length d.0 }

long-spelt : (bytes : Bytes) → Long (Spelt bytes) (length bytes + 0)
long-spelt bytes = long_then (record { holds = λ at b y d. d.1 }) λ _. record { holds = λ at b y d. ap length d.0 }

long-byte : Long Byte 1
long-byte = long_then (record { holds = λ at b y d. d.1 }) λ _. long-is

long-header : Long Header 31
long-header =
    long_then (long_then (long-spelt _) λ _. long-spelt _) λ _.
    long_then long-here λ _.
    long_then long-byte λ _.
    long_then (long_then (long-spelt _) λ _. long_then (long-spelt _) λ _. long_then (long-spelt _) λ _. long_then (long-spelt _) λ _. long_then (long-spelt _) λ _. long-spelt _) λ _.
    long-is

-- ## Header and byte, and main behind them
abbrev BeforeMain : Form Headed
BeforeMain = Then Header λ headed. Then Byte λ _. Is headed

exact_before : Exact before_main BeforeMain
exact_before = exact_then exact_header λ headed. exact_then (exact_field 1) λ _. exact_give headed

long-before : Long BeforeMain 32
long-before = long_then long-header λ _. long_then long-byte λ _. long-is

abbrev pub load : Headed → List Prototype → Reader Loaded
load headed ps = give (record { headed = headed; functions = ps })

-- how main is spelt, and all that nest in it
abbrev pub functions_spelt : ResourceLimits → ℕ → Bytes → Spelling
functions_spelt L = count.function L L.max_nesting_depth outermost

-- what is known of the before_main that was read
pub record WasBefore (L : ResourceLimits) (s : Bytes) (headed : Headed) (to : ℕ) : Type 0 where
  pub place : to ≡ 32
  pub one : AtMostOne headed
  pub goes_on : main L 0 s ≡ next (function L L.max_nesting_depth outermost to (drop to s)) (load headed)
  pub spelt : spelling L s ≡ functions_spelt L to (drop to s)

abbrev by_functions : (L : ResourceLimits) → Headed → Reader Loaded
by_functions L headed at b = next (function L L.max_nesting_depth outermost at b) (load headed)

in_two : (L : ResourceLimits) (s : Bytes) → main L 0 s ≡ next (before_main 0 s) (by_functions L)
in_two L s = one (header 0 s)
  where
    two : (h : Headed) (o : Read ℕ) → next o (λ _. by_functions L h) ≡ next (next o (λ _. give h)) (by_functions L)
    two h (ok v a b) = refl
    two h (refused q) = refl

    one : (o : Read Headed) → next o (λ h a b. next (byte a b) (λ _. by_functions L h)) ≡ next (next o (λ h a b. next (byte a b) (λ _. give h))) (by_functions L)
    one (ok h a b) = two h (byte a b)
    one (refused q) = refl

spelt_in_two : (L : ResourceLimits) (s : Bytes) → spelling L s ≡ count.behind (before_main 0 s) (λ _. functions_spelt L)
unfolding spelling
spelt_in_two L s = one (header 0 s)
  where
    two : (h : Headed) (o : Read ℕ) → same ⊕ count.behind o (λ _. functions_spelt L) ≡ count.behind (next o (λ _. give h)) (λ _. functions_spelt L)
    two h (ok v a b) = same_join _
    two h (refused q) = refl

    one : (o : Read Headed) → same ⊕ count.behind o (λ h a b. same ⊕ count.behind (byte a b) (λ _. functions_spelt L)) ≡ count.behind (next o (λ h a b. next (byte a b) (λ _. give h))) (λ _. functions_spelt L)
    one (ok h a b) = same_join _ ∙ two h (byte a b)
    one (refused q) = refl

pub was_before : (L : ResourceLimits) (s : Bytes) {headed : Headed} {to : ℕ} {rest : Bytes} → before_main 0 s ≡ ok headed to rest → WasBefore L s headed to
was_before L s {headed} {to} {rest} is =
    let split = exact_before.sound {at = 0} {s = s} is in
    let place = split.place in
    let size = long-before.holds 0 split.bytes headed split.spelt in
    let behind : rest ≡ drop to s = left exact_before s 0 is in
    record {
      place = omega (arith, place, size);
      one = rw (← split.spelt.two.two.1) (every_header.holds 0 split.spelt.front split.spelt.value split.spelt.one);
      goes_on = in_two L s ∙ ap (λ o. next o (by_functions L)) is ∙ ap (by_functions L headed to) behind;
      spelt = spelt_in_two L s ∙ ap (λ o. count.behind o (λ _. functions_spelt L)) is ∙ ap (functions_spelt L to) behind;
    }

pub before-refused : (L : ResourceLimits) (s : Bytes) {q : Refusal} → before_main 0 s ≡ refused q → main L 0 s ≡ refused q
before-refused L s is = in_two L s ∙ ap (λ o. next o (by_functions L)) is

-- ## What is known where a chunk is opened
pub record Opened (L : ResourceLimits) (s : Bytes) (f : Opening) : Type 0 where
  pub value : Headed
  pub within : within_ceilings L ≡ true
  pub fits : length s ≤ L.max_input_bytes
  pub header : f.header ≡ value.header
  pub warning : f.warning ≡ first_warning value.warnings
  pub one : AtMostOne value
  pub reads : read L s ≡ outcome L (next (function L L.max_nesting_depth outermost f.next.at (drop f.next.at s)) (load value))
  pub spelt : spelling L s ≡ functions_spelt L f.next.at (drop f.next.at s)

abbrev opens : Bool → Bool → Read Headed → Read Headed
opens a b o = cond a (cond b o (refused InputBytes)) (refused LimitAboveCeiling)

by_main : (L : ResourceLimits) (s : Bytes) → within_ceilings L ≡ true → leb (length s) L.max_input_bytes ≡ true → read L s ≡ outcome L (main L 0 s)
unfolding read
by_main L s p q = rw (p, q)

-- apart from what is known where it is used: cc looks at all of that
not-both : {f : Opening} {q : Refusal} → Ok f ≡ Err q → ⊥
not-both e = let z : ◌≡◌ {A = ℕ} 0 1 = cc in omega arith

pub was_opened : (L : ResourceLimits) (s : Bytes) (f : Opening) → Ok f ≡ opening_result (opened L s) → Opened L s f
was_opened L s f e = by (within_ceilings L) (leb (length s) L.max_input_bytes) (before_main 0 s) refl refl refl e
  where
    by : (a b : Bool) (o : Read Headed) → within_ceilings L ≡ a → leb (length s) L.max_input_bytes ≡ b → before_main 0 s ≡ o → Ok f ≡ opening_result (opens a b o) → Opened L s f
    by true true (ok h to rest) p q is e =
        let all : f ≡ record { header = h.header; warning = first_warning h.warnings; next = cursor_at to } = cc in
        let w = was_before L s is in
        let at : f.next.at ≡ to = ap (λ f. f.next.at) all in
        record {
          value = h;
          within = p;
          fits = leb-true (length s) L.max_input_bytes q;
          header = ap (λ f. f.header) all;
          warning = ap (λ f. f.warning) all;
          one = w.one;
          reads = by_main L s p q ∙ ap (outcome L) (w.goes_on ∙ ap (λ at. next (function L L.max_nesting_depth outermost at (drop at s)) (load h)) (sym at));
          spelt = w.spelt ∙ ap (λ at. functions_spelt L at (drop at s)) (sym at);
        }
    by true true (refused x) p q is e = absurd (not-both e)
    by true false o p q is e = absurd (not-both e)
    by false b o p q is e = absurd (not-both e)

pub not_opened : (L : ResourceLimits) (s : Bytes) (q : Refusal) → Err q ≡ opening_result (opened L s) → read L s ≡ refusal q
unfolding read
not_opened L s x e = by (within_ceilings L) (leb (length s) L.max_input_bytes) (before_main 0 s) refl refl refl e
  where
    by : (a b : Bool) (o : Read Headed) → within_ceilings L ≡ a → leb (length s) L.max_input_bytes ≡ b → before_main 0 s ≡ o → Err x ≡ opening_result (opens a b o) → read L s ≡ refusal x
    by true true (ok h to rest) p q is e = absurd (let z : ◌≡◌ {A = ℕ} 0 1 = cc in omega arith)
    by true true (refused y) p q is e = let same : y ≡ x = cc in by_main L s p q ∙ ap (outcome L) (before-refused L s is) ∙ ap refusal same
    by true false o p q is e = let same : InputBytes ≡ x = cc in rw (p, q) (ap refusal same)
    by false b o p q is e = let same : LimitAboveCeiling ≡ x = cc in rw p (ap refusal same)

-- ## The whole
module _ (L : ResourceLimits) (s : Bytes) (f : Opening) (e : Ok f ≡ opening_result (opened L s)) where
  pub known : Opened L s f
  known = was_opened L s f e

  pub in_limits : within_ceilings L ≡ true
  in_limits = known.within

  abbrev pub functions : Read (List Prototype)
  functions = function L L.max_nesting_depth outermost f.next.at (drop f.next.at s)

  pub functions-refused : (q : Refusal) → functions ≡ refused q → read L s ≡ refusal q
  functions-refused q is = known.reads ∙ ap (λ o. outcome L (next o (load known.value))) is

  module _ (ps : List Prototype) (to : ℕ) (rest : Bytes) (is : functions ≡ ok ps to rest) where
    abbrev pub r : Reading
    r = reading L (record { headed = known.value; functions = ps }) to rest

    pub shows : read L s ≡ shown r
    shows = known.reads ∙ ap (λ o. outcome L (next o (load known.value))) is

    pub sums : summary_shown s L.max_diagnostics f (cursor_at to) (length ps) ≡ summary_of r
    sums =
        let behind : rest ≡ drop to s = left (exact_function L L.max_nesting_depth outermost) s f.next.at is in
        let warned : list_of f.warning ≡ known.value.warnings = ap list_of known.warning ∙ sym known.one in
        λ i. record {
          header = known.header i;
          warnings = shown_warnings (take L.max_diagnostics (warned i ++ trailing_warnings to (sym behind i)));
          functions = length ps;
          trailing_at = to;
          trailing_len = length (sym behind i);
        }

  pub spelt-refused : (q : Refusal) → Err q ≡ skim_result outermost functions → Err q ≡ spelt_result (spelling L s) (read L s)
  spelt-refused q e = sym (ap (spelt_result (spelling L s)) (functions-refused q (skim_err outermost functions q e)))

  -- counted from nothing on
  pub spelt-read : (k : Skimmed) → Ok k ≡ skim_result outermost functions → (t t' : List ℕ) → counts t ≡ same → Adds functions (functions_spelt L f.next.at (drop f.next.at s)) t t'
      → Ok ((summary_shown s L.max_diagnostics f k.next k.number), (counts t')) ≡ spelt_result (spelling L s) (read L s)
  spelt-read k e t t' none adds = by functions refl e
    where
      by : (o : Read (List Prototype)) → functions ≡ o → Ok k ≡ skim_result outermost o → Ok ((summary_shown s L.max_diagnostics f k.next k.number), (counts t')) ≡ spelt_result (spelling L s) (read L s)
      by (ok ps to rest) is e =
          let all : k ≡ skimmed_of outermost ps to = cc in
          let counted : counts t' ≡ spelling L s = adds.adds is ∙ ap (λ a. a ⊕ functions_spelt L f.next.at (drop f.next.at s)) none ∙ same_join _ ∙ sym known.spelt in
          (λ i. Ok ((summary_shown s L.max_diagnostics f (all i).next (all i).number), (counted i)))
          ∙ ap (λ n. Ok ((summary_shown s L.max_diagnostics f (cursor_at to) n), (spelling L s))) (zero-add (length ps))
          ∙ ap (λ y. Ok (y, (spelling L s))) (sums ps to rest is)
          ∙ sym (ap (spelt_result (spelling L s)) (shows ps to rest is))
      by (refused p) is e = absurd (let z : ◌≡◌ {A = ℕ} 0 1 = cc in omega arith)

  module _ (wanted : ℕ) where
    pub decoded-refused : (q : Refusal) → Err q ≡ find_result wanted functions → Err q ≡ decoded_result wanted (read L s)
    decoded-refused q e = by functions refl e
      where
        by : (o : Read (List Prototype)) → functions ≡ o → Err q ≡ find_result wanted o → Err q ≡ decoded_result wanted (read L s)
        by (ok ps to rest) is e = absurd (let z : ◌≡◌ {A = ℕ} 0 1 = cc in omega arith)
        by (refused p) is e = let same : q ≡ p = cc in ap Err same ∙ sym (ap (decoded_result wanted) (functions-refused p is))

    pub decoded-read : (k : Skimmed) (row : Option FunctionRow) → Ok (k, row) ≡ find_result wanted functions → Ok (record { summary = summary_shown s L.max_diagnostics f k.next k.number; row = row }) ≡ decoded_result wanted (read L s)
    decoded-read k row e = by functions refl e
      where
        by : (o : Read (List Prototype)) → functions ≡ o → Ok (k, row) ≡ find_result wanted o → Ok (record { summary = summary_shown s L.max_diagnostics f k.next k.number; row = row }) ≡ decoded_result wanted (read L s)
        by (ok ps to rest) is e =
            let both : ◌≡◌ {A = Skimmed × Option FunctionRow} (k, row) (skimmed_of outermost ps to, shown_row (lookup wanted 0 ps)) = cc in
            let all : k ≡ skimmed_of outermost ps to = ap (λ p. p.0) both in
            let its_row : row ≡ shown_row (lookup wanted 0 ps) = ap (λ p. p.1) both in
            (λ i. Ok (record { summary = summary_shown s L.max_diagnostics f (all i).next (all i).number; row = its_row i }))
            ∙ ap (λ n. Ok (record { summary = summary_shown s L.max_diagnostics f (cursor_at to) n; row = shown_row (lookup wanted 0 ps) })) (zero-add (length ps))
            ∙ ap (λ t. Ok (record { summary = t; row = shown_row (lookup wanted 0 ps) })) (sums ps to rest is)
            ∙ sym (ap (decoded_result wanted) (shows ps to rest is))
        by (refused p) is e = absurd (let z : ◌≡◌ {A = ℕ} 0 1 = cc in omega arith)
