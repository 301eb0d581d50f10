-- 'In byte order' of the stricter reading (02, item 7), as Order.antt, CutShort.antt and Exactly.antt have it of the ordinary one.
--     strict_in_byte_order     what its reader refuses (1 to 20, 31 to 33) is decided by the bytes up to the end of its cause (Causes.antt: 31 to 33 are there; and a count that is above its limit is an int, so that 32 comes first)
--     strict_decided_early     the same of `strict_read`: 21 and 22 first
--     strict_cut-short         1 lacks bytes; strict_continues: and some bytes behind end it
--     strict_places            a place lies in the file, or is its end
--     never_two                2 is none of its refusals: 32 comes first
--     strict_order             what `strict_read` refuses is the first of 21, 22, its reader's refusal
--     strict_twenty_one, -two  21 and 22, exactly
--     thirty_one, -two, -three the cause of each, said out; fourteen, sixteen, seventeen, eighteen: those of a count that is above its limit
--     format_first, int_first, null_first  31 is met right after the byte; 32 as soon as the int is complete (int_incomplete: not before), ahead of anything that is made of it, a limit, a run; 33 right after the size
-- Assumes nothing.
use mathlib.Core.Path.{◌≡◌, refl, sym, ◌∙◌, ap}
use mathlib.Core.Logic.{◌↔◌}
use mathlib.Core.Bool.{Bool, true, false, cond}
use mathlib.Core.List.{List, [], ◌∷◌, ◌++◌, append-nil}
use mathlib.Core.Option.{Option, some}
use Prim.Native.Nat.{ℕ, ◌+◌, ◌-◌, ◌≤◌, ◌<◌, ◌^◌}
use native.Mathlib.Omega.{arith}
use lib.Dec.{leb, ltb}
use lib.ListN.{length}
use borrow.Author.Tests.{le-leb, le-ltb, ltb-true, ltb-false, ne_eqb}
use Rattle.format.specs.declared.limits.ResourceLimits.{ResourceLimits}
use Rattle.format.specs.declared.refusal.Refusal.{Refusal}
use Rattle.format.specs.declared.refusal.Refusal.TheVariants.{Truncated, Signature, Version, Instructions, Constants, Upvalues, Prototypes, LimitAboveCeiling, InputBytes, Format, IntOverflow, NullString}
use Rattle.format.specs.declared.refusal.Report.{Report}
use Rattle.format.specs.Refusals.{bare, reported}
use Rattle.format.specs.Form.{Bytes}
use Rattle.format.specs.Limits.{within_ceilings}
use Rattle.format.specs.GrammarHeader.{Headed, signature, header_of}
use Rattle.format.specs.GrammarChunk.{Loaded, outermost}
use Rattle.format.specs.Read.{Read, ok, refused, Reader, next, ◌>>=◌, give, test, run}
use Rattle.format.specs.ReadFields.{byte, number}
use Rattle.format.specs.ReadHeader.{same_bytes, expect, before_format, behind_format}
use Rattle.format.specs.ReadChunk.{main, refusal, outcome}
use Rattle.format_strict.specs.ReadStrict.{int, present, strict_function, strict_header, strict_main, strict_read}
use Rattle.format.proofs.Exact.{exact_run}
use Rattle.format.proofs.ExactHeader.{exact_expect}
use Rattle.format.proofs.OrderCases.{refused_with}
use Rattle.format_strict.proofs.StrictAgrees.{Agree, main_agrees}
use Rattle.format_strict.proofs.NoOverflow.{strict_no_two}
use Rattle.demands.proofs.Causes.{stricter, cause_by, Unlike, LastNumber, Ends}
use Rattle.demands.proofs.InOrder.{Inside, Lack}
use Rattle.demands.proofs.StrictInOrder.{steady_strict_main}
use Rattle.demands.proofs.StrictEarly.{early_strict_main}
use Rattle.demands.proofs.Order.{DecidedBy, decided, DecidedEarlyBy, decided_by, places_by}
use Rattle.demands.proofs.CutShort.{MissingBy, cut-short_by}
use Rattle.demands.proofs.Continued.{Judged, Continues, continues}
use Rattle.demands.proofs.Exactly.{first_test, second_test}
use Rattle.demands.proofs.Refused.{unless, first, by_reader}

pub strict_in_byte_order : (L : ResourceLimits) (s : Bytes) (p : Refusal) → strict_main L 0 s ≡ refused p → DecidedBy stricter L (strict_main L) 0 s p
strict_in_byte_order L s p e = decided L (strict_main L) (steady_strict_main L) early_strict_main 0 s p e

pub strict_lacks : (L : ResourceLimits) (s : Bytes) (place : ℕ) → strict_main L 0 s ≡ refused (Truncated place) → Lack (strict_main L) 0 s place
strict_lacks L s place e = (steady_strict_main {low = 0} L).lacks 0 s place (omega arith) e

-- and can go on: with the bytes that the ordinary reader goes on with (Continued.antt), since else both were cut short
pub strict_continues : (L : ResourceLimits) → Continues (strict_main L)
strict_continues L = record { on = λ at s. (let more = (continues L).on at s in (more.0, judged (strict_main L at (s ++ more.0)) (main L at (s ++ more.0)) ((main_agrees L).agrees at (s ++ more.0)) more.1)) }
  where
    judged : (o o' : Read Loaded) → Agree o o' → Judged o' → Judged o
    judged (ok m to rest) o' a j = tt
    judged (refused q) o' a j = by (ltb (reported q).number 31) refl
      where
        by : (b : Bool) → ltb (reported q).number 31 ≡ b → 2 < (reported q).number
        by true h = rw (a (ltb-true (reported q).number 31 h)) at j
        by false h = let k = ltb-false (reported q).number 31 h in omega arith

-- neither 21 nor 22
module _ (L : ResourceLimits) (within : within_ceilings L ≡ true) where
  pub by_strict_main : (s : Bytes) → length s ≤ L.max_input_bytes → strict_read L s ≡ outcome L (strict_main L 0 s)
  unfolding strict_read
  by_strict_main s short = rw (within, le-leb (length s) L.max_input_bytes short)

  pub strict_decided_early : (s : Bytes) (p : Refusal) → length s ≤ L.max_input_bytes → strict_read L s ≡ refusal p → DecidedEarlyBy stricter strict_read L s p
  strict_decided_early = decided_by L strict_read (strict_main L) by_strict_main (strict_in_byte_order L)

  pub strict_cut-short : (s : Bytes) (place : ℕ) → length s ≤ L.max_input_bytes → strict_read L s ≡ refusal (Truncated place) → MissingBy strict_read L s place
  strict_cut-short = cut-short_by L strict_read (strict_main L) by_strict_main (strict_lacks L)

module _ (L : ResourceLimits) (s : Bytes) where
  pub never_two : (q : Refusal) → strict_read L s ≡ refusal q → (reported q).number ≡ 2 → ⊥
  never_two = strict_no_two L s

  pub strict_places : (q : Refusal) → strict_read L s ≡ refusal q → Inside (length s) (reported q).place × Inside 16777216 (reported q).place
  unfolding strict_read
  strict_places q = places_by L (strict_main L) s (strict_in_byte_order L s) q

  -- all conditions, in their order
  abbrev pub for_strict : List (Option Report)
  for_strict = unless (within_ceilings L) (bare 21) ∷ unless (leb (length s) L.max_input_bytes) (bare 22) ∷ by_reader (strict_main L 0 s) ∷ []

  by_tests : (within short : Bool) (m : Read Loaded) → refused_with (cond within (cond short (outcome L m) (refusal InputBytes)) (refusal LimitAboveCeiling)) ≡ first (unless within (bare 21) ∷ unless short (bare 22) ∷ by_reader m ∷ [])
  by_tests true true (ok m to rest) = refl
  by_tests true true (refused q) = refl
  by_tests true false m = refl
  by_tests false short m = refl

  pub strict_order : refused_with (strict_read L s) ≡ first for_strict
  unfolding strict_read
  strict_order = by_tests (within_ceilings L) (leb (length s) L.max_input_bytes) (strict_main L 0 s)

  -- its reader refuses by 1 to 20 and 31 to 33 alone
  neither : (q : Refusal) → strict_main L 0 s ≡ refused q → ((reported q).number ≡ 21 → ⊥) × ((reported q).number ≡ 22 → ⊥)
  neither q is =
      let few = (strict_in_byte_order L s q is).by_file.to in
      (λ e. let bad : ◌≡◌ {A = Bool} false true = rw e at few in let z : ◌≡◌ {A = ℕ} 0 1 = cc in omega arith, λ e. let bad : ◌≡◌ {A = Bool} false true = rw e at few in let z : ◌≡◌ {A = ℕ} 0 1 = cc in omega arith)

  pub strict_twenty_one : (refused_with (strict_read L s) ≡ some (bare 21)) ↔ (within_ceilings L ≡ false)
  unfolding strict_read
  strict_twenty_one = first_test L (strict_main L 0 s) neither (within_ceilings L) (leb (length s) L.max_input_bytes)

  pub strict_twenty_two : (refused_with (strict_read L s) ≡ some (bare 22)) ↔ ((within_ceilings L ≡ true) × (leb (length s) L.max_input_bytes ≡ false))
  unfolding strict_read
  strict_twenty_two = second_test L (strict_main L 0 s) neither (within_ceilings L) (leb (length s) L.max_input_bytes)

-- ## 31, 32, 33, each for its cause
-- the front that ends with the cause is refused so already, and so is whatever begins with it
pub record RefusedFor (Ending : Bytes → Type 0) (L : ResourceLimits) (s : Bytes) (p : Refusal) : Type 0 where
  pub front : Bytes
  pub rest : Bytes
  pub whole : s ≡ front ++ rest
  pub ending : Ending front
  pub already : (t : Bytes) → length (front ++ t) ≤ L.max_input_bytes → strict_read L (front ++ t) ≡ refusal p

-- its number is no 1 or 2
refused_for : {Ending : Bytes → Type 0} {L : ResourceLimits} {s : Bytes} {p : Refusal} → 2 < (reported p).number → (d : DecidedEarlyBy stricter strict_read L s p) → (Ends (cause_by stricter L p) 0 d.front → Ending d.front) → RefusedFor Ending L s p
refused_for h d f = record { front = d.front; rest = d.rest; whole = d.whole; ending = f d.ends; already = d.whatever h }

-- the same number, said otherwise
so_that : {P Q : ℕ → Type 0} {place at : ℕ} {front : Bytes} → ((v : ℕ) → P v → Q v) → LastNumber P place at front → LastNumber Q place at front
so_that f l = record { before = l.before; spelling = l.spelling; value = l.value; whole = l.whole; begins = l.begins; is = l.is; so = f l.value l.so }

module _ (L : ResourceLimits) (within : within_ceilings L ≡ true) (s : Bytes) (short : length s ≤ L.max_input_bytes) (place : ℕ) where
  -- the byte at the place is not 0, and nothing behind it is looked at
  pub thirty_one : strict_read L s ≡ refusal (Format place) → RefusedFor (Unlike place (0 ∷ []) 0) L s (Format place)
  thirty_one e = refused_for (omega arith) (strict_decided_early L within s (Format place) short e) (λ d. d)

  -- the number that begins at the place is complete, and large
  pub thirty_two : strict_read L s ≡ refusal (IntOverflow place) → RefusedFor (LastNumber (λ v. 2 ^ 31 - 128 ≤ v) place 0) L s (IntOverflow place)
  thirty_two e = refused_for (omega arith) (strict_decided_early L within s (IntOverflow place) short e) (so_that λ v h. omega arith)

  -- and is a size of 0
  pub thirty_three : strict_read L s ≡ refusal (NullString place) → RefusedFor (LastNumber (λ v. v ≡ 0) place 0) L s (NullString place)
  thirty_three e = refused_for (omega arith) (strict_decided_early L within s (NullString place) short e) (so_that λ v h. omega arith)

  -- a number that is above its limit is an int: else it were 32
  abbrev pub AboveAsInt : ℕ → Refusal → Type 0
  AboveAsInt limit p = strict_read L s ≡ refusal p → RefusedFor (LastNumber (λ v. (limit < v) × (v < 2 ^ 31 - 128)) place 0) L s p

  pub fourteen : AboveAsInt L.max_instructions_per_proto (Instructions place)
  fourteen e = refused_for (omega arith) (strict_decided_early L within s (Instructions place) short e) (λ d. d)

  pub sixteen : AboveAsInt L.max_constants_per_proto (Constants place)
  sixteen e = refused_for (omega arith) (strict_decided_early L within s (Constants place) short e) (λ d. d)

  pub seventeen : AboveAsInt L.max_upvalues_per_proto (Upvalues place)
  seventeen e = refused_for (omega arith) (strict_decided_early L within s (Upvalues place) short e) (λ d. d)

  pub eighteen : AboveAsInt L.max_total_prototypes (Prototypes place)
  eighteen e = refused_for (omega arith) (strict_decided_early L within s (Prototypes place) short e) (λ d. d)

-- ## Where they are met
-- a format byte other than 0, behind signature and version, whatever stands behind it
pub format_first : (L : ResourceLimits) (format : ℕ) (t : Bytes) → (format ≡ 0 → ⊥) → strict_main L 0 (signature ++ 0x54 ∷ format ∷ t) ≡ refused (Format 5)
format_first L format t other = ap (λ o. next o (λ headed. byte >>= λ forgotten. strict_function L L.max_nesting_depth outermost >>= λ functions. give {A = Loaded} (record { headed = headed; functions = functions }))) headed
  where
    passes : (bytes : Bytes) (q : ℕ → Refusal) (at : ℕ) (rest : Bytes) → expect bytes q at (bytes ++ rest) ≡ ok tt (at + length bytes) rest
    passes bytes q at rest = (exact_expect bytes q).complete {at = at} rest (record { value = bytes; front = bytes; back = []; whole = sym (append-nil bytes); one = (refl, refl); two = (refl, refl) })

    before : before_format 0 (signature ++ 0x54 ∷ format ∷ t) ≡ ok tt 5 (format ∷ t)
    before = ap (λ o. next o (λ _. expect (0x54 ∷ []) Version)) (passes signature Signature 0 (0x54 ∷ format ∷ t)) ∙ passes (0x54 ∷ []) Version 4 (format ∷ t)

    one : run 1 5 (format ∷ t) ≡ ok (format ∷ []) 6 t
    one = (exact_run 1).complete {at = 5} t (refl, refl)

    wrong : expect (0 ∷ []) Format 5 (format ∷ t) ≡ refused (Format 5)
    wrong = ap (λ o. next o (λ b. test (same_bytes b (0 ∷ [])) (Format 5))) one ∙ rw (ne_eqb format 0 other)

    headed : strict_header 0 (signature ++ 0x54 ∷ format ∷ t) ≡ refused (Format 5)
    headed = ap (λ o. next o (λ _. expect (0 ∷ []) Format >>= λ _. behind_format >>= λ _. give {A = Headed} (record { header = header_of 0; warnings = [] }))) before ∙ ap (λ o. next o (λ _. behind_format >>= λ _. give {A = Headed} (record { header = header_of 0; warnings = [] }))) wrong

-- an int that is complete, whatever is made of it
pub int_first : {B : Type 0} (f : ℕ → Reader B) (at : ℕ) (s : Bytes) (n to : ℕ) (rest : Bytes) → number at s ≡ ok n to rest → 2 ^ 31 - 128 ≤ n → (int >>= f) at s ≡ refused (IntOverflow at)
int_first f at s n to rest e large = rw (e, le-ltb n (2 ^ 31 - 128) large)

-- and one that is not complete, or too large to be a number, is refused as the number is
pub int_incomplete : {B : Type 0} (f : ℕ → Reader B) (at : ℕ) (s : Bytes) (q : Refusal) → number at s ≡ refused q → (int >>= f) at s ≡ refused q
int_incomplete f at s q e = rw e

-- a string constant of size 0, however it is spelt
pub null_first : (limit at : ℕ) (s : Bytes) (to : ℕ) (rest : Bytes) → number at s ≡ ok 0 to rest → present limit at s ≡ refused (NullString at)
null_first limit at s to rest e = rw e
