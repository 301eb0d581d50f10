-- What the first pass shows of a chunk that is read: its reading, and that main begins at byte 32.
--     was_shown        what was shown is of a reading
--     was_refused      what was refused is no reading
--     main-at          the functions of a chunk are read at byte 32
--     main_first       there is one: main
--     two-warnings     a reading has at most two warnings
-- Assumes nothing.
use Rattle.std.specs.Prelude.{Option, Some, None, Ok, Err}
use mathlib.Core.Path.{◌≡◌, refl, sym, ◌∙◌, ap}
use mathlib.Core.List.{List, [], ◌∷◌, ◌++◌}
use Prim.Native.Nat.{ℕ, zero, suc, ◌≤◌, ◌<◌}
use native.Mathlib.Omega.{arith}
use lib.ListN.{length, drop, take, length-append}
use Rattle.format.specs.declared.refusal.Refusal.{Refusal}
use Rattle.format.specs.declared.limits.ResourceLimits.{ResourceLimits}
use Rattle.format.specs.declared.header.Warning.{Warning}
use Rattle.format.specs.Form.{Bytes}
use Rattle.format.specs.Reading.{Prototype, Reading}
use Rattle.format.specs.GrammarChunk.{outermost, Loaded, trailing_warnings}
use Rattle.format.specs.Read.{Read, ok, refused, Reader, next, give}
use Rattle.format.specs.GrammarHeader.{Headed}
use Rattle.format.specs.ReadChunk.{forest, function, main, Outcome, shown, refusal}
use Rattle.format.proofs.Exact.{never}
use Rattle.format.proofs.ExactChunk.{exact_main}
use Rattle.read_header.specs.Shown.{first_warning}
use Rattle.read_prototype.specs.Parts.{Head, head, Tail, tail}
use Rattle.read_prototype.specs.Inner.Whole.{prototype_of, inside}
use Rattle.read_walk.specs.Inner.Skim.{entered}
use Rattle.read_walk.proofs.OneFunction.{by_parts}
use Rattle.read_chunk.specs.declared.summary.Summary.{Summary}
use Rattle.read_chunk.specs.Decoded.{summary_of}
use Rattle.read_chunk.specs.Inner.Decoded.{judged_result, list_of}
use Rattle.read_chunk.specs.Inner.Opening.{before_main}
use Rattle.read_chunk.proofs.Summaries.{every_main}
use Rattle.read_chunk.proofs.BeforeMain.{load, was_before, before-refused}

-- what the first pass showed is of a reading
pub record WasShown (o : Outcome) (d : Summary) : Type 0 where
  pub value : Reading
  pub is : o ≡ shown value
  pub shows : d ≡ summary_of value

pub was_shown : (o : Outcome) (d : Summary) → Ok d ≡ judged_result o → WasShown o d
was_shown (shown r) d e = record { value = r; is = refl; shows = cc }
was_shown (refusal q) d e = absurd (let z : ◌≡◌ {A = ℕ} 0 1 = cc in omega arith)

pub was_refused : (o : Outcome) (q : Refusal) → Err q ≡ judged_result o → o ≡ refusal q
was_refused (shown r) q e = absurd (let z : ◌≡◌ {A = ℕ} 0 1 = cc in omega arith)
was_refused (refusal p) q e = cc

-- ## Where main stands
-- where a function is read, there is one
some_read : (L : ResourceLimits) (n at : ℕ) (s : Bytes) {ps : List Prototype} {to : ℕ} {rest : Bytes} → function L n outermost at (drop at s) ≡ ok ps to rest → 0 < length ps
some_read L n at s {ps} {to} {rest} e = one (head L 0 at (drop at s)) (sym (by_parts s L n outermost at) ∙ e)
  where
    ended : Head → List Prototype → Tail → Reader (List Prototype)
    ended h nested t end = give (prototype_of outermost at h t end ∷ nested) end

    three : (h : Head) (nested : List Prototype) (o : Read Tail) → next o (ended h nested) ≡ ok ps to rest → 0 < length ps
    three h nested (refused q) e = absurd (never e)
    three h nested (ok t end behind) e =
        let same : ps ≡ prototype_of outermost at h t end ∷ nested = cc in
        rw same (omega arith)

    two : (h : Head) (o : Read (List Prototype)) → next o (λ nested c d. next (tail L.max_string_bytes c d) (ended h nested)) ≡ ok ps to rest → 0 < length ps
    two h (refused q) e = absurd (never e)
    two h (ok nested c d) e = three h nested (tail L.max_string_bytes c d) e

    one : (o : Read Head) → next o (λ h a b. next (forest h.protos.count (entered L n) (inside outermost h) a b) (λ nested c d. next (tail L.max_string_bytes c d) (ended h nested))) ≡ ok ps to rest → 0 < length ps
    one (refused q) e = absurd (never e)
    one (ok h a b) e = two h (forest h.protos.count (entered L n) (inside outermost h) a b) e

pub record MainAt (L : ResourceLimits) (s : Bytes) (ps : List Prototype) : Type 0 where
  pub to : ℕ
  pub rest : Bytes
  pub reads : function L L.max_nesting_depth outermost 32 (drop 32 s) ≡ ok ps to rest

pub main_first : {L : ResourceLimits} {s : Bytes} {ps : List Prototype} → MainAt L s ps → 0 < length ps
main_first {L} {s} m = some_read L L.max_nesting_depth 32 s m.reads

pub main-at : (L : ResourceLimits) (s : Bytes) {m : Loaded} {to : ℕ} {rest : Bytes} → main L 0 s ≡ ok m to rest → MainAt L s m.functions
main-at L s {m} {to} {rest} e = by (before_main 0 s) refl
  where
    two : (headed : Headed) (o : Read (List Prototype)) → function L L.max_nesting_depth outermost 32 (drop 32 s) ≡ o → next o (load headed) ≡ ok m to rest → MainAt L s m.functions
    two headed (refused q) is e = absurd (never e)
    two headed (ok functions end behind) is e =
        let whole : record { headed = headed; functions = functions } ≡ m = cc in
        record { to = end; rest = behind; reads = is ∙ ap (λ l. ok l.functions end behind) whole }

    by : (o : Read Headed) → before_main 0 s ≡ o → MainAt L s m.functions
    by (refused q) is = absurd (never (sym (before-refused L s is) ∙ e))
    by (ok headed a b) is =
        let w = was_before L s is in
        two headed _ refl (sym (w.goes_on ∙ ap (λ at. next (function L L.max_nesting_depth outermost at (drop at s)) (load headed)) w.place) ∙ e)

-- ## Warnings
few_listed : (w : Option Warning) → length (list_of w) ≤ 1
few_listed None = omega arith
few_listed (Some x) = omega arith

take_shorter : (n : ℕ) (xs : List Warning) → length (take n xs) ≤ length xs
take_shorter zero xs = omega arith
take_shorter (suc n) [] = omega arith
take_shorter (suc n) (x ∷ xs) = omega (arith, take_shorter n xs)

few_taken : (n : ℕ) (xs ys : List Warning) → length xs ≤ 1 → length ys ≤ 1 → length (take n (xs ++ ys)) ≤ 2
few_taken n xs ys h k = omega (arith, take_shorter n (xs ++ ys), length-append xs ys)

few_trailing : (at : ℕ) (rest : Bytes) → length (trailing_warnings at rest) ≤ 1
few_trailing at [] = omega arith
few_trailing at (x ∷ xs) = omega arith

pub two-warnings : (L : ResourceLimits) (s : Bytes) {m : Loaded} {to : ℕ} {rest : Bytes} → main L 0 s ≡ ok m to rest → (n : ℕ) → length (take n (m.headed.warnings ++ trailing_warnings to rest)) ≤ 2
two-warnings L s {m} {to} {rest} e n =
    let split = (exact_main L).sound {at = 0} {s = s} e in
    let one = (every_main L).holds 0 split.bytes m split.spelt in
    few_taken n m.headed.warnings (trailing_warnings to rest) (rw one (few_listed (first_warning m.headed.warnings))) (few_trailing to rest)
