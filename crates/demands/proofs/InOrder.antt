-- The reader goes through the bytes from the front and ends at the first refusal: what stands behind never changes it. One law for each way to make a reader.
--     Steady of low r  from a place on that is at least `low`: with more bytes behind, r gives the same; it goes forward, never behind the end; and it refuses by 1 to 20
--                      alone (`of` the ordinary reading; the stricter one has 31 to 33 besides), with a place that is at most the end. Only 1 and 2 (bytes are missing) can go away with more bytes
--     Lack r at s p    a file that is cut short (1) lacks bytes: so many are wanted at the refusal's place p, there are fewer; with more, but fewer than these, it is the same, and with as many it is not 1 at that place
-- (And 2 is met behind byte 128 alone: a number is below 2^64 − 128, so place plus size is below 2^64 up to there.)
-- Assumes nothing.
use Rattle.std.specs.Prelude.{Option, Some, None}
use mathlib.Core.Path.{◌≡◌, refl, ◌∙◌, ap}
use mathlib.Core.Bool.{Bool, true, false, cond, ◌&&◌, ◌||◌}
use mathlib.Core.List.{List, [], ◌∷◌, ◌++◌}
use Prim.Native.Nat.{ℕ, zero, suc, ◌+◌, ◌-◌, ◌*◌, ◌%◌, ◌≤◌, ◌<◌, ◌^◌}
use native.Mathlib.Omega.{arith}
use lib.Dec.{leb, ltb, eqb}
use lib.ListN.{length, take, drop, length-append, length-drop}
use lib.Seq.{take-append-le, drop-append-le}
use borrow.Author.Tests.{ltb-true, ltb-false, leb-true, leb-false, le-leb, lt-leb}
use Rattle.format.specs.declared.limits.ResourceLimits.{ResourceLimits}
use Rattle.format.specs.declared.refusal.Refusal.{Refusal}
use Rattle.format.specs.declared.refusal.Refusal.TheVariants.{
  Truncated,
  Overflow,
  VarintOverflow,
  Signature,
  Version,
  LuacData,
  InstructionSize,
  LuaIntegerSize,
  LuaNumberSize,
  LuacInt,
  LuacNum,
  ConstantTag,
  StringBytes,
  Instructions,
  TotalInstructions,
  Constants,
  Upvalues,
  Prototypes,
  NestingDepth,
  TotalPrototypes,
}
use Rattle.format.specs.Form.{Bytes}
use Rattle.format.specs.Refusals.{reported}
use Rattle.format.specs.Reading.{Prototype}
use Rattle.format.specs.GrammarHeader.{signature, luac_data, luac_int, luac_num}
use Rattle.format.specs.GrammarChunk.{inherit, Where, after, within}
use Rattle.format.specs.Read.{Read, ok, refused, Reader, next, ◌>>=◌, give, here, refuse, test, at_most, piece, run, many}
use Rattle.format.specs.ReadFields.{field, groups, number, content, string}
use Rattle.format.specs.ReadHeader.{same_bytes, expect, before_format, behind_format, header}
use Rattle.format.specs.ReadChunk.{counted, counted_up_to, always, tagged, constant, upvalue, anchor, local, forest, body, function, main}
use Rattle.format.proofs.ExactFields.{exact_number}
use Rattle.demands.proofs.Causes.{Which, ordinary, stricter}

-- a place, if there is one, is at most e
abbrev pub Inside : ℕ → Option ℕ → Type 0
Inside e (Some place) = place ≤ e
Inside e None = Unit {0}

pub inside-more : {d e : ℕ} → d ≤ e → (p : Option ℕ) → Inside d p → Inside e p
inside-more le (Some place) h = omega arith
inside-more le None h = tt

-- those that the stricter reading adds (02, item 7)
abbrev pub added : Which → ℕ → Bool
added ordinary n = false
added stricter n = leb 31 n && leb n 33

-- 1 to 20, and those
abbrev pub Has : Which → ℕ → Type 0
Has ordinary n = n ≤ 20
Has stricter n = leb n 20 || added stricter n ≡ true

has : (of : Which) (n : ℕ) → leb n 20 || added of n ≡ true → Has of n
has ordinary n e = leb-true n 20 (only (leb n 20) e)
  where
    only : (b : Bool) → b || false ≡ true → b ≡ true
    only true e = refl
    only false e = e
has stricter n e = e

-- a refusal that a file of e bytes can cause, alone or with the limits
pub record ByFile (of : Which) (e : ℕ) (q : Refusal) : Type 0 where
  pub from : 1 ≤ (reported q).number
  pub to : Has of (reported q).number
  pub place : Inside e (reported q).place

listed : {of : Which} {e : ℕ} (q : Refusal) → leb 1 (reported q).number ≡ true → leb (reported q).number 20 || added of (reported q).number ≡ true → Inside e (reported q).place → ByFile of e q
listed {of} q f g h = record { from = leb-true 1 (reported q).number f; to = has of (reported q).number g; place = h }

by_longer : {of : Which} {d e : ℕ} {q : Refusal} → d ≤ e → ByFile of d q → ByFile of e q
by_longer {q} le is = record { from = is.from; to = is.to; place = inside-more le (reported q).place is.place }

-- the place where a refusal's reader began
pub own : {n : ℕ} → n ≤ n
own = omega arith

-- what is given, where t stands behind the bytes, which end at e
pub record StillRefused {A : Type 0} (of : Which) (e : ℕ) (q : Refusal) (o : Read A) : Type 0 where
  pub by_file : ByFile of e q
  pub stays : 2 < (reported q).number → o ≡ refused q

pub record Gives {A : Type 0} (at e : ℕ) (x : A) (to : ℕ) (rest : Bytes) (o : Read A) (t : Bytes) : Type 0 where
  pub same : o ≡ ok x to (rest ++ t)
  pub forward : at ≤ to
  pub end : to + length rest ≡ e

abbrev Same : {A : Type 0} → Which → ℕ → ℕ → Read A → Read A → Bytes → Type 0
Same of at e (ok x to rest) o t = Gives at e x to rest o t
Same of at e (refused q) o t = StillRefused of e q o

-- behind a place, or refused for another reason
abbrev pub Past : {A : Type 0} → ℕ → Read A → Type 0
Past place (ok x to rest) = place < to
Past place (refused q) = q ≡ Truncated place → ⊥

pub record Lack {A : Type 0} (r : Reader A) (at : ℕ) (s : Bytes) (place : ℕ) : Type 0 where
  pub from : at ≤ place
  pub wanted : ℕ
  pub fewer : at + length s < place + wanted
  pub still : (t : Bytes) → at + length (s ++ t) < place + wanted → r at (s ++ t) ≡ refused (Truncated place)
  pub enough : (t : Bytes) → place + wanted ≤ at + length (s ++ t) → Past place (r at (s ++ t))

pub record Steady {A : Type 0} (of : Which) (low : ℕ) (r : Reader A) : Type 0 where
  pub more : (at : ℕ) (s t : Bytes) → low ≤ at → Same of at (at + length s) (r at s) (r at (s ++ t)) t
  pub lacks : (at : ℕ) (s : Bytes) (place : ℕ) → low ≤ at → r at s ≡ refused (Truncated place) → Lack r at s place
  pub overflows : (at : ℕ) (s : Bytes) → low ≤ at → r at s ≡ refused Overflow → 128 < at + length s

-- a refusal for what is there, with a place that is at most e: 3 to 20, and 31 to 33
pub record Tested (of : Which) (e : ℕ) (q : Refusal) : Type 0 where
  pub by_file : ByFile of e q
  pub there : 3 ≤ (reported q).number

pub tested : {of : Which} {e : ℕ} (q : Refusal) → leb 3 (reported q).number ≡ true → leb (reported q).number 20 || added of (reported q).number ≡ true → Inside e (reported q).place → Tested of e q
tested {of} q f g h =
    let low : 3 ≤ (reported q).number = leb-true 3 (reported q).number f in
    record { by_file = record { from = omega arith; to = has of (reported q).number g; place = h }; there = low }

other : {A P : Type 0} {x : A} {to : ℕ} {rest : Bytes} {q : Refusal} → ok x to rest ≡ refused q → P
other e = absurd (let z : ◌≡◌ {A = ℕ} 0 1 = cc in omega arith)

pub steady_give : {of : Which} {A : Type 0} {low : ℕ} (x : A) → Steady of low (give x)
steady_give x = record { more = λ at s t h. record { same = refl; forward = own; end = refl }; lacks = λ at s place h e. other e; overflows = λ at s h e. other e }

-- what follows may keep the place for a refusal
pub steady_here : {of : Which} {B : Type 0} {low : ℕ} {f : ℕ → Reader B} → ((place : ℕ) → Steady of place (f place)) → Steady of low (here >>= f)
steady_here two = record {
  more = λ at s t h. (two at).more at s t own;
  lacks = λ at s place h e. (let l = (two at).lacks at s place own e in record { from = l.from; wanted = l.wanted; fewer = l.fewer; still = l.still; enough = l.enough });
  overflows = λ at s h e. (two at).overflows at s own e;
}

pub steady_refuse : {of : Which} {A : Type 0} {low : ℕ} (q : Refusal) → Tested of low q → Steady {A = A} of low (refuse q)
steady_refuse {A} {low} q is = record {
  more = λ at s t h. let le : low ≤ at + length s = omega arith in record { by_file = by_longer le is.by_file; stays = λ k. refl };
  lacks = λ at s place h e. (let same : q ≡ Truncated place = cc in let n : (reported q).number ≡ 1 = ap (λ q. (reported q).number) same in let k = is.there in absurd (omega arith));
  overflows = λ at s h e. (let same : q ≡ Overflow = cc in let n : (reported q).number ≡ 2 = ap (λ q. (reported q).number) same in let k = is.there in absurd (omega arith));
}

-- behind a value of which something is known
pub steady_known : {of : Which} {A B : Type 0} {low : ℕ} {r : Reader A} {f : A → Reader B} (Known : A → Type 0) → Steady of low r → ((at : ℕ) (s : Bytes) (x : A) (to : ℕ) (rest : Bytes) → r at s ≡ ok x to rest → Known x)
    → ((x : A) → Known x → Steady of low (f x)) → Steady of low (r >>= f)
steady_known {of} {A} {B} {low} {r} {f} Known one known two = record {
  more = λ at s t h. go at (at + length s) s (r at s) refl (r at (s ++ t)) t h (one.more at s t h);
  lacks = λ at s place h e. short at s place h (r at s) refl e;
  overflows = λ at s h e. long at s h (r at s) refl e;
}
  where
    behind : (at mid e : ℕ) (o p : Read B) (t : Bytes) → at ≤ mid → Same of mid e o p t → Same of at e o p t
    behind at mid e (ok x to rest) p t le g = record { same = g.same; forward = let f = g.forward in omega arith; end = g.end }
    behind at mid e (refused q) p t le g = g

    go : (at e : ℕ) (s : Bytes) (o : Read A) → r at s ≡ o → (p : Read A) (t : Bytes) → low ≤ at → Same of at e o p t → Same of at e (next o f) (next p f) t
    go at e s (ok x mid rest) is p t h g =
        let le = g.forward in
        let on = (two x (known at s x mid rest is)).more mid rest t (omega arith) in
        rw g.same (behind at mid e (f x mid rest) (f x mid (rest ++ t)) t le (rw g.end at on))
    go at e s (refused q) is p t h g = record { by_file = g.by_file; stays = λ k. ap (λ o. next o f) (g.stays k) }

    -- it goes on from behind the place
    beyond : (x : A) → Steady of low (f x) → (place mid : ℕ) (u : Bytes) → low ≤ mid → place < mid → (o : Read B) → f x mid u ≡ o → Past place o
    beyond x on place mid u h k (ok y to rest) is = let g : Same of mid (mid + length u) (ok y to rest) (f x mid (u ++ [])) [] = rw is at (on.more mid u [] h) in let le = g.forward in omega arith
    beyond x on place mid u h k (refused q) is = λ e. let l = on.lacks mid u place h (is ∙ ap refused e) in let le = l.from in omega arith

    past : (at place : ℕ) (s : Bytes) → low ≤ at → (o : Read A) → r at s ≡ o → Past place o → Past place (next o f)
    past at place s h (ok x mid u) is k =
        let g : Same of at (at + length s) (ok x mid u) (r at (s ++ [])) [] = rw is at (one.more at s [] h) in
        let le = g.forward in
        beyond x (two x (known at s x mid u is)) place mid u (omega arith) k (f x mid u) refl
    past at place s h (refused q) is k = k

    short : (at : ℕ) (s : Bytes) (place : ℕ) → low ≤ at → (o : Read A) → r at s ≡ o → next o f ≡ refused (Truncated place) → Lack (r >>= f) at s place
    short at s place h (ok x mid rest) is e =
        let g : (t : Bytes) → Same of at (at + length s) (ok x mid rest) (r at (s ++ t)) t = λ t. (let all = one.more at s t h in rw is at all) in
        let le = (g []).forward in
        let end = (g []).end in
        let l = (two x (known at s x mid rest is)).lacks mid rest place (omega arith) e in
        let from = l.from in
        let fewer = l.fewer in
        record {
          from = omega arith;
          wanted = l.wanted;
          fewer = omega arith;
          still = λ t k. rw (g t).same (l.still t (omega (arith, length-append s t, length-append rest t)));
          enough = λ t k. rw (g t).same (l.enough t (omega (arith, length-append s t, length-append rest t)));
        }
    short at s place h (refused q) is e =
        let l = one.lacks at s place h (is ∙ (let same : q ≡ Truncated place = cc in ap refused same)) in
        record { from = l.from; wanted = l.wanted; fewer = l.fewer; still = λ t k. ap (λ o. next o f) (l.still t k); enough = λ t k. past at place (s ++ t) h (r at (s ++ t)) refl (l.enough t k) }

    long : (at : ℕ) (s : Bytes) → low ≤ at → (o : Read A) → r at s ≡ o → next o f ≡ refused Overflow → 128 < at + length s
    long at s h (ok x mid rest) is e =
        let g : Same of at (at + length s) (ok x mid rest) (r at (s ++ [])) [] = rw is at (one.more at s [] h) in
        let le = g.forward in
        let end = g.end in
        let l = (two x (known at s x mid rest is)).overflows mid rest (omega arith) e in
        omega arith
    long at s h (refused q) is e = one.overflows at s h (is ∙ (let same : q ≡ Overflow = cc in ap refused same))

pub steady_then : {of : Which} {A B : Type 0} {low : ℕ} {r : Reader A} {f : A → Reader B} → Steady of low r → ((x : A) → Steady of low (f x)) → Steady of low (r >>= f)
steady_then one two = steady_known (λ x. Unit {0}) one (λ at s x to rest e. tt) (λ x _. two x)

pub steady_pick : {of : Which} {A : Type 0} {low : ℕ} {r s : Reader A} (b : Bool) → Steady of low r → Steady of low s → Steady of low (cond b r s)
steady_pick true one two = one
steady_pick false one two = two

pub steady_test : {of : Which} {low : ℕ} (b : Bool) (q : Refusal) → Tested of low q → Steady of low (test b q)
steady_test true q is = steady_give tt
steady_test false q is = steady_refuse q is

pub steady_at_most : {of : Which} {low : ℕ} (n m : ℕ) (q : Refusal) → Tested of low q → Steady of low (at_most n m q)
steady_at_most n m q is = steady_test (leb n m) q is

-- bytes are missing
missing : {of : Which} {A : Type 0} {e : ℕ} (b : Bool) (at : ℕ) (o : Read A) → at ≤ e → StillRefused of e (cond b (Truncated at) Overflow) o
missing true at o h = record { by_file = listed (Truncated at) refl refl h; stays = λ k. absurd (omega arith) }
missing false at o h = record { by_file = listed Overflow refl refl tt; stays = λ k. absurd (omega arith) }

-- 2 is not met where place and number are small
short_far : (b : Bool) (at n : ℕ) → ltb (at + n) (2 ^ 64) ≡ b → n < 2 ^ 64 - 128 → cond b (Truncated at) Overflow ≡ Overflow → 128 < at
short_far true at n is few e = absurd (let z : ◌≡◌ {A = ℕ} 0 1 = cc in omega arith)
short_far false at n is few e = let far = ltb-false (at + n) (2 ^ 64) is in omega arith

-- that is 1 at the place, if it is 1
short-there : (b : Bool) (at place : ℕ) → cond b (Truncated at) Overflow ≡ Truncated place → at ≡ place
short-there true at place e = cc
short-there false at place e = absurd (let z : ◌≡◌ {A = ℕ} 0 1 = cc in omega arith)

pub steady_run : {of : Which} {low : ℕ} (n : ℕ) → n < 2 ^ 64 - 128 → Steady of low (run n)
steady_run {of} n few = record { more = λ at s t h. go at s t (leb n (length s)) refl; lacks = λ at s place h e. lack at s place (leb n (length s)) refl e; overflows = λ at s h e. far at s (leb n (length s)) e }
  where
    far : (at : ℕ) (s : Bytes) (b : Bool) → piece b n at s ≡ refused Overflow → 128 < at + length s
    far at s true e = other e
    far at s false e = let k : 128 < at = short_far (ltb (at + n) (2 ^ 64)) at n refl few cc in omega arith

    all_there : (at : ℕ) (s t : Bytes) → n ≤ length (s ++ t) → run n at (s ++ t) ≡ ok (take n (s ++ t)) (at + n) (drop n (s ++ t))
    all_there at s t k = rw (le-leb n (length (s ++ t)) k)

    go : (at : ℕ) (s t : Bytes) (b : Bool) → leb n (length s) ≡ b → Same of at (at + length s) (piece b n at s) (run n at (s ++ t)) t
    go at s t true e =
        let h : n ≤ length s = leb-true n (length s) e in
        let k : n ≤ length (s ++ t) = omega (arith, length-append s t) in
        record { same = rw (le-leb n (length (s ++ t)) k, take-append-le n s t h, drop-append-le n s t h); forward = omega arith; end = omega (arith, length-drop n s) }
    go at s t false e = missing (ltb (at + n) (2 ^ 64)) at _ (omega arith)

    lack : (at : ℕ) (s : Bytes) (place : ℕ) (b : Bool) → leb n (length s) ≡ b → piece b n at s ≡ refused (Truncated place) → Lack (run n) at s place
    lack at s place true is e = other e
    lack at s place false is e =
        let same : at ≡ place = short-there (ltb (at + n) (2 ^ 64)) at place cc in
        let few : length s < n = leb-false n (length s) is in
        record { from = omega arith; wanted = n; fewer = omega arith; still = λ t k. (let less : length (s ++ t) < n = omega arith in rw (lt-leb n (length (s ++ t)) less) e); enough = λ t k. (let there : n ≤ length (s ++ t) = omega arith in let on : place < at + n = omega arith in rw (all_there at s t there) on) }

pub steady_many : {of : Which} {A : Type 0} {low : ℕ} {r : Reader A} (n : ℕ) → Steady of low r → Steady of low (many n r)
steady_many zero one = steady_give []
steady_many (suc n) one = steady_then one λ x. steady_then (steady_many n one) λ xs. steady_give _

-- ## Fields
pub steady_field : {of : Which} {low : ℕ} (n : ℕ) → ltb n (2 ^ 64 - 128) ≡ true → Steady of low (field n)
steady_field n few = steady_then (steady_run n (ltb-true n (2 ^ 64 - 128) few)) λ bytes. steady_give _

steady_groups : (of : Which) (high at : ℕ) (s t : Bytes) → Same of at (at + length s) (groups high at s) (groups high at (s ++ t)) t
steady_groups of high at [] t = missing (ltb (at + 1) (2 ^ 64)) at _ (omega arith)
steady_groups of high at (x ∷ s) t = go (ltb high (2 ^ 57 - 1)) (ltb x 128) (groups (high * 128 + x) (at + 1) s) (groups (high * 128 + x) (at + 1) (s ++ t)) (steady_groups of (high * 128 + x) (at + 1) s t)
  where
    end : at + 1 + length s ≡ at + suc (length s)
    end = omega arith

    first : (o p : Read ℕ) → Same of (at + 1) (at + 1 + length s) o p t → Same of at (at + suc (length s)) o p t
    first (ok y to rest) p g = record { same = g.same; forward = let f = g.forward in omega arith; end = g.end ∙ end }
    first (refused q) p g = rw end at g

    go : (fits low : Bool) (o p : Read ℕ) → Same of (at + 1) (at + 1 + length s) o p t
        → Same of at (at + suc (length s)) (cond fits (cond low o (ok (high * 128 + x % 128) (at + 1) s)) (refused VarintOverflow)) (cond fits (cond low p (ok (high * 128 + x % 128) (at + 1) (s ++ t))) (refused VarintOverflow)) t
    go true true o p on = first o p on
    go true false o p on = record { same = refl; forward = omega arith; end = end }
    go false low o p on = record { by_file = listed VarintOverflow refl refl tt; stays = λ h. refl }

-- a number takes a byte at least, and what it lacks it lacks from there on
abbrev Onward : ℕ → Read ℕ → Type 0
Onward at (ok x to rest) = at < to
Onward at (refused q) = (place : ℕ) → q ≡ Truncated place → at ≤ place

onward-groups : (high at : ℕ) (s : Bytes) → Onward at (groups high at s)
onward-groups high at [] = λ place e. let same : at ≡ place = short-there (ltb (at + 1) (2 ^ 64)) at place e in omega arith
onward-groups high at (x ∷ s) = go (ltb high (2 ^ 57 - 1)) (ltb x 128) (groups (high * 128 + x) (at + 1) s) (onward-groups (high * 128 + x) (at + 1) s)
  where
    on : (o : Read ℕ) → Onward (at + 1) o → Onward at o
    on (ok y to rest) k = omega arith
    on (refused q) k = λ place e. let le = k place e in omega arith

    go : (fits low : Bool) (o : Read ℕ) → Onward (at + 1) o → Onward at (cond fits (cond low o (ok (high * 128 + x % 128) (at + 1) s)) (refused VarintOverflow))
    go true true o k = on o k
    go true false o k = omega arith
    go false low o k = λ place e. absurd (let z : ◌≡◌ {A = ℕ} 0 1 = cc in omega arith)

-- one more byte
past_byte : (high at x : ℕ) (t : Bytes) → Past at (groups high at (x ∷ t))
past_byte high at x t = go (ltb high (2 ^ 57 - 1)) (ltb x 128) (groups (high * 128 + x) (at + 1) t) (onward-groups (high * 128 + x) (at + 1) t)
  where
    on : (o : Read ℕ) → Onward (at + 1) o → Past at o
    on (ok y to rest) k = omega arith
    on (refused q) k = λ e. let le = k at e in omega arith

    go : (fits low : Bool) (o : Read ℕ) → Onward (at + 1) o → Past at (cond fits (cond low o (ok (high * 128 + x % 128) (at + 1) t)) (refused VarintOverflow))
    go true true o k = on o k
    go true false o k = omega arith
    go false low o k = λ e. let z : ◌≡◌ {A = ℕ} 0 1 = cc in omega arith

lack_groups : (high at : ℕ) (s : Bytes) (place : ℕ) → groups high at s ≡ refused (Truncated place) → Lack (groups high) at s place
lack_groups high at [] place e =
    let same : at ≡ place = short-there (ltb (at + 1) (2 ^ 64)) at place cc in
    record { from = omega arith; wanted = 1; fewer = omega arith; still = λ t k. none-there t (omega arith); enough = λ t k. there t (omega arith) same }
  where
    none-there : (t : Bytes) → length t < 1 → groups high at t ≡ refused (Truncated place)
    none-there [] k = e
    none-there (x ∷ t) k = absurd (omega arith)

    there : (t : Bytes) → 1 ≤ length t → {place : ℕ} → at ≡ place → Past place (groups high at t)
    there [] k same = absurd (omega arith)
    there (x ∷ t) k same = rw (← same) (past_byte high at x t)
lack_groups high at (x ∷ s) place e = go (ltb high (2 ^ 57 - 1)) refl (ltb x 128) refl (λ e. lack_groups (high * 128 + x) (at + 1) s place e) e
  where
    go : (fits : Bool) → ltb high (2 ^ 57 - 1) ≡ fits → (low : Bool) → ltb x 128 ≡ low → (groups (high * 128 + x) (at + 1) s ≡ refused (Truncated place) → Lack (groups (high * 128 + x)) (at + 1) s place)
        → cond fits (cond low (groups (high * 128 + x) (at + 1) s) (ok (high * 128 + x % 128) (at + 1) s)) (refused VarintOverflow) ≡ refused (Truncated place) → Lack (groups high) at (x ∷ s) place
    go true f true l rest e =
        let k = rest e in
        let from = k.from in
        let fewer = k.fewer in
        record { from = omega arith; wanted = k.wanted; fewer = omega arith; still = λ t h. rw (f, l) (k.still t (omega arith)); enough = λ t h. rw (f, l) (k.enough t (omega arith)) }
    go true f false l rest e = other e
    go false f low l rest e = absurd (let z : ◌≡◌ {A = ℕ} 0 1 = cc in omega arith)

far_groups : (high at : ℕ) (s : Bytes) → groups high at s ≡ refused Overflow → 128 < at + length s
far_groups high at [] e = let k : 128 < at = short_far (ltb (at + 1) (2 ^ 64)) at 1 refl (ltb-true 1 (2 ^ 64 - 128) refl) cc in omega arith
far_groups high at (x ∷ s) e = go (ltb high (2 ^ 57 - 1)) (ltb x 128) (λ e. far_groups (high * 128 + x) (at + 1) s e) e
  where
    go : (fits low : Bool) → (groups (high * 128 + x) (at + 1) s ≡ refused Overflow → 128 < at + 1 + length s)
        → cond fits (cond low (groups (high * 128 + x) (at + 1) s) (ok (high * 128 + x % 128) (at + 1) s)) (refused VarintOverflow) ≡ refused Overflow → 128 < at + suc (length s)
    go true true rest e = let k = rest e in omega arith
    go true false rest e = other e
    go false low rest e = absurd (let z : ◌≡◌ {A = ℕ} 0 1 = cc in omega arith)

pub steady_number : {of : Which} {low : ℕ} → Steady of low number
steady_number {of} = record { more = λ at s t h. steady_groups of 0 at s t; lacks = λ at s place h e. lack_groups 0 at s place e; overflows = λ at s h e. far_groups 0 at s e }

-- behind a number, which is below 2^64 − 128
pub steady_numbered : {of : Which} {B : Type 0} {low : ℕ} {f : ℕ → Reader B} → ((n : ℕ) → n < 2 ^ 64 - 128 → Steady of low (f n)) → Steady of low (number >>= f)
steady_numbered two = steady_known (λ n. n < 2 ^ 64 - 128) steady_number (λ at s n to rest e. (exact_number.sound {at = at} {s = s} {x = n} {to = to} {rest = rest} e).spelt.fits) two

steady_content : {of : Which} (limit first size : ℕ) → size < 2 ^ 64 - 128 → Steady of first (content limit first size)
steady_content limit first zero few = steady_give _
steady_content limit first (suc n) few =
    steady_then (steady_at_most n limit (StringBytes first) (tested (StringBytes first) refl refl own)) λ _. steady_here λ place. steady_then (steady_run n (omega arith)) λ bytes. steady_give _

pub steady_string : {of : Which} {low : ℕ} (limit : ℕ) → Steady of low (string limit)
steady_string limit = steady_here λ first. steady_numbered λ size few. steady_content limit first size few

-- ## The header
pub steady_expect : {of : Which} {low : ℕ} (bytes : Bytes) (refusal : ℕ → Refusal) → ltb (length bytes) (2 ^ 64 - 128) ≡ true → ((place : ℕ) → Tested of place (refusal place)) → Steady of low (expect bytes refusal)
steady_expect bytes refusal few is = steady_here λ place. steady_then (steady_run (length bytes) (ltb-true (length bytes) (2 ^ 64 - 128) few)) λ b. steady_test (same_bytes b bytes) (refusal place) (is place)

pub steady_before : {of : Which} {low : ℕ} → Steady of low before_format
steady_before = steady_then (steady_expect signature Signature refl λ place. tested (Signature place) refl refl own) λ _. steady_expect (0x54 ∷ []) Version refl λ place. tested (Version place) refl refl own

pub steady_behind : {of : Which} {low : ℕ} → Steady of low behind_format
steady_behind =
    steady_then (steady_expect luac_data LuacData refl λ place. tested (LuacData place) refl refl own) λ _.
    steady_then (steady_expect (4 ∷ []) InstructionSize refl λ place. tested (InstructionSize place) refl refl own) λ _.
    steady_then (steady_expect (8 ∷ []) LuaIntegerSize refl λ place. tested (LuaIntegerSize place) refl refl own) λ _.
    steady_then (steady_expect (8 ∷ []) LuaNumberSize refl λ place. tested (LuaNumberSize place) refl refl own) λ _.
    steady_then (steady_expect luac_int LuacInt refl λ place. tested (LuacInt place) refl refl own) λ _.
    steady_expect luac_num LuacNum refl λ place. tested (LuacNum place) refl refl own

steady_header : {of : Which} {low : ℕ} → Steady of low header
steady_header = steady_then steady_before λ _. steady_here λ place. steady_then (steady_field 1 refl) λ format. steady_then steady_behind λ _. steady_give _

-- ## Lists and entries
-- (an item may begin at any place)
pub steady_counted : {of : Which} {low : ℕ} {A : Type 0} {r : Reader A} → ((low : ℕ) → Steady of low r) → Steady of low (counted r)
steady_counted one = steady_then steady_number λ n. steady_here λ place. steady_then (steady_many n (one place)) λ items. steady_give _

pub steady_counted_up_to : {of : Which} {low : ℕ} {A : Type 0} {r : Reader A} (limit : ℕ) (refusal : ℕ → Refusal) → ((first : ℕ) → Tested of first (refusal first)) → ((low : ℕ) → Steady of low r) → Steady of low (counted_up_to limit refusal r)
steady_counted_up_to limit refusal is one =
    steady_here λ first.
    steady_then steady_number λ n.
    steady_then (steady_at_most n limit (refusal first) (is first)) λ _.
    steady_here λ place.
    steady_then (steady_many n (one place)) λ items.
    steady_give _

pub steady_always : {of : Which} {low : ℕ} (limit : ℕ) (instead : Bytes) → Steady of low (always limit instead)
steady_always limit instead = steady_then (steady_string limit) λ t. steady_here λ place. steady_give _

steady_tagged : {of : Which} (limit place tag : ℕ) → Steady of place (tagged limit place tag)
steady_tagged limit place tag =
    steady_pick (eqb tag 0) (steady_give _)
    (steady_pick (eqb tag 1) (steady_give _)
    (steady_pick (eqb tag 17) (steady_give _)
    (steady_pick (eqb tag 3) (steady_then (steady_field 8 refl) λ n. steady_give _)
    (steady_pick (eqb tag 19) (steady_then (steady_field 8 refl) λ n. steady_give _)
    (steady_pick (eqb tag 4) (steady_then (steady_always limit []) λ t. steady_give _)
    (steady_pick (eqb tag 20) (steady_then (steady_always limit []) λ t. steady_give _)
    (steady_refuse (ConstantTag place) (tested (ConstantTag place) refl refl own))))))))

pub steady_constant : {of : Which} {low : ℕ} (limit : ℕ) → Steady of low (constant limit)
steady_constant limit = steady_here λ place. steady_then (steady_field 1 refl) λ tag. steady_tagged limit place tag

pub steady_upvalue : {of : Which} {low : ℕ} → Steady of low upvalue
steady_upvalue = steady_then (steady_field 1 refl) λ instack. steady_then (steady_field 1 refl) λ idx. steady_then (steady_field 1 refl) λ kind. steady_give _

pub steady_anchor : {of : Which} {low : ℕ} → Steady of low anchor
steady_anchor = steady_then steady_number λ pc. steady_then steady_number λ line. steady_give _

pub steady_local : {of : Which} {low : ℕ} (limit : ℕ) → Steady of low (local limit)
steady_local limit = steady_then (steady_always limit (63 ∷ [])) λ name. steady_then steady_number λ startpc. steady_then steady_number λ endpc. steady_give _

-- ## Functions
pub steady_forest : {of : Which} {low : ℕ} (n : ℕ) {r : Where → Reader (List Prototype)} (w : Where) → ((low : ℕ) (w : Where) → Steady of low (r w)) → Steady of low (forest n r w)
steady_forest zero w one = steady_give []
steady_forest {low} (suc n) w one = steady_then (one low w) λ ps. steady_then (steady_forest n (after ps w) one) λ more. steady_give (ps ++ more)

steady_body : {of : Which} {low : ℕ} (L : ResourceLimits) {r : Where → Reader (List Prototype)} → ((low : ℕ) (w : Where) → Steady of low (r w)) → (w : Where) → Steady of low (body L r w)
unfolding body
steady_body L one w =
    steady_here λ start.
    steady_then (steady_string L.max_string_bytes) λ spelt.
    steady_then steady_number λ line_defined.
    steady_then steady_number λ last_line_defined.
    steady_then (steady_field 1 refl) λ numparams.
    steady_then (steady_field 1 refl) λ is_vararg.
    steady_then (steady_field 1 refl) λ maxstacksize.
    steady_here λ first.
    steady_then steady_number λ size.
    steady_then (steady_at_most size L.max_instructions_per_proto (Instructions first) (tested (Instructions first) refl refl own)) λ _.
    steady_then (steady_at_most (w.instructions + size) L.max_total_instructions (TotalInstructions first) (tested (TotalInstructions first) refl refl own)) λ _.
    steady_here λ instructions_at.
    steady_then (steady_many size (steady_field 4 refl)) λ instructions.
    steady_then (steady_counted_up_to L.max_constants_per_proto Constants (λ first. tested (Constants first) refl refl own) (λ low. steady_constant L.max_string_bytes)) λ constants.
    steady_then (steady_counted_up_to L.max_upvalues_per_proto Upvalues (λ first. tested (Upvalues first) refl refl own) λ low. steady_upvalue) λ upvalues.
    steady_here λ first.
    steady_then steady_number λ protos.
    steady_then (steady_at_most protos L.max_total_prototypes (Prototypes first) (tested (Prototypes first) refl refl own)) λ _.
    steady_here λ protos-at.
    steady_then (steady_forest protos (within w (inherit spelt w.source) (length instructions)) one) λ nested.
    steady_numbered λ line-info-size few.
    steady_here λ line-info-at.
    steady_then (steady_run line-info-size few) λ line_info_lem.
    steady_then (steady_counted λ low. steady_anchor) λ abs_line_info.
    steady_then (steady_counted λ low. steady_local L.max_string_bytes) λ loc_vars.
    steady_then (steady_counted λ low. steady_string L.max_string_bytes) λ upvalue_names_lem.
    steady_here λ end.
    steady_give _

steady_function : {of : Which} {low : ℕ} (L : ResourceLimits) (left : ℕ) (w : Where) → Steady of low (function L left w)
unfolding function
steady_function L zero w = steady_body L (λ low w. steady_here λ place. steady_refuse (NestingDepth place) (tested (NestingDepth place) refl refl own)) w
steady_function L (suc left) w =
    steady_body L (λ low w. steady_here λ place. steady_then (steady_at_most w.number L.max_total_prototypes (TotalPrototypes place) (tested (TotalPrototypes place) refl refl own)) λ _. steady_function L left w) w

-- ## Chunks
pub steady_main : {of : Which} {low : ℕ} (L : ResourceLimits) → Steady of low (main L)
steady_main L = steady_then steady_header λ headed. steady_then (steady_field 1 refl) λ forgotten. steady_then (steady_function L L.max_nesting_depth _) λ functions. steady_give _
