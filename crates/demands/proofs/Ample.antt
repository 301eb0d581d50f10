-- Each refusal with 13 to 20 is a limit's: under limits that are ample for a file of so many bytes no such file is
-- refused so, whatever stands in it. So no reader that reports one of them for a fault of the file, whatever the limits
-- are, is ours (19 behind an unknown tag): Blame.antt and Fault.antt let it pass.
--     Ample n L            limits that no file of n bytes can pass: a number is below 2^64, and a file has no more
--                          functions, levels and instructions than bytes
--     unlimited            the reader of a chunk; strict_unlimited: the stricter one
--     not-behind_tag       a reader that names an unknown tag so is refused by this law; without_limits: and not by the
--                          other two
-- By one law for each way to make a reader: `Free n P r Q`, that from a place of which P holds, in a file of n bytes, r
-- is never refused so, and that Q holds of what it gives and of the place behind.
-- Assumes nothing.
use mathlib.Core.Path.{◌≡◌, refl, sym, ◌∙◌, ap, subst}
use mathlib.Core.Bool.{Bool, true, false, cond}
use mathlib.Core.List.{List, [], ◌∷◌, ◌++◌, append-nil}
use mathlib.Core.Option.{Option, none, some}
use Prim.Native.Nat.{ℕ, zero, suc, ◌+◌, ◌-◌, ◌^◌, ◌≤◌, ◌<◌}
use native.Mathlib.Omega.{arith}
use lib.Dec.{leb, ltb, eqb}
use lib.ListN.{length, length-append}
use borrow.Author.Tests.{le-leb}
use Rattle.format.specs.declared.limits.ResourceLimits.{ResourceLimits}
use Rattle.format.specs.declared.refusal.Refusal.{Refusal}
use Rattle.format.specs.declared.refusal.Refusal.TheVariants as q
use Rattle.format.specs.declared.entry.AbsLineInfo.{AbsLineInfo}
use Rattle.format.specs.Form.{Bytes, Form}
use Rattle.format.specs.GrammarFields.{LuaString, little}
use Rattle.format.specs.Reading.{ConstantValue, LocalVar, Prototype}
use Rattle.format.specs.GrammarChunk.{Listed, inherit, instructions_of, Where, after, within, outermost}
use Rattle.format.specs.Read.{Read, ok, refused, Reader, next, ◌>>=◌, give, here, refuse, test, at_most, piece, many}
use Rattle.format.specs.ReadFields.{field, byte, number, content, string}
use Rattle.format.specs.ReadChunk.{always, constant, anchor, local, forest, body, function, main}
use Rattle.format_strict.specs.ReadStrict.{int, there, present, strict_constant, strict_anchor, strict_local, strict_body, strict_function, strict_header, strict_main}
use Rattle.format.proofs.Exact.{Exact, exact_run, exact_many}
use Rattle.format.proofs.ExactFields.{exact_field, exact_number}
use Rattle.format.proofs.ExactHeader.{exact_header}
use Rattle.format.proofs.ExactChunk.{exact_upvalue}
use Rattle.format_strict.proofs.ExactStrict.{exact_strict_header}
use Rattle.demands.proofs.Early.{never, no}
use Rattle.demands.proofs.AtOneByte.{enter}
use Rattle.demands.proofs.Blame.{Stays, same}
use Rattle.demands.proofs.Fault.{limited, Mild, Cures, late, clash, few_is, Plain, plain_give, plain_then, plain_run, plain_field, plain_number, plain_many, plain_expect, plain_before, plain_behind, plain_header, plain_upvalue}
use Rattle.demands.proofs.StrictBlame.{strict_enter}
use Rattle.demands.proofs.Bodies.{body_by}

pub record Ample (n : ℕ) (L : ResourceLimits) : Type 0 where
  pub strings : 2 ^ 64 ≤ L.max_string_bytes
  pub instructions : 2 ^ 64 ≤ L.max_instructions_per_proto
  pub all_instructions : 2 ^ 64 + n ≤ L.max_total_instructions
  pub constants : 2 ^ 64 ≤ L.max_constants_per_proto
  pub upvalues : 2 ^ 64 ≤ L.max_upvalues_per_proto
  pub functions : 2 ^ 64 + n ≤ L.max_total_prototypes
  pub nesting : n < L.max_nesting_depth

-- ## A wrong reader
-- of one that knows no limits Blame.antt and Fault.antt say nothing, whatever it reports
pub without_limits : (L M : ResourceLimits) {A : Type 0} (r : Reader A) → Stays L M r r × Cures r r
without_limits L M r = (same L M r, record { accepts = λ at s x to rest e. e; cured = λ at s p e h. record { front = s; rest = []; whole = sym (append-nil s); same = e; mild = subst Mild (sym e) (late p h) } })

-- an unknown tag is named as a function that is too deep, at the place behind it
abbrev pub behind_tag : Reader ℕ
behind_tag = byte >>= λ tag. here >>= λ place. cond (eqb tag 0) (give tag) (refuse (q.NestingDepth place))

pub not-behind_tag : ((s : Bytes) (p : Refusal) → behind_tag 0 s ≡ refused p → limited p ≡ false) → ⊥
not-behind_tag law = clash {b = limited (q.NestingDepth 1)} refl (law (0xff ∷ []) (q.NestingDepth 1) refl)

-- ## Numbers, by themselves
below : (v w l : ℕ) → v < w → w ≤ l → v ≤ l
below v w l a b = omega arith

below_more : (v w l n : ℕ) → v < w → w + n ≤ l → v ≤ l
below_more v w l n a b = omega arith

sum_below : (a v w l n at : ℕ) → a ≤ at → at ≤ n → v < w → w + n ≤ l → a + v ≤ l
sum_below a v w l n at h k i j = omega arith

place-below : (a w l n at : ℕ) → a ≤ at → at ≤ n → w + n ≤ l → a ≤ l
place-below a w l n at h k j = omega arith

word_fits : (v w : ℕ) → v < w - 128 → v < w
word_fits v w h = omega arith

instructions-append : (ps more : List Prototype) → instructions_of (ps ++ more) ≡ instructions_of ps + instructions_of more
instructions-append [] more = omega arith
instructions-append (p ∷ ps) more = let h = instructions-append ps more in omega arith

abbrev Up : (ℕ → Type 0) → Type 0
Up P = (a b : ℕ) → a ≤ b → P a → P b

abbrev Past : (ℕ → Type 0) → (ℕ → Type 0) → Type 0
Past P Q = (a b : ℕ) → a < b → P a → Q b

on_up : {P : ℕ → Type 0} → Up P → Past P P
on_up up a b l h = up a b (omega arith) h

module _ (n : ℕ) where
  record Free {A : Type 0} (P : ℕ → Type 0) (r : Reader A) (Q : A → ℕ → Type 0) : Type 0 where
    few : (at : ℕ) (s : Bytes) (p : Refusal) → P at → at + length s ≤ n → r at s ≡ refused p → limited p ≡ false
    goes : (at : ℕ) (s : Bytes) (x : A) (to : ℕ) (rest : Bytes) → P at → at + length s ≤ n → r at s ≡ ok x to rest
        → Q x to × (to + length rest ≤ n)

  -- ## Ways to make a reader
  free_then : {A B : Type 0} {P : ℕ → Type 0} {Q : A → ℕ → Type 0} {R : B → ℕ → Type 0} {r : Reader A} {f : A → Reader B} → Free P r Q → ((x : A) → Free (Q x) (f x) R) → Free P (r >>= f) R
  free_then {A} {B} {P} {Q} {R} {r} {f} one two = record { few = λ at s p h k e. off at s p h k (r at s) refl e; goes = λ at s y to rest h k e. on at s y to rest h k (r at s) refl e }
    where
      off : (at : ℕ) (s : Bytes) (p : Refusal) → P at → at + length s ≤ n → (o : Read A) → r at s ≡ o
          → next o f ≡ refused p → limited p ≡ false
      off at s p h k (ok x mid u) is e = let g = one.goes at s x mid u h k is in (two x).few mid u p g.0 g.1 e
      off at s p h k (refused p') is e = few_is e (one.few at s p' h k is)

      on : (at : ℕ) (s : Bytes) (y : B) (to : ℕ) (rest : Bytes) → P at → at + length s ≤ n → (o : Read A) → r at s ≡ o
          → next o f ≡ ok y to rest → R y to × (to + length rest ≤ n)
      on at s y to rest h k (ok x mid u) is e =
          let g = one.goes at s x mid u h k is in (two x).goes mid u y to rest g.0 g.1 e
      on at s y to rest h k (refused p) is e = never e

  free_here : {B : Type 0} {P : ℕ → Type 0} {Q : B → ℕ → Type 0} {f : ℕ → Reader B}
      → ((place : ℕ) → Free P (f place) Q) → Free P (here >>= f) Q
  free_here two = record { few = λ at s p h k e. (two at).few at s p h k e; goes = λ at s x to rest h k e. (two at).goes at s x to rest h k e }

  free_pre : {A : Type 0} {P P' : ℕ → Type 0} {Q : A → ℕ → Type 0} {r : Reader A} → ((at : ℕ) → P' at → P at)
      → Free P r Q → Free P' r Q
  free_pre pre one = record { few = λ at s p h k e. one.few at s p (pre at h) k e; goes = λ at s x to rest h k e. one.goes at s x to rest (pre at h) k e }

  free_give : {A : Type 0} {P : ℕ → Type 0} {Q : A → ℕ → Type 0} (x : A) → ((at : ℕ) → P at → Q x at)
      → Free P (give x) Q
  free_give x keep = record {
    few = λ at s p h k e. no e;
    goes = λ at s y to rest h k e.
        let a : x ≡ y = cc in
        let b : at ≡ to = cc in
        let c : s ≡ rest = cc in
        (rw (← a, ← b) (keep at h), rw (← b, ← c) k);
  }

  free_test : {P : ℕ → Type 0} (b : Bool) (p : Refusal) → ((at : ℕ) → at ≤ n → P at → b ≡ true)
      → Free P (test b p) (λ _ at. P at)
  free_test {P} b p pass = record { few = λ at s p' h k e. off at s p' h k b refl e; goes = λ at s x to rest h k e. on at s x to rest h k b refl e }
    where
      off : (at : ℕ) (s : Bytes) (p' : Refusal) → P at → at + length s ≤ n → (t : Bool) → b ≡ t
          → test t p at s ≡ refused p' → limited p' ≡ false
      off at s p' h k true is e = no e
      off at s p' h k false is e = clash (pass at (omega (arith, k)) h) is

      on : (at : ℕ) (s : Bytes) (x : Unit {0}) (to : ℕ) (rest : Bytes) → P at → at + length s ≤ n → (t : Bool) → b ≡ t
          → test t p at s ≡ ok x to rest → P to × (to + length rest ≤ n)
      on at s x to rest h k true is e =
          let a : at ≡ to = cc in
          let c : s ≡ rest = cc in
          (rw (← a) h, rw (← a, ← c) k)
      on at s x to rest h k false is e = never e

  free_pick : {A : Type 0} {P : ℕ → Type 0} {Q : A → ℕ → Type 0} {r s : Reader A} (b : Bool) → Free P r Q → Free P s Q
      → Free P (cond b r s) Q
  free_pick true one two = one
  free_pick false one two = two

  -- one that meets no limit
  free_on : {A : Type 0} {P : ℕ → Type 0} {r : Reader A} {F : Form A} → Exact r F → Plain r → Up P
      → Free P r (λ _ at. P at)
  free_on exact plain up = record {
    few = λ at s p h k e. plain.few at s p e;
    goes = λ at s x to rest h k e.
        let c = exact.sound {at = at} {s = s} e in
        (up at to (omega (arith, c.place)) h, omega (arith, k, c.place, ap length c.whole, length-append c.bytes rest));
  }

  free_many : {A : Type 0} {P : ℕ → Type 0} {r : Reader A} (k : ℕ) → Free P r (λ _ at. P at)
      → Free P (many k r) (λ _ at. P at)
  free_many zero one = free_give [] λ at h. h
  free_many (suc k) one = free_then one λ x. free_then (free_many k one) λ xs. free_give _ λ at h. h

  -- ## Numbers: below 2^64, and at least a byte
  abbrev Counts : Reader ℕ → Type 1
  Counts num = (P P' : ℕ → Type 0) → Past P P' → Free P num (λ v at. (v < 2 ^ 64) × P' at)

  free_number : Counts number
  free_number P P' past = record {
    few = λ at s p h k e. plain_number.few at s p e;
    goes = λ at s v to rest h k e.
        let c = exact_number.sound {at = at} {s = s} e in
        let d = c.spelt in
        let long = ap length d.whole ∙ length-append d.more (d.last ∷ []) in
        ((word_fits v (2 ^ 64) d.fits, past at to (omega (arith, c.place, long)) h), omega (arith, k, c.place, ap length c.whole, length-append c.bytes rest));
  }

  free_known : {A : Type 0} {F : Type 0} {P : ℕ → Type 0} {r : Reader A} {Q : A → ℕ → Type 0} → (F → Free P r Q)
      → Free (λ at. F × P at) r Q
  free_known two = record { few = λ at s p h k e. (two h.0).few at s p h.1 k e; goes = λ at s x to rest h k e. (two h.0).goes at s x to rest h.1 k e }

  then_num : {B : Type 0} {P P' : ℕ → Type 0} {Q : B → ℕ → Type 0} {num : Reader ℕ} {f : ℕ → Reader B} → Counts num
      → Past P P' → ((v : ℕ) → v < 2 ^ 64 → Free P' (f v) Q) → Free P (num >>= f) Q
  then_num {B} {P} {P'} counts past two = free_then (counts P P' past) λ v. free_known (two v)

  -- ## Strings
  free_string : (limit : ℕ) → 2 ^ 64 ≤ limit → {P P' : ℕ → Type 0} → Past P P' → Up P'
      → Free P (string limit) (λ _ at. P' at)
  free_string limit big {P} {P'} past up = free_here λ first. then_num free_number past λ size fits. by first size fits
    where
      by : (first size : ℕ) → size < 2 ^ 64 → Free P' (content limit first size) (λ _ at. P' at)
      by first zero fits = free_give _ λ at h. h
      by first (suc m) fits =
          free_then (free_test (leb m limit) (q.StringBytes first) λ at k h. le-leb m limit (below m (2 ^ 64) limit (omega arith) big)) λ _.
          free_here λ place. free_then (free_on (exact_run m) (plain_run m) up) λ bytes. free_give _ λ at h. h

  free_always : (limit : ℕ) (instead : Bytes) → 2 ^ 64 ≤ limit → {P : ℕ → Type 0} → Up P
      → Free P (always limit instead) (λ _ at. P at)
  free_always limit instead big up =
      free_then (free_string limit big (on_up up) up) λ t. free_here λ place. free_give _ λ at h. h

  -- ## Entries and lists, by how a number and a string constant are read
  module _ {P : ℕ → Type 0} (up : Up P) where
    free_byte : Free P byte (λ _ at. P at)
    free_byte = free_on (exact_field 1) (plain_field 1) up

    free_eight : Free P (field 8) (λ _ at. P at)
    free_eight = free_on (exact_field 8) (plain_field 8) up

    free_tagged : {S A : Type 0} (r : Reader S) → Free P r (λ _ at. P at)
        → (place tag : ℕ) (a b c : A) (d e : ℕ → A) (f g : S → A) → Free P
        (cond (eqb tag 0) (give a) (cond (eqb tag 1) (give b) (cond (eqb tag 17) (give c)
        (cond (eqb tag 3) (field 8 >>= λ n. give (d n)) (cond (eqb tag 19) (field 8 >>= λ n. give (e n))
        (cond (eqb tag 4) (r >>= λ t. give (f t)) (cond (eqb tag 20) (r >>= λ t. give (g t)) (refuse (q.ConstantTag place))))))))) (λ _ at. P at)
    free_tagged r one place tag a b c d e f g =
        free_pick (eqb tag 0) (free_give _ λ at h. h)
        (free_pick (eqb tag 1) (free_give _ λ at h. h)
        (free_pick (eqb tag 17) (free_give _ λ at h. h)
        (free_pick (eqb tag 3) (free_then free_eight λ n. free_give _ λ at h. h)
        (free_pick (eqb tag 19) (free_then free_eight λ n. free_give _ λ at h. h)
        (free_pick (eqb tag 4) (free_then one λ t. free_give _ λ at h. h)
        (free_pick (eqb tag 20) (free_then one λ t. free_give _ λ at h. h) refuses))))))
      where
        refuses : {A : Type 0} → Free P (refuse {A = A} (q.ConstantTag place)) (λ _ at. P at)
        refuses = record { few = λ at s p h k x. few_is x refl; goes = λ at s x to rest h k e. never e }

    module _ (num : Reader ℕ) (counts : Counts num) where
      free_listed : {A : Type 0} {r : Reader A} → Free P r (λ _ at. P at) → Free P (num >>= λ k. here >>= λ place. many k r >>= λ items. give {A = Listed A} (record { place = place; items = items })) (λ _ at. P at)
      free_listed one =
          then_num counts (on_up up) λ k fits. free_here λ place. free_then (free_many k one) λ items. free_give _ λ at h. h

      free_listed_up_to : {A : Type 0} {r : Reader A} (most : ℕ) (over : ℕ → Refusal) → 2 ^ 64 ≤ most
          → Free P r (λ _ at. P at)
          → Free P (here >>= λ first. num >>= λ k. at_most k most (over first) >>= λ _. here >>= λ place. many k r >>= λ items. give {A = Listed A} (record { place = place; items = items })) (λ _ at. P at)
      free_listed_up_to most over big one =
          free_here λ first. then_num counts (on_up up) λ k fits.
          free_then (free_test (leb k most) (over first) λ at l h. le-leb k most (below k (2 ^ 64) most fits big)) λ _.
          free_here λ place. free_then (free_many k one) λ items. free_give _ λ at h. h

  -- ## Words
  field_end : (at : ℕ) (s : Bytes) (x mid : ℕ) (u : Bytes) → field 4 at s ≡ ok x mid u → mid ≡ at + 4
  field_end at s x mid u e = go (leb 4 (length s)) e
    where
      go : (b : Bool) → next (piece b 4 at s) (λ bytes. give (little bytes)) ≡ ok x mid u → mid ≡ at + 4
      go true e = let is : at + 4 ≡ mid = cc in sym is
      go false e = never e

  abbrev EndsAfter : ℕ → Type 0
  EndsAfter k =
      (mid : ℕ) (u : Bytes) (ys : List ℕ) (to : ℕ) (v : Bytes) → many k (field 4) mid u ≡ ok ys to v → mid + length ys ≤ to

  words_end : (k at : ℕ) (s : Bytes) (xs : List ℕ) (to : ℕ) (rest : Bytes) → many k (field 4) at s ≡ ok xs to rest
      → at + length xs ≤ to
  words_end zero at s xs to rest e = let a : [] ≡ xs = cc in let b : at ≡ to = cc in rw (← a, ← b) (omega arith)
  words_end (suc k) at s xs to rest e = go (λ mid u ys to' v is. words_end k mid u ys to' v is) (field 4 at s) refl e
    where
      end : EndsAfter k → (x mid : ℕ) (u : Bytes) → at + 4 ≡ mid → (o : Read (List ℕ)) → many k (field 4) mid u ≡ o
          → next o (λ ys. give (x ∷ ys)) ≡ ok xs to rest → at + length xs ≤ to
      end more x mid u from (ok ys to' v) is e =
          let a : x ∷ ys ≡ xs = cc in
          let b : to' ≡ to = cc in
          let h = more mid u ys to' v is in
          rw (← a, ← b) (omega (arith, h, from))
      end more x mid u from (refused p) is e = never e

      go : EndsAfter k → (o : Read ℕ) → field 4 at s ≡ o
          → next o (λ x. many k (field 4) >>= λ ys. give (x ∷ ys)) ≡ ok xs to rest → at + length xs ≤ to
      go more (ok x mid u) is e = end more x mid u (sym (field_end at s x mid u is)) (many k (field 4) mid u) refl e
      go more (refused p) is e = never e

  -- ## Functions
  -- no more functions and instructions are read than bytes, and levels are left for as many as are
  abbrev Start : Where → ℕ → ℕ → Type 0
  Start w left at = (w.number ≤ at) × (w.instructions ≤ at) × (n < left + at)

  start_up : (w : Where) (left : ℕ) → Up (Start w left)
  start_up w left a b l h = (omega (arith, l, h.0), omega (arith, l, h.1), omega (arith, l, h.2))

  -- behind its source: a function is begun
  abbrev Begun : Where → ℕ → ℕ → Type 0
  Begun w left at = (w.number + 1 ≤ at) × (w.instructions ≤ at) × (n < left + at)

  begun_up : (w : Where) (left : ℕ) → Up (Begun w left)
  begun_up w left a b l h = (omega (arith, l, h.0), omega (arith, l, h.1), omega (arith, l, h.2))

  begins : (w : Where) (left : ℕ) → Past (Start w (suc left)) (Begun w left)
  begins w left a b l h = (omega (arith, l, h.0), omega (arith, l, h.1), omega (arith, l, h.2))

  -- behind its words
  abbrev Worded : Where → ℕ → List ℕ → ℕ → Type 0
  Worded w left xs at = (w.number + 1 ≤ at) × (w.instructions + length xs ≤ at) × (n < left + at)

  free_words : (w : Where) (left size : ℕ) → Free (Begun w left) (many size (field 4)) (Worded w left)
  free_words w left size = record {
    few = λ at s p h k e. (plain_many size (plain_field 4)).few at s p e;
    goes = λ at s xs to rest h k e.
        let c = (exact_many size (exact_field 4)).sound {at = at} {s = s} e in
        let d = words_end size at s xs to rest e in
        ((omega (arith, h.0, d), omega (arith, h.1, d), omega (arith, h.2, d)), omega (arith, k, c.place, ap length c.whole, length-append c.bytes rest));
  }

  free_forest : (left k : ℕ) {r : Where → Reader (List Prototype)} (w : Where)
      → ((w : Where) → Free (Start w left) (r w) (λ ps at. Start (after ps w) left at))
      → Free (Start w left) (forest k r w) (λ ps at. Start (after ps w) left at)
  free_forest left zero w one = free_give [] λ at h. (omega (arith, h.0), omega (arith, h.1), h.2)
  free_forest left (suc k) w one =
      free_then (one w) λ ps. free_then (free_forest left k (after ps w) one) λ more.
      free_give _ λ at h. (omega (arith, h.0, length-append ps more), omega (arith, h.1, instructions-append ps more), h.2)

  module _ (L : ResourceLimits) (ample : Ample n L) where
    abbrev limit : ℕ
    limit = L.max_string_bytes

    module _ (num : Reader ℕ) (counts : Counts num) (con : Reader ConstantValue) (anc : Reader AbsLineInfo) (loc : Reader LocalVar)
        (free-con : (P : ℕ → Type 0) → Up P → Free P con (λ _ at. P at)) (free-anc : (P : ℕ → Type 0) → Up P → Free P anc (λ _ at. P at)) (free-loc : (P : ℕ → Type 0) → Up P → Free P loc (λ _ at. P at)) where
      free_body : (left : ℕ) {r : Where → Reader (List Prototype)}
          → ((w : Where) → Free (Start w left) (r w) (λ ps at. Start (after ps w) left at)) → (w : Where)
          → Free (Start w (suc left)) (body_by num con anc loc L r w) (λ ps at. Start (after ps w) (suc left) at)
      free_body left {r} one w =
          free_here λ start.
          free_then (free_string limit ample.strings (begins w left) (begun_up w left)) λ spelt.
          then_num counts (on_up (begun_up w left)) λ line_defined _.
          then_num counts (on_up (begun_up w left)) λ last_line_defined _.
          free_then (free_byte (begun_up w left)) λ numparams.
          free_then (free_byte (begun_up w left)) λ is_vararg.
          free_then (free_byte (begun_up w left)) λ maxstacksize.
          free_here λ first.
          then_num counts (on_up (begun_up w left)) λ size fits.
          free_then (free_test (leb size L.max_instructions_per_proto) (q.Instructions first) λ at k h. le-leb size L.max_instructions_per_proto (below size (2 ^ 64) L.max_instructions_per_proto fits ample.instructions)) λ _.
          free_then (free_test (leb (w.instructions + size) L.max_total_instructions) (q.TotalInstructions first) λ at k h. le-leb (w.instructions + size) L.max_total_instructions (sum_below w.instructions size (2 ^ 64) L.max_total_instructions n at h.1 k fits ample.all_instructions)) λ _.
          free_here λ instructions_at.
          free_then (free_words w left size) λ instructions.
          let up = start_up (within w (inherit spelt w.source) (length instructions)) left in
          free_then (free_listed_up_to up num counts L.max_constants_per_proto q.Constants ample.constants (free-con _ up)) λ constants.
          free_then (free_listed_up_to up num counts L.max_upvalues_per_proto q.Upvalues ample.upvalues (free_on exact_upvalue plain_upvalue up)) λ upvalues.
          free_here λ first.
          then_num counts (on_up up) λ protos fits.
          free_then (free_test (leb protos L.max_total_prototypes) (q.Prototypes first) λ at k h. le-leb protos L.max_total_prototypes (below_more protos (2 ^ 64) L.max_total_prototypes n fits ample.functions)) λ _.
          free_here λ protos-at.
          free_then (free_forest left protos (within w (inherit spelt w.source) (length instructions)) one) λ nested.
          let up = start_up (after nested (within w (inherit spelt w.source) (length instructions))) left in
          then_num counts (on_up up) λ line-info-size _.
          free_here λ line-info-at.
          free_then (free_on (exact_run line-info-size) (plain_run line-info-size) up) λ line_info_lem.
          free_then (free_listed up num counts (free-anc _ up)) λ abs_line_info.
          free_then (free_listed up num counts (free-loc _ up)) λ loc_vars.
          free_then (free_listed up num counts (free_string limit ample.strings (on_up up) up)) λ upvalue_names_lem.
          free_here λ end.
          free_give _ λ at h. (omega (arith, h.0), omega (arith, h.1), omega (arith, h.2))

    -- where a nested function begins, and behind that
    entered : (left : ℕ) (w : Where) {r : Reader (List Prototype)}
        → Free (Start w left) r (λ ps at. Start (after ps w) left at)
        → Free (Start w left) (here >>= λ place. at_most w.number L.max_total_prototypes (q.TotalPrototypes place) >>= λ _. r) (λ ps at. Start (after ps w) left at)
    entered left w one =
        free_here λ place.
        free_then (free_test (leb w.number L.max_total_prototypes) (q.TotalPrototypes place) λ at k h. le-leb w.number L.max_total_prototypes (place-below w.number (2 ^ 64) L.max_total_prototypes n at h.0 k ample.functions)) λ _.
        one

    -- no level is left only where no byte is
    none_left : {A : Type 0} {r : Reader A} {Q : A → ℕ → Type 0} (w : Where) → Free (Start w zero) r Q
    none_left w = record { few = λ at s p h k e. absurd (omega (arith, h.2, k)); goes = λ at s x to rest h k e. absurd (omega (arith, h.2, k)) }

    -- ## The ordinary reading
    free_constant : (P : ℕ → Type 0) → Up P → Free P (constant limit) (λ _ at. P at)
    free_constant P up =
        free_here λ place. free_then (free_byte up) λ tag. free_tagged up (always limit []) (free_always limit [] ample.strings up) place tag _ _ _ _ _ _ _

    free_anchor : (P : ℕ → Type 0) → Up P → Free P anchor (λ _ at. P at)
    free_anchor P up =
        then_num free_number (on_up up) λ pc _. then_num free_number (on_up up) λ line _. free_give _ λ at h. h

    free_local : (P : ℕ → Type 0) → Up P → Free P (local limit) (λ _ at. P at)
    free_local P up = free_then (free_always limit (63 ∷ []) ample.strings up) λ name. then_num free_number (on_up up) λ startpc _. then_num free_number (on_up up) λ endpc _. free_give _ λ at h. h

    free_function : (left : ℕ) (w : Where)
        → Free (Start w left) (function L left w) (λ ps at. Start (after ps w) left at)
    unfolding function body
    free_function zero w = none_left w
    free_function (suc left) w = free_body number free_number (constant limit) anchor (local limit) free_constant free_anchor free_local left {r = enter L (suc left)} (λ w. entered left w (free_function left w)) w

    -- ## The stricter reading
    free_bound : {P : ℕ → Type 0} (v m first : ℕ) → Free P (test (ltb v m) (q.IntOverflow first)) (λ _ at. P at)
    free_bound {P} v m first = record { few = λ at s p h k e. off at s p (ltb v m) e; goes = λ at s x to rest h k e. on at s x to rest h k (ltb v m) e }
      where
        off : (at : ℕ) (s : Bytes) (p : Refusal) (t : Bool) → test t (q.IntOverflow first) at s ≡ refused p
            → limited p ≡ false
        off at s p true e = no e
        off at s p false e = few_is {p = q.IntOverflow first} e refl

        on : (at : ℕ) (s : Bytes) (x : Unit {0}) (to : ℕ) (rest : Bytes) → P at → at + length s ≤ n → (t : Bool)
            → test t (q.IntOverflow first) at s ≡ ok x to rest → P to × (to + length rest ≤ n)
        on at s x to rest h k true e = let a : at ≡ to = cc in let c : s ≡ rest = cc in (rw (← a) h, rw (← a, ← c) k)
        on at s x to rest h k false e = never e

    free_int : Counts int
    free_int P P' past =
        free_here λ first. then_num free_number past λ v fits. free_then (free_bound v (2 ^ 31 - 128) first) λ _. free_give v λ at h. (fits, h)

    free_present : {P : ℕ → Type 0} → Up P → Free P (present limit) (λ _ at. P at)
    free_present {P} up =
        free_here λ first. free_then (free_string limit ample.strings (on_up up) up) λ t. by first t
      where
        by : (first : ℕ) (t : Option LuaString) → Free P (there first t) (λ _ at. P at)
        by first none = record { few = λ at s p h k e. few_is {p = q.NullString first} e refl; goes = λ at s x to rest h k e. never e }
        by first (some t) = free_give _ λ at h. h

    free_strict_constant : (P : ℕ → Type 0) → Up P → Free P (strict_constant limit) (λ _ at. P at)
    free_strict_constant P up =
        free_here λ place. free_then (free_byte up) λ tag. free_tagged up (present limit) (free_present up) place tag _ _ _ _ _ _ _

    free_strict_anchor : (P : ℕ → Type 0) → Up P → Free P strict_anchor (λ _ at. P at)
    free_strict_anchor P up =
        then_num free_int (on_up up) λ pc _. then_num free_int (on_up up) λ line _. free_give _ λ at h. h

    free_strict_local : (P : ℕ → Type 0) → Up P → Free P (strict_local limit) (λ _ at. P at)
    free_strict_local P up = free_then (free_always limit (63 ∷ []) ample.strings up) λ name. then_num free_int (on_up up) λ startpc _. then_num free_int (on_up up) λ endpc _. free_give _ λ at h. h

    free_strict_function : (left : ℕ) (w : Where)
        → Free (Start w left) (strict_function L left w) (λ ps at. Start (after ps w) left at)
    unfolding strict_function strict_body
    free_strict_function zero w = none_left w
    free_strict_function (suc left) w = free_body int free_int (strict_constant limit) strict_anchor (strict_local limit) free_strict_constant free_strict_anchor free_strict_local left {r = strict_enter L (suc left)} (λ w. entered left w (free_strict_function left w)) w

    -- ## Chunks
    plain_strict_header : Plain strict_header
    plain_strict_header =
        plain_then plain_before λ _. plain_then (plain_expect (0 ∷ []) q.Format λ place. refl) λ _. plain_then plain_behind λ _. plain_give _

    abbrev Any : ℕ → Type 0
    Any at = Unit {0}

    outside : (at : ℕ) → Any at → Start outermost L.max_nesting_depth at
    outside at h = (omega arith, omega arith, omega (arith, ample.nesting))

    free_main : Free Any (main L) (λ _ at. Any at)
    free_main =
        free_then (free_on exact_header plain_header λ a b l h. tt) λ headed. free_then (free_byte λ a b l h. tt) λ forgotten.
        free_then (free_pre outside (free_function L.max_nesting_depth outermost)) λ functions. free_give _ λ at h. tt

    free_strict_main : Free Any (strict_main L) (λ _ at. Any at)
    free_strict_main =
        free_then (free_on exact_strict_header plain_strict_header λ a b l h. tt) λ headed. free_then (free_byte λ a b l h. tt) λ forgotten.
        free_then (free_pre outside (free_strict_function L.max_nesting_depth outermost)) λ functions. free_give _ λ at h. tt

module _ (L : ResourceLimits) (s : Bytes) (ample : Ample (length s) L) (p : Refusal) where
  pub unlimited : main L 0 s ≡ refused p → limited p ≡ false
  unlimited e = (free_main (length s) L ample).few 0 s p tt (omega arith) e

  pub strict_unlimited : strict_main L 0 s ≡ refused p → limited p ≡ false
  strict_unlimited e = (free_strict_main (length s) L ample).few 0 s p tt (omega arith) e
