-- A fault of the file is not named as a limit's (01, 'Who can cause a refusal'): what is refused with 13 to 20 has a
-- front that is refused so already and that, under any limits that are as high, is read to its end, or
-- lacks bytes (1, 2), or meets a limit again; it is never refused for what stands in it (3 to 12; 31 to 33). With
-- Blame.antt: which limit it is. One law for each way to make a reader.
--     Mild o           of a front alone: read to its end, or refused by 1, 2 or 13 to 20
--     Plain r          r never refuses by 13 to 20;   Bare r   no bytes at all are mild;   Lacking r   no bytes at
--                      all are refused so
--     Cures r r'       what r, under lower limits, accepts, r' accepts alike; what r refuses by 13 to 20 has such a
--                      front
--     limits_only      the reader of a chunk
-- A wrong reader that passes the other laws and is refused by this one: Blaming.antt.
-- Assumes nothing.
use mathlib.Core.Path.{◌≡◌, refl, sym, ◌∙◌, ap, subst}
use mathlib.Core.Bool.{Bool, true, false, cond, ◌||◌, ◌&&◌}
use mathlib.Core.List.{List, [], ◌∷◌, ◌++◌, append_assoc}
use Prim.Native.Nat.{ℕ, zero, suc, ◌+◌, ◌-◌, ◌*◌, ◌%◌, ◌^◌, ◌≤◌}
use native.Mathlib.Omega.{arith}
use lib.Dec.{leb, ltb, eqb}
use lib.ListN.{length}
use borrow.Author.Tests.{leb-true, le-leb, lt-leb}
use Rattle.format.specs.declared.limits.ResourceLimits.{ResourceLimits}
use Rattle.format.specs.declared.refusal.Refusal.{Refusal}
use Rattle.format.specs.declared.refusal.Refusal.TheVariants as q
use Rattle.format.specs.Form.{Bytes, Form}
use Rattle.format.specs.Refusals.{reported}
use Rattle.format.specs.Reading.{Prototype}
use Rattle.format.specs.GrammarHeader.{signature, luac_data, luac_int, luac_num}
use Rattle.format.specs.GrammarChunk.{inherit, Where, after, within}
use Rattle.format.specs.Read.{Read, ok, refused, Reader, next, ◌>>=◌, give, here, refuse, test, at_most, piece, run, many}
use Rattle.format.specs.ReadFields.{field, byte, groups, number, content, string}
use Rattle.format.specs.ReadHeader.{same_bytes, expect, before_format, behind_format, header}
use Rattle.format.specs.ReadChunk.{counted, counted_up_to, always, constant, upvalue, anchor, local, forest, body, function, main}
use Rattle.format.proofs.Exact.{Exact, exact_place, exact_then, exact_at_most, exact_run, exact_many}
use Rattle.format.proofs.ExactFields.{exact_field, exact_number, exact_string}
use Rattle.format.proofs.ExactHeader.{exact_header}
use Rattle.format.proofs.ExactChunk.{exact_counted, exact_counted_up_to, exact_always, exact_constant, exact_upvalue, exact_anchor, exact_local, exact_forest, exact_function, exact_refuse}
use Rattle.demands.proofs.Early.{never, no, was}
use Rattle.demands.proofs.AtOneByte.{enter}
use Rattle.demands.proofs.Blame.{Raised}

-- 13 to 20
abbrev pub limited : Refusal → Bool
limited p = leb 13 (reported p).number && leb (reported p).number 20

-- 3 to 12, 31 to 33
abbrev pub faulty : Refusal → Bool
faulty p = leb 3 (reported p).number && (leb (reported p).number 12 || leb 31 (reported p).number)

abbrev pub NoFault : Refusal → Type 0
NoFault p = faulty p ≡ false

abbrev pub Mild : {A : Type 0} → Read A → Type 0
Mild (ok x to rest) = rest ≡ []
Mild (refused p) = NoFault p

pub record Cut {A : Type 0} (r r' : Reader A) (at : ℕ) (s : Bytes) (p : Refusal) : Type 0 where
  pub front : Bytes
  pub rest : Bytes
  pub whole : s ≡ front ++ rest
  pub same : r at front ≡ refused p
  pub mild : Mild (r' at front)

pub record Cures {A : Type 0} (r r' : Reader A) : Type 0 where
  pub accepts : (at : ℕ) (s : Bytes) (x : A) (to : ℕ) (rest : Bytes) → r at s ≡ ok x to rest → r' at s ≡ ok x to rest
  pub cured : (at : ℕ) (s : Bytes) (p : Refusal) → r at s ≡ refused p → limited p ≡ true → Cut r r' at s p

pub clash : {P : Type 0} {b : Bool} → b ≡ true → b ≡ false → P
clash e k = absurd (let t : ◌≡◌ {A = Bool} true false = sym e ∙ k in let z : ◌≡◌ {A = ℕ} 0 1 = cc in omega arith)

pub late : (p : Refusal) → limited p ≡ true → NoFault p
late p h = by (leb 13 n) (leb n 20) refl refl h
  where
    n : ℕ
    n = (reported p).number

    none : (b : Bool) → (b && false) ≡ false
    none true = refl
    none false = refl

    by : (a b : Bool) → leb 13 n ≡ a → leb n 20 ≡ b → (a && b) ≡ true → faulty p ≡ false
    by true true lo hi e = let above = leb-true 13 n lo in let below = leb-true n 20 hi in ap (λ x. leb 3 n && (x || leb 31 n)) (lt-leb n 12 (omega arith)) ∙ ap (λ x. leb 3 n && x) (lt-leb 31 n (omega arith)) ∙ none (leb 3 n)
    by true false lo hi e = clash e refl
    by false b lo hi e = clash e refl

-- ## Readers that meet no limit
pub record Plain {A : Type 0} (r : Reader A) : Type 0 where
  pub few : (at : ℕ) (s : Bytes) (p : Refusal) → r at s ≡ refused p → limited p ≡ false

pub few_is : {A : Type 0} {p p' : Refusal} → ◌≡◌ {A = Read A} (refused p) (refused p') → limited p ≡ false → limited p' ≡ false
few_is {A} {p} e h = let k : p ≡ _ = was e in subst (λ p. limited p ≡ false) k h

pub plain_give : {A : Type 0} (x : A) → Plain (give x)
plain_give x = record { few = λ at s p e. no e }

pub plain_refuse : {A : Type 0} (p : Refusal) → limited p ≡ false → Plain {A = A} (refuse p)
plain_refuse p h = record { few = λ at s p' e. few_is e h }

pub plain_here : {B : Type 0} {f : ℕ → Reader B} → ((place : ℕ) → Plain (f place)) → Plain (here >>= f)
plain_here two = record { few = λ at s p e. (two at).few at s p e }

pub plain_then : {A B : Type 0} {r : Reader A} {f : A → Reader B} → Plain r → ((x : A) → Plain (f x)) → Plain (r >>= f)
plain_then {A} {B} {r} {f} one two = record { few = λ at s p e. go at s p (r at s) refl e }
  where
    go : (at : ℕ) (s : Bytes) (p : Refusal) (o : Read A) → r at s ≡ o → next o f ≡ refused p → limited p ≡ false
    go at s p (ok x to rest) is e = (two x).few to rest p e
    go at s p (refused p') is e = few_is e (one.few at s p' is)

pub plain_test : (b : Bool) (p : Refusal) → limited p ≡ false → Plain (test b p)
plain_test true p h = plain_give tt
plain_test false p h = plain_refuse p h

pub short_few : (b : Bool) (at : ℕ) → limited (cond b (q.Truncated at) q.Overflow) ≡ false
short_few true at = refl
short_few false at = refl

pub plain_run : (n : ℕ) → Plain (run n)
plain_run n = record { few = λ at s p e. go at s p (leb n (length s)) e }
  where
    go : (at : ℕ) (s : Bytes) (p : Refusal) (b : Bool) → piece b n at s ≡ refused p → limited p ≡ false
    go at s p true e = no e
    go at s p false e = few_is e (short_few (ltb (at + n) (2 ^ 64)) at)

pub plain_field : (n : ℕ) → Plain (field n)
plain_field n = plain_then (plain_run n) λ bytes. plain_give _

pub groups_few : (high at : ℕ) (s : Bytes) (p : Refusal) → groups high at s ≡ refused p → limited p ≡ false
groups_few high at [] p e = few_is e (short_few (ltb (at + 1) (2 ^ 64)) at)
groups_few high at (x ∷ s) p e =
    go (λ e. groups_few (high * 128 + x) (at + 1) s p e) (ltb high (2 ^ 57 - 1)) (ltb x 128) e
  where
    go : (groups (high * 128 + x) (at + 1) s ≡ refused p → limited p ≡ false) → (fits low : Bool)
        → cond fits (cond low (groups (high * 128 + x) (at + 1) s) (ok (high * 128 + x % 128) (at + 1) s)) (refused q.VarintOverflow) ≡ refused p → limited p ≡ false
    go on true true e = on e
    go on true false e = no e
    go on false low e = few_is {p = q.VarintOverflow} e refl

pub plain_number : Plain number
plain_number = record { few = λ at s p e. groups_few 0 at s p e }

pub plain_many : {A : Type 0} {r : Reader A} (n : ℕ) → Plain r → Plain (many n r)
plain_many zero one = plain_give []
plain_many (suc n) one = plain_then one λ x. plain_then (plain_many n one) λ xs. plain_give _

pub plain_expect : (bytes : Bytes) (over : ℕ → Refusal) → ((place : ℕ) → limited (over place) ≡ false)
    → Plain (expect bytes over)
plain_expect bytes over h =
    plain_here λ place. plain_then (plain_run (length bytes)) λ b. plain_test (same_bytes b bytes) (over place) (h place)

pub plain_before : Plain before_format
plain_before =
    plain_then (plain_expect signature q.Signature λ place. refl) λ _. plain_expect (0x54 ∷ []) q.Version λ place. refl

pub plain_behind : Plain behind_format
plain_behind =
    plain_then (plain_expect luac_data q.LuacData λ place. refl) λ _.
    plain_then (plain_expect (4 ∷ []) q.InstructionSize λ place. refl) λ _.
    plain_then (plain_expect (8 ∷ []) q.LuaIntegerSize λ place. refl) λ _.
    plain_then (plain_expect (8 ∷ []) q.LuaNumberSize λ place. refl) λ _.
    plain_then (plain_expect luac_int q.LuacInt λ place. refl) λ _.
    plain_expect luac_num q.LuacNum λ place. refl

pub plain_header : Plain header
plain_header =
    plain_then plain_before λ _. plain_here λ place. plain_then (plain_field 1) λ format. plain_then plain_behind λ _. plain_give _

pub plain_upvalue : Plain upvalue
plain_upvalue =
    plain_then (plain_field 1) λ instack. plain_then (plain_field 1) λ idx. plain_then (plain_field 1) λ kind. plain_give _

pub plain_anchor : Plain anchor
plain_anchor = plain_then plain_number λ pc. plain_then plain_number λ line. plain_give _

pub plain_counted : {A : Type 0} {r : Reader A} → Plain r → Plain (counted r)
plain_counted one = plain_then plain_number λ n. plain_here λ place. plain_then (plain_many n one) λ items. plain_give _

-- ## No bytes at all
abbrev pub Stops : {A : Type 0} → Read A → Type 0
Stops (ok x to rest) = ⊥
Stops (refused p) = NoFault p

pub record Lacking {A : Type 0} (r : Reader A) : Type 0 where
  pub stops : (at : ℕ) → Stops (r at [])

pub record Bare {A : Type 0} (r : Reader A) : Type 0 where
  pub at_none : (at : ℕ) → Mild (r at [])

pub bare_stops : {A : Type 0} {r : Reader A} → Lacking r → Bare r
bare_stops {A} {r} one = record { at_none = λ at. go (r at []) (one.stops at) }
  where
    go : (o : Read A) → Stops o → Mild o
    go (ok x to rest) k = absurd k
    go (refused p) k = k

pub lacking_here : {B : Type 0} {f : ℕ → Reader B} → ((place : ℕ) → Lacking (f place)) → Lacking (here >>= f)
lacking_here two = record { stops = λ at. (two at).stops at }

pub lacking_then : {A B : Type 0} {r : Reader A} → Lacking r → (f : A → Reader B) → Lacking (r >>= f)
lacking_then {A} {B} {r} one f = record { stops = λ at. go (r at []) (one.stops at) }
  where
    go : (o : Read A) → Stops o → Stops (next o f)
    go (ok x to rest) k = absurd k
    go (refused p) k = k

pub short_mild : (b : Bool) (at : ℕ) → NoFault (cond b (q.Truncated at) q.Overflow)
short_mild true at = refl
short_mild false at = refl

pub lacking_number : Lacking number
lacking_number = record { stops = λ at. short_mild (ltb (at + 1) (2 ^ 64)) at }

pub lacking_run : (n : ℕ) → Lacking (run (suc n))
lacking_run n = record { stops = λ at. rw (lt-leb (suc n) 0 (omega arith)) (short_mild (ltb (at + suc n) (2 ^ 64)) at) }

pub lacking_byte : Lacking byte
lacking_byte = lacking_then (lacking_run 0) _

pub lacking_word : Lacking (field 4)
lacking_word = lacking_then (lacking_run 3) _

pub lacking_string : (limit : ℕ) → Lacking (string limit)
lacking_string limit = lacking_here λ first. lacking_then lacking_number _

pub lacking_constant : (limit : ℕ) → Lacking (constant limit)
lacking_constant limit = lacking_here λ place. lacking_then lacking_byte _

pub bare-give : {A : Type 0} (x : A) → Bare (give x)
bare-give x = record { at_none = λ at. refl }

pub bare-here : {B : Type 0} {f : ℕ → Reader B} → ((place : ℕ) → Bare (f place)) → Bare (here >>= f)
bare-here two = record { at_none = λ at. (two at).at_none at }

pub bare_then : {A B : Type 0} {r : Reader A} {f : A → Reader B} → Bare r → ((x : A) → Bare (f x)) → Bare (r >>= f)
bare_then {A} {B} {r} {f} one two = record { at_none = λ at. go (r at []) (one.at_none at) }
  where
    go : (o : Read A) → Mild o → Mild (next o f)
    go (ok x to rest) k = subst (λ (rest : Bytes). Mild (f x to rest)) (sym k) ((two x).at_none to)
    go (refused p) k = k

pub bare-test : (b : Bool) (p : Refusal) → limited p ≡ true → Bare (test b p)
bare-test true p h = bare-give tt
bare-test false p h = record { at_none = λ at. late p h }

pub bare-run : (n : ℕ) → Bare (run n)
bare-run zero = record { at_none = λ at. refl }
bare-run (suc n) = bare_stops (lacking_run n)

pub bare-many : {A : Type 0} {r : Reader A} (n : ℕ) → Lacking r → Bare (many n r)
bare-many zero one = bare-give []
bare-many (suc n) one = bare_stops (lacking_then one _)

pub bare-forest : (n : ℕ) {r : Where → Reader (List Prototype)} (w : Where) → ((w : Where) → Bare (r w))
    → Bare (forest n r w)
bare-forest zero w one = bare-give []
bare-forest (suc n) w one = bare_then (one w) λ ps. bare_then (bare-forest n (after ps w) one) λ more. bare-give _

module _ (M : ResourceLimits) where
  pub lacking_body : (r : Where → Reader (List Prototype)) (w : Where) → Lacking (body M r w)
  unfolding body
  lacking_body r w = lacking_here λ start. lacking_then (lacking_string M.max_string_bytes) _

  pub lacking_function : (left : ℕ) (w : Where) → Lacking (function M left w)
  unfolding function
  lacking_function zero w = lacking_body _ w
  lacking_function (suc left) w = lacking_body _ w

  pub bare_enter : (left : ℕ) (w : Where) → Bare (enter M left w)
  bare_enter zero w = record { at_none = λ at. refl }
  bare_enter (suc left) w = bare-here λ place. bare_then (bare-test (leb w.number M.max_total_prototypes) (q.TotalPrototypes place) refl) λ _. bare_stops (lacking_function left w)

-- ## Ways to make a reader
pub cures_plain : {A : Type 0} {r : Reader A} → Plain r → Cures r r
cures_plain one = record { accepts = λ at s x to rest e. e; cured = λ at s p e h. clash h (one.few at s p e) }

pub cures_here : {B : Type 0} {f f' : ℕ → Reader B} → ((place : ℕ) → Cures (f place) (f' place))
    → Cures (here >>= f) (here >>= f')
cures_here two = record {
  accepts = λ at s x to rest e. (two at).accepts at s x to rest e;
  cured =
      λ at s p e h. (let c = (two at).cured at s p e h in record { front = c.front; rest = c.rest; whole = c.whole; same = c.same; mild = c.mild });
}

pub cures_then : {A B : Type 0} {r r' : Reader A} {F : Form A} {f f' : A → Reader B} → Exact r F → Cures r r'
    → ((x : A) → Cures (f x) (f' x)) → ((x : A) → Bare (f' x)) → Cures (r >>= f) (r' >>= f')
cures_then {A} {B} {r} {r'} {F} {f} {f'} exact one two bare = record { accepts = λ at s x to rest e. on at s x to rest (r at s) refl e; cured = λ at s p e h. off at s p h (r at s) refl e }
  where
    on : (at : ℕ) (s : Bytes) (x : B) (to : ℕ) (rest : Bytes) (o : Read A) → r at s ≡ o → next o f ≡ ok x to rest
        → next (r' at s) f' ≡ ok x to rest
    on at s x to rest (ok y mid u) is e =
        ap (λ o. next o f') (one.accepts at s y mid u is) ∙ (two y).accepts mid u x to rest e
    on at s x to rest (refused p) is e = never e

    behind : (o : Read A) → Mild o → Mild (next o f')
    behind (ok y mid v) k = subst (λ (v : Bytes). Mild (f' y mid v)) (sym k) ((bare y).at_none mid)
    behind (refused p) k = k

    off : (at : ℕ) (s : Bytes) (p : Refusal) → limited p ≡ true → (o : Read A) → r at s ≡ o → next o f ≡ refused p
        → Cut (r >>= f) (r' >>= f') at s p
    off at s p h (ok y mid u) is e =
        let a = exact.sound is in
        let c = (two y).cured mid u p e h in
        let there : r at (a.bytes ++ c.front) ≡ ok y mid c.front = exact.complete c.front a.spelt ∙ ap (λ m. ok y m c.front) (sym a.place) in
        let there' = one.accepts at (a.bytes ++ c.front) y mid c.front there in
        record {
          front = a.bytes ++ c.front;
          rest = c.rest;
          whole = a.whole ∙ ap (λ b. a.bytes ++ b) c.whole ∙ sym (append_assoc a.bytes c.front c.rest);
          same = ap (λ o. next o f) there ∙ c.same;
          mild = subst (λ (o : Read A). Mild (next o f')) (sym there') c.mild;
        }
    off at s p h (refused p') is e =
        let k : p' ≡ p = was e in
        let c = one.cured at s p' is (subst (λ p. limited p ≡ true) (sym k) h) in
        record {
          front =
              c.front;
          rest = c.rest;
          whole = c.whole;
          same = ap (λ o. next o f) c.same ∙ ap refused k;
          mild = behind (r' at c.front) c.mild;
        }

-- behind a reader that meets no limit
pub cures_plainly : {A B : Type 0} {r : Reader A} {F : Form A} {f f' : A → Reader B} → Exact r F → Plain r
    → ((x : A) → Cures (f x) (f' x)) → Cures (r >>= f) (r >>= f')
cures_plainly {A} {B} {r} {F} {f} {f'} exact one two = record { accepts = λ at s x to rest e. on at s x to rest (r at s) refl e; cured = λ at s p e h. off at s p h (r at s) refl e }
  where
    on : (at : ℕ) (s : Bytes) (x : B) (to : ℕ) (rest : Bytes) (o : Read A) → r at s ≡ o → next o f ≡ ok x to rest
        → next (r at s) f' ≡ ok x to rest
    on at s x to rest (ok y mid u) is e = ap (λ o. next o f') is ∙ (two y).accepts mid u x to rest e
    on at s x to rest (refused p) is e = never e

    off : (at : ℕ) (s : Bytes) (p : Refusal) → limited p ≡ true → (o : Read A) → r at s ≡ o → next o f ≡ refused p
        → Cut (r >>= f) (r >>= f') at s p
    off at s p h (ok y mid u) is e =
        let a = exact.sound is in
        let c = (two y).cured mid u p e h in
        let there : r at (a.bytes ++ c.front) ≡ ok y mid c.front = exact.complete c.front a.spelt ∙ ap (λ m. ok y m c.front) (sym a.place) in
        record {
          front = a.bytes ++ c.front;
          rest = c.rest;
          whole = a.whole ∙ ap (λ b. a.bytes ++ b) c.whole ∙ sym (append_assoc a.bytes c.front c.rest);
          same = ap (λ o. next o f) there ∙ c.same;
          mild = subst (λ (o : Read A). Mild (next o f')) (sym there) c.mild;
        }
    off at s p h (refused p') is e = clash h (subst (λ p. limited p ≡ false) (was e) (one.few at s p' is))

pub cures_pick : {A : Type 0} {r r' s s' : Reader A} (b : Bool) → Cures r r' → Cures s s'
    → Cures (cond b r s) (cond b r' s')
cures_pick true one two = one
cures_pick false one two = two

pub cures_at_most : (n m m' : ℕ) (p : Refusal) → m ≤ m' → limited p ≡ true → Cures (at_most n m p) (at_most n m' p)
cures_at_most n m m' p low high = record { accepts = λ at s x to rest e. on at s x to rest (leb n m) refl e; cured = λ at s p' e h. off at s p' (leb n m) refl e }
  where
    on : (at : ℕ) (s : Bytes) (x : Unit {0}) (to : ℕ) (rest : Bytes) (b : Bool) → leb n m ≡ b
        → test b p at s ≡ ok x to rest → at_most n m' p at s ≡ ok x to rest
    on at s x to rest true t e = let h = leb-true n m t in ap (λ b. test b p at s) (le-leb n m' (omega arith)) ∙ e
    on at s x to rest false t e = never e

    off : (at : ℕ) (s : Bytes) (p' : Refusal) (b : Bool) → leb n m ≡ b → test b p at s ≡ refused p'
        → Cut (at_most n m p) (at_most n m' p) at s p'
    off at s p' true t e = absurd (let z : ◌≡◌ {A = ℕ} 0 1 = cc in omega arith)
    off at s p' false t e = record { front = []; rest = s; whole = refl; same = ap (λ b. test b p at []) t ∙ ap refused (was e); mild = (bare-test (leb n m') p high).at_none at }

pub cures_many : {A : Type 0} {r r' : Reader A} {F : Form A} (n : ℕ) → Exact r F → Cures r r' → Lacking r'
    → Cures (many n r) (many n r')
cures_many zero exact one lacks = cures_plain (plain_give [])
cures_many (suc n) exact one lacks =
    cures_then exact one
    (λ x. cures_then (exact_many n exact) (cures_many n exact one lacks) (λ xs. cures_plain (plain_give _)) (λ xs. bare-give _))
    (λ x. bare_then (bare-many n lacks) λ xs. bare-give _)

module _ (L M : ResourceLimits) (wide : Raised L M) where
  abbrev l : ℕ
  l = L.max_string_bytes

  abbrev m : ℕ
  m = M.max_string_bytes

  -- ## Strings, lists and entries
  pub cures_string : Cures (string l) (string m)
  cures_string = cures_here λ first. cures_plainly exact_number plain_number λ size. by first size
    where
      by : (first size : ℕ) → Cures (content l first size) (content m first size)
      by first zero = cures_plain (plain_give _)
      by first (suc n) =
          cures_then (exact_at_most n l (q.StringBytes first)) (cures_at_most n l m (q.StringBytes first) wide.strings refl)
          (λ _. cures_plain (plain_here λ place. plain_then (plain_run n) λ bytes. plain_give _)) (λ _. bare-here λ place. bare_then (bare-run n) λ bytes. bare-give _)

  pub cures_always : (instead : Bytes) → Cures (always l instead) (always m instead)
  cures_always instead =
      cures_then (exact_string l) cures_string (λ t. cures_plain (plain_here λ place. plain_give _)) (λ t. bare-here λ place. bare-give _)

  pub cures_constant : Cures (constant l) (constant m)
  cures_constant = cures_here λ place. cures_plainly (exact_field 1) (plain_field 1) λ tag.
      cures_pick (eqb tag 0) (cures_plain (plain_give _))
      (cures_pick (eqb tag 1) (cures_plain (plain_give _))
      (cures_pick (eqb tag 17) (cures_plain (plain_give _))
      (cures_pick (eqb tag 3) (cures_plain (plain_then (plain_field 8) λ n. plain_give _))
      (cures_pick (eqb tag 19) (cures_plain (plain_then (plain_field 8) λ n. plain_give _))
      (cures_pick (eqb tag 4) (cures_then (exact_always l []) (cures_always []) (λ t. cures_plain (plain_give _)) (λ t. bare-give _))
      (cures_pick (eqb tag 20) (cures_then (exact_always l []) (cures_always []) (λ t. cures_plain (plain_give _)) (λ t. bare-give _)) (cures_plain (plain_refuse (q.ConstantTag place) refl))))))))

  pub cures_local : Cures (local l) (local m)
  cures_local = cures_then (exact_always l (63 ∷ [])) (cures_always (63 ∷ [])) (λ name. cures_plain (plain_then plain_number λ startpc. plain_then plain_number λ endpc. plain_give _)) (λ name. bare_stops (lacking_then lacking_number _))

  pub lacking_local : Lacking (local m)
  lacking_local = lacking_then (lacking_then (lacking_string m) _) _

  pub cures_counted : {A : Type 0} {r r' : Reader A} {F : Form A} → Exact r F → Cures r r' → Lacking r'
      → Cures (counted r) (counted r')
  cures_counted exact one lacks = cures_plainly exact_number plain_number λ n. cures_here λ place. cures_then (exact_many n exact) (cures_many n exact one lacks) (λ items. cures_plain (plain_give _)) (λ items. bare-give _)

  pub cures_counted_up_to : {A : Type 0} {r r' : Reader A} {F : Form A} (low high : ℕ) (over : ℕ → Refusal) → low ≤ high
      → ((first : ℕ) → limited (over first) ≡ true) → Exact r F → Cures r r' → Lacking r'
      → Cures (counted_up_to low over r) (counted_up_to high over r')
  cures_counted_up_to low high over le h exact one lacks =
      cures_here λ first. cures_plainly exact_number plain_number λ n.
      cures_then (exact_at_most n low (over first)) (cures_at_most n low high (over first) le (h first))
      (λ _. cures_here λ place. cures_then (exact_many n exact) (cures_many n exact one lacks) (λ items. cures_plain (plain_give _)) (λ items. bare-give _))
      (λ _. bare-here λ place. bare_then (bare-many n lacks) λ items. bare-give _)

  -- ## Functions
  pub cures_forest : (n : ℕ) {r r' : Where → Reader (List Prototype)} {F : Where → Form (List Prototype)} (w : Where)
      → ((w : Where) → Exact (r w) (F w)) → ((w : Where) → Cures (r w) (r' w)) → ((w : Where) → Bare (r' w))
      → Cures (forest n r w) (forest n r' w)
  cures_forest zero w exact one bare = cures_plain (plain_give [])
  cures_forest (suc n) w exact one bare =
      cures_then (exact w) (one w)
      (λ ps. cures_then (exact_forest n (after ps w) exact) (cures_forest n (after ps w) exact one bare) (λ more. cures_plain (plain_give _)) (λ more. bare-give _))
      (λ ps. bare_then (bare-forest n (after ps w) bare) λ more. bare-give _)

  pub cures_body : {r r' : Where → Reader (List Prototype)} {F : Where → Form (List Prototype)}
      → ((w : Where) → Exact (r w) (F w)) → ((w : Where) → Cures (r w) (r' w)) → ((w : Where) → Bare (r' w))
      → (w : Where) → Cures (body L r w) (body M r' w)
  unfolding body
  cures_body exact one bare w =
      cures_here λ start.
      cures_then (exact_string l) cures_string (λ spelt.
      cures_plainly exact_number plain_number λ line_defined.
      cures_plainly exact_number plain_number λ last_line_defined.
      cures_plainly (exact_field 1) (plain_field 1) λ numparams.
      cures_plainly (exact_field 1) (plain_field 1) λ is_vararg.
      cures_plainly (exact_field 1) (plain_field 1) λ maxstacksize.
      cures_here λ first.
      cures_plainly exact_number plain_number λ size.
      cures_then (exact_at_most size L.max_instructions_per_proto (q.Instructions first)) (cures_at_most size L.max_instructions_per_proto M.max_instructions_per_proto (q.Instructions first) wide.instructions refl) (λ _.
      cures_then (exact_at_most (w.instructions + size) L.max_total_instructions (q.TotalInstructions first)) (cures_at_most (w.instructions + size) L.max_total_instructions M.max_total_instructions (q.TotalInstructions first) wide.all_instructions refl) (λ _.
      cures_here λ instructions_at.
      cures_plainly (exact_many size (exact_field 4)) (plain_many size (plain_field 4)) λ instructions.
      cures_then (exact_counted_up_to L.max_constants_per_proto q.Constants (exact_constant l)) (cures_counted_up_to L.max_constants_per_proto M.max_constants_per_proto q.Constants wide.constants (λ first. refl) (exact_constant l) cures_constant (lacking_constant m)) (λ constants.
      cures_then (exact_counted_up_to L.max_upvalues_per_proto q.Upvalues exact_upvalue) (cures_counted_up_to L.max_upvalues_per_proto M.max_upvalues_per_proto q.Upvalues wide.upvalues (λ first. refl) exact_upvalue (cures_plain plain_upvalue) (lacking_then lacking_byte _)) (λ upvalues.
      cures_here λ first.
      cures_plainly exact_number plain_number λ protos.
      cures_then (exact_at_most protos L.max_total_prototypes (q.Prototypes first)) (cures_at_most protos L.max_total_prototypes M.max_total_prototypes (q.Prototypes first) wide.functions refl) (λ _.
      cures_here λ protos-at.
      cures_then (exact_forest protos (within w (inherit spelt w.source) (length instructions)) exact) (cures_forest protos (within w (inherit spelt w.source) (length instructions)) exact one bare) (λ nested.
      cures_plainly exact_number plain_number λ line-info-size.
      cures_here λ line-info-at.
      cures_plainly (exact_run line-info-size) (plain_run line-info-size) λ line_info_lem.
      cures_plainly (exact_counted exact_anchor) (plain_counted plain_anchor) λ abs_line_info.
      cures_then (exact_counted (exact_local l)) (cures_counted (exact_local l) cures_local lacking_local) (λ loc_vars.
      cures_then (exact_counted (exact_string l)) (cures_counted (exact_string l) cures_string (lacking_string m)) (λ upvalue_names_lem.
      cures_here λ end.
      cures_plain (plain_give _))
      (λ upvalue_names_lem. bare-here λ end. bare-give _))
      (λ loc_vars. bare_stops (lacking_then (lacking_then lacking_number _) _)))
      (λ nested. bare_stops (lacking_then lacking_number _)))
      (λ _. bare-here λ protos-at. bare_then (bare-forest protos (within w (inherit spelt w.source) (length instructions)) bare) λ nested. bare_stops (lacking_then lacking_number _)))
      (λ upvalues. bare-here λ first. bare_stops (lacking_then lacking_number _)))
      (λ constants. bare_stops (lacking_then (lacking_here λ first. lacking_then lacking_number _) _)))
      (λ _. bare-here λ instructions_at. bare_then (bare-many size lacking_word) λ instructions. bare_stops (lacking_then (lacking_here λ first. lacking_then lacking_number _) _)))
      (λ _. bare_then (bare-test (leb (w.instructions + size) M.max_total_instructions) (q.TotalInstructions first) refl) λ _. bare-here λ instructions_at. bare_then (bare-many size lacking_word) λ instructions. bare_stops (lacking_then (lacking_here λ first. lacking_then lacking_number _) _)))
      (λ spelt. bare_stops (lacking_then lacking_number _))

  -- where a nested function begins: none may, under the lower limit
  pub deeper : (left' : ℕ) (w : Where) → Cures (enter L zero w) (enter M (suc left') w)
  deeper left' w = record {
    accepts = λ at s x to rest e. never {p = q.NestingDepth at} e;
    cured =
        λ at s p e h. record { front = []; rest = s; whole = refl; same = e; mild = (bare_enter M (suc left') w).at_none at };
  }

  pub deepest : (w : Where) → Cures (enter L zero w) (enter M zero w)
  deepest w = record {
    accepts = λ at s x to rest e. never {p = q.NestingDepth at} e;
    cured =
        λ at s p e h. record { front = []; rest = s; whole = refl; same = e; mild = (bare_enter M zero w).at_none at };
  }

  pub entered : (left left' : ℕ) (w : Where) → Cures (function L left w) (function M left' w)
      → Cures (enter L (suc left) w) (enter M (suc left') w)
  entered left left' w one =
      cures_here λ place.
      cures_then (exact_at_most w.number L.max_total_prototypes (q.TotalPrototypes place)) (cures_at_most w.number L.max_total_prototypes M.max_total_prototypes (q.TotalPrototypes place) wide.functions refl)
      (λ _. one) (λ _. bare_stops (lacking_function M left' w))

  pub cures_function : (left left' : ℕ) (w : Where) → left ≤ left' → Cures (function L left w) (function M left' w)
  unfolding function
  cures_function zero zero w low =
      cures_body {r = enter L zero} {r' = enter M zero} (λ w. exact_place λ place. exact_refuse _) deepest (bare_enter M zero) w
  cures_function zero (suc left') w low =
      cures_body {r = enter L zero} {r' = enter M (suc left')} (λ w. exact_place λ place. exact_refuse _) (deeper left') (bare_enter M (suc left')) w
  cures_function (suc left) zero w low = absurd (omega arith)
  cures_function (suc left) (suc left') w low =
      cures_body {r = enter L (suc left)} {r' = enter M (suc left')}
      (λ w. exact_place λ place. exact_then (exact_at_most w.number L.max_total_prototypes (q.TotalPrototypes place)) λ _. exact_function L left w)
      (λ w. entered left left' w (cures_function left left' w (omega arith))) (bare_enter M (suc left')) w

  -- ## Chunks
  pub limits_only : Cures (main L) (main M)
  limits_only =
      cures_plainly exact_header plain_header λ headed.
      cures_plainly (exact_field 1) (plain_field 1) λ forgotten.
      cures_then (exact_function L L.max_nesting_depth _) (cures_function L.max_nesting_depth M.max_nesting_depth _ wide.nesting) (λ functions. cures_plain (plain_give _)) (λ functions. bare-give _)
