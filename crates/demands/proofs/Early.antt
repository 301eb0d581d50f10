-- A refusal is decided by the bytes up to the end of its cause (Causes.antt): one law for each way to make a reader.
--     Early of L r     where r refuses, it refuses the same at the front that ends with the cause, `of` the ordinary or the stricter reading, under the limits L
-- Assumes nothing.
use mathlib.Core.Path.{◌≡◌, refl, sym, ◌∙◌, ap, subst}
use mathlib.Core.Bool.{Bool, true, false, cond}
use mathlib.Core.List.{List, [], ◌∷◌, ◌++◌, append_assoc, append-nil}
use Prim.Native.Nat.{ℕ, zero, suc, ◌+◌, ◌-◌, ◌*◌, ◌%◌, ◌<◌, ◌^◌}
use native.Mathlib.Omega.{arith}
use native.Mathlib.Nat.{add-zero}
use lib.Dec.{T, leb, ltb, eqb}
use lib.ListN.{length, length-append}
use borrow.Author.Tests.{ltb-true, ltb-false, leb-true, leb-false, eqb-false}
use Rattle.format.specs.declared.limits.ResourceLimits.{ResourceLimits}
use Rattle.format.specs.declared.refusal.Refusal.{Refusal}
use Rattle.format.specs.declared.refusal.Refusal.TheVariants as q
use Rattle.format.specs.Form.{Bytes, Below, Form, Run}
use Rattle.format.specs.GrammarFields.{base128, little, Number, Field}
use Rattle.format.specs.Reading.{Prototype}
use Rattle.format.specs.GrammarHeader.{signature, luac_data, luac_int, luac_num}
use Rattle.format.specs.GrammarChunk.{Where, after}
use Rattle.format.specs.Read.{Read, ok, refused, Reader, next, ◌>>=◌, give, here, refuse, test, at_most, piece, run, many}
use Rattle.format.specs.ReadFields.{field, groups, number, content, string}
use Rattle.format.specs.ReadHeader.{same_bytes, expect, before_format, behind_format, header}
use Rattle.format.specs.ReadChunk.{counted, counted_up_to, always, tagged, constant, upvalue, anchor, local, forest, body, function, main}
use Rattle.format.proofs.Exact.{Exact, Split, exact_place, exact_then, exact_at_most, exact_run, exact_many}
use Rattle.format.proofs.ExactFields.{exact_field, exact_number, exact_string}
use Rattle.format.proofs.ExactHeader.{same_refl, exact_expect, exact_before, exact_behind, exact_header}
use Rattle.format.proofs.ExactChunk.{exact_counted, exact_counted_up_to, exact_always, exact_constant, exact_upvalue, exact_anchor, exact_local, exact_forest, exact_function, exact_refuse}
use Rattle.demands.proofs.Causes.{Which, ordinary, stricter, Cause, unlike, no_tag, above, between, up_to, enters, too_large_lem, missing, too_many_lem, cause_by, NoTag, LastNumber, TooLarge, Ends}

-- a refusal is no acceptance, and two that are one have one reason
pub never : {A P : Type 0} {x : A} {to : ℕ} {rest : Bytes} {p : Refusal} → refused p ≡ ok x to rest → P
never e = absurd (let z : ◌≡◌ {A = ℕ} 0 1 = cc in omega arith)

pub no : {A P : Type 0} {x : A} {to : ℕ} {rest : Bytes} {p : Refusal} → ok x to rest ≡ refused p → P
no e = absurd (let z : ◌≡◌ {A = ℕ} 0 1 = cc in omega arith)

pub was : {A : Type 0} {p p' : Refusal} → ◌≡◌ {A = Read A} (refused p) (refused p') → p ≡ p'
was e = cc

-- ## Behind bytes
ahead : (at : ℕ) (bytes before rest : Bytes) {mid place : ℕ} {front : Bytes} → mid ≡ at + length bytes → front ≡ before ++ rest → place ≡ mid + length before
    → (bytes ++ front ≡ (bytes ++ before) ++ rest) × (place ≡ at + length (bytes ++ before))
ahead at bytes before rest e whole begins = (ap (λ f. bytes ++ f) whole ∙ sym (append_assoc bytes before rest), begins ∙ (let l = length-append bytes before in omega arith))

number_behind : {So : ℕ → Type 0} (place at : ℕ) (bytes front : Bytes) {mid : ℕ} → mid ≡ at + length bytes → LastNumber So place mid front → LastNumber So place at (bytes ++ front)
number_behind place at bytes front e h =
    let k = ahead at bytes h.before h.spelling e h.whole h.begins in
    record { before = bytes ++ h.before; spelling = h.spelling; value = h.value; whole = k.0; begins = k.1; is = h.is; so = h.so }

ends_behind : (c : Cause) (at : ℕ) (bytes front : Bytes) {mid : ℕ} → mid ≡ at + length bytes → Ends c mid front → Ends c at (bytes ++ front)
ends_behind (unlike place these) at bytes front e h =
    let k = ahead at bytes h.before h.others e h.whole h.begins in
    record { before = bytes ++ h.before; others = h.others; whole = k.0; begins = k.1; long = h.long; differs = h.differs }
ends_behind (no_tag place) at bytes front e h =
    let k = ahead at bytes h.before (h.tag ∷ []) e h.whole h.begins in
    record { before = bytes ++ h.before; tag = h.tag; whole = k.0; begins = k.1; unknown = h.unknown }
ends_behind (above place limit) at bytes front e h = number_behind place at bytes front e h
ends_behind (between place limit top) at bytes front e h = number_behind place at bytes front e h
ends_behind (up_to place limit) at bytes front e h = number_behind place at bytes front e h
ends_behind (enters place) at bytes front e h = h ∙ (let l = length-append bytes front in omega arith)
ends_behind too_large_lem at bytes front e h = record {
  before = bytes ++ h.before;
  digits = h.digits;
  digit = h.digit;
  seen = h.seen;
  whole = ap (λ f. bytes ++ f) h.whole ∙ sym (append_assoc bytes h.before (h.digits ++ h.digit ∷ h.seen ∷ []));
  small = h.small;
  less = h.less;
  enough = h.enough;
}
ends_behind missing at bytes front e h = tt

-- ## Under given limits
module _ (of : Which) (L : ResourceLimits) where
  pub record Cut {A : Type 0} (r : Reader A) (at : ℕ) (s : Bytes) (p : Refusal) : Type 0 where
    pub front : Bytes
    pub rest : Bytes
    pub whole : s ≡ front ++ rest
    pub same : r at front ≡ refused p
    pub ends : Ends (cause_by of L p) at front

  pub record Early {A : Type 0} (r : Reader A) : Type 0 where
    pub cut : (at : ℕ) (s : Bytes) (p : Refusal) → r at s ≡ refused p → Cut r at s p

  -- behind an item: refused at once, for a cause that ends with it; or early
  pub data Late {B : Type 0} (Now : Refusal → Type 0) (g : Reader B) (at : ℕ) (s : Bytes) (p : Refusal) : Type 0 where
    now : Now p → g at [] ≡ refused p → Late Now g at s p
    later : Cut g at s p → Late Now g at s p

  pub record Soon {B : Type 0} (Now : Refusal → Type 0) (g : Reader B) : Type 0 where
    pub late : (at : ℕ) (s : Bytes) (p : Refusal) → g at s ≡ refused p → Late Now g at s p

  -- a number, behind digits ds
  data Stop (ds front : Bytes) (p : Refusal) : Type 0 where
    lacking : cause_by of L p ≡ missing → Stop ds front p
    large : cause_by of L p ≡ too_large_lem → TooLarge (ds ++ front) → Stop ds front p

  record NumberCut (ds : List ℕ) (at : ℕ) (s : Bytes) (p : Refusal) : Type 0 where
    front : Bytes
    rest : Bytes
    whole : s ≡ front ++ rest
    same : groups (base128 0 ds) at front ≡ refused p
    stop : Stop ds front p

-- ## Numbers and bytes
-- where bytes are missing
short_none : (of : Which) (L : ResourceLimits) (b : Bool) (at : ℕ) → cause_by of L (cond b (q.Truncated at) q.Overflow) ≡ missing
short_none of L true at = refl
short_none of L false at = refl

base128-more : (high : ℕ) (ds : List ℕ) (x : ℕ) → base128 high (ds ++ x ∷ []) ≡ base128 high ds * 128 + x
base128-more high [] x = refl
base128-more high (d ∷ ds) x = base128-more (high * 128 + d) ds x

below_more : (n : ℕ) (ds : List ℕ) (x : ℕ) → Below n ds → x < n → Below n (ds ++ x ∷ [])
below_more n [] x small h = (h, tt)
below_more n (d ∷ ds) x small h = (small.0, below_more n ds x small.1 h)

-- one more digit: the digits so far spell little enough, and this byte is below 128
module _ (ds : List ℕ) (at x : ℕ) (small : Below 128 ds) (fits : ltb (base128 0 ds) (2 ^ 57 - 1) ≡ true) (low : ltb x 128 ≡ true) where
  on : (t : Bytes) → groups (base128 0 ds) at (x ∷ t) ≡ groups (base128 0 (ds ++ x ∷ [])) (at + 1) t
  on t = rw (fits, low, base128-more 0 ds x)

  small-on : Below 128 (ds ++ x ∷ [])
  small-on = below_more 128 ds x small (ltb-true x 128 low)

-- a number, just read
pub read_number : {So : ℕ → Type 0} (first n : ℕ) (bytes : Bytes) → Number first bytes n → So n → LastNumber So first first (bytes ++ [])
read_number first n bytes d h = record { before = []; spelling = bytes; value = n; whole = append-nil bytes; begins = sym (add-zero first); is = d; so = h }

-- a count that is above its limit, and in the stricter reading is an int
abbrev pub Counts : Which → ℕ → Type 0
Counts ordinary n = Unit {0}
Counts stricter n = n < 2 ^ 31 - 128

pub too_many : (of : Which) (first n limit : ℕ) (bytes : Bytes) → Number first bytes n → Counts of n → limit < n → Ends (too_many_lem of first limit) first (bytes ++ [])
too_many ordinary first n limit bytes d fits h = read_number first n bytes d h
too_many stricter first n limit bytes d fits h = read_number first n bytes d (h, fits)

-- one byte
one_byte : (value : Bytes) → length value ≡ 1 → value ≡ little value ∷ []
one_byte [] l = absurd (omega arith)
one_byte (x ∷ []) l = rw add-zero
one_byte (x ∷ y ∷ value) l = absurd (omega arith)

pub read_byte : (at : ℕ) (bytes : Bytes) (x : ℕ) → Field 1 at bytes x → bytes ++ [] ≡ x ∷ []
read_byte at bytes x d = by d.front d.back d.value d.whole d.one d.two
  where
    by : (front back value : Bytes) → bytes ≡ front ++ back → Run 1 at front value → (back ≡ []) × (little value ≡ x) → bytes ++ [] ≡ x ∷ []
    by front back value whole one two = append-nil bytes ∙ whole ∙ ap (λ b. front ++ b) two.0 ∙ append-nil front ∙ one.0 ∙ one_byte value (ap length (sym one.0) ∙ one.1) ∙ ap (λ v. v ∷ []) two.1

pub no_tag_lem : (place tag : ℕ) (bytes : Bytes) → Field 1 place bytes tag → eqb tag 0 ≡ false → eqb tag 1 ≡ false → eqb tag 17 ≡ false → eqb tag 3 ≡ false → eqb tag 19 ≡ false → eqb tag 4 ≡ false → eqb tag 20 ≡ false
    → NoTag place place (bytes ++ [])
no_tag_lem place tag bytes d k0 k1 k17 k3 k19 k4 k20 = record {
  before = [];
  tag = tag;
  whole = read_byte place bytes tag d;
  begins = sym (add-zero place);
  unknown = (eqb-false tag 0 k0, (eqb-false tag 1 k1, (eqb-false tag 17 k17, (eqb-false tag 3 k3, (eqb-false tag 19 k19, (eqb-false tag 4 k4, (eqb-false tag 20 k20, tt)))))));
}

-- ## One law for each way to make a reader
module _ {of : Which} {L : ResourceLimits} where
  -- the whole, where bytes are missing
  all_of : {A : Type 0} {r : Reader A} (at : ℕ) (s : Bytes) (p : Refusal) → cause_by of L p ≡ missing → r at s ≡ refused p → Cut of L r at s p
  all_of at s p c e = record { front = s; rest = []; whole = sym (append-nil s); same = e; ends = rw c tt }

  pub early_give : {A : Type 0} (x : A) → Early of L (give x)
  early_give x = record { cut = λ at s p e. no e }

  pub early_here : {B : Type 0} {f : ℕ → Reader B} → ((place : ℕ) → Early of L (f place)) → Early of L (here >>= f)
  early_here two = record { cut = λ at s p e. let c = (two at).cut at s p e in record { front = c.front; rest = c.rest; whole = c.whole; same = c.same; ends = c.ends } }

  pub early_then : {A B : Type 0} {r : Reader A} {F : Form A} {f : A → Reader B} → Exact r F → Early of L r → ((x : A) → Early of L (f x)) → Early of L (r >>= f)
  early_then {A} {B} {r} {F} {f} exact one two = record { cut = λ at s p e. go at s p (r at s) refl e }
    where
      go : (at : ℕ) (s : Bytes) (p : Refusal) (o : Read A) → r at s ≡ o → next o f ≡ refused p → Cut of L (r >>= f) at s p
      go at s p (ok x mid t) is e =
          let a = exact.sound is in
          let c = (two x).cut mid t p e in
          let on : r at (a.bytes ++ c.front) ≡ ok x mid c.front = exact.complete c.front a.spelt ∙ ap (λ k. ok x k c.front) (sym a.place) in
          record {
            front = a.bytes ++ c.front;
            rest = c.rest;
            whole = a.whole ∙ ap (λ t. a.bytes ++ t) c.whole ∙ sym (append_assoc a.bytes c.front c.rest);
            same = ap (λ o. next o f) on ∙ c.same;
            ends = ends_behind (cause_by of L p) at a.bytes c.front a.place c.ends;
          }
      go at s p (refused p') is e =
          let same : p' ≡ p = was e in
          let c = one.cut at s p (is ∙ ap refused same) in
          record { front = c.front; rest = c.rest; whole = c.whole; same = ap (λ o. next o f) c.same; ends = c.ends }

  pub early_pick : {A : Type 0} {r s : Reader A} (b : Bool) → Early of L r → Early of L s → Early of L (cond b r s)
  early_pick true one two = one
  early_pick false one two = two

  pub early_run : (n : ℕ) → Early of L (run n)
  early_run n = record { cut = λ at s p e. go at s p (leb n (length s)) refl e }
    where
      go : (at : ℕ) (s : Bytes) (p : Refusal) (b : Bool) → leb n (length s) ≡ b → piece b n at s ≡ refused p → Cut of L (run n) at s p
      go at s p true is e = no e
      go at s p false is e = all_of at s p (ap (cause_by of L) (sym (was e)) ∙ short_none of L (ltb (at + n) (2 ^ 64)) at) (ap (λ b. piece b n at s) is ∙ e)

  pub early_many : {A : Type 0} {r : Reader A} {F : Form A} (n : ℕ) → Exact r F → Early of L r → Early of L (many n r)
  early_many zero exact one = early_give []
  early_many (suc n) exact one = early_then exact one λ x. early_then (exact_many n exact) (early_many n exact one) λ xs. early_give _

  pub early_field : (n : ℕ) → Early of L (field n)
  early_field n = early_then (exact_run n) (early_run n) λ bytes. early_give _

  -- ## A number: bytes are missing, or it is too large, which the byte behind its digits shows
  stop_on : (ds : List ℕ) (x : ℕ) (front : Bytes) (p : Refusal) → Stop of L (ds ++ x ∷ []) front p → Stop of L ds (x ∷ front) p
  stop_on ds x front p (lacking k) = lacking k
  stop_on ds x front p (large k l) = large k (rw append_assoc at l)

  module _ (ds : List ℕ) (at x : ℕ) (small : Below 128 ds) (fits : ltb (base128 0 ds) (2 ^ 57 - 1) ≡ true) (low : ltb x 128 ≡ true) where
    step : (s : Bytes) (p : Refusal) → NumberCut of L (ds ++ x ∷ []) (at + 1) s p → NumberCut of L ds at (x ∷ s) p
    step s p c = record { front = x ∷ c.front; rest = c.rest; whole = ap (λ t. x ∷ t) c.whole; same = on ds at x small fits low c.front ∙ c.same; stop = stop_on ds x c.front p c.stop }

    -- the digits with x spell too much: that is seen at the next byte, if there is one
    full : ltb (base128 0 (ds ++ x ∷ [])) (2 ^ 57 - 1) ≡ false → (s : Bytes) (p : Refusal) → groups (base128 0 (ds ++ x ∷ [])) (at + 1) s ≡ refused p → NumberCut of L ds at (x ∷ s) p
    full much [] p e = record { front = x ∷ []; rest = []; whole = refl; same = on ds at x small fits low [] ∙ e; stop = lacking (ap (cause_by of L) (sym (was e)) ∙ short_none of L (ltb (at + 1 + 1) (2 ^ 64)) (at + 1)) }
    full much (y ∷ t) p e =
        let is : q.VarintOverflow ≡ p = was (sym (ap (λ b. cond b (cond (ltb y 128) (groups (base128 0 (ds ++ x ∷ []) * 128 + y) (at + 1 + 1) t) (ok (base128 0 (ds ++ x ∷ []) * 128 + y % 128) (at + 1 + 1) t)) (refused q.VarintOverflow)) much) ∙ e) in
        record {
          front = x ∷ y ∷ [];
          rest = t;
          whole = refl;
          same = on ds at x small fits low (y ∷ []) ∙ (rw much (ap refused is));
          stop = large (ap (cause_by of L) (sym is)) (record {
            before = [];
            digits = ds;
            digit = x;
            seen = y;
            whole = refl;
            small = small-on ds at x small fits low;
            less = ltb-true (base128 0 ds) (2 ^ 57 - 1) fits;
            enough = ltb-false (base128 0 (ds ++ x ∷ [])) (2 ^ 57 - 1) much;
          });
        }

  next_digit : (s : Bytes) (ds : List ℕ) (at x : ℕ) (p : Refusal) → Below 128 ds → ltb (base128 0 ds) (2 ^ 57 - 1) ≡ true → groups (base128 0 ds) at (x ∷ s) ≡ refused p
      → ((ds : List ℕ) (at : ℕ) → Below 128 ds → ltb (base128 0 ds) (2 ^ 57 - 1) ≡ true → groups (base128 0 ds) at s ≡ refused p → NumberCut of L ds at s p)
      → NumberCut of L ds at (x ∷ s) p
  next_digit s ds at x p small fits e rest = by (ltb x 128) refl
    where
      size : ltb x 128 ≡ true → (b : Bool) → ltb (base128 0 (ds ++ x ∷ [])) (2 ^ 57 - 1) ≡ b → groups (base128 0 (ds ++ x ∷ [])) (at + 1) s ≡ refused p → NumberCut of L ds at (x ∷ s) p
      size low true k e' = step ds at x small fits low s p (rest (ds ++ x ∷ []) (at + 1) (small-on ds at x small fits low) k e')
      size low false k e' = full ds at x small fits low k s p e'

      by : (low : Bool) → ltb x 128 ≡ low → NumberCut of L ds at (x ∷ s) p
      by true low = size low (ltb (base128 0 (ds ++ x ∷ [])) (2 ^ 57 - 1)) refl (sym (on ds at x small fits low s) ∙ e)
      by false low = no (rw (fits, low) at e)

  number_cut : (s : Bytes) (ds : List ℕ) (at : ℕ) (p : Refusal) → Below 128 ds → ltb (base128 0 ds) (2 ^ 57 - 1) ≡ true → groups (base128 0 ds) at s ≡ refused p → NumberCut of L ds at s p
  number_cut [] ds at p small fits e = record { front = []; rest = []; whole = refl; same = e; stop = lacking (ap (cause_by of L) (sym (was e)) ∙ short_none of L (ltb (at + 1) (2 ^ 64)) at) }
  number_cut (x ∷ s) ds at p small fits e = next_digit s ds at x p small fits e (λ ds at small fits e. number_cut s ds at p small fits e)

  pub early_number : Early of L number
  early_number = record { cut = λ at s p e. by at s p (number_cut s [] at p tt refl e) }
    where
      ends : (at : ℕ) (front : Bytes) (p : Refusal) → Stop of L [] front p → Ends (cause_by of L p) at front
      ends at front p (lacking k) = rw k tt
      ends at front p (large k l) = rw k l

      by : (at : ℕ) (s : Bytes) (p : Refusal) → NumberCut of L [] at s p → Cut of L number at s p
      by at s p c = record { front = c.front; rest = c.rest; whole = c.whole; same = c.same; ends = ends at c.front p c.stop }

  -- ## An item, and tests of it
  pub soon_early : {B : Type 0} {Now : Refusal → Type 0} {g : Reader B} → Early of L g → Soon of L Now g
  soon_early one = record { late = λ at s p e. later (one.cut at s p e) }

  pub soon_refuse : {B : Type 0} {Now : Refusal → Type 0} (r : Refusal) → Now r → Soon of L {B = B} Now (refuse r)
  soon_refuse {B} {Now} r bad = record { late = λ at s p e. let is : r ≡ p = was e in now (subst Now is bad) e }

  pub soon_test : {B : Type 0} {Now : Refusal → Type 0} (g : Reader B) (b : Bool) (r : Refusal) → (b ≡ false → Now r) → Soon of L Now g → Soon of L Now (test b r >>= λ _. g)
  soon_test {B} {Now} g b r bad one = go b refl
    where
      through : (at : ℕ) (s : Bytes) (p : Refusal) → Late of L Now g at s p → Late of L Now (test true r >>= λ _. g) at s p
      through at s p (now h e) = now h e
      through at s p (later c) = later (record { front = c.front; rest = c.rest; whole = c.whole; same = c.same; ends = c.ends })

      go : (t : Bool) → b ≡ t → Soon of L Now (test t r >>= λ _. g)
      go true k = record { late = λ at s p e. through at s p (one.late at s p e) }
      go false k = record { late = λ at s p e. let is : r ≡ p = was e in now (subst Now is (bad k)) e }

  soon_only : {Now : Refusal → Type 0} (b : Bool) (r : Refusal) → (b ≡ false → Now r) → Soon of L Now (test b r)
  soon_only {Now} b r bad = go b refl
    where
      go : (t : Bool) → b ≡ t → Soon of L Now (test t r)
      go true k = soon_early (early_give tt)
      go false k = soon_refuse r (bad k)

  pub soon_pick : {B : Type 0} {Now : Refusal → Type 0} {g h : Reader B} (b : Bool) → Soon of L Now g → (b ≡ false → Soon of L Now h) → Soon of L Now (cond b g h)
  soon_pick {B} {Now} {g} {h} b one two = go b refl
    where
      go : (t : Bool) → b ≡ t → Soon of L Now (cond t g h)
      go true k = one
      go false k = two k

  -- a reader that keeps its place for a refusal behind its first item
  module _ {A B : Type 0} {r : Reader A} {F : Form A} (f : ℕ → A → Reader B) (exact : Exact r F) (one : Early of L r)
      (two : (first : ℕ) (x : A) (bytes : Bytes) → F first bytes x → Soon of L (λ p. Ends (cause_by of L p) first (bytes ++ [])) (f first x)) where
    abbrev whole_reader : Reader B
    whole_reader = here >>= λ first. r >>= f first

    first_cut : (at : ℕ) (s : Bytes) (p : Refusal) (o : Read A) → r at s ≡ o → next o (f at) ≡ refused p → Cut of L whole_reader at s p
    first_cut at s p (ok x mid t) is e = by ((two at x a.bytes a.spelt).late mid t p e)
      where
        a : Split F at s x mid t
        a = exact.sound is

        on : (t : Bytes) → r at (a.bytes ++ t) ≡ ok x mid t
        on t = exact.complete t a.spelt ∙ ap (λ k. ok x k t) (sym a.place)

        by : Late of L (λ p. Ends (cause_by of L p) at (a.bytes ++ [])) (f at x) mid t p → Cut of L whole_reader at s p
        by (now k h) = record {
          front = a.bytes ++ [];
          rest = t;
          whole = a.whole ∙ ap (λ b. b ++ t) (sym (append-nil a.bytes));
          same = ap (λ o. next o (f at)) (on []) ∙ h;
          ends = k;
        }
        by (later k) = record {
          front = a.bytes ++ k.front;
          rest = k.rest;
          whole = a.whole ∙ ap (λ t. a.bytes ++ t) k.whole ∙ sym (append_assoc a.bytes k.front k.rest);
          same = ap (λ o. next o (f at)) (on k.front) ∙ k.same;
          ends = ends_behind (cause_by of L p) at a.bytes k.front a.place k.ends;
        }
    first_cut at s p (refused p') is e =
        let k = one.cut at s p (is ∙ ap refused (was e)) in
        record { front = k.front; rest = k.rest; whole = k.whole; same = ap (λ o. next o (f at)) k.same; ends = k.ends }

    pub early_first : Early of L whole_reader
    early_first = record { cut = λ at s p e. first_cut at s p (r at s) refl e }

  pub early_numbered : {B : Type 0} (f : ℕ → ℕ → Reader B) → ((first n : ℕ) (bytes : Bytes) → Number first bytes n → Soon of L (λ p. Ends (cause_by of L p) first (bytes ++ [])) (f first n)) → Early of L (here >>= λ first. number >>= f first)
  early_numbered f two = early_first f exact_number early_number two

  -- tests before any byte
  pub early_at : {B : Type 0} {f : ℕ → Reader B} → ((place : ℕ) → Soon of L (λ p. Ends (cause_by of L p) place []) (f place)) → Early of L (here >>= f)
  early_at {B} {f} two = record { cut = λ at s p e. by at s p ((two at).late at s p e) }
    where
      by : (at : ℕ) (s : Bytes) (p : Refusal) → Late of L (λ p. Ends (cause_by of L p) at []) (f at) at s p → Cut of L (here >>= f) at s p
      by at s p (now k h) = record { front = []; rest = s; whole = refl; same = h; ends = k }
      by at s p (later c) = record { front = c.front; rest = c.rest; whole = c.whole; same = c.same; ends = c.ends }

  -- ## Strings
  soon_content : (first size : ℕ) (bytes : Bytes) → Number first bytes size → Soon of L (λ p. Ends (cause_by of L p) first (bytes ++ [])) (content L.max_string_bytes first size)
  soon_content first zero bytes d = soon_early (early_give _)
  soon_content first (suc n) bytes d =
      soon_test _ (leb n L.max_string_bytes) (q.StringBytes first) (λ k. read_number first (suc n) bytes d (let h = leb-false n L.max_string_bytes k in omega arith))
      (soon_early (early_here λ place. early_then (exact_run n) (early_run n) λ bytes. early_give _))

  pub early_string : Early of L (string L.max_string_bytes)
  early_string = early_numbered (content L.max_string_bytes) soon_content

  -- ## The header
  pub early_expect : (bytes : Bytes) (refusal : ℕ → Refusal) → ((place : ℕ) → cause_by of L (refusal place) ≡ unlike place bytes) → Early of L (expect bytes refusal)
  early_expect bytes refusal is = early_first (λ place b. test (same_bytes b bytes) (refusal place)) (exact_run (length bytes)) (early_run (length bytes)) λ place b spelt d. soon_only (same_bytes b bytes) (refusal place) λ k. rw (is place) (record {
    before = [];
    others = b;
    whole = append-nil spelt ∙ d.0;
    begins = sym (add-zero place);
    long = ap length (sym d.0) ∙ d.1;
    differs = λ same. true_false (subst (λ b. T (same_bytes b bytes)) (sym same) (same_refl bytes)) k;
  })
    where
      true_false : {b : Bool} → T b → b ≡ false → ⊥
      true_false {b} t e = subst T e t

  pub early_before : Early of L before_format
  early_before = early_then (exact_expect signature q.Signature) (early_expect signature q.Signature λ place. refl) λ _. early_expect (0x54 ∷ []) q.Version λ place. refl

  pub early_behind : Early of L behind_format
  early_behind =
      early_then (exact_expect luac_data q.LuacData) (early_expect luac_data q.LuacData λ place. refl) λ _.
      early_then (exact_expect (4 ∷ []) q.InstructionSize) (early_expect (4 ∷ []) q.InstructionSize λ place. refl) λ _.
      early_then (exact_expect (8 ∷ []) q.LuaIntegerSize) (early_expect (8 ∷ []) q.LuaIntegerSize λ place. refl) λ _.
      early_then (exact_expect (8 ∷ []) q.LuaNumberSize) (early_expect (8 ∷ []) q.LuaNumberSize λ place. refl) λ _.
      early_then (exact_expect luac_int q.LuacInt) (early_expect luac_int q.LuacInt λ place. refl) λ _.
      early_expect luac_num q.LuacNum λ place. refl

  early_header : Early of L header
  early_header = early_then exact_before early_before λ _. early_here λ place. early_then (exact_field 1) (early_field 1) λ format. early_then exact_behind early_behind λ _. early_give _

  -- ## Lists and entries
  pub early_counted : {A : Type 0} {r : Reader A} {F : Form A} → Exact r F → Early of L r → Early of L (counted r)
  early_counted exact one = early_then exact_number early_number λ n. early_here λ place. early_then (exact_many n exact) (early_many n exact one) λ items. early_give _

  pub early_counted_up_to : {A : Type 0} {r : Reader A} {F : Form A} (limit : ℕ) (refusal : ℕ → Refusal) → ((place : ℕ) → cause_by of L (refusal place) ≡ above place limit) → Exact r F → Early of L r → Early of L (counted_up_to limit refusal r)
  early_counted_up_to limit refusal is exact one = early_numbered _ λ first n bytes d.
      soon_test _ (leb n limit) (refusal first) (λ k. rw (is first) (read_number first n bytes d (leb-false n limit k)))
      (soon_early (early_here λ place. early_then (exact_many n exact) (early_many n exact one) λ items. early_give _))

  pub early_always : (instead : Bytes) → Early of L (always L.max_string_bytes instead)
  early_always instead = early_then (exact_string L.max_string_bytes) early_string λ t. early_here λ place. early_give _

  soon_tagged : (place tag : ℕ) (bytes : Bytes) → Field 1 place bytes tag → Soon of L (λ p. Ends (cause_by of L p) place (bytes ++ [])) (tagged L.max_string_bytes place tag)
  soon_tagged place tag bytes d =
      soon_pick (eqb tag 0) (soon_early (early_give _)) λ k0.
      soon_pick (eqb tag 1) (soon_early (early_give _)) λ k1.
      soon_pick (eqb tag 17) (soon_early (early_give _)) λ k17.
      soon_pick (eqb tag 3) (soon_early (early_then (exact_field 8) (early_field 8) λ n. early_give _)) λ k3.
      soon_pick (eqb tag 19) (soon_early (early_then (exact_field 8) (early_field 8) λ n. early_give _)) λ k19.
      soon_pick (eqb tag 4) (soon_early (early_then (exact_always L.max_string_bytes []) (early_always []) λ t. early_give _)) λ k4.
      soon_pick (eqb tag 20) (soon_early (early_then (exact_always L.max_string_bytes []) (early_always []) λ t. early_give _)) λ k20.
      soon_refuse (q.ConstantTag place) (no_tag_lem place tag bytes d k0 k1 k17 k3 k19 k4 k20)

  pub early_constant : Early of L (constant L.max_string_bytes)
  early_constant = early_first (tagged L.max_string_bytes) (exact_field 1) (early_field 1) soon_tagged

  pub early_upvalue : Early of L upvalue
  early_upvalue = early_then (exact_field 1) (early_field 1) λ instack. early_then (exact_field 1) (early_field 1) λ idx. early_then (exact_field 1) (early_field 1) λ kind. early_give _

  pub early_anchor : Early of L anchor
  early_anchor = early_then exact_number early_number λ pc. early_then exact_number early_number λ line. early_give _

  pub early_local : Early of L (local L.max_string_bytes)
  early_local = early_then (exact_always L.max_string_bytes (63 ∷ [])) (early_always (63 ∷ [])) λ name. early_then exact_number early_number λ startpc. early_then exact_number early_number λ endpc. early_give _

  -- ## Functions
  pub early_forest : (n : ℕ) {r : Where → Reader (List Prototype)} {F : Where → Form (List Prototype)} (w : Where) → ((w : Where) → Exact (r w) (F w)) → ((w : Where) → Early of L (r w)) → Early of L (forest n r w)
  early_forest zero w exact one = early_give []
  early_forest (suc n) w exact one = early_then (exact w) (one w) λ ps. early_then (exact_forest n (after ps w) exact) (early_forest n (after ps w) exact one) λ more. early_give (ps ++ more)

  -- 14 and 15, of which 14 comes first: a count that is 15 is not above the limit of 14
  pub soon_counts : {B : Type 0} (g : Reader B) (first size before : ℕ) (bytes : Bytes) → Number first bytes size → Counts of size → Soon of L (λ p. Ends (cause_by of L p) first (bytes ++ [])) g
      → Soon of L (λ p. Ends (cause_by of L p) first (bytes ++ [])) (at_most size L.max_instructions_per_proto (q.Instructions first) >>= λ _. at_most (before + size) L.max_total_instructions (q.TotalInstructions first) >>= λ _. g)
  soon_counts g first size before bytes d fits one = own (leb size L.max_instructions_per_proto) refl
    where
      own : (b : Bool) → leb size L.max_instructions_per_proto ≡ b
          → Soon of L (λ p. Ends (cause_by of L p) first (bytes ++ [])) (test b (q.Instructions first) >>= λ _. at_most (before + size) L.max_total_instructions (q.TotalInstructions first) >>= λ _. g)
      own true k =
          soon_test _ true (q.Instructions first) (λ e. absurd (let z : ◌≡◌ {A = ℕ} 0 1 = cc in omega arith))
          (soon_test g (leb (before + size) L.max_total_instructions) (q.TotalInstructions first) (λ e. read_number first size bytes d (leb-true size L.max_instructions_per_proto k)) one)
      own false k = record { late = λ at s p e. let is : q.Instructions first ≡ p = was e in now (subst (λ p. Ends (cause_by of L p) first (bytes ++ [])) is (too_many of first size L.max_instructions_per_proto bytes d fits (leb-false size L.max_instructions_per_proto k))) e }

-- ## The ordinary reader
module _ {L : ResourceLimits} where
  early_body : {r : Where → Reader (List Prototype)} {F : Where → Form (List Prototype)} → ((w : Where) → Exact (r w) (F w)) → ((w : Where) → Early ordinary L (r w)) → (w : Where) → Early ordinary L (body L r w)
  unfolding body
  early_body exact one w =
      early_here λ start.
      early_then (exact_string L.max_string_bytes) early_string λ spelt.
      early_then exact_number early_number λ line_defined.
      early_then exact_number early_number λ last_line_defined.
      early_then (exact_field 1) (early_field 1) λ numparams.
      early_then (exact_field 1) (early_field 1) λ is_vararg.
      early_then (exact_field 1) (early_field 1) λ maxstacksize.
      early_numbered _ λ first size bytes d.
      soon_counts _ first size w.instructions bytes d tt (
      soon_early (
      early_here λ instructions_at.
      early_then (exact_many size (exact_field 4)) (early_many size (exact_field 4) (early_field 4)) λ instructions.
      early_then (exact_counted_up_to L.max_constants_per_proto q.Constants (exact_constant L.max_string_bytes))
      (early_counted_up_to L.max_constants_per_proto q.Constants (λ place. refl) (exact_constant L.max_string_bytes) early_constant) λ constants.
      early_then (exact_counted_up_to L.max_upvalues_per_proto q.Upvalues exact_upvalue) (early_counted_up_to L.max_upvalues_per_proto q.Upvalues (λ place. refl) exact_upvalue early_upvalue) λ upvalues.
      early_numbered _ λ first protos bytes d.
      soon_test _ (leb protos L.max_total_prototypes) (q.Prototypes first) (λ k. read_number first protos bytes d (leb-false protos L.max_total_prototypes k)) (
      soon_early (
      early_here λ protos-at.
      early_then (exact_forest protos _ exact) (early_forest protos _ exact one) λ nested.
      early_then exact_number early_number λ line-info-size.
      early_here λ line-info-at.
      early_then (exact_run line-info-size) (early_run line-info-size) λ line_info_lem.
      early_then (exact_counted exact_anchor) (early_counted exact_anchor early_anchor) λ abs_line_info.
      early_then (exact_counted (exact_local L.max_string_bytes)) (early_counted (exact_local L.max_string_bytes) early_local) λ loc_vars.
      early_then (exact_counted (exact_string L.max_string_bytes)) (early_counted (exact_string L.max_string_bytes) early_string) λ upvalue_names_lem.
      early_here λ end.
      early_give _))))

  early_function : (left : ℕ) (w : Where) → Early ordinary L (function L left w)
  unfolding function
  early_function zero w = early_body (λ w. exact_place λ place. exact_refuse _) (λ w. early_at λ place. soon_refuse (q.NestingDepth place) (sym (add-zero place))) w
  early_function (suc left) w =
      early_body (λ w. exact_place λ place. exact_then (exact_at_most w.number L.max_total_prototypes (q.TotalPrototypes place)) λ _. exact_function L left w)
      (λ w. early_at λ place. soon_test _ (leb w.number L.max_total_prototypes) (q.TotalPrototypes place) (λ k. sym (add-zero place)) (soon_early (early_function left w))) w

  -- chunks
  pub early_main : Early ordinary L (main L)
  early_main = early_then exact_header early_header λ headed. early_then (exact_field 1) (early_field 1) λ forgotten. early_then (exact_function L L.max_nesting_depth _) (early_function L.max_nesting_depth _) λ functions. early_give _
