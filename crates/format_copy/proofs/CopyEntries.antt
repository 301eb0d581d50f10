-- The entries of a function and its lists are copied: by the bytes that `specs/Copy.antt` writes of them, with the same value but for places.
-- Assumes nothing.
use mathlib.Core.Path.{◌≡◌, refl, sym, ◌∙◌, ap, ap₂}
use mathlib.Core.Bool.{Bool, true, false}
use mathlib.Core.List.{List, [], ◌∷◌, ◌++◌, append_assoc, append-nil, map, flatten, map-id}
use mathlib.Core.Option
use mathlib.Core.Option.{Option, none, some, get_or}
use Prim.Native.Nat.{ℕ, zero, suc, ◌+◌, ◌-◌, ◌^◌, ◌≤◌, ◌<◌, zero-le}
use lib.Dec.{T, eqb, eqb→eq, lit<}
use lib.ListN.{length}
use Rattle.format.specs.Form.{Bytes, Below, Form, Then, Is, When, Many}
use Rattle.format.specs.GrammarFields.{Field, LuaString, Content, String}
use Rattle.format.specs.Reading.{short_string, long_string}
use Rattle.format.specs.GrammarChunk.{Listed, Counted, CountedUpTo, Always, Tagged, Constant, Upvalue, Anchor, Local, Where, outermost}
use Rattle.format.specs.Shortest.{shortest}
use Rattle.format_spelling.specs.Spelling.{same, ◌⊕◌, Tally}
use Rattle.format_spelling.specs.Spelling as tally
use Rattle.format.specs.Copy.{field_bytes, string_bytes, option_bytes, constant_bytes, upvalue_bytes, anchor_bytes, local_bytes, list_bytes, kept_string, kept_constant, kept_local}
use Rattle.format.proofs.Below.{below_join, parts}
use Rattle.format.proofs.Build.{put, skip, last}
use Rattle.format.proofs.FieldBytes.{field_below, field_spells}
use Rattle.format.proofs.ShortestLaws.{shortest_spells, shortest-below}
use Rattle.format_copy.proofs.Copies.{Measure, uncounted_same, Copies, As, then_copies, is_copies, none_copies, here_copies, given_copies, number_copies, field_copies, run_copies, many_copies, uncounted, shortest_tidy}

-- ## Strings
content_copies : {m : Measure} (limit size : ℕ) → Copies m (Content limit size) (Content limit size) tally.none (λ t t' c. As option_bytes (Option.map kept_string) t t' (shortest size ++ c))
content_copies limit zero = is_copies (append-nil _, refl)
content_copies limit (suc n) = uncounted (given_copies (λ le. le) (here_copies λ p p'. run_copies λ c size. is_copies (rw (append-nil, size), refl)))

pub string_copies : {m : Measure} (limit : ℕ) → Copies m (String limit) (String limit) (tally.string limit) (As option_bytes (Option.map kept_string))
unfolding tally.string
string_copies limit = number_copies λ size. content_copies limit size

-- main's source: kept
main-kept : (t : Option LuaString) → tally.dropping outermost t ≡ same
main-kept none = refl
main-kept (some t) = refl

pub source_copies : {m : Measure} (limit : ℕ) → Copies m (String limit) (String limit) (tally.source limit outermost) (As option_bytes (Option.map kept_string))
unfolding tally.source tally.besides
source_copies {m} limit = record {
  again = λ at to b x h d.
      let a = (string_copies {m = m} limit).again at to b x h d in
      record { value = a.value; bytes = a.bytes; below = a.below; spelt = a.spelt; tidy = m.adds _ _ a.tidy (uncounted_same m (main-kept a.value)); holds = a.holds };
}

-- a nested function's source: written as absent, whatever it was
abbrev pub Absent : Option LuaString → Option LuaString → Bytes → Type 0
Absent t t' b = (b ≡ option_bytes none) × (t' ≡ none)

pub absent_copies : {m : Measure} (limit : ℕ) (w : Where) → Copies m (String limit) (String limit) (tally.source limit w) Absent
unfolding tally.source tally.besides tally.string tally.both tally.none last
absent_copies {m} limit w = record {
  again = λ at to b x h d. record {
    value = none;
    bytes = shortest 0;
    below = shortest-below 0;
    spelt = last 0 (shortest_spells 0 to (lit< tt)) (refl, refl);
    tidy = uncounted_same m (ap (λ a. a ⊕ same ⊕ same) (shortest_tidy 0 to (lit< tt)));
    holds = (refl, refl);
  };
}

-- what can be spelt as a string under the limit
record Spellable (limit : ℕ) (c : Bytes) : Type 0 where
  within : length c ≤ limit
  fits : suc (length c) < 2 ^ 64 - 128
  below : Below 256 c

always-put : (limit to : ℕ) (instead c : Bytes) → Spellable limit c
    → Always limit instead to (shortest (suc (length c)) ++ c) (record { place = to + length (shortest (suc (length c))); bytes = c })
always-put limit to instead c k =
    let n = length c in
    last _ (put (shortest (suc n)) c (suc n) (shortest_spells (suc n) to k.fits) (skip tt (refl, k.within) (skip _ (refl, refl) (last c (refl, refl) (refl, refl)))))
    (skip _ (refl, refl) (refl, refl))

content_spellable : (limit size at : ℕ) (b : Bytes) (t : Option LuaString) (u : LuaString) → size < 2 ^ 64 - 128 → Below 256 b → Content limit size at b t → Spellable limit u.bytes
    → Spellable limit (get_or t u).bytes
content_spellable limit zero at b t u fits h d k = rw (← d.1) k
content_spellable limit (suc n) at b t u fits h d k =
    let e = d.two.two in
    let size : length e.value ≡ n = ap length (sym e.one.0) ∙ e.one.1 in
    let front = (parts e (parts d.two (parts d h).1).1).0 in
    rw (← e.two.1) (record { within = rw size d.one.1; fits = rw size fits; below = rw e.one.0 at front })

-- a string that is never absent is written as it reads, absent or not: where the limit allows what an absent one reads as
always_copies : {m : Measure} (limit : ℕ) (instead : Bytes) → Spellable limit instead → Copies m (Always limit instead) (Always limit instead) (tally.always limit instead) (As string_bytes kept_string)
unfolding tally.always tally.besides tally.string tally.both tally.none always-put put last
always_copies {m} limit instead k = record {
  again = λ at to b x h d.
      let s = d.one in
      let back = (parts s (parts d h).0).1 in
      let old = content_spellable limit s.value _ s.back d.value (record { place = d.two.value; bytes = instead }) s.one.fits back s.two k in
      let now : Spellable limit x.bytes = rw d.two.two.1 at old in
      record {
        value = record { place = to + length (shortest (suc (length x.bytes))); bytes = x.bytes };
        bytes = string_bytes x;
        below = below_join 256 (shortest (suc (length x.bytes))) x.bytes (shortest-below (suc (length x.bytes))) now.below;
        spelt = always-put limit to instead x.bytes now;
        tidy = uncounted_same m (ap (λ a. a ⊕ same ⊕ same ⊕ same) (shortest_tidy (suc (length x.bytes)) to now.fits));
        holds = (refl, refl);
      };
}

-- ## Constants, upvalues, anchors, locals, words
when_copies : {A : Type 0} {m : Measure} {F G : Form A} {p : Tally F} {q : Tally G} {S : A → A → Bytes → Type 0} (b : Bool) → (T b → Copies m F F p S) → Copies m G G q S → Copies m (When b F G) (When b F G) (tally.either b p q) S
unfolding tally.either
when_copies true one two = one tt
when_copies false one two = two

empty_spellable : (limit : ℕ) → Spellable limit []
empty_spellable limit = record { within = zero-le; fits = lit< tt; below = tt }

tagged_copies : {m : Measure} (limit tag : ℕ) → Copies m (Tagged limit tag) (Tagged limit tag) (tally.tagged limit tag) (λ c c' b. As constant_bytes kept_constant c c' (field_bytes 1 tag ++ b))
unfolding tally.tagged
tagged_copies limit tag =
    when_copies (eqb tag 0) (λ t. is_copies (ap (field_bytes 1) (eqb→eq tag 0 t), refl))
    (when_copies (eqb tag 1) (λ t. is_copies (ap (field_bytes 1) (eqb→eq tag 1 t), refl))
    (when_copies (eqb tag 17) (λ t. is_copies (ap (field_bytes 1) (eqb→eq tag 17 t), refl))
    (when_copies (eqb tag 3) (λ t. uncounted (field_copies λ n. is_copies (ap (λ k. field_bytes 1 k ++ field_bytes 8 n) (eqb→eq tag 3 t), refl)))
    (when_copies (eqb tag 19) (λ t. uncounted (field_copies λ n. is_copies (ap (λ k. field_bytes 1 k ++ field_bytes 8 n) (eqb→eq tag 19 t), refl)))
    (when_copies (eqb tag 4) (λ t. then_copies (always_copies limit [] (empty_spellable limit)) λ x x' b r.
    is_copies (ap₂ (λ k c. field_bytes 1 k ++ c) (eqb→eq tag 4 t) (append-nil b ∙ r.0), ap short_string r.1))
    (when_copies (eqb tag 20) (λ t. then_copies (always_copies limit [] (empty_spellable limit)) λ x x' b r.
    is_copies (ap₂ (λ k c. field_bytes 1 k ++ c) (eqb→eq tag 20 t) (append-nil b ∙ r.0), ap long_string r.1))
    none_copies))))))

pub constant_copies : {m : Measure} (limit : ℕ) → Copies m (Constant limit) (Constant limit) (tally.constant limit) (As constant_bytes kept_constant)
unfolding tally.constant
constant_copies limit = field_copies λ tag. tagged_copies limit tag

abbrev itself : {A : Type 0} → A → A
itself x = x

pub upvalue_copies : {m : Measure} → Copies m Upvalue Upvalue tally.none (As upvalue_bytes itself)
upvalue_copies = uncounted (field_copies λ instack. field_copies λ idx. field_copies λ kind. is_copies (refl, refl))

pub anchor_copies : {m : Measure} → Copies m Anchor Anchor tally.anchor (As anchor_bytes itself)
unfolding tally.anchor
anchor_copies = number_copies λ pc. number_copies λ line. is_copies (rw append-nil, refl)

-- an absent name is written as `?`, one byte
pub local_copies : {m : Measure} (limit : ℕ) → 1 ≤ limit → Copies m (Local limit) (Local limit) (tally.local limit) (As local_bytes kept_local)
unfolding tally.local
local_copies limit h =
    then_copies (always_copies limit (63 ∷ []) (record { within = h; fits = lit< tt; below = (lit< tt, tt) })) λ x x' b r.
    number_copies λ startpc.
    number_copies λ endpc.
    is_copies (rw (append-nil, r.0), ap (λ t. record { name = t; startpc = startpc; endpc = endpc }) r.1)

pub field_again : {m : Measure} (n : ℕ) → Copies m (Field n) (Field n) tally.none (As (field_bytes n) itself)
unfolding tally.none
field_again {m} n = record {
  again = λ at to b v h d. record { value = v; bytes = field_bytes n v; below = field_below n v; spelt = field_spells n at to b v h d; tidy = m.nothing; holds = (refl, refl) };
}

-- ## Lists behind their counts
pub record Relisted {A : Type 0} (enc : A → Bytes) (plainly : A → A) (xs xs' : Listed A) (b : Bytes) : Type 0 where
  pub bytes_are : b ≡ list_bytes enc xs.items
  pub alike : map plainly xs'.items ≡ map plainly xs.items

-- n items as a list's bytes, with what stands behind them
pub as_list_lem : {A : Type 0} (enc : A → Bytes) (n : ℕ) (xs : List A) (b c : Bytes) → b ≡ flatten (map enc xs) → length xs ≡ n → shortest n ++ (b ++ c) ≡ list_bytes enc xs ++ c
unfolding list_bytes
as_list_lem enc n xs b c p q = rw (p, ← q, append_assoc)

module _ {A : Type 0} {m : Measure} {F : Form A} {p : Tally F} {enc : A → Bytes} {plainly : A → A} (one : Copies m F F p (As enc plainly)) where
  -- behind the count n
  listed_copies : (n place place' : ℕ)
      → Copies m (Then (Many n F) (λ items. Is (record { place = place; items = items }))) (Then (Many n F) (λ items. Is (record { place = place'; items = items })))
      (tally.both (tally.each n p) (λ items. tally.none)) (λ xs xs' c. Relisted enc plainly xs xs' (shortest n ++ c))
  listed_copies n place place' =
      then_copies (many_copies n one) λ xs xs' c q. is_copies (record { bytes_are = as_list_lem enc n xs c [] q.0 q.2 ∙ append-nil _; alike = q.1 })

  pub counted_copies : Copies m (Counted F) (Counted F) (tally.counted p) (Relisted enc plainly)
  unfolding tally.counted
  counted_copies = number_copies λ n. here_copies λ at at'. listed_copies n at at'

  pub up_to_copies : (limit : ℕ) → Copies m (CountedUpTo limit F) (CountedUpTo limit F) (tally.counted_up_to limit p) (Relisted enc plainly)
  unfolding tally.counted_up_to
  up_to_copies limit = number_copies λ n. given_copies (λ le. le) (here_copies λ at at'. listed_copies n at at')

-- where all of an item is kept, the items are equal
pub unmap : {A : Type 0} (xs ys : List A) → map itself xs ≡ map itself ys → xs ≡ ys
unmap xs ys e = sym (map-id xs) ∙ e ∙ map-id ys
