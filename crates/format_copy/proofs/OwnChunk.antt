-- A function of which no place is spelt otherwise is what a copy writes of it: one line for each step of a production, for either copy (FullPlain.antt: the full one).
--     body_own         a function, by how its source is copied
--     dropped          the archive copy: every nested source counts
--     function-main    main, with all that nest in it, is what the archive copy writes of it
-- Assumes nothing.
use mathlib.Core.Path.{◌≡◌, refl, ◌∙◌, ap, ap₂}
use mathlib.Core.Bool.{cond}
use mathlib.Core.List.{List, [], ◌∷◌, ◌++◌, append-nil, map, flatten}
use mathlib.Core.Option
use mathlib.Core.Option.{Option, none, some}
use Prim.Native.Nat.{ℕ, zero, suc, ◌+◌, ◌≤◌}
use native.Mathlib.Omega.{arith}
use lib.Dec.{eqb, eqb→eq}
use borrow.Author.Tests.{ne_eqb}
use lib.ListN.{length}
use Rattle.format.specs.declared.limits.ResourceLimits.{ResourceLimits}
use Rattle.format.specs.Form.{Bytes, Form, Then, Is, Here, Many}
use Rattle.format.specs.GrammarFields.{Field, LuaString, Content, String}
use Rattle.format.specs.Reading.{Prototype}
use Rattle.format.specs.GrammarChunk.{Listed, Counted, CountedUpTo, Always, Tagged, Constant, Upvalue, Anchor, Local, Where, after, within, inherit, outermost, Forest, Body, Function}
use Rattle.format.specs.Shortest.{shortest}
use Rattle.format_spelling.specs.Spelling.{same, ◌⊕◌, Tally, filling, dropping}
use Rattle.format_spelling.specs.Spelling as tally
use Rattle.format.specs.Copy.{field_bytes, string_bytes, option_bytes, constant_bytes, upvalue_bytes, anchor_bytes, local_bytes, list_bytes, behind_source, kept_string}
use Rattle.format_copy.proofs.Copies.{As}
use Rattle.format_copy.proofs.CopyEntries.{Absent, as_list_lem}
use Rattle.format_copy.proofs.CopyForest.{Way, Once, Each, each_none, each_cons}
use Rattle.format_copy.proofs.CopyFunctions.{Behind, archive, once, Whole, whole}
use Rattle.format_copy.proofs.Own.{Sort, Own, then_own, uncounted, field-one, is_own, nothing_own, when_own, here_own, given_own, number_own, field_own, run_own, weaken, many_own}

-- ## Strings
content_own : {m : Sort} (limit size : ℕ) → Own m (Content limit size) tally.none (λ t c. shortest size ++ c ≡ option_bytes t)
unfolding tally.both tally.none
content_own limit zero = is_own (append-nil _)
content_own limit (suc n) = uncounted (λ at b x d. refl) (given_own (here_own λ place. run_own λ c size. is_own {p = tally.none} (rw (append-nil, size))))

pub string_own : {m : Sort} (limit : ℕ) → Own m (String limit) (tally.string limit) (λ t b. b ≡ option_bytes t)
unfolding tally.string
string_own limit = number_own λ size. content_own limit size

-- a string that is there
record Present (t : Option LuaString) (b : Bytes) : Type 0 where
  string : LuaString
  is : t ≡ some string
  bytes_are : b ≡ string_bytes string

present : (t : Option LuaString) (b : Bytes) → (filling t).filled ≡ 0 → b ≡ option_bytes t → Present t b
present none b z e = absurd (omega (arith, z))
present (some u) b z e = record { string = u; is = refl; bytes_are = e }

always_own : {m : Sort} (limit : ℕ) (instead : Bytes) → Own m (Always limit instead) (tally.always limit instead) (λ t b. b ≡ string_bytes t)
unfolding tally.always tally.besides tally.both tally.none
always_own {m} limit instead =
    then_own {R = Present} (record { own = λ at b t h d z. let sum = m.join ((tally.string limit).of at b t d) (filling t) in present t b (omega (arith, z)) ((string_own {m = m} limit).own at b t h d (omega (arith, z, sum))) }) λ t b r.
    uncounted (λ at b x d. refl) (here_own λ place. is_own {p = tally.none} (rw (append-nil, r.is) r.bytes_are))

-- ## Entries
-- a field, of which nothing is counted, and then a value; the place, and then a value
field-last : {B : Type 0} {m : Sort} {S : B → Bytes → Type 0} {n : ℕ} {c : ℕ → B} → ((v : ℕ) → S (c v) (field_bytes n v)) → Own m (Then (Field n) (λ v. Is (c v))) tally.none S
unfolding tally.both tally.none
field-last s = uncounted (λ at b x d. refl) (field_own λ v. is_own {p = tally.none} (rw (append-nil) (s v)))

here-last : {B : Type 0} {m : Sort} {S : B → Bytes → Type 0} {c : ℕ → B} → ((x : ℕ) → S (c x) []) → Own m (Then Here (λ x. Is (c x))) tally.none S
unfolding tally.both tally.none
here-last s = uncounted (λ at b x d. refl) (here_own λ x. is_own {p = tally.none} (s x))

tagged_own : {m : Sort} (limit tag : ℕ) → Own m (Tagged limit tag) (tally.tagged limit tag) (λ c b. field_bytes 1 tag ++ b ≡ constant_bytes c)
unfolding tally.tagged
tagged_own limit tag =
    when_own (eqb tag 0) (λ t. is_own (ap (field_bytes 1) (eqb→eq tag 0 t)))
    (when_own (eqb tag 1) (λ t. is_own (ap (field_bytes 1) (eqb→eq tag 1 t)))
    (when_own (eqb tag 17) (λ t. is_own (ap (field_bytes 1) (eqb→eq tag 17 t)))
    (when_own (eqb tag 3) (λ t. field-last λ n. ap (λ k. field_bytes 1 k ++ field_bytes 8 n) (eqb→eq tag 3 t))
    (when_own (eqb tag 19) (λ t. field-last λ n. ap (λ k. field_bytes 1 k ++ field_bytes 8 n) (eqb→eq tag 19 t))
    (when_own (eqb tag 4) (λ t. then_own (always_own limit []) λ x b r. is_own (ap₂ (λ k c. field_bytes 1 k ++ c) (eqb→eq tag 4 t) (append-nil b ∙ r)))
    (when_own (eqb tag 20) (λ t. then_own (always_own limit []) λ x b r. is_own (ap₂ (λ k c. field_bytes 1 k ++ c) (eqb→eq tag 20 t) (append-nil b ∙ r)))
    nothing_own))))))

constant_own : {m : Sort} (limit : ℕ) → Own m (Constant limit) (tally.constant limit) (λ c b. b ≡ constant_bytes c)
unfolding tally.constant
constant_own limit = field_own λ tag. tagged_own limit tag

upvalue_own : {m : Sort} → Own m Upvalue tally.none (λ u b. b ≡ upvalue_bytes u)
unfolding tally.both tally.none
upvalue_own = uncounted (λ at b x d. refl) (field_own λ instack. field_own λ idx. field_own λ kind. is_own {p = tally.none} refl)

anchor_own : {m : Sort} → Own m Anchor tally.anchor (λ a b. b ≡ anchor_bytes a)
unfolding tally.anchor
anchor_own = number_own λ pc. number_own λ line. is_own (rw append-nil)

local_own : {m : Sort} (limit : ℕ) → Own m (Local limit) (tally.local limit) (λ l b. b ≡ local_bytes l)
unfolding tally.local
local_own limit = then_own (always_own limit (63 ∷ [])) λ x b r. number_own λ startpc. number_own λ endpc. is_own (rw (append-nil, r))

-- ## Lists behind their counts
module _ {A : Type 0} {m : Sort} {F : Form A} {p : Tally F} {enc : A → Bytes} (one : Own m F p (λ x b. b ≡ enc x)) where
  listed_own : (n place : ℕ) → Own {A = Listed A} m (Then (Many n F) (λ items. Is (record { place = place; items = items }))) (tally.both (tally.each n p) (λ items. tally.none)) (λ (xs : Listed A) c. shortest n ++ c ≡ list_bytes enc xs.items)
  listed_own n place = then_own (many_own n one) λ xs c q. is_own (as_list_lem enc n xs c [] q.0 q.1 ∙ append-nil _)

  counted_own : Own m (Counted F) (tally.counted p) (λ xs b. b ≡ list_bytes enc xs.items)
  unfolding tally.counted
  counted_own = number_own λ n. here_own λ place. listed_own n place

  up_to_own : (limit : ℕ) → Own m (CountedUpTo limit F) (tally.counted_up_to limit p) (λ xs b. b ≡ list_bytes enc xs.items)
  unfolding tally.counted_up_to
  up_to_own limit = number_own λ n. given_own (here_own λ place. listed_own n place)

-- ## Functions
forest_own : {m : Sort} (way : Way) {F : Where → Form (List Prototype)} {p : (w : Where) → Tally (F w)} (n : ℕ) (w : Where) → 1 ≤ w.number → ((w : Where) → 1 ≤ w.number → Own m (F w) (p w) (λ ps b. Once way w.source ps ps b))
    → Own m (Forest n F w) (tally.forest n p w) (λ ps b. Each way w.source n ps ps b)
unfolding tally.forest
forest_own way zero w nested one = is_own (each_none way w.source)
forest_own way (suc n) w nested one =
    then_own (one w nested) λ ps b r.
    then_own (forest_own way n (after ps w) (omega (arith, nested)) one) λ more c q.
    is_own (each_cons way w.source n ps ps more more b c r q)

words_none : {A : Type 0} (F : Form A) (n at : ℕ) (b : Bytes) (x : List A) (d : Many n F at b x) → (tally.each n (tally.none {F = F})).of at b x d ≡ same
unfolding tally.each tally.both tally.none
words_none F zero at b x d = refl
words_none F (suc n) at b x d = let rest = words_none F n (at + length d.front) d.two.front d.two.value d.two.one in ap (λ a. same ⊕ (a ⊕ same)) rest

words_own : {m : Sort} (n : ℕ) → Own m (Many n (Field 4)) tally.none (λ xs b. (b ≡ flatten (map (field_bytes 4) xs)) × (length xs ≡ n))
words_own n = uncounted (λ at b x d. words_none (Field 4) n at b x d) (many_own n (field-one 4))

pub body_own : {m : Sort} (way : Way) (L : ResourceLimits) {F : Where → Form (List Prototype)} {p : (w : Where) → Tally (F w)} {R : Option LuaString → Option LuaString → Bytes → Type 0} (w : Where)
    → ((w : Where) → 1 ≤ w.number → Own m (F w) (p w) (λ ps b. Once way w.source ps ps b)) → Own m (String L.max_string_bytes) (tally.source L.max_string_bytes w) (λ t b. R t t b)
    → Own m (Body L F w) (tally.body L p w) (λ ps b. Behind way R w w ps ps b)
unfolding Body behind_source tally.body
body_own way L w one src =
    here_own λ start.
    then_own src λ spelt front r.
    number_own λ line_defined.
    number_own λ last_line_defined.
    field_own λ numparams.
    field_own λ is_vararg.
    field_own λ maxstacksize.
    number_own λ size.
    given_own (
    given_own (
    here_own λ instructions_at.
    then_own (words_own size) λ instructions b₁ q₁.
    then_own (up_to_own (constant_own L.max_string_bytes) L.max_constants_per_proto) λ constants b₂ q₂.
    then_own (up_to_own upvalue_own L.max_upvalues_per_proto) λ upvalues b₃ q₃.
    number_own λ protos.
    given_own (
    here_own λ protos-at.
    then_own (forest_own way protos (within w (inherit spelt w.source) (length instructions)) (omega arith) one) λ inner c e.
    number_own λ line-info-size.
    here_own λ line-info-at.
    run_own λ line_info_lem h.
    then_own (counted_own anchor_own) λ abs_line_info b₄ q₄.
    then_own (counted_own (local_own L.max_string_bytes)) λ loc_vars b₅ q₅.
    then_own (counted_own (string_own L.max_string_bytes)) λ upvalue_names_lem b₆ q₆.
    here-last λ end. record {
      p = _;
      p' = _;
      inner = _;
      inner' = _;
      old = refl;
      new = refl;
      nested = c;
      each = e;
      alike = λ source. refl;
      spelt = _;
      spelt' = _;
      source = refl;
      source' = refl;
      front = _;
      related = r;
      joined = rw (as_list_lem (field_bytes 4) size instructions b₁ _ q₁.0 q₁.1, append-nil, q₂, q₃, q₄, q₅, q₆, h);
    })))

-- ## The archive copy: it drops every nested source
abbrev pub dropped : Sort
dropped = record { of = λ a. a.sources; nothing = refl; join = λ a b. refl }

-- main's source is kept; one of a nested function, whose number is not 0, is absent
main_own : (limit : ℕ) → Own dropped (String limit) (tally.source limit outermost) (λ t b. As option_bytes (Option.map kept_string) t t b)
unfolding tally.source tally.besides
main_own limit = record { own = λ at b t h d z. ((string_own {m = dropped} limit).own at b t h d (omega (arith, z)), refl) }

pub unspelt : (w : Where) → 1 ≤ w.number → (t : Option LuaString) → (dropping w t).sources ≡ 0 → t ≡ none
unspelt w nested none z = refl
unspelt w nested (some t) z =
    let one : (dropping w (some t)).sources ≡ 1 = ap (λ b. cond b 0 1) (ne_eqb w.number 0 (λ i. omega (arith, i, nested))) in
    absurd (omega (arith, z, one))

nested_own : (limit : ℕ) (w : Where) → 1 ≤ w.number → Own dropped (String limit) (tally.source limit w) (λ t b. Absent t t b)
unfolding tally.source tally.besides
nested_own limit w nested = record { own = λ at b t h d z. let e = unspelt w nested t (omega (arith, z)) in ((string_own {m = dropped} limit).own at b t h d (omega (arith, z)) ∙ ap option_bytes e, e) }

module _ (L : ResourceLimits) where
  function_own : (left : ℕ) (w : Where) → 1 ≤ w.number → Own dropped (Function L left w) (tally.function L left w) (λ ps b. Once archive w.source ps ps b)
  unfolding Function tally.function
  function_own zero w nested = weaken (λ ps b. once w w ps ps b) (body_own archive L w (λ w nested. nothing_own) (nested_own _ w nested))
  function_own (suc left) w nested = weaken (λ ps b. once w w ps ps b) (body_own archive L w (λ w nested. given_own (function_own left w nested)) (nested_own _ w nested))

  pub function-main : (left : ℕ) → Own dropped (Function L left outermost) (tally.function L left outermost) (λ ps b. Whole ps ps b)
  unfolding Function tally.function
  function-main zero = weaken (λ ps b. whole ps ps b) (body_own archive L outermost (λ w nested. nothing_own) (main_own _))
  function-main (suc left) = weaken (λ ps b. whole ps ps b) (body_own archive L outermost (λ w nested. given_own (function_own left w nested)) (main_own _))
