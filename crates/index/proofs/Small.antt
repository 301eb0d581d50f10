-- Every number of an index is small: places and counts are at most the file's length, since each item of a list takes a byte or more; depths and parents are
-- bounded by the limits. So the low 32 bits that are stored are the number.
--     Takes F          bytes of this form are not none
--     Within F P       where bytes of this form end within 16777216 bytes, P holds of what they spell
--     small-main       the numbers of every function of a chunk are at most 16777216
--     stored-index     then what is stored is the index
-- Assumes nothing.
use mathlib.Core.Path.{◌≡◌, refl, ◌∙◌, ap}
use mathlib.Core.List.{List, [], ◌∷◌, ◌++◌, map}
use Prim.Native.Nat.{ℕ, zero, suc, ◌+◌, ◌≤◌}
use native.Mathlib.Omega.{arith}
use lib.ListN.{length, length-append}
use Rattle.format.specs.Limits.{DEEPEST, MOST}
use Rattle.format.specs.declared.limits.ResourceLimits.{ResourceLimits}
use Rattle.format.specs.Form.{Bytes, All, Form, Then, Is, Here, Given, Nothing, Run, Many}
use Rattle.format.specs.GrammarFields.{Field, Number}
use Rattle.format.specs.Reading.{Prototype}
use Rattle.format.specs.GrammarChunk.{Listed, Counted, CountedUpTo, inherit, Where, after, within, Forest, Body, Function, Main, Loaded}
use Rattle.format.proofs.Every.{all_append}
use Rattle.index.specs.Index.{index_row, index}
use Rattle.index_row.specs.Inner.Stored.{low, stored}

-- ## Bytes that an item takes
record Takes {A : Type 0} (F : Form A) : Type 0 where
  some : (at : ℕ) (b : Bytes) (x : A) → F at b x → 1 ≤ length b

takes_number : Takes Number
takes_number = record { some = λ at b x d. rw (d.whole, length-append) (omega arith) }

takes_run : (n : ℕ) → 1 ≤ n → Takes (Run n)
takes_run n h = record { some = λ at b x d. omega (arith, d.1) }

takes_then : {A B : Type 0} {F : Form A} {G : A → Form B} → Takes F → Takes (Then F G)
takes_then one = record { some = λ at b y d. let some = one.some at d.front d.value d.one in rw (d.whole, length-append) (omega arith) }

takes_field : (n : ℕ) → 1 ≤ n → Takes (Field n)
takes_field n h = takes_then (takes_run n h)

-- ## What ends within the largest file
record Within {A : Type 0} (F : Form A) (P : A → Type 0) : Type 0 where
  holds : (at : ℕ) (b : Bytes) (x : A) → F at b x → at + length b ≤ MOST → P x

any : {A : Type 0} {F : Form A} → Within F (λ _. Unit {0})
any = record { holds = λ at b x d fits. tt }

within_then : {A B : Type 0} {F : Form A} {G : A → Form B} {Q : A → Type 0} {P : B → Type 0} → Within F Q → ((x : A) → Q x → Within (G x) P) → Within (Then F G) P
within_then one two = record {
  holds = λ at b y d fits.
      let size : length b ≡ length d.front + length d.back = ap length d.whole ∙ length-append d.front d.back in
      (two d.value (one.holds at d.front d.value d.one (omega arith))).holds (at + length d.front) d.back y d.two (omega arith);
}

within-is : {A : Type 0} {x : A} {P : A → Type 0} → P x → Within (Is x) P
within-is p = record { holds = λ at b y d fits. rw (← d.1) p }

within-here : Within Here (λ place. place ≤ MOST)
within-here = record { holds = λ at b x d fits. rw (← d.1) (omega arith) }

within_given : {Q : Type 0} → Within (Given Q) (λ _. Q)
within_given = record { holds = λ at b x d fits. d.1 }

within_nothing : {A : Type 0} {P : A → Type 0} → Within {A = A} Nothing P
within_nothing = record { holds = λ at b x d fits. absurd d }

within-run : (n : ℕ) → Within (Run n) (λ b. length b ≤ MOST)
within-run n = record { holds = λ at b x d fits. rw (← d.0) (omega arith) }

many-length : {A : Type 0} {F : Form A} → Takes F → (n : ℕ) (at : ℕ) (b : Bytes) (xs : List A) → Many n F at b xs → length xs ≤ length b
many-length one zero at b xs d = rw (← d.1) (omega arith)
many-length one (suc n) at b xs d =
    let rest = d.two in
    let some = one.some at d.front d.value d.one in
    let more = many-length one n _ rest.front rest.value rest.one in
    let first : length b ≡ length d.front + length d.back = ap length d.whole ∙ length-append d.front d.back in
    let second : length d.back ≡ length rest.front + length rest.back = ap length rest.whole ∙ length-append rest.front rest.back in
    let size : suc (length rest.value) ≡ length xs = ap length rest.two.1 in
    omega arith

within-many : {A : Type 0} {F : Form A} (n : ℕ) → Takes F → Within (Many n F) (λ xs. length xs ≤ MOST)
within-many n one = record { holds = λ at b xs d fits. let fewer = many-length one n at b xs d in omega arith }

abbrev Few : {A : Type 0} → Listed A → Type 0
Few l = (length l.items ≤ MOST) × (l.place ≤ MOST)

within-counted : {A : Type 0} {F : Form A} → Takes F → Within (Counted F) Few
within-counted one = within_then any λ n _. within_then within-here λ place p. within_then (within-many n one) λ items h. within-is (h, p)

within-counted_up_to : {A : Type 0} {F : Form A} (limit : ℕ) → Takes F → Within (CountedUpTo limit F) Few
within-counted_up_to limit one = within_then any λ n _. within_then any λ _ _. within_then within-here λ place p. within_then (within-many n one) λ items h. within-is (h, p)

-- ## Functions
abbrev Small : List Prototype → Type 0
Small ps = All (λ p. All (λ n. n ≤ MOST) (index_row p)) ps

within-forest : (n depth : ℕ) {F : Where → Form (List Prototype)} (w : Where) → w.parent ≤ MOST → w.depth ≡ depth
    → ((v : Where) → v.parent ≤ MOST → v.depth ≡ depth → Within (F v) Small) → Within (Forest n F w) Small
within-forest zero depth w parent level one = within-is tt
within-forest (suc n) depth w parent level one =
    within_then (one w parent level) λ ps h. within_then (within-forest n depth (after ps w) parent level one) λ more k. within-is (all_append _ ps more h k)

module _ (L : ResourceLimits) (few : L.max_total_prototypes ≤ MOST) where
  within-body : {F : Where → Form (List Prototype)} (w : Where) → w.number ≤ MOST → w.parent ≤ MOST → w.depth ≤ DEEPEST
      → ((v : Where) → v.parent ≤ MOST → v.depth ≡ w.depth + 1 → Within (F v) Small) → Within (Body L F w) Small
  unfolding Body
  within-body w number parent depth one =
      within_then within-here λ start h1.
      within_then any λ spelt _.
      within_then any λ line_defined _.
      within_then any λ last_line_defined _.
      within_then any λ numparams _.
      within_then any λ is_vararg _.
      within_then any λ maxstacksize _.
      within_then any λ size _.
      within_then any λ _ _.
      within_then any λ _ _.
      within_then within-here λ instructions_at h11.
      within_then (within-many size (takes_field 4 (omega arith))) λ instructions h2.
      within_then (within-counted_up_to L.max_constants_per_proto (takes_then (takes_field 1 (omega arith)))) λ constants h3.
      within_then (within-counted_up_to L.max_upvalues_per_proto (takes_then (takes_field 1 (omega arith)))) λ upvalues h4.
      within_then any λ protos _.
      within_then within_given λ _ h5.
      within_then any λ protos-at _.
      within_then (within-forest protos (w.depth + 1) (within w (inherit spelt w.source) (length instructions)) number refl one) λ nested rest.
      within_then any λ line-info-size _.
      within_then any λ line-info-at _.
      within_then (within-run line-info-size) λ line_info_lem h6.
      within_then (within-counted (takes_then takes_number)) λ abs_line_info h7.
      within_then (within-counted (takes_then (takes_then (takes_then takes_number)))) λ loc_vars h8.
      within_then (within-counted (takes_then takes_number)) λ upvalue_names_lem h9.
      within_then within-here λ end h10.
      within-is ((h1, (h10, (omega arith, (parent, (h2, (h3.0, (h4.0, (omega arith, (h6, (h7.0, (h8.0, (h9.0, (h11, (h3.1, tt)))))))))))))), rest)

  within-function : (left : ℕ) (w : Where) → w.number ≤ MOST → w.parent ≤ MOST → w.depth + left ≤ DEEPEST → Within (Function L left w) Small
  unfolding Function
  within-function zero w number parent depth = within-body w number parent (omega arith) λ v _ _. within_nothing
  within-function (suc left) w number parent depth =
      within-body w number parent (omega arith) λ v p d.
      within_then within_given λ _ h.
      within-function left v (omega arith) p (omega arith)

  pub small-main : L.max_nesting_depth ≤ DEEPEST → (front : Bytes) (m : Loaded) → length front ≤ MOST → Main L 0 front m → Small m.functions
  small-main deep front m short d = all.holds 0 front m d (omega arith)
    where
      all : Within (Main L) (λ m. Small m.functions)
      all = within_then any λ _ _. within_then any λ _ _. within_then (within-function L.max_nesting_depth _ (omega arith) (omega arith) (omega arith)) λ functions h. within-is h

-- ## What is stored
low_small : (n : ℕ) → n ≤ MOST → low n ≡ n
low_small n h = omega arith

lows_small : (ns : List ℕ) → All (λ n. n ≤ MOST) ns → map low ns ≡ ns
lows_small [] h = refl
lows_small (n ∷ ns) h = λ i. low_small n h.0 i ∷ lows_small ns h.1 i

pub stored-index : (ps : List Prototype) → Small ps → stored ps ≡ index ps
stored-index [] h = refl
stored-index (p ∷ ps) h = λ i. lows_small (index_row p) h.0 i ++ stored-index ps h.1 i
