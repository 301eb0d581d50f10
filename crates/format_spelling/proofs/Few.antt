-- No count exceeds the bytes, for every production: this closes every sum of counts.
--     Within a n           of each sort at most n
--     Few p                no more than the bytes of the form
--     bounded              so no more than the bytes that a reader passes over
-- Assumes nothing.
use mathlib.Core.Path.{◌≡◌, refl, sym, ◌∙◌, ap}
use mathlib.Core.Bool.{Bool, true, false, cond}
use mathlib.Core.List.{List, [], ◌∷◌}
use mathlib.Core.Option.{Option}
use mathlib.Core.Option as option
use Prim.Native.Nat.{ℕ, zero, suc, ◌+◌, ◌-◌, ◌≤◌}
use native.Mathlib.Omega.{arith}
use lib.Dec.{eqb, ltb}
use lib.ListN.{length, length-append}
use Rattle.format.specs.declared.limits.ResourceLimits.{ResourceLimits}
use Rattle.format.specs.Form.{Bytes, Form}
use Rattle.format.specs.GrammarFields.{LuaString}
use Rattle.format.specs.Reading.{Prototype, Reading}
use Rattle.format.specs.GrammarChunk.{inherit, Where, after, within, outermost, Body, Function, Chunk}
use Rattle.format.specs.Shortest.{shortest}
use Rattle.format.specs.FullCopy.{equal_sources}
use Rattle.format.specs.Read.{ok, Reader}
use Rattle.format.specs.declared.spelling.Spelling.{Spelling}
use Rattle.format_spelling.specs.Spelling.{same, filling, dropping, Tally}
use Rattle.format_spelling.specs.Spelling as tally
use Rattle.format_spelling.specs.ReadSpelling.{Count, none}
use Rattle.format.proofs.Exact.{Exact}
use Rattle.format_spelling.proofs.SpellingLaws.{Tells}

pub record Within (a : Spelling) (n : ℕ) : Type 0 where
  pub padded : a.padded ≤ n
  pub filled : a.filled ≤ n
  pub sources : a.sources ≤ n
  pub repeated : a.repeated ≤ n

pub record Few {A : Type 0} {F : Form A} (p : Tally F) : Type 0 where
  pub few : (at : ℕ) (bytes : Bytes) (x : A) (d : F at bytes x) → Within (p.of at bytes x d) (length bytes)

pub few_none : {A : Type 0} {F : Form A} → Few (tally.none {F = F})
unfolding tally.none
few_none = record { few = λ at bytes x d. record { padded = omega arith; filled = omega arith; sources = omega arith; repeated = omega arith } }

either-one : (b : Bool) {m n : ℕ} → m ≤ 1 → n ≤ 1 → cond b m n ≤ 1
either-one true h k = h
either-one false h k = k

at_most_one : (b : Bool) → cond b 1 0 ≤ 1
at_most_one b = either-one b (omega arith) (omega arith)

pub few_number : Few tally.number
unfolding tally.number
few_number = record {
  few = λ at bytes v d.
      let size : length bytes ≡ length d.more + 1 = ap length d.whole ∙ length-append d.more (d.last ∷ []) in
      record { padded = omega (arith, size, at_most_one (ltb (length (shortest v)) (length bytes))); filled = omega arith; sources = omega arith; repeated = omega arith };
}

pub few_both : {A B : Type 0} {F : Form A} {G : A → Form B} {p : Tally F} {q : (x : A) → Tally (G x)} → Few p → ((x : A) → Few (q x)) → Few (tally.both p q)
unfolding tally.both
few_both one two = record {
  few = λ at bytes y d.
      let size : length bytes ≡ length d.front + length d.back = ap length d.whole ∙ length-append d.front d.back in
      let a = one.few at d.front d.value d.one in
      let b = (two d.value).few (at + length d.front) d.back y d.two in
      record { padded = omega (arith, size, a.padded, b.padded); filled = omega (arith, size, a.filled, b.filled); sources = omega (arith, size, a.sources, b.sources); repeated = omega (arith, size, a.repeated, b.repeated) };
}

-- so a count does not exceed the bytes passed over
pub bounded : {A : Type 0} {r : Reader A} {F : Form A} {c : Count} {p : Tally F} → Exact r F → Tells c p → Few p → {at : ℕ} {s : Bytes} {x : A} {to : ℕ} {rest : Bytes} → r at s ≡ ok x to rest
    → (n : ℕ) × (at + n ≡ to) × Within (c at s) n
bounded {c} exact tells few {at} {s} {x} {to} {rest} e =
    let a = exact.sound e in
    let same : c at s ≡ _ = ap (c at) a.whole ∙ tells.same at a.bytes x rest a.spelt in
    (length a.bytes, sym a.place, rw same (few.few at a.bytes x a.spelt))

pub few_string : (limit : ℕ) → Few (tally.string limit)
unfolding tally.string
few_string limit = few_both few_number λ size. few_none

pub few_each : {A : Type 0} {F : Form A} {p : Tally F} (n : ℕ) → Few p → Few (tally.each n p)
unfolding tally.each
few_each zero one = few_none
few_each (suc n) one = few_both one λ x. few_both (few_each n one) λ xs. few_none

pub few_anchor : Few tally.anchor
unfolding tally.anchor
few_anchor = few_both few_number λ pc. few_both few_number λ line. few_none

-- a string, and what there is by its value: at most one of each sort, and no padded number
record Small (a : Spelling) : Type 0 where
  padded : a.padded ≡ 0
  filled : a.filled ≤ 1
  sources : a.sources ≤ 1
  repeated : a.repeated ≤ 1

filling-small : (t : Option LuaString) → Small (filling t)
filling-small option.none = record { padded = refl; filled = omega arith; sources = omega arith; repeated = omega arith }
filling-small (option.some t) = record { padded = refl; filled = omega arith; sources = omega arith; repeated = omega arith }

dropping-small : (w : Where) (t : Option LuaString) → Small (dropping w t)
dropping-small w option.none = record { padded = refl; filled = omega arith; sources = omega arith; repeated = omega arith }
dropping-small w (option.some t) = record { padded = refl; filled = omega arith; sources = either-one (eqb w.number 0) (omega arith) (omega arith); repeated = at_most_one (equal_sources (option.some t) w.source) }

few_besides : (limit : ℕ) (f : Option LuaString → Spelling) → ((t : Option LuaString) → Small (f t)) → Few (tally.besides (tally.string limit) f)
unfolding tally.besides tally.string tally.both tally.none tally.number
few_besides limit f small = record {
  few = λ at bytes t d.
      let k = small t in
      let n = d.one in
      let size : length bytes ≡ length d.front + length d.back = ap length d.whole ∙ length-append d.front d.back in
      let one : length d.front ≡ length n.more + 1 = ap length n.whole ∙ length-append n.more (n.last ∷ []) in
      let long = at_most_one (ltb (length (shortest d.value)) (length d.front)) in
      record { padded = omega (arith, size, one, long, k.padded); filled = omega (arith, size, one, k.filled); sources = omega (arith, size, one, k.sources); repeated = omega (arith, size, one, k.repeated) };
}

pub few_counted : {A : Type 0} {F : Form A} {p : Tally F} → Few p → Few (tally.counted p)
unfolding tally.counted
few_counted one = few_both few_number λ n. few_both few_none λ place. few_both (few_each n one) λ items. few_none

pub few_counted_up_to : {A : Type 0} {F : Form A} {p : Tally F} (limit : ℕ) → Few p → Few (tally.counted_up_to limit p)
unfolding tally.counted_up_to
few_counted_up_to limit one = few_both few_number λ n. few_both few_none λ _. few_both few_none λ place. few_both (few_each n one) λ items. few_none

pub few_always : (limit : ℕ) (instead : Bytes) → Few (tally.always limit instead)
unfolding tally.always
few_always limit instead = few_both (few_besides limit filling filling-small) λ t. few_none

few_either : {A : Type 0} {F G : Form A} {p : Tally F} {q : Tally G} (b : Bool) → Few p → Few q → Few (tally.either b p q)
unfolding tally.either
few_either true one two = one
few_either false one two = two

pub few_tagged : (limit tag : ℕ) → Few (tally.tagged limit tag)
unfolding tally.tagged
few_tagged limit tag =
    few_either (eqb tag 0) few_none
    (few_either (eqb tag 1) few_none
    (few_either (eqb tag 17) few_none
    (few_either (eqb tag 3) few_none
    (few_either (eqb tag 19) few_none
    (few_either (eqb tag 4) (few_both (few_always limit []) λ t. few_none)
    (few_either (eqb tag 20) (few_both (few_always limit []) λ t. few_none)
    few_none))))))

pub few_constant : (limit : ℕ) → Few (tally.constant limit)
unfolding tally.constant
few_constant limit = few_both few_none λ tag. few_tagged limit tag

pub few_local : (limit : ℕ) → Few (tally.local limit)
unfolding tally.local
few_local limit = few_both (few_always limit (63 ∷ [])) λ name. few_both few_number λ startpc. few_both few_number λ endpc. few_none

pub few_source : (limit : ℕ) (w : Where) → Few (tally.source limit w)
unfolding tally.source
few_source limit w = few_besides limit (dropping w) (dropping-small w)

pub few_forest : (n : ℕ) {F : Where → Form (List Prototype)} {p : (w : Where) → Tally (F w)} (w : Where) → ((w : Where) → Few (p w)) → Few (tally.forest n p w)
unfolding tally.forest
few_forest zero w one = few_none
few_forest (suc n) w one = few_both (one w) λ ps. few_both (few_forest n (after ps w) one) λ more. few_none

pub few_body : (L : ResourceLimits) {F : Where → Form (List Prototype)} {p : (w : Where) → Tally (F w)} → ((w : Where) → Few (p w)) → (w : Where) → Few (tally.body L p w)
unfolding tally.body Body
few_body L one w =
    few_both few_none λ start.
    few_both (few_source L.max_string_bytes w) λ spelt.
    few_both few_number λ line_defined.
    few_both few_number λ last_line_defined.
    few_both few_none λ numparams.
    few_both few_none λ is_vararg.
    few_both few_none λ maxstacksize.
    few_both few_number λ size.
    few_both few_none λ _.
    few_both few_none λ _.
    few_both few_none λ instructions_at.
    few_both few_none λ instructions.
    few_both (few_counted_up_to L.max_constants_per_proto (few_constant L.max_string_bytes)) λ constants.
    few_both (few_counted_up_to L.max_upvalues_per_proto few_none) λ upvalues.
    few_both few_number λ protos.
    few_both few_none λ _.
    few_both few_none λ protos-at.
    few_both (few_forest protos (within w (inherit spelt w.source) (length instructions)) one) λ nested.
    few_both few_number λ line-info-size.
    few_both few_none λ line-info-at.
    few_both few_none λ line_info_lem.
    few_both (few_counted few_anchor) λ abs_line_info.
    few_both (few_counted (few_local L.max_string_bytes)) λ loc_vars.
    few_both (few_counted (few_string L.max_string_bytes)) λ upvalue_names_lem.
    few_none

pub few_function : (L : ResourceLimits) (left : ℕ) (w : Where) → Few (tally.function L left w)
unfolding tally.function Function
few_function L zero w = few_body L (λ w. few_none) w
few_function L (suc left) w = few_body L (λ w. few_both few_none λ _. few_function L left w) w

few_main : (L : ResourceLimits) → Few (tally.main L)
unfolding tally.main
few_main L = few_both few_none λ headed. few_both few_none λ forgotten. few_both (few_function L L.max_nesting_depth outermost) λ functions. few_none

pub spelling_few : {L : ResourceLimits} {chunk : Bytes} {r : Reading} (c : Chunk L chunk r) → Within (tally.spelling_of c) (length chunk)
unfolding tally.spelling_of
spelling_few {L} {chunk} c =
    let k = (few_main L).few 0 c.front c.value c.main in
    let size : length chunk ≡ length c.front + length c.trailing = ap length c.whole ∙ length-append c.front c.trailing in
    record { padded = omega (arith, size, k.padded); filled = omega (arith, size, k.filled); sources = omega (arith, size, k.sources); repeated = omega (arith, size, k.repeated) }
