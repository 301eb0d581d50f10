-- The count that goes along with the readers is the grammar's, so it is one: however bytes are a chunk, it is spelt alike.
--     Tells c p            the count c is the tally p of whatever bytes of the form stand there
--     spelling-is          the readers' count is the grammar's
--     spelling_unique      two ways in which bytes are a chunk have the same count
-- Assumes nothing.
use mathlib.Core.Path.{◌≡◌, refl, sym, ◌∙◌, ap}
use mathlib.Core.Bool.{Bool, true, false, cond}
use mathlib.Core.List.{List, [], ◌∷◌, ◌++◌, append_assoc}
use Prim.Native.Nat.{ℕ, zero, suc, ◌+◌, ◌-◌, ◌≤◌}
use native.Mathlib.Omega.{arith}
use native.Mathlib.Nat.{add-zero}
use lib.Dec.{eqb}
use lib.ListN.{length}
use Rattle.format.specs.declared.limits.ResourceLimits.{ResourceLimits}
use Rattle.format.specs.Form.{Bytes, Form, Here, Given, Nothing}
use Rattle.format.specs.Reading.{Prototype, Reading}
use Rattle.format.specs.GrammarChunk.{inherit, Where, after, within, outermost, Body, Function, Chunk}
use Rattle.format.specs.Read.{Reader}
use Rattle.format.specs.declared.spelling.Spelling.{Spelling}
use Rattle.format_spelling.specs.Spelling.{same, ◌⊕◌, filling, dropping, Tally}
use Rattle.format_spelling.specs.Spelling as tally
use Rattle.format_spelling.specs.ReadSpelling.{Count, none, plus}
use Rattle.format_spelling.specs.ReadSpelling as count
use Rattle.format.proofs.Exact.{Exact}
use Rattle.format.specs.declared.refusal.Refusal.TheVariants.{Constants, Upvalues, TotalPrototypes}
use Rattle.format.proofs.Exact.{exact_then, exact_place, exact_at_most, exact_run, exact_many}
use Rattle.format.proofs.ExactFields.{exact_number, exact_field, exact_string}
use Rattle.format.proofs.ExactHeader.{exact_header}
use Rattle.format.proofs.ExactChunk.{exact_refuse, exact_counted, exact_counted_up_to, exact_constant, exact_always, exact_upvalue, exact_anchor, exact_local, exact_forest, exact_function}
use Rattle.format_spelling.proofs.Sums.{join_same, same_join}
use Rattle.format_spelling.proofs.PaddedFirst.{padded_first}

-- ## What a count is made of
pub record Tells {A : Type 0} {F : Form A} (c : Count) (p : Tally F) : Type 0 where
  pub same : (at : ℕ) (bytes : Bytes) (x : A) (rest : Bytes) (d : F at bytes x) → c at (bytes ++ rest) ≡ p.of at bytes x d

pub tells_none : {A : Type 0} {F : Form A} → Tells none (tally.none {F = F})
unfolding tally.none
tells_none = record { same = λ at bytes x rest d. refl }

pub tells_number : Tells count.number tally.number
unfolding tally.number
tells_number = record { same = λ at bytes v rest d. ap (λ n. record { padded = n; filled = 0; sources = 0; repeated = 0 }) (padded_first at bytes v rest d) }

module _ {A B : Type 0} {r : Reader A} {F : Form A} {G : A → Form B} {c : Count} {p : Tally F} {f : A → Count} {q : (x : A) → Tally (G x)} where
  pub tells_both : Exact r F → Tells c p → ((x : A) → Tells (f x) (q x)) → Tells (plus r c f) (tally.both p q)
  unfolding tally.both
  tells_both exact one two = record {
    same = λ at bytes y rest d.
        rw (d.whole, append_assoc, exact.complete (d.back ++ rest) d.one, one.same at d.front d.value (d.back ++ rest) d.one)
        (ap (λ n. p.of at d.front d.value d.one ⊕ n) ((two d.value).same (at + length d.front) d.back y rest d.two));
  }

module _ {A : Type 0} {r : Reader A} {F : Form A} {c : Count} {p : Tally F} where
  pub tells_besides : (f : A → Spelling) → Exact r F → Tells c p → Tells (count.besides r c f) (tally.besides p f)
  unfolding tally.besides
  tells_besides f exact one = record { same = λ at bytes x rest d. rw (exact.complete rest d) (ap (λ n. n ⊕ f x) (one.same at bytes x rest d)) }

-- the last part has no number, and is not counted
pub tells_last : {A B : Type 0} {F : Form A} {G : A → Form B} {c : Count} {p : Tally F} → Tells c p → Tells c (tally.both p (λ x. tally.none {F = G x}))
unfolding tally.both tally.none
tells_last {c} {p} one = record {
  same = λ at bytes y rest d.
      ap (c at) (ap (λ b. b ++ rest) d.whole ∙ append_assoc d.front d.back rest) ∙ one.same at d.front d.value (d.back ++ rest) d.one ∙ sym (join_same _);
}

-- a part without bytes
module _ {A B : Type 0} {F : Form A} {G : A → Form B} {f : Count} {q : (x : A) → Tally (G x)} where
  tells_skip : ((at : ℕ) (b : Bytes) (x : A) → F at b x → b ≡ []) → ((x : A) → Tells f (q x)) → Tells f (tally.both (tally.none {F = F}) q)
  unfolding tally.both tally.none
  tells_skip empty two = record {
    same = λ at bytes y rest d.
        let e : d.front ≡ [] = empty at d.front d.value d.one in
        let here : at ≡ at + length d.front = rw e (sym (add-zero at)) in
        let all : bytes ≡ d.back = d.whole ∙ ap (λ l. l ++ d.back) e in
        (λ i. f (here i) (all i ++ rest)) ∙ (two d.value).same (at + length d.front) d.back y rest d.two ∙ sym (same_join _);
  }

given_empty : {P : Type 0} (at : ℕ) (b : Bytes) (x : Unit {0}) → Given P at b x → b ≡ []
given_empty at b x d = d.0

here_empty : (at : ℕ) (b : Bytes) (x : ℕ) → Here at b x → b ≡ []
here_empty at b x d = d.0

-- ## The productions
pub tells_string : (limit : ℕ) → Tells count.string (tally.string limit)
unfolding tally.string
tells_string limit = tells_last tells_number

pub tells_many : {A : Type 0} {r : Reader A} {F : Form A} {c : Count} {p : Tally F} (n : ℕ) → Exact r F → Tells c p → Tells (count.many n r c) (tally.each n p)
unfolding tally.each
tells_many zero exact one = tells_none
tells_many (suc n) exact one = tells_both exact one λ x. tells_last (tells_many n exact one)

pub tells_counted : {A : Type 0} {r : Reader A} {F : Form A} {c : Count} {p : Tally F} → Exact r F → Tells c p → Tells (count.counted r c) (tally.counted p)
unfolding tally.counted
tells_counted exact one = tells_both exact_number tells_number λ n. tells_skip here_empty λ place. tells_last (tells_many n exact one)

pub tells_counted_up_to : {A : Type 0} {r : Reader A} {F : Form A} {c : Count} {p : Tally F} (limit : ℕ) → Exact r F → Tells c p → Tells (count.counted r c) (tally.counted_up_to limit p)
unfolding tally.counted_up_to
tells_counted_up_to limit exact one = tells_both exact_number tells_number λ n. tells_skip given_empty λ _. tells_skip here_empty λ place. tells_last (tells_many n exact one)

pub tells_always : (limit : ℕ) (instead : Bytes) → Tells (count.always limit) (tally.always limit instead)
unfolding tally.always
tells_always limit instead = tells_last (tells_besides filling (exact_string limit) (tells_string limit))

tells_either : {A : Type 0} {F G : Form A} {c d : Count} {p : Tally F} {q : Tally G} (b : Bool) → Tells c p → Tells d q → Tells (cond b c d) (tally.either b p q)
unfolding tally.either
tells_either true one two = one
tells_either false one two = two

pub tells_tagged : (limit tag : ℕ) → Tells (count.tagged limit tag) (tally.tagged limit tag)
unfolding tally.tagged
tells_tagged limit tag =
    tells_either (eqb tag 0) tells_none
    (tells_either (eqb tag 1) tells_none
    (tells_either (eqb tag 17) tells_none
    (tells_either (eqb tag 3) tells_none
    (tells_either (eqb tag 19) tells_none
    (tells_either (eqb tag 4) (tells_last (tells_always limit []))
    (tells_either (eqb tag 20) (tells_last (tells_always limit []))
    tells_none))))))

pub tells_constant : (limit : ℕ) → Tells (count.constant limit) (tally.constant limit)
unfolding tally.constant
tells_constant limit = tells_both (exact_field 1) tells_none λ tag. tells_tagged limit tag

pub tells_anchor : Tells count.anchor tally.anchor
unfolding tally.anchor
tells_anchor = tells_both exact_number tells_number λ pc. tells_last tells_number

pub tells_local : (limit : ℕ) → Tells (count.local limit) (tally.local limit)
unfolding tally.local
tells_local limit = tells_both (exact_always limit (63 ∷ [])) (tells_always limit (63 ∷ [])) λ name. tells_both exact_number tells_number λ startpc. tells_last tells_number

pub tells_source : (limit : ℕ) (w : Where) → Tells (count.source limit w) (tally.source limit w)
unfolding tally.source
tells_source limit w = tells_besides (dropping w) (exact_string limit) (tells_string limit)

pub tells_forest : (n : ℕ) {r : Where → Reader (List Prototype)} {F : Where → Form (List Prototype)} {c : Where → Count} {p : (w : Where) → Tally (F w)} (w : Where) → ((w : Where) → Exact (r w) (F w)) → ((w : Where) → Tells (c w) (p w))
    → Tells (count.forest n r c w) (tally.forest n p w)
unfolding tally.forest
tells_forest zero w exact one = tells_none
tells_forest (suc n) w exact one = tells_both (exact w) (one w) λ ps. tells_last (tells_forest n (after ps w) exact one)

pub tells_body : (L : ResourceLimits) {r : Where → Reader (List Prototype)} {F : Where → Form (List Prototype)} {c : Where → Count} {p : (w : Where) → Tally (F w)} → ((w : Where) → Exact (r w) (F w)) → ((w : Where) → Tells (c w) (p w))
    → (w : Where) → Tells (count.body L r c w) (tally.body L p w)
unfolding count.body tally.body Body
tells_body L exact one w =
    tells_skip here_empty λ start.
    tells_both (exact_string L.max_string_bytes) (tells_source L.max_string_bytes w) λ spelt.
    tells_both exact_number tells_number λ line_defined.
    tells_both exact_number tells_number λ last_line_defined.
    tells_both (exact_field 1) tells_none λ numparams.
    tells_both (exact_field 1) tells_none λ is_vararg.
    tells_both (exact_field 1) tells_none λ maxstacksize.
    tells_both exact_number tells_number λ size.
    tells_skip given_empty λ _.
    tells_skip given_empty λ _.
    tells_skip here_empty λ instructions_at.
    tells_both (exact_many size (exact_field 4)) tells_none λ instructions.
    tells_both (exact_counted_up_to L.max_constants_per_proto Constants (exact_constant L.max_string_bytes))
    (tells_counted_up_to L.max_constants_per_proto (exact_constant L.max_string_bytes) (tells_constant L.max_string_bytes)) λ constants.
    tells_both (exact_counted_up_to L.max_upvalues_per_proto Upvalues exact_upvalue) (tells_counted_up_to L.max_upvalues_per_proto exact_upvalue tells_none) λ upvalues.
    tells_both exact_number tells_number λ protos.
    tells_skip given_empty λ _.
    tells_skip here_empty λ protos-at.
    tells_both (exact_forest protos (within w (inherit spelt w.source) (length instructions)) exact) (tells_forest protos (within w (inherit spelt w.source) (length instructions)) exact one) λ nested.
    tells_both exact_number tells_number λ line-info-size.
    tells_skip here_empty λ line-info-at.
    tells_both (exact_run line-info-size) tells_none λ line_info_lem.
    tells_both (exact_counted exact_anchor) (tells_counted exact_anchor tells_anchor) λ abs_line_info.
    tells_both (exact_counted (exact_local L.max_string_bytes)) (tells_counted (exact_local L.max_string_bytes) (tells_local L.max_string_bytes)) λ loc_vars.
    tells_last (tells_counted (exact_string L.max_string_bytes) (tells_string L.max_string_bytes))

-- nothing is of no form
tells_nothing : {A : Type 0} {c : Count} {p : Tally {A = A} Nothing} → Tells c p
tells_nothing = record { same = λ at bytes x rest d. absurd d }

pub tells_function : (L : ResourceLimits) (left : ℕ) (w : Where) → Tells (count.function L left w) (tally.function L left w)
unfolding count.function tally.function Function
tells_function L zero w = tells_body L (λ w. exact_place λ place. exact_refuse _) (λ w. tells_nothing) w
tells_function L (suc left) w =
    tells_body L (λ w. exact_place λ place. exact_then (exact_at_most w.number L.max_total_prototypes (TotalPrototypes place)) λ _. exact_function L left w) (λ w. tells_skip given_empty λ _. tells_function L left w) w

tells_main : (L : ResourceLimits) → Tells (count.main L) (tally.main L)
unfolding tally.main
tells_main L = tells_both exact_header tells_none λ headed. tells_both (exact_field 1) tells_none λ forgotten. tells_last (tells_function L L.max_nesting_depth outermost)

-- ## Chunks
pub spelling-is : {L : ResourceLimits} {chunk : Bytes} {r : Reading} (c : Chunk L chunk r) → count.spelling L chunk ≡ tally.spelling_of c
unfolding count.spelling tally.spelling_of
spelling-is {L} c = ap (count.main L 0) c.whole ∙ ((tells_main L).same 0 c.front c.value c.trailing c.main)

pub spelling_unique : {L : ResourceLimits} {chunk : Bytes} {r q : Reading} (c : Chunk L chunk r) (d : Chunk L chunk q) → tally.spelling_of c ≡ tally.spelling_of d
spelling_unique c d = sym (spelling-is c) ∙ spelling-is d

pub padded-respelt : {L : ResourceLimits} {chunk : Bytes} {r : Reading} (c : Chunk L chunk r) → tally.padded_in c ≤ tally.respelt_in c
padded-respelt c = omega arith
