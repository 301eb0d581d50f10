-- What is refused with 1 or 2 can go on: with some bytes behind it the same file is accepted, or refused for what is there (3 to 20). So no reader that calls a file cut short for good is ours, whatever place it
-- names. (`Lack`, CutShort.antt, alone holds of `endless`, which calls every file cut short where it ends.) One law for each way to make a reader.
--     Judged o         neither 1 nor 2
--     Continues r      from any place on, any bytes can be continued so that r judges them
--     continues        the reader of a chunk
--     endless_lacks, not_endless
-- Assumes nothing.
use mathlib.Core.Path.{◌≡◌, refl, sym, ◌∙◌, ap, subst}
use mathlib.Core.Bool.{Bool, true, false, cond}
use mathlib.Core.List.{List, [], ◌∷◌, ◌++◌, append_assoc}
use Prim.Native.Nat.{ℕ, zero, suc, ◌+◌, ◌-◌, ◌*◌, ◌%◌, ◌≤◌, ◌<◌, ◌^◌}
use native.Mathlib.Omega.{arith}
use lib.Dec.{leb, ltb, eqb}
use lib.ListN.{length, replicate, length-append, length-replicate}
use borrow.Author.Tests.{le-leb}
use Rattle.format.specs.declared.limits.ResourceLimits.{ResourceLimits}
use Rattle.format.specs.declared.refusal.Refusal.{Refusal}
use Rattle.format.specs.declared.refusal.Refusal.TheVariants as q
use Rattle.format.specs.Refusals.{reported}
use Rattle.format.specs.Form.{Bytes, Form}
use Rattle.format.specs.Reading.{Prototype}
use Rattle.format.specs.GrammarHeader.{signature, luac_data, luac_int, luac_num}
use Rattle.format.specs.GrammarChunk.{inherit, Where, after, within}
use Rattle.format.specs.Read.{Read, ok, refused, Reader, next, ◌>>=◌, give, here, refuse, test, at_most, run, many}
use Rattle.format.specs.ReadFields.{field, groups, number, content, string}
use Rattle.format.specs.ReadHeader.{same_bytes, expect, before_format, behind_format, header}
use Rattle.format.specs.ReadChunk.{counted, counted_up_to, always, constant, upvalue, anchor, local, forest, body, function, main}
use Rattle.format.proofs.Exact.{Exact, exact_place, exact_then, exact_at_most, exact_run, exact_many}
use Rattle.format.proofs.ExactFields.{exact_field, exact_number, exact_string}
use Rattle.format.proofs.ExactHeader.{exact_expect, exact_before, exact_behind, exact_header}
use Rattle.format.proofs.ExactChunk.{exact_counted, exact_counted_up_to, exact_always, exact_constant, exact_upvalue, exact_anchor, exact_local, exact_forest, exact_function, exact_refuse}
use Rattle.demands.proofs.InOrder.{Lack}

abbrev pub Judged : {A : Type 0} → Read A → Type 0
Judged (ok x to rest) = Unit {0}
Judged (refused p) = 2 < (reported p).number

pub record Continues {A : Type 0} (r : Reader A) : Type 0 where
  pub on : (at : ℕ) (s : Bytes) → (t : Bytes) × Judged (r at (s ++ t))

-- ## Ways to make a reader
pub on-give : {A : Type 0} (x : A) → Continues (give x)
on-give x = record { on = λ at s. ([], tt) }

pub on-refuse : {A : Type 0} (p : Refusal) → 2 < (reported p).number → Continues {A = A} (refuse p)
on-refuse p h = record { on = λ at s. ([], h) }

pub on-here : {B : Type 0} {f : ℕ → Reader B} → ((place : ℕ) → Continues (f place)) → Continues (here >>= f)
on-here two = record { on = λ at s. (two at).on at s }

pub on_then : {A B : Type 0} {r : Reader A} {F : Form A} {f : A → Reader B} → Exact r F → Continues r → ((x : A) → Continues (f x)) → Continues (r >>= f)
on_then {A} {B} {r} {F} {f} exact one two = record { on = λ at s. (let more = one.on at s in by at s more.0 (r at (s ++ more.0)) refl more.1) }
  where
    by : (at : ℕ) (s t : Bytes) (o : Read A) → r at (s ++ t) ≡ o → Judged o → (t : Bytes) × Judged (next (r at (s ++ t)) f)
    by at s t (ok x to rest) is j =
        let a = exact.sound is in
        let more = (two x).on to rest in
        let u = more.0 in
        let bytes : s ++ (t ++ u) ≡ a.bytes ++ (rest ++ u) = sym (append_assoc s t u) ∙ ap (λ b. b ++ u) a.whole ∙ append_assoc a.bytes rest u in
        let same : r at (s ++ (t ++ u)) ≡ ok x to (rest ++ u) = ap (r at) bytes ∙ exact.complete (rest ++ u) a.spelt ∙ ap (λ p. ok x p (rest ++ u)) (sym a.place) in
        (t ++ u, subst (λ (o : Read A). Judged (next o f)) (sym same) more.1)
    by at s t (refused p) is j = (t, subst (λ (o : Read A). Judged (next o f)) (sym is) j)

pub on_pick : {A : Type 0} {r s : Reader A} (b : Bool) → Continues r → Continues s → Continues (cond b r s)
on_pick true one two = one
on_pick false one two = two

pub on_test : (b : Bool) (p : Refusal) → 2 < (reported p).number → Continues (test b p)
on_test true p h = on-give tt
on_test false p h = on-refuse p h

pub on-at_most : (n m : ℕ) (p : Refusal) → 2 < (reported p).number → Continues (at_most n m p)
on-at_most n m p h = on_test (leb n m) p h

-- as many zeros are enough
on-run : (n : ℕ) → Continues (run n)
on-run n = record { on = λ at s. (replicate n 0, enough at s) }
  where
    enough : (at : ℕ) (s : Bytes) → Judged (run n at (s ++ replicate n 0))
    enough at s =
        let fits : n ≤ length (s ++ replicate n 0) = omega (arith, length-append s (replicate n 0), length-replicate {A = ℕ} n 0) in
        rw (le-leb n (length (s ++ replicate n 0)) fits) tt

on-many : {A : Type 0} {r : Reader A} {F : Form A} (n : ℕ) → Exact r F → Continues r → Continues (many n r)
on-many zero exact one = on-give []
on-many (suc n) exact one = on_then exact one λ x. on_then (exact_many n exact) (on-many n exact one) λ xs. on-give _

-- ## Fields
pub on-field : (n : ℕ) → Continues (field n)
on-field n = on_then (exact_run n) (on-run n) λ bytes. on-give _

-- a number ends with a byte of 128
on-groups : (high at : ℕ) (s : Bytes) → (t : Bytes) × Judged (groups high at (s ++ t))
on-groups high at [] = (0x80 ∷ [], go (ltb high (2 ^ 57 - 1)))
  where
    go : (fits : Bool) → Judged (cond fits (ok (high * 128 + 0x80 % 128) (at + 1) []) (refused q.VarintOverflow))
    go true = tt
    go false = omega arith
on-groups high at (x ∷ s) = let more = on-groups (high * 128 + x) (at + 1) s in (more.0, go (ltb high (2 ^ 57 - 1)) (ltb x 128) (s ++ more.0) (groups (high * 128 + x) (at + 1) (s ++ more.0)) more.1)
  where
    go : (fits low : Bool) (rest : Bytes) (o : Read ℕ) → Judged o → Judged (cond fits (cond low o (ok (high * 128 + x % 128) (at + 1) rest)) (refused q.VarintOverflow))
    go true true rest o j = j
    go true false rest o j = tt
    go false low rest o j = omega arith

pub on-number : Continues number
on-number = record { on = λ at s. on-groups 0 at s }

on-string : (limit : ℕ) → Continues (string limit)
on-string limit = on-here λ first. on_then exact_number on-number λ size. by first size
  where
    by : (first size : ℕ) → Continues (content limit first size)
    by first zero = on-give _
    by first (suc n) = on_then (exact_at_most n limit (q.StringBytes first)) (on-at_most n limit (q.StringBytes first) (omega arith)) λ _. on-here λ place. on_then (exact_run n) (on-run n) λ bytes. on-give _

-- ## The header
on-expect : (bytes : Bytes) (over : ℕ → Refusal) → ((place : ℕ) → 2 < (reported (over place)).number) → Continues (expect bytes over)
on-expect bytes over h = on-here λ place. on_then (exact_run (length bytes)) (on-run (length bytes)) λ b. on_test (same_bytes b bytes) (over place) (h place)

on-before : Continues before_format
on-before = on_then (exact_expect signature q.Signature) (on-expect signature q.Signature λ place. omega arith) λ _. on-expect (0x54 ∷ []) q.Version λ place. omega arith

on-behind : Continues behind_format
on-behind =
    on_then (exact_expect luac_data q.LuacData) (on-expect luac_data q.LuacData λ place. omega arith) λ _.
    on_then (exact_expect (4 ∷ []) q.InstructionSize) (on-expect (4 ∷ []) q.InstructionSize λ place. omega arith) λ _.
    on_then (exact_expect (8 ∷ []) q.LuaIntegerSize) (on-expect (8 ∷ []) q.LuaIntegerSize λ place. omega arith) λ _.
    on_then (exact_expect (8 ∷ []) q.LuaNumberSize) (on-expect (8 ∷ []) q.LuaNumberSize λ place. omega arith) λ _.
    on_then (exact_expect luac_int q.LuacInt) (on-expect luac_int q.LuacInt λ place. omega arith) λ _.
    on-expect luac_num q.LuacNum λ place. omega arith

on-header : Continues header
on-header = on_then exact_before on-before λ _. on-here λ place. on_then (exact_field 1) (on-field 1) λ format. on_then exact_behind on-behind λ _. on-give _

-- ## Lists and entries
on-counted : {A : Type 0} {r : Reader A} {F : Form A} → Exact r F → Continues r → Continues (counted r)
on-counted exact one = on_then exact_number on-number λ n. on-here λ place. on_then (exact_many n exact) (on-many n exact one) λ items. on-give _

on-counted_up_to : {A : Type 0} {r : Reader A} {F : Form A} (limit : ℕ) (over : ℕ → Refusal) → ((place : ℕ) → 2 < (reported (over place)).number) → Exact r F → Continues r → Continues (counted_up_to limit over r)
on-counted_up_to limit over h exact one =
    on-here λ first.
    on_then exact_number on-number λ n.
    on_then (exact_at_most n limit (over first)) (on-at_most n limit (over first) (h first)) λ _.
    on-here λ place.
    on_then (exact_many n exact) (on-many n exact one) λ items.
    on-give _

on-always : (limit : ℕ) (instead : Bytes) → Continues (always limit instead)
on-always limit instead = on_then (exact_string limit) (on-string limit) λ t. on-here λ place. on-give _

on-constant : (limit : ℕ) → Continues (constant limit)
on-constant limit = on-here λ place. on_then (exact_field 1) (on-field 1) λ tag.
    on_pick (eqb tag 0) (on-give _)
    (on_pick (eqb tag 1) (on-give _)
    (on_pick (eqb tag 17) (on-give _)
    (on_pick (eqb tag 3) (on_then (exact_field 8) (on-field 8) λ n. on-give _)
    (on_pick (eqb tag 19) (on_then (exact_field 8) (on-field 8) λ n. on-give _)
    (on_pick (eqb tag 4) (on_then (exact_always limit []) (on-always limit []) λ t. on-give _)
    (on_pick (eqb tag 20) (on_then (exact_always limit []) (on-always limit []) λ t. on-give _) (on-refuse (q.ConstantTag place) (omega arith))))))))

on-upvalue : Continues upvalue
on-upvalue = on_then (exact_field 1) (on-field 1) λ instack. on_then (exact_field 1) (on-field 1) λ idx. on_then (exact_field 1) (on-field 1) λ kind. on-give _

on-anchor : Continues anchor
on-anchor = on_then exact_number on-number λ pc. on_then exact_number on-number λ line. on-give _

on-local : (limit : ℕ) → Continues (local limit)
on-local limit = on_then (exact_always limit (63 ∷ [])) (on-always limit (63 ∷ [])) λ name. on_then exact_number on-number λ startpc. on_then exact_number on-number λ endpc. on-give _

-- ## Functions
on-forest : (n : ℕ) {r : Where → Reader (List Prototype)} {F : Where → Form (List Prototype)} (w : Where) → ((w : Where) → Exact (r w) (F w)) → ((w : Where) → Continues (r w)) → Continues (forest n r w)
on-forest zero w exact one = on-give []
on-forest (suc n) w exact one = on_then (exact w) (one w) λ ps. on_then (exact_forest n (after ps w) exact) (on-forest n (after ps w) exact one) λ more. on-give (ps ++ more)

module _ (L : ResourceLimits) where
  abbrev limit : ℕ
  limit = L.max_string_bytes

  on-body : {r : Where → Reader (List Prototype)} {F : Where → Form (List Prototype)} → ((w : Where) → Exact (r w) (F w)) → ((w : Where) → Continues (r w)) → (w : Where) → Continues (body L r w)
  unfolding body
  on-body exact one w =
      on-here λ start.
      on_then (exact_string limit) (on-string limit) λ spelt.
      on_then exact_number on-number λ line_defined.
      on_then exact_number on-number λ last_line_defined.
      on_then (exact_field 1) (on-field 1) λ numparams.
      on_then (exact_field 1) (on-field 1) λ is_vararg.
      on_then (exact_field 1) (on-field 1) λ maxstacksize.
      on-here λ first.
      on_then exact_number on-number λ size.
      on_then (exact_at_most size L.max_instructions_per_proto (q.Instructions first)) (on-at_most size L.max_instructions_per_proto (q.Instructions first) (omega arith)) λ _.
      on_then (exact_at_most (w.instructions + size) L.max_total_instructions (q.TotalInstructions first)) (on-at_most (w.instructions + size) L.max_total_instructions (q.TotalInstructions first) (omega arith)) λ _.
      on-here λ instructions_at.
      on_then (exact_many size (exact_field 4)) (on-many size (exact_field 4) (on-field 4)) λ instructions.
      on_then (exact_counted_up_to L.max_constants_per_proto q.Constants (exact_constant limit)) (on-counted_up_to L.max_constants_per_proto q.Constants (λ place. omega arith) (exact_constant limit) (on-constant limit)) λ constants.
      on_then (exact_counted_up_to L.max_upvalues_per_proto q.Upvalues exact_upvalue) (on-counted_up_to L.max_upvalues_per_proto q.Upvalues (λ place. omega arith) exact_upvalue on-upvalue) λ upvalues.
      on-here λ first.
      on_then exact_number on-number λ protos.
      on_then (exact_at_most protos L.max_total_prototypes (q.Prototypes first)) (on-at_most protos L.max_total_prototypes (q.Prototypes first) (omega arith)) λ _.
      on-here λ protos-at.
      on_then (exact_forest protos (within w (inherit spelt w.source) (length instructions)) exact) (on-forest protos (within w (inherit spelt w.source) (length instructions)) exact one) λ nested.
      on_then exact_number on-number λ line-info-size.
      on-here λ line-info-at.
      on_then (exact_run line-info-size) (on-run line-info-size) λ line_info_lem.
      on_then (exact_counted exact_anchor) (on-counted exact_anchor on-anchor) λ abs_line_info.
      on_then (exact_counted (exact_local limit)) (on-counted (exact_local limit) (on-local limit)) λ loc_vars.
      on_then (exact_counted (exact_string limit)) (on-counted (exact_string limit) (on-string limit)) λ upvalue_names_lem.
      on-here λ end.
      on-give _

  on-function : (left : ℕ) (w : Where) → Continues (function L left w)
  unfolding function
  on-function zero w = on-body (λ w. exact_place λ place. exact_refuse _) (λ w. on-here λ place. on-refuse (q.NestingDepth place) (omega arith)) w
  on-function (suc left) w =
      on-body (λ w. exact_place λ place. exact_then (exact_at_most w.number L.max_total_prototypes (q.TotalPrototypes place)) λ _. exact_function L left w)
      (λ w. on-here λ place. on_then (exact_at_most w.number L.max_total_prototypes (q.TotalPrototypes place)) (on-at_most w.number L.max_total_prototypes (q.TotalPrototypes place) (omega arith)) λ _. on-function left w) w

  -- ## Chunks
  pub continues : Continues (main L)
  continues = on_then exact_header on-header λ headed. on_then (exact_field 1) (on-field 1) λ forgotten. on_then (exact_function L L.max_nesting_depth _) (on-function L.max_nesting_depth _) λ functions. on-give _

-- ## A wrong reader
-- every file is cut short, where it ends
abbrev pub endless : Reader (Unit {0})
endless at s = refused (q.Truncated (at + length s))

pub endless_lacks : (s : Bytes) (place : ℕ) → endless 0 s ≡ refused (q.Truncated place) → Lack endless 0 s place
endless_lacks s place e = let same : 0 + length s ≡ place = cc in record {
  from = omega arith;
  wanted = 1;
  fewer = omega arith;
  still = λ t h. (let k : 0 + length (s ++ t) ≡ place = omega (arith, length-append s t) in ap (λ n. refused (q.Truncated n)) k);
  enough = λ t h again. (let k : 0 + length (s ++ t) ≡ place = cc in omega arith);
}

pub not_endless : Continues endless → ⊥
not_endless c = let j = (c.on 0 []).1 in omega arith
