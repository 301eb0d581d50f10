-- A refusal of the stricter reader (02, item 7) is decided by the bytes up to the end of its cause (Causes.antt), as one of the ordinary reader is (Early.antt): one line for each step.
-- Assumes nothing.
use mathlib.Core.Path.{◌≡◌, refl, sym, ◌∙◌, ap}
use mathlib.Core.List.{List, [], ◌∷◌, ◌++◌, append-nil}
use mathlib.Core.Option.{Option, none, some}
use Prim.Native.Nat.{ℕ, zero, suc, ◌+◌, ◌-◌, ◌<◌, ◌^◌}
use native.Mathlib.Omega.{arith}
use native.Mathlib.Nat.{add-zero}
use lib.Dec.{leb, ltb, eqb}
use lib.ListN.{length}
use borrow.Author.Tests.{ltb-false, leb-false}
use Rattle.format.specs.declared.limits.ResourceLimits.{ResourceLimits}
use Rattle.format.specs.declared.refusal.Refusal.{Refusal}
use Rattle.format.specs.declared.refusal.Refusal.TheVariants as q
use Rattle.format.specs.Form.{Bytes, Form}
use Rattle.format.specs.GrammarFields.{LuaString, Number, Content, String, Field}
use Rattle.format.specs.Reading.{Prototype}
use Rattle.format.specs.GrammarChunk.{Where}
use Rattle.format.specs.Read.{Reader, ◌>>=◌, here}
use Rattle.format_strict.specs.ReadStrict.{int, strict_counted, strict_counted_up_to, there, present, strict_tagged, strict_constant, strict_anchor, strict_local, strict_body, strict_function, strict_header, strict_main}
use Rattle.format.proofs.Exact.{Exact, exact_place, exact_then, exact_at_most, exact_run, exact_many}
use Rattle.format.proofs.ExactFields.{exact_field, exact_string}
use Rattle.format.proofs.ExactHeader.{exact_expect, exact_before, exact_behind}
use Rattle.format.proofs.ExactChunk.{exact_always, exact_upvalue, exact_forest, exact_refuse}
use Rattle.format_strict.proofs.ExactStrict.{exact_int, exact_strict_counted, exact_strict_counted_up_to, exact_present, exact_strict_constant, exact_strict_anchor, exact_strict_local, exact_strict_function, exact_strict_header}
use Rattle.format_strict.proofs.StrictLaws.{int_number, int_small}
use Rattle.demands.proofs.Causes.{stricter, too_many_lem, cause_by, Ends}
use Rattle.demands.proofs.Early.{
  Early,
  Soon,
  read_number,
  too_many,
  no_tag_lem,
  early_always,
  early_at,
  early_before,
  early_behind,
  early_expect,
  early_field,
  early_first,
  early_forest,
  early_give,
  early_here,
  early_many,
  early_numbered,
  early_run,
  early_string,
  early_then,
  early_upvalue,
  soon_counts,
  soon_early,
  soon_pick,
  soon_refuse,
  soon_test,
}

-- a string that is absent is its size, 0
absent_size : (limit : ℕ) (at : ℕ) (b : Bytes) → String limit at b none → Number at b 0
absent_size limit at b d = go d.value d.one d.two
  where
    go : (size : ℕ) → Number at d.front size → Content limit size (at + length d.front) d.back none → Number at b 0
    go zero n c =
        let all : b ≡ d.front = d.whole ∙ ap (λ c. d.front ++ c) c.0 ∙ append-nil d.front in
        rw all n
    go (suc k) n c = absurd (let e = c.two.two.two.1 in let z : ◌≡◌ {A = ℕ} 0 1 = cc in omega arith)

module _ {L : ResourceLimits} where
  -- ## Ints: refused when the number is complete
  pub early_int : Early stricter L int
  early_int = early_numbered _ λ first n bytes d.
      soon_test _ (ltb n (2 ^ 31 - 128)) (q.IntOverflow first) (λ k. read_number first n bytes d (let h = ltb-false n (2 ^ 31 - 128) k in omega arith)) (soon_early (early_give n))

  -- behind an int, with its place: it is small
  early_sized : {B : Type 0} (f : ℕ → ℕ → Reader B) → ((first n : ℕ) (bytes : Bytes) → Number first bytes n → n < 2 ^ 31 - 128 → Soon stricter L (λ p. Ends (cause_by stricter L p) first (bytes ++ [])) (f first n)) → Early stricter L (here >>= λ first. int >>= f first)
  early_sized f two = early_first f exact_int early_int λ first n bytes d. two first n bytes (int_number.widens {at = first} d) (int_small first bytes n d)

  -- ## Lists and entries
  early_strict_counted : {A : Type 0} {r : Reader A} {F : Form A} → Exact r F → Early stricter L r → Early stricter L (strict_counted r)
  early_strict_counted exact one = early_then exact_int early_int λ n. early_here λ place. early_then (exact_many n exact) (early_many n exact one) λ items. early_give _

  early_strict_counted_up_to : {A : Type 0} {r : Reader A} {F : Form A} (limit : ℕ) (refusal : ℕ → Refusal) → ((place : ℕ) → cause_by stricter L (refusal place) ≡ too_many_lem stricter place limit) → Exact r F → Early stricter L r
      → Early stricter L (strict_counted_up_to limit refusal r)
  early_strict_counted_up_to limit refusal is exact one = early_sized _ λ first n bytes d small.
      soon_test _ (leb n limit) (refusal first) (λ k. rw (is first) (too_many stricter first n limit bytes d small (leb-false n limit k)))
      (soon_early (early_here λ place. early_then (exact_many n exact) (early_many n exact one) λ items. early_give _))

  soon_there : (first : ℕ) (t : Option LuaString) (bytes : Bytes) → String L.max_string_bytes first bytes t → Soon stricter L (λ p. Ends (cause_by stricter L p) first (bytes ++ [])) (there first t)
  soon_there first none bytes d = soon_refuse (q.NullString first) (read_number first 0 bytes (absent_size L.max_string_bytes first bytes d) (omega arith))
  soon_there first (some t) bytes d = soon_early (early_give t)

  early_present : Early stricter L (present L.max_string_bytes)
  early_present = early_first there (exact_string L.max_string_bytes) early_string soon_there

  soon_strict_tagged : (place tag : ℕ) (bytes : Bytes) → Field 1 place bytes tag → Soon stricter L (λ p. Ends (cause_by stricter L p) place (bytes ++ [])) (strict_tagged L.max_string_bytes place tag)
  soon_strict_tagged place tag bytes d =
      soon_pick (eqb tag 0) (soon_early (early_give _)) λ k0.
      soon_pick (eqb tag 1) (soon_early (early_give _)) λ k1.
      soon_pick (eqb tag 17) (soon_early (early_give _)) λ k17.
      soon_pick (eqb tag 3) (soon_early (early_then (exact_field 8) (early_field 8) λ n. early_give _)) λ k3.
      soon_pick (eqb tag 19) (soon_early (early_then (exact_field 8) (early_field 8) λ n. early_give _)) λ k19.
      soon_pick (eqb tag 4) (soon_early (early_then (exact_present L.max_string_bytes) early_present λ t. early_give _)) λ k4.
      soon_pick (eqb tag 20) (soon_early (early_then (exact_present L.max_string_bytes) early_present λ t. early_give _)) λ k20.
      soon_refuse (q.ConstantTag place) (no_tag_lem place tag bytes d k0 k1 k17 k3 k19 k4 k20)

  early_strict_constant : Early stricter L (strict_constant L.max_string_bytes)
  early_strict_constant = early_first (strict_tagged L.max_string_bytes) (exact_field 1) (early_field 1) soon_strict_tagged

  early_strict_anchor : Early stricter L strict_anchor
  early_strict_anchor = early_then exact_int early_int λ pc. early_then exact_int early_int λ line. early_give _

  early_strict_local : Early stricter L (strict_local L.max_string_bytes)
  early_strict_local = early_then (exact_always L.max_string_bytes (63 ∷ [])) (early_always (63 ∷ [])) λ name. early_then exact_int early_int λ startpc. early_then exact_int early_int λ endpc. early_give _

  -- ## Functions
  early_strict_body : {r : Where → Reader (List Prototype)} {F : Where → Form (List Prototype)} → ((w : Where) → Exact (r w) (F w)) → ((w : Where) → Early stricter L (r w)) → (w : Where) → Early stricter L (strict_body L r w)
  unfolding strict_body
  early_strict_body exact one w =
      early_here λ start.
      early_then (exact_string L.max_string_bytes) early_string λ spelt.
      early_then exact_int early_int λ line_defined.
      early_then exact_int early_int λ last_line_defined.
      early_then (exact_field 1) (early_field 1) λ numparams.
      early_then (exact_field 1) (early_field 1) λ is_vararg.
      early_then (exact_field 1) (early_field 1) λ maxstacksize.
      early_sized _ λ first size bytes d small.
      soon_counts _ first size w.instructions bytes d small (
      soon_early (
      early_here λ instructions_at.
      early_then (exact_many size (exact_field 4)) (early_many size (exact_field 4) (early_field 4)) λ instructions.
      early_then (exact_strict_counted_up_to L.max_constants_per_proto q.Constants (exact_strict_constant L.max_string_bytes))
      (early_strict_counted_up_to L.max_constants_per_proto q.Constants (λ place. refl) (exact_strict_constant L.max_string_bytes) early_strict_constant) λ constants.
      early_then (exact_strict_counted_up_to L.max_upvalues_per_proto q.Upvalues exact_upvalue) (early_strict_counted_up_to L.max_upvalues_per_proto q.Upvalues (λ place. refl) exact_upvalue early_upvalue) λ upvalues.
      early_sized _ λ first protos bytes d small.
      soon_test _ (leb protos L.max_total_prototypes) (q.Prototypes first) (λ k. too_many stricter first protos L.max_total_prototypes bytes d small (leb-false protos L.max_total_prototypes k)) (
      soon_early (
      early_here λ protos-at.
      early_then (exact_forest protos _ exact) (early_forest protos _ exact one) λ nested.
      early_then exact_int early_int λ line-info-size.
      early_here λ line-info-at.
      early_then (exact_run line-info-size) (early_run line-info-size) λ line_info_lem.
      early_then (exact_strict_counted exact_strict_anchor) (early_strict_counted exact_strict_anchor early_strict_anchor) λ abs_line_info.
      early_then (exact_strict_counted (exact_strict_local L.max_string_bytes)) (early_strict_counted (exact_strict_local L.max_string_bytes) early_strict_local) λ loc_vars.
      early_then (exact_strict_counted (exact_string L.max_string_bytes)) (early_strict_counted (exact_string L.max_string_bytes) early_string) λ upvalue_names_lem.
      early_here λ end.
      early_give _))))

  early_strict_function : (left : ℕ) (w : Where) → Early stricter L (strict_function L left w)
  unfolding strict_function
  early_strict_function zero w = early_strict_body (λ w. exact_place λ place. exact_refuse _) (λ w. early_at λ place. soon_refuse (q.NestingDepth place) (sym (add-zero place))) w
  early_strict_function (suc left) w =
      early_strict_body (λ w. exact_place λ place. exact_then (exact_at_most w.number L.max_total_prototypes (q.TotalPrototypes place)) λ _. exact_strict_function L left w)
      (λ w. early_at λ place. soon_test _ (leb w.number L.max_total_prototypes) (q.TotalPrototypes place) (λ k. sym (add-zero place)) (soon_early (early_strict_function left w))) w

  -- ## Chunks
  early_strict_header : Early stricter L strict_header
  early_strict_header =
      early_then exact_before early_before λ _.
      early_then (exact_expect (0 ∷ []) q.Format) (early_expect (0 ∷ []) q.Format λ place. refl) λ _.
      early_then exact_behind early_behind λ _.
      early_give _

  pub early_strict_main : Early stricter L (strict_main L)
  early_strict_main =
      early_then exact_strict_header early_strict_header λ headed.
      early_then (exact_field 1) (early_field 1) λ forgotten.
      early_then (exact_strict_function L L.max_nesting_depth _) (early_strict_function L.max_nesting_depth _) λ functions.
      early_give _
