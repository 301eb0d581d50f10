-- The stricter reader (02, item 7) goes through the bytes from the front, as the ordinary one does (InOrder.antt), and refuses by 1 to 20 and 31 to 33 alone: one line for each step.
-- Assumes nothing.
use mathlib.Core.Path.{refl}
use mathlib.Core.List.{List, [], ◌∷◌}
use mathlib.Core.Option.{Option, none, some}
use Prim.Native.Nat.{ℕ, zero, suc, ◌+◌, ◌-◌, ◌<◌, ◌^◌}
use native.Mathlib.Omega.{arith}
use lib.Dec.{eqb, ltb}
use lib.ListN.{length}
use Rattle.format.specs.declared.limits.ResourceLimits.{ResourceLimits}
use Rattle.format.specs.declared.refusal.Refusal.{Refusal}
use Rattle.format.specs.declared.refusal.Refusal.TheVariants.{ConstantTag, Instructions, TotalInstructions, Constants, Upvalues, Prototypes, NestingDepth, TotalPrototypes, Format, IntOverflow, NullString}
use Rattle.format.specs.GrammarFields.{LuaString}
use Rattle.format.specs.Reading.{Prototype}
use Rattle.format.specs.GrammarChunk.{inherit, Where, within}
use Rattle.format.specs.Read.{Reader, ◌>>=◌}
use Rattle.format_strict.specs.ReadStrict.{int, strict_counted, strict_counted_up_to, there, present, strict_tagged, strict_constant, strict_anchor, strict_local, strict_body, strict_function, strict_header, strict_main}
use Rattle.format_strict.proofs.ExactStrict.{exact_int}
use Rattle.format_strict.proofs.StrictLaws.{int_small}
use Rattle.demands.proofs.Causes.{stricter}
use Rattle.demands.proofs.InOrder.{
  Steady,
  Tested,
  tested,
  own,
  steady_give,
  steady_here,
  steady_refuse,
  steady_known,
  steady_then,
  steady_pick,
  steady_test,
  steady_at_most,
  steady_run,
  steady_many,
  steady_field,
  steady_number,
  steady_string,
  steady_expect,
  steady_before,
  steady_behind,
  steady_always,
  steady_upvalue,
  steady_forest,
}

-- ## Ints
pub steady_int : {low : ℕ} → Steady stricter low int
steady_int = steady_here λ first. steady_then steady_number λ n. steady_then (steady_test (ltb n (2 ^ 31 - 128)) (IntOverflow first) (tested (IntOverflow first) refl refl own)) λ _. steady_give n

-- behind an int, which is small
steady_sized : {B : Type 0} {low : ℕ} {f : ℕ → Reader B} → ((n : ℕ) → n < 2 ^ 64 - 128 → Steady stricter low (f n)) → Steady stricter low (int >>= f)
steady_sized two =
    steady_known (λ n. n < 2 ^ 64 - 128) steady_int
    (λ at s n to rest e. let d = exact_int.sound {at = at} {s = s} {x = n} {to = to} {rest = rest} e in let small = int_small at d.bytes n d.spelt in omega arith)
    two

-- ## Lists and entries
steady_strict_counted : {low : ℕ} {A : Type 0} {r : Reader A} → ((low : ℕ) → Steady stricter low r) → Steady stricter low (strict_counted r)
steady_strict_counted one = steady_then steady_int λ n. steady_here λ place. steady_then (steady_many n (one place)) λ items. steady_give _

steady_strict_counted_up_to : {low : ℕ} {A : Type 0} {r : Reader A} (limit : ℕ) (refusal : ℕ → Refusal) → ((first : ℕ) → Tested stricter first (refusal first)) → ((low : ℕ) → Steady stricter low r)
    → Steady stricter low (strict_counted_up_to limit refusal r)
steady_strict_counted_up_to limit refusal is one =
    steady_here λ first.
    steady_then steady_int λ n.
    steady_then (steady_at_most n limit (refusal first) (is first)) λ _.
    steady_here λ place.
    steady_then (steady_many n (one place)) λ items.
    steady_give _

steady_there : (first : ℕ) (t : Option LuaString) → Steady stricter first (there first t)
steady_there first none = steady_refuse (NullString first) (tested (NullString first) refl refl own)
steady_there first (some t) = steady_give t

steady_present : {low : ℕ} (limit : ℕ) → Steady stricter low (present limit)
steady_present limit = steady_here λ first. steady_then (steady_string limit) λ t. steady_there first t

steady_strict_tagged : (limit place tag : ℕ) → Steady stricter place (strict_tagged limit place tag)
steady_strict_tagged limit place tag =
    steady_pick (eqb tag 0) (steady_give _)
    (steady_pick (eqb tag 1) (steady_give _)
    (steady_pick (eqb tag 17) (steady_give _)
    (steady_pick (eqb tag 3) (steady_then (steady_field 8 refl) λ n. steady_give _)
    (steady_pick (eqb tag 19) (steady_then (steady_field 8 refl) λ n. steady_give _)
    (steady_pick (eqb tag 4) (steady_then (steady_present limit) λ t. steady_give _)
    (steady_pick (eqb tag 20) (steady_then (steady_present limit) λ t. steady_give _)
    (steady_refuse (ConstantTag place) (tested (ConstantTag place) refl refl own))))))))

steady_strict_constant : {low : ℕ} (limit : ℕ) → Steady stricter low (strict_constant limit)
steady_strict_constant limit = steady_here λ place. steady_then (steady_field 1 refl) λ tag. steady_strict_tagged limit place tag

steady_strict_anchor : {low : ℕ} → Steady stricter low strict_anchor
steady_strict_anchor = steady_then steady_int λ pc. steady_then steady_int λ line. steady_give _

steady_strict_local : {low : ℕ} (limit : ℕ) → Steady stricter low (strict_local limit)
steady_strict_local limit = steady_then (steady_always limit (63 ∷ [])) λ name. steady_then steady_int λ startpc. steady_then steady_int λ endpc. steady_give _

-- ## Functions
steady_strict_body : {low : ℕ} (L : ResourceLimits) {r : Where → Reader (List Prototype)} → ((low : ℕ) (w : Where) → Steady stricter low (r w)) → (w : Where) → Steady stricter low (strict_body L r w)
unfolding strict_body
steady_strict_body L one w =
    steady_here λ start.
    steady_then (steady_string L.max_string_bytes) λ spelt.
    steady_then steady_int λ line_defined.
    steady_then steady_int λ last_line_defined.
    steady_then (steady_field 1 refl) λ numparams.
    steady_then (steady_field 1 refl) λ is_vararg.
    steady_then (steady_field 1 refl) λ maxstacksize.
    steady_here λ first.
    steady_then steady_int λ size.
    steady_then (steady_at_most size L.max_instructions_per_proto (Instructions first) (tested (Instructions first) refl refl own)) λ _.
    steady_then (steady_at_most (w.instructions + size) L.max_total_instructions (TotalInstructions first) (tested (TotalInstructions first) refl refl own)) λ _.
    steady_here λ instructions_at.
    steady_then (steady_many size (steady_field 4 refl)) λ instructions.
    steady_then (steady_strict_counted_up_to L.max_constants_per_proto Constants (λ first. tested (Constants first) refl refl own) (λ low. steady_strict_constant L.max_string_bytes)) λ constants.
    steady_then (steady_strict_counted_up_to L.max_upvalues_per_proto Upvalues (λ first. tested (Upvalues first) refl refl own) λ low. steady_upvalue) λ upvalues.
    steady_here λ first.
    steady_then steady_int λ protos.
    steady_then (steady_at_most protos L.max_total_prototypes (Prototypes first) (tested (Prototypes first) refl refl own)) λ _.
    steady_here λ protos-at.
    steady_then (steady_forest protos (within w (inherit spelt w.source) (length instructions)) one) λ nested.
    steady_sized λ line-info-size few.
    steady_here λ line-info-at.
    steady_then (steady_run line-info-size few) λ line_info_lem.
    steady_then (steady_strict_counted λ low. steady_strict_anchor) λ abs_line_info.
    steady_then (steady_strict_counted λ low. steady_strict_local L.max_string_bytes) λ loc_vars.
    steady_then (steady_strict_counted λ low. steady_string L.max_string_bytes) λ upvalue_names_lem.
    steady_here λ end.
    steady_give _

steady_strict_function : {low : ℕ} (L : ResourceLimits) (left : ℕ) (w : Where) → Steady stricter low (strict_function L left w)
unfolding strict_function
steady_strict_function L zero w = steady_strict_body L (λ low w. steady_here λ place. steady_refuse (NestingDepth place) (tested (NestingDepth place) refl refl own)) w
steady_strict_function L (suc left) w =
    steady_strict_body L (λ low w. steady_here λ place. steady_then (steady_at_most w.number L.max_total_prototypes (TotalPrototypes place) (tested (TotalPrototypes place) refl refl own)) λ _. steady_strict_function L left w) w

-- ## Chunks
steady_strict_header : {low : ℕ} → Steady stricter low strict_header
steady_strict_header = steady_then steady_before λ _. steady_then (steady_expect (0 ∷ []) Format refl λ place. tested (Format place) refl refl own) λ _. steady_then steady_behind λ _. steady_give _

pub steady_strict_main : {low : ℕ} (L : ResourceLimits) → Steady stricter low (strict_main L)
steady_strict_main L = steady_then steady_strict_header λ headed. steady_then (steady_field 1 refl) λ forgotten. steady_then (steady_strict_function L L.max_nesting_depth _) λ functions. steady_give _
