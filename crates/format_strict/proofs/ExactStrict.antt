-- The stricter reader reads exactly the stricter grammar: one line for each step of a production.
-- Assumes nothing.
use mathlib.Core.List.{List, [], ◌∷◌}
use mathlib.Core.Option.{Option, none, some}
use Prim.Native.Nat.{ℕ, zero, suc, ◌+◌, ◌<◌}
use lib.Dec.{eqb, ltb, ltb→lt, lt→ltb}
use lib.ListN.{length}
use Rattle.format.specs.declared.limits.ResourceLimits.{ResourceLimits}
use Rattle.format.specs.declared.refusal.Refusal.{Refusal}
use Rattle.format.specs.declared.refusal.Refusal.TheVariants.{ConstantTag, Instructions, TotalInstructions, Constants, Upvalues, Prototypes, TotalPrototypes}
use Rattle.format.specs.Form.{Form, Given}
use Rattle.format.specs.GrammarFields.{LuaString}
use Rattle.format.specs.Reading.{Prototype}
use Rattle.format.specs.GrammarChunk.{inherit, Where, within}
use Rattle.format_strict.specs.GrammarStrict.{Int, StrictCounted, StrictCountedUpTo, There, Present, StrictTagged, StrictConstant, StrictAnchor, StrictLocal, StrictBody, StrictFunction, StrictHeader, StrictMain}
use Rattle.format.specs.Read.{Reader, test}
use Rattle.format_strict.specs.ReadStrict.{int, strict_counted, strict_counted_up_to, there, present, strict_tagged, strict_constant, strict_anchor, strict_local, strict_body, strict_function, strict_header, strict_main}
use Rattle.format.proofs.Exact.{Exact, exact_give, exact_here, exact_then, exact_place, exact_as, exact_test, exact_at_most, exact_run, exact_many}
use Rattle.format.proofs.ExactFields.{exact_field, exact_number, exact_string}
use Rattle.format.proofs.ExactHeader.{exact_expect, exact_before, exact_behind}
use Rattle.format.proofs.ExactChunk.{exact_always, exact_pick, exact_refuse, exact_upvalue, exact_forest}

exact_below : (n m : ℕ) (q : Refusal) → Exact (test (ltb n m) q) (Given (n < m))
exact_below n m q = exact_as (λ _ _ _. (λ g. (g.0, ltb→lt n m g.1), λ g. (g.0, lt→ltb n m g.1))) (exact_test (ltb n m) q)

pub exact_int : Exact int Int
exact_int = exact_place λ first. exact_then exact_number λ n. exact_then (exact_below n _ _) λ _. exact_give n

-- ## Lists behind their counts
pub exact_strict_counted : {A : Type 0} {r : Reader A} {F : Form A} → Exact r F → Exact (strict_counted r) (StrictCounted F)
exact_strict_counted one = exact_then exact_int λ n. exact_then exact_here λ place. exact_then (exact_many n one) λ items. exact_give _

pub exact_strict_counted_up_to : {A : Type 0} {r : Reader A} {F : Form A} (limit : ℕ) (above : ℕ → Refusal) → Exact r F → Exact (strict_counted_up_to limit above r) (StrictCountedUpTo limit F)
exact_strict_counted_up_to limit above one =
    exact_place λ first.
    exact_then exact_int λ n.
    exact_then (exact_at_most n limit (above first)) λ _.
    exact_then exact_here λ place.
    exact_then (exact_many n one) λ items.
    exact_give _

-- ## Entries
exact_there : (first : ℕ) (t : Option LuaString) → Exact (there first t) (There t)
exact_there first none = exact_refuse _
exact_there first (some t) = exact_give t

pub exact_present : (limit : ℕ) → Exact (present limit) (Present limit)
exact_present limit = exact_place λ first. exact_then (exact_string limit) λ t. exact_there first t

pub exact_strict_tagged : (limit place tag : ℕ) → Exact (strict_tagged limit place tag) (StrictTagged limit tag)
exact_strict_tagged limit place tag =
    exact_pick (eqb tag 0) (exact_give _)
    (exact_pick (eqb tag 1) (exact_give _)
    (exact_pick (eqb tag 17) (exact_give _)
    (exact_pick (eqb tag 3) (exact_then (exact_field 8) λ n. exact_give _)
    (exact_pick (eqb tag 19) (exact_then (exact_field 8) λ n. exact_give _)
    (exact_pick (eqb tag 4) (exact_then (exact_present limit) λ t. exact_give _)
    (exact_pick (eqb tag 20) (exact_then (exact_present limit) λ t. exact_give _)
    (exact_refuse (ConstantTag place))))))))

pub exact_strict_constant : (limit : ℕ) → Exact (strict_constant limit) (StrictConstant limit)
exact_strict_constant limit = exact_place λ place. exact_then (exact_field 1) λ tag. exact_strict_tagged limit place tag

pub exact_strict_anchor : Exact strict_anchor StrictAnchor
exact_strict_anchor = exact_then exact_int λ pc. exact_then exact_int λ line. exact_give _

pub exact_strict_local : (limit : ℕ) → Exact (strict_local limit) (StrictLocal limit)
exact_strict_local limit = exact_then (exact_always limit (63 ∷ [])) λ name. exact_then exact_int λ startpc. exact_then exact_int λ endpc. exact_give _

-- ## Functions
pub exact_strict_body : (L : ResourceLimits) {r : Where → Reader (List Prototype)} {F : Where → Form (List Prototype)} → ((w : Where) → Exact (r w) (F w)) → (w : Where) → Exact (strict_body L r w) (StrictBody L F w)
unfolding strict_body StrictBody
exact_strict_body L one w =
    exact_then exact_here λ start.
    exact_then (exact_string L.max_string_bytes) λ spelt.
    exact_then exact_int λ line_defined.
    exact_then exact_int λ last_line_defined.
    exact_then (exact_field 1) λ numparams.
    exact_then (exact_field 1) λ is_vararg.
    exact_then (exact_field 1) λ maxstacksize.
    exact_place λ first.
    exact_then exact_int λ size.
    exact_then (exact_at_most size L.max_instructions_per_proto (Instructions first)) λ _.
    exact_then (exact_at_most (w.instructions + size) L.max_total_instructions (TotalInstructions first)) λ _.
    exact_then exact_here λ instructions_at.
    exact_then (exact_many size (exact_field 4)) λ instructions.
    exact_then (exact_strict_counted_up_to L.max_constants_per_proto Constants (exact_strict_constant L.max_string_bytes)) λ constants.
    exact_then (exact_strict_counted_up_to L.max_upvalues_per_proto Upvalues exact_upvalue) λ upvalues.
    exact_place λ first.
    exact_then exact_int λ protos.
    exact_then (exact_at_most protos L.max_total_prototypes (Prototypes first)) λ _.
    exact_then exact_here λ protos-at.
    exact_then (exact_forest protos (within w (inherit spelt w.source) (length instructions)) one) λ nested.
    exact_then exact_int λ line-info-size.
    exact_then exact_here λ line-info-at.
    exact_then (exact_run line-info-size) λ line_info_lem.
    exact_then (exact_strict_counted exact_strict_anchor) λ abs_line_info.
    exact_then (exact_strict_counted (exact_strict_local L.max_string_bytes)) λ loc_vars.
    exact_then (exact_strict_counted (exact_string L.max_string_bytes)) λ upvalue_names_lem.
    exact_then exact_here λ end.
    exact_give _

pub exact_strict_function : (L : ResourceLimits) (left : ℕ) (w : Where) → Exact (strict_function L left w) (StrictFunction L left w)
unfolding strict_function StrictFunction
exact_strict_function L zero w = exact_strict_body L (λ w. exact_place λ place. exact_refuse _) w
exact_strict_function L (suc left) w =
    exact_strict_body L (λ w. exact_place λ place. exact_then (exact_at_most w.number L.max_total_prototypes (TotalPrototypes place)) λ _. exact_strict_function L left w) w

-- ## Chunks
pub exact_strict_header : Exact strict_header StrictHeader
exact_strict_header = exact_then exact_before λ _. exact_then (exact_expect _ _) λ _. exact_then exact_behind λ _. exact_give _

pub exact_strict_main : (L : ResourceLimits) → Exact (strict_main L) (StrictMain L)
exact_strict_main L =
    exact_then exact_strict_header λ headed.
    exact_then (exact_field 1) λ forgotten.
    exact_then (exact_strict_function L L.max_nesting_depth _) λ functions.
    exact_give _
