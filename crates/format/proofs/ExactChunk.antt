-- The reader of a chunk reads exactly the grammar: one line for each step of a production.
-- Assumes nothing.
use mathlib.Core.Path.{◌≡◌, refl}
use mathlib.Core.Bool.{Bool, true, false, cond}
use mathlib.Core.List.{List, [], ◌∷◌, ◌++◌}
use Prim.Native.Nat.{ℕ, zero, suc, ◌+◌}
use lib.Dec.{eqb}
use lib.ListN.{length}
use Rattle.format.specs.declared.limits.ResourceLimits.{ResourceLimits}
use Rattle.format.specs.declared.refusal.Refusal.{Refusal}
use Rattle.format.specs.declared.refusal.Refusal.TheVariants.{ConstantTag, Instructions, TotalInstructions, Constants, Upvalues, Prototypes, TotalPrototypes}
use Rattle.format.specs.Form.{Bytes, Form, Nothing, When}
use Rattle.format.specs.Reading.{Prototype}
use Rattle.format.specs.GrammarChunk.{Counted, CountedUpTo, Always, Tagged, Constant, Upvalue, Anchor, Local, inherit, Where, after, within, Forest, Body, Function, Main}
use Rattle.format.specs.Read.{Reader, refuse}
use Rattle.format.specs.ReadChunk.{counted, counted_up_to, always, tagged, constant, upvalue, anchor, local, forest, body, function, main}
use Rattle.format.proofs.Exact.{Exact, never, exact_give, exact_here, exact_then, exact_place, exact_at_most, exact_run, exact_many}
use Rattle.format.proofs.ExactFields.{exact_field, exact_number, exact_string}
use Rattle.format.proofs.ExactHeader.{exact_header}

-- ## Lists behind their counts
pub exact_counted : {A : Type 0} {r : Reader A} {F : Form A} → Exact r F → Exact (counted r) (Counted F)
exact_counted one = exact_then exact_number λ n. exact_then exact_here λ place. exact_then (exact_many n one) λ items. exact_give _

pub exact_counted_up_to : {A : Type 0} {r : Reader A} {F : Form A} (limit : ℕ) (refusal : ℕ → Refusal) → Exact r F → Exact (counted_up_to limit refusal r) (CountedUpTo limit F)
exact_counted_up_to limit refusal one =
    exact_place λ first.
    exact_then exact_number λ n.
    exact_then (exact_at_most n limit (refusal first)) λ _.
    exact_then exact_here λ place.
    exact_then (exact_many n one) λ items.
    exact_give _

-- ## Entries
pub exact_always : (limit : ℕ) (instead : Bytes) → Exact (always limit instead) (Always limit instead)
exact_always limit instead = exact_then (exact_string limit) λ t. exact_then exact_here λ place. exact_give _

pub exact_pick : {A : Type 0} {r s : Reader A} {F G : Form A} (b : Bool) → Exact r F → Exact s G → Exact (cond b r s) (When b F G)
exact_pick true one two = one
exact_pick false one two = two

pub exact_refuse : {A : Type 0} (q : Refusal) → Exact {A = A} (refuse q) Nothing
exact_refuse q = record { sound = λ e. absurd (never e); complete = λ _ g. absurd g }

pub exact_tagged : (limit place tag : ℕ) → Exact (tagged limit place tag) (Tagged limit tag)
exact_tagged limit place tag =
    exact_pick (eqb tag 0) (exact_give _)
    (exact_pick (eqb tag 1) (exact_give _)
    (exact_pick (eqb tag 17) (exact_give _)
    (exact_pick (eqb tag 3) (exact_then (exact_field 8) λ n. exact_give _)
    (exact_pick (eqb tag 19) (exact_then (exact_field 8) λ n. exact_give _)
    (exact_pick (eqb tag 4) (exact_then (exact_always limit []) λ t. exact_give _)
    (exact_pick (eqb tag 20) (exact_then (exact_always limit []) λ t. exact_give _)
    (exact_refuse (ConstantTag place))))))))

pub exact_constant : (limit : ℕ) → Exact (constant limit) (Constant limit)
exact_constant limit = exact_place λ place. exact_then (exact_field 1) λ tag. exact_tagged limit place tag

pub exact_upvalue : Exact upvalue Upvalue
exact_upvalue = exact_then (exact_field 1) λ instack. exact_then (exact_field 1) λ idx. exact_then (exact_field 1) λ kind. exact_give _

pub exact_anchor : Exact anchor Anchor
exact_anchor = exact_then exact_number λ pc. exact_then exact_number λ line. exact_give _

pub exact_local : (limit : ℕ) → Exact (local limit) (Local limit)
exact_local limit = exact_then (exact_always limit (63 ∷ [])) λ name. exact_then exact_number λ startpc. exact_then exact_number λ endpc. exact_give _

-- ## Functions
pub exact_forest : (n : ℕ) {r : Where → Reader (List Prototype)} {F : Where → Form (List Prototype)} (w : Where) → ((w : Where) → Exact (r w) (F w)) → Exact (forest n r w) (Forest n F w)
exact_forest zero w one = exact_give []
exact_forest (suc n) w one = exact_then (one w) λ ps. exact_then (exact_forest n (after ps w) one) λ more. exact_give (ps ++ more)

pub exact_body : (L : ResourceLimits) {r : Where → Reader (List Prototype)} {F : Where → Form (List Prototype)} → ((w : Where) → Exact (r w) (F w)) → (w : Where) → Exact (body L r w) (Body L F w)
unfolding body Body
exact_body L one w =
    exact_then exact_here λ start.
    exact_then (exact_string L.max_string_bytes) λ spelt.
    exact_then exact_number λ line_defined.
    exact_then exact_number λ last_line_defined.
    exact_then (exact_field 1) λ numparams.
    exact_then (exact_field 1) λ is_vararg.
    exact_then (exact_field 1) λ maxstacksize.
    exact_place λ first.
    exact_then exact_number λ size.
    exact_then (exact_at_most size L.max_instructions_per_proto (Instructions first)) λ _.
    exact_then (exact_at_most (w.instructions + size) L.max_total_instructions (TotalInstructions first)) λ _.
    exact_then exact_here λ instructions_at.
    exact_then (exact_many size (exact_field 4)) λ instructions.
    exact_then (exact_counted_up_to L.max_constants_per_proto Constants (exact_constant L.max_string_bytes)) λ constants.
    exact_then (exact_counted_up_to L.max_upvalues_per_proto Upvalues exact_upvalue) λ upvalues.
    exact_place λ first.
    exact_then exact_number λ protos.
    exact_then (exact_at_most protos L.max_total_prototypes (Prototypes first)) λ _.
    exact_then exact_here λ protos-at.
    exact_then (exact_forest protos (within w (inherit spelt w.source) (length instructions)) one) λ nested.
    exact_then exact_number λ line-info-size.
    exact_then exact_here λ line-info-at.
    exact_then (exact_run line-info-size) λ line_info_lem.
    exact_then (exact_counted exact_anchor) λ abs_line_info.
    exact_then (exact_counted (exact_local L.max_string_bytes)) λ loc_vars.
    exact_then (exact_counted (exact_string L.max_string_bytes)) λ upvalue_names_lem.
    exact_then exact_here λ end.
    exact_give _

pub exact_function : (L : ResourceLimits) (left : ℕ) (w : Where) → Exact (function L left w) (Function L left w)
unfolding function Function
exact_function L zero w = exact_body L (λ w. exact_place λ place. exact_refuse _) w
exact_function L (suc left) w =
    exact_body L (λ w. exact_place λ place. exact_then (exact_at_most w.number L.max_total_prototypes (TotalPrototypes place)) λ _. exact_function L left w) w

-- ## Chunks
pub exact_main : (L : ResourceLimits) → Exact (main L) (Main L)
exact_main L =
    exact_then exact_header λ headed.
    exact_then (exact_field 1) λ forgotten.
    exact_then (exact_function L L.max_nesting_depth _) λ functions.
    exact_give _
