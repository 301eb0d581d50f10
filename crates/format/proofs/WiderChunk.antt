-- What belongs to the grammar under some limits belongs to it under larger ones, with the same value.
--     AtMostEach L N       each limit that the grammar tests is at most as large in L as in N
--     main_wider           the law for all but the trailing bytes
--     above L M            limits above any two
-- Assumes nothing.
use mathlib.Core.List.{List}
use Prim.Native.Nat.{ℕ, zero, suc, ◌+◌, ◌≤◌}
use native.Mathlib.Omega.{arith}
use Rattle.format.specs.declared.limits.ResourceLimits.{ResourceLimits}
use Rattle.format.specs.Form.{Form}
use Rattle.format.specs.Reading.{Prototype}
use Rattle.format.specs.GrammarChunk.{Where, after, Forest, Body, Function, Main}
use Rattle.format.proofs.Wider.{Wider, same_wider, none_wider, at_most_wider, then_wider, behind, so, counted_wider, up_to_wider, string_wider, constant_wider, local_wider}

pub record AtMostEach (L N : ResourceLimits) : Type 0 where
  pub nesting : L.max_nesting_depth ≤ N.max_nesting_depth
  pub prototypes : L.max_total_prototypes ≤ N.max_total_prototypes
  pub instructions : L.max_instructions_per_proto ≤ N.max_instructions_per_proto
  pub total_instructions : L.max_total_instructions ≤ N.max_total_instructions
  pub constants : L.max_constants_per_proto ≤ N.max_constants_per_proto
  pub upvalues : L.max_upvalues_per_proto ≤ N.max_upvalues_per_proto
  pub strings : L.max_string_bytes ≤ N.max_string_bytes

pub forest_wider : {F G : Where → Form (List Prototype)} (n : ℕ) (w : Where) → ((w : Where) → Wider (F w) (G w)) → Wider (Forest n F w) (Forest n G w)
forest_wider zero w one = same_wider
forest_wider (suc n) w one = then_wider (one w) λ ps. so (forest_wider n (after ps w) one)

module _ {L N : ResourceLimits} (le : AtMostEach L N) where
  body_wider : {F G : Where → Form (List Prototype)} → ((w : Where) → Wider (F w) (G w)) → (w : Where) → Wider (Body L F w) (Body N G w)
  unfolding Body
  body_wider one w =
      behind λ start.
      then_wider (string_wider le.strings) λ spelt.
      behind λ line_defined.
      behind λ last_line_defined.
      behind λ numparams.
      behind λ is_vararg.
      behind λ maxstacksize.
      behind λ size.
      then_wider (at_most_wider size le.instructions) λ _.
      then_wider (at_most_wider (w.instructions + size) le.total_instructions) λ _.
      behind λ instructions_at.
      behind λ instructions.
      then_wider (up_to_wider le.constants (constant_wider le.strings)) λ constants.
      then_wider (up_to_wider le.upvalues same_wider) λ upvalues.
      behind λ protos.
      then_wider (at_most_wider protos le.prototypes) λ _.
      behind λ protos-at.
      then_wider (forest_wider protos _ one) λ nested.
      behind λ line-info-size.
      behind λ line-info-at.
      behind λ line_info_lem.
      behind λ abs_line_info.
      then_wider (counted_wider (local_wider le.strings)) λ loc_vars.
      so (counted_wider (string_wider le.strings))

  pub function_wider : (left deeper : ℕ) → left ≤ deeper → (w : Where) → Wider (Function L left w) (Function N deeper w)
  unfolding Function
  function_wider zero zero d w = body_wider (λ w. none_wider) w
  function_wider zero (suc deeper) d w = body_wider (λ w. none_wider) w
  function_wider (suc left) zero d w = absurd (omega arith)
  function_wider (suc left) (suc deeper) d w = body_wider (λ w. then_wider (at_most_wider w.number le.prototypes) λ _. function_wider left deeper (omega arith) w) w

  pub main_wider : Wider (Main L) (Main N)
  main_wider = behind λ headed. behind λ forgotten. so (function_wider _ _ le.nesting _)

-- each is at least 1, too
abbrev pub above : ResourceLimits → ResourceLimits → ResourceLimits
above L M = record {
  max_input_bytes = L.max_input_bytes + M.max_input_bytes + 1;
  max_nesting_depth = L.max_nesting_depth + M.max_nesting_depth + 1;
  max_total_prototypes = L.max_total_prototypes + M.max_total_prototypes + 1;
  max_instructions_per_proto = L.max_instructions_per_proto + M.max_instructions_per_proto + 1;
  max_total_instructions = L.max_total_instructions + M.max_total_instructions + 1;
  max_constants_per_proto = L.max_constants_per_proto + M.max_constants_per_proto + 1;
  max_upvalues_per_proto = L.max_upvalues_per_proto + M.max_upvalues_per_proto + 1;
  max_string_bytes = L.max_string_bytes + M.max_string_bytes + 1;
  max_diagnostics = L.max_diagnostics + M.max_diagnostics + 1;
}

module _ (L M : ResourceLimits) where
  pub above_left : AtMostEach L (above L M)
  above_left = omega arith

  pub above_right : AtMostEach M (above L M)
  above_right = omega arith
