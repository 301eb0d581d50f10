-- How deep functions nest, of what belongs to the grammar under some limits: the laws behind Request05.antt. They hold for any depth.
--     with_nesting d L      the limits L, but for nesting, which is d
--     Shallow d ps         none of these functions lies deeper than d
--     never_deeper         what belongs under a nesting limit is as shallow
--     shallow_belongs      what is as shallow as d belongs under the limit d too, whatever limit it belongs under
-- Assumes nothing.
use mathlib.Core.Path.{◌≡◌, refl, ap}
use mathlib.Core.List.{List}
use Prim.Native.Nat.{ℕ, zero, suc, ◌+◌, ◌≤◌}
use native.Mathlib.Nat.{zero-add}
use native.Mathlib.Omega.{arith}
use lib.ListN.{length}
use Rattle.format.specs.declared.limits.ResourceLimits.{ResourceLimits}
use Rattle.format.specs.Form.{Bytes, All, Form, Then, Given, Nothing}
use Rattle.format.specs.Reading.{Prototype, Reading}
use Rattle.format.specs.GrammarChunk.{Where, after, within, inherit, Forest, Body, Function, outermost, Main, Chunk}
use Rattle.format.proofs.Every.{Every, any, every_then, every_is, every_nothing, all_append, all_split}
use Rattle.format.proofs.Wider.{same_wider}
use Rattle.format_lua.proofs.WiderIf.{WiderIf, ends, tested, untested, none_if, unasked, learnt, refuted}

abbrev pub with_nesting : ℕ → ResourceLimits → ResourceLimits
with_nesting d L = record {
  max_input_bytes = L.max_input_bytes;
  max_nesting_depth = d;
  max_total_prototypes = L.max_total_prototypes;
  max_instructions_per_proto = L.max_instructions_per_proto;
  max_total_instructions = L.max_total_instructions;
  max_constants_per_proto = L.max_constants_per_proto;
  max_upvalues_per_proto = L.max_upvalues_per_proto;
  max_string_bytes = L.max_string_bytes;
  max_diagnostics = L.max_diagnostics;
}

abbrev pub Shallow : ℕ → List Prototype → Type 0
Shallow d ps = All (λ p. p.depth ≤ d) ps

module _ (L : ResourceLimits) (d : ℕ) where
  -- ## Nothing lies deeper
  forest-depth : (n : ℕ) {F : Where → Form (List Prototype)} (w : Where) → ((v : Where) → v.depth ≡ w.depth → Every (F v) (Shallow d)) → Every (Forest n F w) (Shallow d)
  forest-depth zero w one = every_is tt
  forest-depth (suc n) w one = every_then (one w refl) λ ps p. every_then (forest-depth n (after ps w) one) λ more q. every_is (all_append _ ps more p q)

  body-depth : {F : Where → Form (List Prototype)} (w : Where) → w.depth ≤ d → ((v : Where) → v.depth ≡ w.depth + 1 → Every (F v) (Shallow d)) → Every (Body L F w) (Shallow d)
  unfolding Body
  body-depth w h one =
      every_then any λ start _.
      every_then any λ spelt _.
      every_then any λ line_defined _.
      every_then any λ last_line_defined _.
      every_then any λ numparams _.
      every_then any λ is_vararg _.
      every_then any λ maxstacksize _.
      every_then any λ size _.
      every_then any λ _ _.
      every_then any λ _ _.
      every_then any λ instructions_at _.
      every_then any λ instructions _.
      every_then any λ constants _.
      every_then any λ upvalues _.
      every_then any λ protos _.
      every_then any λ _ _.
      every_then any λ protos-at _.
      every_then (forest-depth protos (within w (inherit spelt w.source) (length instructions)) one) λ nested p.
      every_then any λ line-info-size _.
      every_then any λ line-info-at _.
      every_then any λ line_info_lem _.
      every_then any λ abs_line_info _.
      every_then any λ loc_vars _.
      every_then any λ upvalue_names_lem _.
      every_then any λ end _.
      every_is (h, p)

  function-depth : (left : ℕ) (w : Where) → w.depth + left ≤ d → Every (Function L left w) (Shallow d)
  unfolding Function
  function-depth zero w h = body-depth w (omega arith) λ v e. every_nothing
  function-depth (suc left) w h = body-depth w (omega arith) λ v e. every_then any λ _ _. function-depth left v (omega arith)

  main-depth : L.max_nesting_depth ≤ d → Every (Main L) (λ m. Shallow d m.functions)
  main-depth h = every_then any λ headed _. every_then any λ forgotten _. every_then (function-depth L.max_nesting_depth outermost (omega (arith, h))) λ functions p. every_is p

  -- ## What is shallow needs no larger limit
  abbrev N : ResourceLimits
  N = with_nesting d L

  forest_shallow : (n : ℕ) {F G : Where → Form (List Prototype)} (w : Where) → ((v : Where) → v.depth ≡ w.depth → WiderIf (Shallow d) (Unit {0}) (F v) (G v))
      → WiderIf (Shallow d) (Unit {0}) (Forest n F w) (Forest n G w)
  forest_shallow zero w one = ends λ p. tt
  forest_shallow (suc n) w one =
      tested (one w refl) λ ps.
      tested (forest_shallow n (after ps w) one) λ more.
      ends λ p. let both = all_split _ ps more p in (both.1, (both.0, tt))

  -- learnt besides: the function itself lies no deeper
  body_shallow : {F G : Where → Form (List Prototype)} (w : Where) → ((v : Where) → v.depth ≡ w.depth + 1 → WiderIf (Shallow d) (Unit {0}) (F v) (G v))
      → WiderIf (Shallow d) (w.depth ≤ d) (Body L F w) (Body N G w)
  unfolding Body
  body_shallow w one =
      untested same_wider λ start.
      untested same_wider λ spelt.
      untested same_wider λ line_defined.
      untested same_wider λ last_line_defined.
      untested same_wider λ numparams.
      untested same_wider λ is_vararg.
      untested same_wider λ maxstacksize.
      untested same_wider λ size.
      untested same_wider λ _.
      untested same_wider λ _.
      untested same_wider λ instructions_at.
      untested same_wider λ instructions.
      untested same_wider λ constants.
      untested same_wider λ upvalues.
      untested same_wider λ protos.
      untested same_wider λ _.
      untested same_wider λ protos-at.
      tested (forest_shallow protos (within w (inherit spelt w.source) (length instructions)) one) λ nested.
      untested same_wider λ line-info-size.
      untested same_wider λ line-info-at.
      untested same_wider λ line_info_lem.
      untested same_wider λ abs_line_info.
      untested same_wider λ loc_vars.
      untested same_wider λ upvalue_names_lem.
      untested same_wider λ end.
      ends λ p. (p.1, p.0)

  -- one that nests in a function of depth d is too deep
  none_within : (n : ℕ) (v : Where) → suc d ≤ v.depth → WiderIf (Shallow d) (Unit {0}) (Then (Given (v.number ≤ L.max_total_prototypes)) (λ _. Function L n v)) Nothing
  unfolding Function
  none_within zero v h = refuted (λ k. omega (arith, h, k)) (untested same_wider λ _. body_shallow v λ u e. unasked same_wider)
  none_within (suc n) v h = refuted (λ k. omega (arith, h, k)) (untested same_wider λ _. body_shallow v λ u e. unasked same_wider)

  function_shallow : (n k : ℕ) (w : Where) → w.depth + k ≡ d → WiderIf (Shallow d) (Unit {0}) (Function L n w) (Function N k w)
  unfolding Function
  function_shallow zero zero w e = learnt (λ _. tt) (body_shallow w λ v f. none_if)
  function_shallow zero (suc k) w e = learnt (λ _. tt) (body_shallow w λ v f. none_if)
  function_shallow (suc n) zero w e = learnt (λ _. tt) (body_shallow w λ v f. none_within n v (omega (arith, e, f)))
  function_shallow (suc n) (suc k) w e = learnt (λ _. tt) (body_shallow w λ v f. untested same_wider λ _. function_shallow n k v (omega (arith, e, f)))

  main_shallow : WiderIf (λ m. Shallow d m.functions) (Unit {0}) (Main L) (Main N)
  main_shallow = untested same_wider λ headed. untested same_wider λ forgotten. tested (function_shallow L.max_nesting_depth d outermost (zero-add d)) λ functions. ends λ p. (p, tt)

  -- ## Of chunks
  module _ (chunk : Bytes) (r : Reading) (c : Chunk L chunk r) where
    same-functions : c.value.functions ≡ r.functions
    same-functions = ap (λ q. q.functions) c.shows

    pub never_deeper : L.max_nesting_depth ≤ d → Shallow d r.functions
    never_deeper h = rw (← same-functions) ((main-depth h).holds 0 c.front c.value c.main)

    pub shallow_belongs : Shallow d r.functions → Chunk (with_nesting d L) chunk r
    shallow_belongs p = record {
      front = c.front;
      trailing = c.trailing;
      whole = c.whole;
      value = c.value;
      main = (main_shallow.widens 0 c.front c.value (rw same-functions p) c.main).0;
      shows = c.shows;
    }
