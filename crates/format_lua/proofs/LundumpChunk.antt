-- What Lua's own loader takes (`Undump`, specs/LundumpFunctions.antt), the stricter grammar takes (crates/format_strict), with the same value, where that value is within the limits (specs/LundumpWithin.antt).
--     function-within, undumped    what `LoadFunction` and `Undump` take, `StrictFunction` and `StrictMain` take
--     loaded_belongs               Lua loads m from the front of a chunk: the chunk belongs under the limits to our grammar, and its reading is what is loaded
--     loaded-is-read               and so it is read
-- The first argument of `Undump` bounds how deep functions nest, and is free here: C has no such bound.
-- The converse: `proofs/StrictLoaded.antt`. Of the ordinary grammar it fails where 01 says so, and there alone: what the ordinary reading takes and the stricter one does not, it refuses with 31 to 33 (crates/format_strict/proofs/StrictAgrees.antt).
-- Assumes nothing.
use mathlib.Core.Path.{◌≡◌, refl}
use mathlib.Core.Bool.{true}
use mathlib.Core.List.{List, ◌++◌}
use mathlib.Core.Option.{Option, none, some}
use Prim.Native.Nat.{ℕ, zero, suc, ◌+◌, ◌≤◌}
use native.Mathlib.Omega.{arith}
use lib.ListN.{length, length-append}
use Rattle.format.specs.declared.limits.ResourceLimits.{ResourceLimits}
use Rattle.format.specs.Form.{Bytes, Form, Then}
use Rattle.format.specs.GrammarFields.{LuaString}
use Rattle.format.specs.Limits.{within_ceilings}
use Rattle.format.specs.Reading.{Prototype}
use Rattle.format.specs.GrammarChunk.{inherit, Where, after, within, Forest, Loaded, outermost, reading, Chunk}
use Rattle.format_strict.specs.GrammarStrict.{StrictBody, StrictFunction, StrictHeader, StrictMain}
use Rattle.format_lua.specs.LundumpFunctions.{LoadProtos, LoadFunction, CheckHeader, Undump}
use Rattle.format_lua.specs.LundumpWithin.{StringWithin, FunctionWithin, FunctionsWithin}
use Rattle.format.specs.ReadChunk.{shown, read}
use Rattle.format.proofs.ReadChunkLaws.{read_complete}
use Rattle.format_strict.proofs.StrictLaws.{main_strict}
use Rattle.format.proofs.Every.{Any, any, every_many, all_any, all_split}
use Rattle.format.proofs.Totals.{instructions-append}
use Rattle.format.proofs.Wider.{Wider, same_wider, joined, behind, grouped}
use Rattle.format_lua.proofs.WiderIf.{WiderIf, ends, tested, untested, tested_in, knows_in, untested_in, ends_in, limited, unasked, none_if, learnt, refuted}
use Rattle.format_lua.proofs.LundumpParts.{int_wider, list_wider, counted-within, up_to-within, string-within, constant-within, local-within, anchor_wider}

-- ## The header
-- into a group, where the rest can be
into : {A B C : Type 0} {F : Form A} {G : A → Form B} {H : B → Form C} {T : A → Form C} → ((x : A) → Wider (T x) (Then (G x) H)) → Wider (Then F T) (Then (Then F G) H)
into rest = joined (behind rest) grouped

pub header_wider : Wider CheckHeader StrictHeader
header_wider = into λ _. behind λ _. behind λ _. into λ _. into λ _. into λ _. into λ _. into λ _. same_wider

-- ## Functions
module _ (L : ResourceLimits) where
  -- the first functions, and those behind them
  split_within : (w : Where) (ps qs : List Prototype) → FunctionsWithin L w (ps ++ qs) → FunctionsWithin L w ps × FunctionsWithin L (after ps w) qs
  split_within w ps qs h =
      let both = all_split (FunctionWithin L) ps qs h.each in
      let instructions = instructions-append ps qs in
      let functions = length-append ps qs in
      (record { each = both.0; instructions = omega arith; functions = omega arith }, record { each = both.1; instructions = omega arith; functions = omega arith })

  forest-within : (n : ℕ) {F G : Where → Form (List Prototype)} (w : Where) → ((v : Where) → v.depth ≡ w.depth → WiderIf (FunctionsWithin L v) (Unit {0}) (F v) (G v))
      → WiderIf (FunctionsWithin L w) (Unit {0}) (LoadProtos n F w) (Forest n G w)
  forest-within zero w one = ends λ p. tt
  forest-within (suc n) w one =
      tested (one w refl) λ ps.
      tested (forest-within n (after ps w) one) λ more.
      ends λ p. let both = split_within w ps more p in (both.1, (both.0, tt))

  -- a source of its own is the one that is shown
  own_within : (limit : ℕ) (own parent : Option LuaString) → StringWithin limit (inherit own parent) → StringWithin limit own
  own_within limit none parent h = tt
  own_within limit (some t) parent h = h

  -- learnt besides: w itself passes the two tests that stand before a nested function
  body-within : (left : ℕ) {G : Where → Form (List Prototype)} (w : Where) → ((v : Where) → v.depth ≡ w.depth + 1 → WiderIf (FunctionsWithin L v) (Unit {0}) (LoadFunction left v) (G v))
      → WiderIf (FunctionsWithin L w) ((w.number ≤ L.max_total_prototypes) × (w.depth ≤ L.max_nesting_depth)) (LoadFunction (suc left) w) (StrictBody L G w)
  unfolding LoadFunction StrictBody
  body-within left w one =
      untested same_wider λ start.
      tested (string-within L.max_string_bytes) λ source.
      untested int_wider λ linedefined.
      untested int_wider λ lastlinedefined.
      untested same_wider λ numparams.
      untested same_wider λ is_vararg.
      untested same_wider λ maxstacksize.
      untested_in int_wider λ size.
      limited
      (limited
      (untested_in same_wider λ instructions_at.
      knows_in (every_many size any) same_wider λ instructions counted.
      ends_in
      (tested (up_to-within (constant-within L.max_string_bytes) L.max_constants_per_proto) λ constants.
      tested (up_to-within {P = Any} (unasked same_wider) L.max_upvalues_per_proto) λ upvalues.
      untested int_wider λ protos.
      limited
      (untested same_wider λ protos-at.
      tested (forest-within protos (within w (inherit source w.source) (length instructions)) one) λ nested.
      untested_in int_wider λ line-info-size.
      untested_in same_wider λ line-info-at.
      untested_in same_wider λ line_info_lem.
      untested_in (list_wider anchor_wider) λ abs_line_info.
      tested_in (counted-within (local-within L.max_string_bytes)) λ loc_vars.
      tested_in (counted-within (string-within L.max_string_bytes)) λ upvalue_names_lem.
      ends_in
      (untested same_wider λ end.
      ends λ p.
      let h = p.each.0 in
      let inner : FunctionsWithin L (within w (inherit source w.source) (length instructions)) nested = record { each = p.each.1; instructions = omega (arith, p.instructions); functions = omega (arith, p.functions) } in
      let total : w.instructions + size ≤ L.max_total_instructions = omega (arith, p.instructions) in
      let few : size ≤ L.max_instructions_per_proto = omega (arith, h.instructions) in
      let number : w.number ≤ L.max_total_prototypes = omega (arith, p.functions) in
      let own = own_within L.max_string_bytes source w.source h.source in
      (h.upvalue_names_lem, (h.local_names, (inner, (h.protos, ((h.upvalues, all_any upvalues.items), ((h.constants, h.constant_strings), (total, (few, (own, (number, h.depth))))))))))
      )))))

  -- k is as deep as functions may nest below w's, or deeper
  pub function-within : (left k : ℕ) (w : Where) → L.max_nesting_depth ≤ w.depth + k
      → WiderIf (FunctionsWithin L w) ((w.number ≤ L.max_total_prototypes) × (w.depth ≤ L.max_nesting_depth)) (LoadFunction left w) (StrictFunction L k w)
  unfolding LoadFunction StrictFunction
  function-within zero k w deep = none_if
  function-within (suc left) zero w deep = body-within left w λ v below. refuted (λ r. omega arith) (function-within left zero v (omega arith))
  function-within (suc left) (suc k) w deep = body-within left w λ v below. learnt (λ r. tt) (limited (function-within left k v (omega arith)))

  main-within : (left : ℕ) → WiderIf (λ m. FunctionsWithin L outermost m.functions) (Unit {0}) (Undump left) (StrictMain L)
  main-within left =
      untested header_wider λ headed.
      untested same_wider λ nupvalues.
      tested (learnt (λ r. tt) (function-within left L.max_nesting_depth outermost (omega arith))) λ functions.
      ends λ p. (p, tt)

  -- ## Chunks
  pub undumped : (left at : ℕ) (b : Bytes) (m : Loaded) → Undump left at b m → FunctionsWithin L outermost m.functions → StrictMain L at b m
  undumped left at b m d h = ((main-within left).widens at b m h d).0

  -- what stands behind main is not looked at by Lua, and is the trailing bytes of ours
  pub loaded_belongs : (left : ℕ) (front trailing : Bytes) (m : Loaded) → Undump left 0 front m → FunctionsWithin L outermost m.functions
      → Chunk L (front ++ trailing) (reading L m (length front) trailing)
  loaded_belongs left front trailing m d h = record { front = front; trailing = trailing; whole = refl; value = m; main = (main_strict L).widens (undumped left 0 front m d h); shows = refl }

  pub loaded-is-read : (left : ℕ) (front trailing : Bytes) (m : Loaded) → Undump left 0 front m → FunctionsWithin L outermost m.functions
      → within_ceilings L ≡ true → length (front ++ trailing) ≤ L.max_input_bytes → read L (front ++ trailing) ≡ shown (reading L m (length front) trailing)
  loaded-is-read left front trailing m d h ceilings input = read_complete L (front ++ trailing) (reading L m (length front) trailing) ceilings input (loaded_belongs left front trailing m d h)
