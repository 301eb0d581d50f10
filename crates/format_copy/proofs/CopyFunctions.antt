-- A function is copied, with all functions that nest in it.
--     body_copies          one function, by how its source and the functions in it are copied
--     function_copies      nested: its source is written as absent
--     function-whole       main: its source is kept
-- Assumes nothing.
use mathlib.Core.Path.{◌≡◌, refl, sym, ◌∙◌, ap, ap₂}
use mathlib.Core.List.{List, [], ◌∷◌, ◌++◌, append-nil, map-id, foldr}
use mathlib.Core.Option.{Option, none, map}
use Prim.Native.Nat.{ℕ, zero, suc, ◌≤◌}
use lib.ListN.{length}
use lib.Seq.{take_at, drop_at}
use Rattle.format.specs.declared.limits.ResourceLimits.{ResourceLimits}
use Rattle.format.specs.Form.{Bytes, Form}
use Rattle.format.specs.GrammarFields.{LuaString, String}
use Rattle.format.specs.Reading.{Prototype}
use Rattle.format.specs.GrammarChunk.{inherit, Where, Body, Function, outermost}
use Rattle.format_spelling.specs.Spelling.{Tally}
use Rattle.format_spelling.specs.Spelling as tally
use Rattle.format.specs.Copy.{field_bytes, option_bytes, behind_source, nest, functions_bytes, kept_function, kept_nested, kept_functions, kept_string}
use Rattle.format.proofs.Sources.{inherit-none}
use Rattle.format_copy.proofs.Copies.{Measure, Copies, As, then_copies, is_copies, none_copies, here_copies, given_copies, number_copies, field_copies, run_copies, many_copies, uncounted, weaken}
use Rattle.format_copy.proofs.CopyEntries.{string_copies, source_copies, Absent, absent_copies, constant_copies, upvalue_copies, anchor_copies, local_copies, field_again, as_list_lem, counted_copies, up_to_copies, unmap}
use Rattle.format_copy.proofs.CopyForest.{Way, Once, Each, Around, around_within, forest_copies}

-- ## One function, by how its source is copied (R), and by how the functions are copied that nest in it (way)
pub record Behind (way : Way) (R : Option LuaString → Option LuaString → Bytes → Type 0) (w v : Where) (ps ps' : List Prototype) (b : Bytes) : Type 0 where
  pub p : Prototype
  pub p' : Prototype
  pub inner : List Prototype
  pub inner' : List Prototype
  pub old : ps ≡ p ∷ inner
  pub new : ps' ≡ p' ∷ inner'
  pub nested : Bytes
  pub each : Each way p.source_name p.protos inner inner' nested
  pub alike : (source : Option LuaString) → kept_function source p' ≡ kept_function source p
  pub spelt : Option LuaString
  pub spelt' : Option LuaString
  pub source : p.source_name ≡ inherit spelt w.source
  pub source' : p'.source_name ≡ inherit spelt' v.source
  pub front : Bytes
  pub related : R spelt spelt' front
  pub joined : b ≡ front ++ behind_source p nested

pub body_copies : {m : Measure} (way : Way) (L : ResourceLimits) → 1 ≤ L.max_string_bytes → {F : Where → Form (List Prototype)} {p : (w : Where) → Tally (F w)} {R : Option LuaString → Option LuaString → Bytes → Type 0}
    → ((w v : Where) → Around way w v → Copies m (F w) (F v) (p v) (Once way w.source))
    → (w v : Where) → Copies m (String L.max_string_bytes) (String L.max_string_bytes) (tally.source L.max_string_bytes v) R
    → ((t t' : Option LuaString) (b : Bytes) → R t t' b → way.Near (inherit t w.source) (inherit t' v.source)) → Around way w v
    → Copies m (Body L F w) (Body L F v) (tally.body L p v) (Behind way R w v)
unfolding Body behind_source tally.body
body_copies way L l one w v src near a =
    here_copies λ start start'.
    then_copies src λ spelt spelt' front r.
    number_copies λ line_defined.
    number_copies λ last_line_defined.
    field_copies λ numparams.
    field_copies λ is_vararg.
    field_copies λ maxstacksize.
    number_copies λ size.
    given_copies (λ h. h) (
    given_copies (λ h. rw (← a.instructions) h) (
    here_copies λ instructions_at instructions-at'.
    then_copies (uncounted (many_copies size (field_again 4))) λ instructions instructions' b₁ q₁.
    then_copies (up_to_copies (constant_copies L.max_string_bytes) L.max_constants_per_proto) λ constants constants' b₂ q₂.
    then_copies (up_to_copies upvalue_copies L.max_upvalues_per_proto) λ upvalues upvalues' b₃ q₃.
    number_copies λ protos.
    given_copies (λ h. h) (
    here_copies λ protos-at protos-at'.
    then_copies (forest_copies way protos _ _ (around_within way w v _ _ (length instructions) (length instructions') (ap length (sym (unmap instructions' instructions q₁.1))) (near spelt spelt' front r) a) one) λ inner inner' c e.
    number_copies λ line-info-size.
    here_copies λ line-info-at line-info-at'.
    run_copies λ line_info_lem h.
    then_copies (counted_copies anchor_copies) λ abs_line_info abs-line-info' b₄ q₄.
    then_copies (counted_copies (local_copies L.max_string_bytes l)) λ loc_vars loc-vars' b₅ q₅.
    then_copies (counted_copies (string_copies L.max_string_bytes)) λ upvalue_names_lem upvalue-names' b₆ q₆.
    uncounted (here_copies λ end end'.
    is_copies (record {
      p = _;
      p' = _;
      inner = _;
      inner' = _;
      old = refl;
      new = refl;
      nested = c;
      each = e;
      alike = λ source. rw (
        a.depth,
        a.parent,
        unmap instructions' instructions q₁.1,
        q₂.alike,
        unmap upvalues'.items upvalues.items q₃.alike,
        unmap abs-line-info'.items abs_line_info.items q₄.alike,
        q₅.alike,
        q₆.alike,
      );
      spelt = _;
      spelt' = _;
      source = refl;
      source' = refl;
      front = _;
      related = r;
      joined = rw (as_list_lem (field_bytes 4) size instructions b₁ _ q₁.0 q₁.2, append-nil, q₂.bytes_are, q₃.bytes_are, q₄.bytes_are, q₅.bytes_are, q₆.bytes_are, h);
    })))))

-- ## Nested functions: the source is absent
abbrev pub archive : Way
archive = record { Piece = Bytes; nest = nest; bytes = λ source b. b; plainly = kept_nested; counts = λ p. refl; Near = λ s t. Unit {0} }

nest-each : (p : Prototype) (ps ps' : List Prototype) (b : Bytes) (later : List Bytes) → Each archive p.source_name p.protos ps ps' b → foldr nest later (p ∷ ps) ≡ (option_bytes none ++ behind_source p b) ∷ later
nest-each p ps ps' b later e =
    rw (e.stack later, take_at e.pieces later p.protos e.count, drop_at e.pieces later p.protos e.count, ← map-id e.pieces, ← e.joined)

pub once : (w v : Where) (ps ps' : List Prototype) (b : Bytes) → Behind archive Absent w v ps ps' b → Once archive w.source ps ps' b
once w v ps ps' b s = record {
  piece = b;
  joined = refl;
  alike = rw (s.new, s.old) (ap₂ ◌∷◌ (s.alike none) s.each.alike);
  stack = λ later. rw (s.old, s.joined, s.related.0) (nest-each s.p s.inner s.inner' s.nested later s.each);
}

module _ {m : Measure} (L : ResourceLimits) (l : 1 ≤ L.max_string_bytes) where
  function_copies : (left : ℕ) (w v : Where) → Around archive w v → Copies m (Function L left w) (Function L left v) (tally.function L left v) (Once archive w.source)
  unfolding Function tally.function
  function_copies zero w v a = weaken (once w v) (body_copies archive L l (λ w v a. none_copies) w v (absent_copies _ v) (λ _ _ _ _. tt) a)
  function_copies (suc left) w v a =
      weaken (once w v) (body_copies archive L l (λ w v a. given_copies (λ h. rw (← a.number) h) (function_copies left w v a)) w v (absent_copies _ v) (λ _ _ _ _. tt) a)

-- ## Main: its source is kept
pub record Whole (ps ps' : List Prototype) (b : Bytes) : Type 0 where
  pub alike : kept_functions ps' ≡ kept_functions ps
  pub joined : b ≡ functions_bytes ps

pub whole : (ps ps' : List Prototype) (b : Bytes) → Behind archive (As option_bytes (map kept_string)) outermost outermost ps ps' b → Whole ps ps' b
whole ps ps' b s =
    let source : s.p.source_name ≡ s.spelt = s.source ∙ inherit-none s.spelt in
    let source' : s.p'.source_name ≡ s.spelt' = s.source' ∙ inherit-none s.spelt' in
    let kept : map kept_string s.p'.source_name ≡ map kept_string s.p.source_name = ap (map kept_string) source' ∙ s.related.1 ∙ ap (map kept_string) (sym source) in
    record {
      alike = rw (s.new, s.old) (ap₂ ◌∷◌ (ap (λ t. kept_function t s.p') kept ∙ s.alike _) s.each.alike);
      joined = rw (s.old, s.joined, s.related.0, source, s.each.stack [], append-nil, s.each.joined, map-id s.each.pieces);
    }

around_main : Around archive outermost outermost
around_main = record { number = refl; instructions = refl; depth = refl; parent = refl; source = tt }

module _ {m : Measure} (L : ResourceLimits) (l : 1 ≤ L.max_string_bytes) where
  pub function-whole : (left : ℕ) → Copies m (Function L left outermost) (Function L left outermost) (tally.function L left outermost) Whole
  unfolding Function tally.function
  function-whole zero = weaken whole (body_copies archive L l (λ w v a. none_copies) outermost outermost (source_copies _) (λ _ _ _ _. tt) around_main)
  function-whole (suc left) =
      weaken whole (body_copies archive L l (λ w v a. given_copies (λ h. rw (← a.number) h) (function_copies L l left w v a)) outermost outermost (source_copies _) (λ _ _ _ _. tt) around_main)
