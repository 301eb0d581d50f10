-- A function is copied in full, with all functions that nest in it.
--     in_full              what is counted of how a full copy is spelt: all but the sources that it keeps
--     source-written       a function's source: written where it is not its parent's
--     full_copies          functions, nested or main: that has no parent
--     full_whole           main
-- Assumes nothing.
use mathlib.Core.Path.{◌≡◌, refl, sym, ◌∙◌, ap, ap₂}
use mathlib.Core.Bool.{Bool, true, false}
use mathlib.Core.List.{List, [], ◌∷◌, ◌++◌, append-nil, map, foldr}
use mathlib.Core.Option
use mathlib.Core.Option.{Option, none, some}
use Prim.Native.Nat.{ℕ, zero, suc, ◌≤◌}
use native.Mathlib.Omega.{arith}
use lib.Seq.{take_at, drop_at}
use Rattle.format.specs.declared.limits.ResourceLimits.{ResourceLimits}
use Rattle.format.specs.Form.{Bytes, Below}
use Rattle.format.specs.GrammarFields.{LuaString, String}
use Rattle.format.specs.Reading.{Prototype}
use Rattle.format.specs.GrammarChunk.{inherit, Where, Function, outermost}
use Rattle.format.specs.Copy.{option_bytes, behind_source, kept_string, kept_function}
use Rattle.format.specs.FullCopy.{equal_sources, nested_source, Within, all_within, full_function, full_nest, full_functions, kept_sourced}
use Rattle.format_spelling.specs.Spelling.{dropping, respelt_full}
use Rattle.format_spelling.specs.Spelling as tally
use Rattle.format.proofs.FullSources.{same_source_lem, alike_sources, inherited}
use Rattle.format_copy.proofs.Copies.{Measure, Copied, Copies, none_copies, given_copies, weaken}
use Rattle.format_copy.proofs.CopyEntries.{string_copies, absent_copies}
use Rattle.format_copy.proofs.CopyForest.{Way, Once, Around}
use Rattle.format_copy.proofs.CopyFunctions.{Behind, body_copies}

-- every source is kept but for its place
abbrev pub full : Way
full = record { Piece = Within; nest = full_nest; bytes = λ source f. f source; plainly = kept_sourced; counts = λ p. refl; Near = λ s t. Option.map kept_string t ≡ Option.map kept_string s }

abbrev pub in_full : Measure
in_full = record { of = respelt_full; nothing = refl; adds = λ a b h k. omega (arith, h, k) }

-- ## A function's source
-- its bytes are what the full copy writes of it, and it reads as it did, but for its place
pub record Sourced (w v : Where) (spelt spelt' : Option LuaString) (b : Bytes) : Type 0 where
  pub wrote : b ≡ option_bytes (nested_source w.source (inherit spelt w.source))
  pub reads : Option.map kept_string (inherit spelt' v.source) ≡ Option.map kept_string (inherit spelt w.source)

-- a source that is not the parent's counts nothing, and so it is of one that is alike, in a parent's that is alike
not-counted : (v : Where) (t : LuaString) (u : Option LuaString) → Option.map kept_string u ≡ some (kept_string t) → (parent : Option LuaString) → Option.map kept_string v.source ≡ Option.map kept_string parent → equal_sources (some t) parent ≡ false → respelt_full (dropping v u) ≡ 0
not-counted v t none e parent f other = refl
not-counted v t (some u) e parent f other = rw (alike_sources (some u) (some t) v.source parent e f ∙ other)

kept_some : (t : LuaString) (u parent : Option LuaString) → Option.map kept_string u ≡ some (kept_string t) → Option.map kept_string (inherit u parent) ≡ some (kept_string t)
kept_some t none parent e = absurd (let z : ◌≡◌ {A = ℕ} 0 1 = cc in omega arith)
kept_some t (some u) parent e = e

module _ (limit : ℕ) (w v : Where) (a : Around full w v) where
  -- written as absent: the parent's, as read
  absent : (at to : ℕ) (b : Bytes) (t : Option LuaString) → Below 256 b → String limit at b t → equal_sources (inherit t w.source) w.source ≡ true → Copied in_full (String limit) (tally.source limit v) to (Sourced w v t)
  absent at to b t h d e =
      let z = (absent_copies {m = in_full} limit v).again at to b t h d in
      record { value = z.value; bytes = z.bytes; below = z.below; spelt = z.spelt; tidy = z.tidy; holds = record { wrote = rw e z.holds.0; reads = rw z.holds.1 (a.source ∙ sym (same_source_lem (inherit t w.source) w.source e)) } }

  written : (at to : ℕ) (b : Bytes) (t : LuaString) → Below 256 b → String limit at b (some t) → equal_sources (some t) w.source ≡ false → Copied in_full (String limit) (tally.source limit v) to (Sourced w v (some t))
  unfolding tally.source tally.besides
  written at to b t h d e =
      let z = (string_copies {m = in_full} limit).again at to b (some t) h d in
      record {
        value = z.value;
        bytes = z.bytes;
        below = z.below;
        spelt = z.spelt;
        tidy = omega (arith, z.tidy, not-counted v t z.value z.holds.1 w.source a.source e);
        holds = record { wrote = rw e z.holds.0; reads = kept_some t z.value v.source z.holds.1 };
      }

  source-written : Copies in_full (String limit) (String limit) (tally.source limit v) (Sourced w v)
  source-written = record { again = λ at to b t h d. by at to b t h d }
    where
      tested : (at to : ℕ) (b : Bytes) (t : LuaString) → Below 256 b → String limit at b (some t) → (x : Bool) → equal_sources (some t) w.source ≡ x → Copied in_full (String limit) (tally.source limit v) to (Sourced w v (some t))
      tested at to b t h d true e = absent at to b (some t) h d e
      tested at to b t h d false e = written at to b t h d e

      by : (at to : ℕ) (b : Bytes) (t : Option LuaString) → Below 256 b → String limit at b t → Copied in_full (String limit) (tally.source limit v) to (Sourced w v t)
      by at to b none h d = absent at to b none h d (inherited w.source)
      by at to b (some t) h d = tested at to b t h d (equal_sources (some t) w.source) refl

-- ## Functions
pub once : (w v : Where) (ps ps' : List Prototype) (b : Bytes) → Behind full (Sourced w v) w v ps ps' b → Once full w.source ps ps' b
unfolding all_within full_function
once w v ps ps' b s =
    let own = s.p.source_name in
    let source : Option.map kept_string s.p'.source_name ≡ Option.map kept_string own = ap (Option.map kept_string) s.source' ∙ s.related.reads ∙ ap (Option.map kept_string) (sym s.source) in
    record {
      piece = full_function s.p s.each.pieces;
      joined = s.joined ∙ ap₂ (λ t n. t ++ behind_source s.p n) (s.related.wrote ∙ ap (λ t. option_bytes (nested_source w.source t)) (sym s.source)) s.each.joined;
      alike = rw (s.new, s.old) (ap₂ ◌∷◌ (ap (λ t. kept_function t s.p') source ∙ s.alike _) s.each.alike);
      stack = λ later. rw (s.old, s.each.stack later, take_at s.each.pieces later s.p.protos s.each.count, drop_at s.each.pieces later s.p.protos s.each.count);
    }

module _ (L : ResourceLimits) (l : 1 ≤ L.max_string_bytes) where
  pub full_copies : (left : ℕ) (w v : Where) → Around full w v → Copies in_full (Function L left w) (Function L left v) (tally.function L left v) (Once full w.source)
  unfolding Function tally.function
  full_copies zero w v a = weaken (once w v) (body_copies full L l (λ w v a. none_copies) w v (source-written _ w v a) (λ _ _ _ r. r.reads) a)
  full_copies (suc left) w v a =
      weaken (once w v) (body_copies full L l (λ w v a. given_copies (λ h. rw (← a.number) h) (full_copies left w v a)) w v (source-written _ w v a) (λ _ _ _ r. r.reads) a)

-- ## Main
pub record FullWhole (ps ps' : List Prototype) (b : Bytes) : Type 0 where
  pub alike : map kept_sourced ps' ≡ map kept_sourced ps
  pub joined : b ≡ full_functions ps

pub whole : (ps ps' : List Prototype) (b : Bytes) → Once full none ps ps' b → FullWhole ps ps' b
unfolding all_within mathlib.Core.List.flatten
whole ps ps' b s = record { alike = s.alike; joined = s.joined ∙ sym (append-nil (s.piece none)) ∙ ap (all_within none) (sym (s.stack [])) }

around_main : Around full outermost outermost
around_main = record { number = refl; instructions = refl; depth = refl; parent = refl; source = refl }

pub full_whole : (L : ResourceLimits) → 1 ≤ L.max_string_bytes → (left : ℕ) → Copies in_full (Function L left outermost) (Function L left outermost) (tally.function L left outermost) FullWhole
full_whole L l left = weaken whole (full_copies L l left outermost outermost around_main)
