-- The source of a function, in the code's terms: by what the calls showed.
--     absent, spelt            by what is spelt at its place
--     handed_down              what those in it inherit, by the place that is handed to them
--     is-written               what a full copy writes of what is spelt
--     its_written              the same of a head that was read, by what `source_of` showed
-- Assumes nothing.
use Rattle.std.specs.Prelude.{Some, None}
use mathlib.Core.Path.{◌≡◌, refl, sym, ◌∙◌, ap, ap₂}
use mathlib.Core.Bool.{Bool, true, false, not, cond}
use mathlib.Core.Option.{Option, none, some}
use Prim.Native.Nat.{ℕ}
use native.Mathlib.Omega.{arith}
use lib.ListN.{drop}
use Rattle.format.specs.declared.limits.ResourceLimits.{ResourceLimits}
use Rattle.format.specs.Form.{Bytes}
use Rattle.format.specs.GrammarFields.{LuaString}
use Rattle.format.specs.GrammarChunk.{inherit}
use Rattle.format.specs.Read.{ok}
use Rattle.format.specs.Copy.{option_bytes}
use Rattle.format.specs.FullCopy.{equal_sources, nested_source}
use Rattle.format.proofs.FullSources.{inherited}
use Rattle.read_field.specs.declared.string.StringAt.{StringAt}
use Rattle.read_field.specs.Shown.{option_string}
use Rattle.read_prototype.specs.Parts.{Head, head}
use Rattle.read_prototype.specs.Inner.Counts.{is_spelt}
use Rattle.read_walk.specs.Inner.Source.{source_at, repeats, unpadded_at, handed}
use Rattle.read_walk.proofs.Sources.{no_outer, spelt-at, inherits_at}
use Rattle.read_walk.proofs.Unpadded.{unpadded_source}
use Rattle.copy_full_walk.specs.declared.source.Source.{Source}
use Rattle.copy_full_walk.specs.Inner.Source.{written, source_of}

-- ## What `source_of` answers
abbrev answered : ℕ → ℕ → Option LuaString → Option LuaString → Source
answered at parent t p = record { own = handed (is_spelt (option_string t)) at parent; written = written t p }

pub absent : (at parent : ℕ) (t p : Option LuaString) → None ≡ option_string t → record { own = parent; written = false } ≡ answered at parent t p
absent at parent t p e = rw (no_outer t e)

pub spelt : (at parent : ℕ) (t p : Option LuaString) {x : StringAt} {b : Bool} → Some x ≡ option_string t → b ≡ repeats t p → record { own = at; written = not b } ≡ answered at parent t p
spelt at parent none p e f = absurd (let z : ◌≡◌ {A = ℕ} 0 1 = cc in omega arith)
spelt at parent (some t) p e f = rw f

-- ## Of a head that was read
pub is-written : (t outer : Option LuaString) → option_bytes (cond (written t outer) t none) ≡ option_bytes (nested_source outer (inherit t outer))
is-written none outer = rw (inherited outer)
is-written (some t) outer = by (equal_sources (some t) outer)
  where
    by : (b : Bool) → option_bytes (cond (not b) (some t) none) ≡ option_bytes (cond b none (some t))
    by true = refl
    by false = refl

module _ (L : ResourceLimits) (before at : ℕ) (s : Bytes) {h : Head} {to : ℕ} {rest : Bytes} (e : head L before at (drop at s) ≡ ok h to rest) (parent : ℕ) {r : Source} (is : r ≡ source_of L.max_string_bytes s at parent)
    (outer : Option LuaString) (around : outer ≡ source_at L.max_string_bytes s parent) where
  spells : source_at L.max_string_bytes s at ≡ h.front.source
  spells = spelt-at L before s at e

  pub handed_down : inherit h.front.source outer ≡ source_at L.max_string_bytes s r.own
  handed_down =
      inherits_at L.max_string_bytes s (unpadded_at s at) parent h.front.source outer (unpadded_source L.max_string_bytes s at ∙ spells) around
      ∙ ap (λ t. source_at L.max_string_bytes s (handed (is_spelt (option_string t)) (unpadded_at s at) parent)) (sym spells)
      ∙ ap (λ (r : Source). source_at L.max_string_bytes s r.own) (sym is)

  pub its_written : option_bytes (cond r.written h.front.source none) ≡ option_bytes (nested_source outer (inherit h.front.source outer))
  its_written =
      let so : r.written ≡ written h.front.source outer = ap (λ (r : Source). r.written) is ∙ ap₂ written spells (sym around) in
      ap (λ b. option_bytes (cond b h.front.source none)) so ∙ is-written h.front.source outer
