-- How functions are spelt, as a walk passes over them: one function by what was read of its parts, and functions one after the other. (`OneFunction.antt`, `SoFar.antt`, `Main.antt`: what is read of them.)
--     function-spelt       a function: its head, its own source, those that nest in it, its tail
--     turned, no_more      functions one after the other: the next one, and where none is left
--     main-spelt           main as one function of a list
-- Assumes nothing.
use mathlib.Core.Path.{◌≡◌, refl, ◌∙◌, ap}
use mathlib.Core.List.{List}
use mathlib.Core.Option.{Option, none, some}
use Prim.Native.Nat.{ℕ, zero, suc, ◌+◌, ◌-◌, ◌<◌, ◌≤◌}
use native.Mathlib.Omega.{arith}
use Rattle.format.specs.declared.limits.ResourceLimits.{ResourceLimits}
use Rattle.format.specs.Form.{Bytes}
use Rattle.format.specs.GrammarFields.{LuaString}
use Rattle.format.specs.Reading.{Prototype}
use Rattle.format.specs.GrammarChunk.{Where, after}
use Rattle.format.specs.Read.{Read, ok, refused}
use Rattle.format.specs.ReadChunk.{forest, function}
use Rattle.format.proofs.ExactChunk.{exact_function}
use Rattle.format_spelling.specs.Spelling.{same, ◌⊕◌, dropping}
use Rattle.format_spelling.specs.ReadSpelling.{behind}
use Rattle.format_spelling.specs.ReadSpelling as count
use Rattle.format_spelling.proofs.Sums.{join_same}
use Rattle.format_spelling.proofs.SpellingLaws.{tells_function}
use Rattle.format_spelling.proofs.Few.{few_function}
use Rattle.format_spelling.proofs.Covers.{Covers, covers_few}
use Rattle.format_spelling.proofs.Passing.{stepped}
use Rattle.read_field.specs.Shown.{option_string}
use Rattle.read_prototype.specs.Parts as parts
use Rattle.read_prototype.specs.PartsSpelt as spelt
use Rattle.read_prototype.specs.Inner.Whole.{inside}
use Rattle.read_prototype.specs.Inner.Counts.{is_spelt}
use Rattle.read_prototype.proofs.FlatSpelt.{body-spelt}
use Rattle.read_walk.specs.Inner.Skim.{entered}
use Rattle.read_walk.specs.Inner.Source.{repeats}
use Rattle.read_walk.specs.Inner.Spelt.{nested_spelt, own_source}

-- ## One function
-- the readers that the count goes along with are those of the walk
pub body_of : (L : ResourceLimits) (left : ℕ) (w : Where) (at : ℕ) (s : Bytes) → count.function L left w at s ≡ count.body L (entered L left) (nested_spelt L left) w at s
unfolding count.function
body_of L zero w at s = refl
body_of L (suc left) w at s = refl

pub own_dropped : (w : Where) (t : Option LuaString) → own_source (is_spelt (option_string t)) w.number (repeats t w.source) ≡ dropping w t
own_dropped w none = refl
own_dropped w (some t) = refl

module _ (L : ResourceLimits) (left : ℕ) (w : Where) (at : ℕ) (s : Bytes) {h : parts.Head} {to₁ : ℕ} {rest₁ : Bytes} (e₁ : parts.head L w.instructions at s ≡ ok h to₁ rest₁)
    {ps : List Prototype} {to₂ : ℕ} {rest₂ : Bytes} (e₂ : forest h.protos.count (entered L left) (inside w h) to₁ rest₁ ≡ ok ps to₂ rest₂) where
  pub function-spelt : count.function L left w at s
      ≡ spelt.head L w.instructions at s ⊕ dropping w h.front.source ⊕ (count.forest h.protos.count (entered L left) (nested_spelt L left) (inside w h) to₁ rest₁ ⊕ spelt.tail L.max_string_bytes to₂ rest₂)
  function-spelt = body_of L left w at s ∙ body-spelt L (entered L left) (nested_spelt L left) w at s e₁ e₂

-- no function has more than bytes
pub covers_function : (L : ResourceLimits) (left : ℕ) (w : Where) → Covers (function L left w) (count.function L left w)
covers_function L left w = covers_few (exact_function L left w) (tells_function L left w) (few_function L left w)

-- ## Functions one after the other
pub nested_is : (L : ResourceLimits) (left : ℕ) (w : Where) (at : ℕ) (s : Bytes) → 0 < left → nested_spelt L left w at s ≡ count.function L (left - 1) w at s
nested_is L left w at s more = let e : left ≡ suc (left - 1) = omega arith in ap (λ n. nested_spelt L n w at s) e

-- one of them
pub turned : (L : ResourceLimits) (left : ℕ) (w : Where) (at : ℕ) (s : Bytes) (n : ℕ) → 0 < n → 0 < left → {ps : List Prototype} {to : ℕ} {rest : Bytes} → entered L left w at s ≡ ok ps to rest
    → count.forest n (entered L left) (nested_spelt L left) w at s ≡ count.function L (left - 1) w at s ⊕ count.forest (n - 1) (entered L left) (nested_spelt L left) (after ps w) to rest
turned L left w at s n there more {ps} {to} {rest} e =
    let k : n ≡ suc (n - 1) = omega arith in
    ap (λ m. count.forest m (entered L left) (nested_spelt L left) w at s) k
    ∙ stepped (entered L left w) (nested_spelt L left w) (λ ps. count.forest (n - 1) (entered L left) (nested_spelt L left) (after ps w)) at s e
    ∙ ap (λ a. a ⊕ count.forest (n - 1) (entered L left) (nested_spelt L left) (after ps w) to rest) (nested_is L left w at s more)

-- none is left
pub no_more : (L : ResourceLimits) (left : ℕ) (w : Where) (at : ℕ) (s : Bytes) (n : ℕ) → n ≤ 0 → count.forest n (entered L left) (nested_spelt L left) w at s ≡ same
no_more L left w at s n over = let e : n ≡ 0 = omega arith in ap (λ m. count.forest m (entered L left) (nested_spelt L left) w at s) e

-- ## Main
pub main-spelt : (L : ResourceLimits) (left : ℕ) (w : Where) (at : ℕ) (s : Bytes) → count.forest 1 (entered L (left + 1)) (nested_spelt L (left + 1)) w at s ≡ count.function L left w at s
main-spelt L left w at s =
    by (entered L (left + 1) w at s)
    ∙ join_same (nested_spelt L (left + 1) w at s)
    ∙ nested_is L (left + 1) w at s (omega arith)
    ∙ ap (λ n. count.function L n w at s) (omega arith)
  where
    by : (o : Read (List Prototype)) → nested_spelt L (left + 1) w at s ⊕ behind o (λ ps. count.forest 0 (entered L (left + 1)) (nested_spelt L (left + 1)) (after ps w)) ≡ nested_spelt L (left + 1) w at s ⊕ same
    by (ok ps to rest) = refl
    by (refused q) = refl
