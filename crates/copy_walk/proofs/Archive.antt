-- The archive copy's bytes of a function that was read, and of all that nest in it: nested sources are absent.
--     made             a function's bytes are those of its two parts, with those of the nested functions between them
--     archive, single  the archive copy as a way to go through functions (Nests.antt), and what it makes of a function of its parts
--     asks             what the walk asks of where a function stands
--     main-short       main, with its source, is copied by at most twice as many bytes
-- Assumes nothing.
use mathlib.Core.Path.{◌≡◌, refl, sym, ◌∙◌, ap}
use mathlib.Core.Bool.{Bool, true, false, true≢false}
use mathlib.Core.List.{List, [], ◌∷◌, ◌++◌, append_assoc, append-nil, foldr, flatten}
use mathlib.Core.Option.{Option, none}
use Prim.Native.Nat.{ℕ}
use lib.Seq.{take_at, drop_at}
use Rattle.format.specs.declared.limits.ResourceLimits.{ResourceLimits}
use Rattle.format.specs.Form.{Bytes, Below}
use Rattle.format.specs.GrammarFields.{LuaString}
use Rattle.format.specs.Reading.{Prototype}
use Rattle.format.specs.GrammarChunk.{inherit, Where}
use Rattle.format.specs.ReadChunk.{function}
use Rattle.format.specs.Copy.{option_bytes, behind_source, nest}
use Rattle.format.proofs.Sources.{inherit-none}
use Rattle.format.proofs.Located.{AtPlace}
use Rattle.read_prototype.specs.Parts.{Head, Tail}
use Rattle.read_prototype.specs.Inner.Whole.{prototype_of}
use Rattle.copy_parts.specs.Inner.Parts.{source_bytes, head_bytes, tail_bytes, function_bytes}
use Rattle.copy_parts.proofs.Lengths.{Short}
use Rattle.copy_walk.proofs.Nests.{Way, Single, Parts, function-parts}

-- ## The bytes of a function of its parts
source_made : (named : Bool) (spelt outer : Option LuaString) → (named ≡ true → outer ≡ none) → source_bytes named (inherit spelt outer) ≡ source_bytes named spelt
source_made true spelt outer main = ap option_bytes (ap (inherit spelt) (main refl) ∙ inherit-none spelt)
source_made false spelt outer main = refl

pub made : (named : Bool) (w : Where) (start : ℕ) (h : Head) (t : Tail) (end : ℕ) (inner : List Prototype) → (named ≡ true → w.source ≡ none)
    → function_bytes named (prototype_of w start h t end ∷ inner) ≡ head_bytes named h ++ (flatten (foldr nest [] inner) ++ tail_bytes t)
unfolding behind_source
made named w start h t end inner main = ap (λ b. b ++ behind_source (prototype_of w start h t end) (flatten (foldr nest [] inner))) (source_made named h.front.source w.source main) ∙ simp append_assoc

-- ## The way of the archive copy
pub none_nested : (source : Option LuaString) → flatten {A = ℕ} [] ≡ []
unfolding flatten
none_nested source = refl

abbrev pub archive : Way
archive = record { Piece = Bytes; nest = nest; all = λ source. flatten; one = λ source. function_bytes false; nothing = none_nested }

-- what a copy of a function asks: that only main's source is kept, which inherits none
abbrev pub asks : Bool → Bytes → Where → Type 0
asks named s w = (named ≡ true → w.source ≡ none) × Below 256 s

short_made : (named : Bool) (w : Where) (ps : List Prototype) (at to : ℕ) → (named ≡ true → w.source ≡ none) → Parts archive w ps at to → Short (function_bytes named ps) at to
short_made named w ps at to main a = rw (a.is, made named w a.start a.head a.tail a.end a.inner main, a.stack [], append-nil) (a.short named)

pub single : (w : Where) (ps : List Prototype) (at to : ℕ) → Parts archive w ps at to → Single archive w.source ps at to
unfolding flatten
single w ps at to a = record {
  piece = function_bytes false ps;
  stack = λ later. rw (a.is, a.stack later, take_at a.pieces later a.head.protos.count a.count, drop_at a.pieces later a.head.protos.count a.count, a.stack [], append-nil);
  joins = λ later. refl;
  short = short_made false w ps at to (λ f. absurd (true≢false (sym f))) a;
}

pub main-short : (s : Bytes) → Below 256 s → (L : ResourceLimits) (left : ℕ) (w : Where) (at : ℕ) → w.source ≡ none → AtPlace s at (function L left w) (λ to ps. Short (function_bytes true ps) at to)
main-short s bytes L left w at e = record { holds = λ {x} {to} f. short_made true w x at to (λ _. e) ((function-parts archive s bytes L single left w at).holds f) }
