-- The full copy's bytes of a function that was read, and of all that nest in it.
--     made             a function's bytes are those of its two parts, with those of the nested functions between them
--     full, single     the full copy as a way to go through functions (copy_walk's Nests.antt), and what it makes of a function of its parts
--     asks             what the walk asks of the source that a function inherits
--     full_short       every function is copied by at most twice as many bytes
-- Assumes nothing.
use mathlib.Core.Path.{◌≡◌, refl, sym, ◌∙◌, ap}
use mathlib.Core.Bool.{Bool, cond}
use mathlib.Core.List.{List, [], ◌∷◌, ◌++◌, append_assoc, append-nil, foldr, flatten}
use mathlib.Core.Option.{Option, none}
use Prim.Native.Nat.{ℕ}
use lib.Seq.{take_at, drop_at}
use Rattle.format.specs.declared.limits.ResourceLimits.{ResourceLimits}
use Rattle.format.specs.Form.{Bytes, Below}
use Rattle.format.specs.GrammarFields.{LuaString}
use Rattle.format.specs.Reading.{Prototype}
use Rattle.format.specs.GrammarChunk.{inherit, Where}
use Rattle.format.specs.ReadChunk.{function}
use Rattle.format.specs.Copy.{option_bytes, behind_source}
use Rattle.format.specs.FullCopy.{nested_source, Within, all_within, full_function, full_nest}
use Rattle.format.proofs.Located.{AtPlace}
use Rattle.read_prototype.specs.Parts.{Head, Tail}
use Rattle.read_prototype.specs.Inner.Whole.{prototype_of}
use Rattle.read_walk.specs.Inner.Source.{source_at}
use Rattle.copy_parts.specs.Inner.Parts.{head_bytes, tail_bytes}
use Rattle.copy_parts.proofs.Lengths.{Short}
use Rattle.copy_walk.proofs.Nests.{Way, Single, Parts, function_single}
use Rattle.copy_full_walk.specs.Inner.Source.{written}
use Rattle.copy_full_walk.specs.Inner.Walk.{full_bytes}
use Rattle.copy_full_walk.proofs.Sources.{is-written}

-- ## The bytes of a function of its parts
pub made : (named : Bool) (w : Where) (start : ℕ) (h : Head) (t : Tail) (end : ℕ) (inner : List Prototype)
    → option_bytes (cond named h.front.source none) ≡ option_bytes (nested_source w.source (inherit h.front.source w.source))
    → full_bytes w.source (prototype_of w start h t end ∷ inner) ≡ head_bytes named h ++ (all_within (inherit h.front.source w.source) (foldr full_nest [] inner) ++ tail_bytes t)
unfolding behind_source
made named w start h t end inner source =
    ap (λ b. b ++ behind_source (prototype_of w start h t end) (all_within (inherit h.front.source w.source) (foldr full_nest [] inner))) (sym source) ∙ simp append_assoc

-- ## The way of the full copy
pub none_nested : (source : Option LuaString) → all_within source [] ≡ []
unfolding all_within flatten
none_nested source = refl

abbrev pub full : Way
full = record { Piece = Within; nest = full_nest; all = all_within; one = full_bytes; nothing = none_nested }

pub single : (w : Where) (ps : List Prototype) (at to : ℕ) → Parts full w ps at to → Single full w.source ps at to
unfolding all_within full_function flatten
single w ps at to a =
    let p = prototype_of w a.start a.head a.tail a.end in
    let those : foldr full_nest [] a.inner ≡ a.pieces = a.stack [] ∙ append-nil a.pieces in
    let named = written a.head.front.source w.source in
    record {
      piece = full_function p a.pieces;
      stack = λ later. rw (a.is, a.stack later, take_at a.pieces later a.head.protos.count a.count, drop_at a.pieces later a.head.protos.count a.count);
      joins = λ later. rw (a.is, those);
      short = rw (a.is, made named w a.start a.head a.tail a.end a.inner (is-written a.head.front.source w.source), those) (a.short named);
    }

-- what is asked of a function for its copy: the place at which its parent's source is spelt is handed to it, and the chunk is bytes
abbrev pub asks : ResourceLimits → Bytes → ℕ → Option LuaString → Type 0
asks L s parent source = (source ≡ source_at L.max_string_bytes s parent) × Below 256 s

pub full_short : (s : Bytes) → Below 256 s → (L : ResourceLimits) (left : ℕ) (w : Where) (at : ℕ) → AtPlace s at (function L left w) (λ to ps. Short (full_bytes w.source ps) at to)
full_short s bytes L left w at = record { holds = λ {x} {to} f. ((function_single full s bytes L single left w at).holds f).short }
