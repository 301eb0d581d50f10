-- Functions that were read, and the bytes that a copy makes of them and of all that nest in them.
--     Way              how a copy goes through the functions: the archive copy (Archive.antt), or the full copy (crates/copy_full)
--     Single, Several  one function, n functions: what is made of them, whatever follows, and that it is at most twice as long
--     Parts            a function of its two parts, with those that nest in it between them
--     function_single  so it is with every function that is read, if with those that nest in it a function is so
-- Assumes nothing.
use mathlib.Core.Path.{◌≡◌, refl, sym, ◌∙◌, ap}
use mathlib.Core.Bool.{Bool}
use mathlib.Core.List.{List, [], ◌∷◌, ◌++◌, foldr, foldr-append}
use mathlib.Core.Option.{Option}
use Prim.Native.Nat.{ℕ, zero, suc}
use lib.ListN.{length}
use Rattle.format.specs.declared.limits.ResourceLimits.{ResourceLimits}
use Rattle.format.specs.declared.refusal.Refusal.TheVariants.{TotalPrototypes}
use Rattle.format.specs.Form.{Bytes, Below, Form}
use Rattle.format.specs.GrammarFields.{LuaString}
use Rattle.format.specs.Reading.{Prototype}
use Rattle.format.specs.GrammarChunk.{inherit, Where, after}
use Rattle.format.specs.Read.{Reader}
use Rattle.format.specs.ReadChunk.{forest, function}
use Rattle.format.proofs.Exact.{Exact, exact_at_most}
use Rattle.format.proofs.ExactChunk.{exact_forest}
use Rattle.format.proofs.Located.{AtPlace, at_give, at_here, at_then, at-refuse}
use Rattle.read_prototype.specs.Parts.{Head, Tail}
use Rattle.read_prototype.specs.Inner.Whole.{prototype_of, inside, parts}
use Rattle.read_walk.specs.Inner.Skim.{entered}
use Rattle.read_walk.proofs.Entering.{exact_entered}
use Rattle.read_walk.proofs.HeadTail.{exact_head, exact_tail}
use Rattle.read_walk.proofs.OneFunction as read
use Rattle.copy_parts.specs.Inner.Parts.{head_bytes, tail_bytes}
use Rattle.copy_parts.proofs.Lengths.{Short, short_then, short_none, stays}
use Rattle.copy_parts.proofs.PartsAt.{head_at_lem, tail-at}

pub record Way : Type 1 where
  -- what is made of a function and of all that nest in it, from the last function to the first
  pub Piece : Type 0
  pub nest : Prototype → List Piece → List Piece
  -- the bytes of several, in a function with this source, and of one
  pub all : Option LuaString → List Piece → Bytes
  pub one : Option LuaString → List Prototype → Bytes
  pub nothing : (source : Option LuaString) → all source [] ≡ []

pub record Single (way : Way) (source : Option LuaString) (ps : List Prototype) (at to : ℕ) : Type 0 where
  pub piece : way.Piece
  pub stack : (later : List way.Piece) → foldr way.nest later ps ≡ piece ∷ later
  pub joins : (later : List way.Piece) → way.all source (piece ∷ later) ≡ way.one source ps ++ way.all source later
  pub short : Short (way.one source ps) at to

pub record Several (way : Way) (source : Option LuaString) (n : ℕ) (ps : List Prototype) (at to : ℕ) : Type 0 where
  pub pieces : List way.Piece
  pub count : length pieces ≡ n
  pub stack : (later : List way.Piece) → foldr way.nest later ps ≡ pieces ++ later
  pub short : Short (way.all source pieces) at to

pub record Parts (way : Way) (w : Where) (ps : List Prototype) (at to : ℕ) : Type 0 where
  pub start : ℕ
  pub head : Head
  pub tail : Tail
  pub end : ℕ
  pub inner : List Prototype
  pub is : ps ≡ prototype_of w start head tail end ∷ inner
  pub pieces : List way.Piece
  pub count : length pieces ≡ head.protos.count
  pub stack : (later : List way.Piece) → foldr way.nest later inner ≡ pieces ++ later
  -- how long, however its source is written
  pub short : (named : Bool) → Short (head_bytes named head ++ (way.all (inherit head.front.source w.source) pieces ++ tail_bytes tail)) at to

-- one more before those that follow
several_more : (way : Way) (source : Option LuaString) (n : ℕ) (ps qs : List Prototype) (at mid to : ℕ) → Single way source ps at mid → Several way source n qs mid to → Several way source (suc n) (ps ++ qs) at to
several_more way source n ps qs at mid to h k = record {
  pieces = h.piece ∷ k.pieces;
  count = ap suc k.count;
  stack = λ later. foldr-append way.nest later ps qs ∙ ap (λ l. foldr way.nest l ps) (k.stack later) ∙ h.stack (k.pieces ++ later);
  short = rw (h.joins k.pieces) (short_then h.short k.short);
}

module _ (way : Way) (s : Bytes) (bytes : Below 256 s) (L : ResourceLimits) where
  forest_several : {r : Where → Reader (List Prototype)} {F : Where → Form (List Prototype)} → ((w : Where) → Exact (r w) (F w)) → ((w : Where) (at : ℕ) → AtPlace s at (r w) (λ to ps. Single way w.source ps at to))
      → (n : ℕ) (w : Where) (at : ℕ) → AtPlace s at (forest n r w) (λ to ps. Several way w.source n ps at to)
  forest_several exact one zero w at = at_give (record { pieces = []; count = refl; stack = λ later. refl; short = rw (way.nothing w.source) short_none })
  forest_several exact one (suc n) w at =
      at_then (exact w) (one w at) λ ps mid h.
      at_then (exact_forest n (after ps w) exact) (forest_several exact one n (after ps w) mid) λ more to k.
      at_give (several_more way w.source n ps more at mid to h k)

  its_parts : {r : Where → Reader (List Prototype)} {F : Where → Form (List Prototype)} → ((w : Where) → Exact (r w) (F w)) → ((w : Where) (at : ℕ) → AtPlace s at (r w) (λ to ps. Single way w.source ps at to))
      → (w : Where) (at : ℕ) → AtPlace s at (parts L r w) (λ to ps. Parts way w ps at to)
  its_parts exact one w at =
      at_here λ start.
      at_then (exact_head L w.instructions) (head_at_lem s bytes L w.instructions at) λ h _ k.
      at_then (exact_forest h.protos.count (inside w h) exact) (forest_several exact one h.protos.count (inside w h) _) λ nested _ m.
      at_then (exact_tail L.max_string_bytes) (tail-at L.max_string_bytes _) λ t _ n.
      at_here λ end.
      at_give λ _ _. record {
        start = start;
        head = h;
        tail = t;
        end = end;
        inner = nested;
        is = refl;
        pieces = m.pieces;
        count = m.count;
        stack = m.stack;
        short = λ named. short_then (k.short named) (short_then m.short n.short);
      }

  -- if of its parts a function is made so
  module _ (made : (w : Where) (ps : List Prototype) (at to : ℕ) → Parts way w ps at to → Single way w.source ps at to) where
    by_parts : (left : ℕ) → ((w : Where) (at : ℕ) → AtPlace s at (entered L left w) (λ to ps. Single way w.source ps at to)) → (w : Where) (at : ℕ) → AtPlace s at (function L left w) (λ to ps. Parts way w ps at to)
    by_parts left one w at = record { holds = λ e. (its_parts (exact_entered L left) one w at).holds (sym (read.by_parts s L left w at) ∙ e) }

    single : (left : ℕ) → ((w : Where) (at : ℕ) → AtPlace s at (entered L left w) (λ to ps. Single way w.source ps at to)) → (w : Where) (at : ℕ) → AtPlace s at (function L left w) (λ to ps. Single way w.source ps at to)
    single left one w at = record { holds = λ {x} {to} e. made w x at to ((by_parts left one w at).holds e) }

    entered_single : (left : ℕ) (w : Where) (at : ℕ) → AtPlace s at (entered L left w) (λ to ps. Single way w.source ps at to)
    entered_single zero w at = at_here λ place. at-refuse
    entered_single (suc left) w at = record { holds = λ e. (at_then {s = s} {at = at} (exact_at_most w.number L.max_total_prototypes (TotalPrototypes at)) (stays w.number L.max_total_prototypes (TotalPrototypes at)) λ _ to same. moved same (single left (entered_single left) w to)).holds e }
      where
        moved : {to : ℕ} {q : Reader (List Prototype)} → to ≡ at → AtPlace s to q (λ up ps. Single way w.source ps to up) → AtPlace s to q (λ up ps. Single way w.source ps at up)
        moved e h = rw (← e) h

    pub function_single : (left : ℕ) (w : Where) (at : ℕ) → AtPlace s at (function L left w) (λ to ps. Single way w.source ps at to)
    function_single left = single left (entered_single left)

    pub function-parts : (left : ℕ) (w : Where) (at : ℕ) → AtPlace s at (function L left w) (λ to ps. Parts way w ps at to)
    function-parts left = by_parts left (entered_single left)
