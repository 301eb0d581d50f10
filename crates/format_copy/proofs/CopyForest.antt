-- Functions that stand one after the other are copied, if each is.
--     Way          how functions are copied: as the archive copy does (CopyFunctions.antt), or as the full copy does (FullFunctions.antt)
--     Once         what a copy of one function is, in a function with this source: its bytes are what is made of it and of all that nest in it
--     Each         and of n functions
--     Around       where a function stands, in the chunk and in the copy
-- Assumes nothing.
use mathlib.Core.Path.{◌≡◌, refl, sym, ◌∙◌, ap, ap₂}
use mathlib.Core.List.{List, [], ◌∷◌, ◌++◌, append-nil, map, foldr, flatten, foldr-append, map-append}
use mathlib.Core.Option.{Option}
use Prim.Native.Nat.{ℕ, zero, suc, ◌+◌}
use lib.ListN.{length, length-map}
use Rattle.format.specs.Form.{Bytes, Form}
use Rattle.format.specs.GrammarFields.{LuaString}
use Rattle.format.specs.Reading.{Prototype}
use Rattle.format.specs.GrammarChunk.{instructions_of, Where, after, within, Forest}
use Rattle.format_spelling.specs.Spelling.{Tally}
use Rattle.format_spelling.specs.Spelling as tally
use Rattle.format_copy.proofs.Copies.{Measure, Copies, then_copies, is_copies}

pub record Way : Type 1 where
  -- what is made of a function and of all that nest in it, from the last function to the first; its bytes, in a function with this source
  pub Piece : Type 0
  pub nest : Prototype → List Piece → List Piece
  pub bytes : Option LuaString → Piece → Bytes
  -- what is kept of a function
  pub plainly : Prototype → Prototype
  pub counts : (p : Prototype) → length (plainly p).instructions ≡ length p.instructions
  -- what is known of the sources of a function and of its copy
  pub Near : Option LuaString → Option LuaString → Type 0

-- one function: its bytes are what is made of it and all that nest in it, whatever follows them
pub record Once (way : Way) (source : Option LuaString) (ps ps' : List Prototype) (b : Bytes) : Type 0 where
  pub piece : way.Piece
  pub joined : b ≡ way.bytes source piece
  pub alike : map way.plainly ps' ≡ map way.plainly ps
  pub stack : (later : List way.Piece) → foldr way.nest later ps ≡ piece ∷ later

-- n functions
pub record Each (way : Way) (source : Option LuaString) (n : ℕ) (ps ps' : List Prototype) (b : Bytes) : Type 0 where
  pub pieces : List way.Piece
  pub joined : b ≡ flatten (map (way.bytes source) pieces)
  pub count : length pieces ≡ n
  pub alike : map way.plainly ps' ≡ map way.plainly ps
  pub stack : (later : List way.Piece) → foldr way.nest later ps ≡ pieces ++ later

-- where a function stands: the same in the chunk and in the copy, but for its parent's source
pub record Around (way : Way) (w v : Where) : Type 0 where
  pub number : w.number ≡ v.number
  pub instructions : w.instructions ≡ v.instructions
  pub depth : w.depth ≡ v.depth
  pub parent : w.parent ≡ v.parent
  pub source : way.Near w.source v.source

module _ (way : Way) where
  instructions-kept : (ps : List Prototype) → instructions_of (map way.plainly ps) ≡ instructions_of ps
  instructions-kept [] = refl
  instructions-kept (p ∷ ps) = ap₂ ◌+◌ (way.counts p) (instructions-kept ps)

  around_after : (w v : Where) (ps ps' : List Prototype) → Around way w v → map way.plainly ps' ≡ map way.plainly ps → Around way (after ps w) (after ps' v)
  around_after w v ps ps' a e = record {
    number = ap₂ ◌+◌ a.number (sym (length-map ps way.plainly) ∙ ap length (sym e) ∙ length-map ps' way.plainly);
    instructions = ap₂ ◌+◌ a.instructions (sym (instructions-kept ps) ∙ ap instructions_of (sym e) ∙ instructions-kept ps');
    depth = a.depth;
    parent = a.parent;
    source = a.source;
  }

  pub around_within : (w v : Where) (s t : Option LuaString) (n m : ℕ) → n ≡ m → way.Near s t → Around way w v → Around way (within w s n) (within v t m)
  around_within w v s t n m e near a = record {
    number = ap (λ k. k + 1) a.number;
    instructions = ap₂ ◌+◌ a.instructions e;
    depth = ap (λ k. k + 1) a.depth;
    parent = a.number;
    source = near;
  }

  pub each_none : (source : Option LuaString) → Each way source 0 [] [] []
  unfolding flatten
  each_none source = record { pieces = []; joined = refl; count = refl; alike = refl; stack = λ later. refl }

  pub each_cons : (source : Option LuaString) (n : ℕ) (ps ps' more more' : List Prototype) (b c : Bytes) → Once way source ps ps' b → Each way source n more more' c → Each way source (suc n) (ps ++ more) (ps' ++ more') (b ++ (c ++ []))
  unfolding flatten
  each_cons source n ps ps' more more' b c r q = record {
    pieces = r.piece ∷ q.pieces;
    joined = ap₂ ◌++◌ r.joined (append-nil c ∙ q.joined);
    count = ap suc q.count;
    alike = map-append way.plainly ps' more' ∙ ap₂ ◌++◌ r.alike q.alike ∙ sym (map-append way.plainly ps more);
    stack = λ later. foldr-append way.nest later ps more ∙ ap (λ l. foldr way.nest l ps) (q.stack later) ∙ r.stack (q.pieces ++ later);
  }

  pub forest_copies : {m : Measure} {F : Where → Form (List Prototype)} {p : (w : Where) → Tally (F w)} (n : ℕ) (w v : Where) → Around way w v → ((w v : Where) → Around way w v → Copies m (F w) (F v) (p v) (Once way w.source))
      → Copies m (Forest n F w) (Forest n F v) (tally.forest n p v) (Each way w.source n)
  unfolding tally.forest
  forest_copies zero w v a one = is_copies (each_none w.source)
  forest_copies (suc n) w v a one =
      then_copies (one w v a) λ ps ps' b r.
      then_copies (forest_copies n (after ps w) (after ps' v) (around_after w v ps ps' a r.alike) one) λ more more' c q.
      is_copies (each_cons w.source n ps ps' more more' b c r q)
