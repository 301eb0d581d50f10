-- A function of its two parts. (`proofs/Flat.antt`: the reader of a function is made of these.)
use Rattle.std.specs.Prelude.{List, ◌∷◌, ℕ, length}
use Rattle.format.specs.declared.limits.ResourceLimits.{ResourceLimits}
use Rattle.format.specs.Reading.{Prototype}
use Rattle.format.specs.GrammarChunk.{inherit, Where, within, prototype}
use Rattle.format.specs.Read.{Reader, next, ◌>>=◌, ◌>>◌, give, here}
use Rattle.format.specs.ReadChunk.{forest}
use Rattle.read_prototype.specs.Parts.{Head, head, Tail, tail}

-- the function of its parts
abbrev pub prototype_of : Where → ℕ → Head → Tail → ℕ → Prototype
prototype_of w start h t end =
    prototype w start h.front.source h.front.lines.line_defined h.front.lines.last_line_defined h.front.sizes.numparams h.front.sizes.is_vararg h.front.sizes.maxstacksize
    h.lists.instructions h.lists.constants h.lists.upvalues h.protos.place h.protos.count
    t.line_info_lem t.abs_line_info t.loc_vars t.upvalue_names_lem end

-- where the first function stands that nests in w's
abbrev pub inside : Where → Head → Where
inside w h = within w (inherit h.front.source w.source) (length h.lists.instructions.items)

-- a function and all that nest in it, by readers of its two parts and of a function that nests in it
abbrev pub joined : (Where → Reader (List Prototype)) → Reader Head → Reader Tail → Where → Reader (List Prototype)
joined r before behind w = do
  start ← here
  h ← before
  nested ← forest h.protos.count r (inside w h)
  t ← behind
  end ← here
  give (prototype_of w start h t end ∷ nested)

abbrev pub parts : ResourceLimits → (Where → Reader (List Prototype)) → Where → Reader (List Prototype)
parts L r w = joined r (head L w.instructions) (tail L.max_string_bytes) w
