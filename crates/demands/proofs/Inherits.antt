-- The source of every function that is read is what it spells or, where it spells none, the source of its parent, by the parent's number.
--     Inherited outer p    what p spells, read in a function with the source `outer`
--     all-inherit          so it is with every function that nests in main, by its parent's source
--     missing_above        so a function that misses a source has a parent that misses one
-- Assumes nothing.
use mathlib.Core.Path.{◌≡◌, refl, sym, ◌∙◌, ap, subst}
use mathlib.Core.List.{List, [], ◌∷◌}
use mathlib.Core.Option.{Option, none, some}
use Prim.Native.Nat.{ℕ, zero, suc}
use native.Mathlib.Omega.{arith}
use native.Mathlib.Numerals.{add-one}
use native.Mathlib.Nat.{zero-add}
use lib.ListN.{length}
use Rattle.format.specs.declared.limits.ResourceLimits.{ResourceLimits}
use Rattle.format.specs.Form.{Bytes, All, Form}
use Rattle.format.specs.GrammarFields.{LuaString}
use Rattle.format.specs.Reading.{Prototype, Reading}
use Rattle.format.specs.GrammarChunk.{Where, after, within, inherit, outermost, Forest, Body, Function, Loaded, Chunk}
use Rattle.format.proofs.Every.{Every, any, every_then, every_is, every_nothing, all_append}
use Rattle.format_lua.proofs.LdumpWhole.{source_of}
use Rattle.format_lua.proofs.LdumpFull.{Are, are_split, are_all}

pub record Inherited (outer : Option LuaString) (p : Prototype) : Type 0 where
  pub spelt : Option LuaString
  pub is : p.source_name ≡ inherit spelt outer

-- of a function that stands at w, and of those that nest in it
record Here (w : Where) (ps : List Prototype) : Type 0 where
  its : Prototype
  others : List Prototype
  is : ps ≡ its ∷ others
  stands : its.parent ≡ w.parent
  own : Inherited w.source its
  rest : (source : ℕ → Option LuaString) → Are source w.number ps → All (λ p. Inherited (source p.parent) p) others

-- of functions one after the other, in a function with the source w .source
abbrev These : Where → List Prototype → Type 0
These w ps = (source : ℕ → Option LuaString) → source w.parent ≡ w.source → Are source w.number ps → All (λ p. Inherited (source p.parent) p) ps

abbrev EachHere : (Where → Form (List Prototype)) → Type 0
EachHere F = (w : Where) → Every (F w) (Here w)

forest_these : (n : ℕ) {F : Where → Form (List Prototype)} (w : Where) → EachHere F → Every (Forest n F w) (These w)
forest_these zero w one = every_is (λ source parent are. tt)
forest_these (suc n) w one =
    every_then (one w) λ ps a.
    every_then (forest_these n (after ps w) one) λ more b.
    every_is (λ source parent are.
    let split = are_split source w.number ps more are in
    let first : Inherited (source a.its.parent) a.its = subst (λ t. Inherited t a.its) (sym (ap source a.stands ∙ parent)) a.own in
    all_append (λ p. Inherited (source p.parent) p) ps more (subst (λ ps. All (λ p. Inherited (source p.parent) p) ps) (sym a.is) (first, a.rest source split.0)) (b source parent split.1))

body-here : (L : ResourceLimits) {F : Where → Form (List Prototype)} → EachHere F → EachHere (Body L F)
unfolding Body
body-here L one w =
    every_then any λ start _.
    every_then any λ spelt _.
    every_then any λ line_defined _.
    every_then any λ last_line_defined _.
    every_then any λ numparams _.
    every_then any λ is_vararg _.
    every_then any λ maxstacksize _.
    every_then any λ size _.
    every_then any λ _ _.
    every_then any λ _ _.
    every_then any λ instructions_at _.
    every_then any λ instructions _.
    every_then any λ constants _.
    every_then any λ upvalues _.
    every_then any λ protos _.
    every_then any λ _ _.
    every_then any λ protos-at _.
    every_then (forest_these protos (within w (inherit spelt w.source) (length instructions)) one) λ nested a.
    every_then any λ line-info-size _.
    every_then any λ line-info-at _.
    every_then any λ line_info_lem _.
    every_then any λ abs_line_info _.
    every_then any λ loc_vars _.
    every_then any λ upvalue_names_lem _.
    every_then any λ end _.
    every_is (record {
      its = _;
      others = nested;
      is = refl;
      stands = refl;
      own = record { spelt = spelt; is = refl };
      rest = λ source are. a source are.0 (rw add-one are.1);
    })

function-here : (L : ResourceLimits) (left : ℕ) → EachHere (Function L left)
unfolding Function
function-here L zero = body-here L λ w. every_nothing
function-here L (suc left) = body-here L λ w. every_then any λ _ _. function-here L left w

-- ## The functions of a chunk
-- all but main
abbrev pub Nested : (Prototype → Type 0) → List Prototype → Type 0
Nested P [] = Unit {0}
Nested P (p ∷ ps) = All P ps

nested_of : (P : Prototype → Type 0) (w : Where) (fs : List Prototype) (h : Here w fs) → All P h.others → Nested P fs
nested_of P w fs h a = subst (Nested P) (sym h.is) a

pub all-inherit : (L : ResourceLimits) (chunk : Bytes) (r : Reading) → Chunk L chunk r → Nested (λ p. Inherited (source_of r.functions p.parent) p) r.functions
all-inherit L chunk r c =
    let f = c.main.two.two in
    let fs = r.functions in
    let same : f.value ≡ fs = ap (λ (m : Loaded). m.functions) f.two.1 ∙ ap (λ (q : Reading). q.functions) c.shows in
    let here : Here outermost fs = subst (Here outermost) same ((function-here L L.max_nesting_depth outermost).holds _ f.front f.value f.one) in
    nested_of _ outermost fs here (here.rest (source_of fs) (are_all fs fs 0 (λ k. rw zero-add refl)))

pub missing_above : (outer : Option LuaString) (p : Prototype) → Inherited outer p → p.source_name ≡ none → outer ≡ none
missing_above outer p i e = by i.spelt (sym i.is ∙ e)
  where
    by : (t : Option LuaString) → inherit t outer ≡ none → outer ≡ none
    by none f = f
    by (some t) f = absurd (let z : ◌≡◌ {A = ℕ} 0 1 = cc in omega arith)
