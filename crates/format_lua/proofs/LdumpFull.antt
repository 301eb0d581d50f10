-- The full copy is what Lua's own dumper (`luaU_dump`, specs/LdumpFunctions.antt) writes of what was read, where four things do not part the two, and behind it the trailing bytes.
--     AsLuaInFull fs p     the function p, among the functions fs, meets the four: its source, string tags, local names, upvalue names
--     full_as_dumped       where every function does, the full copy is what `luaU_dump` writes, and the trailing bytes
--     short-object         the source meets it where its parent's has at most 40 bytes,
--     no_object, one-object    and where its parent has none, and where it is its parent's, inherited. So what is left is a source of more than 40 bytes that is spelt again: C writes it, the full copy does not
-- The smallest chunks that part the two are in LdumpCase.antt.
-- Assumes nothing.
use mathlib.Core.Path.{◌≡◌, refl, sym, subst, ◌∙◌, ap, ap₂}
use mathlib.Core.Bool.{Bool, true, false, ◌&&◌, cond}
use mathlib.Core.List.{List, [], ◌∷◌, ◌++◌, append_assoc, append-nil, map, foldr, flatten, foldr-append}
use mathlib.Core.Option.{Option, none, some}
use Prim.Native.Nat.{ℕ, zero, suc, ◌+◌, ◌≤◌}
use native.Mathlib.Omega.{arith}
use native.Mathlib.Numerals.{add-one}
use native.Mathlib.Nat.{add-zero, zero-add, add-suc, suc-add}
use lib.Dec.{eqb, eqb_refl, lit<}
use borrow.Author.Tests.{le-leb}
use lib.ListN.{length, take, drop, length-drop}
use lib.Seq.{take_at, drop_at, take_all}
use Rattle.format.specs.declared.limits.ResourceLimits.{ResourceLimits}
use Rattle.format.specs.Form.{Bytes, All, Form}
use Rattle.format.specs.GrammarFields.{LuaString}
use Rattle.format.specs.Reading.{Prototype, Reading}
use Rattle.format.specs.GrammarChunk.{Where, after, within, inherit, outermost, Forest, Body, Function, Loaded, Chunk}
use Rattle.format.specs.ReadHeader.{same_bytes}
use Rattle.format.specs.Copy.{field_bytes, option_bytes, behind_source, header_bytes, upvalues_of_main}
use Rattle.format.specs.FullCopy.{equal_sources, nested_source, Within, all_within, full_function, full_nest, full_functions, full_copy}
use Rattle.format_lua.specs.LdumpFunctions.{is_short, object, Dump, same_source, dump_string, dump_source, dump_function, dump_nested, lua_u_dump}
use Rattle.format.proofs.Every.{Every, any, every_then, every_is, every_nothing, all_split}
use Rattle.format.proofs.ExactHeader.{same_eq}
use Rattle.format_lua.proofs.LdumpLaws.{dumped}
use Rattle.format_lua.proofs.LdumpChunk.{StringFits, FunctionFits, TaggedByLength, Named, Alike, string-is, copied_as_dumped}
use Rattle.format_lua.proofs.LdumpKnown.{There, functions_known}
use Rattle.format_lua.proofs.LdumpWhole.{source_of, true_T, T_true}

-- two sources are one object exactly where the full copy takes them for the same
abbrev Pointed : Option LuaString → Option LuaString → Type 0
Pointed psource source = same_source source psource ≡ equal_sources source psource

pub record AsLuaInFull (fs : List Prototype) (p : Prototype) : Type 0 where
  -- its source and its parent's (main is its own parent) are one object in Lua exactly where they have the same bytes: C writes a source that is another object, the full copy one of other bytes
  pub source : same_source p.source_name (source_of fs p.parent) ≡ equal_sources p.source_name (source_of fs p.parent)
  -- a string's tag goes by its length: C writes that one, the copy the tag that was read
  pub tags : All TaggedByLength p.constants
  -- no local name is absent, and shown as `?`: C writes an absent one as absent, the copy as `?`
  pub locals : All Named p.loc_vars
  -- upvalues and names are as many: C writes a name for each upvalue, absent where none was read, the copy the names that were read
  pub names : length p.upvalues ≡ length p.upvalue_names_lem

-- ## Objects and bytes
and_true : (b : Bool) → b && true ≡ b
and_true true = refl
and_true false = refl

and_same : (b c : Bool) → (b ≡ true → c ≡ true) → b && c ≡ b
and_same true c h = h refl
and_same false c h = refl

-- strings of the same bytes are as long, so both are short
pub short-object : (source : Option LuaString) (t : LuaString) → length t.bytes ≤ 40 → same_source source (some t) ≡ equal_sources source (some t)
short-object none t h = refl
short-object (some s) t h = and_same (same_bytes s.bytes t.bytes) (eqb (object s) (object t)) λ e.
    let bytes : s.bytes ≡ t.bytes = same_eq s.bytes t.bytes (true_T e) in
    let short : is_short t ≡ true = le-leb (length t.bytes) 40 h in
    rw (bytes, short)

pub no_object : (source : Option LuaString) → same_source source none ≡ equal_sources source none
no_object none = refl
no_object (some t) = refl

pub one-object : (source : Option LuaString) → same_source source source ≡ equal_sources source source
one-object none = refl
one-object (some t) = rw (T_true (eqb (object t) (object t)) (eqb_refl (object t))) (and_true (same_bytes t.bytes t.bytes))

-- so a source is written alike
source_is : (psource source : Option LuaString) → StringFits source → Pointed psource source → dump_source false source psource ≡ option_bytes (nested_source psource source)
source_is psource source h e = ap (λ b. cond b (dump_string none) (dump_string source)) e ∙ by (equal_sources source psource)
  where
    by : (b : Bool) → cond b (dump_string none) (dump_string source) ≡ option_bytes (cond b none source)
    by true = dumped 0 (lit< tt)
    by false = string-is source h

-- ## Functions, one after the other: what both make of them
-- by the sources of all functions of the chunk: each of these has its own, from the number n on
abbrev pub Are : (ℕ → Option LuaString) → ℕ → List Prototype → Type 0
Are source n [] = Unit {0}
Are source n (p ∷ ps) = (source n ≡ p.source_name) × Are source (suc n) ps

pub are_split : (source : ℕ → Option LuaString) (n : ℕ) (ps more : List Prototype) → Are source n (ps ++ more) → Are source n ps × Are source (n + length ps) more
are_split source n [] more a = (tt, rw add-zero a)
are_split source n (p ∷ ps) more a = let rest = are_split source (suc n) ps more a.1 in ((a.0, rest.0), rw (add-suc, ← suc-add) rest.1)

abbrev Fine : Prototype → Type 0
Fine p = FunctionFits p × Alike false p

abbrev ByParent : (ℕ → Option LuaString) → Prototype → Type 0
ByParent source p = Pointed (source p.parent) p.source_name

-- one function with all that nest in it, which stands at w
record Both (w : Where) (ps : List Prototype) : Type 0 where
  its : Prototype
  others : List Prototype
  is : ps ≡ its ∷ others
  stands : its.parent ≡ w.parent
  dump : Dump
  full : Within
  dumps : (later : List Dump) → foldr (dump_nested false) later ps ≡ dump ∷ later
  fulls : (later : List Within) → foldr full_nest later ps ≡ full ∷ later
  alike : (source : ℕ → Option LuaString) → Are source w.number ps → All Fine ps → All (ByParent source) others → (psource : Option LuaString) → Pointed psource its.source_name → dump psource ≡ full psource

-- n functions, in the function with the source w .source
record Several (n : ℕ) (w : Where) (ps : List Prototype) : Type 0 where
  dump : List Dump
  full : List Within
  many : (length dump ≡ n) × (length full ≡ n)
  dumps : (later : List Dump) → foldr (dump_nested false) later ps ≡ dump ++ later
  fulls : (later : List Within) → foldr full_nest later ps ≡ full ++ later
  alike : (source : ℕ → Option LuaString) → source w.parent ≡ w.source → Are source w.number ps → All Fine ps → All (ByParent source) ps
      → map (λ (f : Dump). f w.source) dump ≡ map (λ (f : Within). f w.source) full

one_more : (n : ℕ) (w : Where) (ps more : List Prototype) → Both w ps → Several n (after ps w) more → Several (suc n) w (ps ++ more)
one_more n w ps more a b = record {
  dump = a.dump ∷ b.dump;
  full = a.full ∷ b.full;
  many = (ap suc b.many.0, ap suc b.many.1);
  dumps = λ later. foldr-append (dump_nested false) later ps more ∙ ap (λ l. foldr (dump_nested false) l ps) (b.dumps later) ∙ a.dumps (b.dump ++ later);
  fulls = λ later. foldr-append full_nest later ps more ∙ ap (λ l. foldr full_nest l ps) (b.fulls later) ∙ a.fulls (b.full ++ later);
  alike = λ source parent are fine pointed.
      let are' = are_split source w.number ps more are in
      let fine' = all_split Fine ps more fine in
      let pointed' = all_split (ByParent source) ps more pointed in
      let first : All (ByParent source) (a.its ∷ a.others) = rw a.is at pointed'.0 in
      let own : Pointed w.source a.its.source_name = rw (a.stands, parent) at first.0 in
      ap₂ ◌∷◌ (a.alike source are'.0 fine'.0 first.1 w.source own) (b.alike source parent are'.1 fine'.1 pointed'.1);
}

-- ## Along the grammar
abbrev EachBoth : (Where → Form (List Prototype)) → Type 0
EachBoth F = (w : Where) → Every (F w) (Both w)

forest-both : (n : ℕ) {F : Where → Form (List Prototype)} (w : Where) → EachBoth F → Every (Forest n F w) (Several n w)
forest-both zero w one = every_is (record { dump = []; full = []; many = (refl, refl); dumps = λ later. refl; fulls = λ later. refl; alike = λ source parent are fine pointed. refl })
forest-both (suc n) w one = every_then (one w) λ ps a. every_then (forest-both n (after ps w) one) λ more b. every_is (one_more n w ps more a b)

-- a function, and those that nest in it
in_function : (w : Where) (instructions : ℕ) (p : Prototype) (inner : List Prototype) → p.parent ≡ w.parent → Several p.protos (within w p.source_name instructions) inner → Both w (p ∷ inner)
unfolding full_function all_within
in_function w instructions p inner stands a = record {
  its = p;
  others = inner;
  is = refl;
  stands = stands;
  dump = dump_function false p a.dump;
  full = full_function p a.full;
  dumps = λ later. rw (a.dumps later, take_at a.dump later p.protos a.many.0, drop_at a.dump later p.protos a.many.0);
  fulls = λ later. rw (a.fulls later, take_at a.full later p.protos a.many.1, drop_at a.full later p.protos a.many.1);
  alike = λ source are fine pointed psource own.
      let inside = a.alike source are.0 (rw add-one are.1) fine.1 pointed in
      copied_as_dumped false p a.dump psource fine.0.0 fine.0.1
      ∙ ap₂ (λ t n. t ++ behind_source p (flatten n)) (source_is psource p.source_name fine.0.0.source_name own) inside;
}

body-both : (L : ResourceLimits) {F : Where → Form (List Prototype)} → EachBoth F → EachBoth (Body L F)
unfolding Body
body-both L one w =
    every_then any λ start _.
    every_then any λ spelt _.
    every_then any λ line_defined _.
    every_then any λ last_line_defined _.
    every_then any λ numparams _.
    every_then any λ is_vararg _.
    every_then any λ maxstacksize _.
    every_then any λ size _.
    every_then any λ _ _.
    every_then any λ _ _.
    every_then any λ instructions_at _.
    every_then any λ instructions _.
    every_then any λ constants _.
    every_then any λ upvalues _.
    every_then any λ protos _.
    every_then any λ _ _.
    every_then any λ protos-at _.
    every_then (forest-both protos (within w (inherit spelt w.source) (length instructions)) one) λ nested a.
    every_then any λ line-info-size _.
    every_then any λ line-info-at _.
    every_then any λ line_info_lem _.
    every_then any λ abs_line_info _.
    every_then any λ loc_vars _.
    every_then any λ upvalue_names_lem _.
    every_then any λ end _.
    every_is (in_function w (length instructions) _ nested refl a)

function-both : (L : ResourceLimits) (left : ℕ) → EachBoth (Function L left)
unfolding Function
function-both L zero = body-both L λ w. every_nothing
function-both L (suc left) = body-both L λ w. every_then any λ _ _. function-both L left w

-- ## The whole
pub are_all : (fs ps : List Prototype) (n : ℕ) → ((k : ℕ) → source_of fs (n + k) ≡ source_of ps k) → Are (source_of fs) n ps
are_all fs [] n at = tt
are_all fs (p ∷ ps) n at = (rw add-zero at (at 0), are_all fs ps (suc n) (λ k. rw (add-suc, ← suc-add) at (at (suc k))))

all_fine : (fs ps : List Prototype) → All FunctionFits ps → All (AsLuaInFull fs) ps → All Fine ps
all_fine fs [] h a = tt
all_fine fs (p ∷ ps) h a = ((h.0, record { tags = a.0.tags; debug = (a.0.locals, a.0.names) }), all_fine fs ps h.1 a.1)

all_by_parent : (fs ps : List Prototype) → All (AsLuaInFull fs) ps → All (ByParent (source_of fs)) ps
all_by_parent fs [] a = tt
all_by_parent fs (p ∷ ps) a = (a.0.source, all_by_parent fs ps a.1)

-- where nothing is left, all was taken
taken : {A : Type 0} (n : ℕ) (xs : List A) → drop n xs ≡ [] → take n xs ≡ xs
taken n xs e = take_all n xs (let none = length-drop n xs in let size : length (drop n xs) ≡ 0 = ap length e in omega arith)

whole : (fs : List Prototype) → There fs → Both outermost fs → All FunctionFits fs → All (AsLuaInFull fs) fs → lua_u_dump false fs ≡ header_bytes 0 ++ (field_bytes 1 (upvalues_of_main fs) ++ full_functions fs)
unfolding lua_u_dump all_within flatten
whole (main ∷ nested) there b h a =
    let fs = main ∷ nested in
    let later = foldr (dump_nested false) [] nested in
    let first : dump_function false main (take main.protos later) ≡ b.dump = (let all = b.dumps [] in cc) in
    let rest : drop main.protos later ≡ [] = (let all = b.dumps [] in cc) in
    let others : All (AsLuaInFull fs) (b.its ∷ b.others) = subst (λ ps. All (AsLuaInFull fs) ps) b.is a in
    let same = b.alike (source_of fs) (are_all fs fs 0 (λ k. rw zero-add refl)) (all_fine fs fs h a) (all_by_parent fs b.others others.1) none (no_object b.its.source_name) in
    ap (λ x. header_bytes 0 ++ (field_bytes 1 (length main.upvalues) ++ x))
    (ap (λ l. dump_function false main l none) (sym (taken main.protos later rest)) ∙ ap (λ (f : Dump). f none) first ∙ same ∙ sym (append-nil (b.full none)) ∙ ap (all_within none) (sym (b.fulls [])))
whole [] there b h a = elim there [ ]

pub full_as_dumped : (L : ResourceLimits) (chunk : Bytes) (r : Reading) → Chunk L chunk r → All (AsLuaInFull r.functions) r.functions
    → full_copy r ≡ lua_u_dump false r.functions ++ r.trailing
unfolding full_copy
full_as_dumped L chunk r c a =
    let f = c.main.two.two in
    let same : f.value ≡ r.functions = ap (λ (m : Loaded). m.functions) f.two.1 ∙ ap (λ (q : Reading). q.functions) c.shows in
    let both : Both outermost r.functions = rw same at ((function-both L L.max_nesting_depth outermost).holds _ f.front f.value f.one) in
    let known = functions_known L chunk r c in
    rw (whole r.functions known.0 both known.1.fit a) (simp append_assoc)
