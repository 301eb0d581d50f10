-- The archive copy is what Lua's own dumper (`luaU_dump`, specs/LdumpFunctions.antt) writes of what was read, where four things do not part the two, and behind it the trailing bytes.
--     AsLua fs p           the function p, among the functions fs, meets the four: its source, string tags, local names, upvalue names
--     copy_as_dumped       where every function does, the copy is what `luaU_dump` writes, and the trailing bytes
--     AsStripped p         p has no debug information, and its string tags go by length
--     copy_as_stripped     where every function is so and main has no source, the copy is what `luaU_dump` writes with strip
-- The smallest chunks that part the two are in `proofs/LdumpCase.antt`. Numbers from 2^31 on, which Lua does not load, are written alike too (`dumpInt`).
-- Assumes nothing.
use mathlib.Core.Path.{◌≡◌, refl, sym, ◌∙◌, ap, ap₂}
use mathlib.Core.Bool.{Bool, true, false}
use mathlib.Core.List.{List, [], ◌∷◌, ◌++◌, append_assoc, map, foldr}
use mathlib.Core.Option.{Option, none, some}
use Prim.Native.Nat.{ℕ, zero, suc, ◌+◌, ◌-◌, ◌≤◌, ◌<◌}
use native.Mathlib.Omega.{arith}
use native.Mathlib.Nat.{add-zero, zero-add, add-suc, suc-add}
use lib.Dec.{T, lit<, ltb, eqb, eqb→eq, eqb_refl}
use borrow.Author.Tests.{ltb-true, ltb-false}
use lib.ListN.{length, take, drop}
use Rattle.format.specs.declared.limits.ResourceLimits.{ResourceLimits}
use Rattle.format.specs.Form.{Bytes, All}
use Rattle.format.specs.GrammarFields.{LuaString}
use Rattle.format.specs.Reading.{Prototype, Reading}
use Rattle.format.specs.GrammarChunk.{Chunk}
use Rattle.format.specs.ReadHeader.{same_bytes}
use Rattle.format.specs.Copy.{field_bytes, option_bytes, nest, functions_bytes, header_bytes, upvalues_of_main, copy}
use Rattle.format_lua.specs.LdumpFunctions.{object, Dump, same_source, dump_source, dump_nested, dump_header, lua_u_dump}
use Rattle.format.proofs.ExactHeader.{both, both_of, same_eq, same_refl}
use Rattle.format_lua.proofs.LdumpLaws.{dumped}
use Rattle.format_lua.proofs.LdumpChunk.{StringFits, FunctionFits, TaggedByLength, Named, Alike, string-is, copied_as_dumped}
use Rattle.format_lua.proofs.LdumpKnown.{BehindParents, Known, There, functions_known}

-- the source of the function with this number
abbrev pub source_of : List Prototype → ℕ → Option LuaString
source_of [] k = none
source_of (f ∷ fs) zero = f.source_name
source_of (f ∷ fs) (suc k) = source_of fs k

pub record AsLua (fs : List Prototype) (p : Prototype) : Type 0 where
  -- its source is its parent's (main is its own parent): then C writes none, as the copy does in every nested function
  pub source : same_source p.source_name (source_of fs p.parent) ≡ true
  -- a string's tag goes by its length: C writes that one, the copy the tag that was read
  pub tags : All TaggedByLength p.constants
  -- no local name is absent, and shown as `?`: C writes an absent one as absent, the copy as `?`
  pub locals : All Named p.loc_vars
  -- upvalues and names are as many: C writes a name for each upvalue, absent where none was read, the copy the names that were read
  pub names : length p.upvalues ≡ length p.upvalue_names_lem

pub record AsStripped (p : Prototype) : Type 0 where
  -- as above
  pub tags : All TaggedByLength p.constants
  -- there is no debug information: C writes none, the copy what was read
  pub line_info_lem : p.line_info_lem ≡ []
  pub abs_line_info : p.abs_line_info ≡ []
  pub loc_vars : p.loc_vars ≡ []
  pub upvalue_names_lem : p.upvalue_names_lem ≡ []

-- ## Sources that are one object: an equality
abbrev key : Option LuaString → List ℕ
key none = []
key (some s) = object s ∷ s.bytes

pub true_T : {b : Bool} → b ≡ true → T b
true_T e = rw e tt

pub T_true : (b : Bool) → T b → b ≡ true
T_true true h = refl
T_true false h = elim h [ ]

key_of : (s t : Option LuaString) → same_source s t ≡ true → key s ≡ key t
key_of s t e = go s t (true_T e)
  where
    go : (s t : Option LuaString) → T (same_source s t) → key s ≡ key t
    go none none h = refl
    go (some s) (some t) h =
        let k = both (same_bytes s.bytes t.bytes) (eqb (object s) (object t)) h in
        ap₂ ◌∷◌ (eqb→eq (object s) (object t) k.1) (same_eq s.bytes t.bytes k.0)
    go none (some t) h = elim h [ ]
    go (some s) none h = elim h [ ]

of_key : (s t : Option LuaString) → key s ≡ key t → same_source s t ≡ true
of_key s t e = T_true (same_source s t) (go s t e)
  where
    go : (s t : Option LuaString) → key s ≡ key t → T (same_source s t)
    go none none e = tt
    go none (some t) e = absurd (let z : ◌≡◌ {A = ℕ} 0 1 = cc in omega arith)
    go (some s) none e = absurd (let z : ◌≡◌ {A = ℕ} 0 1 = cc in omega arith)
    go (some s) (some t) e =
        let place : object s ≡ object t = cc in
        let bytes : s.bytes ≡ t.bytes = cc in
        both_of (same_bytes s.bytes t.bytes) (eqb (object s) (object t)) (rw bytes (same_refl t.bytes)) (rw place (eqb_refl (object t)))

-- ## Every source is main's
-- this is known of the first n functions of fs
abbrev MainsUpTo : List Prototype → ℕ → Type 0
MainsUpTo fs n = (k : ℕ) → k < n → key (source_of fs k) ≡ key (source_of fs 0)

-- the function with the number n, whose parent stands before it
one_more : (fs : List Prototype) (n : ℕ) (p : Prototype) → source_of fs n ≡ p.source_name → p.parent ≤ n - 1 → AsLua fs p → MainsUpTo fs n → key p.source_name ≡ key (source_of fs 0)
one_more fs zero p at parent a before = ap key (sym at)
one_more fs (suc n) p at parent a before = key_of p.source_name (source_of fs p.parent) a.source ∙ before p.parent (omega arith)

up_to_next : (fs : List Prototype) (n : ℕ) → key (source_of fs n) ≡ key (source_of fs 0) → MainsUpTo fs n → MainsUpTo fs (suc n)
up_to_next fs n e before k h = go (ltb k n) refl
  where
    go : (b : Bool) → ltb k n ≡ b → key (source_of fs k) ≡ key (source_of fs 0)
    go true t = before k (ltb-true k n t)
    go false t =
        let last : k ≡ n = omega (arith, ltb-false k n t) in
        rw last e

-- the functions from the number n on
mains : (fs ps : List Prototype) (n : ℕ) → ((k : ℕ) → source_of fs (n + k) ≡ source_of ps k) → BehindParents n ps → All (AsLua fs) ps → MainsUpTo fs n
    → All (λ p. key p.source_name ≡ key (source_of fs 0)) ps
mains fs [] n at parents a before = tt
mains fs (p ∷ ps) n at parents a before =
    let here : source_of fs n ≡ p.source_name = rw add-zero at (at 0) in
    let one = one_more fs n p here parents.0 a.0 before in
    (one, mains fs ps (suc n) (λ k. rw (add-suc, ← suc-add) at (at (suc k))) parents.1 a.1 (up_to_next fs n (ap key here ∙ one) before))

-- ## Nested functions
map-take : {A B : Type 0} (f : A → B) (n : ℕ) (xs : List A) → map f (take n xs) ≡ take n (map f xs)
map-take f zero xs = refl
map-take f (suc n) [] = refl
map-take f (suc n) (x ∷ xs) = ap (λ l. f x ∷ l) (map-take f n xs)

map-drop : {A B : Type 0} (f : A → B) (n : ℕ) (xs : List A) → map f (drop n xs) ≡ drop n (map f xs)
map-drop f zero xs = refl
map-drop f (suc n) [] = refl
map-drop f (suc n) (x ∷ xs) = map-drop f n xs

-- each, with any source that may be its parent's, writes what the copy has, if with such it writes no source of its own
module _ (strip : Bool) (May : Option LuaString → Type 0) where
  abbrev Absent : Prototype → Type 0
  Absent p = May p.source_name × ((psource : Option LuaString) → May psource → dump_source strip p.source_name psource ≡ option_bytes none)

  nested_as_dumped : (ps : List Prototype) → All FunctionFits ps → All (Alike strip) ps → All Absent ps → (psource : Option LuaString) → May psource
      → map (λ (dump : Dump). dump psource) (foldr (dump_nested strip) [] ps) ≡ foldr nest [] ps
  nested_as_dumped [] fits alike absent psource may = refl
  nested_as_dumped (p ∷ ps) fits alike absent psource may =
      let later = foldr (dump_nested strip) [] ps in
      let inner = nested_as_dumped ps fits.1 alike.1 absent.1 p.source_name absent.0.0 in
      let others = nested_as_dumped ps fits.1 alike.1 absent.1 psource may in
      ap₂ ◌∷◌
      (copied_as_dumped strip p (take p.protos later) psource fits.0 alike.0
      ∙ rw (absent.0.1 psource may, map-take (λ (dump : Dump). dump p.source_name) p.protos later, inner) refl)
      (map-drop (λ (dump : Dump). dump psource) p.protos later ∙ ap (drop p.protos) others)

  -- ## Main, and the whole
  functions_as_dumped : (main : Prototype) (nested : List Prototype) → All FunctionFits (main ∷ nested) → All (Alike strip) (main ∷ nested) → All Absent nested → May main.source_name
      → dump_source strip main.source_name none ≡ option_bytes main.source_name
      → lua_u_dump strip (main ∷ nested) ≡ header_bytes 0 ++ (field_bytes 1 (length main.upvalues) ++ functions_bytes (main ∷ nested))
  unfolding lua_u_dump
  functions_as_dumped main nested fits alike absent may source =
      let inner = nested_as_dumped nested fits.1 alike.1 absent main.source_name may in
      ap (λ b. header_bytes 0 ++ (field_bytes 1 (length main.upvalues) ++ b))
      (copied_as_dumped strip main (foldr (dump_nested strip) [] nested) none fits.0 alike.0 ∙ rw (source, inner) refl)

header_is : dump_header ≡ header_bytes 0
header_is = refl

-- ## Not stripped: every source is main's, and main's is written
none_written : (s t : Option LuaString) → key s ≡ key t → dump_source false s t ≡ option_bytes none
none_written s t e = rw (of_key s t e) (dumped 0 (lit< tt))

source-written : (s : Option LuaString) → StringFits s → dump_source false s none ≡ option_bytes s
source-written none h = string-is none h
source-written (some t) h = string-is (some t) h

all_alike : (fs ps : List Prototype) → All (AsLua fs) ps → All (Alike false) ps
all_alike fs [] a = tt
all_alike fs (p ∷ ps) a = (record { tags = a.0.tags; debug = (a.0.locals, a.0.names) }, all_alike fs ps a.1)

all_absent : (main : List ℕ) (ps : List Prototype) → All (λ p. key p.source_name ≡ main) ps → All (Absent false (λ s. key s ≡ main)) ps
all_absent main [] same = tt
all_absent main (p ∷ ps) same = ((same.0, λ psource may. none_written p.source_name psource (same.0 ∙ sym may)), all_absent main ps same.1)

unstripped : (fs : List Prototype) → There fs → Known 0 fs → All (AsLua fs) fs → lua_u_dump false fs ≡ header_bytes 0 ++ (field_bytes 1 (upvalues_of_main fs) ++ functions_bytes fs)
unstripped (main ∷ nested) there known a =
    let fs = main ∷ nested in
    let same = mains fs fs 0 (λ k. rw zero-add refl) known.behind a (λ k h. absurd (omega arith)) in
    functions_as_dumped false (λ s. key s ≡ key main.source_name) main nested known.fit (all_alike fs fs a) (all_absent (key main.source_name) nested same.1) refl
    (source-written main.source_name known.fit.0.source_name)
unstripped [] there known a = elim there [ ]

pub copy_as_dumped : (L : ResourceLimits) (chunk : Bytes) (r : Reading) → Chunk L chunk r → All (AsLua r.functions) r.functions
    → copy r ≡ lua_u_dump false r.functions ++ r.trailing
unfolding copy
copy_as_dumped L chunk r c a =
    let (there, known) = functions_known L chunk r c in
    rw (unstripped r.functions there known a) (simp append_assoc)

-- ## Stripped: no source is written, and main has none
no_sources : (ps : List Prototype) → All (Absent true (λ s. Unit {0})) ps
no_sources [] = tt
no_sources (p ∷ ps) = ((tt, λ psource may. dumped 0 (lit< tt)), no_sources ps)

all_stripped : (ps : List Prototype) → All AsStripped ps → All (Alike true) ps
all_stripped [] a = tt
all_stripped (p ∷ ps) a = (record { tags = a.0.tags; debug = (a.0.line_info_lem, a.0.abs_line_info, a.0.loc_vars, a.0.upvalue_names_lem) }, all_stripped ps a.1)

stripped : (fs : List Prototype) → There fs → Known 0 fs → source_of fs 0 ≡ none → All AsStripped fs → lua_u_dump true fs ≡ header_bytes 0 ++ (field_bytes 1 (upvalues_of_main fs) ++ functions_bytes fs)
stripped (main ∷ nested) there known source a =
    functions_as_dumped true (λ s. Unit {0}) main nested known.fit (all_stripped (main ∷ nested) a) (no_sources nested) tt (rw source (dumped 0 (lit< tt)))
stripped [] there known source a = elim there [ ]

pub copy_as_stripped : (L : ResourceLimits) (chunk : Bytes) (r : Reading) → Chunk L chunk r → source_of r.functions 0 ≡ none → All AsStripped r.functions
    → copy r ≡ lua_u_dump true r.functions ++ r.trailing
unfolding copy
copy_as_stripped L chunk r c source a =
    let (there, known) = functions_known L chunk r c in
    rw (stripped r.functions there known source a) (simp append_assoc)
