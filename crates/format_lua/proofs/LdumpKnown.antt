-- What is known of the functions of a chunk that was read, for `proofs/LdumpWhole.antt`: every number fits a size_t, and each function stands behind its parent.
--     BehindParents n ps       each function of ps, the first of which has the number n, has a parent that stands before it (main is its own)
--     Known n ps               and every number of each fits
--     functions_known          so it is with the functions of a chunk, and there is a main
-- Assumes nothing.
use mathlib.Core.Path.{◌≡◌, ◌∙◌, ap}
use mathlib.Core.List.{List, [], ◌∷◌, ◌++◌}
use mathlib.Core.Option.{Option, none, some, get_or}
use Prim.Native.Nat.{ℕ, zero, suc, ◌+◌, ◌-◌, ◌^◌, ◌≤◌, ◌<◌}
use native.Mathlib.Omega.{arith}
use native.Mathlib.Numerals.{add-one}
use native.Mathlib.Nat.{add-zero, add-suc, suc-add}
use lib.Dec.{eqb, lit<}
use lib.ListN.{length}
use Rattle.format.specs.Reading.{Prototype, Reading}
use Rattle.format.specs.declared.limits.ResourceLimits.{ResourceLimits}
use Rattle.format.specs.Form.{Bytes, All, Form}
use Rattle.format.specs.GrammarFields.{LuaString, Content, String}
use Rattle.format.specs.GrammarChunk.{Counted, CountedUpTo, Always, Tagged, Constant, Anchor, Local, Where, after, within, inherit, Forest, Body, Function, Loaded, outermost, Chunk}
use Rattle.format.proofs.Every.{Every, any, every_then, every_is, every_nothing, every_when, every_number, every_run, every_many, all_append}
use Rattle.format_lua.proofs.LdumpChunk.{Fits, StringFits, ConstantFits, AnchorFits, LocalFits, ListFits, FunctionFits}

-- ## In what was read every number fits
below : {n : ℕ} → n < 2 ^ 64 - 128 → Fits n
below h = omega arith

content-fits : (limit size : ℕ) → size < 2 ^ 64 - 128 → Every (Content limit size) StringFits
content-fits limit zero h = every_is tt
content-fits limit (suc n) h =
    every_then any λ _ _.
    every_then any λ place _.
    every_then (every_run n) λ bytes size.
    every_is (rw size (below h))

string-fits : (limit : ℕ) → Every (String limit) StringFits
string-fits limit = every_then every_number λ size h. content-fits limit size h

or-fits : (t : Option LuaString) (u : LuaString) → StringFits t → StringFits (some u) → StringFits (some (get_or t u))
or-fits none u h k = k
or-fits (some t) u h k = h

always-fits : (limit : ℕ) (instead : Bytes) → Fits (suc (length instead)) → Every (Always limit instead) (λ t. StringFits (some t))
always-fits limit instead k = every_then (string-fits limit) λ t h. every_then any λ place _. every_is (or-fits t _ h k)

constant-fits : (limit : ℕ) → Every (Constant limit) ConstantFits
constant-fits limit = every_then any λ tag _. tagged tag
  where
    tagged : (tag : ℕ) → Every (Tagged limit tag) ConstantFits
    tagged tag =
        every_when (eqb tag 0) (every_is tt)
        (every_when (eqb tag 1) (every_is tt)
        (every_when (eqb tag 17) (every_is tt)
        (every_when (eqb tag 3) (every_then any λ n _. every_is tt)
        (every_when (eqb tag 19) (every_then any λ n _. every_is tt)
        (every_when (eqb tag 4) (every_then (always-fits limit [] (lit< tt)) λ t h. every_is h)
        (every_when (eqb tag 20) (every_then (always-fits limit [] (lit< tt)) λ t h. every_is h)
        every_nothing))))))

anchor-fits : Every Anchor AnchorFits
anchor-fits = every_then every_number λ pc h. every_then every_number λ line k. every_is (below h, below k)

local_fits : (limit : ℕ) → Every (Local limit) LocalFits
local_fits limit = every_then (always-fits limit (63 ∷ []) (lit< tt)) λ name h. every_then every_number λ startpc k. every_then every_number λ endpc l. every_is (h, below k, below l)

counted-fits : {A : Type 0} {F : Form A} {P : A → Type 0} → Every F P → Every (Counted F) (λ l. ListFits P l.items)
counted-fits one = every_then every_number λ n h. every_then any λ place _. every_then (every_many n one) λ items k. every_is (rw k.0 (below h), k.1)

up_to-fits : {A : Type 0} {F : Form A} {P : A → Type 0} (limit : ℕ) → Every F P → Every (CountedUpTo limit F) (λ l. ListFits P l.items)
up_to-fits limit one =
    every_then every_number λ n h. every_then any λ _ _. every_then any λ place _. every_then (every_many n one) λ items k. every_is (rw k.0 (below h), k.1)

-- ## What is known of the functions that were read
-- the first of these functions has the number n, and each stands behind its parent (main is its own)
abbrev pub BehindParents : ℕ → List Prototype → Type 0
BehindParents n [] = Unit {0}
BehindParents n (p ∷ ps) = (p.parent ≤ n - 1) × BehindParents (suc n) ps

pub record Known (n : ℕ) (ps : List Prototype) : Type 0 where
  pub fit : All FunctionFits ps
  pub behind : BehindParents n ps

behind-append : (n : ℕ) (ps more : List Prototype) → BehindParents n ps → BehindParents (n + length ps) more → BehindParents n (ps ++ more)
behind-append n [] more h k = rw add-zero at k
behind-append n (p ∷ ps) more h k = (h.0, behind-append (suc n) ps more h.1 (rw (add-suc, ← suc-add) at k))

abbrev pub There : List Prototype → Type 0
There [] = ⊥
There (p ∷ ps) = Unit {0}

-- of where a function stands: its parent stands before it, and its parent's source fits
record Placed (w : Where) : Type 0 where
  parent : w.parent ≤ w.number - 1
  source : StringFits w.source

inherit-fits : (own parent : Option LuaString) → StringFits own → StringFits parent → StringFits (inherit own parent)
inherit-fits none parent h k = k
inherit-fits (some t) parent h k = h

-- of nested functions, and of a function with those that nest in it
abbrev EachKnown : (Where → Form (List Prototype)) → Type 0
EachKnown F = (w : Where) → Placed w → Every (F w) (λ ps. There ps × Known w.number ps)

forest_known : (n : ℕ) {F : Where → Form (List Prototype)} (w : Where) → Placed w → EachKnown F → Every (Forest n F w) (Known w.number)
forest_known zero w placed one = every_is (record { fit = tt; behind = tt })
forest_known (suc n) w placed one =
    every_then (one w placed) λ ps (t, h).
    every_then (forest_known n (after ps w) (record { parent = omega (arith, placed.parent); source = placed.source }) one) λ more k.
    every_is (record { fit = all_append FunctionFits ps more h.fit k.fit; behind = behind-append w.number ps more h.behind k.behind })

body_known : (L : ResourceLimits) {F : Where → Form (List Prototype)} → EachKnown F → EachKnown (Body L F)
unfolding Body
body_known L one w placed =
    every_then any λ start _.
    every_then (string-fits L.max_string_bytes) λ spelt h0.
    every_then every_number λ line_defined h1.
    every_then every_number λ last_line_defined h2.
    every_then any λ numparams _.
    every_then any λ is_vararg _.
    every_then any λ maxstacksize _.
    every_then every_number λ size h3.
    every_then any λ _ _.
    every_then any λ _ _.
    every_then any λ instructions_at _.
    every_then (every_many size any) λ instructions k3.
    every_then (up_to-fits L.max_constants_per_proto (constant-fits L.max_string_bytes)) λ constants h4.
    every_then (up_to-fits L.max_upvalues_per_proto any) λ upvalues h5.
    every_then every_number λ protos h6.
    every_then any λ _ _.
    every_then any λ protos-at _.
    every_then (forest_known protos (within w (inherit spelt w.source) (length instructions)) (record { parent = omega arith; source = inherit-fits spelt w.source h0 placed.source }) one) λ nested rest.
    every_then every_number λ line-info-size h7.
    every_then any λ line-info-at _.
    every_then (every_run line-info-size) λ line_info_lem k7.
    every_then (counted-fits anchor-fits) λ abs_line_info h8.
    every_then (counted-fits (local_fits L.max_string_bytes)) λ loc_vars h9.
    every_then (counted-fits (string-fits L.max_string_bytes)) λ upvalue_names_lem h10.
    every_then any λ end _.
    every_is (
      tt,
      record {
        fit = (
          record {
            source_name = inherit-fits spelt w.source h0 placed.source;
            line_defined = below h1;
            last_line_defined = below h2;
            instructions = rw k3.0 (below h3);
            constants = h4;
            upvalues = h5.0;
            protos = below h6;
            line_info_lem = rw k7 (below h7);
            abs_line_info = h8;
            loc_vars = h9;
            upvalue_names_lem = h10;
          },
          rest.fit,
        );
        behind = (placed.parent, rw add-one at rest.behind);
      },
    )

function_known : (L : ResourceLimits) (left : ℕ) → EachKnown (Function L left)
unfolding Function
function_known L zero = body_known L λ w placed. every_nothing
function_known L (suc left) = body_known L λ w placed. every_then any λ _ _. function_known L left w placed

pub functions_known : (L : ResourceLimits) (chunk : Bytes) (r : Reading) → Chunk L chunk r → There r.functions × Known 0 r.functions
functions_known L chunk r c =
    let f = c.main.two.two in
    let same : f.value ≡ r.functions = ap (λ (m : Loaded). m.functions) f.two.1 ∙ ap (λ (q : Reading). q.functions) c.shows in
    rw (← same) ((function_known L L.max_nesting_depth outermost (record { parent = omega arith; source = tt })).holds _ f.front f.value f.one)
