-- What belongs to the stricter grammar (crates/format_strict) Lua's own loader takes (`Undump`, specs/LundumpFunctions.antt), with the same value; with `proofs/LundumpChunk.antt`, which is the converse: exactly that.
--     Narrower G F P       bytes of G are bytes of F and spell the same value, and of that P is learnt
--     strict_loads         what belongs to the stricter grammar Lua's loader takes, and it is within the limits
--     strict_as_loaded     a chunk belongs to the stricter grammar exactly where Lua loads it and what is loaded is within the limits (`LoadedWithin`, specs/LundumpWithin.antt)
-- For what is within the limits a string limit of at least 1 is asked: a local name that is NULL is shown as `?`, so under a limit of 0 what is shown of it is longer than the limit that its own size was held to.
-- Assumes nothing.
use mathlib.Core.Path.{◌≡◌, refl, ◌∙◌, ap}
use mathlib.Core.Logic.{◌↔◌}
use mathlib.Core.Bool.{Bool, true, false}
use mathlib.Core.List.{List, [], ◌∷◌, ◌++◌}
use mathlib.Core.Option.{Option, none, some, get_or}
use Prim.Native.Nat.{ℕ, zero, suc, ◌+◌, ◌≤◌}
use native.Mathlib.Omega.{arith}
use native.Mathlib.Nat.{add-zero}
use lib.Dec.{eqb}
use lib.ListN.{length, length-append}
use Rattle.format.specs.declared.limits.ResourceLimits.{ResourceLimits}
use Rattle.format.specs.Form.{Bytes, All, Below, Form, Then, Is, Given, Nothing, When, Run, Many}
use Rattle.format.specs.GrammarFields.{LuaString, Number, String}
use Rattle.format.specs.GrammarFields as ours
use Rattle.format.specs.Reading.{Prototype, Reading}
use Rattle.format.specs.GrammarChunk.{inherit, instructions_of, Where, after, within, Forest, Loaded, outermost}
use Rattle.format_strict.specs.GrammarStrict.{Int, StrictCounted, StrictCountedUpTo, There, Present, StrictConstant, StrictAnchor, StrictLocal, StrictBody, StrictFunction, StrictHeader, StrictMain, StrictChunk}
use Rattle.format_lua.specs.LundumpFunctions.{LoadSize, LoadInt, Content, LoadStringN, NotNull, LoadString, LoadCounted, LoadConstant, LoadAbsLineInfo, LoadLocVar, LoadProtos, LoadFunction, CheckHeader, Undump}
use Rattle.format_lua.specs.LundumpWithin.{BytesWithin, StringWithin, ConstantWithin, LocalWithin, FunctionWithin, FunctionsWithin, LoadedWithin}
use Rattle.format.proofs.Every.{Any, every_run, all_append}
use Rattle.format.proofs.Totals.{instructions-append}
use Rattle.format.proofs.Build.{skip}
use Rattle.format.proofs.Below.{below_split}
use Rattle.format.proofs.Wider.{Wider, grouped, opened}
use Rattle.format_lua.proofs.LundumpParts.{size_loads, int-loads}
use Rattle.format_lua.proofs.LundumpChunk.{undumped}

pub record Narrower {A : Type 0} (G F : Form A) (P : A → Type 0) : Type 0 where
  pub narrows : (at : ℕ) (b : Bytes) (x : A) → Below 256 b → G at b x → F at b x × P x

-- ## One law for each way to make a form
same : {A : Type 0} {F : Form A} → Narrower F F Any
same = record { narrows = λ at b x bytes d. (d, tt) }

none_narrower : {A : Type 0} {F : Form A} {P : A → Type 0} → Narrower Nothing F P
none_narrower = record { narrows = λ at b x bytes d. absurd d }

is : {A : Type 0} {x : A} {P : A → Type 0} → P x → Narrower (Is x) (Is x) P
is {P} p = record { narrows = λ at b y bytes d. (d, rw (← d.1) p) }

-- of the first part Q is learnt, for the rest
part : {A B : Type 0} {G F : Form A} {Q : A → Type 0} {G' F' : A → Form B} {P : B → Type 0} → Narrower G F Q → ((x : A) → Q x → Narrower (G' x) (F' x) P) → Narrower (Then G G') (Then F F') P
part one two = record {
  narrows = λ at b y bytes d.
      let both = below_split 256 d.front d.back (rw d.whole at bytes) in
      let first = one.narrows at d.front d.value both.0 d.one in
      let rest = (two d.value first.1).narrows _ d.back y both.1 d.two in
      (record { value = d.value; front = d.front; back = d.back; whole = d.whole; one = first.0; two = rest.0 }, rest.1);
}

-- a test that the other form has not
tested : {A : Type 0} {Q : Type 0} {G F : Form A} {P : A → Type 0} → (Q → Narrower G F P) → Narrower (Then (Given Q) (λ _. G)) F P
tested two = record {
  narrows = λ at b y bytes d.
      let all : b ≡ d.back = d.whole ∙ ap (λ c. c ++ d.back) d.one.0 in
      (two d.one.1).narrows at b y bytes (rw all (rw (d.one.0, add-zero) at d.two));
}

-- the other form in other groups
as_form : {A : Type 0} {G F F' : Form A} {P : A → Type 0} → Wider F F' → Narrower G F P → Narrower G F' P
as_form w n = record { narrows = λ at b x bytes d. let r = n.narrows at b x bytes d in (w.widens r.0, r.1) }

-- G in other groups
seen : {A : Type 0} {G G' F : Form A} {P : A → Type 0} → Wider G G' → Narrower G' F P → Narrower G F P
seen w n = record { narrows = λ at b x bytes d. n.narrows at b x bytes (w.widens d) }

by_tag : {A : Type 0} {G F G' F' : Form A} {P : A → Type 0} (t : Bool) → Narrower G F P → Narrower G' F' P → Narrower (When t G G') (When t F F') P
by_tag true one two = one
by_tag false one two = two

many_narrower : {A : Type 0} {G F : Form A} {P : A → Type 0} (n : ℕ) → Narrower G F P → Narrower (Many n G) (Many n F) (λ xs. (length xs ≡ n) × All P xs)
many_narrower zero one = is (refl, tt)
many_narrower (suc n) one = part one λ x p. part (many_narrower n one) λ xs q. is (ap suc q.0, (p, q.1))

-- ## Numbers
size_narrower : Narrower Number LoadSize Any
size_narrower = record { narrows = λ at b v bytes d. (size_loads at v b bytes d, tt) }

int_narrower : Narrower Int LoadInt Any
int_narrower = record { narrows = λ at b v bytes d. (int-loads at v b bytes d, tt) }

-- ## Lists, strings, entries
into_is : {A B : Type 0} {x : A} {H : A → Form B} → Wider (H x) (Then (Is x) H)
into_is {x} = record { widens = λ d. skip x (refl, refl) d }

run_narrower : (n : ℕ) → Narrower (Run n) (Run n) (λ b. length b ≡ n)
run_narrower n = record { narrows = λ at b y bytes d. (d, (every_run n).holds at b y d) }

module _ {A : Type 0} {G F : Form A} {P : A → Type 0} (one : Narrower G F P) where
  list_narrower : Narrower (StrictCounted G) (LoadCounted F) (λ l. All P l.items)
  list_narrower = part int_narrower λ n _. part same λ place _. part (many_narrower n one) λ items q. is q.1

  up_to_narrower : (limit : ℕ) → Narrower (StrictCountedUpTo limit G) (LoadCounted F) (λ l. (length l.items ≤ limit) × All P l.items)
  up_to_narrower limit = part int_narrower λ n _. tested λ le. part same λ place _. part (many_narrower n one) λ items q. is (rw q.0 le, q.1)

module _ (limit : ℕ) where
  content_narrower : (size : ℕ) → Narrower (ours.Content limit size) (Content size) (StringWithin limit)
  content_narrower zero = is tt
  content_narrower (suc n) = tested λ le. part same λ place _. part (run_narrower n) λ bytes sized. is (rw sized le)

  string_narrower : Narrower (String limit) LoadStringN (StringWithin limit)
  string_narrower = part size_narrower λ size _. content_narrower size

  present_narrower : Narrower (Present limit) LoadString (BytesWithin limit)
  present_narrower = part string_narrower go
    where
      go : (t : Option LuaString) → StringWithin limit t → Narrower (There t) (NotNull t) (BytesWithin limit)
      go none p = none_narrower
      go (some t) p = is p

  constant_narrower : Narrower (StrictConstant limit) LoadConstant (ConstantWithin limit)
  constant_narrower = part same λ tag _.
      by_tag (eqb tag 0) (is tt)
      (by_tag (eqb tag 1) (is tt)
      (by_tag (eqb tag 17) (is tt)
      (by_tag (eqb tag 3) (part same λ n _. is tt)
      (by_tag (eqb tag 19) (part same λ n _. is tt)
      (by_tag (eqb tag 4) (part present_narrower λ t p. is p)
      (by_tag (eqb tag 20) (part present_narrower λ t p. is p)
      none_narrower))))))

  local_narrower : Narrower (StrictLocal limit) LoadLocVar (λ l. 1 ≤ limit → LocalWithin limit l)
  local_narrower = part (part string_narrower λ t p. part same λ place _. is (or_short t place p)) λ name p. part int_narrower λ startpc _. part int_narrower λ endpc _. is p
    where
      or_short : (t : Option LuaString) (place : ℕ) → StringWithin limit t → 1 ≤ limit → BytesWithin limit (get_or t (record { place = place; bytes = 63 ∷ [] }))
      or_short none place p one = one
      or_short (some t) place p one = p

anchor_narrower : Narrower StrictAnchor LoadAbsLineInfo Any
anchor_narrower = part int_narrower λ pc _. part int_narrower λ line _. is tt

-- ## Functions
all_under : {A : Type 0} {Q : Type 0} (P : A → Type 0) (xs : List A) → All (λ x. Q → P x) xs → Q → All P xs
all_under P [] h q = tt
all_under P (x ∷ xs) h q = (h.0 q, all_under P xs h.1 q)

module _ (L : ResourceLimits) where
  -- where a function may begin
  record Begins (w : Where) : Type 0 where
    instructions : w.instructions ≤ L.max_total_instructions
    number : w.number ≤ suc L.max_total_prototypes
    source : StringWithin L.max_string_bytes w.source

  -- what is learnt of functions: the totals are within their limits, and each function is, where a local name may be `?`
  record Learnt (w : Where) (ps : List Prototype) : Type 0 where
    each : 1 ≤ L.max_string_bytes → All (FunctionWithin L) ps
    instructions : w.instructions + instructions_of ps ≤ L.max_total_instructions
    functions : w.number + length ps ≤ suc L.max_total_prototypes

  join_learnt : (w : Where) (ps qs : List Prototype) → Learnt w ps → Learnt (after ps w) qs → Learnt w (ps ++ qs)
  join_learnt w ps qs a b =
      let instructions = instructions-append ps qs in
      let functions = length-append ps qs in
      record { each = λ long. all_append (FunctionWithin L) ps qs (a.each long) (b.each long); instructions = omega (arith, b.instructions); functions = omega (arith, b.functions) }

  forest_narrower : (n : ℕ) {G F : Where → Form (List Prototype)} (w : Where) → Begins w → ((v : Where) → v.depth ≡ w.depth → Begins v → Narrower (G v) (F v) (Learnt v))
      → Narrower (Forest n G w) (LoadProtos n F w) (Learnt w)
  forest_narrower zero w b one = is (record { each = λ long. tt; instructions = omega (arith, b.instructions); functions = omega (arith, b.number) })
  forest_narrower (suc n) w b one =
      part (one w refl b) λ ps p.
      part (forest_narrower n (after ps w) (record { instructions = p.instructions; number = p.functions; source = b.source }) one) λ more q.
      is (join_learnt w ps more p q)

  inherits : (t parent : Option LuaString) → StringWithin L.max_string_bytes t → StringWithin L.max_string_bytes parent → StringWithin L.max_string_bytes (inherit t parent)
  inherits none parent p q = q
  inherits (some t) parent p q = p

  body_narrower : (left : ℕ) {G : Where → Form (List Prototype)} (w : Where) → w.depth ≤ L.max_nesting_depth → w.number ≤ L.max_total_prototypes → Begins w
      → ((v : Where) → v.depth ≡ w.depth + 1 → Begins v → Narrower (G v) (LoadFunction left v) (Learnt v)) → Narrower (StrictBody L G w) (LoadFunction (suc left) w) (Learnt w)
  unfolding LoadFunction StrictBody
  body_narrower left w deep few b one =
      part same λ start _.
      part (string_narrower L.max_string_bytes) λ source s.
      part int_narrower λ linedefined _.
      part int_narrower λ lastlinedefined _.
      part same λ numparams _.
      part same λ is_vararg _.
      part same λ maxstacksize _.
      as_form grouped (part int_narrower λ size _.
      tested λ per.
      tested λ total.
      as_form grouped (part same λ instructions_at _.
      as_form grouped (part (many_narrower size (same {F = ours.Field 4})) λ instructions counted.
      as_form into_is (
      part (up_to_narrower (constant_narrower L.max_string_bytes) L.max_constants_per_proto) λ constants k.
      part (up_to_narrower same L.max_upvalues_per_proto) λ upvalues u.
      part int_narrower λ protos _.
      tested λ nests.
      part same λ protos-at _.
      part (forest_narrower protos (within w (inherit source w.source) (length instructions))
      (record { instructions = omega (arith, counted.0); number = omega arith; source = inherits source w.source s b.source }) one) λ nested inner.
      as_form grouped (part int_narrower λ line-info-size _.
      as_form grouped (part same λ line-info-at _.
      as_form grouped (part same λ line_info_lem _.
      as_form grouped (part (list_narrower anchor_narrower) λ abs_line_info _.
      as_form grouped (part (list_narrower (local_narrower L.max_string_bytes)) λ loc_vars v.
      as_form grouped (part (list_narrower (string_narrower L.max_string_bytes)) λ upvalue_names_lem n.
      as_form into_is (
      part same λ end _.
      is (record {
        each = λ long. (
          record {
            depth = deep;
            source = inherits source w.source s b.source;
            instructions = omega (arith, counted.0);
            constants = k.0;
            constant_strings = k.1;
            upvalues = u.0;
            protos = nests;
            local_names = all_under (LocalWithin L.max_string_bytes) loc_vars.items v long;
            upvalue_names_lem = n;
          },
          inner.each long,
        );
        instructions = omega (arith, inner.instructions);
        functions = omega (arith, inner.functions);
      }))))))))))))

  function_narrower : (left : ℕ) (w : Where) → w.depth + left ≤ L.max_nesting_depth → w.number ≤ L.max_total_prototypes → Begins w
      → Narrower (StrictFunction L left w) (LoadFunction (suc left) w) (Learnt w)
  unfolding StrictFunction
  function_narrower zero w deep few b = body_narrower zero w (omega arith) few b λ v below _. none_narrower
  function_narrower (suc left) w deep few b = body_narrower (suc left) w (omega arith) few b λ v below c. tested λ few'. function_narrower left v (omega arith) few' c

  main_narrower : Narrower (StrictMain L) (Undump (suc L.max_nesting_depth)) (λ m. Learnt outermost m.functions)
  main_narrower =
      part header_narrower λ headed _.
      part same λ nupvalues _.
      part (function_narrower L.max_nesting_depth outermost (omega arith) (omega arith) (record { instructions = omega arith; number = omega arith; source = tt })) λ functions p.
      is p
    where
      header_narrower : Narrower StrictHeader CheckHeader Any
      header_narrower = seen opened (part same λ _ _. part same λ _ _. part same λ _ _.
          seen opened (part same λ _ _. seen opened (part same λ _ _. seen opened (part same λ _ _. seen opened (part same λ _ _. seen opened (part same λ _ _. part same λ _ _. is tt))))))

  pub strict_loads : (at : ℕ) (b : Bytes) (m : Loaded) → Below 256 b → StrictMain L at b m
      → Undump (suc L.max_nesting_depth) at b m × (1 ≤ L.max_string_bytes → FunctionsWithin L outermost m.functions)
  strict_loads at b m bytes d =
      let r = main_narrower.narrows at b m bytes d in
      (r.0, λ long. record { each = r.1.each long; instructions = r.1.instructions; functions = r.1.functions })

-- ## Chunks
pub strict_as_loaded : (L : ResourceLimits) (chunk : Bytes) (r : Reading) → 1 ≤ L.max_string_bytes → Below 256 chunk → StrictChunk L chunk r ↔ LoadedWithin L chunk r
strict_as_loaded L chunk r long bytes = (
  λ c.
      let both = strict_loads L 0 c.front c.value (below_split 256 c.front c.trailing (rw c.whole at bytes)).0 c.main in
      record { front = c.front; trailing = c.trailing; whole = c.whole; left = suc L.max_nesting_depth; value = c.value; loads = both.0; within = both.1 long; shows = c.shows },
  λ l. record { front = l.front; trailing = l.trailing; whole = l.whole; value = l.value; main = undumped L l.left 0 l.front l.value l.loads l.within; shows = l.shows },
)
