-- What is set aside does not show in the full copy.
--     sourced_kept     functions, and what is kept of them, are written alike
--     full_keeps_more  readings that are equal in what a full copy keeps are equal in what the archive copy keeps
-- Assumes nothing.
use mathlib.Core.Path.{◌≡◌, refl, sym, ◌∙◌, ap, ap₂}
use mathlib.Core.Bool.{Bool, true, false, cond}
use mathlib.Core.List.{List, [], ◌∷◌, ◌++◌, map, foldr, flatten}
use mathlib.Core.Option
use mathlib.Core.Option.{Option, none, some}
use Prim.Native.Nat.{ℕ, zero, suc}
use lib.ListN.{take, drop}
use Rattle.format.specs.Form.{Bytes}
use Rattle.format.specs.GrammarFields.{LuaString}
use Rattle.format.specs.Reading.{ConstantValue, nil, boolean, integer, float, short_string, long_string, Prototype, Reading}
use Rattle.format.specs.ReadHeader.{same_bytes}
use Rattle.format.specs.Copy.{option_bytes, behind_source, upvalues_of_main, kept_string, kept_constant, kept_local, kept_function, kept_nested, kept_functions, kept}
use Rattle.format.specs.FullCopy.{nested_source, Within, all_within, full_function, full_nest, full_functions, kept_sourced, kept_full}
use Rattle.format.proofs.KeptCopy.{behind-kept}

abbrev kept_source : Option LuaString → Option LuaString
kept_source = Option.map kept_string

written-kept : (parent own : Option LuaString) → option_bytes (nested_source (kept_source parent) (kept_source own)) ≡ option_bytes (nested_source parent own)
written-kept none none = refl
written-kept none (some t) = refl
written-kept (some u) none = refl
written-kept (some u) (some t) = by (same_bytes t.bytes u.bytes)
  where
    by : (b : Bool) → option_bytes (cond b none (some (kept_string t))) ≡ option_bytes (cond b none (some t))
    by true = refl
    by false = refl

-- ## Functions in a function with this source
abbrev each : Option LuaString → List Within → List Bytes
each source = map (λ (f : Within). f source)

take-each : (source : Option LuaString) (n : ℕ) (fs : List Within) → each source (take n fs) ≡ take n (each source fs)
take-each source zero fs = refl
take-each source (suc n) [] = refl
take-each source (suc n) (f ∷ fs) = ap (λ l. f source ∷ l) (take-each source n fs)

drop-each : (source : Option LuaString) (n : ℕ) (fs : List Within) → each source (drop n fs) ≡ drop n (each source fs)
drop-each source zero fs = refl
drop-each source (suc n) [] = refl
drop-each source (suc n) (f ∷ fs) = drop-each source n fs

nests_kept : (ps : List Prototype) (source : Option LuaString) → each (kept_source source) (foldr full_nest [] (map kept_sourced ps)) ≡ each source (foldr full_nest [] ps)
unfolding all_within full_function
nests_kept [] source = refl
nests_kept (p ∷ ps) source =
    let own = p.source_name in
    let later = foldr full_nest [] ps in
    let plain = foldr full_nest [] (map kept_sourced ps) in
    let inner : each (kept_source own) (take p.protos plain) ≡ each own (take p.protos later) = take-each (kept_source own) p.protos plain ∙ ap (take p.protos) (nests_kept ps own) ∙ sym (take-each own p.protos later) in
    let behind : behind_source (kept_sourced p) (flatten (each (kept_source own) (take p.protos plain))) ≡ behind_source p (flatten (each own (take p.protos later))) = ap (λ b. behind_source (kept_sourced p) (flatten b)) inner ∙ behind-kept (kept_source own) p _ in
    ap₂ ◌∷◌ (ap₂ ◌++◌ (written-kept source own) behind) (drop-each (kept_source source) p.protos plain ∙ ap (drop p.protos) (nests_kept ps source) ∙ sym (drop-each source p.protos later))

pub sourced_kept : (ps : List Prototype) → full_functions (map kept_sourced ps) ≡ full_functions ps
unfolding all_within
sourced_kept ps = ap flatten (nests_kept ps none)

pub upvalues_sourced : (ps : List Prototype) → upvalues_of_main (map kept_sourced ps) ≡ upvalues_of_main ps
upvalues_sourced [] = refl
upvalues_sourced (p ∷ ps) = refl

-- ## What the archive copy keeps of what the full copy keeps
constant_twice : (c : ConstantValue) → kept_constant (kept_constant c) ≡ kept_constant c
constant_twice nil = refl
constant_twice (boolean b) = refl
constant_twice (integer n) = refl
constant_twice (float n) = refl
constant_twice (short_string t) = refl
constant_twice (long_string t) = refl

source_twice : (t : Option LuaString) → kept_source (kept_source t) ≡ kept_source t
source_twice none = refl
source_twice (some t) = refl

map_twice : {A : Type 0} (f : A → A) → ((x : A) → f (f x) ≡ f x) → (xs : List A) → map f (map f xs) ≡ map f xs
map_twice f h [] = refl
map_twice f h (x ∷ xs) = ap₂ ◌∷◌ (h x) (map_twice f h xs)

function_twice : (source t : Option LuaString) (p : Prototype) → kept_function source (kept_function t p) ≡ kept_function source p
function_twice source t p = rw (map_twice kept_constant constant_twice p.constants, map_twice kept_local (λ x. refl) p.loc_vars, map_twice kept_source source_twice p.upvalue_names_lem)

nested_twice : (ps : List Prototype) → map kept_nested (map kept_sourced ps) ≡ map kept_nested ps
nested_twice [] = refl
nested_twice (p ∷ ps) = ap₂ ◌∷◌ (function_twice none (kept_source p.source_name) p) (nested_twice ps)

functions_twice : (ps : List Prototype) → kept_functions (map kept_sourced ps) ≡ kept_functions ps
functions_twice [] = refl
functions_twice (p ∷ ps) = ap₂ ◌∷◌ (ap (λ t. kept_function t (kept_sourced p)) (source_twice p.source_name) ∙ function_twice (kept_source p.source_name) (kept_source p.source_name) p) (nested_twice ps)

kept-of_full : (r : Reading) → kept (kept_full r) ≡ kept r
unfolding kept kept_full
kept-of_full r = rw (functions_twice r.functions)

pub full_keeps_more : (r q : Reading) → kept_full r ≡ kept_full q → kept r ≡ kept q
full_keeps_more r q e = sym (kept-of_full r) ∙ ap kept e ∙ kept-of_full q
