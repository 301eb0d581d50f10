-- What is set aside does not show in the copy.
--     functions-kept   functions, and what is kept of them, are written alike (so readings that are equal in what is kept have equal copies: crates/format_copy/proofs/CopyChunk.antt)
-- Assumes nothing.
use mathlib.Core.Path.{◌≡◌, refl, ap, ap₂}
use mathlib.Core.List.{List, [], ◌∷◌, ◌++◌, map, foldr, flatten}
use mathlib.Core.Option
use mathlib.Core.Option.{Option, none, some}
use lib.ListN.{take, length-map}
use Rattle.format.specs.Form.{Bytes}
use Rattle.format.specs.GrammarFields.{LuaString}
use Rattle.format.specs.Reading.{ConstantValue, nil, boolean, integer, float, short_string, long_string, Prototype}
use Rattle.format.specs.Shortest.{shortest}
use Rattle.format.specs.Copy.{option_bytes, constant_bytes, local_bytes, list_bytes, behind_source, nest, functions_bytes, upvalues_of_main, kept_constant, kept_local, kept_function, kept_nested, kept_functions, kept_string}

list_kept : {A : Type 0} (enc : A → Bytes) (plainly : A → A) → ((x : A) → enc (plainly x) ≡ enc x) → (xs : List A) → list_bytes enc (map plainly xs) ≡ list_bytes enc xs
unfolding list_bytes
list_kept enc plainly h xs = ap₂ ◌++◌ (ap shortest (length-map xs plainly)) (ap flatten (maps xs))
  where
    maps : (xs : List _) → map enc (map plainly xs) ≡ map enc xs
    maps [] = refl
    maps (x ∷ xs) = ap₂ ◌∷◌ (h x) (maps xs)

pub option_kept : (t : Option LuaString) → option_bytes (Option.map kept_string t) ≡ option_bytes t
option_kept none = refl
option_kept (some t) = refl

constant-kept : (c : ConstantValue) → constant_bytes (kept_constant c) ≡ constant_bytes c
constant-kept nil = refl
constant-kept (boolean b) = refl
constant-kept (integer n) = refl
constant-kept (float n) = refl
constant-kept (short_string t) = refl
constant-kept (long_string t) = refl

pub behind-kept : (source : Option LuaString) (p : Prototype) (nested : Bytes) → behind_source (kept_function source p) nested ≡ behind_source p nested
unfolding behind_source
behind-kept source p nested =
    rw (list_kept constant_bytes kept_constant constant-kept p.constants, list_kept local_bytes kept_local (λ x. refl) p.loc_vars, list_kept option_bytes (Option.map kept_string) option_kept p.upvalue_names_lem)

nested_kept : (ps : List Prototype) (later : List Bytes) → foldr nest later (map kept_nested ps) ≡ foldr nest later ps
nested_kept [] later = refl
nested_kept (p ∷ ps) later = rw (nested_kept ps later, behind-kept none p (flatten (take p.protos (foldr nest later ps))))

pub functions-kept : (ps : List Prototype) → functions_bytes (kept_functions ps) ≡ functions_bytes ps
functions-kept [] = refl
functions-kept (p ∷ ps) = rw (nested_kept ps [], option_kept p.source_name, behind-kept (Option.map kept_string p.source_name) p (flatten (foldr nest [] ps)))

pub upvalues-kept : (ps : List Prototype) → upvalues_of_main (kept_functions ps) ≡ upvalues_of_main ps
upvalues-kept [] = refl
upvalues-kept (p ∷ ps) = refl
