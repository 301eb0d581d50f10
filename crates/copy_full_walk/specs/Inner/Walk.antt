-- The full copy's bytes of a function and of all that nest in it, by its parent's source.
use mathlib.Core.List.{List, [], ◌∷◌, ◌++◌, foldr}
use Rattle.std.proofs.Math.Option.{Option}
use Rattle.format.specs.Form.{Bytes}
use Rattle.format.specs.GrammarFields.{LuaString}
use Rattle.format.specs.Reading.{Prototype}
use Rattle.format.specs.Copy.{option_bytes, behind_source}
use Rattle.format.specs.FullCopy.{nested_source, all_within, full_nest}

abbrev pub full_bytes : Option LuaString → List Prototype → Bytes
full_bytes parent [] = []
full_bytes parent (p ∷ ps) = option_bytes (nested_source parent p.source_name) ++ behind_source p (all_within p.source_name (foldr full_nest [] ps))
