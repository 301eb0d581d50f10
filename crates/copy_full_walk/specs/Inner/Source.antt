-- A function's source in a full copy, by the places at which it and its parent's are spelt.
--     written own parent       whether what is spelt is written
--     source_of                 that, and where the source is spelt that those in it inherit
use Rattle.std.specs.Prelude.{Bool, false, not, ℕ}
use Rattle.std.proofs.Math.Option.{Option, none, some}
use Rattle.format.specs.Form.{Bytes}
use Rattle.format.specs.GrammarFields.{LuaString}
use Rattle.format.specs.FullCopy.{equal_sources}
use Rattle.read_field.specs.Shown.{option_string}
use Rattle.read_prototype.specs.Inner.Counts.{is_spelt}
use Rattle.read_walk.specs.Inner.Source.{source_at, unpadded_at, handed}
use Rattle.copy_full_walk.specs.declared.source.Source.{Source}

abbrev pub written : Option LuaString → Option LuaString → Bool
written none parent = false
written (some t) parent = not (equal_sources (some t) parent)

abbrev pub source_of : ℕ → Bytes → ℕ → ℕ → Source
source_of limit s at parent = record { own = handed (is_spelt (option_string (source_at limit s at))) (unpadded_at s at) parent; written = written (source_at limit s at) (source_at limit s parent) }
