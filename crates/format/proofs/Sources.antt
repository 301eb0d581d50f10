-- Main has no parent: its source is what is spelt.
-- Assumes nothing.
use mathlib.Core.Path.{◌≡◌, refl}
use mathlib.Core.Option.{Option, none, some}
use Rattle.format.specs.GrammarFields.{LuaString}
use Rattle.format.specs.GrammarChunk.{inherit}

pub inherit-none : (t : Option LuaString) → inherit t none ≡ t
inherit-none none = refl
inherit-none (some t) = refl
