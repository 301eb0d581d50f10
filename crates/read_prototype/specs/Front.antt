-- The front of a function, as a reader. (`proofs/Flat.antt`: the reader of a function is made of these.)
use Rattle.std.proofs.Math.Option.{Option}
use Rattle.std.specs.Prelude.{ℕ}
use Rattle.format.specs.GrammarFields.{LuaString}
use Rattle.format.specs.Read.{Reader, next, ◌>>=◌, ◌>>◌, give}
use Rattle.format.specs.ReadFields.{byte, number, string}
use Rattle.read_prototype.specs.declared.front.Lines.{Lines}
use Rattle.read_prototype.specs.declared.front.Sizes.{Sizes}

abbrev pub lines : Reader Lines
lines = do
  line_defined ← number
  last_line_defined ← number
  give (record { line_defined = line_defined; last_line_defined = last_line_defined })

abbrev pub sizes : Reader Sizes
sizes = do
  numparams ← byte
  is_vararg ← byte
  maxstacksize ← byte
  give (record { numparams = numparams; is_vararg = is_vararg; maxstacksize = maxstacksize })

pub record Front : Type 0 where
  pub source : Option LuaString
  pub lines : Lines
  pub sizes : Sizes

abbrev pub front : ℕ → Reader Front
front limit = do
  source ← string limit
  between ← lines
  three ← sizes
  give (record { source = source; lines = between; sizes = three })
