-- Readers that `format`'s are made of: a local variable with its name as it is spelt, and parts of `body`.
use Rattle.std.proofs.Math.Option.{Option}
use Rattle.std.specs.Prelude.{ℕ, ◌+◌}
use Rattle.format.specs.declared.refusal.Refusal.TheVariants.{Instructions, TotalInstructions, Prototypes}
use Rattle.format.specs.GrammarFields.{LuaString}
use Rattle.format.specs.GrammarChunk.{Listed}
use Rattle.format.specs.Read.{Reader, ◌>>=◌, ◌>>◌, give, here, at_most, run, many}
use Rattle.format.specs.ReadFields.{field, number, string}

-- ## A local variable
-- its name, if it has one, and the place behind the name
pub record RawLocal : Type 0 where
  pub name : Option LuaString
  pub behind : ℕ
  pub startpc : ℕ
  pub endpc : ℕ

abbrev pub raw_local : ℕ → Reader RawLocal
raw_local limit = do
  name ← string limit
  behind ← here
  startpc ← number
  endpc ← number
  give (record { name = name; behind = behind; startpc = startpc; endpc = endpc })

-- how many functions nest in one, and the place behind that number
pub record Count : Type 0 where
  pub count : ℕ
  pub place : ℕ

abbrev pub protos_count : ℕ → Reader Count
protos_count limit = do
  first ← here
  protos ← number
  at_most protos limit (Prototypes first)
  place ← here
  give (record { count = protos; place = place })

-- ## Lists
abbrev pub code : ℕ → ℕ → ℕ → Reader (Listed ℕ)
code per-proto before total = do
  first ← here
  size ← number
  at_most size per-proto (Instructions first)
  at_most (before + size) total (TotalInstructions first)
  place ← here
  words ← many size (field 4)
  give (record { place = place; items = words })

abbrev pub line_info : Reader (Listed ℕ)
line_info = do
  size ← number
  place ← here
  deltas ← run size
  give (record { place = place; items = deltas })
