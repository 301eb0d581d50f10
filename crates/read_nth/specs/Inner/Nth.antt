-- The reader of the item of a list by its number: it passes over those before it.
use Rattle.std.specs.Prelude.{ℕ}
use Rattle.format.specs.Read.{Reader, ◌>>=◌, run, many}
use Rattle.format.specs.ReadFields.{byte}
use Rattle.format.specs.ReadChunk.{local}
use Rattle.read_entry.specs.Readers.{RawLocal, raw_local}

-- the reader of the item of that number
abbrev pub entry_at : {A : Type 0} → ℕ → Reader A → Reader A
entry_at n r = do
  before ← many n r
  r

-- of a run of bytes
abbrev pub byte_at : ℕ → Reader ℕ
byte_at n = do
  before ← run n
  byte

-- a local variable with its name as it is spelt
abbrev pub local_at : ℕ → ℕ → Reader RawLocal
local_at n limit = do
  before ← many n (local limit)
  raw_local limit
