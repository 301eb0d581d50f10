-- A local variable of its name as it is spelt, and how many instructions there are, as readers.
use Rattle.std.specs.Prelude.{[], ◌∷◌, ℕ, ◌+◌}
use Rattle.std.proofs.Math.Option.{get_or}
use Rattle.format.specs.declared.refusal.Refusal.{Refusal}
use Rattle.format.specs.declared.refusal.Refusal.TheVariants.{Instructions, TotalInstructions}
use Rattle.format.specs.Reading.{LocalVar}
use Rattle.format.specs.Read.{Reader, ◌>>=◌, ◌>>◌, give, here, at_most}
use Rattle.format.specs.ReadFields.{number}
use Rattle.read_entry.specs.Readers.{RawLocal}

-- an absent name reads as `?`
abbrev pub named : RawLocal → LocalVar
named l = record { name = get_or l.name (record { place = l.behind; bytes = 63 ∷ [] }); startpc = l.startpc; endpc = l.endpc }

-- ## Counts
abbrev pub count_up_to : ℕ → Refusal → Reader ℕ
count_up_to limit refusal = do
  n ← number
  at_most n limit refusal
  give n

-- how many instructions, behind `before` of the functions before
abbrev pub code_count : ℕ → ℕ → ℕ → Reader ℕ
code_count per-proto before total = do
  first ← here
  size ← count_up_to per-proto (Instructions first)
  at_most (before + size) total (TotalInstructions first)
  give size
