-- Places counted in lent memory: four numbers.
--     of_number padded      how a number is spelt
--     counts t             the spelling that they are
--     Between a at to      of each sort at most as many as there are bytes from the one place to the other
--     Room t at            at most as many as there are bytes before a place
--     Fits a b             the counts of two parts can be added: what `add` asks
--     Adds o n t t'        where o was read, t' has n more than t; of what was refused nothing is said
use Rattle.std.specs.Prelude.{◌≡◌, Bool, cond, List, ℕ, ◌+◌, ◌^◌, ◌≤◌, ◌<◌, get_or}
use Rattle.format.specs.declared.spelling.Spelling.{Spelling}
use Rattle.format.specs.Form.{Bytes}
use Rattle.format.specs.Read.{Read, ok}
use Rattle.format_spelling.specs.Spelling.{◌⊕◌}

abbrev pub of_number : Bool → Spelling
of_number padded = record { padded = cond padded 1 0; filled = 0; sources = 0; repeated = 0 }

abbrev pub counts : List ℕ → Spelling
counts t = record { padded = get_or t 0 0; filled = get_or t 1 0; sources = get_or t 2 0; repeated = get_or t 3 0 }

pub record Between (a : Spelling) (at to : ℕ) : Type 0 where
  pub padded : at + a.padded ≤ to
  pub filled : at + a.filled ≤ to
  pub sources : at + a.sources ≤ to
  pub repeated : at + a.repeated ≤ to

pub record Room (t : List ℕ) (at : ℕ) : Type 0 where
  pub room : Between (counts t) 0 at

pub record Fits (a b : Spelling) : Type 0 where
  pub padded : a.padded + b.padded < 2 ^ 64
  pub filled : a.filled + b.filled < 2 ^ 64
  pub sources : a.sources + b.sources < 2 ^ 64
  pub repeated : a.repeated + b.repeated < 2 ^ 64

pub record Adds {A : Type 0} (o : Read A) (n : Spelling) (t t' : List ℕ) : Type 0 where
  pub adds : {x : A} {to : ℕ} {rest : Bytes} → o ≡ ok x to rest → counts t' ≡ counts t ⊕ n
