-- What the contracts of `line` say of a buffer of n bytes.
use Rattle.std.specs.Prelude.{ℕ, ◌≤◌}
use Rattle.text_line.specs.declared.Lines.{Lines}
use Rattle.text_line.specs.declared.Found.{Found}
use Rattle.text_line.specs.declared.Found.TheVariants.{Line, Nothing, End}
use Rattle.text_line.specs.declared.Step.{Step}

pub record Held (l : Lines) (n : ℕ) : Type 0 where
  pub begun : l.start ≤ l.seen
  pub scanned : l.seen ≤ l.end
  pub within : l.end ≤ n

-- a line lies inside
abbrev pub Inside : Found → ℕ → Type 0
Inside (Line from to) n = (from ≤ to) × (to ≤ n)
Inside Nothing n = Unit {0}
Inside End n = Unit {0}

pub record Within (s : Step) (n : ℕ) : Type 0 where
  pub inside : Inside s.found n
  pub held : Held s.rest n
