-- What is shown and put of the end of a function.
--     PutsTail o at l len l'   where the end of a function was read, its bytes, at a place
--     end_shown ..              the walk behind a function whose end is o
--     walk_of                   the walk alone, of what the code answers
use Rattle.std.specs.Prelude.{◌≡◌, ℕ, Result, Ok, Err}
use Rattle.format.specs.declared.refusal.Refusal.{Refusal}
use Rattle.format.specs.Form.{Bytes}
use Rattle.format.specs.Read.{Read, ok, refused}
use Rattle.slice.specs.Shown.{cursor_at}
use Rattle.read_walk.specs.declared.walk.Skimmed.{Skimmed}
use Rattle.read_prototype.specs.Parts.{Tail}
use Rattle.copy_put.specs.Inner.Put.{Put}
use Rattle.copy_parts.specs.declared.ends.Copied.{Copied}
use Rattle.copy_parts.specs.Inner.Parts.{tail_bytes}

pub record PutsTail (o : Read Tail) (at : ℕ) (l : Bytes) (len : ℕ) (l' : Bytes) : Type 0 where
  pub put : (t : Tail) (to : ℕ) (rest : Bytes) → o ≡ ok t to rest → Put (tail_bytes t) at l len l'

abbrev pub end_shown : Skimmed → Read Tail → Result Skimmed Refusal
end_shown nested (ok t to rest) = Ok (record { next = cursor_at to; number = nested.number; instructions = nested.instructions })
end_shown nested (refused q) = Err q

abbrev pub walk_of : Result Copied Refusal → Result Skimmed Refusal
walk_of (Ok k) = Ok k.walk
walk_of (Err q) = Err q
