-- What is shown of a local variable, and what is written into the lent space.
use Rattle.std.specs.Prelude.{Result, Ok, Err}
use Rattle.format.specs.declared.refusal.Refusal.{Refusal}
use Rattle.show_local.specs.declared.LocalShown.{LocalShown}
use Rattle.std.specs.Prelude.{cond, ℕ, leb, length}
use Rattle.format.specs.declared.refusal.Refusal.TheVariants.{LentSpace}
use Rattle.format.specs.Form.{Bytes}
use Rattle.format.specs.Reading.{LocalVar}
use Rattle.slice.specs.Over.{over}
use Rattle.show_row.specs.Asked.{Asked, found, refused}

-- `space` is how much is lent
abbrev pub shown_local : ℕ → Asked LocalVar → Result LocalShown Refusal
shown_local space (found l) = cond (leb (length l.name.bytes) space) (Ok (record { name_len = length l.name.bytes; startpc = l.startpc; endpc = l.endpc })) (Err LentSpace)
shown_local space (refused q) = Err q

-- the name, and beyond it what was there; on a refusal all is what was there
abbrev pub name_written : Bytes → Asked LocalVar → Bytes
name_written old (found l) = over l.name.bytes old
name_written old (refused q) = old
