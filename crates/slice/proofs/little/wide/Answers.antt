-- `slice::little::wide` meets its contract: a byte is below 256. Assumes nothing.
use mathlib.Core.Path.{refl}
use borrow.Author.Rules.{rules}
use Rattle.slice.proofs.little.wide.Goals as goal

pub returns : goal.returns
returns c = (refl, search rules)
