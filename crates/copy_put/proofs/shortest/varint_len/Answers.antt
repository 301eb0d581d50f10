-- `copy_put::shortest::varint_len` meets its contract: by the table's rule (`Table.antt`). Assumes nothing.
use mathlib.Core.Path.{sym, ◌∙◌}
use native.Mathlib.Omega.{arith}
use borrow.Author.Rules.{rules}
use lib.Count.{leading_le}
use Rattle.copy_put.proofs.Table.{table_rule}
use Rattle.copy_put.proofs.shortest.varint_len.Goals as goal

pub length_at-requires : goal.length_at-requires
length_at-requires c = omega (arith, leading_le 64 c.args.v)

pub returns : goal.returns
returns c = let both = sym c.length_at.ensures ∙ table_rule c.args.v (search rules) in cc
