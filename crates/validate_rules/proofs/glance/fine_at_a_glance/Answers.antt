-- `validate_rules::glance::fine_at_a_glance` meets its contract: by the two tests, at the opcode's class. Assumes nothing.
use mathlib.Core.Path.{sym, ◌∙◌}
use borrow.Author.Tests.{ltb-true}
use Rattle.validate_rules.proofs.Glances.{at_a_glance}
use Rattle.validate_rules.proofs.glance.fine_at_a_glance.Goals as goal

pub returns-then-word-registers : goal.returns-then-word-registers
returns-then-word-registers c =
    λ function b pc of-a of_mask of-limit e.
    at_a_glance c.args.word b pc function _ (sym c.from_u8.ensures ∙ c.in-Some.is) _ c.class_of-class.ensures.0 _ _ _ of-a of_mask of-limit (c.if-word-registers.true, ltb-true _ _ e)
