-- `validate_search::search::search` meets its contract: by the laws of findings up to a number (`Laws.antt`). Assumes nothing.
use Rattle.validate_search.specs.Inner.Position.{code_left, row_groups, out_of}
use Rattle.validate_search.proofs.Laws.{limited-found, limited_fine, limited-none, limited_enter}
use Rattle.validate_search.proofs.search.search.Goals as goal

pub returns-in-Some : goal.returns-in-Some
unfolding out_of
returns-in-Some c =
    rw (
      c.loop-first.invariant,
      limited-found _ _ c.requires.0 _ _ (code_left _ c.in-Some.behind) c.in-Some.first c.in-Some.second
          (rw c.in-Some.is at c.scan.ensures),
      c.counted-n.ensures,
    )

pub returns-in_default-next_function : goal.returns-in_default-next_function
unfolding row_groups
returns-in_default-next_function c =
    let room = c.requires.0 in
    rw (
      c.loop-first.invariant,
      limited_fine _ _ room _ _ (rw c.in_default.is at c.scan.ensures),
      c.next_function.ensures.0,
      c.in_default-next_function.is,
      limited-none _ _ room,
    )

pub loop-first-preserved : goal.loop-first-preserved
loop-first-preserved c =
    let room = c.requires.0 in
    rw (
      c.loop-first.invariant,
      limited_fine _ _ room _ _ (rw c.in_default.is at c.scan.ensures),
      c.next_function.ensures.0,
      c.in-Some-next_function.is,
      limited_enter _ _ room,
      c.next_number-number.ensures,
      c.enter-code.ensures,
      c.go_down.ensures,
    )
