-- `validate_search::search::function_left` meets its contract: whether there is a next function. Assumes nothing.
use Rattle.validate_search.proofs.Laws.{any-groups}
use Rattle.validate_search.proofs.search.function_left.Goals as goal

pub returns : goal.returns
returns c = rw (any-groups, c.any_function.ensures)
