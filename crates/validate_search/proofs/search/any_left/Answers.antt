-- `validate_search::search::any_left` meets its contract: an instruction is left, or else it is as many functions as are left. Assumes nothing.
use Rattle.validate_search.proofs.Laws.{code-end, any-code}
use Rattle.validate_search.proofs.search.any_left.Goals as goal

pub returns-then-bounds-code : goal.returns-then-bounds-code
returns-then-bounds-code c = let a = c.args.p.code in
    rw (code-end _ a.bounds a.function a.place.at a.pc c.if-bounds-code.true) c.function_left.ensures

pub returns-then-is_ok : goal.returns-then-is_ok
returns-then-is_ok c = let a = c.args.p.code in
    rw (any-code _ a.bounds a.function a.place.at a.pc _ c.if-bounds-code.false, ← c.read_u32_le.ensures, ← c.is_ok.ensures.value, c.if-is_ok.true)

pub returns-else-is_ok : goal.returns-else-is_ok
returns-else-is_ok c = let a = c.args.p.code in
    rw (any-code _ a.bounds a.function a.place.at a.pc _ c.if-bounds-code.false, ← c.read_u32_le.ensures, ← c.is_ok.ensures.value, c.if-is_ok.false)
    c.function_left-else-is_ok.ensures
