-- `validate_search::scan::code_end` meets its contract: by how many words are there. Assumes nothing.
use native.Mathlib.Omega.{arith}
use Prim.Native.Nat.{◌-◌, ◌/◌}
use Rattle.validate_search.proofs.Laws.{code-there}
use Rattle.validate_search.proofs.scan.code_end.Goals as goal

pub returns-then-size-c : goal.returns-then-size-c
returns-then-size-c c = let a = c.args in omega (arith, code-there a.s.now a.c 0 (omega arith) (omega arith) (λ h. omega (arith, c.if-size-c.true)))

pub returns-then-there-size : goal.returns-then-there-size
returns-then-there-size c = let a = c.args in
    omega (arith, code-there a.s.now a.c (c.remaining-there.result / 4) (omega arith) (omega (arith, c.remaining-there.ensures)) (λ h. omega (arith, c.remaining-there.ensures)))

pub returns : goal.returns
returns c = let a = c.args in
    omega (arith, code-there a.s.now a.c (a.c.bounds.instructions - a.c.pc) (omega arith) (omega (arith, c.if-there-size.false, c.remaining-there.ensures)) (λ h. omega arith))
