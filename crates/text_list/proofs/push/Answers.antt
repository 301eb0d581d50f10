-- `text_list::push` meets its contract: a number is stored where there is room, and nothing else. Assumes nothing.
use mathlib.Core.Path.{refl}
use native.Mathlib.Omega.{arith}
use Rattle.text_list.proofs.push.Goals as goal

pub returns-then-at-lt-ROOM : goal.returns-then-at-lt-ROOM
returns-then-at-lt-ROOM c = let t = c.if-at-lt-ROOM.true in
    record { value = λ h. (refl, refl); value_2 = λ h. absurd (omega (arith, h, t)) }

pub returns : goal.returns
returns c = let t = c.if-at-lt-ROOM.false in
    record { value = λ h. absurd (omega (arith, h, t)); value_2 = λ h. (refl, refl) }
