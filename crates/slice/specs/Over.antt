-- What lent memory holds after a call that writes at its front.
--     over new old     `new`, and behind it what stood there; where there is no room for it, all that stood there
use Rattle.std.specs.Prelude.{cond, List, ◌++◌, leb, length, drop}

abbrev pub over : {A : Type 0} → List A → List A → List A
over new old = cond (leb (length new) (length old)) (new ++ drop (length new) old) old
