-- The warning of a header, as the code has it.
use Rattle.std.specs.Prelude.{Option, Some, None}
use Rattle.std.specs.Prelude.{List, [], ◌∷◌}
use Rattle.format.specs.declared.header.Warning.{Warning}

-- the header has at most one warning
abbrev pub first_warning : List Warning → Option Warning
first_warning [] = None
first_warning (w ∷ ws) = Some w
