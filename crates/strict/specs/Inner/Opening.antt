-- What stands before main, by the stricter grammar: the header, and the byte behind it.
use Rattle.format.specs.GrammarHeader.{Headed}
use Rattle.format.specs.Read.{Reader, ◌>>=◌, give}
use Rattle.format.specs.ReadFields.{byte}
use Rattle.format_strict.specs.ReadStrict.{strict_header}

abbrev pub strict_opening : Reader Headed
strict_opening = do
  headed ← strict_header
  forgotten ← byte
  give headed
