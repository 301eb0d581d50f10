-- The code and the place of each warning (header.rs L54-HEADER-003, chunk.rs L54-CHUNK-001).
use Rattle.format.specs.declared.header.Warning.{Warning}
use Rattle.format.specs.declared.header.Warning.TheVariants.{NonStandardFormat, TrailingBytes}
use Rattle.format.specs.declared.header.WarningCode.TheVariants.{L54Header003, L54Chunk001}
use Rattle.format.specs.declared.header.WarningReport.{WarningReport}

abbrev pub warned : Warning → WarningReport
warned (NonStandardFormat place) = record { code = L54Header003; place = place }
warned (TrailingBytes place) = record { code = L54Chunk001; place = place }
