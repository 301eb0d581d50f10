-- The version of the calls behind C, as include/lafzimdo.h has it (LAFZIMDO_VERSION): 1,000,000 * major + 1,000 * minor + patch.
use Rattle.std.specs.Prelude.{ℕ}

abbrev pub version : ℕ
version = 1000
