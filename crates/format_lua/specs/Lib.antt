pub mod Lundump
pub mod Ldump
pub mod LundumpFunctions
pub mod LundumpWithin
pub mod LdumpFunctions
