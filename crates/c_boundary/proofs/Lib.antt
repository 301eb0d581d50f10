pub mod NumberCases
pub mod Calls
pub mod Complement
pub mod Numbers
pub mod Admitted
