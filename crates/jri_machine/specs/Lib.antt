pub mod Escapes
pub mod Noted
pub mod Status
pub mod Steps
