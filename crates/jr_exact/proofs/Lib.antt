pub mod Moderate
pub mod Parseval
