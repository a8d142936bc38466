pub mod Appending
pub mod Orders
