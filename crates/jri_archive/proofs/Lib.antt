pub mod Claims
pub mod Counting
pub mod Doubts
pub mod ListNames
pub mod NextNames
pub mod Undecoded
