pub mod Block
pub mod Step
pub mod Mcus
pub mod Shift
