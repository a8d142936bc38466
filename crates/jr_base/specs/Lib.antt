pub mod Blocks
pub mod Fill
pub mod Numbers
pub mod Tally
pub mod Zigzag
