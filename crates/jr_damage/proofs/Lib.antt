mod Rows
mod Skipping
pub mod FirstSegments
mod Verdicts
pub mod FoundBytes
pub mod Doubts
pub mod Examined
pub mod EachFile
