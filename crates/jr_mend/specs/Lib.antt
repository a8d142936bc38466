pub mod Choice
pub mod Copies
pub mod Combined
pub mod Mended
pub mod Splice
pub mod Markers
pub mod Resync
pub mod Reading
