pub mod DecodedScan
pub mod Samples
pub mod Headline
pub mod Exactness
pub mod Writing
