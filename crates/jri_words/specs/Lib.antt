pub mod CommandLine
pub mod Quality
pub mod Images
pub mod Status
