pub mod Constants
pub mod Examples
pub mod WholeFile
