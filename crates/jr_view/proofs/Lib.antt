pub mod PartialViews
pub mod Parts
pub mod Rows
pub mod Samples
pub mod Showing
pub mod Telling
pub mod Units
pub mod WholeViews
