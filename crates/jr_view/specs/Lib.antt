pub mod ViewValue
pub mod Views
pub mod Parts
pub mod Reported
pub mod Lookers
pub mod PartialViews
