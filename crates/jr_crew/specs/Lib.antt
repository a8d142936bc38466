pub mod RowBuffer
pub mod RowValues
pub mod Crew
