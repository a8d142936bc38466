pub mod DamagedLines
pub mod Doubts
pub mod InStep
pub mod Names
pub mod Outcomes
pub mod Records
pub mod Status
pub mod Reporting
