pub mod Speculating
