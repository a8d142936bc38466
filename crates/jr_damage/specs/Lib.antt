pub mod Damage
pub mod Lines
pub mod Verdicts
pub mod Coded
pub mod Map
pub mod Offsets
pub mod Doubtful
pub mod Fronts
