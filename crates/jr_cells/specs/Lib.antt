pub mod Count
pub mod Draws
pub mod Notes
pub mod SightValue
pub mod Sights
pub mod StripCellsValue
pub mod StripSights
pub mod Values
