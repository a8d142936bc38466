pub mod MorePixels
pub mod Canvases
pub mod Vectors
