pub mod DecodedPictures
pub mod Exactness
pub mod Pictures
