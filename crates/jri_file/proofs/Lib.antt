pub mod EachPicture
pub mod Faults
pub mod InputFile
pub mod Longer
pub mod OneText
