pub mod ModerateBlocks
