pub mod TestLaws
pub mod FramingLaws
pub mod FrameLaws
pub mod TableLaws
pub mod QuantiserLaws
pub mod HuffmanTableLaws
pub mod SegmentLaws
