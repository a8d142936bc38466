pub mod Cut
pub mod PartialCut
pub mod ImageEnd
pub mod PartialSegments
pub mod Coded
pub mod Spans
pub mod UnstuffingValue
