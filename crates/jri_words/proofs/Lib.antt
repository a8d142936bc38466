pub mod CommandLemmas
pub mod StepLemmas
