pub mod RoundingLaws
pub mod ConversionLaws
pub mod Saying
pub mod RangeLaws
pub mod StepTests
pub mod Computed
