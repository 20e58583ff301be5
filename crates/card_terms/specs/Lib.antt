pub mod Words
pub mod Results
pub mod Reading
pub mod ItemLaws
pub mod StandLaws
pub mod ReduceLaws
pub mod CloseLaws
pub mod StepLaws
