pub mod Sorting
pub mod SortLaws
pub mod Results
pub mod ResultLaws
