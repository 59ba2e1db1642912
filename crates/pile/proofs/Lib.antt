pub mod Fresh
pub mod Results
