pub mod Parts
pub mod Letters
pub mod Reading
pub mod Form
pub mod Laws
pub mod Report
