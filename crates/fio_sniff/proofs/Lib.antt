pub mod Empty
pub mod Pushed
