pub mod Poller
pub mod Record
pub mod Hearing
