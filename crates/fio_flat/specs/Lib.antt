pub mod Faults
pub mod Written
pub mod Hearing
pub mod Module
pub mod Makers
