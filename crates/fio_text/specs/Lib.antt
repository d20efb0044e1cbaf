-- what is read
pub mod Lines
pub mod Words
pub mod Hexadecimal
pub mod FirstFaults
-- what is written
pub mod Digits
pub mod LineFaults
