pub mod Checks
pub mod Frames
pub mod Octets
pub mod Detection
pub mod Bits
pub mod Laws
pub mod Lengths
