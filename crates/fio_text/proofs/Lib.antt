pub mod LineLemmas
pub mod FirstFaultLemmas
pub mod DigitLemmas
pub mod OctetLemmas
pub mod RoomLemmas
