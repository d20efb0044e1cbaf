pub mod Names
pub mod FrameWords
pub mod EndToEndLemmas
pub mod Shown
pub mod SoundWorlds
pub mod ReadingLemmas
pub mod ReportLemmas
pub mod RunReports
