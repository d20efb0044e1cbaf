-- In reading order: the lines of entries and of items; the lines of commands, of answers and of
-- frames; what a poller heard.
pub mod EntryLines
pub mod CommandLines
pub mod AnswerLines
pub mod FrameLines
pub mod FurtherLines
pub mod HeardWords
