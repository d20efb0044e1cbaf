-- Begin with `Program`: the text and the exit status for each tool and input. After it come, in this order, the command
-- line; the four texts, each before what it is made of; the laws of transcripts; and what is read and written.
pub mod Program
pub mod CommandLine
pub mod Show
pub mod Simulate
pub mod Check
pub mod Record
pub mod Recordings
pub mod Transcript
pub mod Judging
pub mod TranscriptLaws
pub mod InputFaults
pub mod Streams
