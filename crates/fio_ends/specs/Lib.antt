-- In reading order: the poller of a transcript; the transcript of a run; prompt runs; their records; the rules on content and
-- what they ask of a log; logs in which lines are lost; calls of both ends in C; both ends over lines; several stations on one
-- bus; logs with the answers of the module's maker; logs as the judge of a log gets them; logs with late answers, at the CPU's
-- end and at a tap; the stretches of the log of a module.
pub mod Pollers
pub mod Transcripts
pub mod PromptRuns
pub mod RunRecords
pub mod ContentRuns
pub mod ContentPremises
pub mod LinkLogs
pub mod RestartedLogs
pub mod Calls
pub mod Lines
pub mod LineRuns
pub mod Bus
pub mod BusRuns
pub mod SharedLines
pub mod AnsweredLogs
pub mod EventLogs
pub mod LateLogs
pub mod TapLogs
pub mod StretchLogs
pub mod StretchNumbers
