-- In reading order: what the judge of a log is given of the lines that a reader reports; the lines of a right link; the verdicts of a reader.
pub mod ReportedLines
pub mod WrittenLogs
pub mod ReturnedVerdicts
