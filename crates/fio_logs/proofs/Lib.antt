mod Senders
mod Reports
mod WrittenLogs
mod Examples
mod ReturnedVerdicts
