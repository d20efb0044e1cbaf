-- what happens
pub mod Outcomes
-- what is read and written
pub mod Forms
pub mod Headers
pub mod EventLines
pub mod Steps
pub mod Scripts
pub mod Faults
pub mod ReportLines
pub mod Reports
-- how contracts describe a world
pub mod EndToEnd
pub mod Ends
pub mod Worlds
pub mod Effects
