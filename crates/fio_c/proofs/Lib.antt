pub mod Appending
pub mod Found
pub mod Needs
pub mod Overwriting
pub mod TextLengths
pub mod Checkers
pub mod LogJudges
pub mod Decoded
pub mod CommandsGiven
pub mod AnswersGiven
pub mod GivenBack
mod Rings
mod Replies
pub mod Batches
pub mod BatchItems
pub mod LogParts
pub mod TakenLines
pub mod PartLaws
pub mod Returned
pub mod OtherLines
pub mod Lent
pub mod TakenOctets
