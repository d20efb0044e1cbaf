-- what happens
pub mod Link
-- what is claimed of every run
pub mod Frames
pub mod Pieces
pub mod Headline
pub mod Claims
pub mod Rounds
pub mod Rising
pub mod Restarts
pub mod Delivery
pub mod Settled
pub mod CpuRestarts
pub mod NewLevels
pub mod KeptUp
pub mod ForEach
pub mod WholeSince
pub mod StandardLinks
pub mod LostRounds
pub mod Pace
pub mod Rate
pub mod MovedScans
pub mod Sharpness
pub mod Instances
pub mod Sound
-- with answers of the module's maker
pub mod Answered
