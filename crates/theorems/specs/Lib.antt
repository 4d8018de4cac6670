-- What is shown of the whole executive: the statements.
pub mod Cases
pub mod Comes
pub mod Conditions
pub mod Demands
pub mod Histories
pub mod Lists
pub mod Loads
pub mod Spans
pub mod StandIns
pub mod Standings
pub mod Undo
pub mod Verdicts
pub mod When
