-- The laws of the boundary.
pub mod ByteParts
pub mod LoadCases
pub mod PlayLaws
