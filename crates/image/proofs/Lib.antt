-- The laws of loading and writing, and the round trips.
pub mod FrontLaws
pub mod LoadLaws
pub mod WriteLaws
pub mod GrowLaws
pub mod ReplayLaws
pub mod RoundTrips
pub mod BenchLines
