-- What a reader must believe of judging: the rows, the shared period, the five tests, the first task named, the verdict.
pub mod Rows
pub mod Periods
pub mod Demands
pub mod Verdicts
pub mod Ranges
pub mod Search
pub mod Passes
