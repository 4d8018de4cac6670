-- What is shown of the whole executive: the proofs. `Shown` has the demands.
pub mod CaseLaws
pub mod Exactly
pub mod FirstLaws
pub mod Judged
pub mod Listed
pub mod LoadedWhen
pub mod Numbers
pub mod PlayedCases
pub mod ReadingWhen
pub mod Replay
pub mod Shown
pub mod ShutOut
pub mod Spanned
pub mod Undone
