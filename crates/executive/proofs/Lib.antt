-- The laws of the state and of the calls, which the crates above cite.
pub mod LookupLaws
pub mod CallLaws
pub mod SoundLaws
pub mod RunLaws
pub mod TableLaws
pub mod ReadingLaws
