-- What a reader must believe of the state: the empty one, what a sound state is, the calls, the state of a table, and what reading one
-- hands back.
pub mod States
pub mod Sound
pub mod Calls
pub mod Tables
pub mod Reading
