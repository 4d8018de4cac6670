-- What a reader must believe of the table: its entries, the refusals and their lists, tests over lists, places, and what is well formed.
pub mod Entries
pub mod Refusals
pub mod Sums
pub mod Places
pub mod WellFormed
