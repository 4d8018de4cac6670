-- The laws of lists, which the functions here and the crates above cite.
pub mod InsertLaws
pub mod PlaceLaws
pub mod AttrLaws
pub mod ListLaws
pub mod WriteLaws
pub mod ListTrips
