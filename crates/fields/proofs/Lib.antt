-- The laws of numbers in bytes and of records one behind the other, over the width, which the functions here and the crates above cite.
pub mod ByteLaws
pub mod PartLaws
