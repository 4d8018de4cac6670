-- What a reader must believe of numbers in bytes, and of records one behind the other.
pub mod Fields
pub mod Parts
