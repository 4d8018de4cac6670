-- What a reader must believe of Linux lists: a record, reading, and writing.
pub mod Attrs
pub mod Lists
pub mod Writing
