-- The laws of one record, which the functions here and the crates above cite.
pub mod RecordLaws
