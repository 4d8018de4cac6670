-- The laws of the table's definitions, which the crates above cite.
pub mod RefusalLaws
pub mod SumLaws
pub mod PlaceLaws
pub mod OrderLaws
