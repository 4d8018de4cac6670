-- The laws of decimal digits and of putting, which the crates above cite.
pub mod PutLaws
