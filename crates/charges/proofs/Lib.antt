-- The laws of counts, charges and loads, which the crates above cite.
pub mod ChargeLaws
