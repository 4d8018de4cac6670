-- What it is for a contract to be tight.
pub mod Tight
