-- What a reader must believe of the checking program's answer.
pub mod Report
