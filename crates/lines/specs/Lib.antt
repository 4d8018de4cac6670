-- What a reader must believe of the printed lines.
pub mod Lines
