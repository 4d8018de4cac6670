-- The laws of the printed lines.
pub mod LineLaws
