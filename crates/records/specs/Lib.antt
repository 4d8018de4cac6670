-- What a reader must believe of one record of an image.
pub mod Records
