-- What a reader must believe of the image: loading, writing, and which images are accepted. Fronts has what the loader's loop keeps on the way.
pub mod Loading
pub mod Fronts
pub mod Writing
pub mod Accepted
