-- What a reader must believe of the boundary.
pub mod Boundary
