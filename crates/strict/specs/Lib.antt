pub mod Shapes
pub mod Answer
pub mod Asked
