pub mod Lanes
pub mod Chunk
