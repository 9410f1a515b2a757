pub mod Chunk
pub mod Store
