pub mod Piece
pub mod Meant
pub mod Cuts
