pub mod Keeping
pub mod Saves
pub mod Sound
pub mod Settled
pub mod Exactly
pub mod Beyond
