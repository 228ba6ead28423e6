-- What the proofs of several functions share.
pub mod Blocks
pub mod Turns
