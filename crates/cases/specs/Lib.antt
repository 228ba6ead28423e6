-- Laws that the proofs of this crate share. It states nothing of its own.
pub mod Room
