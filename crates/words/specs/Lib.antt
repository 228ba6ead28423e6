-- What contracts over words say, and what their proofs share.
pub mod Tabled
pub mod Filled
pub mod Sorted
