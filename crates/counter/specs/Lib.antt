-- The definitions that the contracts of the counter cite.
pub mod Answer
pub mod Relations
pub mod Uniqueness
pub mod Counts
