-- What the contracts of `local_of` and of the functions below it say, and what their proofs share. The sets
-- themselves are sets' Local.
pub mod Parts
pub mod Uniqueness
