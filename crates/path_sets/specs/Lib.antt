-- What the contracts of the functions below `find` and `sets_of` say, and what the proofs share. What is found is
-- sets' Found.
pub mod Parts
pub mod Leading
pub mod Turning
pub mod Finding
pub mod Uniqueness
