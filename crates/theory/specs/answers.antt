-- The answer of both ways over the two machines of a body (theorem 4), on paths and on words; what sets rows have.
pub mod Ways
pub mod Answer
pub mod Best
pub mod Ties
pub mod Words
pub mod WalkWords
pub mod RowSets
pub mod SweepWords
