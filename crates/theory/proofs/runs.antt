-- Runs: how wide they are, what they cost at most (theorem 5), and that bound by the weight in row 0.
pub mod RunWide
pub mod Bound
pub mod RowBound
