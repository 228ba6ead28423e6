-- The two machines of pairs in conflict (theorem 3).
pub mod Steps
pub mod Edges
pub mod Backward
pub mod Forward
pub mod Listing
pub mod Pairwise
