-- The question of the pair test, and what its contract leaves.
pub mod Pair
pub mod Uniqueness
