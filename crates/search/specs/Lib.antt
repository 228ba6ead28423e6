-- The full walk over a plan's words: the terms of its contracts (Terms), the laws of a turn (Laws).
pub mod Terms
pub mod Laws
