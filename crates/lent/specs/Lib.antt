-- Bytes put into lent memory behind what stands there.
pub mod Adding
pub mod Filled
