-- The report's lines: what they say (Lines, trusted), and how the functions leave them in the lent bytes (Parts).
pub mod Lines
pub mod Parts
