-- Rows of entries: a step in front of a tail by the plan (Steps), a row's beginning (Begun), a row made of
-- its targets' rows (Rows), each choice of it on its own (Sides).
pub mod Steps
pub mod Begun
pub mod Rows
pub mod Sides
