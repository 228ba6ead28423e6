-- The marked cases of document 01: the table with its claim (Table, trusted). proofs/Marked has the proof.
pub mod Table
