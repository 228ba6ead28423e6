-- Entries as the code has them and as the theory has them (Structs), and rows of them (Entries).
pub mod Structs
pub mod Entries
