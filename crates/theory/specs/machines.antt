-- For any machine: rows by insertion (theorem 1), the walk (theorem 2), and the lists of Route that they come to.
pub mod Machine
pub mod RowLaws
pub mod Table
pub mod Walk
pub mod Passes
