-- That every row of the table (specs/Table) has what is claimed of it.
pub mod Marked
