-- Of the exported calls: that each promise leaves one answer (Uniqueness), and demand 3 (Demand).
pub mod Uniqueness
pub mod Demand
