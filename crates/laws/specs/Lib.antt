-- The laws that the crates above share; nothing of forms.
pub mod Terms
pub mod Tests
pub mod Orders
pub mod Lists
pub mod Sets
pub mod Rows
pub mod Whole
pub mod Signed
pub mod Complement
pub mod Sums
