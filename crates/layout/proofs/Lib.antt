-- The bytes of a signed field.
pub mod Signed
