-- Records and bodies as bytes: numbers and bytes, one record of each kind, filled arrays, bytes laid out record by
-- record, and the two trips.
pub mod Digits
pub mod Kinds
pub mod Filled
pub mod Laid
pub mod WriteBack
pub mod ReadBack
