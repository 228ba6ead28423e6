-- What the sets are of a body (Local, Found: trusted), and that a sound body's words can be joined (Worded).
pub mod Local
pub mod Found
pub mod Worded
