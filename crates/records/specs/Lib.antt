-- What a step along the records of a form is.
pub mod Steps
