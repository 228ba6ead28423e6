-- The trusted definitions of the exported calls' answers (Answer), and what is said with any number of a refusal (Told).
pub mod Answer
pub mod Told
