-- The full walk. Trusted: Answer. From what is found to the answer (Ends).
pub mod Answer
pub mod Ends
