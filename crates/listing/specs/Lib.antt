-- The conflict list. Trusted: Answer. What a body's list answers in so much room (Room), from there to any form
-- (Answered), that the promise leaves one answer (Uniqueness), and which refusals there are (Refusals).
pub mod Answer
pub mod Room
pub mod Answered
pub mod Uniqueness
pub mod Refusals
