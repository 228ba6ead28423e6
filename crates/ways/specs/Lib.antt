-- What follows from the promises of both ways: an answer with a route and what it tells (Answered), each way's (Walk,
-- Sweep), and that the two agree (Agreement).
pub mod Answered
pub mod Walk
pub mod Sweep
pub mod Agreement
