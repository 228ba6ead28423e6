-- The report: what is printed (Report, trusted), that it is one text for every input and depends on the front of it
-- alone (Promise), and the laws that the proofs share.
pub mod Report
pub mod Parts
pub mod Promise
