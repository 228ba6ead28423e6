-- The trusted definitions of the lower layer (Said, Form, Answer, Relation, Counter, Conflict), that what is said leaves
-- one answer (Refusals, OneCase), and the laws that its proofs share (Records, Kinds, Zeros, Filling, Laying, Writing).
pub mod Said
pub mod Form
pub mod Answer
pub mod Refusals
pub mod Relation
pub mod Counter
pub mod Conflict
pub mod Records
pub mod Kinds
pub mod Zeros
pub mod Filling
pub mod Laying
pub mod OneCase
pub mod Writing
