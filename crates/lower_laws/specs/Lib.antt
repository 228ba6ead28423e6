-- Laws of the relations of document 01, the count of a loop in closed form, and the laws of conditions, effects,
-- clean paths and the conflict list. No definition here is trusted.
pub mod Relations
pub mod Steps
pub mod Loops
pub mod Conditions
pub mod PairTest
pub mod Blocks
pub mod Endings
pub mod Effects
pub mod ConflictList
pub mod Listed
pub mod Joined
