-- The theorems that rest on specs/Run: how wide runs are and what they cost (runs), and document 01's worked example.
pub mod runs
pub mod Example
-- The theorems' files are named from here too, without their folder.
pub use Rattle.theory.proofs.runs.RunWide
pub use Rattle.theory.proofs.runs.Bound
pub use Rattle.theory.proofs.runs.RowBound
