-- Routes, tails, rows and runs. Trusted definitions, in reading order: Route, Row, Run. The theorems on runs, and
-- document 01's body as an example, are in proofs/: what rests on Run is not in specs/, so that an edit of Run is read.
pub mod Route
pub mod Row
pub mod Run
-- The definitions read as document 01 words them.
pub mod Readings
-- The theorems.
pub mod machines
pub mod pairs
pub mod answers
-- As the upper layer cites them.
pub mod Main
-- What the walks need of a body, as words; how large weights are.
pub mod Plan
pub mod PlanWays
pub mod Range
-- The theorems' files are named from here too, without their folder.
pub use Rattle.theory.specs.machines.Machine
pub use Rattle.theory.specs.machines.RowLaws
pub use Rattle.theory.specs.machines.Table
pub use Rattle.theory.specs.machines.Walk
pub use Rattle.theory.specs.machines.Passes
pub use Rattle.theory.specs.pairs.Steps
pub use Rattle.theory.specs.pairs.Edges
pub use Rattle.theory.specs.pairs.Backward
pub use Rattle.theory.specs.pairs.Forward
pub use Rattle.theory.specs.pairs.Listing
pub use Rattle.theory.specs.pairs.Pairwise
pub use Rattle.theory.specs.answers.Ways
pub use Rattle.theory.specs.answers.Answer
pub use Rattle.theory.specs.answers.Best
pub use Rattle.theory.specs.answers.Ties
pub use Rattle.theory.specs.answers.Words
pub use Rattle.theory.specs.answers.WalkWords
pub use Rattle.theory.specs.answers.RowSets
pub use Rattle.theory.specs.answers.SweepWords
