-- What the reader and the writer owe together. No definition here says what a call answers; those are
-- form's Form and Answer.
--   Sound      what the layers above may count on in the body of an accepted form
--   Read       the reader's answer, and the body of an accepted form
--   Trips      what is read writes back, what is written reads back, over any answers that meet the promises
--   Example    the trainer's body of document 01 goes through
--   Front      the first 3,682 bytes of any input decide how it is judged and read; an accepted form has at most 3,665
--   Refusals   which refusals the reader and the writer can give
--   Unique     one answer and one content of the lent bytes for each call; bodies that are the same up to their counts
-- The rest is their proof, in the folder laying but for Acceptance: numbers and bytes (Digits), one record of each kind
-- (Kinds), filled arrays (Filled), acceptance record by record (Acceptance), bytes laid out record by record (Laid),
-- and the two trips over bytes and bodies (WriteBack, ReadBack).
pub mod laying
pub mod Acceptance
pub mod Sound
pub mod Read
pub mod Unique
pub mod Refusals
pub mod Front
pub mod Trips
pub mod Example
-- The files of laying are named from here too, without their folder.
pub use Rattle.roundtrip.specs.laying.Digits
pub use Rattle.roundtrip.specs.laying.Kinds
pub use Rattle.roundtrip.specs.laying.Filled
pub use Rattle.roundtrip.specs.laying.Laid
pub use Rattle.roundtrip.specs.laying.WriteBack
pub use Rattle.roundtrip.specs.laying.ReadBack
