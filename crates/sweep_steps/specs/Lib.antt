-- The sweep. Trusted: Answer; it leaves one answer (OneAnswer). The table of entries and the rows in it (Table, Beside),
-- one block's turn (Turn), all rows from the last block down (Drive), the answer (Ends).
pub mod Answer
pub mod OneAnswer
pub mod Table
pub mod Beside
pub mod Turn
pub mod Drive
pub mod Ends
