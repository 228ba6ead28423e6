-- What the writer answers where the reader refuses the bytes laid out.
pub mod Away
