-- What a word has past its bits.
pub mod Past
