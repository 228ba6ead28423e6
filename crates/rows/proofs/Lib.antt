-- Lemmas of rows' proofs: exits and their numbers.
mod Ways
