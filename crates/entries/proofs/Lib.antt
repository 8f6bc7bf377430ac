-- Proofs: nobody needs to read these to know what holds.
mod Fitting
mod Tails
mod Picks
mod Seeking
mod Going
