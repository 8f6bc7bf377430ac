-- Proofs: nobody needs to read these to know what holds.
mod Halves
pub mod Theorems
