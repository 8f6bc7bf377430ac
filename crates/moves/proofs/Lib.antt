-- Proofs: nobody needs to read these to know what holds.
mod Stepping
pub mod Theorems
