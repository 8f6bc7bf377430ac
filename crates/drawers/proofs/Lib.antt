-- Proofs: nobody needs to read these to know what holds.
mod Steps
pub mod Theorems
