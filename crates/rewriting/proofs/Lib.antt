-- Proofs: nobody needs to read these to know what holds.
mod Called
pub mod OneForm
pub mod Theorems
