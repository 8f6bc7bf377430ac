-- Proofs: nobody needs to read these to know what holds.
pub mod Theorems
pub mod Outcomes
