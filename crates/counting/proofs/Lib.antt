-- Proofs: nobody needs to read these to know what holds.
pub mod Held
pub mod Product
mod Runs
pub mod Marked
pub mod Theorems
