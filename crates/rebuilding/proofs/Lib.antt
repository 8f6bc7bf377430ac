-- Proofs: nobody needs to read these to know what holds.
mod Numbers
mod Called
mod Unchanged
pub mod Theorems
