-- Proofs: nobody needs to read these to know what holds.
mod Underway
mod Called
pub mod Theorems
pub mod Marked
