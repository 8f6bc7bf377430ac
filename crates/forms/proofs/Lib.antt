-- Proofs: nobody needs to read these to know what holds.
pub mod Cases
pub mod Lengths
pub mod Rows
mod Called
pub mod Theorems
