-- Proofs: nobody needs to read these to know what holds.
pub mod Decimals
mod Putting
mod Parts
pub mod Lengths
pub mod Theorems
