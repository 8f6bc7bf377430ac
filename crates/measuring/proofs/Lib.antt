-- Proofs: nobody needs to read these to know what holds.
mod Signed
pub mod Theorems
