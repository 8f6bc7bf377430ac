-- Proofs: nobody needs to read these to know what holds.
pub mod ByKind
mod Building
pub mod Differing
pub mod Turns
pub mod Theorems
