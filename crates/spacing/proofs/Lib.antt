-- Proofs: nobody needs to read these to know what holds.
pub mod Later
mod Seeking
mod Called
pub mod Theorems
pub mod ByNumber
pub mod Marked
