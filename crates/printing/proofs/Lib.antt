-- Proofs: nobody needs to read these to know what holds.
mod Refused
mod Answering
pub mod Theorems
