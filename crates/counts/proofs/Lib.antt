-- Proofs: nobody needs to read these to know what holds.
mod Taking
mod ReadOn
pub mod Readings
pub mod Theorems
