-- Proofs: nobody needs to read these to know what holds.
pub mod Steps
pub mod Next
mod Took
mod Moving
mod Underway
