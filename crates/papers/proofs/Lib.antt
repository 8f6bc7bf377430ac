-- Proofs: nobody needs to read these to know what holds.
pub mod Answered
pub mod Below
pub mod Turning
pub mod Theorems
