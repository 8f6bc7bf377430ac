-- Proofs: nobody needs to read these to know what holds.
pub mod Falling
pub mod Turning
pub mod Steps
