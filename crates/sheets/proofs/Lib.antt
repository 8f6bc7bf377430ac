-- Proofs: nobody needs to read these to know what holds.
pub mod Rest
pub mod Bodies
pub mod Lengths
pub mod Called
