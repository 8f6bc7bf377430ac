-- Proofs: nobody needs to read these to know what holds.
pub mod Values
pub mod Rows
