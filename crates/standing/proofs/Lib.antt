-- Proofs: nobody needs to read these to know what holds.
pub mod Turns
pub mod Smallest
pub mod Theorems
pub mod OnePaper
pub mod Marked
