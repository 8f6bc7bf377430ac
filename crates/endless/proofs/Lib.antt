-- Proofs: nobody needs to read these to know what holds.
pub mod Later
pub mod Listing
pub mod Theorems
pub mod Chain
pub mod Marked
mod Hung
mod Steps
