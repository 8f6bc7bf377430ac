-- Proofs: nobody needs to read these to know what holds.
pub mod Showing
mod First
mod NextInBook
mod NextInPapers
