-- Proofs: nobody needs to read these to know what holds.
pub mod Rows
pub mod BookStrips
mod Entries
pub mod PaperStrips
pub mod Lines
