-- Proofs: nobody needs to read these to know what holds.
mod Numbers
mod LetterByLetter
mod Ahead
mod Parting
mod Level
mod Handed
mod Checked
pub mod Theorems
pub mod Marked
