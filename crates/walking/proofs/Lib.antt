-- Proofs: nobody needs to read these to know what holds.
mod OneKind
mod Beside
pub mod Numbers
pub mod OneMove
pub mod Along
pub mod Stepped
pub mod Walked
pub mod Called
pub mod Right
pub mod Theorems
