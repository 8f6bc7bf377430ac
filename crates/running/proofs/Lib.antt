-- Proofs: nobody needs to read these to know what holds.
mod Listed
mod Running
mod Refused
pub mod Theorems
pub mod OneAfterOther
pub mod ThereAndBack
