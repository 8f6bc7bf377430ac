-- Proofs: nobody needs to read these to know what holds.
mod ByCases
mod FirstRuns
pub mod Theorems
