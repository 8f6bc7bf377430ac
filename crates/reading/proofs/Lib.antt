-- Proofs: nobody needs to read these to know what holds.
mod Padding
mod Whole
mod Shape
pub mod MoveRecords
pub mod Right
pub mod Parting
pub mod Exactly
pub mod SoldOut
pub mod Theorems
pub mod Editions
