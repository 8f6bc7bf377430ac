-- Proofs: nobody needs to read these to know what holds.
pub mod Later
pub mod First
pub mod Some
pub mod Theorems
pub mod Loops
pub mod Passing
pub mod Amounts
pub mod Marked
