-- Proofs: nobody needs to read these to know what holds, but Theorems and Rows.
pub mod Rows
pub mod Words
pub mod LettersLeft
pub mod Sums
pub mod Theorems
