-- Proofs: nobody needs to read these to know what holds, but Theorems and Marked.
pub mod Rows
pub mod Lifted
pub mod Theorems
pub mod Marked
