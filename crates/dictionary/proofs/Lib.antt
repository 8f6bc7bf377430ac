-- Proofs: nobody needs to read these to know what holds.
pub mod Order
pub mod Sorted
pub mod Amounts
pub mod Places
pub mod Theorems
pub mod Following
pub mod FirstEntry
pub mod Unique
pub mod Marked
