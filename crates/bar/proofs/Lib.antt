-- Proofs: nobody needs to read these to know what holds.
pub mod Pairs
pub mod Refused
pub mod Exchanged
pub mod Next
pub mod Different
pub mod Listed
pub mod EndToEnd
pub mod Marked
