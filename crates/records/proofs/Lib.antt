-- Proofs: nobody needs to read these to know what holds.
pub mod BodyLaws
pub mod Checking
pub mod Beginning
pub mod FirstTwo
