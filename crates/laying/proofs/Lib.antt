-- Proofs: nobody needs to read these to know what holds.
mod Enlarging
mod FromRight
mod InPlace
