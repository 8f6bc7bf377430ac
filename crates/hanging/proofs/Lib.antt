-- Proofs: nobody needs to read these to know what holds.
mod Alike
mod SomeBefore
mod Leading
mod EitherWay
mod Reversals
