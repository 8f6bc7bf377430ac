-- What the functions that look at the turns of a strip promise. No open call's contract cites it, so nothing here is to be believed.
pub mod Least
