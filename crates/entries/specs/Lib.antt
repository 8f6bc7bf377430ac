-- What the functions behind the calls promise. No open call's contract cites it, so nothing here is to be believed.
pub mod Fitting
pub mod Picking
