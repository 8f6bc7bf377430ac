-- TO BE BELIEVED: the cuts of a strip, and their ceiling.
pub mod Cuts
