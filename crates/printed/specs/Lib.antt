-- TO BE BELIEVED: what the programs print for an input.
pub mod Output
