-- TO BE BELIEVED: the lines that the programs print, as bytes, and what it is to write one.
pub mod Text
pub mod Puts
pub mod Writing
