-- What the functions that show a strip promise. Nothing here is to be believed: the lines that are printed stand in `printed`.
pub mod States
