-- What the records after the strip of a press sheet come to (to be believed), and what the functions promise of them.
pub mod Following
pub mod Editions
pub mod Ends
