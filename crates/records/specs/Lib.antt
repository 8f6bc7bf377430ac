-- The records of a press sheet before the moves (to be believed), and what the functions promise of them.
pub mod Records
pub mod Opened
