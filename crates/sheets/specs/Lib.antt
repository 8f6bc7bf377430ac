-- TO BE BELIEVED: what a press sheet is, and what writing one answers.
pub mod Sheets
pub mod Writing
