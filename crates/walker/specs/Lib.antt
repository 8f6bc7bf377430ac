-- TO BE BELIEVED: what a walker is, and what Open answers.
pub mod Walkers
pub mod Answers
pub mod Turned
