-- TO BE BELIEVED: what the calls on dictionary numbers answer.
pub mod Answers
