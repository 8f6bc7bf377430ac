-- TO BE BELIEVED: what rewriting a sheet answers.
pub mod Rewriting
