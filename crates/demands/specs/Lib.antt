-- TO BE BELIEVED: what the theorems of the demands say.
pub mod Refusing
