-- TO BE BELIEVED: the one form of a sheet of edition 2, and what writing it answers.
pub mod Forms
