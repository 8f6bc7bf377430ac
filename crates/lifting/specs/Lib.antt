-- TO BE BELIEVED: the book with the highest kind lifted out.
pub mod Lifting
