-- TO BE BELIEVED: dictionary order, and the book's strips in that order.
pub mod Dictionary
