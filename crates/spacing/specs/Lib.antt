-- TO BE BELIEVED: what the call answers. `Seeking` is the exception: it is what the search behind the call promises.
pub mod Answers
pub mod Seeking
