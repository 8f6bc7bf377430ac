-- TO BE BELIEVED, but for Lists: what conversion answers.
pub mod Answers
pub mod Lists
