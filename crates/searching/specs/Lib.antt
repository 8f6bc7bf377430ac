-- TO BE BELIEVED: what a search in steps finds. `Sought` and `Ended` are the exceptions: they are what a loop behind a call promises.
pub mod Searching
pub mod Sought
pub mod Ended
