-- What Walk answers and what a walk is (to be believed), and what the functions behind the calls promise.
pub mod Answers
pub mod Walks
pub mod Checked
