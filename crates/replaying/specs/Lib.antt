-- What Replay answers (to be believed), and what the functions behind it ask for.
pub mod Answers
pub mod Replayable
