-- What Run answers, what it leaves in the lent strip and list, a list of moves in reverse order, and the lists of runs one after the other (to be believed), and what its private loop promises.
pub mod Answers
pub mod Reversed
pub mod OneAfterOther
pub mod Made
