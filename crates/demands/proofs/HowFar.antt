-- Document 02, P11. How far can Number dig? That the numbers stay and no refusal changes is First.antt and Second.antt: what they say of Number is as it was, but
-- that a refused Number has no cuts either.

-- a cut is one use of the pattern rule: it takes one or two letters off the end of a word that has both letters, and a word that has not is not cut
pub use Rattle.cuts.proofs.Theorems.{cut_one, cut_two, cut_none}
-- the words that are cut for a strip: the patterns by which its kinds are laid in
pub use Rattle.cuts.proofs.Theorems.{pattern_laid}
-- for every strip the cuts are at most the sum of N(j) - 1 over the kinds j from 2 that have blocks, leaving out the first kind that has any; and never more than
-- 840
pub use Rattle.cuts.proofs.Theorems.{cuts_at_most, never_more}
-- whatever Number answers: its cuts are those for all kinds of the strip, or 0 where it refuses, and never more than that sum, nor than 840
pub use Rattle.numbering.proofs.Theorems.{CutsRight, cuts_right}
-- how far the ceiling is from what happens: a strip that is cut 448 times, of a stock whose ceiling is 840; and one that can be numbered, cut 330 times, of a
-- stock whose ceiling is 605
pub use Rattle.cuts.proofs.Rows.{are_strips, cuts_448_330, totals, ceilings_840}
