-- Document 02, P5. Sheets with coffee on them: where the stock and strip records are sound, a sheet is rebuilt. All is said over the contracts of the calls, for
-- any sheet and any second buffer; no theorem asks that the book has fewer than 2^64 strips. Its refusals in their order are `rebuild_refuses` in First.antt.
--
-- it is rebuilt exactly where the two records are sound and the second buffer has 83 + 3c bytes
pub use Rattle.rebuilding.proofs.Theorems.{accepts, accepted}
-- c is (L - 82) / 3 rounded down, or the moves left in the book if fewer
pub use Rattle.rebuilding.proofs.Theorems.{moves_is}
-- the proper sheet of c moves, and the bytes past it as they were; writing, lent the same stock, strip, c and buffer, leaves the same
pub use Rattle.rebuilding.proofs.Theorems.{rebuilt, as_written}
-- how many of the c records differed and the first of these, from one list; no more than c, and the first is 0 exactly when none did
pub use Rattle.rebuilding.proofs.Theorems.{differing_is, differing_within, first_zero, zero_first}
-- the first differs and none before it does; where none differed, all are the damaged sheet's bytes
pub use Rattle.rebuilding.proofs.Theorems.{first_right, none_right}
-- a sheet that the reader accepts comes out unchanged with 0 differing, and c is its moves
pub use Rattle.rebuilding.proofs.Theorems.{accepted_unchanged}
-- what is rebuilt, the reader accepts; rebuilding it again changes nothing
pub use Rattle.rebuilding.proofs.Theorems.{rebuilt_is_read, rebuilt_twice}
-- as in reading, 2 is never met: the kinds of a sheet's stock run to the last count that is not 0
pub use Rattle.rebuilding.proofs.Theorems.{never_two}
