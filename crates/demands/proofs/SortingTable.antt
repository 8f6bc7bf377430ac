-- Document 02, P6. Earlier should stop as soon as it knows: Which reports the first kind from 2 upward at which the reduced strips of the two differ. All is
-- said over the contracts of the calls, and nothing asks that the book has fewer than 2^64 strips. The refusals, which did not change, are `which_refuses` and
-- `earlier_refuses` in First.antt.
--
-- the answer stays that of the full comparison: the order of the two numbers, and by it the strip that Earlier hands back
pub use Rattle.comparing.proofs.Theorems.{order_is, earlier_first, earlier_second}
-- the kind is 0 exactly where the strips are equal
pub use Rattle.comparing.proofs.Theorems.{kind_zero_same, same_kind_zero}
-- else it is one from 2 to the last that has blocks; below it the reduced strips agree, and at it they differ
pub use Rattle.comparing.proofs.Theorems.{kind_from_two, kind_has_blocks, kind_before, kind_differs}
-- the reduced strips at that kind are enough to know: their order in the book of the kinds up to it is the answer
pub use Rattle.comparing.proofs.Theorems.{kind_decides}
