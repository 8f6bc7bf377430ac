-- What a block of an endless strip is. No open call's contract cites it, so nothing here is to be believed.
use Rattle.std.specs.Prelude.{ℕ, ◌%◌, List, length, get_or}
use Rattle.papers.specs.declared.places.Hung.{Hung}
use Rattle.papers.specs.Papers.{hung}

-- the blocks of a strip as it hangs, foot up or not
abbrev pub as_hung : Hung → List ℕ
as_hung h = hung h.back h.strip.now

-- the block at any place of a strip that is hung endless: after the last block comes the first again
abbrev pub block_at : List ℕ → ℕ → ℕ
block_at s i = get_or s (i % length s) 0
