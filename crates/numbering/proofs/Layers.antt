-- Proofs. The strip of a number while it is laid: the reduced strip at j, and kind j + 1 laid in by the pattern of its index.
use Prim.Native.Nat.{ℕ, suc, ◌+◌, ◌≤◌, ◌<◌}
use mathlib.Core.Path.{◌≡◌, ◌∙◌}
use mathlib.Core.List.{List, [], ◌++◌}
use native.Mathlib.Numerals.{add-one}
use native.Mathlib.Omega.{arith}
use lib.ListN.{length, get_or, take, drop}
use lib.Seq.{take_at, take-take, length_front}
use Rattle.rules.specs.Stock.{sum, binom, total, IsStrip}
use Rattle.rules.specs.Book.{E, lay, book, reduced}
use Rattle.rules.proofs.Index.{index}
use Rattle.rules.proofs.Strips.{to_strip}
use Rattle.rules.proofs.Reduced.{prefix_strip, prefix_all}
use Rattle.rules.proofs.Places.{book_only}
use Rattle.rules.proofs.TakenApart.{index_within, reduced_laid}
use Rattle.rules.proofs.Rising as rising
use Rattle.counting.specs.Patterns.{ArePatterns}

abbrev pub strip_at : List ℕ → ℕ → List ℕ
strip_at counts number = get_or (book counts) number []

abbrev pub Layered : (counts : List ℕ) (number : ℕ) (strip : List ℕ) (from j : ℕ) → Type 0
Layered counts number strip from j = rising.Rising (λ j. reduced j (strip_at counts number)) counts strip from j

module _ (counts : List ℕ) (number : ℕ) (below : number < total counts) where
  abbrev s : List ℕ
  s = strip_at counts number

  own : IsStrip counts s
  own = book_only counts number below

  pub start : (strip : List ℕ) → length strip ≡ sum counts → Layered counts number strip 0 0
  start strip room = rising.start (λ j. reduced j s) counts strip (to_strip [] (reduced 0 s) (prefix_strip counts s own 0 (omega arith))) room

  module _ {strip : List ℕ} {from j : ℕ} (l : Layered counts number strip from j) where
    module _ (h : j < length counts) (i : ℕ) (is : i ≡ index (suc j) (reduced (suc j) s)) where
      abbrev to : ℕ
      to = from + get_or counts j 0

      within : i < binom (length (take to strip)) from
      unfolding index
      within = rw (is, rising.long l h, rising.next_blocks l h, l.blocks) (index_within counts s own j h)

      pub patterns_here : (patterns : List ℕ) → ArePatterns counts patterns → get_or patterns j 0 ≡ binom (length (take to strip)) from
      patterns_here patterns are = rw (rising.long l h, rising.next_blocks l h, l.blocks) (are.each j h)

      pub within_patterns : (patterns : List ℕ) → ArePatterns counts patterns → i < get_or patterns j 0
      within_patterns patterns are = rw (patterns_here patterns are) within

      -- the first places hold the next reduced strip
      module _ (word : List ℕ) (kept : length word ≡ length (take to strip)) (laid : word ≡ lay (j + 1) (take from (take to strip)) (get_or (E (length (take to strip)) from) i [])) where
        word_is : word ≡ reduced (suc j) s
        word_is = laid ∙ rw (take-take from to strip (omega arith), l.laid, rising.long l h, rising.next_blocks l h, l.blocks, is, add-one j) (reduced_laid counts s own j h)

        pub on : Layered counts number (word ++ drop to strip) to (j + 1)
        on = rising.on l h (word ++ drop to strip) (length_front strip word to kept) (take_at word (drop to strip) to (kept ∙ rising.long l h) ∙ word_is)

    pub end : length counts ≤ j → strip ≡ s
    end h = rising.end l h ∙ prefix_all counts s own
