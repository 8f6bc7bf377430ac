-- Proofs. The book of one kind more, with that kind taken off: each strip of the book before, as often as the kind has patterns.
use Prim.Native.Nat.{ℕ, suc, ◌+◌}
use mathlib.Core.Path.{◌≡◌, sym, ap, ◌∙◌}
use mathlib.Core.Bool.{false}
use mathlib.Core.List.{List, [], ◌∷◌, ◌++◌, map, map-map, reverse}
use native.Mathlib.Omega.{arith}
use lib.ListN.{length, get_or, replicate, length-reverse}
use Rattle.rules.specs.Stock.{sum, binom, IsStrip}
use Rattle.rules.specs.Book.{Word, E, lay, snake, book, reduced}
use Rattle.rules.proofs.Turned.{sum_reverse}
use Rattle.rules.proofs.Listed.{map_agree, map_always}
use Rattle.rules.proofs.Snake.{map_snake}
use Rattle.rules.proofs.Patterns.{IsWord, listed_e}
use Rattle.rules.proofs.Books.{without, strip_below, laid_without, laid_strip}
use Rattle.rules.proofs.Strips.{to_strip, book_rule}
use Rattle.rules.proofs.Reduced.{reduced_without, reduced_all}
use Rattle.rules.proofs.Places.{book_size, book_only}
use Rattle.lifting.specs.Lifting.{each_in_a_row}
use Rattle.lifting.proofs.Rows.{row_snake}

-- kind k has c blocks, and the kinds before it are those of `below`
module _ (below : List ℕ) (c : ℕ) where
  abbrev k : ℕ
  k = suc (length below)

  abbrev patterns : List Word
  patterns = E (c + sum below) (sum below)

  abbrev many : ℕ
  many = binom (c + sum below) (sum below)

  taken_off : (w : List ℕ) → IsStrip below w → (p : Word) → IsWord (c + sum below) (sum below) p → reduced (length below) (lay k w p) ≡ w
  taken_off w h p g =
      let cs = reverse below in
      let s = lay (suc (length cs)) w p in
      let v = to_strip below w h in
      let q : IsWord (c + sum cs) (sum cs) p = rw (sum_reverse below) g in
      let all = reduced_all (suc (length cs)) s (strip_below (c ∷ cs) s (laid_strip c cs w v p q)) in
      rw (length-reverse below) at (sym (reduced_without (length cs) s) ∙ ap (without (suc (length cs))) all ∙ laid_without c cs w v p q)

  one_row : (w : List ℕ) → IsStrip below w → map (reduced (length below)) (map (lay k w) patterns) ≡ replicate many w
  one_row w h =
      let e = listed_e (c + sum below) (sum below) in
      map-map (reduced (length below)) (lay k w) patterns
      ∙ map_agree _ (λ p. w) patterns [] (λ i l. taken_off w h (get_or patterns i []) (e.sound i (omega (arith, e.size))))
      ∙ map_always w patterns
      ∙ rw e.size

  pub lifted_book : map (reduced (length below)) (book (below ++ (c ∷ []))) ≡ each_in_a_row many (book below)
  lifted_book =
      ap (map (reduced (length below))) (book_rule below c)
      ∙ map_snake (reduced (length below)) false _
      ∙ ap (snake false) (map-map _ _ (book below) ∙ map_agree _ (replicate many) (book below) [] (λ i l. one_row (get_or (book below) i []) (book_only below i (omega (arith, book_size below)))))
      ∙ row_snake many false (book below)
