-- Document 02, P14. The small stock inside the big one: with the blocks of the highest kind k off every strip, the book of the first k - 1 kinds, each strip C(N(k), N(k - 1)) times in a row. It is
-- said over the book, and over what Run shows. A direction is true for back.
use Prim.Native.Nat.{ℕ, suc, ◌+◌, ◌*◌, ◌/◌, ◌≤◌, ◌<◌}
use mathlib.Core.Path.{◌≡◌, sym, ap, ◌∙◌}
use mathlib.Core.Bool.{Bool, true, false, false≢true}
use mathlib.Core.List.{List, [], map}
use native.Mathlib.Decide.{ℕ_discrete, dec_lt}
use native.Mathlib.Omega.{arith}
use borrow.Author.Tests.{eqb-true, eq-eqb}
use lib.ListN.{length, get_or, take}
use contract.Lifetimes.{Lfts}
use borrow.Fn.Kinds.{Dens, ended_of}
use denote.Triple.Clauses.{AtExit}
use Rattle.rules.specs.Stock.{total, IsStock, IsStrip}
use Rattle.rules.specs.Book.{turn, book, place_in}
use Rattle.rules.specs.SoldOut.{used}
use Rattle.walker.specs.declared.Walker.{Walker}
use Rattle.walking.specs.Answers.{shifted, along, left_along}
use Rattle.walking.proofs.Along.{along_below}
use Rattle.lifting.specs.Lifting.{small, lifted, times, each_in_a_row, small_in_a_row}
use Rattle.running.specs.declared.run.Ran.{Ran}
use Rattle.running.specs.OneAfterOther.{all_listed}
use Rattle.running.proofs.Theorems.{RunRight, run_right}
use Rattle.running.proofs.OneAfterOther.{Led, led_left, led_once, moves_by}
use Rattle.running.proofs.OneAfterOther as runs
use Rattle.running.proofs.run.run.Kinds as run
use Rattle.running.proofs.run.run.Reads as run_reads
use Rattle.bar.specs.Bar.{stood}
use Rattle.bar.proofs.EndToEnd.{all_left, led_stands, led_many, led_turned, led_whole}
-- over the book, in either direction; how many times as long it is; and strip by strip. None of these needs the premise
pub use Rattle.lifting.proofs.Theorems.{small_inside, total_inside, small_at}
-- the small stock without the sold-out kinds at its end: it has the same book, and under the premise it is accepted
pub use Rattle.lifting.proofs.Theorems.{small_used, small_accepted}
-- small books, computed
pub use Rattle.lifting.proofs.Marked.{on_1_1_2, back_1_1_2, on_2_0_3, on_0_3, on_3}

-- ---- what runs lead to, from the first strip on or from the last back

module _ (d : Bool) (counts s : List ℕ) (stock : IsStock counts) (h : IsStrip counts s) (places : List ℕ) (m : ℕ) (t : List ℕ) (v : Led d counts s places m t) (first : s ≡ get_or (turn d (book counts)) 0 []) where
  led_bar : (i : ℕ) → i < length (stood s places) → lifted counts (get_or (stood s places) i []) ≡ get_or (turn d (book (small counts))) (i / times counts) []
  led_bar i l =
      let few : i ≤ m = omega (arith, led_many d counts s h places m t v) in
      ap (lifted counts) (led_turned d counts s h places m t v first i few) ∙ small_at counts stock.some d i (omega (arith, v.within, all_left d counts s first))

  led_inside : left_along d counts t ≡ 0 → map (lifted counts) (stood s places) ≡ small_in_a_row d counts
  led_inside none = ap (map (lifted counts)) (led_whole d counts s h places m t v first none) ∙ small_inside counts stock.some d

-- ---- one run, by any outcome that its contract allows

module _ (κs : Lfts 3) (a : Dens κs run.ps) (r : Ran) (s : AtExit (ended_of 3 run.ps run.r) κs) (h : run_reads.Post κs a r s) where
  abbrev counts : List ℕ
  counts = a.0.now

  abbrev strip : List ℕ
  strip = a.1.0.now

  abbrev back : Bool
  back = a.1.1.1.0

  -- the places that it listed, and the strips that stand on the bar while these are exchanged
  abbrev listed : List ℕ
  listed = take (2 * r.moves) s.1.1.1.1.0.now

  abbrev bar : List (List ℕ)
  bar = stood strip listed

  right : RunRight back counts strip a.1.1.0 a.1.1.1.1.0.now r s.1.0.now s.1.1.1.1.0.now
  right = run_right κs a r s h

  module _ (z : r.refusal.no ≡ 0) where
    own : IsStrip counts strip
    own = (right.accepts z).1

    accepted_stock : IsStock counts
    accepted_stock = (right.accepts z).0

    led : Led back counts strip listed r.moves s.1.0.now
    led = led_once back counts strip a.1.1.0 a.1.1.1.1.0.now r s.1.0.now s.1.1.1.1.0.now right z

    -- from any strip: after i moves, without kind k, the small book's strip at the big one's number divided by C(N(k), N(k - 1))
    pub small_after : (i : ℕ) → i ≤ r.moves → lifted counts (get_or bar i []) ≡ get_or (book (small counts)) (shifted back (place_in (book counts) strip) i / times counts) []
    unfolding along turn
    small_after i l =
        ap (lifted counts) (led_stands back counts strip own listed r.moves s.1.0.now led i l)
        ∙ small_at counts accepted_stock.some false (shifted back (place_in (book counts) strip) i) (along_below back counts strip own i (omega (arith, led.within)))

    -- from the first strip on, or from the last back
    module _ (first : strip ≡ get_or (turn back (book counts)) 0 []) where
      -- after each C(N(k), N(k - 1)) moves the small bar moves once: after i moves it has made i / C(N(k), N(k - 1))
      pub small_bar : (i : ℕ) → i < length bar → lifted counts (get_or bar i []) ≡ get_or (turn back (book (small counts))) (i / times counts) []
      small_bar = led_bar back counts strip accepted_stock own listed r.moves s.1.0.now led first

      -- with room for T - 1 moves it says yes
      pub run_ends : total counts ≤ length a.1.1.1.1.0.now / 2 + 1 → r.ended ≡ true
      run_ends room = elim (dec_lt r.moves (length a.1.1.1.1.0.now / 2)) [
        | yes l ↦ right.used z l
        | no l ↦ right.says z ∙ eq-eqb (left_along back counts s.1.0.now) 0 (omega (arith, led_left back counts strip own listed r.moves s.1.0.now led, all_left back counts strip first))
      ]

  -- from one end of the book to the other, where it says yes: the book in its direction, and without kind k the small book, each strip C(N(k), N(k - 1)) times in a row
  module _ (first : strip ≡ get_or (turn back (book counts)) 0 []) (ended : r.ended ≡ true) where
    accepted : r.refusal.no ≡ 0
    accepted = elim (ℕ_discrete r.refusal.no 0) [ yes z ↦ z | no z ↦ absurd (false≢true (sym (right.refused z).1 ∙ ended)) ]

    none_left : left_along back counts s.1.0.now ≡ 0
    none_left = eqb-true _ _ (sym (right.says accepted) ∙ ended)

    pub run_shows : bar ≡ turn back (book counts)
    run_shows = led_whole back counts strip (own accepted) listed r.moves s.1.0.now (led accepted) first none_left

    pub run_inside : map (lifted counts) bar ≡ small_in_a_row back counts
    run_inside = led_inside back counts strip (accepted_stock accepted) (own accepted) listed r.moves s.1.0.now (led accepted) first none_left

-- two bars beside each other, the second with the small stock without the sold-out kinds at its end, run from one end of the book to the other in one direction: the big one shows without kind k what
-- the small one shows, each strip C(N(k), N(k - 1)) times in a row
module _ (κs κt : Lfts 3) (a : Dens κs run.ps) (b : Dens κt run.ps) (x y : Ran) (s : AtExit (ended_of 3 run.ps run.r) κs) (t : AtExit (ended_of 3 run.ps run.r) κt)
    (h : run_reads.Post κs a x s) (k : run_reads.Post κt b y t) (stock : b.0.now ≡ used (small a.0.now)) (direction : b.1.1.1.0 ≡ a.1.1.1.0) where
  pub bars_together : a.1.0.now ≡ get_or (turn a.1.1.1.0 (book a.0.now)) 0 [] → b.1.0.now ≡ get_or (turn b.1.1.1.0 (book b.0.now)) 0 [] → x.ended ≡ true → y.ended ≡ true
      → map (lifted a.0.now) (stood a.1.0.now (take (2 * x.moves) s.1.1.1.1.0.now)) ≡ each_in_a_row (times a.0.now) (stood b.1.0.now (take (2 * y.moves) t.1.1.1.1.0.now))
  bars_together first first-too ended ended-too =
      let same_book : book b.0.now ≡ book (small a.0.now) = ap book stock ∙ small_used a.0.now in
      run_inside κs a x s h first ended ∙ ap (each_in_a_row (times a.0.now)) (sym (run_shows κt b y t k first-too ended-too ∙ rw (direction, same_book)))

-- ---- runs one after the other, each lent the strip and the walker that the one before left, so that a book is gone through for which no list is long enough

module _ (counts : List ℕ) (back : Bool) (κs : ℕ → Lfts 3) (a : (i : ℕ) → Dens (κs i) run.ps) (r : ℕ → Ran) (s : (i : ℕ) → AtExit (ended_of 3 run.ps run.r) (κs i))
    (h : (i : ℕ) → run_reads.Post (κs i) (a i) (r i) (s i)) (stock : (i : ℕ) → (a i).0.now ≡ counts) (direction : (i : ℕ) → (a i).1.1.1.0 ≡ back)
    (lent : (i : ℕ) → (a (suc i)).1.0.now ≡ (s i).1.0.now) (walker_lent : (i : ℕ) → (a (suc i)).1.1.0 ≡ (r i).walker) (accepted : (r 0).refusal.no ≡ 0) where
  abbrev strips : ℕ → List ℕ
  strips i = (a i).1.0.now

  abbrev walkers : ℕ → Walker
  walkers i = (a i).1.1.0

  abbrev lent_lists : ℕ → List ℕ
  lent_lists i = (a i).1.1.1.1.0.now

  abbrev lists : ℕ → List ℕ
  lists i = (s i).1.1.1.1.0.now

  each : (i : ℕ) → RunRight back counts (strips i) (walkers i) (lent_lists i) (r i) (strips (suc i)) (lists i)
  each i = rw (stock i, direction i, ← lent i) at (run_right (κs i) (a i) (r i) (s i) (h i))

  led_by : (n : ℕ) → Led back counts (strips 0) (all_listed r lists n) (moves_by r n) (strips n)
  led_by = runs.led_all back counts strips walkers lent_lists r lists each walker_lent accepted

  none_refused : (i : ℕ) → (r i).refusal.no ≡ 0
  none_refused = runs.none_refused back counts strips walkers lent_lists r lists each walker_lent accepted

  -- with room for a move in each list, one of them says yes
  pub runs_end : ((i : ℕ) → 2 ≤ length (lent_lists i)) → (n : ℕ) × ((r n).ended ≡ true)
  runs_end = runs.one_ends back counts strips walkers lent_lists r lists each walker_lent accepted

  both : IsStock counts × IsStrip counts (strips 0)
  both = (each 0).accepts accepted

  -- from the first strip on, or from the last back: what stands on the bar by the first n of them
  module _ (first : strips 0 ≡ get_or (turn back (book counts)) 0 []) (n : ℕ) where
    abbrev shown : List (List ℕ)
    shown = stood (strips 0) (all_listed r lists n)

    pub small_bars : (i : ℕ) → i < length shown → lifted counts (get_or shown i []) ≡ get_or (turn back (book (small counts))) (i / times counts) []
    small_bars = led_bar back counts (strips 0) both.0 both.1 (all_listed r lists n) (moves_by r n) (strips n) (led_by n) first

  -- and by those to the one that says yes
  module _ (first : strips 0 ≡ get_or (turn back (book counts)) 0 []) (n : ℕ) (ended : (r n).ended ≡ true) where
    all_gone : left_along back counts (strips (suc n)) ≡ 0
    all_gone = eqb-true _ _ (sym ((each n).says (none_refused n)) ∙ ended)

    pub runs_show : shown first (suc n) ≡ turn back (book counts)
    runs_show = led_whole back counts (strips 0) both.1 _ _ (strips (suc n)) (led_by (suc n)) first all_gone

    pub runs_inside : map (lifted counts) (shown first (suc n)) ≡ small_in_a_row back counts
    runs_inside = led_inside back counts (strips 0) both.0 both.1 _ _ (strips (suc n)) (led_by (suc n)) first all_gone
