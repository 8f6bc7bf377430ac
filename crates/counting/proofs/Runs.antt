-- Proofs. The first strip while it is laid: the runs of the kinds, one after the other.
use Prim.Native.Nat.{ℕ, suc, ◌+◌, ◌-◌, ◌≤◌, ◌<◌}
use mathlib.Core.Path.{◌≡◌, refl, sym, ap, ◌∙◌}
use mathlib.Core.List.{List, [], ◌++◌, append_assoc}
use native.Mathlib.Omega.{arith}
use lib.ListN.{length, get_or, take, drop, replicate, length-append, length-replicate}
use lib.Seq.{take-suc, take_at, take_all, length-take-le}
use borrow.Rule.Slice.PartMut.{put_mid, same_len_mid, mid_len}
use Rattle.rules.specs.Stock.{sum}
use Rattle.rules.specs.Book.{book}
use Rattle.rules.proofs.Numbers.{runs, runs_snoc}
use Rattle.rules.proofs.Neighbours.{first_strip}
use Rattle.rules.proofs.Rising as rising

-- the runs of the first j kinds
abbrev pub runs_to : List ℕ → ℕ → List ℕ
runs_to counts j = runs 1 (take j counts)

abbrev pub Running : (counts strip : List ℕ) (from j : ℕ) → Type 0
Running counts strip from j = rising.Rising (runs_to counts) counts strip from j

pub start : (counts strip : List ℕ) → length strip ≡ sum counts → Running counts strip 0 0
unfolding runs
start counts strip room = rising.start (runs_to counts) counts strip refl room

module _ {counts strip : List ℕ} {from j : ℕ} (s : Running counts strip from j) where
  -- the next kind's run takes the place of what stood there
  module _ (h : j < length counts) (run : List ℕ) (is : run ≡ replicate (length (take (from + get_or counts j 0 - from) (drop from strip))) (j + 1)) where
    abbrev to : ℕ
    to = from + get_or counts j 0

    run_is : run ≡ replicate (get_or counts j 0) (1 + j)
    run_is =
        let e : length (take (to - from) (drop from strip)) ≡ get_or counts j 0 = mid_len from to strip (rising.within s h) ∙ omega arith in
        let k : j + 1 ≡ 1 + j = omega arith in
        is ∙ rw (e, k)

    next_laid : take to (put_mid from (to - from) strip run) ≡ runs_to counts (suc j)
    next_laid =
        let long : length (take from strip ++ run) ≡ to = length-append (take from strip) run ∙ omega (arith, length-take-le from strip (omega (arith, rising.within s h)), ap length run_is, length-replicate (get_or counts j 0) (1 + j)) in
        let e : length (take j counts) ≡ j = length-take-le j counts (omega arith) in
        rw (← append_assoc (take from strip) run _, take_at (take from strip ++ run) _ to long, take-suc counts j 0 h, runs_snoc 1 (take j counts) (get_or counts j 0), e, s.laid, run_is)

    next_running : Running counts (put_mid from (to - from) strip run) to (j + 1)
    next_running = rising.on s h (put_mid from (to - from) strip run) (same_len_mid from (to - from) strip run (ap length is ∙ length-replicate _ (j + 1))) next_laid

  pub on : j < length counts → {n : ℕ} → n ≡ get_or counts j 0 → (run : List ℕ) → run ≡ replicate (length (take (from + n - from) (drop from strip))) (j + 1) → Running counts (put_mid from (from + n - from) strip run) (from + n) (j + 1)
  on h e run is = rw e (next_running h run (rw e at is))

  pub end : length counts ≤ j → strip ≡ get_or (book counts) 0 []
  end h = rising.end s h ∙ ap (runs 1) (take_all (length counts) counts (omega arith)) ∙ sym (first_strip counts)
