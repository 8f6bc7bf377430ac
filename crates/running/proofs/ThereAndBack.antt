-- Theorems on two runs: from where the first one left the strip and the walker, as many moves the other way undo it.
use Prim.Native.Nat.{ℕ, ◌*◌, ◌/◌, ◌-◌, ◌≤◌}
use mathlib.Core.Path.{◌≡◌, sym, ap, ◌∙◌}
use mathlib.Core.Bool.{Bool, not}
use mathlib.Core.List.{List}
use native.Mathlib.Decide.{dec_lt}
use native.Mathlib.Omega.{arith}
use borrow.Author.Tests.{eqb-true}
use lib.ListN.{length, take}
use contract.Lifetimes.{Lfts}
use borrow.Fn.Kinds.{Dens, ended_of}
use denote.Triple.Clauses.{AtExit}
use Rattle.rules.specs.Stock.{IsStrip}
use Rattle.walker.specs.declared.Walker.{Walker}
use Rattle.walker.specs.Walkers.{walker_for}
use Rattle.walking.specs.Answers.{left_along}
use Rattle.walking.proofs.Along.{along_none, along_back, back_left}
use Rattle.running.specs.declared.run.Ran.{Ran}
use Rattle.running.specs.Answers.{moves_from}
use Rattle.running.specs.Reversed.{in_reverse}
use Rattle.running.proofs.Listed.{moves_back}
use Rattle.running.proofs.Theorems.{RunRight, run_right}
use Rattle.running.proofs.OneAfterOther.{Led, led_left, led_once}
use Rattle.running.proofs.run.run.Kinds as run
use Rattle.running.proofs.run.run.Reads as reads

-- a run from strip s with walker w gave the answer x and the list `there`; one the other way, from what it left, with a list of so much room, the answer y, the strip
-- u and the list `back`. The second is accepted, and with room for as many moves it makes as many. Making as many, it leaves the strip and the walker that the first
-- began with, and lists the same places in reverse order
pub record Undone (s : List ℕ) (w : Walker) (x : Ran) (there : List ℕ) (room : ℕ) (y : Ran) (u back : List ℕ) : Type 0 where
  pub accepted : y.refusal.no ≡ 0
  pub as_many : room ≡ x.moves → y.moves ≡ x.moves
  pub strip : y.moves ≡ x.moves → u ≡ s
  pub walker : y.moves ≡ x.moves → y.walker ≡ w
  pub listed : y.moves ≡ x.moves → take (2 * x.moves) back ≡ in_reverse (take (2 * x.moves) there)

module _ (d : Bool) (counts s : List ℕ) (w : Walker) (own : length w.back ≡ 16) (list₀ : List ℕ) (x : Ran) (t there : List ℕ)
    (first : RunRight d counts s w list₀ x t there) (z : x.refusal.no ≡ 0)
    (list₁ : List ℕ) (y : Ran) (u back : List ℕ) (second : RunRight (not d) counts t x.walker list₁ y u back) where
  abbrev m : ℕ
  m = x.moves

  began : IsStrip counts s
  began = (first.accepts z).1

  led : Led d counts s (take (2 * m) there) m t
  led = led_once d counts s w list₀ x t there first z

  passed : y.refusal.no ≡ 0
  passed = second.accepted (first.accepts z).0 (first.strip z).0 (first.strip z).1

  led_back : Led (not d) counts t (take (2 * y.moves) back) y.moves u
  led_back = led_once (not d) counts t x.walker list₁ y u back second passed

  -- with room left it would stand at the end of the book, which is m moves away at least
  as_many : length list₁ / 2 ≡ m → y.moves ≡ m
  as_many e = elim (dec_lt y.moves m) [
    | yes l ↦
        let f : left_along (not d) counts u ≡ 0 = eqb-true _ _ (sym (second.says passed) ∙ second.used passed (omega arith)) in
        let g : left_along (not d) counts u ≡ left_along (not d) counts t - y.moves = led_left (not d) counts t (first.strip z).0 _ y.moves u led_back in
        let k : m ≤ left_along (not d) counts t = rw led.there (back_left d counts s began m led.within) in
        absurd (omega arith)
    | no l ↦ omega (arith, second.room passed)
  ]

  -- as many moves
  module _ (e : y.moves ≡ m) where
    same_strip : u ≡ s
    same_strip =
        let n : m - m ≡ 0 = omega arith in
        led_back.there ∙ rw (e, led.there) (along_back d counts s began m led.within m (omega arith) ∙ rw n (along_none d counts s began))

    same_walker : y.walker ≡ w
    same_walker = (second.strip passed).1 ∙ ap (walker_for counts) same_strip ∙ sym (first.own_walker own z)

    same_places : take (2 * m) back ≡ in_reverse (take (2 * m) there)
    same_places =
        let b : take (2 * m) back ≡ moves_from (not d) counts t m = rw e at led_back.listed in
        b ∙ rw (led.there, led.listed) (moves_back d counts s began m led.within)

  undone : Undone s w x there (length list₁ / 2) y u back
  undone = record { accepted = passed; as_many = as_many; strip = same_strip; walker = same_walker; listed = same_places }

pub run_there_and_back : (κs : Lfts 3) (a : Dens κs run.ps) (x : Ran) (s : AtExit (ended_of 3 run.ps run.r) κs) → reads.Post κs a x s
    → (μs : Lfts 3) (b : Dens μs run.ps) (y : Ran) (t : AtExit (ended_of 3 run.ps run.r) μs) → reads.Post μs b y t
    → length a.1.1.0.back ≡ 16 → x.refusal.no ≡ 0
    → b.0.now ≡ a.0.now → b.1.0.now ≡ s.1.0.now → b.1.1.0 ≡ x.walker → b.1.1.1.0 ≡ not a.1.1.1.0
    → Undone a.1.0.now a.1.1.0 x s.1.1.1.1.0.now (length b.1.1.1.1.0.now / 2) y t.1.0.now t.1.1.1.1.0.now
run_there_and_back κs a x s h μs b y t k own z stock strip walker direction =
    undone a.1.1.1.0 _ _ _ own _ x _ _ (run_right κs a x s h) z _ y _ _ (rw (stock, strip, walker, direction) at (run_right μs b y t k))
