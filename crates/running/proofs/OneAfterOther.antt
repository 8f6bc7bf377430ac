-- Proofs. Where runs in one direction lead and the places that they list: one run, and runs one after the other, each from the strip that the one before left.
use Prim.Native.Nat.{ℕ, zero, suc, ◌+◌, ◌*◌, ◌/◌, ◌-◌, ◌≤◌, ◌<◌}
use mathlib.Core.Path.{◌≡◌, refl, sym, ◌∙◌}
use mathlib.Core.Bool.{Bool, true}
use mathlib.Core.Logic.{◌⊎◌, inl, inr}
use mathlib.Core.List.{List, ◌++◌}
use native.Mathlib.Decide.{dec_lt}
use native.Mathlib.Omega.{arith}
use lib.ListN.{length, take}
use lib.Seq.{take_at}
use Rattle.rules.specs.Stock.{IsStrip}
use Rattle.rules.proofs.Places.{place_undone}
use Rattle.walker.specs.declared.Walker.{Walker}
use Rattle.walking.specs.Answers.{along, left_along}
use Rattle.walking.proofs.Along.{along_none, along_left, along_further}
use Rattle.running.specs.declared.run.Ran.{Ran}
use Rattle.running.specs.Answers.{moves_from}
use Rattle.running.specs.OneAfterOther.{all_listed}
use Rattle.running.proofs.Listed.{moves_long, moves_further}
use Rattle.running.proofs.Theorems.{RunRight}

-- m moves from strip s have led to strip t, and these are their places
pub record Led (d : Bool) (counts s moves : List ℕ) (m : ℕ) (t : List ℕ) : Type 0 where
  pub within : m ≤ left_along d counts s
  pub listed : moves ≡ moves_from d counts s m
  pub there : t ≡ along d counts s m

-- what is then left
pub led_left : (d : Bool) (counts s : List ℕ) → IsStrip counts s → (moves : List ℕ) (m : ℕ) (t : List ℕ) → Led d counts s moves m t → left_along d counts t ≡ left_along d counts s - m
led_left d counts s h moves m t v = rw v.there (along_left d counts s h m v.within)

-- by one run
module _ (d : Bool) (counts s : List ℕ) (w : Walker) (list₀ : List ℕ) (r : Ran) (t list : List ℕ) (is : RunRight d counts s w list₀ r t list) (z : r.refusal.no ≡ 0) where
  comes_to : t ≡ along d counts s r.moves
  unfolding along
  comes_to = rw (← (is.number z).1) (sym (place_undone counts t (is.strip z).0))

  lists : take (2 * r.moves) list ≡ moves_from d counts s r.moves
  lists = rw (is.listed z) (take_at (moves_from d counts s r.moves) _ (2 * r.moves) (moves_long d counts s (is.accepts z).1 r.moves (is.number z).0))

  pub led_once : Led d counts s (take (2 * r.moves) list) r.moves t
  led_once = record { within = (is.number z).0; listed = lists; there = comes_to }

-- by moves, and by a run from where they led
module _ (d : Bool) (counts s : List ℕ) (h : IsStrip counts s) (moves : List ℕ) (m : ℕ) (t : List ℕ) (v : Led d counts s moves m t) (more : List ℕ) (k : ℕ) (u : List ℕ) (then : Led d counts t more k u) where
  led_further : Led d counts s (moves ++ more) (m + k) u
  led_further = record {
    within = omega (arith, v.within, led_left d counts s h moves m t v, then.within);
    listed = rw (v.listed, then.listed, v.there) (moves_further d counts s h m v.within k);
    there = then.there ∙ rw v.there (along_further d counts s h m v.within k);
  }

-- ---- runs one after the other: run i is lent strip i and walker i, and leaves those of run i + 1

-- how many moves the first n of them made
abbrev pub moves_by : (ℕ → Ran) → ℕ → ℕ
moves_by r zero = 0
moves_by r (suc n) = moves_by r n + (r n).moves

module _ (d : Bool) (counts : List ℕ) (strip : ℕ → List ℕ) (walker : ℕ → Walker) (list₀ : ℕ → List ℕ) (r : ℕ → Ran) (list : ℕ → List ℕ)
    (right : (i : ℕ) → RunRight d counts (strip i) (walker i) (list₀ i) (r i) (strip (suc i)) (list i)) (lent : (i : ℕ) → walker (suc i) ≡ (r i).walker) (accepted : (r 0).refusal.no ≡ 0) where
  -- where the first is accepted, all are
  pub none_refused : (i : ℕ) → (r i).refusal.no ≡ 0
  none_refused zero = accepted
  none_refused (suc i) =
      let z = none_refused i in
      (right (suc i)).accepted ((right i).accepts z).0 ((right i).strip z).0 (lent i ∙ ((right i).strip z).1)

  own : IsStrip counts (strip 0)
  own = ((right 0).accepts accepted).1

  once : (i : ℕ) → Led d counts (strip i) (take (2 * (r i).moves) (list i)) (r i).moves (strip (suc i))
  once i = led_once d counts (strip i) (walker i) (list₀ i) (r i) (strip (suc i)) (list i) (right i) (none_refused i)

  pub led_all : (n : ℕ) → Led d counts (strip 0) (all_listed r list n) (moves_by r n) (strip n)
  unfolding all_listed moves_from
  led_all zero = record { within = omega arith; listed = refl; there = sym (along_none d counts (strip 0) own) }
  led_all (suc n) = led_further d counts (strip 0) own (all_listed r list n) (moves_by r n) (strip n) (led_all n) (take (2 * (r n).moves) (list n)) (r n).moves (strip (suc n)) (once n)

  -- where each has room for a move, one of them ends
  module _ (room : (i : ℕ) → 2 ≤ length (list₀ i)) where
    ends_or_moves : (n : ℕ) → ((i : ℕ) × ((r i).ended ≡ true)) ⊎ (n ≤ moves_by r n)
    ends_or_moves zero = inr (omega arith)
    ends_or_moves (suc n) = go (ends_or_moves n) (dec_lt (r n).moves (length (list₀ n) / 2))
      where
        go : ((i : ℕ) × ((r i).ended ≡ true)) ⊎ (n ≤ moves_by r n) → Dec ((r n).moves < length (list₀ n) / 2) → ((i : ℕ) × ((r i).ended ≡ true)) ⊎ (suc n ≤ moves_by r (suc n))
        go (inl e) c = inl e
        go (inr l) (yes c) = inl (n, (right n).used (none_refused n) c)
        go (inr l) (no c) = inr (omega (arith, room n))

    pub one_ends : (i : ℕ) × ((r i).ended ≡ true)
    one_ends = go (ends_or_moves (suc (left_along d counts (strip 0))))
      where
        go : ((i : ℕ) × ((r i).ended ≡ true)) ⊎ (suc (left_along d counts (strip 0)) ≤ moves_by r (suc (left_along d counts (strip 0)))) → (i : ℕ) × ((r i).ended ≡ true)
        go (inl e) = e
        go (inr l) = absurd (omega (arith, (led_all (suc (left_along d counts (strip 0)))).within))
