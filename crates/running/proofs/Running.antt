-- Proofs. A run on its way: after i moves the strip is the one i numbers further, the walker its walker, and the list has the places of those moves.
use Prim.Native.Nat.{ℕ, suc, ◌+◌, ◌*◌, ◌/◌, ◌≤◌, ◌<◌}
use mathlib.Core.Path.{◌≡◌, refl, sym, ap, ◌∙◌}
use mathlib.Core.Bool.{Bool, true, false, not}
use mathlib.Core.List.{List, [], ◌∷◌, ◌++◌, append_assoc}
use native.Mathlib.Numerals.{add-one}
use native.Mathlib.Omega.{arith}
use borrow.Author.Tests.{eq-eqb, ne_eqb}
use lib.Dec.{eqb}
use lib.ListN.{length, drop, set, length-append}
use lib.Seq.{drop-cons, set_at}
use Rattle.std.proofs.Common.{Option, Some, None}
use Rattle.std.specs.Prelude.{is_some}
use Rattle.rules.specs.Stock.{IsStock, IsStrip}
use Rattle.rules.specs.Refusals.{fine}
use Rattle.rules.specs.Neighbours.{swap}
use Rattle.rules.proofs.Strips.{move_of}
use Rattle.walker.specs.declared.Walker.{Walker}
use Rattle.walker.specs.Walkers.{walker_for}
use Rattle.walking.specs.declared.stepping.Made as walking
use Rattle.walking.specs.declared.finding.Found.{Found}
use Rattle.walking.specs.Answers.{left_along}
use Rattle.walking.specs.Checked.{Checked, found, as_made}
use Rattle.walking.proofs.OneMove.{Makes}
use Rattle.walking.proofs.Walked as walks
use Rattle.running.specs.declared.run.Ran.{Ran}
use Rattle.running.specs.Answers.{run_moves, as_ran, moves_from}
use Rattle.running.specs.Made.{Made}
use Rattle.running.proofs.Listed.{moves_long}

pub record Running (d : Bool) (counts s list₀ t : List ℕ) (w : Walker) (list : List ℕ) (i : ℕ) : Type 0 where
  pub walked : walks.Walked d counts s t w i
  pub room : i ≤ length list₀ / 2
  pub listed : list ≡ moves_from d counts s i ++ drop (2 * i) list₀

pub start : (d : Bool) (counts s list₀ : List ℕ) (w : Walker) → Checked counts s w → Running d counts s list₀ s w list₀ 0
unfolding moves_from
start d counts s list₀ w c = record { walked = walks.start d counts s w c; room = omega arith; listed = refl }

-- two places written at the start of what is left of a list
write_two : (m l : List ℕ) (k a b : ℕ) → length m ≡ k → suc k < length l → set (set (m ++ drop k l) k a) (k + 1) b ≡ m ++ (a ∷ b ∷ drop (k + 2) l)
write_two m l k a b e h =
    let f : k + 2 ≡ suc (suc k) = omega arith in
    let n : length (m ++ (a ∷ [])) ≡ suc k = length-append m (a ∷ []) ∙ omega arith in
    rw (f, add-one k, drop-cons l k 0 (omega arith), drop-cons l (suc k) 0 h, set_at m _ _ a k e, ← append_assoc m (a ∷ []) _)
    (set_at (m ++ (a ∷ [])) _ _ b (suc k) n ∙ append_assoc m (a ∷ []) _)

module _ (d : Bool) (counts s list₀ t : List ℕ) (w : Walker) (list : List ℕ) (i : ℕ) (k : IsStock counts) (h : IsStrip counts s) (v : Running d counts s list₀ t w list i) where
  pub checked : Checked counts t w
  checked = walks.checked d counts s t w i k h v.walked

  long : length (moves_from d counts s i) ≡ 2 * i
  long = moves_long d counts s h i v.walked.made

  -- where i moves are all, they are made
  all : (x : Ran) (b : Bool) → x ≡ as_ran fine i b w → run_moves d counts s list₀ ≡ i → b ≡ eqb i (left_along d counts s) → Made d counts s list₀ x t list
  all x b a e f = record {
    answer = a ∙ rw (e, f) (ap (as_ran fine i (eqb i (left_along d counts s))) (v.walked.walker ∙ ap (walker_for counts) v.walked.strip));
    strip = rw e v.walked.strip;
    listed = rw e v.listed;
  }

  -- no move is found: the end of the book is reached
  pub stop : None ≡ found (length counts) (move_of d counts t) → (x : Ran) → x ≡ as_ran fine i true w → Made d counts s list₀ x t list
  unfolding run_moves
  stop is x a =
      let e = walks.at_end d counts s t w i k h v.walked is in
      all x true a (omega (arith, e, v.room)) (sym (eq-eqb i (left_along d counts s) (sym e)))

  module _ (m : Found) (is : Some m ≡ found (length counts) (move_of d counts t)) where
    pub move : Makes d counts t m.kind m.low m.high
    move = walks.move d counts s t w i k h v.walked m is

    more : i < left_along d counts s
    more = walks.more d counts s t w i k h v.walked m is

    -- the room is used
    one_more : i ≡ length list₀ / 2 → (x : Ran) → x ≡ as_ran fine i false w → Made d counts s list₀ x t list
    unfolding run_moves
    one_more l x a = all x false a (omega (arith, more)) (sym (ne_eqb i (left_along d counts s) (omega (arith, more))))

    -- one move more
    pub on : i < length list₀ / 2 → (r : walking.Made) (u : List ℕ) → (r ≡ as_made m (length counts) w) × (u ≡ swap 0 t m.low m.high)
        → Running d counts s list₀ u r.walker (set (set list (2 * i) r.low) (2 * i + 1) r.high) (i + 1)
    unfolding moves_from
    on l r u made =
        let step = walks.as_step d counts s t w i k h v.walked m is r u made in
        let p = walks.shown d counts s t w i k h v.walked r u step in
        let e : 2 * i + 2 ≡ 2 * suc i = omega arith in
        record {
          walked = walks.on d counts s t w i k h v.walked r u step;
          room = omega (arith, v.room);
          listed = rw (add-one i, v.listed, p, append_assoc (moves_from d counts s i) (r.low ∷ r.high ∷ []) _) (write_two (moves_from d counts s i) list₀ (2 * i) r.low r.high long (omega (arith, v.room)) ∙ rw e);
        }

  -- the room is used, and what is found then says whether the end of the book is reached
  pub full : i ≡ length list₀ / 2 → (o : Option Found) → o ≡ found (length counts) (move_of d counts t) → (ended : Bool) → is_some o ≡ not ended
      → (x : Ran) → x ≡ as_ran fine i ended w → Made d counts s list₀ x t list
  full l None is true e = stop is
  full l None is false e = absurd (cc)
  full l (Some m) is true e = absurd (cc)
  full l (Some m) is false e = one_more m is l
