-- Proofs. The search on its way: so many moves lead from the strip lent to the strip as it stands, and none of the strips passed is apart.
use Prim.Native.Nat.{ℕ, ◌+◌, ◌-◌, ◌≤◌, ◌<◌}
use mathlib.Core.Path.{◌≡◌, sym, ◌∙◌}
use mathlib.Core.Bool.{Bool, true, false}
use mathlib.Core.List.{List, []}
use native.Mathlib.Numerals.{add-one}
use native.Mathlib.Omega.{arith}
use lib.ListN.{length, get_or}
use Rattle.std.specs.Prelude.{Option, Some, None}
use Rattle.std.specs.Option.{unwrap_or}
use Rattle.rules.specs.Stock.{IsStock, IsStrip}
use Rattle.rules.specs.Book.{book}
use Rattle.rules.specs.Neighbours.{swap}
use Rattle.rules.proofs.Checks.{some_blocks}
use Rattle.rules.proofs.Strips.{move_of}
use Rattle.walker.specs.declared.Walker.{Walker}
use Rattle.walking.specs.declared.stepping.Made.{Made}
use Rattle.walking.specs.declared.finding.Found.{Found}
use Rattle.walking.specs.Checked.{Checked, found, as_made}
use Rattle.walking.proofs.OneMove.{Makes}
use Rattle.walking.proofs.Walked as walks
use Rattle.searching.specs.Searching.{later}
use Rattle.searching.proofs.First.{Fail}
use Rattle.searching.proofs.Loops.{fail_on, sought_none, sought_stopped, sought_found}
use Rattle.touching.specs.Apart.{stands_apart}
use Rattle.touching.specs.Places.{FreeBehind, FreeFrom, IsLast}
use Rattle.touching.proofs.Places.{moved_free}
use Rattle.searching.specs.declared.Ended.{Ended}
use Rattle.searching.specs.declared.Outcome.TheVariants as outcome
use Rattle.searching.specs.declared.Outcome.TheVariants.{NoneLeft, Stopped}
use Rattle.spacing.specs.Seeking.{Reached}
use Rattle.spacing.proofs.Later.{later_left, later_onward}

-- i moves are made, to the strip t with the walker w; no place of t from `seen` on, counted from 0, is like the next
pub record Seeking (endless : Bool) (counts s : List ℕ) (given : ℕ) (t : List ℕ) (w : Walker) (i seen : ℕ) : Type 0 where
  pub walked : walks.Walked false counts s t w i
  pub few : i ≤ given
  pub none : Fail (stands_apart endless) (later (book counts) s) i
  pub free : FreeFrom t seen

pub start : (endless : Bool) (counts s : List ℕ) (given : ℕ) (w : Walker) → Checked counts s w → Seeking endless counts s given s w 0 (length s - 1)
start endless counts s given w c = record {
  walked = walks.start false counts s w c;
  few = omega arith;
  none = λ i l. absurd (omega arith);
  free = record { within = omega (arith, some_blocks counts s c.stock c.strip); free = λ k l m. absurd (omega arith) };
}

module _ (endless : Bool) (counts s : List ℕ) (given : ℕ) (t : List ℕ) (w : Walker) (i seen : ℕ) (k : IsStock counts) (h : IsStrip counts s) (v : Seeking endless counts s given t w i seen) where
  abbrev more : List (List ℕ)
  more = later (book counts) s

  pub checked : Checked counts t w
  checked = walks.checked false counts s t w i k h v.walked

  pub same_strip : length t ≡ length s
  same_strip = walks.same_length false counts s t w i k h v.walked

  -- no move is found: the end of the book is reached
  pub at_end : None ≡ found (length counts) (move_of false counts t) → (r : Ended) → r ≡ record { outcome = NoneLeft; steps = i } → Reached endless counts s given r t w
  at_end is r e = rw e record {
    sought = sought_none (stands_apart endless) more given s i v.none t (later_left counts s ∙ walks.at_end false counts s t w i k h v.walked is) v.few;
    walker = v.walked.walker;
  }

  module _ (m : Found) (is : Some m ≡ found (length counts) (move_of false counts t)) where
    pub move : Makes false counts t m.kind m.low m.high
    move = walks.move false counts s t w i k h v.walked m is

    within : i < length more
    within = omega (arith, later_left counts s, walks.more false counts s t w i k h v.walked m is)

    -- the given moves are made
    pub at_given : i ≡ given → (r : Ended) → r ≡ record { outcome = Stopped; steps = i } → Reached endless counts s given r t w
    at_given f r e = rw e record { sought = sought_stopped (stands_apart endless) more given s i v.none t within f; walker = v.walked.walker }

    -- one move more
    module _ (f : i < given) (r : Made) (u : List ℕ) (made : (r ≡ as_made m (length counts) w) × (u ≡ swap 0 t m.low m.high)) where
      on : walks.Walked false counts s u r.walker (i + 1)
      on = walks.on false counts s t w i k h v.walked r u (walks.as_step false counts s t w i k h v.walked m is r u made)

      pub next_length : length u ≡ length s
      next_length = walks.same_length false counts s u r.walker (i + 1) k h on

      -- behind both the place seen and the larger place that it changes, no place is like the next
      pub behind : (seen < length u) × (m.high < length u) × FreeBehind u seen m.high
      behind =
          let l = next_length ∙ sym same_strip in
          (omega (arith, l, v.free.within), omega (arith, l, move.inside), rw made.1 (moved_free t m.low m.high seen move.order v.free))

      u_is : u ≡ get_or more i []
      u_is = on.strip ∙ rw (add-one i) (sym (later_onward counts s i))

      pub at_found : stands_apart endless u ≡ true → (q : Ended) → q ≡ record { outcome = outcome.Found; steps = i + 1 } → Reached endless counts s given q u r.walker
      at_found y q e = rw e record { sought = sought_found (stands_apart endless) more given s i v.none u within f u_is y; walker = on.walker }

      pub at_next : (p : Option ℕ) → IsLast u p → stands_apart endless u ≡ false → Seeking endless counts s given u r.walker (i + 1) (unwrap_or p 0)
      at_next p l n = record { walked = on; few = omega (arith, f); none = fail_on (stands_apart endless) more i v.none (rw (← u_is) n); free = free p l }
        where
          free : (p : Option ℕ) → IsLast u p → FreeFrom u (unwrap_or p 0)
          free None l = l
          free (Some q) l = l.0
