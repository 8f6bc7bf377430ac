-- Proofs. A replay under way: k pairs are passed, the strip stands where they led, and what is left comes to the whole.
use Prim.Native.Nat.{ℕ, ◌+◌, ◌*◌, ◌/◌, ◌≤◌, ◌<◌}
use mathlib.Core.Path.{◌≡◌, refl, sym, ap, ◌∙◌}
use mathlib.Core.Bool.{Bool, true, false, or-false, or_comm, or_assoc, ◌||◌}
use mathlib.Core.List.{List, []}
use native.Mathlib.Decide.{ℕ_discrete}
use native.Mathlib.Omega.{arith}
use lib.Dec.{eqb}
use borrow.Author.Tests.{eq-eqb, ne_eqb}
use lib.ListN.{length, get_or, set, drop, length-set}
use Rattle.rules.specs.Stock.{sum, total, tally, IsStock, IsStrip}
use Rattle.rules.specs.Book.{book, same, place_in}
use Rattle.rules.proofs.Strips.{strip_sum}
use Rattle.rules.proofs.Places.{place_below, book_size}
use Rattle.searching.specs.Searching.{some, is_among}
use Rattle.bar.specs.Bar.{exchanged, made, stood, last_of, final_strip, next_ones, walked}
use Rattle.bar.proofs.Pairs.{Places, Right, low, high, pair_here, half_here, no_more_pairs}
use Rattle.bar.proofs.Exchanged.{exchanged_strip}
use Rattle.bar.proofs.Next.{next_number}
use Rattle.flags.specs.Flags.{Clear, Flagged}
use Rattle.flags.proofs.Flagging.{set_flag}

or_move : (x y z : Bool) → ((x || y) || z) ≡ (y || (x || z))
or_move x y z = ap (λ (b : Bool). b || z) (or_comm x y) ∙ or_assoc y x z

abbrev strip_at_lem : List ℕ → ℕ → List ℕ
strip_at_lem counts i = get_or (book counts) i []

pub record Underway (counts s₀ pairs s : List ℕ) (flags : List Bool) (number moves k : ℕ) : Type 0 where
  pub passed : k ≤ length pairs / 2
  pub fewer : moves ≤ k
  pub own : IsStrip counts s
  pub right : Right (sum counts) (drop (2 * k) pairs)
  pub numbered : number ≡ place_in (book counts) s
  pub room : length flags ≡ total counts
  pub marks : (i : ℕ) → i < total counts → (get_or flags i false || is_among (made s (drop (2 * k) pairs)) (strip_at_lem counts i)) ≡ is_among (stood s₀ pairs) (strip_at_lem counts i)
  pub moves_are : moves + walked counts s (drop (2 * k) pairs) ≡ walked counts s₀ pairs
  pub final : final_strip s (drop (2 * k) pairs) ≡ final_strip s₀ pairs

-- all flags are clear at the start; the start's own is set
pub start : (counts s pairs : List ℕ) → IsStrip counts s → Right (sum counts) pairs → (flags : List Bool) → length flags ≡ total counts → Clear flags
    → (number : ℕ) → number ≡ place_in (book counts) s → Underway counts s pairs s (set flags number true) number 0 0
unfolding some
start counts s pairs h r flags room clear number at = record {
  passed = omega arith;
  fewer = omega arith;
  own = h;
  right = r;
  numbered = at;
  room = length-set flags number true ∙ room;
  marks = λ i l. rw (set_flag counts s flags number i h at (omega (arith, place_below counts s h)) l, clear i (omega arith), or-false (same s (strip_at_lem counts i)));
  moves_are = omega arith;
  final = refl;
}

module _ (counts : List ℕ) (stock : IsStock counts) (s₀ pairs s : List ℕ) (flags : List Bool) (number moves k : ℕ) (u : Underway counts s₀ pairs s flags number moves k) where
  module _ (l : k < length pairs / 2) where
    abbrev p : ℕ
    p = low pairs k

    abbrev q : ℕ
    q = high pairs k

    abbrev rest : List ℕ
    rest = drop (2 * (k + 1)) pairs

    both : Places (sum counts) p q × Right (sum counts) rest
    both = rw (pair_here pairs k l) at u.right

    pub pair : Places (length s) p q
    pair = rw (strip_sum counts s u.own) both.0

    pub next_own : IsStrip counts (exchanged p q s)
    next_own = exchanged_strip counts s p q u.own both.0

    -- one exchange more, to a strip of this number
    module _ (t : List ℕ) (is : t ≡ exchanged p q s) (next : ℕ) (numbered : next ≡ place_in (book counts) t) where
      at : next ≡ place_in (book counts) (exchanged p q s)
      at = numbered ∙ ap (place_in (book counts)) is

      abbrev flags_next : List Bool
      flags_next = set flags next true

      pub next_in_room : next < length flags
      next_in_room = omega (arith, at, place_below counts (exchanged p q s) next_own, u.room)

      marks_next : (i : ℕ) → i < total counts → (get_or flags_next i false || is_among (made (exchanged p q s) rest) (strip_at_lem counts i)) ≡ is_among (stood s₀ pairs) (strip_at_lem counts i)
      unfolding some made
      marks_next i m =
          rw (set_flag counts (exchanged p q s) flags next i next_own at next_in_room m)
          (or_move (same (exchanged p q s) (strip_at_lem counts i)) (get_or flags i false) (is_among (made (exchanged p q s) rest) (strip_at_lem counts i)) ∙ (rw (pair_here pairs k l, made, some) at (u.marks i m)))

      final_next : final_strip (exchanged p q s) rest ≡ final_strip s₀ pairs
      unfolding made last_of
      final_next = rw (pair_here pairs k l, made, last_of) at u.final

      on : (more : ℕ) → more ≤ moves + 1 → more + walked counts (exchanged p q s) rest ≡ walked counts s₀ pairs → Underway counts s₀ pairs (exchanged p q s) flags_next next more (k + 1)
      on more few e = record {
        passed = omega arith;
        fewer = omega (arith, u.fewer);
        own = next_own;
        right = both.1;
        numbered = at;
        room = length-set flags next true ∙ u.room;
        marks = marks_next;
        moves_are = e;
        final = final_next;
      }

      walks : (b : Bool) → eqb next (number + 1) ≡ b → moves + tally b (walked counts (exchanged p q s) rest) ≡ walked counts s₀ pairs
      unfolding made next_ones
      walks b e = rw (← e, at, u.numbered, ← next_number counts stock s u.own (exchanged p q s) next_own) (rw (pair_here pairs k l, made, next_ones) at u.moves_are)

      -- which was the walk's next move
      pub on_walked : next ≡ number + 1 → Underway counts s₀ pairs t flags_next next (moves + 1) (k + 1)
      on_walked e = rw is (on (moves + 1) (omega arith) (omega (arith, walks true (eq-eqb next (number + 1) e))))

      -- or not
      pub on_other : (next ≡ number + 1 → ⊥) → Underway counts s₀ pairs t flags_next next moves (k + 1)
      on_other e = rw is (on moves (omega arith) (walks false (ne_eqb next (number + 1) e)))

  -- at the end no pair is left, whole or half
  module _ (l : length pairs / 2 ≤ k) where
    none_made : made s (drop (2 * k) pairs) ≡ []
    unfolding made
    none_made = elim (ℕ_discrete (2 * k + 1) (length pairs)) [ yes e ↦ rw (half_here pairs k e) | no e ↦ rw (no_more_pairs pairs k (omega arith)) ]

    pub end_walked : moves ≡ walked counts s₀ pairs
    unfolding next_ones
    end_walked = omega (arith, rw (none_made, next_ones) at u.moves_are)

    pub end_strip : s ≡ final_strip s₀ pairs
    unfolding last_of
    end_strip = rw (none_made, last_of) at u.final

    pub end_flagged : Flagged (book counts) (stood s₀ pairs) flags
    unfolding some
    end_flagged = record {
      many = u.room ∙ sym (book_size counts);
      each = λ i m. sym (or-false (get_or flags i false)) ∙ (rw (none_made, some) at (u.marks i (omega (arith, book_size counts))));
    }
