-- Proofs. Finding the move: from the last kind down, a kind that cannot move stands whole in front of the kinds below it or behind them, so what is left without
-- it is a part of the strip itself.
use Prim.Native.Nat.{ℕ, suc, ◌+◌, ◌-◌, ◌≤◌, ◌<◌}
use mathlib.Core.Path.{◌≡◌, refl, sym, ap, ◌∙◌}
use mathlib.Core.Bool.{Bool, true, false}
use mathlib.Core.Option.{Option, none, some}
use mathlib.Core.List.{List, ◌++◌, reverse}
use native.Mathlib.Omega.{arith}
use lib.ListN.{length, get_or, take, drop, replicate, length-replicate, length-take, length-drop}
use lib.Seq.{take_all, take-take, take_at, drop_at, drop-drop}
use Rattle.rules.specs.Stock.{sum, IsStrip}
use Rattle.rules.specs.Book.{Word, reduced, backward, pattern}
use Rattle.rules.proofs.Listed.{flip}
use Rattle.rules.proofs.Last.{reverse_take, drop_take}
use Rattle.rules.proofs.Turned.{sum_next, turned_length}
use Rattle.rules.proofs.Patterns.{IsWord, e_is_first, e_is_last}
use Rattle.rules.proofs.Moves.{move_e, ResultE, e_move}
use Rattle.rules.proofs.Books.{lay_back}
use Rattle.rules.proofs.Exchange.{exchanged}
use Rattle.rules.proofs.Walk.{Move, walk, heading, behind, or_behind, lay_first, lay_last, ResultB, walk_right}
use Rattle.rules.proofs.Strips.{number, move_of, to_strip}
use Rattle.rules.proofs.Index.{rests}
use Rattle.rules.proofs.Reduced.{reduced_without, prefix_strip, prefix_length, prefix_all}
use Rattle.rules.proofs.Places.{place_number}
use Rattle.rules.proofs.Prefixes.{prefix_word, sum_take}

-- a move's places stand in the strip, smaller first
pub move_inside : (d : Bool) (counts s : List ℕ) → IsStrip counts s → (m : Move) → move_of d counts s ≡ some m → (m.p < m.q) × (m.q < length s)
unfolding move_of
move_inside d counts s h m e =
    let r : ResultB d (reverse counts) s (some m) = rw e at (walk_right d (reverse counts) s (to_strip counts s h)) in
    let x = exchanged 0 r.swapped.2 in
    (x.order, x.inside)

-- a move of the first kinds, in the whole strip: n kinds more stay where they are, and lo blocks stand in front
abbrev pub raised : ℕ → ℕ → Option Move → Option Move
raised n lo none = none
raised n lo (some m) = some (record { skip = n + m.skip; p = lo + m.p; q = lo + m.q })

-- j kinds are left; their blocks stand from lo to before hi, and the move of the strip is theirs
pub record Descent (d : Bool) (counts s : List ℕ) (j lo hi : ℕ) : Type 0 where
  pub kinds : j ≤ length counts
  pub order : lo ≤ hi
  pub inside : hi ≤ length s
  pub part : take (hi - lo) (drop lo s) ≡ reduced j s
  pub move : move_of d counts s ≡ raised (length counts - j) lo (move_of d (take j counts) (reduced j s))

raised_none : (o : Option Move) → raised 0 0 o ≡ o
raised_none none = refl
raised_none (some m) =
    let a : 0 + m.skip ≡ m.skip = omega arith in
    let b : 0 + m.p ≡ m.p = omega arith in
    let c : 0 + m.q ≡ m.q = omega arith in
    rw (a, b, c)

raised_front : (n lo c : ℕ) (o : Option Move) → raised n lo (behind false c o) ≡ raised (suc n) (lo + c) o
raised_front n lo c none = refl
raised_front n lo c (some m) =
    let k : n + suc m.skip ≡ suc n + m.skip = omega arith in
    let p : lo + (c + m.p) ≡ lo + c + m.p = omega arith in
    let q : lo + (c + m.q) ≡ lo + c + m.q = omega arith in
    rw (k, p, q)

raised_back : (n lo c : ℕ) (o : Option Move) → raised n lo (behind true c o) ≡ raised (suc n) lo o
raised_back n lo c none = refl
raised_back n lo c (some m) =
    let k : n + suc m.skip ≡ suc n + m.skip = omega arith in
    rw k

module _ (d : Bool) (counts s : List ℕ) (h : IsStrip counts s) where
  pub start : Descent d counts s (length counts) 0 (length s)
  start =
      let z : length counts - length counts ≡ 0 = omega arith in
      record {
        kinds = omega arith;
        order = omega arith;
        inside = omega arith;
        part = rw (prefix_all counts s h) (take_all (length s - 0) s (omega arith));
        move = rw (z, prefix_all counts s h, take_all (length counts) counts (omega arith)) (sym (raised_none (move_of d counts s)));
      }

  -- no kind is left
  pub end : (lo hi : ℕ) → Descent d counts s 0 lo hi → move_of d counts s ≡ none
  unfolding move_of walk
  end lo hi v = v.move

  module _ (i lo hi : ℕ) (l : i < length counts) (v : Descent d counts s (suc i) lo hi) where
    abbrev c : ℕ
    c = get_or counts i 0

    abbrev n : ℕ
    n = sum (take i counts)

    abbrev w : List ℕ
    w = reduced (suc i) s

    abbrev p : Word
    p = pattern (suc i) w

    -- the direction in which the kind's patterns run
    abbrev f : Bool
    f = flip (backward counts (suc i) s) d

    heading_is : heading d (reverse (take i counts)) (reduced i s) ≡ f
    unfolding backward number
    heading_is =
        let e : suc i - 1 ≡ i = omega arith in
        rw (e, place_number (take i counts) (reduced i s) (prefix_strip counts s h i (omega arith)))

    moves : move_of d (take (suc i) counts) w ≡ or_behind (move_e f p) (behind f c (move_of d (take i counts) (reduced i s)))
    unfolding move_of walk
    moves = rw (reverse_take counts i 0 l, turned_length counts i (omega arith), reduced_without i s, heading_is)

    word : IsWord (c + n) n p
    word = rw (sum_next counts i l) at (prefix_word counts s h i l)

    letters : hi - lo ≡ c + n
    letters = omega (arith, simp (length-take, length-drop) at (ap length v.part), prefix_length counts s h (suc i) l, sum_next counts i l)

    -- what the finder of one kind's move is lent
    pub others : hi - lo - c ≡ rests (suc i) (take (hi - lo) (drop lo s))
    unfolding rests
    others = rw v.part (omega (arith, letters, word.1))

    pub fits : lo + c ≤ hi
    fits = omega (arith, letters, v.order)

    pub short : length (take (hi - lo) (drop lo s)) ≤ sum counts
    short = rw v.part (omega (arith, prefix_length counts s h (suc i) l, sum_take counts (suc i)))

    -- the kind moves
    pub found : (x y : ℕ) → move_e f (pattern (suc i) (take (hi - lo) (drop lo s))) ≡ some (x, y) → move_of d counts s ≡ some (record { skip = length counts - suc i; p = lo + x; q = lo + y })
    found x y e =
        let z : length counts - suc i + 0 ≡ length counts - suc i = omega arith in
        v.move ∙ rw (moves, rw v.part at e, z)

    -- it does not, and is passed
    module _ (e : move_e f (pattern (suc i) (take (hi - lo) (drop lo s))) ≡ none) where
      stuck : move_e f p ≡ none
      stuck = rw v.part at e

      above : suc (length counts - suc i) ≡ length counts - i
      above = omega arith

      in_front : f ≡ false → w ≡ replicate c (suc i) ++ reduced i s
      in_front k =
          let r : ResultE false (c + n) n p none = rw k at (rw stuck at (e_move (c + n) n p word f)) in
          sym (lay_back (suc i) w) ∙ rw (reduced_without i s, e_is_last p n c word r) (lay_last (suc i) (reduced i s) c n (prefix_length counts s h i (omega arith)))

      behind_all : f ≡ true → w ≡ reduced i s ++ replicate c (suc i)
      behind_all k =
          let r : ResultE true (c + n) n p none = rw k at (rw stuck at (e_move (c + n) n p word f)) in
          sym (lay_back (suc i) w) ∙ rw (reduced_without i s, e_is_first p n c word r) (lay_first (suc i) (reduced i s) c n (prefix_length counts s h i (omega arith)))

      pub past_front : f ≡ false → Descent d counts s i (lo + c) hi
      past_front k =
          let b : hi - lo - c ≡ hi - (lo + c) = omega arith in
          record {
            kinds = omega arith;
            order = fits;
            inside = v.inside;
            part = rw (← b, ← drop-drop c lo s, ← drop_take c (hi - lo) (drop lo s), v.part, in_front k) (drop_at (replicate c (suc i)) (reduced i s) c (length-replicate c (suc i)));
            move = v.move ∙ rw (moves, stuck, k, raised_front (length counts - suc i) lo c, above);
          }

      pub past_back : f ≡ true → Descent d counts s i lo (hi - c)
      past_back k =
          let b : hi - c - lo ≡ n = omega (arith, letters) in
          record {
            kinds = omega arith;
            order = omega (arith, fits);
            inside = omega (arith, v.inside);
            part =
                rw b (sym (take-take n (hi - lo) (drop lo s) (omega (arith, letters))) ∙ rw (v.part, behind_all k) (take_at (reduced i s) (replicate c (suc i)) n (prefix_length counts s h i (omega arith))));
            move = v.move ∙ rw (moves, stuck, k, raised_back (length counts - suc i) lo c, above);
          }
