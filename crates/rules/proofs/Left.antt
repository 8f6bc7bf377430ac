-- Proofs. The two places to exchange, found from the left end of a word: `move_e` by the lengths of the first four runs and the number of the letters R.
use Prim.Native.Nat.{ℕ, zero, suc, pred, ◌+◌, ◌-◌}
use mathlib.Core.Path.{◌≡◌, refl, sym, ap, ◌∙◌}
use mathlib.Core.Bool.{Bool, true, false, not, cond, true≢false, false≢true}
use mathlib.Core.Option.{Option, none, some}
use mathlib.Core.List.{[], ◌∷◌, reverse_aux}
use native.Mathlib.Omega.{arith}
use lib.ListN.{length, drop}
use lib.Seq.{drop-drop}
use Rattle.rules.specs.Book.{K, R, Word, odd}
use Rattle.rules.proofs.Listed.{flip, flip_not_left}
use Rattle.rules.proofs.Patterns.{count_r}
use Rattle.rules.proofs.Moves.{count_k, gate, or_else, or_else_none, seam_k, seam_r, move, move_e, count_both}
use Rattle.rules.proofs.Runs.{run, past, past_k_count_r, past_r_count_r}

-- ---- the rule, for a word K^x R^y q, where q does not begin with R

-- moving on at q, with j letters before it, the last of them R
unfoldable pub ahead : ℕ → Word → Option (ℕ × ℕ)
ahead j [] = none
ahead j (R ∷ q) = none
ahead j (K ∷ q) = some (cond (odd (run R q)) (j, suc j) (pred j, j))

-- moving back at R^y, with K^x before it
unfoldable pub near : ℕ → ℕ → Option (ℕ × ℕ)
near x y = gate y (cond (odd y) (pred x, x) (0, x))

-- moving back at R^u, with R^y K^z before it, j letters together
unfoldable pub far : ℕ → ℕ → ℕ → Option (ℕ × ℕ)
far y j u = gate u (cond (odd u) (pred y, pred j) (y, j))

-- moving on (false) or back (true) there; x may be 0
unfoldable pub left_at : Bool → ℕ → ℕ → Word → Option (ℕ × ℕ)
left_at false x y q = ahead (x + y) q
left_at true zero y q = far y (y + run K q) (run R (past K q))
left_at true (suc x) y q = near (suc x) y

-- moving on or back in the list of words: where the letters R of q are odd in number, that is the other way there
unfoldable pub left_move : Bool → Word → Option (ℕ × ℕ)
left_move back w =
    let x = run K w in
    let y = run R (drop x w) in
    left_at (flip (odd (count_r w - y)) back) x y (drop (x + y) w)

-- ---- `move`, read from the left: the first letter that has a seam decides

abbrev seam_k' : Bool → Bool → ℕ → ℕ → Option (ℕ × ℕ)
seam_k' true s k r = none
seam_k' false false k r = gate r (pred (k + r), k + r)
seam_k' false true k r = gate r (pred r, k + r)

abbrev seam_r' : Bool → Bool → ℕ → ℕ → Option (ℕ × ℕ)
seam_r' false s k r = none
seam_r' true false k r = gate k (pred (k + r), k + r)
seam_r' true true k r = gate k (r, k + r)

-- the direction and the state of what stands before q, where the whole word is in direction t and in the first state
abbrev dir : Bool → Word → Bool
dir t q = flip (odd (count_r (past R q))) t

abbrev state : Word → Bool
state q = odd (run R q)

-- from the letters before q, k K and r R
abbrev scan : Bool → ℕ → ℕ → Word → Option (ℕ × ℕ)
scan t k r [] = none
scan t k r (K ∷ q) = or_else (seam_k' (dir t q) (state q) k r) (scan t (suc k) r q)
scan t k r (R ∷ q) = or_else (seam_r' (dir t q) (state q) k r) (scan t k (suc r) q)

length_both : (v : Word) → length v ≡ count_k v + count_r v
length_both v = omega (arith, count_both v)

seam_k_is : (d s : Bool) (v : Word) → seam_k d s v ≡ seam_k' d s (count_k v) (count_r v)
seam_k_is true s v = refl
seam_k_is false false v = rw (length_both v)
seam_k_is false true v = rw (length_both v)

seam_r_is : (d s : Bool) (v : Word) → seam_r d s v ≡ seam_r' d s (count_k v) (count_r v)
seam_r_is false s v = refl
seam_r_is true false v = rw (length_both v)
seam_r_is true true v = rw (length_both v)

or_assoc : (o p q : Option (ℕ × ℕ)) → or_else (or_else o p) q ≡ or_else o (or_else p q)
or_assoc none p q = refl
or_assoc (some x) p q = refl

-- a K before q turns the direction if the state is the second
dir_k : (t : Bool) (q : Word) → flip (state q) (dir t q) ≡ flip (odd (count_r q)) t
unfolding odd
dir_k t [] = refl
dir_k t (K ∷ q) = refl
dir_k t (R ∷ q) = flip_not_left (state q) (dir t q) ∙ ap not (dir_k t q) ∙ sym (flip_not_left (odd (count_r q)) t)

scan_is : (t : Bool) (q v : Word) → move t false (reverse_aux q v) ≡ or_else (move (dir t q) (state q) v) (scan t (count_k v) (count_r v) q)
unfolding odd move
scan_is t [] v = sym (or_else_none (move t false v))
scan_is t (K ∷ q) v =
    scan_is t q (K ∷ v) ∙ rw (dir_k t q, seam_k_is (dir t q) (state q) v) (or_assoc (move (flip (odd (count_r q)) t) false v) (seam_k' (dir t q) (state q) (count_k v) (count_r v)) (scan t (suc (count_k v)) (count_r v) q))
scan_is t (R ∷ q) v =
    scan_is t q (R ∷ v) ∙ rw (seam_r_is (dir t q) (state q) v) (or_assoc (move (dir t q) (not (state q)) v) (seam_r' (dir t q) (state q) (count_k v) (count_r v)) (scan t (count_k v) (suc (count_r v)) q))

-- ---- the first seam, by the lengths of the runs

-- no seam while the other letter is yet to come
no_k : (d s : Bool) (k : ℕ) → seam_k' d s k 0 ≡ none
no_k true s k = refl
no_k false false k = refl
no_k false true k = refl

no_r : (d s : Bool) (r : ℕ) → seam_r' d s 0 r ≡ none
no_r false s r = refl
no_r true false r = refl
no_r true true r = refl

same_places : (a b c d : ℕ) → a ≡ c → b ≡ d → ◌≡◌ {A = Option (ℕ × ℕ)} (some (a, b)) (some (c, d))
same_places a b c d p q = cc

-- K and then a run of R that is odd if s is false: d is the direction at the run, and the one before the K is given
module _ (k r : ℕ) (o : Option (ℕ × ℕ)) where
  turn_on : (d s : Bool) → flip (not s) d ≡ false → or_else (seam_k' d (not s) k (suc r)) (or_else (seam_r' d s (suc k) (suc r)) o) ≡ some (cond (not s) (k + suc r, suc (k + suc r)) (pred (k + suc r), k + suc r))
  turn_on true true h = absurd (true≢false h)
  turn_on true false h = same_places _ _ _ _ (omega arith) (omega arith)
  turn_on false true h = refl
  turn_on false false h = absurd (true≢false h)

  turn_back : (d s : Bool) → flip (not s) d ≡ true → or_else (seam_k' d (not s) k (suc r)) (or_else (seam_r' d s (suc k) (suc r)) o) ≡ some (cond (not s) (r, pred (suc r + suc k)) (suc r, suc r + suc k))
  turn_back true true h = same_places (suc r) (suc k + suc r) (suc r) (suc r + suc k) refl (omega arith)
  turn_back true false h = absurd (false≢true h)
  turn_back false true h = absurd (false≢true h)
  turn_back false false h = same_places r (k + suc r) r (pred (suc r + suc k)) refl (omega arith)

module _ (t : Bool) where
  -- on, with R before q: the first K decides, or the R after it
  to_k : (k r y : ℕ) (q : Word) → dir t q ≡ false → y ≡ suc r + run R q → scan t k (suc r) q ≡ left_at false k y (past R q)
  unfolding odd left_at ahead
  to_k k r y [] h e = refl
  to_k k r y (R ∷ q) h e = rw h (to_k k (suc r) y q h (omega arith))
  to_k k r y (K ∷ []) h e = let e : y ≡ suc r = omega arith in rw (h, e)
  to_k k r y (K ∷ K ∷ q) h e = let e : y ≡ suc r = omega arith in rw (h, e)
  to_k k r y (K ∷ R ∷ q) h e = let e : y ≡ suc r = omega arith in rw e (turn_on k r (scan t (suc k) (suc (suc r)) q) (dir t q) (state q) (dir_k t (R ∷ q) ∙ h))

  -- back, in a run of K with R before it: its last K decides, or the R after it
  to_r : (k r z : ℕ) (q : Word) → dir t (K ∷ q) ≡ true → z ≡ suc k + run K q → scan t k (suc r) (K ∷ q) ≡ far (suc r) (suc r + z) (run R (past K q))
  unfolding odd far
  to_r k r z [] h e = rw h
  to_r k r z (K ∷ q) h e = rw h (to_r (suc k) r z q h (omega arith))
  to_r k r z (R ∷ q) h e = let e : z ≡ suc k = omega arith in rw e (turn_back k r (scan t (suc k) (suc (suc r)) q) (dir t q) (state q) (dir_k t (R ∷ q) ∙ h))

  from_k : (k x : ℕ) (q : Word) → x ≡ k + run K q → scan t (suc k) 0 q ≡ left_at (dir t (past K q)) (suc x) (run R (past K q)) (past R (past K q))
  unfolding odd left_at ahead near
  from_k k x [] e = go t
    where
      go : (d : Bool) → none ≡ left_at d (suc x) 0 []
      go true = refl
      go false = refl
  from_k k x (K ∷ q) e = rw (no_k (dir t q) (state q) (suc k)) (from_k (suc k) x q (omega arith))
  from_k k x (R ∷ q) e = let e : x ≡ k = omega arith in rw e (go (dir t q) (state q) refl refl)
    where
      go : (d s : Bool) → dir t q ≡ d → state q ≡ s → or_else (seam_r' d s (suc k) 0) (scan t (suc k) 1 q) ≡ left_at d (suc k) (suc (run R q)) (past R q)
      go true false h e = rw e (same_places _ _ _ _ (omega arith) (omega arith))
      go true true h e = rw e (same_places _ _ _ _ refl (omega arith))
      go false s h e = to_k (suc k) 0 (suc (run R q)) q h (omega arith)

  from_r : (r y : ℕ) (q : Word) → y ≡ suc r + run R q → scan t 0 (suc r) q ≡ left_at (dir t q) 0 y (past R q)
  unfolding odd left_at ahead far
  from_r r y [] e = go t
    where
      go : (d : Bool) → none ≡ left_at d 0 y []
      go true = refl
      go false = refl
  from_r r y (R ∷ q) e = rw (no_r (dir t q) (state q) (suc r)) (from_r (suc r) y q (omega arith))
  from_r r y (K ∷ q) e = let e : y ≡ suc r = omega arith in rw e (go (dir t (K ∷ q)) refl)
    where
      go : (d : Bool) → dir t (K ∷ q) ≡ d → scan t 0 (suc r) (K ∷ q) ≡ left_at d 0 (suc r) (K ∷ q)
      go true h = to_r 0 r (suc (run K q)) q h (omega arith)
      go false h = to_k 0 r (suc r) (K ∷ q) h (omega arith)

  scan_whole : (w : Word) → scan t 0 0 w ≡ left_at (dir t (past K w)) (run K w) (run R (past K w)) (past R (past K w))
  unfolding odd left_at ahead far
  scan_whole [] = go t
    where
      go : (d : Bool) → none ≡ left_at d 0 0 []
      go true = refl
      go false = refl
  scan_whole (K ∷ w) = rw (no_k (dir t w) (state w) 0) (from_k 0 (run K w) w (omega arith))
  scan_whole (R ∷ w) = rw (no_r (dir t w) (state w) 0) (from_r 0 (suc (run R w)) w (omega arith))

-- the rule finds what `move_e` finds
pub left_is_move_e : (back : Bool) (w : Word) → left_move back w ≡ move_e back w
unfolding left_move move_e move
left_is_move_e back w =
    let y = run R (past K w) in
    let c : count_r w - y ≡ count_r (past R (past K w)) = omega (arith, past_k_count_r w, past_r_count_r (past K w)) in
    rw (← drop-drop y (run K w) w, c) (sym (scan_is back w [] ∙ scan_whole back w))

-- ---- by the places x and j where the first two runs end, as code finds them

module _ (back : Bool) (w : Word) (x j : ℕ) (p : x ≡ run K w) (q : j ≡ x + run R (drop x w)) where
  abbrev turned : Bool
  turned = flip (odd (count_r w - (j - x))) back

  at_ends : move_e back w ≡ left_at turned x (j - x) (drop j w)
  unfolding left_move
  at_ends =
      let y : run R (drop x w) ≡ j - x = omega arith in
      let s : x + (j - x) ≡ j = omega arith in
      sym (left_is_move_e back w) ∙ rw (← p, y, s)

  pub move_ahead : turned ≡ false → move_e back w ≡ ahead j (drop j w)
  unfolding left_at
  move_ahead t =
      let s : x + (j - x) ≡ j = omega arith in
      at_ends ∙ rw (t, s)

  -- k and l: where the next two runs end
  pub move_far : turned ≡ true → x ≡ 0 → (k l : ℕ) → k ≡ j + run K (drop j w) → l ≡ k + run R (drop k w) → move_e back w ≡ far j k (l - k)
  unfolding left_at
  move_far t e k l m n =
      let s : j - 0 ≡ j = omega arith in
      let u : run R (drop k w) ≡ l - k = omega arith in
      at_ends ∙ rw (t, e, s, drop-drop (run K (drop j w)) j w, ← m, u)

  pub move_near : turned ≡ true → (x ≡ 0 → ⊥) → move_e back w ≡ near x (j - x)
  unfolding left_at
  move_near t e =
      let s : x ≡ suc (pred x) = omega arith in
      at_ends ∙ rw (t, s)
