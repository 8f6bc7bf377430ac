-- Proofs. The strips of a list that pass a test: a search finds them one after the other, and no others.
use Prim.Native.Nat.{ℕ, zero, suc, ◌+◌, ◌-◌, ◌≤◌, ◌<◌, suc-le-suc}
use mathlib.Core.Path.{◌≡◌, refl, sym, ap, ◌∙◌}
use mathlib.Core.Bool.{Bool, true, false, cond}
use mathlib.Core.List.{List, [], ◌∷◌}
use native.Mathlib.Omega.{arith}
use lib.ListN.{length, get_or, take, drop, length-take, length-drop}
use lib.Seq.{get_or-take, get_or-drop}
use Rattle.searching.specs.Searching.{outcome, passing}
use Rattle.searching.proofs.First.{Fail}
use Rattle.searching.proofs.Theorems.{Found, Ends, found, none_left, stopped, ends, found_is}

-- strip i of those that pass is the strip at p of the list, and those after it are those that pass behind p
pub record At (test : List ℕ → Bool) (l passed : List (List ℕ)) (i p : ℕ) : Type 0 where
  pub within : p < length l
  pub is : get_or l p [] ≡ get_or passed i []
  pub passes : test (get_or l p []) ≡ true
  pub rest : drop (suc i) passed ≡ passing test (drop (suc p) l)

-- s stands in the list, and t behind it
pub record InOrder (l : List (List ℕ)) (s t : List ℕ) : Type 0 where
  pub earlier : ℕ
  pub behind : ℕ
  pub within : suc earlier + behind < length l
  pub is_first : get_or l earlier [] ≡ s
  pub is_second : get_or l (suc earlier + behind) [] ≡ t

module _ (test : List ℕ → Bool) where
  -- ---- by the strips at the front of a list

  pub passing_none : (l : List (List ℕ)) → Fail test l (length l) → passing test l ≡ []
  unfolding passing
  passing_none [] f = refl
  passing_none (s ∷ l) f = rw (f 0 (omega arith)) (passing_none l (λ i h. f (suc i) (suc-le-suc h)))

  -- the first that passes is the first of those that pass
  pub passing_first : (m : ℕ) (l : List (List ℕ)) → m < length l → Fail test l m → test (get_or l m []) ≡ true → passing test l ≡ get_or l m [] ∷ passing test (drop (suc m) l)
  unfolding passing
  passing_first m [] h f e = absurd (omega arith)
  passing_first zero (s ∷ l) h f e = rw e
  passing_first (suc m) (s ∷ l) h f e = rw (f 0 (omega arith)) (passing_first m l (omega arith) (λ i k. f (suc i) (suc-le-suc k)) e)

  -- ---- what passes stands in the list, and what passes in the list is there

  pub passing_at : (l : List (List ℕ)) (i : ℕ) → i < length (passing test l) → (p : ℕ) × At test l (passing test l) i p
  unfolding passing
  passing_at [] i h = absurd (omega arith)
  passing_at (s ∷ l) i h = go (test s) refl (passing_at l) i h
    where
      on : (q : List (List ℕ)) (i k : ℕ) → (p : ℕ) × At test l (passing test l) k p → get_or q i [] ≡ get_or (passing test l) k [] → drop (suc i) q ≡ drop (suc k) (passing test l)
          → (p : ℕ) × At test (s ∷ l) q i p
      on q i k (p, a) e f = (suc p, record { within = suc-le-suc a.within; is = a.is ∙ sym e; passes = a.passes; rest = f ∙ a.rest })

      go : (b : Bool) → test s ≡ b → ((k : ℕ) → k < length (passing test l) → (p : ℕ) × At test l (passing test l) k p) → (i : ℕ)
          → i < length (cond b (s ∷ passing test l) (passing test l)) → (p : ℕ) × At test (s ∷ l) (cond b (s ∷ passing test l) (passing test l)) i p
      go true e rest zero h = (0, record { within = omega arith; is = refl; passes = e; rest = refl })
      go true e rest (suc i) h = on (s ∷ passing test l) (suc i) i (rest i (omega arith)) refl refl
      go false e rest i h = on (passing test l) i i (rest i h) refl refl

  pub passing_only : (l : List (List ℕ)) (i : ℕ) → i < length (passing test l)
      → (test (get_or (passing test l) i []) ≡ true) × ((j : ℕ) × (j < length l) × (get_or l j [] ≡ get_or (passing test l) i []))
  passing_only l i h =
      let w = passing_at l i h in
      (ap test (sym w.1.is) ∙ w.1.passes, (w.0, w.1.within, w.1.is))

  -- of two that pass, the earlier one stands earlier in the list
  pub passing_order : (l : List (List ℕ)) (i j : ℕ) → i < j → j < length (passing test l) → InOrder l (get_or (passing test l) i []) (get_or (passing test l) j [])
  passing_order l i j h k = go (passing_at l i (omega arith))
    where
      behind : (p x : ℕ) → drop (suc i) (passing test l) ≡ passing test (drop (suc p) l) → suc i + x ≡ j → (q : ℕ) × (q < length (drop (suc p) l)) × (get_or (drop (suc p) l) q [] ≡ get_or (passing test l) j [])
      behind p x e f =
          let w = (passing_only (drop (suc p) l) x (omega (arith, ap length e, length-drop (suc i) (passing test l)))).1 in
          (w.0, w.1, w.2 ∙ rw (← e, ← f) (get_or-drop (suc i) (passing test l) x []))

      go : (p : ℕ) × At test l (passing test l) i p → InOrder l (get_or (passing test l) i []) (get_or (passing test l) j [])
      go (p, a) =
          let w = behind p (j - suc i) a.rest (omega arith) in
          record {
            earlier = p;
            behind = w.0;
            within = omega (arith, w.1, length-drop (suc p) l);
            is_first = a.is;
            is_second = sym (get_or-drop (suc p) l w.0 []) ∙ w.2;
          }

  pub passing_all : (l : List (List ℕ)) (j : ℕ) → j < length l → test (get_or l j []) ≡ true → (i : ℕ) × (i < length (passing test l)) × (get_or (passing test l) i [] ≡ get_or l j [])
  unfolding passing
  passing_all [] j h e = absurd (omega arith)
  passing_all (s ∷ l) zero h e = rw e (0, omega arith, refl)
  passing_all (s ∷ l) (suc j) h e = go (test s) (passing_all l j (omega arith) e)
    where
      go : (b : Bool) → (i : ℕ) × (i < length (passing test l)) × (get_or (passing test l) i [] ≡ get_or l j [])
          → (i : ℕ) × (i < length (cond b (s ∷ passing test l) (passing test l))) × (get_or (cond b (s ∷ passing test l) (passing test l)) i [] ≡ get_or l j [])
      go true w = (suc w.0, suc-le-suc w.1, w.2)
      go false w = w

  -- ---- by a search of so many steps

  module _ (l : List (List ℕ)) (given : ℕ) where
    -- what is found is the first of all that pass
    pub found_passing : (m : ℕ) → Found test l given m → passing test l ≡ get_or l m [] ∷ passing test (drop (suc m) l)
    found_passing m f = passing_first m l f.within f.first f.passes

    -- and of those that pass among the strips that the given steps reach
    pub found_reached : (m : ℕ) → Found test l given m → passing test (take given l) ≡ get_or l m [] ∷ passing test (drop (suc m) (take given l))
    found_reached m f =
        let at : (i : ℕ) → i ≤ m → get_or (take given l) i [] ≡ get_or l i [] = λ i h. get_or-take given l i [] (omega (arith, f.enough)) in
        passing_first m (take given l) (omega (arith, length-take given l, f.within, f.enough)) (λ i h. ap test (at i (omega arith)) ∙ f.first i h) (ap test (at m (omega arith)) ∙ f.passes)
        ∙ rw (at m (omega arith))

    -- of which none passes where none is found
    pub none_reached : (outcome test l given ≡ 1 → ⊥) → passing test (take given l) ≡ []
    none_reached h = passing_none (take given l) (go (ends test l given))
      where
        at : (i : ℕ) → i < length (take given l) → get_or (take given l) i [] ≡ get_or l i []
        at i k = get_or-take given l i [] (omega (arith, length-take given l))

        go : Ends test l given → Fail test (take given l) (length (take given l))
        go (found m f) i k = absurd (h (found_is test l given m f).0)
        go (none_left n) i k = ap test (at i k) ∙ n.none i (omega (arith, length-take given l))
        go (stopped n) i k = ap test (at i k) ∙ n.none i (omega (arith, length-take given l))
