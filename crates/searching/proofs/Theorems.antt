-- Theorems on a search: what found, none left and stopped mean, that they exclude each other, and that one always holds.
use Prim.Native.Nat.{ℕ, suc, min, ◌≤◌, ◌<◌}
use mathlib.Core.Path.{◌≡◌, refl, sym, ◌∙◌}
use mathlib.Core.Bool.{Bool, true, false}
use mathlib.Core.Logic.{◌⊎◌, inl, inr}
use mathlib.Core.List.{List, []}
use native.Mathlib.Decide.{dec_lt}
use native.Mathlib.Omega.{arith}
use borrow.Author.Tests.{lt-ltb, le-ltb, le-leb, lt-leb}
use lib.Dec.{leb}
use lib.ListN.{length, get_or}
use Rattle.rules.specs.Refusals.{pick}
use Rattle.searching.specs.Searching.{passed_over, is_found_in, outcome, steps_made, found_or}
use Rattle.searching.proofs.First.{passed_over_fail, passed_over_passes, fail_passed_over, passes_passed_over}

-- found: m strips are passed over, and the one behind them, m + 1 steps on, passes, within the list and the given steps
pub record Found (test : List ℕ → Bool) (l : List (List ℕ)) (given m : ℕ) : Type 0 where
  pub within : m < length l
  pub enough : suc m ≤ given
  pub passes : test (get_or l m []) ≡ true
  pub first : (i : ℕ) → i < m → test (get_or l i []) ≡ false

-- none left: no strip of the list passes, and the given steps reach the last
pub record NoneLeft (test : List ℕ → Bool) (l : List (List ℕ)) (given : ℕ) : Type 0 where
  pub reach : length l ≤ given
  pub none : (i : ℕ) → i < length l → test (get_or l i []) ≡ false

-- stopped: the given steps do not reach the last strip, and lead to none that passes
pub record Stopped (test : List ℕ → Bool) (l : List (List ℕ)) (given : ℕ) : Type 0 where
  pub short : given < length l
  pub none : (i : ℕ) → i < given → test (get_or l i []) ≡ false

-- one of the three always holds
pub data Ends (test : List ℕ → Bool) (l : List (List ℕ)) (given : ℕ) : Type 0 where
  found : (m : ℕ) → Found test l given m → Ends test l given
  none_left : NoneLeft test l given → Ends test l given
  stopped : Stopped test l given → Ends test l given

two_or_three : (b : Bool) → pick b 2 3 ≡ 1 → ⊥
two_or_three true e = omega arith
two_or_three false e = omega arith

module _ (test : List ℕ → Bool) (l : List (List ℕ)) (given : ℕ) where
  pub ends : Ends test l given
  ends = elim (dec_lt (passed_over test l) (min given (length l))) [
    | yes h ↦ found (passed_over test l) (record {
      within = omega arith;
      enough = omega arith;
      passes = passed_over_passes test l (omega arith);
      first = passed_over_fail test l;
    })
    | no h ↦ elim (dec_lt given (length l)) [
      | yes k ↦ stopped (record { short = k; none = λ i j. passed_over_fail test l i (omega arith) })
      | no k ↦ none_left (record { reach = omega arith; none = λ i j. passed_over_fail test l i (omega arith) })
    ]
  ]

  -- ---- what each is answered by

  pub found_is : (m : ℕ) → Found test l given m → (outcome test l given ≡ 1) × (steps_made test l given ≡ suc m) × ((s : List ℕ) → found_or test l given s ≡ get_or l m [])
  unfolding outcome steps_made found_or is_found_in
  found_is m f =
      let e : passed_over test l ≡ m = omega (arith, fail_passed_over test m l (omega (arith, f.within)) f.first, passes_passed_over test m l f.within f.passes) in
      let b = lt-ltb m (min given (length l)) (omega (arith, f.within, f.enough)) in
      (rw (e, b), rw (e, b), λ s. rw (e, b))

  pub none_left_is : NoneLeft test l given → (outcome test l given ≡ 2) × (steps_made test l given ≡ length l) × ((s : List ℕ) → found_or test l given s ≡ s)
  unfolding outcome steps_made found_or is_found_in
  none_left_is n =
      let b = le-ltb (passed_over test l) (min given (length l)) (omega (arith, fail_passed_over test (length l) l (omega arith) n.none)) in
      let least : min given (length l) ≡ length l = omega (arith, n.reach) in
      (rw (b, le-leb (length l) given n.reach), rw b least, λ s. rw b)

  pub stopped_is : Stopped test l given → (outcome test l given ≡ 3) × (steps_made test l given ≡ given) × ((s : List ℕ) → found_or test l given s ≡ s)
  unfolding outcome steps_made found_or is_found_in
  stopped_is n =
      let b = le-ltb (passed_over test l) (min given (length l)) (omega (arith, fail_passed_over test given l (omega (arith, n.short)) n.none)) in
      let least : min given (length l) ≡ given = omega (arith, n.short) in
      (rw (b, lt-leb (length l) given n.short), rw b least, λ s. rw b)

  -- ---- and what an answer means

  pub is_found : outcome test l given ≡ 1 → (m : ℕ) × Found test l given m
  is_found o = go ends
    where
      go : Ends test l given → (m : ℕ) × Found test l given m
      go (found m f) = (m, f)
      go (none_left n) = absurd (omega (arith, (none_left_is n).0))
      go (stopped n) = absurd (omega (arith, (stopped_is n).0))

  pub is_none_left : outcome test l given ≡ 2 → NoneLeft test l given
  is_none_left o = go ends
    where
      go : Ends test l given → NoneLeft test l given
      go (found m f) = absurd (omega (arith, (found_is m f).0))
      go (none_left n) = n
      go (stopped n) = absurd (omega (arith, (stopped_is n).0))

  pub is_stopped : outcome test l given ≡ 3 → Stopped test l given
  is_stopped o = go ends
    where
      go : Ends test l given → Stopped test l given
      go (found m f) = absurd (omega (arith, (found_is m f).0))
      go (none_left n) = absurd (omega (arith, (none_left_is n).0))
      go (stopped n) = n

  -- whether one is found, by the answer
  pub found_so : outcome test l given ≡ 1 → is_found_in test l given ≡ true
  unfolding outcome
  found_so o = go (is_found_in test l given) refl
    where
      go : (b : Bool) → is_found_in test l given ≡ b → b ≡ true
      go true e = refl
      go false e = absurd (two_or_three (leb (length l) given) (rw e at o))

  pub not_found_so : (outcome test l given ≡ 1 → ⊥) → is_found_in test l given ≡ false
  unfolding outcome
  not_found_so h = go (is_found_in test l given) refl
    where
      go : (b : Bool) → is_found_in test l given ≡ b → b ≡ false
      go true e = absurd (h (rw e))
      go false e = refl

  -- where none is found the strip stays
  pub not_found : (outcome test l given ≡ 1 → ⊥) → (s : List ℕ) → found_or test l given s ≡ s
  unfolding found_or
  not_found h s = rw (not_found_so h)

  -- no more steps are made than were given
  pub few_steps : steps_made test l given ≤ given
  few_steps = go ends
    where
      go : Ends test l given → steps_made test l given ≤ given
      go (found m f) = omega (arith, (found_is m f).1, f.enough)
      go (none_left n) = omega (arith, (none_left_is n).1, n.reach)
      go (stopped n) = omega (arith, (stopped_is n).1)

-- ---- an answer of a search: how it ended, the steps made, and the strip left where s was lent

pub record SearchRight (test : List ℕ → Bool) (l : List (List ℕ)) (given : ℕ) (s : List ℕ) (end steps : ℕ) (left : List ℕ) : Type 0 where
  pub one_of_three : (end ≡ 1) ⊎ ((end ≡ 2) ⊎ (end ≡ 3))
  pub found_means : end ≡ 1 → (m : ℕ) × Found test l given m × (steps ≡ suc m) × (left ≡ get_or l m [])
  pub found_exactly : (m : ℕ) → Found test l given m → end ≡ 1
  pub none_left_means : end ≡ 2 → NoneLeft test l given × (steps ≡ length l) × (left ≡ s)
  pub none_left_exactly : NoneLeft test l given → end ≡ 2
  pub stopped_means : end ≡ 3 → Stopped test l given × (steps ≡ given) × (left ≡ s)
  pub stopped_exactly : Stopped test l given → end ≡ 3
  pub few : steps ≤ given

pub search_right : (test : List ℕ → Bool) (l : List (List ℕ)) (given : ℕ) (s : List ℕ) (end steps : ℕ) (left : List ℕ)
    → end ≡ outcome test l given → steps ≡ steps_made test l given → left ≡ found_or test l given s → SearchRight test l given s end steps left
search_right test l given s end steps left h k e = record {
  one_of_three = go (ends test l given);
  found_means = λ o.
      let f = is_found test l given (sym h ∙ o) in
      let q = found_is test l given f.0 f.1 in
      (f.0, f.1, k ∙ q.1, e ∙ q.2 s);
  found_exactly = λ m f. h ∙ (found_is test l given m f).0;
  none_left_means = λ o.
      let n = is_none_left test l given (sym h ∙ o) in
      let q = none_left_is test l given n in
      (n, k ∙ q.1, e ∙ q.2 s);
  none_left_exactly = λ n. h ∙ (none_left_is test l given n).0;
  stopped_means = λ o.
      let n = is_stopped test l given (sym h ∙ o) in
      let q = stopped_is test l given n in
      (n, k ∙ q.1, e ∙ q.2 s);
  stopped_exactly = λ n. h ∙ (stopped_is test l given n).0;
  few = omega (arith, few_steps test l given);
}
  where
    go : Ends test l given → (end ≡ 1) ⊎ ((end ≡ 2) ⊎ (end ≡ 3))
    go (found m f) = inl (h ∙ (found_is test l given m f).0)
    go (none_left n) = inr (inl (h ∙ (none_left_is test l given n).0))
    go (stopped n) = inr (inr (h ∙ (stopped_is test l given n).0))
