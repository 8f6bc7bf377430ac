-- Proofs. The numbers of the records that differ, as they are found: how many, and the first.
use Prim.Native.Nat.{ℕ, zero, suc, ◌+◌, ◌≤◌, ◌<◌}
use mathlib.Core.Path.{◌≡◌, refl, sym, ap, ◌∙◌}
use mathlib.Core.Bool.{Bool, true, false, not, true≢false}
use mathlib.Core.List.{List, [], ◌∷◌, ◌++◌, append-nil}
use native.Mathlib.Numerals.{add-one}
use native.Mathlib.Decide.{ℕ_discrete}
use native.Mathlib.Omega.{arith}
use lib.ListN.{length, get_or, length-append}
use Rattle.rules.specs.Book.{same}
use Rattle.rules.proofs.Places.{same_self, same_true}
use Rattle.rebuilding.specs.declared.differing.Found.{Found}
use Rattle.std.proofs.Common.{None, eqb}
use Rattle.std.proofs.lemmas.Bool.Decides.{Decides-eqb}
use Rattle.std.specs.Cmp.Lexicographic.{pointwise}
use Rattle.std.proofs.lemmas.Slice.Eq.{slice_eq-Decides}
use Rattle.rebuilding.specs.Rebuilding.{bytes_behind, unless_same, differing}
use Rattle.rebuilding.specs.Parts.{Holds, Joins}

-- ---- the numbers of the records that differ

one_or_none : (b : Bool) (i : ℕ) → length (unless_same b i) ≤ 1
one_or_none true i = omega arith
one_or_none false i = omega arith

none_same : (b : Bool) (i : ℕ) → length (unless_same b i) ≡ 0 → b ≡ true
none_same true i e = refl
none_same false i e = absurd (omega arith)

not_same : (a b : List ℕ) → same a b ≡ false → a ≡ b → ⊥
not_same a b f e = true≢false (sym (rw e (same_self b)) ∙ f)

-- what the test of two slices says
module _ (a b : List ℕ) where
  pub like : false ≡ not (pointwise eqb a b) → a ≡ b
  like e = go (pointwise eqb a b) refl e
    where
      go : (r : Bool) → r ≡ pointwise eqb a b → false ≡ not r → a ≡ b
      go true k e = (slice_eq-Decides Decides-eqb a b true k).0 refl
      go false k e = absurd (true≢false (sym e))

  pub unlike : true ≡ not (pointwise eqb a b) → a ≡ b → ⊥
  unlike e h = go (pointwise eqb a b) refl e
    where
      go : (r : Bool) → r ≡ pointwise eqb a b → true ≡ not r → ⊥
      go true k e = true≢false e
      go false k e = true≢false (sym ((slice_eq-Decides Decides-eqb a b false k).1 h))

other_false : (a b : List ℕ) → (a ≡ b → ⊥) → same a b ≡ false
other_false a b h = go (same a b) refl
  where
    go : (r : Bool) → same a b ≡ r → r ≡ false
    go true e = absurd (h (same_true a b e))
    go false e = refl

module _ (proper damaged : List ℕ) where
  -- whether the record of move c + 1 is the same
  abbrev alike : ℕ → Bool
  alike c = same (bytes_behind c proper) (bytes_behind c damaged)

  pub none_yet : Holds (differing proper damaged 0) (record { many = 0; first = None })
  unfolding differing
  none_yet = record { many = refl; first = refl }

  -- with one record more
  pub next_same : (c : ℕ) (f : Found) → Holds (differing proper damaged c) f → bytes_behind c proper ≡ bytes_behind c damaged → Holds (differing proper damaged (c + 1)) f
  unfolding differing
  next_same c f h e = rw (add-one c, e, same_self (bytes_behind c damaged), append-nil (differing proper damaged c)) h

  pub next_other : (c : ℕ) (f r : Found) → Holds (differing proper damaged c) f → (bytes_behind c proper ≡ bytes_behind c damaged → ⊥) → Joins f (c + 1) r
      → Holds (differing proper damaged (c + 1)) r
  unfolding differing
  next_other c f r h e j = rw (add-one c, other_false (bytes_behind c proper) (bytes_behind c damaged) e) (rw (add-one c) at (j.joined (differing proper damaged c) h))

  -- no more differ than there are
  pub few : (c : ℕ) → length (differing proper damaged c) ≤ c
  unfolding differing
  few zero = omega arith
  few (suc c) =
      omega (arith, few c, length-append (differing proper damaged c) (unless_same (alike c) (suc c)), one_or_none (alike c) (suc c))

  pub fewer : (c : ℕ) (f : Found) → Holds (differing proper damaged c) f → f.many ≤ c
  fewer c f h = omega (arith, h.many, few c)

  -- the first of them is 0 only where there is none: they count from 1
  pub first_none : (c : ℕ) → get_or (differing proper damaged c) 0 0 ≡ 0 → length (differing proper damaged c) ≡ 0
  unfolding differing
  first_none zero e = refl
  first_none (suc c) e = go (differing proper damaged c) (alike c) (first_none c) e
    where
      go : (l : List ℕ) (b : Bool) → (get_or l 0 0 ≡ 0 → length l ≡ 0) → get_or (l ++ unless_same b (suc c)) 0 0 ≡ 0 → length (l ++ unless_same b (suc c)) ≡ 0
      go [] true h e = refl
      go [] false h e = absurd (omega arith)
      go (x ∷ l) b h e = absurd (omega (arith, h e))

  -- where none differs, each record is the same
  pub all_same : (c : ℕ) → length (differing proper damaged c) ≡ 0 → (i : ℕ) → i < c → bytes_behind i proper ≡ bytes_behind i damaged
  unfolding differing
  all_same zero e i h = absurd (omega arith)
  all_same (suc c) e i h =
      let n = length-append (differing proper damaged c) (unless_same (alike c) (suc c)) in
      elim (ℕ_discrete i c) [
        | yes k ↦ rw k (same_true (bytes_behind c proper) (bytes_behind c damaged) (none_same (alike c) (suc c) (omega (arith, n, e))))
        | no k ↦ all_same c (omega (arith, n, e)) i (omega arith)
      ]

  -- the record of move i + 1 differs, and of no move before it
  abbrev FirstAt : ℕ → ℕ → Type 0
  FirstAt c i = (i < c) × (bytes_behind i proper ≡ bytes_behind i damaged → ⊥) × ((j : ℕ) → j < i → bytes_behind j proper ≡ bytes_behind j damaged)

  pub first_differs : (c i : ℕ) → get_or (differing proper damaged c) 0 0 ≡ suc i → FirstAt c i
  unfolding differing
  first_differs zero i e = absurd (omega arith)
  first_differs (suc c) i e = go (first_differs c i) (differing proper damaged c) refl (alike c) refl e
    where
      go : (get_or (differing proper damaged c) 0 0 ≡ suc i → FirstAt c i) → (l : List ℕ) → differing proper damaged c ≡ l → (b : Bool) → alike c ≡ b
          → get_or (l ++ unless_same b (suc c)) 0 0 ≡ suc i → FirstAt (suc c) i
      go before [] d true f e = absurd (omega arith)
      go before [] d false f e =
          let n : i ≡ c = omega arith in
          (omega arith, rw n (not_same (bytes_behind c proper) (bytes_behind c damaged) f), λ j h. all_same c (ap length d) j (omega arith))
      go before (x ∷ l) d b f e = let p = before (rw d e) in (omega (arith, p.0), p.1, p.2)

pub none_first : (l : List ℕ) → length l ≡ 0 → get_or l 0 0 ≡ 0
none_first [] e = refl
none_first (x ∷ l) e = absurd (omega arith)

-- in a sheet beside itself none differs
pub none_differ : (sheet : List ℕ) (c : ℕ) → differing sheet sheet c ≡ []
unfolding differing
none_differ sheet zero = refl
none_differ sheet (suc c) = rw (none_differ sheet c, same_self (bytes_behind c sheet))
