-- Proofs. Walkers, kind by kind: kind i + 1 is at place i of the sixteen directions.
use Prim.Native.Nat.{ℕ, zero, suc, ◌+◌, ◌<◌}
use mathlib.Core.Path.{◌≡◌, refl, sym, ap, ◌∙◌}
use mathlib.Core.Bool.{Bool, false, ◌&&◌}
use mathlib.Core.List.{List, [], ◌∷◌, map}
use native.Mathlib.Decide.{ℕ_discrete}
use native.Mathlib.Numerals.{one-add}
use native.Mathlib.Omega.{arith}
use lib.Dec.{leb}
use lib.ListN.{length, get_or, set, length-set}
use lib.Seq.{ext_get_or, get_or-set_same, get_or-set_other}
use Rattle.rules.specs.Book.{backward}
use Rattle.rules.proofs.Listed.{get_or_map'}
use Rattle.walker.specs.declared.Walker.{Walker}
use Rattle.walker.specs.Walkers.{kinds, directions, walker_for}

-- n numbers from p on
up_from : ℕ → ℕ → List ℕ
up_from p zero = []
up_from p (suc n) = p ∷ up_from (suc p) n

up_at : (p n i : ℕ) → i < n → get_or (up_from p n) i 0 ≡ p + i
unfolding up_from
up_at p zero i h = absurd (omega arith)
up_at p (suc n) zero h = omega arith
up_at p (suc n) (suc i) h = up_at (suc p) n i (omega arith) ∙ omega arith

kind_at : (i : ℕ) → i < 16 → get_or kinds i 0 ≡ suc i
unfolding up_from
kind_at i h = up_at 1 16 i h ∙ one-add i

pub at_kind : (f : ℕ → Bool) (i : ℕ) → i < 16 → get_or (map f kinds) i false ≡ f (suc i)
at_kind f i h = get_or_map' f kinds i 0 false h ∙ ap f (kind_at i h)

-- ---- two walkers with the same directions

abbrev Long : Walker → Type 0
Long w = length w.back ≡ 16

pub same_walker : (v w : Walker) → Long v → Long w → ((i : ℕ) → i < 16 → get_or v.back i false ≡ get_or w.back i false) → v ≡ w
same_walker v w k l h = ap (λ (d : List Bool). record { back = d }) (ext_get_or false v.back w.back (k ∙ sym l) (λ i m. h i (omega arith)))

-- a walker with the direction of kind j + 1 stored
module _ (v w : Walker) (k : Long v) (l : Long w) (j : ℕ) (b : Bool) (h : j < 16) (new : b ≡ get_or w.back j false)
    (old : (i : ℕ) → i < 16 → (i ≡ j → ⊥) → get_or v.back i false ≡ get_or w.back i false) where
  each : (i : ℕ) → i < 16 → Dec (i ≡ j) → get_or (set v.back j b) i false ≡ get_or w.back i false
  each i m (yes e) = rw e (get_or-set_same v.back j b false (omega arith) ∙ new)
  each i m (no e) = get_or-set_other v.back j i b false e ∙ old i m e

  pub stored : record { back = set v.back j b } ≡ w
  stored = same_walker (record { back = set v.back j b }) w (length-set v.back j b ∙ k) l (λ i m. each i m (ℕ_discrete i j))

-- ---- the walker of a strip

-- the walker of a strip, with the directions of the kinds up to the last alone
unfoldable pub walker_to : List ℕ → List ℕ → ℕ → Walker
walker_to counts s last = record { back = map (λ j. leb j last && backward counts j s) kinds }

pub walker_to_lem : (counts s : List ℕ) → walker_for counts s ≡ walker_to counts s (length counts)
unfolding walker_for directions walker_to
walker_to_lem counts s = refl

module _ (counts s : List ℕ) (last : ℕ) where
  pub to_long : length (walker_to counts s last).back ≡ 16
  unfolding walker_to
  to_long = refl

  pub to_at : (i : ℕ) → i < 16 → get_or (walker_to counts s last).back i false ≡ leb (suc i) last && backward counts (suc i) s
  unfolding walker_to
  to_at = at_kind (λ j. leb j last && backward counts j s)
