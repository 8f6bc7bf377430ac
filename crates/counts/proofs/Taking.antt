-- Proofs. Which bytes are digits that may stand next in a count.
use Prim.Native.Nat.{ℕ, ◌≤◌, ◌<◌}
use mathlib.Core.Path.{◌≡◌, refl}
use mathlib.Core.Bool.{Bool, true, false, not, ◌&&◌, ◌||◌, false≢true}
use borrow.Author.Tests.{leb-true, ltb-true, le-leb, lt-ltb}
use lib.Dec.{ltb, leb}
use Rattle.counts.specs.Reading.{takes}

pub both : (a b : Bool) → a && b ≡ true → (a ≡ true) × (b ≡ true)
both true b h = (refl, h)
both false b h = absurd (false≢true h)

pub record Taken (begun : Bool) (value b : ℕ) : Type 0 where
  pub low : 48 ≤ b
  pub high : b ≤ 57
  pub few : value < 100
  pub after : begun ≡ true → 0 < value

module _ (begun : Bool) (value b : ℕ) where
  pub taken : takes begun value b ≡ true → Taken begun value b
  taken t =
      let p = both (leb 48 b) _ t in
      let q = both (leb b 57) _ p.1 in
      let r = both (ltb value 100) _ q.1 in
      record { low = leb-true 48 b p.0; high = leb-true b 57 q.0; few = ltb-true value 100 r.0; after = λ e. ltb-true 0 value (rw e at r.1) }

  pub taken_back : Taken begun value b → takes begun value b ≡ true
  taken_back t = rw (le-leb 48 b t.low, le-leb b 57 t.high, lt-ltb value 100 t.few) (go begun t.after)
    where
      go : (x : Bool) → (x ≡ true → 0 < value) → not x || ltb 0 value ≡ true
      go false f = refl
      go true f = lt-ltb 0 value (f refl)
