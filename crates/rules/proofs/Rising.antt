-- Proofs. A strip while it is laid kind after kind: the first places hold what the first j kinds make, `part j`.
use Prim.Native.Nat.{ℕ, suc, ◌+◌, ◌≤◌, ◌<◌}
use mathlib.Core.Path.{◌≡◌, refl, sym, ap, ◌∙◌}
use mathlib.Core.List.{List, []}
use native.Mathlib.Numerals.{add-one}
use native.Mathlib.Omega.{arith}
use lib.ListN.{length, get_or, take}
use lib.Seq.{take_all, length-take-le}
use Rattle.rules.specs.Stock.{sum}
use Rattle.rules.proofs.Turned.{sum_next}
use Rattle.rules.proofs.Prefixes.{sum_take}

pub record Rising (part : ℕ → List ℕ) (counts strip : List ℕ) (from j : ℕ) : Type 0 where
  pub done : j ≤ length counts
  pub room : length strip ≡ sum counts
  pub blocks : from ≡ sum (take j counts)
  pub laid : take from strip ≡ part j

pub start : (part : ℕ → List ℕ) (counts strip : List ℕ) → part 0 ≡ [] → length strip ≡ sum counts → Rising part counts strip 0 0
unfolding sum
start part counts strip none room = record { done = omega arith; room = room; blocks = refl; laid = sym none }

module _ {part : ℕ → List ℕ} {counts strip : List ℕ} {from j : ℕ} (s : Rising part counts strip from j) where
  module _ (h : j < length counts) where
    abbrev pub to : ℕ
    to = from + get_or counts j 0

    pub next_blocks : to ≡ sum (take (suc j) counts)
    next_blocks = omega (arith, s.blocks, sum_next counts j h)

    pub within : to ≤ length strip
    within = omega (arith, next_blocks, s.room, sum_take counts (suc j))

    pub long : length (take to strip) ≡ to
    long = length-take-le to strip within

    -- the next kind is laid in
    pub on : (next : List ℕ) → length next ≡ length strip → take to next ≡ part (suc j) → Rising part counts next to (j + 1)
    on next same laid =
        let r : Rising part counts next to (suc j) = record { done = h; room = same ∙ s.room; blocks = next_blocks; laid = laid } in
        rw (add-one j) r

  pub end : length counts ≤ j → strip ≡ part (length counts)
  end h =
      let e : j ≡ length counts = omega (arith, s.done) in
      let f : from ≡ length strip = s.blocks ∙ ap sum (take_all j counts h) ∙ sym s.room in
      sym (take_all from strip (omega arith)) ∙ s.laid ∙ ap part e
