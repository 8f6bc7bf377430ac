-- Proofs. The walker while it is built: j kinds have their directions, and the parity of the reduced strip's number at j is known.
use Prim.Native.Nat.{ℕ, suc, ◌+◌, ◌≤◌, ◌<◌}
use mathlib.Core.Path.{◌≡◌, refl, sym, ap, ◌∙◌}
use mathlib.Core.Bool.{Bool, false, not, ◌&&◌, beq}
use mathlib.Core.List.{List}
use native.Mathlib.Decide.{dec_lt}
use native.Mathlib.Numerals.{add-one}
use native.Mathlib.Omega.{arith}
use borrow.Author.Tests.{le-leb, lt-leb}
use lib.Dec.{leb}
use lib.ListN.{length, get_or, set}
use Rattle.rules.specs.Stock.{IsStock, IsStrip}
use Rattle.rules.specs.Book.{odd, reduced, backward}
use Rattle.rules.proofs.Index.{index}
use Rattle.rules.proofs.Parity.{backward_number}
use Rattle.rules.proofs.Upward as upward
use Rattle.rules.proofs.Upward.{Upward}
use Rattle.walker.specs.declared.Walker.{Walker}
use Rattle.walker.specs.Walkers.{walker_for, all_forward}
use Rattle.walker.proofs.ByKind.{stored, walker_to, walker_to_lem, to_long, to_at}

-- ---- the walker, with one kind more

one_to : (counts s : List ℕ) (j : ℕ) → j < 16 → record { back = set (walker_to counts s j).back j (backward counts (suc j) s) } ≡ walker_to counts s (suc j)
one_to counts s j h = stored (walker_to counts s j) (walker_to counts s (suc j)) (to_long counts s j) (to_long counts s (suc j)) j _ h new old
  where
    new : backward counts (suc j) s ≡ get_or (walker_to counts s (suc j)).back j false
    new = sym (rw (le-leb (suc j) (suc j) (omega arith)) at (to_at counts s (suc j) j h))

    same : (i : ℕ) → (i ≡ j → ⊥) → leb (suc i) j ≡ leb (suc i) (suc j)
    same i e = elim (dec_lt i j) [
      | yes l ↦ le-leb (suc i) j l ∙ sym (le-leb (suc i) (suc j) (omega arith))
      | no l ↦ lt-leb (suc i) j (omega arith) ∙ sym (lt-leb (suc i) (suc j) (omega arith))
    ]

    old : (i : ℕ) → i < 16 → (i ≡ j → ⊥) → get_or (walker_to counts s j).back i false ≡ get_or (walker_to counts s (suc j)).back i false
    old i l e = to_at counts s j i l ∙ ap (λ (b : Bool). b && backward counts (suc i) s) (same i e) ∙ sym (to_at counts s (suc j) i l)

-- ---- the loop

pub record Built (counts s : List ℕ) (w : Walker) (before : Bool) (below j : ℕ) : Type 0 where
  pub up : Upward counts s before below j
  pub so_far : w ≡ walker_to counts s j

pub start : (counts s : List ℕ) → Built counts s all_forward false 0 0
unfolding walker_to
start counts s = record { up = upward.start counts s; so_far = refl }

module _ (counts s : List ℕ) (w : Walker) (before : Bool) (below j : ℕ) (b : Built counts s w before below j) where
  module _ (stock : IsStock counts) (strip : IsStrip counts s) (h : j < length counts) where
    stored_now : record { back = set w.back j before } ≡ walker_to counts s (j + 1)
    stored_now =
        let e : before ≡ backward counts (suc j) s = sym (backward_number counts s strip j (omega arith) ∙ b.up.parity) in
        rw (b.so_far, e, add-one j) (one_to counts s j (omega (arith, stock.few)))

    pub on : (n : ℕ) (odd_index : Bool) → n ≡ length (reduced (j + 1) s) → odd_index ≡ odd (index (j + 1) (reduced (j + 1) s)) → Built counts s (record { back = set w.back j before }) (not (beq before odd_index)) n (j + 1)
    on n odd_index n_is index_is = record { up = upward.on b.up strip h n_is index_is; so_far = stored_now }

  pub end : length counts ≤ j → w ≡ walker_for counts s
  end h =
      let e : j ≡ length counts = omega (arith, b.up.done) in
      b.so_far ∙ ap (walker_to counts s) e ∙ sym (walker_to_lem counts s)
