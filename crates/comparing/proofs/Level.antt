-- Proofs. Two strips while they are compared: j kinds are done, and in those the strips are alike.
use Prim.Native.Nat.{ℕ, ◌+◌, ◌*◌, ◌≤◌, ◌<◌}
use mathlib.Core.Path.{◌≡◌, refl, sym, ap, ◌∙◌}
use mathlib.Core.Bool.{Bool, false, not, beq}
use mathlib.Core.List.{List}
use native.Mathlib.Omega.{arith}
use lib.ListN.{length, get_or, take, drop, drop_of_length-le}
use Rattle.rules.specs.Stock.{sum, binom, IsStock, IsStrip}
use Rattle.rules.specs.Book.{odd, reduced, book, place_in}
use Rattle.rules.specs.Refusals.{smallest_from}
use Rattle.rules.proofs.Smallest.{smallest_here, smallest_on}
use Rattle.rules.proofs.Listed.{differs, face}
use Rattle.rules.proofs.Snake.{numbered}
use Rattle.rules.proofs.Strips.{number}
use Rattle.rules.proofs.Index.{index, rests}
use Rattle.rules.proofs.Reduced.{prefix_all}
use Rattle.rules.proofs.Prefixes.{OneMore, one_more}
use Rattle.rules.proofs.Upward as upward
use Rattle.rules.proofs.Upward.{Upward}
use Rattle.comparing.specs.Order.{which_of, is_parted, parting_kind}
use Rattle.comparing.specs.Along.{which_along}
use Rattle.comparing.proofs.Numbers.{which_equal, only_equal}
use Rattle.comparing.proofs.LetterByLetter.{along_moved, along_faced}
use Rattle.comparing.proofs.Ahead.{same_number, decides}
use Rattle.comparing.proofs.Parting.{parted_yes, parted_no, alike_one}

pub record Level (counts s t : List ℕ) (before : Bool) (below j : ℕ) : Type 0 where
  pub up : Upward counts s before below j
  pub alike : reduced j s ≡ reduced j t
  pub parts : smallest_from (j + 1) (is_parted s t) (drop j counts) ≡ parting_kind counts s t

pub start : (counts s t : List ℕ) → IsStock counts → IsStrip counts s → IsStrip counts t → Level counts s t false (get_or counts 0 0) 1
start counts s t stock hs ht = record { up = upward.start_one counts s stock hs; alike = alike_one counts s t stock.some hs ht; parts = refl }

module _ {counts s t : List ℕ} {before : Bool} {below j : ℕ} (l : Level counts s t before below j) (hs : IsStrip counts s) (ht : IsStrip counts t) where
  -- ---- the next kind

  module _ (h : j < length counts) where
    m₁ : OneMore counts s j (j + 1)
    m₁ = one_more counts s hs j h

    m₂ : OneMore counts t j (j + 1)
    m₂ = one_more counts t ht j h

    pub as_long : length (reduced (j + 1) s) ≡ length (reduced (j + 1) t)
    as_long = m₁.letters ∙ sym m₂.letters

    pub as_many_rests : rests (j + 1) (reduced (j + 1) s) ≡ rests (j + 1) (reduced (j + 1) t)
    as_many_rests = m₁.others ∙ sym m₂.others

    -- of either strip, the index of its pattern and the number of its reduced strip
    abbrev i₁ : ℕ
    i₁ = index (j + 1) (reduced (j + 1) s)

    abbrev i₂ : ℕ
    i₂ = index (j + 1) (reduced (j + 1) t)

    abbrev x₁ : ℕ
    x₁ = number (take (j + 1) counts) (reduced (j + 1) s)

    abbrev x₂ : ℕ
    x₂ = number (take (j + 1) counts) (reduced (j + 1) t)

    -- the number that they share before, and how many patterns the kind has
    abbrev q : ℕ
    q = number (take j counts) (reduced j s)

    abbrev n : ℕ
    n = binom (sum (take (j + 1) counts)) (sum (take j counts))

    next₁ : x₁ ≡ numbered n q i₁
    next₁ = sym m₁.next

    next₂ : x₂ ≡ numbered n q i₂
    next₂ = sym (rw (← l.alike) at m₂.next)

    -- the order of the patterns, as their list runs, is that of the reduced strips
    order_is : which_of x₁ x₂ ≡ which_along before i₁ i₂
    unfolding numbered
    order_is =
        rw (next₁, next₂, ← l.up.parity)
        (along_moved false (q * n) (face (odd q) n i₁) (face (odd q) n i₂) ∙ along_faced false (odd q) n i₁ i₂ m₁.within m₂.within ∙ ap (λ (b : Bool). which_along b i₁ i₂) (differs false (odd q)))

    module _ {order : ℕ} (is : order ≡ which_along before i₁ i₂) where
      -- they differ, and the order is settled
      module _ (ne : order ≡ 3 → ⊥) where
        differ : reduced (j + 1) s ≡ reduced (j + 1) t → ⊥
        differ e = ne (is ∙ sym order_is ∙ which_equal x₁ x₂ (ap (number (take (j + 1) counts)) e))

        settled : order ≡ which_of (place_in (book counts) s) (place_in (book counts) t)
        settled = is ∙ sym order_is ∙ decides counts s t hs ht (j + 1) (omega arith) differ

        parts_now : j + 1 ≡ parting_kind counts s t
        parts_now = sym (smallest_here (is_parted s t) (j + 1) counts j h (parted_yes s t (j + 1) differ)) ∙ l.parts

        pub parted : (order ≡ which_of (place_in (book counts) s) (place_in (book counts) t)) × (j + 1 ≡ parting_kind counts s t)
        parted = (settled, parts_now)

      -- or they are alike in one kind more
      module _ (e : order ≡ 3) where
        alike_next : reduced (j + 1) s ≡ reduced (j + 1) t
        alike_next = same_number counts s t hs ht (j + 1) (omega arith) (only_equal x₁ x₂ (order_is ∙ sym is ∙ e))

        parts_next : smallest_from (j + 1 + 1) (is_parted s t) (drop (j + 1) counts) ≡ parting_kind counts s t
        parts_next = sym (smallest_on (is_parted s t) (j + 1) counts j h (parted_no s t (j + 1) alike_next)) ∙ l.parts

        pub on : {n : ℕ} {odd_index : Bool} → n ≡ length (reduced (j + 1) s) → odd_index ≡ odd (index (j + 1) (reduced (j + 1) s)) → Level counts s t (not (beq before odd_index)) n (j + 1)
        on n_is index_is = record { up = upward.on l.up hs h n_is index_is; alike = alike_next; parts = parts_next }

  -- ---- no kind is left

  module _ (h : length counts ≤ j) where
    equal : s ≡ t
    equal =
        let e : j ≡ length counts = omega (arith, l.up.done) in
        sym (prefix_all counts s hs) ∙ (rw e at l.alike) ∙ prefix_all counts t ht

    never_parts : 0 ≡ parting_kind counts s t
    unfolding smallest_from
    never_parts = rw (drop_of_length-le counts h) at l.parts

    pub end : (3 ≡ which_of (place_in (book counts) s) (place_in (book counts) t)) × (0 ≡ parting_kind counts s t)
    end = (sym (which_equal _ _ (ap (place_in (book counts)) equal)), never_parts)
