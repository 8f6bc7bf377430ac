-- Theorem. Calls of next paper, each lent the strip that the one before left, from the first strip in dictionary order and with enough steps: they list every paper of the stock, once.
use Prim.Native.Nat.{ℕ, zero, suc, ◌+◌, ◌≤◌, ◌<◌}
use mathlib.Core.Path.{◌≡◌, refl, ap}
use mathlib.Core.Bool.{true}
use mathlib.Core.Logic.{◌⊎◌, inl, inr}
use mathlib.Core.List.{List, [], ◌∷◌}
use native.Mathlib.Omega.{arith}
use lib.ListN.{length, get_or}
use Rattle.rules.specs.Stock.{total, IsStock, IsStrip}
use Rattle.papers.specs.Papers.{is_a_turn}
use Rattle.dictionary.specs.Dictionary.{dictionary}
use Rattle.searching.specs.Searching.{later}
use Rattle.searching.proofs.Theorems.{SearchRight}
use Rattle.standing.specs.Standing.{stands_for_paper}
use Rattle.endless.proofs.Listing.{papers_of, papers_after, next_of, none_of, first_own, first_later, papers_are, papers_own, papers_all, papers_one}
use Rattle.endless.proofs.Theorems.{NextPaperRight}

-- an answer: its refusal's number, its outcome and its steps
abbrev pub Answer : Type 0
Answer = ℕ × ℕ × ℕ

module _ (counts : List ℕ) (stock : IsStock counts) (given : ℕ) where
  -- a call that is lent the strip s, leaves the strip t and answers r
  abbrev pub Calls : List ℕ → List ℕ → Answer → Type 0
  Calls s t r = NextPaperRight counts s t given r.0 r.1 r.2

  -- with enough steps it goes on to the next of the standing strips, or there is none
  pub data Goes (s t : List ℕ) (r : Answer) : Type 0 where
    on : papers_after counts s ≡ t ∷ papers_after counts t → r.1 ≡ 1 → IsStrip counts t → length (later (dictionary counts) t) ≤ given → Goes s t r
    over : papers_after counts s ≡ [] → r.1 ≡ 2 → Goes s t r

  goes : (s t : List ℕ) (r : Answer) → IsStrip counts s → length (later (dictionary counts) s) ≤ given → Calls s t r → Goes s t r
  goes s t r own enough h = go right.one_of_three
    where
      right : SearchRight stands_for_paper (later (dictionary counts) s) given s r.1 r.2 t
      right = h.searched (h.accepted stock own)

      go : (r.1 ≡ 1) ⊎ ((r.1 ≡ 2) ⊎ (r.1 ≡ 3)) → Goes s t r
      go (inl o) =
          let f = right.found_means o in
          let n = next_of counts s own given f.0 f.1 in
          on (rw f.3 n.0) o (rw f.3 n.1) (rw f.3 (omega (arith, n.2)))
      go (inr (inl o)) = over (none_of counts s given (right.none_left_means o).0) o
      go (inr (inr o)) = absurd (omega (arith, (right.stopped_means o).0.short))

  -- strip n is the n-th of a list, from 0: found, if it is not the last, leads to the next, and after the last none is left
  pub record Lists (l : List (List ℕ)) (n : ℕ) (t : List ℕ) (r : Answer) : Type 0 where
    pub is : t ≡ get_or l n []
    pub found : suc n < length l → r.1 ≡ 1
    pub none_left : suc n ≡ length l → r.1 ≡ 2

  from_strip : (n : ℕ) (at : ℕ → List ℕ) (r : ℕ → Answer) → IsStrip counts (at 0) → length (later (dictionary counts) (at 0)) ≤ given → ((i : ℕ) → Calls (at i) (at (suc i)) (r i))
      → n < suc (length (papers_after counts (at 0))) → Lists (at 0 ∷ papers_after counts (at 0)) n (at n) (r n)
  from_strip zero at r own enough calls l = go (goes (at 0) (at 1) (r 0) own enough (calls 0))
    where
      go : Goes (at 0) (at 1) (r 0) → Lists (at 0 ∷ papers_after counts (at 0)) 0 (at 0) (r 0)
      go (on e o p q) = record { is = refl; found = λ h. o; none_left = λ h. absurd (omega (arith, ap length e)) }
      go (over e o) = record { is = refl; found = λ h. absurd (omega (arith, ap length e)); none_left = λ h. o }
  from_strip (suc n) at r own enough calls l = go (goes (at 0) (at 1) (r 0) own enough (calls 0)) (λ p q. from_strip n (λ i. at (suc i)) (λ i. r (suc i)) p q (λ i. calls (suc i)))
    where
      go : Goes (at 0) (at 1) (r 0)
          → (IsStrip counts (at 1) → length (later (dictionary counts) (at 1)) ≤ given → n < suc (length (papers_after counts (at 1))) → Lists (at 1 ∷ papers_after counts (at 1)) n (at (suc n)) (r (suc n)))
          → Lists (at 0 ∷ papers_after counts (at 0)) (suc n) (at (suc n)) (r (suc n))
      go (on e o p q) rest =
          let c = rest p q (omega (arith, ap length e)) in
          record { is = rw e c.is; found = λ h. c.found (omega (arith, ap length e)); none_left = λ h. c.none_left (omega (arith, ap length e)) }
      go (over e o) rest = absurd (omega (arith, ap length e))

  -- ---- from the first strip

  -- so many papers has the stock
  abbrev pub many : ℕ
  many = length (papers_of counts)

  module _ (enough : total counts ≤ given + 1) (at : ℕ → List ℕ) (r : ℕ → Answer) (first : at 0 ≡ get_or (dictionary counts) 0 []) (calls : (i : ℕ) → Calls (at i) (at (suc i)) (r i)) where
    -- the strips are the standing strips of the dictionary in order
    pub chain_lists : (n : ℕ) → n < many → Lists (papers_of counts) n (at n) (r n)
    chain_lists n l =
        let own : IsStrip counts (at 0) = rw first (first_own counts stock) in
        let few : length (later (dictionary counts) (at 0)) ≤ given = rw first (omega (arith, first_later counts stock)) in
        let e : papers_of counts ≡ at 0 ∷ papers_after counts (at 0) = rw first (papers_are counts stock) in
        rw e (from_strip n at r own few calls (omega (arith, ap length e)))

    -- each of them is a standing strip of the stock
    pub chain_stands : (n : ℕ) → n < many → IsStrip counts (at n) × (stands_for_paper (at n) ≡ true)
    chain_stands n l = rw (chain_lists n l).is (papers_own counts stock n l)

    -- every strip of the stock is the paper of one of them, and of one alone
    pub chain_all : (s : List ℕ) → IsStrip counts s → (n : ℕ) × (n < many) × (is_a_turn s (at n) ≡ true)
    chain_all s own =
        let w = papers_all counts stock s own in
        (w.0, w.1, rw (chain_lists w.0 w.1).is w.2)

    pub chain_once : (s : List ℕ) (n m : ℕ) → IsStrip counts s → n < many → m < many → is_a_turn s (at n) ≡ true → is_a_turn s (at m) ≡ true → n ≡ m
    chain_once s n m own h k e f = papers_one counts stock s n m own h k (rw (chain_lists n h).is at e) (rw (chain_lists m k).is at f)
