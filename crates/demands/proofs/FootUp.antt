-- Document 02, P8. A roll can be hung foot up: a strip read backwards is the same paper. All is said over the contracts of the calls. That P7's sentences hold over the new meaning is EndlessPapers.antt.
use Prim.Native.Nat.{ℕ}
use mathlib.Core.Path.{◌≡◌, sym, ◌∙◌}
use mathlib.Core.Bool.{Bool, true}
use mathlib.Core.List.{List}
use contract.Lifetimes.{Lfts}
use borrow.Fn.Kinds.{Dens, ended_of}
use denote.Triple.Clauses.{AtExit}
use Rattle.rules.specs.Stock.{IsStock, IsStrip}
use Rattle.rules.proofs.Checks.{some_blocks}
use Rattle.papers.specs.Papers.{hung, is_a_turn}
use Rattle.papers.specs.declared.Asked.{Asked}
use Rattle.papers.proofs.Theorems.{accepts, accepted, same_is}
use Rattle.papers.proofs.same_paper.Kinds as same_paper
use Rattle.papers.proofs.same_paper.Reads as same_paper_reads
use Rattle.standing.proofs.OnePaper.{paper_self, paper_back, paper_on, hung_strip, either_end_up}
-- Same paper says yes exactly where the second strip is the first, as it stands or read backwards, turned by some number of places
pub use Rattle.papers.proofs.Theorems.{yes_turned, turned_yes}
-- the standing strip is the smallest over both sets of turns; reversed, preferring not, and then the smallest turn: reverse first, then turn
pub use Rattle.endless.proofs.Theorems.{stand_right}

-- what Same paper answers: its refusal's number, and whether it says yes
pub record Asks (counts first second : List ℕ) (no : ℕ) (same : Bool) : Type 0 where
  pub right : no ≡ 0 → IsStock counts × IsStrip counts first × IsStrip counts second
  pub taken : IsStock counts → IsStrip counts first → IsStrip counts second → no ≡ 0
  pub says : no ≡ 0 → same ≡ is_a_turn first second

-- any answer that the contract allows
pub asks : (κs : Lfts 3) (a : Dens κs same_paper.ps) (r : Asked) (s : AtExit (ended_of 3 same_paper.ps same_paper.r) κs) → same_paper_reads.Post κs a r s
    → Asks a.0.now a.1.0.now a.1.1.0.now r.refusal.no r.same
asks κs a r s h = record { right = accepts κs a r s h; taken = accepted κs a r s h; says = same_is κs a r s h }

-- ---- same paper is an equivalence of the strips of one stock

module _ (counts : List ℕ) where
  pub one_strip : (s : List ℕ) (n : ℕ) (same : Bool) → Asks counts s s n same → n ≡ 0 → same ≡ true
  one_strip s n same q e = let g = q.right e in q.says e ∙ paper_self s (some_blocks counts s g.0 g.1)

  pub other_way_round : (s u : List ℕ) (no₁ : ℕ) (same₁ : Bool) (no₂ : ℕ) (same₂ : Bool) → Asks counts s u no₁ same₁ → Asks counts u s no₂ same₂ → no₁ ≡ 0 → same₁ ≡ true → (no₂ ≡ 0) × (same₂ ≡ true)
  other_way_round s u no₁ same₁ no₂ same₂ p q e y =
      let g = p.right e in
      let f = q.taken g.0 g.2 g.1 in
      (f, q.says f ∙ paper_back s (some_blocks counts s g.0 g.1) u (sym (p.says e) ∙ y))

  pub one_after_other : (s u v : List ℕ) (no₁ : ℕ) (same₁ : Bool) (no₂ : ℕ) (same₂ : Bool) (no₃ : ℕ) (same₃ : Bool) → Asks counts s u no₁ same₁ → Asks counts u v no₂ same₂ → Asks counts s v no₃ same₃
      → no₁ ≡ 0 → no₂ ≡ 0 → same₁ ≡ true → same₂ ≡ true → (no₃ ≡ 0) × (same₃ ≡ true)
  one_after_other s u v no₁ same₁ no₂ same₂ no₃ same₃ p q r e f y z =
      let g = p.right e in
      let i = r.taken g.0 g.1 (q.right f).2 in
      (i, r.says i ∙ paper_on s (some_blocks counts s g.0 g.1) u v (sym (p.says e) ∙ y) (sym (q.says f) ∙ z))

  -- ---- it is not changed by reading either strip backwards, or both

  pub read_backwards : (a b : Bool) (s u : List ℕ) (no₁ : ℕ) (same₁ : Bool) (no₂ : ℕ) (same₂ : Bool) → Asks counts s u no₁ same₁ → Asks counts (hung a s) (hung b u) no₂ same₂ → no₁ ≡ 0
      → (no₂ ≡ 0) × (same₂ ≡ same₁)
  read_backwards a b s u no₁ same₁ no₂ same₂ p q e =
      let g = p.right e in
      let h = some_blocks counts s g.0 g.1 in
      let k = some_blocks counts u g.0 g.2 in
      let f = q.taken g.0 (hung_strip s h counts a g.1) (hung_strip u k counts b g.2) in
      (f, q.says f ∙ either_end_up a b s u h k ∙ sym (p.says e))
