-- Theorems on Replay, over its contract as the function states it: `Post` says which answers it allows for which input.
use Prim.Native.Nat.{ℕ, ◌≤◌}
use mathlib.Core.Path.{◌≡◌, sym, ap, ◌∙◌}
use mathlib.Core.List.{List, [], ◌∷◌}
use contract.Lifetimes.{Lfts}
use borrow.Fn.Kinds.{Dens, ended_of}
use denote.Triple.Clauses.{AtExit}
use Rattle.rules.specs.Stock.{sum, total, IsStock, IsStrip}
use Rattle.rules.specs.Book.{book}
use Rattle.rules.specs.Refusals.{No, first_of, check_nos}
use Rattle.rules.specs.Outcome.{OneOutcome}
use Rattle.rules.proofs.Refusals.{passed_both, passed_both_back, unless_refused, unless_passed}
use Rattle.rules.proofs.Checks.{accepted_both, accepted_both_back}
use Rattle.bar.specs.Bar.{stood, final_strip, walked, different, missing}
use Rattle.bar.specs.Pairs.{large_no, pairs_no}
use Rattle.bar.proofs.Pairs.{Right}
use Rattle.bar.proofs.Refused.{rows_passed, rows_passed_back}
use Rattle.replaying.specs.declared.replay.Replayed.{Replayed}
use Rattle.replaying.specs.Answers.{replay_nos, told, replay_answer, replay_after}
use Rattle.replaying.proofs.replay.replay.Kinds as replay
use Rattle.replaying.proofs.replay.replay.Reads as reads

-- one outcome: two that the contract allows for one input are the same
pub one_outcome : OneOutcome 3 replay.ps replay.r (λ κs s. s.1.0.now) reads.Post
one_outcome κs a x y s t h k = (h.0 ∙ sym k.0, h.1 ∙ sym k.1)

-- what an answer must be, and what is then in the strip
pub record ReplayRight (counts s pairs : List ℕ) (r : Replayed) (t : List ℕ) : Type 0 where
  pub accepts : r.refusal.no ≡ 0 → IsStock counts × IsStrip counts s × (total counts ≤ 4096) × Right (sum counts) pairs
  pub accepted : IsStock counts → IsStrip counts s → total counts ≤ 4096 → Right (sum counts) pairs → r.refusal.no ≡ 0
  pub walks : r.refusal.no ≡ 0 → r.walked ≡ walked counts s pairs
  pub differs : r.refusal.no ≡ 0 → r.different ≡ different (stood s pairs) (book counts)
  pub misses : r.refusal.no ≡ 0 → r.missing ≡ missing (stood s pairs) (book counts)
  pub leaves : r.refusal.no ≡ 0 → t ≡ final_strip s pairs
  pub kept : (r.refusal.no ≡ 0 → ⊥) → (r.walked ≡ 0) × (r.different ≡ 0) × (r.missing ≡ 0) × (t ≡ s)

abbrev three : Replayed → ℕ × ℕ × ℕ
three r = (r.walked, r.different, r.missing)

module _ (counts s pairs : List ℕ) (r : Replayed) (t : List ℕ) (h : r ≡ replay_answer counts s pairs) (k : t ≡ replay_after counts s pairs) where
  abbrev first : No
  first = first_of (replay_nos counts s pairs)

  abbrev list_nos : List No
  list_nos = large_no counts ∷ pairs_no counts pairs ∷ []

  no_is : r.refusal.no ≡ first.0
  unfolding replay_answer
  no_is = ap (λ (r : Replayed). r.refusal.no) h

  takes : r.refusal.no ≡ 0 → IsStock counts × IsStrip counts s × (total counts ≤ 4096) × Right (sum counts) pairs
  unfolding replay_nos
  takes e =
      let p = passed_both (check_nos counts s) list_nos (sym no_is ∙ e) in
      let a = accepted_both counts s p.0 in
      let b = rows_passed counts pairs p.1 in
      (a.0, a.1, b.0, b.1)

  takes_back : IsStock counts → IsStrip counts s → total counts ≤ 4096 → Right (sum counts) pairs → r.refusal.no ≡ 0
  unfolding replay_nos
  takes_back stock own small right = no_is ∙ passed_both_back (check_nos counts s) list_nos (accepted_both_back counts s stock own) (rows_passed_back counts pairs small right)

  tells : r.refusal.no ≡ 0 → three r ≡ told counts s pairs
  unfolding replay_answer
  tells e = ap three h ∙ unless_passed (0, 0, 0) (told counts s pairs) first (sym no_is ∙ e)

  keeps : (r.refusal.no ≡ 0 → ⊥) → three r ≡ (0, 0, 0)
  unfolding replay_answer
  keeps e = ap three h ∙ unless_refused (0, 0, 0) (told counts s pairs) first (λ z. e (no_is ∙ z))

  right : ReplayRight counts s pairs r t
  unfolding told replay_after
  right = record {
    accepts = takes;
    accepted = takes_back;
    walks = λ e. ap (λ (x : ℕ × ℕ × ℕ). x.0) (tells e);
    differs = λ e. ap (λ (x : ℕ × ℕ × ℕ). x.1) (tells e);
    misses = λ e. ap (λ (x : ℕ × ℕ × ℕ). x.2) (tells e);
    leaves = λ e. k ∙ unless_passed s (final_strip s pairs) first (sym no_is ∙ e);
    kept = λ e.
        let z = keeps e in (
          ap (λ (x : ℕ × ℕ × ℕ). x.0) z,
          ap (λ (x : ℕ × ℕ × ℕ). x.1) z,
          ap (λ (x : ℕ × ℕ × ℕ). x.2) z,
          k ∙ unless_refused s (final_strip s pairs) first (λ z. e (no_is ∙ z)),
        );
  }

pub replay_right : (κs : Lfts 3) (a : Dens κs replay.ps) (r : Replayed) (s : AtExit (ended_of 3 replay.ps replay.r) κs) → reads.Post κs a r s
    → ReplayRight a.0.now a.1.0.now a.1.1.0.now r s.1.0.now
replay_right κs a r s h = right a.0.now a.1.0.now a.1.1.0.now r s.1.0.now h.0 h.1
