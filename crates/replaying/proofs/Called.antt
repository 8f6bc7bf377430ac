-- Proofs. Replay called with any stock, strip and pairs: refused by 1 to 6, by 15 or 16, or else what is told.
use Prim.Native.Nat.{ℕ, ◌≤◌}
use mathlib.Core.Path.{◌≡◌, ◌∙◌}
use mathlib.Core.List.{List, [], ◌∷◌, ◌++◌}
use Rattle.std.specs.Prelude.{Result, Ok}
use Rattle.std.specs.Result.{IsErrAnd}
use Rattle.std.proofs.lemmas.Result.{err_from_is_err_and}
use Rattle.rules.specs.Stock.{sum, total, IsStock, IsStrip}
use Rattle.rules.specs.Refusals.{No, fine, first_of, check_nos}
use Rattle.rules.proofs.Checks.{accepted_both}
use Rattle.stock.specs.declared.refused.Refused.{Refused}
use Rattle.stock.specs.Refused.{no_of, answered}
use Rattle.stock.proofs.Told.{passed, passed_next, stopped_first, passed_left, stopped_left, passed_answer, stopped_answer}
use Rattle.bar.specs.Bar.{final_strip}
use Rattle.bar.specs.Pairs.{large_no, pairs_no}
use Rattle.bar.proofs.Pairs.{Right}
use Rattle.bar.proofs.Refused.{rows_passed}
use Rattle.replaying.specs.Answers.{replay_nos, as_replayed, told, replay_answer, replay_after}

module _ (counts s pairs : List ℕ) where
  abbrev list_nos : List No
  list_nos = large_no counts ∷ pairs_no counts pairs ∷ []

  -- the answer and the strip are those of a replay
  abbrev pub Answers : Result (ℕ × ℕ × ℕ) Refused → List ℕ → Type 0
  Answers r t = (answered as_replayed (0, 0, 0) r ≡ replay_answer counts s pairs) × (t ≡ replay_after counts s pairs)

  refused_by : (e : Refused) → no_of e ≡ first_of (replay_nos counts s pairs) → (r : Result (ℕ × ℕ × ℕ) Refused) → IsErrAnd r (λ y. y ≡ e) → Answers r s
  unfolding replay_answer replay_after
  refused_by e is r h =
      let nos = replay_nos counts s pairs in
      let p = err_from_is_err_and r h in
      rw (p.1, p.2) (stopped_answer nos (0, 0, 0) (told counts s pairs) as_replayed e is, stopped_left nos s (final_strip s pairs) e is)

  pub refused_early : (e : Refused) → no_of e ≡ first_of (check_nos counts s) → (r : Result (ℕ × ℕ × ℕ) Refused) → IsErrAnd r (λ y. y ≡ e) → Answers r s
  unfolding replay_nos
  refused_early e is r h = refused_by e (stopped_first (check_nos counts s) e is list_nos) r h

  module _ (good : fine ≡ first_of (check_nos counts s)) where
    pub both : IsStock counts × IsStrip counts s
    both = accepted_both counts s (passed (check_nos counts s) good)

    pub refused_list : (e : Refused) → no_of e ≡ first_of list_nos → (r : Result (ℕ × ℕ × ℕ) Refused) → IsErrAnd r (λ y. y ≡ e) → Answers r s
    unfolding replay_nos
    refused_list e is r h = refused_by e (passed_next (check_nos counts s) list_nos good (no_of e) is) r h

    module _ (listed : fine ≡ first_of list_nos) where
      pub right : (total counts ≤ 4096) × Right (sum counts) pairs
      right = rows_passed counts pairs (passed list_nos listed)

      pub replayed : (w : ℕ × ℕ × ℕ) (t : List ℕ) → w ≡ told counts s pairs → t ≡ final_strip s pairs → Answers (Ok w) t
      unfolding replay_nos replay_answer replay_after
      replayed w t e f =
          let nos = check_nos counts s ++ list_nos in
          let none : fine ≡ first_of nos = passed_next (check_nos counts s) list_nos good fine listed in
          (rw e (passed_answer nos (0, 0, 0) (told counts s pairs) as_replayed none), f ∙ passed_left nos s (final_strip s pairs) none)
