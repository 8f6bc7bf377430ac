-- Proofs. Writing so many bytes called with any stock, strip, count and sheet: refused by 1 to 6, by 13 or by 9, or they are written; and what any such answer says.
use Prim.Native.Nat.{ℕ, ◌≤◌, ◌<◌}
use mathlib.Core.Path.{◌≡◌, refl, sym, ap, ◌∙◌}
use mathlib.Core.List.{List, [], ◌∷◌, ◌++◌}
use borrow.Author.Tests.{lt-ltb, le-ltb, ltb-false}
use lib.ListN.{length, drop}
use Rattle.std.specs.Prelude.{Result}
use Rattle.std.specs.Result.{IsErrAnd}
use Rattle.std.proofs.lemmas.Result.{err_from_is_err_and}
use Rattle.rules.specs.Stock.{IsStock, IsStrip}
use Rattle.rules.specs.Refusals.{No, fine, first_of, unless, check_nos}
use Rattle.rules.proofs.Refusals.{refused_first, passed_first, passed_both, unless_refused, unless_passed}
use Rattle.rules.proofs.Checks.{when_passed, passed_head, accepted_both, accepted_both_back}
use Rattle.stock.specs.declared.refused.Refused.{Refused}
use Rattle.stock.specs.Refused.{no_of, answered}
use Rattle.stock.proofs.Told.{stopped}
use Rattle.walking.specs.Answers.{left}
use Rattle.sheets.specs.declared.Written.{Written}
use Rattle.sheets.specs.Writing.{short_no, fewer_no, put_nos, as_written, put_answer, sheet_put}

module _ (long : ℕ) (bytes counts s : List ℕ) (c : ℕ) (sheet : List ℕ) where
  -- the answer, and what is left in the lent sheet
  abbrev pub Leaves : Written → List ℕ → Type 0
  Leaves r z = (r ≡ put_answer long counts s c sheet) × (z ≡ sheet_put long bytes counts s c sheet)

  by_first : (r : No) → first_of (put_nos long counts s c sheet) ≡ r → Leaves (as_written r (unless r 0 long)) (unless r sheet (bytes ++ drop long sheet))
  unfolding put_answer sheet_put
  by_first r e = rw e (refl, refl)

  -- 1 to 6 refuse
  stopped_by : (e : Refused) → no_of e ≡ first_of (check_nos counts s) → Leaves (as_written (no_of e) 0) sheet
  unfolding put_nos
  stopped_by e is =
      let a = check_nos counts s in
      let k = stopped a e is in
      rw (unless_refused {A = ℕ} 0 _ (first_of a) k, unless_refused sheet _ (first_of a) k, ← is) at (by_first (first_of a) (refused_first a (short_no long sheet ∷ fewer_no counts s c ∷ []) k))

  pub refused : (r : Result ℕ Refused) (e : Refused) → IsErrAnd r (λ y. y ≡ e) → no_of e ≡ first_of (check_nos counts s) → Leaves (answered as_written 0 r) sheet
  refused r e h is = let p = err_from_is_err_and r h in rw (p.1, p.2) (stopped_by e is)

  -- past them
  module _ (none : (first_of (check_nos counts s)).0 ≡ 0) where
    pub no_room : length sheet < long → Leaves (as_written (13, 0) 0) sheet
    unfolding put_nos first_of
    no_room h = by_first (13, 0) (passed_first (check_nos counts s) _ none ∙ rw (lt-ltb (length sheet) long h))

    module _ (room : long ≤ length sheet) where
      pub fewer : left counts s < c → Leaves (as_written (9, 0) 0) sheet
      unfolding put_nos first_of fewer_no
      fewer h = by_first (9, 0) (passed_first (check_nos counts s) _ none ∙ rw (le-ltb (length sheet) long room, lt-ltb (left counts s) c h))

      pub written : c ≤ left counts s → (z : List ℕ) → z ≡ bytes ++ drop long sheet → Leaves (as_written fine long) z
      unfolding put_nos first_of fewer_no
      written h z e = rw e (by_first fine (passed_first (check_nos counts s) _ none ∙ rw (le-ltb (length sheet) long room, le-ltb (left counts s) c h)))

  -- ---- any answer r, and any sheet left

  module _ (r : Written) (after : List ℕ) (h : Leaves r after) where
    no_is : r.refusal.no ≡ (first_of (put_nos long counts s c sheet)).0
    unfolding put_answer
    no_is = ap (λ (r : Written). r.refusal.no) h.0

    length_is : r.length ≡ unless (first_of (put_nos long counts s c sheet)) 0 long
    unfolding put_answer
    length_is = ap (λ (r : Written). r.length) h.0

    -- it refuses no more and no less than the table says
    pub put_accepts : r.refusal.no ≡ 0 → IsStock counts × IsStrip counts s × (long ≤ length sheet) × (c ≤ left counts s)
    unfolding put_nos fewer_no
    put_accepts e =
        let p = passed_both (check_nos counts s) (short_no long sheet ∷ fewer_no counts s c ∷ []) (sym no_is ∙ e) in
        let b = accepted_both counts s p.0 in
        let room = passed_head _ _ p.1 in
        (b.0, b.1, ltb-false _ _ (when_passed 12 0 _ room.0), ltb-false _ _ (when_passed 8 0 _ (passed_head _ _ room.1).0))

    pub put_accepted : IsStock counts → IsStrip counts s → long ≤ length sheet → c ≤ left counts s → r.refusal.no ≡ 0
    unfolding put_nos fewer_no first_of
    put_accepted stock own room enough =
        no_is ∙ rw (passed_first (check_nos counts s) (short_no long sheet ∷ fewer_no counts s c ∷ []) (accepted_both_back counts s stock own), le-ltb (length sheet) long room, le-ltb (left counts s) c enough)

    -- accepted, the bytes stand at the front of the sheet, as many as the answer says, and its later bytes stay
    pub put_long : r.refusal.no ≡ 0 → r.length ≡ long
    put_long e = length_is ∙ unless_passed 0 _ _ (sym no_is ∙ e)

    pub put_written : r.refusal.no ≡ 0 → after ≡ bytes ++ drop r.length sheet
    unfolding sheet_put
    put_written e = h.1 ∙ unless_passed sheet _ _ (sym no_is ∙ e) ∙ rw (put_long e)

    -- refused, the length is 0, and the sheet stays as it was
    pub put_refused : (r.refusal.no ≡ 0 → ⊥) → (r.length ≡ 0) × (after ≡ sheet)
    unfolding sheet_put
    put_refused e =
        let k : (first_of (put_nos long counts s c sheet)).0 ≡ 0 → ⊥ = λ z. e (no_is ∙ z) in
        (length_is ∙ unless_refused 0 _ _ k, h.1 ∙ unless_refused sheet _ _ k)
