-- Proofs. What T as an option tells of T, and what the exits of a call on numbers hand on.
use Prim.Native.Nat.{ℕ, ◌^◌, ◌≤◌, ◌<◌}
use mathlib.Core.Path.{◌≡◌, refl, sym, ◌∙◌}
use mathlib.Core.List.{List}
use native.Mathlib.Decide.{dec_lt}
use native.Mathlib.Omega.{arith}
use Rattle.std.specs.Prelude.{Option, None, Some, Result, Ok, Err}
use Rattle.std.specs.Option.{ok_or}
use Rattle.std.specs.Result.{IsErr, IsErrAnd}
use Rattle.std.proofs.lemmas.Result.{err_from_is_err_and}
use Rattle.rules.specs.Stock.{total}
use Rattle.rules.specs.Refusals.{No, unless, many_no}
use Rattle.rules.proofs.Refusals.{many_refused, many_passed}
use Rattle.stock.specs.declared.refused.Reason.{Reason}
use Rattle.stock.specs.declared.refused.Reason.TheVariants.{Many}
use Rattle.stock.specs.declared.refused.Refused.{Refused}
use Rattle.stock.specs.Refused.{no_of, told, answered}

module _ (counts : List ℕ) where
  abbrev pub Held : Option ℕ → Type 0
  Held t = t ≡ unless (many_no counts) None (Some (total counts))

  pub none_held : 2 ^ 64 ≤ total counts → Held None
  none_held h = rw (many_refused counts h)

  pub some_held : total counts < 2 ^ 64 → Held (Some (total counts))
  some_held h = rw (many_passed counts h)

  -- 7 refuses, or T is the number
  pub many : Held None → 2 ^ 64 ≤ total counts
  many is = elim (dec_lt (total counts) (2 ^ 64)) [
    | yes l ↦ let e : ◌≡◌ {A = Option ℕ} None (Some (total counts)) = is ∙ sym (some_held l) in absurd (cc)
    | no l ↦ omega arith
  ]

  pub few : {t : ℕ} → Held (Some t) → (total counts < 2 ^ 64) × (t ≡ total counts)
  few {t} is = elim (dec_lt (total counts) (2 ^ 64)) [
    | yes l ↦ let e : ◌≡◌ {A = Option ℕ} (Some t) (Some (total counts)) = is ∙ sym (some_held l) in (l, cc)
    | no l ↦ let e : ◌≡◌ {A = Option ℕ} (Some t) None = is ∙ sym (none_held (omega arith)) in absurd (cc)
  ]

-- ---- what a `?` hands on: of a refusal, and of no total

module _ {A B : Type 0} (build : No → A → B) (none : A) where
  pub answered_error : (r : Result A Refused) (e : Refused) → IsErrAnd r (λ y. y ≡ e) → answered build none r ≡ build (no_of e) none
  answered_error r e h = let p = err_from_is_err_and r h in rw (p.1, p.2)

  pub answered_told : (r : Result A Refused) → IsErr r → answered build none r ≡ build (told r) none
  answered_told (Ok a) h = absurd (cc)
  answered_told (Err e) h = refl

-- the total was none, and the refusal is 7
no_total : (t : Option ℕ) (e : Reason) → ◌≡◌ {A = Result ℕ Reason} (Err e) (ok_or t Many) → (t ≡ None) × (e ≡ Many)
no_total None e h = (refl, cc)
no_total (Some x) e h = absurd (cc)

pub told_many : {A : Type 0} (counts : List ℕ) (r : Result A Refused) {t : Option ℕ} {e : Reason} → Held counts t → ◌≡◌ {A = Result ℕ Reason} (Err e) (ok_or t Many) → IsErrAnd r (λ y. y ≡ record { reason = e; place = 0 }) → (2 ^ 64 ≤ total counts) × (told r ≡ (7, 0))
told_many counts r {t} {e} is v h =
    let n = no_total t e v in
    let p = err_from_is_err_and r h in
    (many counts (rw n.0 at is), rw (p.1, p.2, n.1))
