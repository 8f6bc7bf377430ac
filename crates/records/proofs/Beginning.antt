-- Proofs. The stock record and the strip record after it: which refuses, and what is read where none does.
use Prim.Native.Nat.{ℕ, ◌+◌, ◌-◌, ◌≤◌, ◌<◌}
use mathlib.Core.Path.{◌≡◌, sym, ap, ◌∙◌}
use mathlib.Core.List.{List, ◌++◌}
use native.Mathlib.Omega.{arith}
use lib.ListN.{length, take, replicate}
use Rattle.rules.specs.Stock.{IsStock, IsStrip}
use Rattle.std.specs.Prelude.{Result, Ok}
use Rattle.std.specs.Result.{IsErrAnd}
use Rattle.std.proofs.lemmas.Result.{err_from_is_err_and}
use Rattle.rules.specs.Refusals.{No, fine, first_of, check_nos}
use Rattle.rules.proofs.Refusals.{passed_both}
use Rattle.rules.proofs.Checks.{passed_head, accepted_both, accepted_both_back}
use Rattle.rules.proofs.Strips.{strip_fits}
use Rattle.stock.specs.declared.refused.Refused.{Refused}
use Rattle.stock.specs.Refused.{no_of}
use Rattle.stock.proofs.Told.{stopped_first, passed_next}
use Rattle.copying.proofs.Copies.{copy_length, copy_start}
use Rattle.records.specs.declared.held.Opening.{Opening}
use Rattle.records.specs.Opened.{stock_at, strip_at, stock_at_nos, strip_at_nos, opening_nos, held_stock, held_strip, Opened}
use Rattle.records.proofs.Checking.{record_fits, stock_accepted, strip_accepted}

-- ---- none refuses

module _ (at : ℕ) (sheet : List ℕ) (none : (first_of (opening_nos at sheet)).0 ≡ 0) where
  parts : ((first_of (stock_at_nos at sheet)).0 ≡ 0) × ((first_of (strip_at_nos (stock_at at sheet) (at + 17) sheet)).0 ≡ 0)
  unfolding opening_nos
  parts = passed_both (stock_at_nos at sheet) (strip_at_nos (stock_at at sheet) (at + 17) sheet) none

  pub opening_stock : IsStock (stock_at at sheet)
  opening_stock = stock_accepted at sheet parts.0

  strip_body_lem : at + 17 + 64 < length sheet
  unfolding strip_at_nos
  strip_body_lem = record_fits 2 64 (at + 17) sheet (passed_head _ _ parts.1).0

  pub opening_body : at + 81 < length sheet
  opening_body = omega (arith, strip_body_lem)

  pub opening_strip : IsStrip (stock_at at sheet) (strip_at (stock_at at sheet) (at + 17) sheet)
  opening_strip = strip_accepted (stock_at at sheet) opening_stock (at + 17) sheet parts.1

-- ---- what is read

module _ (at : ℕ) (sheet : List ℕ) where
  -- refused: nothing is read
  stopped_by : (r : Result Opening Refused) (e : Refused) → IsErrAnd r (λ y. y ≡ e) → no_of e ≡ first_of (opening_nos at sheet) → Opened at sheet r
  stopped_by r e h is = let p = err_from_is_err_and r h in rw (p.1, p.2) record { refused = is; stock = tt; strip = tt }

  pub stock_stopped : (r : Result Opening Refused) (e : Refused) → IsErrAnd r (λ y. y ≡ e) → no_of e ≡ first_of (stock_at_nos at sheet) → Opened at sheet r
  unfolding opening_nos
  stock_stopped r e h is = stopped_by r e h (stopped_first (stock_at_nos at sheet) e is (strip_at_nos (stock_at at sheet) (at + 17) sheet))

  -- the stock is read
  pub stock_fits : fine ≡ first_of (stock_at_nos at sheet) → at + 16 < length sheet
  unfolding stock_at_nos
  stock_fits first = record_fits 1 16 at sheet (passed_head _ _ (sym (ap (λ (r : No). r.0) first))).0

  module _ (first : fine ≡ first_of (stock_at_nos at sheet)) (counts : List ℕ) (is : counts ≡ stock_at at sheet) where
    pub counts_stock : IsStock counts
    counts_stock = rw is (stock_accepted at sheet (sym (ap (λ (r : No). r.0) first)))

    pub strip_stopped : (r : Result Opening Refused) (e : Refused) → IsErrAnd r (λ y. y ≡ e) → no_of e ≡ first_of (strip_at_nos counts (at + 17) sheet) → Opened at sheet r
    unfolding opening_nos
    strip_stopped r e h own = stopped_by r e h (passed_next (stock_at_nos at sheet) (strip_at_nos (stock_at at sheet) (at + 17) sheet) first (no_of e) (rw is at own))

    module _ (second : fine ≡ first_of (strip_at_nos counts (at + 17) sheet)) (s : List ℕ) (own : s ≡ strip_at counts (at + 17) sheet) where
      pub both_sound : (first_of (check_nos counts s)).0 ≡ 0
      both_sound = accepted_both_back counts s counts_stock (rw own (strip_accepted counts counts_stock (at + 17) sheet (sym (ap (λ (r : No). r.0) second))))

      pub read_short : length s ≤ 64
      read_short = strip_fits counts s counts_stock (accepted_both counts s both_sound).1

      -- and its copy, with the zeros behind it
      module _ (word : List ℕ) (copy : word ≡ s ++ replicate (64 - length s) 0) where
        pub word_long : length s ≤ length word
        word_long = omega (arith, copy_length 64 s word copy read_short, read_short)

        pub word_start : take (length s) word ≡ s
        word_start = copy_start 64 s word copy

        pub word_sound : (first_of (check_nos counts (take (length s) word))).0 ≡ 0
        word_sound = rw word_start both_sound

      pub both_read : (o : Opening) → held_stock o ≡ counts → held_strip o ≡ s → Opened at sheet (Ok o)
      unfolding opening_nos
      both_read o c t = record {
        refused = passed_next (stock_at_nos at sheet) (strip_at_nos (stock_at at sheet) (at + 17) sheet) first fine (rw is at second);
        stock = c ∙ is;
        strip = t ∙ own ∙ rw is;
      }
