-- Document 02, P13. No two of a kind touching: the next later strip of the book without equal neighbours. All is said over the contract of the call, whose flag is true for an endless paper, so
-- that one statement covers panel and endless. The refusals are `next_apart_refuses` in First.antt.
use Prim.Native.Nat.{ℕ, ◌+◌, ◌≤◌, ◌<◌}
use mathlib.Core.Path.{◌≡◌, sym, ap, ◌∙◌}
use mathlib.Core.Bool.{Bool}
use mathlib.Core.List.{List}
use contract.Lifetimes.{Lfts}
use borrow.Fn.Kinds.{Dens, ended_of}
use denote.Triple.Clauses.{AtExit}
use Rattle.rules.specs.Stock.{total, IsStrip}
use Rattle.rules.specs.Book.{book, place_in}
use Rattle.rules.specs.Refusals.{first_of, check_nos}
use Rattle.rules.proofs.Refusals.{unless_passed}
use Rattle.rules.proofs.Checks.{accepted_both_back}
use Rattle.walker.specs.declared.open.Opened.{Opened}
use Rattle.walker.specs.Walkers.{all_forward}
use Rattle.walker.specs.Answers.{open_answer}
use Rattle.walker.proofs.open.open.Kinds as opening
use Rattle.walker.proofs.open.open.Reads as opening_reads
use Rattle.touching.specs.Apart.{stands_apart}
use Rattle.spacing.specs.declared.next_apart.Spaced.{Spaced}
use Rattle.spacing.proofs.ByNumber.{First, None, NoneTo}
use Rattle.spacing.proofs.ByNumber as by_number
use Rattle.spacing.proofs.next_apart.next_apart.Kinds as next_apart
use Rattle.spacing.proofs.next_apart.next_apart.Reads as next_apart_reads
-- no two of a kind touch: on a panel, place by place; on an endless paper at the ends too; a strip of one block
pub use Rattle.touching.proofs.Theorems.{panel_apart, apart_panel, endless_apart, one_block}
-- found, none and stopped: what each means, exactly when it is given, and that one always is; what is left, and the walker: any outcome of the call
pub use Rattle.spacing.proofs.Theorems.{next_apart_right}
-- a later strip of the book by the moves that lead to it, and how many there are
pub use Rattle.spacing.proofs.Later.{later_onward, later_left}

-- ---- any outcome that is not a refusal, read by the numbers of the strips

module _ (κs : Lfts 2) (a : Dens κs next_apart.ps) (r : Spaced) (s : AtExit (ended_of 2 next_apart.ps next_apart.r) κs) (h : next_apart_reads.Post κs a r s) (z : r.refusal.no ≡ 0) where
  abbrev counts : List ℕ
  counts = a.0.now

  abbrev strip : List ℕ
  strip = a.1.0.now

  abbrev after : List ℕ
  after = s.1.0.now

  abbrev endless : Bool
  endless = a.1.1.1.0

  abbrev given : ℕ
  given = a.1.1.1.1.0

  own : IsStrip counts strip
  own = ((next_apart_right κs a r s h).accepts z).1

  -- found: a strip of the stock without equal neighbours, so many numbers further on, within the given moves, and none between
  pub found_first : r.outcome ≡ 1 → First (stands_apart endless) counts strip given r.moves after
  found_first = by_number.found_first (stands_apart endless) counts strip own given r.outcome r.moves after ((next_apart_right κs a r s h).searched z)

  -- none: exactly when no strip with a larger number is without equal neighbours and the given moves reach the last strip, to which the moves lead
  pub none_means : r.outcome ≡ 2 → None (stands_apart endless) counts strip × (total counts ≤ place_in (book counts) strip + given + 1) × (place_in (book counts) strip + r.moves + 1 ≡ total counts)
  none_means = by_number.none_means (stands_apart endless) counts strip own given r.outcome r.moves after ((next_apart_right κs a r s h).searched z)

  pub none_exactly : None (stands_apart endless) counts strip → total counts ≤ place_in (book counts) strip + given + 1 → r.outcome ≡ 2
  none_exactly = by_number.none_exactly (stands_apart endless) counts strip own given r.outcome r.moves after ((next_apart_right κs a r s h).searched z)

  -- stopped: the given moves, all made, do not reach the last strip, and lead to none without equal neighbours
  pub stopped_means : r.outcome ≡ 3 → (place_in (book counts) strip + given + 1 < total counts) × (r.moves ≡ given) × NoneTo (stands_apart endless) counts strip given
  stopped_means = by_number.stopped_means (stands_apart endless) counts strip own given r.outcome r.moves after ((next_apart_right κs a r s h).searched z)

  -- found: the walker is what Open answers for the stock and the strip that is left, by any answer that its contract allows
  pub found_opens : r.outcome ≡ 1 → (κt : Lfts 2) (b : Dens κt opening.ps) (x : Opened) (t : AtExit (ended_of 2 opening.ps opening.r) κt) → opening_reads.Post κt b x t
      → b.0.now ≡ counts → b.1.0.now ≡ after → (x.refusal.no ≡ 0) × (x.walker ≡ r.walker)
  unfolding open_answer
  found_opens o κt b x t k e f =
      let right = next_apart_right κs a r s h in
      let passed : (first_of (check_nos counts after)).0 ≡ 0 = accepted_both_back counts after (right.accepts z).0 (found_first o).strip in
      let is : x ≡ open_answer counts after = rw (e, f) at k in
      (ap (λ (x : Opened). x.refusal.no) is ∙ passed, ap (λ (x : Opened). x.walker) is ∙ unless_passed all_forward _ (first_of (check_nos counts after)) passed ∙ sym (right.walker_found z o))
