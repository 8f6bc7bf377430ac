-- Document 02, P9. What did the press really print? All is said over the contracts of Replay and Run.
use Prim.Native.Nat.{ℕ, ◌+◌, ◌*◌, ◌/◌, ◌≤◌, ◌<◌}
use mathlib.Core.Path.{◌≡◌, refl, sym, ◌∙◌}
use mathlib.Core.Bool.{true, false, not}
use mathlib.Core.List.{List, []}
use native.Mathlib.Omega.{arith}
use borrow.Author.Tests.{not-true, not-false}
use lib.ListN.{length, get_or, take}
use contract.Lifetimes.{Lfts}
use borrow.Fn.Kinds.{Dens, ended_of}
use denote.Triple.Clauses.{AtExit}
use Rattle.rules.specs.Stock.{total, IsStrip}
use Rattle.rules.specs.Book.{book, place_in}
use Rattle.rules.proofs.Places.{book_size}
use Rattle.walker.specs.declared.Walker.{Walker}
use Rattle.running.specs.declared.run.Ran.{Ran}
use Rattle.running.specs.Answers.{moves_from}
use Rattle.running.proofs.Theorems.{RunRight, run_right}
use Rattle.running.proofs.OneAfterOther.{Led, led_once}
use Rattle.running.proofs.run.run.Kinds as run
use Rattle.running.proofs.run.run.Reads as run_reads
use Rattle.searching.specs.Searching.{is_among}
use Rattle.searching.proofs.First.{passed_over_within, passed_over_fail, passed_over_passes}
use Rattle.bar.specs.Bar.{stood, distinct}
use Rattle.bar.proofs.Exchanged.{stood_strips}
use Rattle.bar.proofs.Different.{different_distinct, different_within, different_pairs, none_missing_all, all_none_missing}
use Rattle.bar.proofs.Listed.{Replays, replays}
use Rattle.bar.proofs.EndToEnd.{whole_book}
use Rattle.replaying.specs.declared.replay.Replayed.{Replayed}
use Rattle.replaying.proofs.Theorems.{ReplayRight, replay_right}
use Rattle.replaying.proofs.replay.replay.Kinds as replay
use Rattle.replaying.proofs.replay.replay.Reads as replay_reads
-- an exchange makes the next strip of the book exactly where its two places are those of the walk's next move on, and where the number rises by one
pub use Rattle.bar.proofs.Next.{next_places, next_number, last_not_next}

-- ---- any outcome of Replay that is not a refusal

module _ (κs : Lfts 3) (a : Dens κs replay.ps) (r : Replayed) (s : AtExit (ended_of 3 replay.ps replay.r) κs) (h : replay_reads.Post κs a r s) (z : r.refusal.no ≡ 0) where
  abbrev counts : List ℕ
  counts = a.0.now

  abbrev pairs : List ℕ
  pairs = a.1.1.0.now

  -- the strips that stood on the bar
  abbrev bar : List (List ℕ)
  bar = stood a.1.0.now pairs

  is : ReplayRight counts a.1.0.now pairs r s.1.0.now
  is = replay_right κs a r s h

  -- the stock on the bar is the same after every exchange
  pub same_stock : (i : ℕ) → i < length bar → IsStrip counts (get_or bar i [])
  same_stock = let t = is.accepts z in stood_strips counts a.1.0.now pairs t.1 t.3

  -- as many different strips stood as the list of them has, each counted once; at most one more than there are pairs, and at most T
  pub different_counted : r.different ≡ distinct bar
  different_counted = is.differs z ∙ different_distinct counts bar same_stock

  pub different_at_most_pairs : r.different ≤ length pairs / 2 + 1
  different_at_most_pairs = omega (arith, is.differs z, different_pairs counts a.1.0.now pairs (is.accepts z).3 same_stock)

  pub different_at_most_total : r.different ≤ total counts
  different_at_most_total = omega (arith, is.differs z, different_within counts bar)

  -- every strip with a smaller number than the missing one stood, and that one, if the book has it, did not
  pub missing_at_most_total : r.missing ≤ total counts
  missing_at_most_total = omega (arith, is.misses z, passed_over_within (λ t. not (is_among bar t)) (book counts), book_size counts)

  pub smaller_stood : (i : ℕ) → i < r.missing → is_among bar (get_or (book counts) i []) ≡ true
  smaller_stood i l = not-false _ (passed_over_fail (λ t. not (is_among bar t)) (book counts) i (rw (is.misses z) at l))

  pub missing_never_stood : r.missing < total counts → is_among bar (get_or (book counts) r.missing []) ≡ false
  missing_never_stood l =
      let b : r.missing < length (book counts) = omega (arith, book_size counts) in
      rw (is.misses z) (not-true _ (passed_over_passes (λ t. not (is_among bar t)) (book counts) (rw (is.misses z) at b)))

  -- none is missing exactly when all strips of the book stood
  pub none_missing : r.missing ≡ total counts → r.different ≡ total counts
  none_missing e = is.differs z ∙ none_missing_all counts bar (sym (is.misses z) ∙ e)

  pub all_stood : r.different ≡ total counts → r.missing ≡ total counts
  all_stood e = is.misses z ∙ all_none_missing counts bar (sym (is.differs z) ∙ e)

-- ---- what Run lists on, replayed from where it began: all walked, to where it ended

-- a run on from strip s gave the answer x and the strip t; replaying the places that it listed gave the answer y and the strip u
pub record RunReplayed (counts s : List ℕ) (x : Ran) (t : List ℕ) (y : Replayed) (u : List ℕ) : Type 0 where
  pub accepted : total counts ≤ 4096 → y.refusal.no ≡ 0
  pub all_walked : y.refusal.no ≡ 0 → y.walked ≡ x.moves
  pub same_end : y.refusal.no ≡ 0 → u ≡ t
  pub whole : y.refusal.no ≡ 0 → place_in (book counts) s ≡ 0 → x.moves + 1 ≡ total counts → (y.missing ≡ total counts) × (y.different ≡ total counts)

module _ (counts s : List ℕ) (w : Walker) (list₀ : List ℕ) (x : Ran) (t list : List ℕ) (ran : RunRight false counts s w list₀ x t list) (z : x.refusal.no ≡ 0)
    (y : Replayed) (u : List ℕ) (again : ReplayRight counts s (take (2 * x.moves) list) y u) where
  strip : IsStrip counts s
  strip = (ran.accepts z).1

  led : Led false counts s (take (2 * x.moves) list) x.moves t
  led = led_once false counts s w list₀ x t list ran z

  made : Replays false counts s strip x.moves
  made = replays false counts s strip x.moves led.within

  as_listed : ReplayRight counts s (moves_from false counts s x.moves) y u
  as_listed = rw led.listed at again

  run_again : RunReplayed counts s x t y u
  run_again = record {
    accepted = λ l. as_listed.accepted (ran.accepts z).0 strip l made.right;
    all_walked = λ e. as_listed.walks e ∙ made.all refl;
    same_end = λ e. as_listed.leaves e ∙ made.leads ∙ sym led.there;
    whole = λ e f g. let all = whole_book counts s strip _ x.moves t led f g in (again.misses e ∙ all.0, again.differs e ∙ all.1);
  }

pub run_replayed : (κs : Lfts 3) (a : Dens κs run.ps) (x : Ran) (s : AtExit (ended_of 3 run.ps run.r) κs) → run_reads.Post κs a x s
    → (μs : Lfts 3) (b : Dens μs replay.ps) (y : Replayed) (t : AtExit (ended_of 3 replay.ps replay.r) μs) → replay_reads.Post μs b y t
    → x.refusal.no ≡ 0 → a.1.1.1.0 ≡ false
    → b.0.now ≡ a.0.now → b.1.0.now ≡ a.1.0.now → b.1.1.0.now ≡ take (2 * x.moves) s.1.1.1.1.0.now
    → RunReplayed a.0.now a.1.0.now x s.1.0.now y t.1.0.now
run_replayed κs a x s h μs b y t k z on stock strip pairs =
    run_again _ _ _ _ x _ _ (rw on at (run_right κs a x s h)) z y _ (rw (stock, strip, pairs) at (replay_right μs b y t k))
