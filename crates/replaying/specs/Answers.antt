-- TO BE BELIEVED. Document 02, P9: what Replay answers, and what it leaves in the lent strip. Refusals: 1 to 6, then 15, then 16.
use Rattle.std.specs.Prelude.{ℕ, List, [], ◌∷◌, ◌++◌}
use Rattle.rules.specs.Book.{book}
use Rattle.rules.specs.Refusals.{No, first_of, unless, answer, check_nos}
use Rattle.stock.specs.Refused.{refusal}
use Rattle.bar.specs.Bar.{stood, final_strip, walked, different, missing}
use Rattle.bar.specs.Pairs.{large_no, pairs_no}
use Rattle.replaying.specs.declared.replay.Replayed.{Replayed}

unfoldable pub replay_nos : List ℕ → List ℕ → List ℕ → List No
replay_nos counts s pairs = check_nos counts s ++ (large_no counts ∷ pairs_no counts pairs ∷ [])

abbrev pub as_replayed : No → ℕ × ℕ × ℕ → Replayed
as_replayed r (w, d, m) = record { refusal = refusal r; walked = w; different = d; missing = m }

-- the exchanges that were the walk's next move, the different strips that stood, and the smallest number of one that never did
unfoldable pub told : List ℕ → List ℕ → List ℕ → ℕ × ℕ × ℕ
told counts s pairs = (walked counts s pairs, different (stood s pairs) (book counts), missing (stood s pairs) (book counts))

unfoldable pub replay_answer : List ℕ → List ℕ → List ℕ → Replayed
replay_answer counts s pairs = answer as_replayed (replay_nos counts s pairs) (0, 0, 0) (told counts s pairs)

-- the final strip; refused, the strip as it was
unfoldable pub replay_after : List ℕ → List ℕ → List ℕ → List ℕ
replay_after counts s pairs = unless (first_of (replay_nos counts s pairs)) s (final_strip s pairs)
