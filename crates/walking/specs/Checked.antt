-- What the functions behind the calls promise of a strip that is checked. No open call's contract cites it, so nothing here is to be believed.
use Rattle.std.specs.Prelude.{ℕ, ◌+◌, ◌-◌, ◌≤◌, ◌≡◌, Bool, List, length, get_or, Option, Some, None}
use Rattle.std.proofs.Common.{Bor}
use Rattle.std.proofs.Math.Option as maybe
use Rattle.std.proofs.Math.Option.{none, some}
use Rattle.rules.specs.Stock.{IsStock, IsStrip}
use Rattle.rules.specs.Neighbours.{places}
use Rattle.rules.specs.Refusals.{unless}
use Rattle.rules.proofs.Walk.{Move}
use Rattle.rules.proofs.Index.{rests}
use Rattle.rules.proofs.Strips.{move_of}
use Rattle.moves.specs.declared.Step.{Step}
use Rattle.moves.specs.Steps.{step_of}
use Rattle.walker.specs.declared.Walker.{Walker}
use Rattle.walker.specs.Walkers.{walker_for}
use Rattle.walker.specs.Turned.{above_turned}
use Rattle.walking.specs.declared.stepping.Made.{Made}
use Rattle.walking.specs.declared.finding.Found.{Found}
use Rattle.walking.specs.Answers.{beside, end_no}

-- an accepted stock, a strip of it, and the walker of that strip
pub record Checked (counts s : List ℕ) (w : Walker) : Type 0 where
  pub stock : IsStock counts
  pub strip : IsStrip counts s
  pub walker : w ≡ walker_for counts s

-- a move of k kinds: the kind that moves and the two places, from 0, smaller first, where there is a move
abbrev pub found : ℕ → maybe.Option Move → Option Found
found k none = None
found k (some m) = Some (record { kind = k - m.skip; low = m.p; high = m.q })

-- what was found is the strip's move on, or at true back
abbrev pub IsMove : Bool → List ℕ → List ℕ → Option Found → Type 0
IsMove back counts s m = m ≡ found (length counts) (move_of back counts s)

-- it was looked for in one of the directions
abbrev pub Sought : List ℕ → List ℕ → Option Found → Type 0
Sought counts s m = (back : Bool) × IsMove back counts s m

-- the places of a move that was found, of k kinds, and its walker from the one before
abbrev pub as_made : Found → ℕ → Walker → Made
as_made m k w = record { low = m.low + 1; high = m.high + 1; walker = above_turned m.kind k w }

-- a move from a strip to another: its places, and the walker of the other
abbrev pub made_to : List ℕ → List ℕ → List ℕ → Made
made_to counts s t = record { low = get_or (places s t) 0 0; high = get_or (places s t) 1 0; walker = walker_for counts t }

-- a move on, or at true back, that only refusal 9 can refuse: its answer, and the strip that it leaves
unfoldable pub step_answer : Bool → List ℕ → List ℕ → Option Made
step_answer back counts s = unless (end_no back counts s) None (Some (made_to counts s (beside back counts s)))

unfoldable pub step_strip : Bool → List ℕ → List ℕ → List ℕ
step_strip back counts s = unless (end_no back counts s) s (beside back counts s)

-- the answer r and the strip t are those of a step in the direction in which m was looked for
abbrev pub IsStep : List ℕ → List ℕ → Option Found → Option Made → List ℕ → Type 0
IsStep counts s m r t = (back : Bool) → IsMove back counts s m → (r ≡ step_answer back counts s) × (t ≡ step_strip back counts s)

-- ---- a finder of one kind's own move, as it is passed to the pass down the kinds: it may be asked of a word with so many blocks of other kinds

abbrev pub TakesWord : (Bor (List ℕ) → ℕ → ℕ → Bool → Type 0) → Type 0
TakesWord pre = (word : Bor (List ℕ)) (kind others : ℕ) (heading : Bool) → length word.now ≤ 64 → others ≡ rests kind word.now → pre word kind others heading

-- and answers the kind's own move, on or back in the list of its patterns
abbrev pub FindsStep : (Bor (List ℕ) → ℕ → ℕ → Bool → Option Step → Type 0) → Type 0
FindsStep post = (word : Bor (List ℕ)) (kind others : ℕ) (heading : Bool) (m : Option Step) → others ≡ rests kind word.now → post word kind others heading m → m ≡ step_of heading kind word.now
