-- Theorems on `next` and `prev`, over their contracts as the functions state them: `Post` says which answers they allow for which word.
use Prim.Native.Nat.{ℕ}
use mathlib.Core.Path.{◌≡◌, refl, ◌∙◌}
use mathlib.Core.Bool.{Bool, true, false}
use mathlib.Core.Option as maybe
use mathlib.Core.Option.{none, some}
use mathlib.Core.List.{List, []}
use lib.ListN.{length, get_or}
use contract.Lifetimes.{Lfts}
use borrow.Fn.Kinds.{Dens, ended_of}
use denote.Triple.Clauses.{AtExit}
use Rattle.std.proofs.Common.{Option, Some, None}
use Rattle.rules.specs.Book.{Word, E, lay, pattern}
use Rattle.rules.proofs.Patterns.{IsWord, listed_e}
use Rattle.rules.proofs.Exchange.{Exchanged, exchanged}
use Rattle.rules.proofs.Moves.{move_e, Onward, Final, NextWord, ResultE, e_move}
use Rattle.rules.proofs.Books.{without, lay_back, pattern_lay, without_lay, without_free, free_at, count_r_pattern, length_pattern}
use Rattle.rules.proofs.Walk.{LaidExch, lay_exch}
use Rattle.rules.proofs.Index.{rests, index}
use Rattle.moves.specs.declared.Step.{Step}
use Rattle.moves.specs.Steps.{step, step_of}
use Rattle.moves.proofs.next.Kinds as next
use Rattle.moves.proofs.next.Reads as next_reads
use Rattle.moves.proofs.prev.Kinds as prev
use Rattle.moves.proofs.prev.Reads as prev_reads

-- the list of patterns in which that of the kind in a word of blocks stands
abbrev pub patterns_of : ℕ → List ℕ → List Word
patterns_of kind word = E (length word) (rests kind word)

-- the exchange of two places makes of one word of blocks the one that is next, on (d false) or back (d true)
pub record NextBlocks (d : Bool) (kind : ℕ) (word : List ℕ) (low high : ℕ) : Type 0 where
  pub to : List ℕ
  pub other : ℕ
  -- a block of another kind and one of the kind change places, and only blocks of the kind stand between them
  pub not_kind : other ≡ kind → ⊥
  pub exchange : Exchanged 0 other kind low high word to
  -- the blocks of other kinds keep their order
  pub order : without kind to ≡ without kind word
  -- the pattern goes from its place in the list to the one beside it
  pub here : get_or (patterns_of kind word) (index kind word) [] ≡ pattern kind word
  pub there : get_or (patterns_of kind word) (index kind to) [] ≡ pattern kind to
  pub onward : Onward d (index kind word) (index kind to)

-- what an answer must be: its two places are that exchange, or there are none and the pattern is at the end of its list
pub record Right (d : Bool) (kind : ℕ) (word : List ℕ) (r : Option Step) : Type 0 where
  pub found : (m : Step) → r ≡ Some m → NextBlocks d kind word m.low m.high
  pub at_end : r ≡ None → Final d (length (patterns_of kind word)) (index kind word)

module _ (d : Bool) (kind : ℕ) (word : List ℕ) where
  abbrev a : ℕ
  a = length word

  abbrev b : ℕ
  b = rests kind word

  is_word : IsWord a b (pattern kind word)
  unfolding rests
  is_word = (length_pattern kind word, refl)

  module _ (low high : ℕ) (m : NextWord d a b (pattern kind word) low high) where
    abbrev to : List ℕ
    to = lay kind (without kind word) m.next

    on_rest : rests kind word ≡ length (without kind word)
    unfolding rests
    on_rest = count_r_pattern kind word

    to_pattern : pattern kind to ≡ m.next
    to_pattern = pattern_lay kind (without kind word) m.next (without_free kind word) (m.word.1 ∙ on_rest)

    laid : LaidExch kind (without kind word) low high word to
    laid = rw (lay_back kind word) at (lay_exch kind (without kind word) low high (pattern kind word) m.next (is_word.1 ∙ on_rest) (m.word.1 ∙ on_rest) m.exch)

    next_blocks : NextBlocks d kind word low high
    unfolding index
    next_blocks = record {
      to = to;
      other = get_or (without kind word) laid.at 0;
      not_kind = free_at kind (without kind word) laid.at (without_free kind word) laid.inside;
      exchange = exchanged 0 laid.exch;
      order = without_lay kind (without kind word) m.next (without_free kind word) (m.word.1 ∙ on_rest);
      here = (listed_e a b).find (pattern kind word) is_word;
      there = rw to_pattern ((listed_e a b).find m.next m.word);
      onward = rw to_pattern m.onward;
    }

  -- an answer is right: it names the exchange that makes the next word, or the word is the last
  right : (o : maybe.Option (ℕ × ℕ)) (r : Option Step) → r ≡ step o → ResultE d a b (pattern kind word) o → Right d kind word r
  unfolding index
  right none r e m = record {
    found = λ s f. absurd (cc (e, f));
    at_end = λ f. rw (listed_e a b).size m;
  }
  right (some pq) r e m = record {
    found = λ s f. let g : record { low = pq.0; high = pq.1 } ≡ s = cc (e, f) in rw (← g) (next_blocks pq.0 pq.1 m);
    at_end = λ f. absurd (cc (e, f));
  }

  pub move_right : (r : Option Step) → r ≡ step_of d kind word → Right d kind word r
  move_right r e = right (move_e d (pattern kind word)) r e (e_move a b (pattern kind word) is_word d)

-- any answer that the contracts allow
pub next_right : (κs : Lfts 1) (args : Dens κs next.ps) (r : Option Step) (s : AtExit (ended_of 1 next.ps next.r) κs) → next_reads.Post κs args r s → Right false args.1.0 args.0.now r
next_right κs args r s h = move_right false args.1.0 args.0.now r h

pub prev_right : (κs : Lfts 1) (args : Dens κs prev.ps) (r : Option Step) (s : AtExit (ended_of 1 prev.ps prev.r) κs) → prev_reads.Post κs args r s → Right true args.1.0 args.0.now r
prev_right κs args r s h = move_right true args.1.0 args.0.now r h
