-- Proofs. A reading under way: after i moves, what is left to follow from the strip and the byte where it stands comes to the whole.
use Prim.Native.Nat.{ℕ, ◌+◌, ◌^◌, ◌≤◌, ◌<◌}
use mathlib.Core.Path.{◌≡◌, refl, sym, ap, ◌∙◌}
use mathlib.Core.Bool.{Bool, false}
use mathlib.Core.List.{List, [], ◌∷◌}
use native.Mathlib.Decide.{dec_lt}
use native.Mathlib.Omega.{arith}
use lib.ListN.{length, get_or, drop}
use Rattle.std.specs.Prelude.{Result, Ok}
use Rattle.std.specs.Result.{IsErrAnd}
use Rattle.std.proofs.Common.{add-zero}
use Rattle.std.proofs.lemmas.Result.{err_from_is_err_and}
use Rattle.rules.specs.Stock.{total, IsStrip}
use Rattle.rules.specs.Refusals.{No, fine}
use Rattle.rules.proofs.Places.{place_below}
use Rattle.stock.specs.declared.refused.Reason.TheVariants.{Record}
use Rattle.stock.specs.declared.refused.Refused.{Refused}
use Rattle.stock.specs.Refused.{no_of}
use Rattle.walker.specs.declared.Walker.{Walker}
use Rattle.walker.specs.Walkers.{walker_for}
use Rattle.walking.specs.Answers.{left_along, left}
use Rattle.walking.specs.Checked.{Checked}
use Rattle.walking.proofs.Along.{along_strip, along_left}
use Rattle.following.specs.declared.record.Taken.{Taken}
use Rattle.following.specs.Following.{Followed, more, ended, follow}
use Rattle.following.specs.Ends.{Ends, Passed}
use Rattle.following.proofs.Steps.{at_none, at_end, more_none, more_more}

-- more moves than bytes are made only where the stock can be numbered
pub record Underway (strides : Bool) (counts sheet : List ℕ) (whole : Followed) (t : List ℕ) (w : Walker) (at i : ℕ) : Type 0 where
  pub fewer : at < i → total counts < 2 ^ 64
  pub ahead : i + left counts t < total counts
  pub own : IsStrip counts t
  pub walker : w ≡ walker_for counts t
  pub rest : whole ≡ more i (follow strides counts t at (drop at sheet))

pub start : (strides : Bool) (counts sheet s : List ℕ) (w : Walker) (at : ℕ) → Checked counts s w → Underway strides counts sheet (follow strides counts s at (drop at sheet)) s w at 0
unfolding left_along
start strides counts sheet s w at c = record {
  fewer = λ l. absurd (omega arith);
  ahead = omega (arith, place_below counts s c.strip);
  own = c.strip;
  walker = c.walker;
  rest = more_none (follow strides counts s at (drop at sheet));
}

module _ (strides : Bool) (counts sheet : List ℕ) (whole : Followed) (t : List ℕ) (w : Walker) (at i : ℕ) (v : Underway strides counts sheet whole t w at i) where
  -- refused here
  pub halt : (e : Refused) → (follow strides counts t at (drop at sheet)).no ≡ no_of e → whole.no ≡ no_of e
  halt e k = ap (λ (f : Followed). f.no) v.rest ∙ k

  -- no record here
  pub none : length sheet ≤ at → (e : Refused) → e ≡ record { reason = Record; place = at } → whole.no ≡ no_of e
  none h e is = rw is (halt (record { reason = Record; place = at }) (ap (λ (f : Followed). f.no) (at_none strides counts t sheet at h)))

  -- the end here: something follows it, or nothing
  module _ (h : at < length sheet) (end : get_or sheet at 0 ≡ 4) where
    ends : whole ≡ more i (ended t at (drop (at + 1) sheet))
    ends = v.rest ∙ ap (more i) (at_end strides counts t sheet at h end)

    pub ended_not : (r : Result ℕ Refused) (e : Refused) → IsErrAnd r (λ y. y ≡ e) → no_of e ≡ (ended [] at (drop (at + 1) sheet)).no → Ends whole r t
    ended_not r e k is = let p = err_from_is_err_and r k in rw (p.1, p.2) (ap (λ (f : Followed). f.no) ends ∙ same_no (drop (at + 1) sheet) ∙ sym is)
      where
        same_no : (l : List ℕ) → (ended t at l).no ≡ (ended [] at l).no
        same_no [] = refl
        same_no (x ∷ l) = refl

    pub ended_here : fine ≡ (ended [] at (drop (at + 1) sheet)).no → Ends whole (Ok i) t
    ended_here is = ends ∙ go (drop (at + 1) sheet) is
      where
        go : (l : List ℕ) → fine ≡ (ended [] at l).no → more i (ended t at l) ≡ record { no = fine; moves = i; strip = t }
        go [] is = rw (add-zero i)
        go (x ∷ l) is = absurd (omega (arith, ap (λ (r : No). r.0) is))

  -- records here
  module _ (r : Taken) (u : List ℕ) (p : Passed strides counts sheet t at r u) where
    pub on : Underway strides counts sheet whole u r.walker (at + r.bytes) (i + r.moves)
    on = record {
      fewer = λ l. elim (dec_lt at i) [ yes m ↦ v.fewer m | no m ↦ p.few (omega arith) ];
      ahead = rw p.strip (omega (arith, along_left false counts t v.own r.moves p.within, p.within, v.ahead));
      own = rw p.strip (along_strip false counts t v.own r.moves p.within);
      walker = p.walker;
      rest = v.rest ∙ ap (more i) p.follows ∙ more_more i r.moves (follow strides counts u (at + r.bytes) (drop (at + r.bytes) sheet));
    }
