-- Proofs. Moves that are taken one after the other, in either edition: after i of them, what is left to follow from the strip and the byte where it stands comes to the whole.
use Prim.Native.Nat.{ℕ, ◌+◌, ◌-◌, ◌*◌, ◌≤◌, ◌<◌}
use mathlib.Core.Path.{◌≡◌, sym, ap, ◌∙◌}
use mathlib.Core.Bool.{Bool, false}
use mathlib.Core.List.{List}
use native.Mathlib.Numerals.{add-one}
use native.Mathlib.Omega.{arith}
use lib.ListN.{length, get_or, drop}
use Rattle.rules.specs.Stock.{IsStrip}
use Rattle.stock.specs.declared.refused.Reason.{Reason}
use Rattle.stock.specs.declared.refused.Reason.TheVariants.{Record, Astray}
use Rattle.stock.specs.declared.refused.Refused.{Refused}
use Rattle.stock.specs.Refused.{number_of, no_of}
use Rattle.walker.specs.declared.Walker.{Walker}
use Rattle.walker.specs.Walkers.{walker_for}
use Rattle.walking.specs.Answers.{onward, left}
use Rattle.walking.specs.Checked.{Checked}
use Rattle.walking.proofs.Along.{along_none, along_strip, along_left, along_beside}
use Rattle.following.specs.Following.{Followed, refused_at, more, follow}
use Rattle.following.specs.Ends.{shows, NextMade}
use Rattle.following.proofs.Steps.{at_short, at_move, more_none, more_more}

pub record Moving (counts sheet s : List ℕ) (from : ℕ) (t : List ℕ) (w : Walker) (at i : ℕ) : Type 0 where
  pub place : at ≡ from + 3 * i
  pub long : at ≤ length sheet
  pub first : i ≡ 0 → (at < length sheet) × (get_or sheet at 0 ≡ 3)
  pub strip : t ≡ onward counts s i
  pub within : i ≤ left counts s
  pub own : IsStrip counts t
  pub walker : w ≡ walker_for counts t
  pub rest : (strides : Bool) → follow strides counts s from (drop from sheet) ≡ more i (follow strides counts t at (drop at sheet))

pub begin : (counts sheet s : List ℕ) (w : Walker) (from : ℕ) → Checked counts s w → from < length sheet → get_or sheet from 0 ≡ 3 → Moving counts sheet s from s w from 0
begin counts sheet s w from c h move = record {
  place = omega arith;
  long = omega arith;
  first = λ z. (h, move);
  strip = sym (along_none false counts s c.strip);
  within = omega arith;
  own = c.strip;
  walker = c.walker;
  rest = λ strides. more_none (follow strides counts s from (drop from sheet));
}

module _ (counts sheet s : List ℕ) (from : ℕ) (t : List ℕ) (w : Walker) (at i : ℕ) (v : Moving counts sheet s from t w at i) where
  -- the record here refuses, behind the moves that are passed
  abbrev Halts : Refused → Type 0
  Halts e = (strides : Bool) → (follow strides counts s from (drop from sheet)).no ≡ no_of e

  halts : (r : Reason) → ((strides : Bool) → follow strides counts t at (drop at sheet) ≡ refused_at (number_of r) at) → Halts (record { reason = r; place = at })
  halts r k strides = ap (λ (f : Followed). f.no) (v.rest strides ∙ ap (more i) (k strides))

  module _ (h : at < length sheet) (move : get_or sheet at 0 ≡ 3) where
    pub short_stops : length sheet - at < 3 → (e : Refused) → e ≡ record { reason = Record; place = at } → Halts e
    short_stops l e is = rw is (halts Record (λ strides. at_short strides counts t sheet at h move l))

    -- a whole move, beside the next one of the strip
    module _ (l : 3 ≤ length sheet - at) where
      pub miss_stops : shows counts t (get_or sheet (at + 1) 0) (get_or sheet (at + 2) 0) ≡ false → (e : Refused) → e ≡ record { reason = Astray; place = at } → Halts e
      miss_stops k e is = rw is (halts Astray (λ strides. at_move strides counts t sheet at h move l ∙ rw k))

      pub hit_moves : IsStrip counts s → (next : Walker) (u : List ℕ) → NextMade counts t (get_or sheet (at + 1) 0) (get_or sheet (at + 2) 0) next u → Moving counts sheet s from u next (at + 3) (i + 1)
      hit_moves own next u m =
          let left_is = rw (← v.strip) at (along_left false counts s own i v.within) in
          let beside : onward counts t 1 ≡ onward counts s (i + 1) = rw (v.strip, add-one i) (along_beside false counts s own i v.within) in
          record {
            place = omega (arith, v.place);
            long = omega arith;
            first = λ z. absurd (omega arith);
            strip = m.strip ∙ beside;
            within = omega (arith, m.some, left_is, v.within);
            own = rw m.strip (along_strip false counts t v.own 1 m.some);
            walker = m.walker;
            rest = λ strides. v.rest strides ∙ ap (more i) (at_move strides counts t sheet at h move l ∙ rw (m.shown, ← m.strip)) ∙ more_more i 1 (follow strides counts u (at + 3) (drop (at + 3) sheet));
          }
