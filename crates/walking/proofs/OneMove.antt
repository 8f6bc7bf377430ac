-- Proofs. What was found: no move, and what the step then answers; or a move, whose exchange gives the strip beside.
use Prim.Native.Nat.{ℕ, ◌+◌, ◌-◌, ◌≤◌, ◌<◌}
use mathlib.Core.Path.{◌≡◌, refl, sym, ap, ◌∙◌}
use mathlib.Core.Bool.{Bool}
use mathlib.Core.Option as maybe
use mathlib.Core.Option.{none, some}
use mathlib.Core.List.{List, [], ◌∷◌}
use native.Mathlib.Omega.{arith}
use lib.ListN.{length, length-reverse}
use Rattle.std.proofs.Common.{Some, None}
use Rattle.rules.specs.Stock.{IsStrip}
use Rattle.rules.specs.Neighbours.{Neighbours, places, swap}
use Rattle.rules.specs.Refusals.{No, fine}
use Rattle.rules.proofs.Exchange.{exchanged}
use Rattle.rules.proofs.Walk.{Move}
use Rattle.rules.proofs.Strips.{move_of, strip_fits}
use Rattle.rules.proofs.Neighbours.{swapped_places, swapped_neighbours}
use Rattle.walker.specs.declared.Walker.{Walker}
use Rattle.walker.specs.Walkers.{walker_for}
use Rattle.walker.specs.Turned.{above_turned}
use Rattle.walker.proofs.Turns.{move_turns}
use Rattle.walking.specs.declared.finding.Found.{Found}
use Rattle.walking.specs.Answers.{beside, end_no}
use Rattle.walking.specs.Checked.{Checked, found, as_made, step_answer, step_strip}
use Rattle.walking.proofs.Beside.{Outcome, outcome}

-- the move of kind j that exchanges places low and high, from 0, and what it leads to
pub record Makes (d : Bool) (counts s : List ℕ) (j low high : ℕ) : Type 0 where
  pub some_kind : 0 < j
  pub kinds : j ≤ length counts
  pub order : low < high
  pub inside : high < length s
  pub allowed : end_no d counts s ≡ fine
  pub own : IsStrip counts (beside d counts s)
  pub exchanged : Neighbours s (beside d counts s)
  pub strip : swap 0 s low high ≡ beside d counts s
  pub shown : places s (beside d counts s) ≡ (low + 1) ∷ (high + 1) ∷ []
  pub walker : above_turned j (length counts) (walker_for counts s) ≡ walker_for counts (beside d counts s)

module _ (d : Bool) (counts s : List ℕ) (h : IsStrip counts s) where
  makes : (o : maybe.Option Move) (m : Move) → o ≡ some m → Outcome d counts s o → Makes d counts s (length counts - m.skip) m.p m.q
  makes none m e r = let z : ◌≡◌ {A = ℕ} 0 1 = cc in absurd (omega arith)
  makes (some o) m e (allowed, own, l) =
      let is : l.move ≡ m = cc l.is in
      let x = exchanged 0 l.swapped.2 in
      let j : l.kind ≡ length counts - l.move.skip = omega (arith, l.of, length-reverse counts) in
      let t : Makes d counts s l.kind l.move.p l.move.q = record {
        some_kind = omega (arith, l.swapped.1);
        kinds = omega (arith, l.of, length-reverse counts);
        order = x.order;
        inside = x.inside;
        allowed = allowed;
        own = own;
        exchanged = swapped_neighbours l.kind l.move.p l.move.q s (beside d counts s) l.swapped;
        strip = sym x.swapped;
        shown = swapped_places l.kind l.move.p l.move.q s (beside d counts s) l.swapped;
        walker = sym (move_turns counts s (beside d counts s) h own (some o) l);
      } in
      rw is at (rw j at t)

  tells_none : (o : maybe.Option Move) → None ≡ found (length counts) o → Outcome d counts s o → end_no d counts s ≡ (9, 0)
  tells_none none e r = r
  tells_none (some o) e r = cc

  tells_some : (o : maybe.Option Move) (m : Found) → Some m ≡ found (length counts) o → Outcome d counts s o → Makes d counts s m.kind m.low m.high
  tells_some none m e r = cc
  tells_some (some o) m e r = let f : m ≡ record { kind = length counts - o.skip; low = o.p; high = o.q } = cc in rw f (makes (some o) o refl r)

  -- where 9 does not refuse there is a move
  makes_some : (o : maybe.Option Move) → Outcome d counts s o → end_no d counts s ≡ fine → (m : Move) × Makes d counts s (length counts - m.skip) m.p m.q
  makes_some none r e = absurd (omega (arith, ap (λ (r : No). r.0) (sym r ∙ e)))
  makes_some (some o) r e = (o, makes (some o) o refl r)

  pub made : end_no d counts s ≡ fine → (m : Move) × Makes d counts s (length counts - m.skip) m.p m.q
  made = makes_some (move_of d counts s) (outcome counts s h d)

  -- what was found, or that nothing was
  pub found_none : None ≡ found (length counts) (move_of d counts s) → end_no d counts s ≡ (9, 0)
  found_none is = tells_none (move_of d counts s) is (outcome counts s h d)

  pub found_some : (m : Found) → Some m ≡ found (length counts) (move_of d counts s) → Makes d counts s m.kind m.low m.high
  found_some m is = tells_some (move_of d counts s) m is (outcome counts s h d)

-- a move that was found can be made: its places stand in the strip, which has at most 64 blocks
pub can_be_made : {d : Bool} {counts s : List ℕ} {w : Walker} {j low high : ℕ} → Checked counts s w → Makes d counts s j low high
    → (j ≤ length counts) × (length counts ≤ 16) × (low < length s) × (high < length s) × (length s ≤ 64)
can_be_made {d} {counts} {s} c m = (m.kinds, c.stock.few, omega (arith, m.order, m.inside), m.inside, strip_fits counts s c.stock c.strip)

-- ---- what the step answers

module _ (d : Bool) (counts s : List ℕ) where
  pub stays : end_no d counts s ≡ (9, 0) → (None ≡ step_answer d counts s) × (s ≡ step_strip d counts s)
  unfolding step_answer step_strip
  stays e = rw e (refl, refl)

  pub moves : (w : Walker) → Checked counts s w → (m : Found) → Makes d counts s m.kind m.low m.high
      → (Some (as_made m (length counts) w) ≡ step_answer d counts s) × (swap 0 s m.low m.high ≡ step_strip d counts s)
  unfolding step_answer step_strip
  moves w c m k = rw (k.allowed, k.shown, c.walker) (ap (λ (v : Walker). Some (record { low = m.low + 1; high = m.high + 1; walker = v })) k.walker, k.strip)
