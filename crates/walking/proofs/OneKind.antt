-- Proofs. One turn of finding the move, in the terms of the code: j kinds are left, kind j's direction is read from the walker, and its own step is tested.
use Prim.Native.Nat.{ℕ, zero, suc, ◌+◌, ◌-◌, ◌≤◌, ◌<◌}
use mathlib.Core.Path.{◌≡◌, refl, ◌∙◌}
use mathlib.Core.Bool.{Bool, true, false}
use mathlib.Core.Option as maybe
use mathlib.Core.Option.{none, some}
use mathlib.Core.List.{List}
use native.Mathlib.Omega.{arith}
use borrow.Author.Tests.{le-leb}
use lib.ListN.{length, get_or, take, drop}
use Rattle.std.proofs.Common.{Some, None}
use Rattle.rules.specs.Book.{backward}
use Rattle.rules.proofs.Listed.{flip}
use Rattle.rules.proofs.Strips.{move_of}
use Rattle.rules.proofs.Index.{rests}
use Rattle.rules.proofs.Descent.{Descent, move_inside, others, fits, short, found as kind_moves, past_front, past_back}
use Rattle.moves.specs.declared.Step.{Step}
use Rattle.moves.specs.Steps.{step, step_of}
use Rattle.walker.specs.declared.Walker.{Walker}
use Rattle.walker.proofs.ByKind.{walker_to_lem, to_at}
use Rattle.walking.specs.Checked.{Checked, found}

-- a step that was found, and one that was not
step_some : (o : maybe.Option (ℕ × ℕ)) (m : Step) → Some m ≡ step o → o ≡ some (m.low, m.high)
step_some none m e = cc
step_some (some pq) m e = let f : m ≡ record { low = pq.0; high = pq.1 } = cc in rw f

step_none : (o : maybe.Option (ℕ × ℕ)) → None ≡ step o → o ≡ none
step_none none e = refl
step_none (some pq) e = cc

-- the direction that a walker holds for a kind
direction_at : (counts s : List ℕ) (w : Walker) → Checked counts s w → (i : ℕ) → i < length counts → get_or w.back i false ≡ backward counts (suc i) s
direction_at counts s w v i l =
    let few = v.stock.few in
    rw (v.walker, walker_to_lem counts s) (rw (le-leb (suc i) (length counts) l) at (to_at counts s (length counts) i (omega arith)))

-- i kinds are below kind j, which steps on (f false) or back (f true) in the list of its patterns
pub record Turn (back : Bool) (counts s : List ℕ) (f : Bool) (j i lo hi : ℕ) : Type 0 where
  pub fits : lo + get_or counts i 0 ≤ hi
  pub short : length (take (hi - lo) (drop lo s)) ≤ 64
  pub others : hi - lo - get_or counts i 0 ≡ rests j (take (hi - lo) (drop lo s))
  pub moves : (m : Step) → Some m ≡ step_of f j (take (hi - lo) (drop lo s))
      → (lo + m.low < length s) × (lo + m.high < length s) × (Some (record { kind = j; low = lo + m.low; high = lo + m.high }) ≡ found (length counts) (move_of back counts s))
  pub past_front : None ≡ step_of f j (take (hi - lo) (drop lo s)) → f ≡ false → Descent back counts s i (lo + get_or counts i 0) hi
  pub past_back : None ≡ step_of f j (take (hi - lo) (drop lo s)) → f ≡ true → Descent back counts s i lo (hi - get_or counts i 0)

pub turn : (back : Bool) (counts s : List ℕ) (w : Walker) → Checked counts s w → (j lo hi : ℕ) → 0 < j → Descent back counts s j lo hi
    → (f : Bool) → f ≡ flip (get_or w.back (j - 1) false) back → Turn back counts s f (j - 1 + 1) (j - 1) lo hi
turn back counts s w v zero lo hi p h f is = absurd (omega arith)
turn back counts s w v (suc i) lo hi p h f is =
    let l : i < length counts = omega (arith, h.kinds) in
    let e : suc i - 1 ≡ i = omega arith in
    let g : f ≡ flip (backward counts (suc i) s) back = is ∙ rw (e, direction_at counts s w v i l) in
    let k : length counts - (length counts - suc i) ≡ suc i = omega arith in
    let t : Turn back counts s (flip (backward counts (suc i) s) back) (suc i) i lo hi = record {
      fits = fits back counts s v.strip i lo hi l h;
      short = omega (arith, short back counts s v.strip i lo hi l h, v.stock.short);
      others = others back counts s v.strip i lo hi l h;
      moves = λ m is.
          let r = kind_moves back counts s v.strip i lo hi l h m.low m.high (step_some _ m is) in
          let b = move_inside back counts s v.strip _ r in
          (omega (arith, b.0, b.1), b.1, rw (r, k));
      past_front = λ is. past_front back counts s v.strip i lo hi l h (step_none _ is);
      past_back = λ is. past_back back counts s v.strip i lo hi l h (step_none _ is);
    } in
    let one : suc i - 1 + 1 ≡ suc i = omega arith in
    rw (one, e, g) t
