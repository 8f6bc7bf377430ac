-- Proofs. The records of moves on their way: the walk has made i moves, and their records stand at the front of the rest.
use Prim.Native.Nat.{ℕ, suc, ◌+◌, ◌-◌, ◌*◌, ◌≤◌}
use mathlib.Core.Path.{◌≡◌, refl}
use mathlib.Core.Bool.{false}
use mathlib.Core.List.{List, [], ◌∷◌, ◌++◌}
use native.Mathlib.Numerals.{add-one}
use native.Mathlib.Omega.{arith}
use borrow.Rule.Slice.PartMut.{put_mid}
use lib.ListN.{length, drop}
use Rattle.std.specs.Prelude.{Some}
use Rattle.rules.specs.Stock.{IsStock, IsStrip}
use Rattle.walker.specs.declared.Walker.{Walker}
use Rattle.walking.specs.declared.stepping.Made.{Made}
use Rattle.walking.specs.Checked.{Checked, step_answer, step_strip}
use Rattle.walking.proofs.Walked.{Walked, start as set_out, on as walks_on, shown}
use Rattle.sheets.specs.Sheets.{move_records}
use Rattle.sheets.proofs.Rest.{rest_of, Filled, more}

pub record Listing (counts s rest₀ t : List ℕ) (w : Walker) (rest : List ℕ) (i : ℕ) : Type 0 where
  pub walked : Walked false counts s t w i
  pub filled : Filled rest₀ rest (move_records counts s i) (3 * i)

pub start : (counts s rest : List ℕ) (w : Walker) → Checked counts s w → Listing counts s rest s w rest 0
unfolding move_records
start counts s rest w c = record { walked = set_out false counts s w c; filled = record { room = omega arith; long = refl; put = refl } }

module _ (counts s rest₀ t : List ℕ) (w : Walker) (rest : List ℕ) (i : ℕ) (v : Listing counts s rest₀ t w rest i) where
  -- a step, and its record in the rest behind the last
  pub on : (k : IsStock counts) (h : IsStrip counts s) (r : Made) (u : List ℕ) → (Some r ≡ step_answer false counts t) × (u ≡ step_strip false counts t)
      → 3 * i + 3 ≤ length rest₀ → (ys : List ℕ) → length ys ≡ length (rest_of (3 * i) rest) → ys ≡ 3 ∷ r.low ∷ r.high ∷ drop 3 (rest_of (3 * i) rest)
      → Listing counts s rest₀ u r.walker (put_mid (3 * i) (length rest - 3 * i) rest ys) (i + 1)
  unfolding move_records
  on k h r u is room ys kept e =
      let next : 3 * i + 3 ≡ 3 * suc i = omega arith in
      let filled = more rest₀ rest (move_records counts s i) (3 * i) v.filled 3 ys (3 ∷ r.low ∷ r.high ∷ []) room kept e in
      record {
        walked = walks_on false counts s t w i k h v.walked r u is;
        filled = rw (add-one i, shown false counts s t w i k h v.walked r u is) (rw next at filled);
      }

-- the records of a strip that is the same
pub of_same : (counts s t z ys : List ℕ) (c : ℕ) → t ≡ s → ys ≡ move_records counts t c ++ z → ys ≡ move_records counts s c ++ z
of_same counts s t z ys c e f = rw e at f
