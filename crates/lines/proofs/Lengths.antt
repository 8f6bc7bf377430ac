-- Proofs. How long the printed lines can be.
use Prim.Native.Nat.{ℕ, suc, ◌*◌, ◌≤◌, ◌<◌}
use mathlib.Core.List.{List, [], ◌∷◌, map}
use native.Mathlib.Omega.{arith}
use lib.ListN.{length, get_or, length-append}
use Rattle.rules.specs.Refusals.{No}
use Rattle.lines.specs.Text.{hyphen, decimal, preceded, joined, refused_line, strip_line}
use Rattle.lines.proofs.Decimals.{decimal_short, decimal_kind}
use Rattle.lines.proofs.Parts.{strip_room, refused_room}

kinds_length : (s : List ℕ) → ((i : ℕ) → i < length s → get_or s i 0 < 100) → length (preceded hyphen (map decimal s)) ≤ 3 * length s
unfolding preceded
kinds_length [] h = omega arith
kinds_length (x ∷ s) h =
    let k : (i : ℕ) → i < length s → get_or s i 0 < 100 = λ i l. h (suc i) (omega arith) in
    omega (arith, length-append (decimal x) (preceded hyphen (map decimal s)), decimal_kind x (h 0 (omega arith)), kinds_length s k)

joined_length : (s : List ℕ) → ((i : ℕ) → i < length s → get_or s i 0 < 100) → length (joined hyphen (map decimal s)) ≤ 3 * length s
unfolding joined preceded
joined_length [] h = omega arith
joined_length (x ∷ s) h = omega (arith, kinds_length (x ∷ s) h)

-- a strip of at most 64 blocks, of kinds of at most two digits
pub strip_length : (number : ℕ) (s : List ℕ) → length s ≤ 64 → ((i : ℕ) → i < length s → get_or s i 0 < 100) → length (strip_line number s) ≤ 200
strip_length number s n h = omega (arith, strip_room number s, decimal_short number, joined_length s h)

pub refused_length : (r : No) → length (refused_line r) ≤ 200
refused_length r = omega (arith, refused_room r, decimal_short r.0, decimal_short r.1)
