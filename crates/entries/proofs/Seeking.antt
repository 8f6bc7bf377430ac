-- Proofs. Looking for the kind that a number leads to, from the first kind on.
use Prim.Native.Nat.{ℕ, suc, ◌+◌, ◌-◌, ◌*◌, ◌/◌, ◌≤◌, ◌<◌}
use mathlib.Core.Path.{◌≡◌}
use mathlib.Core.List.{List}
use native.Mathlib.Nat.{mul-le-mul_left, div-le_of_le-mul, zero-div}
use native.Mathlib.Numerals.{add-one}
use native.Mathlib.Omega.{arith}
use lib.ListN.{length, get_or, take}
use Rattle.rules.specs.Stock.{sum, total}
use Rattle.rules.proofs.Turned.{sum_next}
use Rattle.rules.proofs.Prefixes.{sum_take}
use Rattle.entries.proofs.Picks.{shares_meet}

-- the kinds before `kind` are passed, and `ahead` orders begin with one of them
pub record Seeking (left : List ℕ) (rest kind ahead : ℕ) : Type 0 where
  pub passed : kind ≤ length left
  pub ahead_is : ahead ≡ total left * sum (take kind left) / sum left
  pub from : ahead ≤ rest

pub seek_start : (left : List ℕ) (rest : ℕ) → Seeking left rest 0 0
unfolding sum
seek_start left rest =
    let e : total left * 0 ≡ 0 = omega arith in
    record { passed = omega arith; ahead_is = rw (e, zero-div (sum left)); from = omega arith }

module _ (left : List ℕ) (n ways rest kind ahead : ℕ) (s : Seeking left rest kind ahead) (h : kind < length left) (all : sum left ≡ n) (some : 0 < n) (are : ways ≡ total left) where
  pub kind_few : get_or left kind 0 ≤ n
  kind_few = omega (arith, all, sum_next left kind h, sum_take left (suc kind))

  pub own_fits : ways * get_or left kind 0 / n ≤ ways
  own_fits = div-le_of_le-mul n (omega (arith, mul-le-mul_left ways kind_few))

  pub seek_on : (own : ℕ) → own ≡ ways * get_or left kind 0 / n → own ≤ rest - ahead → Seeking left rest (kind + 1) (ahead + own)
  seek_on own is l = go (n - 1) (omega (arith, all, some))
    where
      go : (m : ℕ) → sum left ≡ suc m → Seeking left rest (kind + 1) (ahead + own)
      go m f = rw (add-one kind) (record {
        passed = h;
        ahead_is = rw (s.ahead_is, is, are, ← all, f) (shares_meet left m kind f h);
        from = omega (arith, s.from, l);
      })
