-- What the functions here promise of one place. No open call's contract cites it, so nothing here is to be believed. Places are counted from 0.
use Rattle.std.specs.Prelude.{ℕ, suc, ◌-◌, ◌≤◌, ◌<◌, ◌≡◌, Option, None, Some, List, length, get_or}

-- of n places, all from i on but the last of all are behind both
pub record Begins (n seen changed i : ℕ) : Type 0 where
  pub within : i < n
  pub behind : (k : ℕ) → i ≤ k → suc k < n → (seen ≤ k) × (changed < k)

-- no place that is behind both is like the next
abbrev pub FreeBehind : List ℕ → ℕ → ℕ → Type 0
FreeBehind s seen changed = (k : ℕ) → seen ≤ k → changed < k → suc k < length s → get_or s k 0 ≡ get_or s (suc k) 0 → ⊥

-- no place from i on is like the next
pub record FreeFrom (s : List ℕ) (i : ℕ) : Type 0 where
  pub within : i < length s
  pub free : (k : ℕ) → i ≤ k → suc k < length s → get_or s k 0 ≡ get_or s (suc k) 0 → ⊥

-- the last place that is like the one before it, where there is one
abbrev pub IsLast : List ℕ → Option ℕ → Type 0
IsLast s None = FreeFrom s 0
IsLast s (Some i) = FreeFrom s i × (0 < i) × (get_or s (i - 1) 0 ≡ get_or s i 0)
