-- TO BE BELIEVED. Runs one after the other: the places that they list.
use Rattle.std.specs.Prelude.{ℕ, zero, suc, ◌*◌, List, [], ◌++◌, take}
use Rattle.running.specs.declared.run.Ran.{Ran}

-- the places of the moves of the first n runs, by the answer and the list of each
unfoldable pub all_listed : (ℕ → Ran) → (ℕ → List ℕ) → ℕ → List ℕ
all_listed answers lists zero = []
all_listed answers lists (suc n) = all_listed answers lists n ++ take (2 * (answers n).moves) (lists n)
