-- Proofs. The body of a record, with zeros behind what is copied into it.
use Prim.Native.Nat.{ℕ, suc, ◌+◌, ◌≤◌}
use mathlib.Core.Path.{◌≡◌, refl, ◌∙◌}
use mathlib.Core.List.{List, ◌∷◌, ◌++◌}
use native.Mathlib.Omega.{arith}
use lib.ListN.{length, drop, replicate}
use lib.Seq.{paste}
use Rattle.std.proofs.lemmas.List.{drop-replicate}
use Rattle.std.proofs.lemmas.List.Edits.{paste_all}
use Rattle.copying.proofs.Copies.{copy_length}
use Rattle.sheets.specs.Sheets.{padded}

-- copied over zeros
pub padded_copy : (n : ℕ) (l : List ℕ) (i : ℕ) → i ≡ length l → paste (replicate n 0) 0 l i ≡ padded n l
unfolding padded
padded_copy n l i all =
    let all_of : 0 + i ≡ length l = omega (arith, all) in
    paste_all (replicate n 0) 0 l i all ∙ rw (all_of, drop-replicate {X = ℕ} (length l) n 0)

pub padded_long : (n : ℕ) (l : List ℕ) → length l ≤ n → length (padded n l) ≡ n
unfolding padded
padded_long n l h = copy_length n l (padded n l) refl h

-- a record whose body is l with zeros, n bytes in all
pub padded_record : (n kind : ℕ) (l body rest put : List ℕ) → length l ≤ n → body ≡ padded n l → put ≡ (kind ∷ body) ++ drop (suc (length body)) rest
    → put ≡ (kind ∷ padded n l) ++ drop (suc n) rest
padded_record n kind l body rest put h b e = e ∙ rw (b, padded_long n l h)
