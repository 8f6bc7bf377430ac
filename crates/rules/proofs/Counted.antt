-- Proofs. A loop that counts the blocks of all kinds in one pass.
use Prim.Native.Nat.{ℕ, ◌+◌, ◌≤◌, ◌<◌}
use mathlib.Core.Path.{◌≡◌, refl, sym, ◌∙◌}
use mathlib.Core.List.{List}
use native.Mathlib.Decide.{ℕ_discrete}
use native.Mathlib.Omega.{arith}
use lib.ListN.{length, get_or, set, drop, replicate, length-set, length-replicate, get_or-replicate}
use lib.Seq.{get_or-set_same, get_or-set_other}
use Rattle.rules.specs.Stock.{count}
use Rattle.rules.proofs.Steps.{count_hit, count_miss, count_end}

-- i blocks are passed; of each kind below `kinds`, those seen and those of the rest are those of the whole strip
pub record Counted (kinds : ℕ) (strip seen : List ℕ) (i : ℕ) : Type 0 where
  pub passed : i ≤ length strip
  pub room : length seen ≡ kinds
  pub fewer : (j : ℕ) → j < kinds → get_or seen j 0 ≤ i
  pub both : (j : ℕ) → j < kinds → get_or seen j 0 + count j (drop i strip) ≡ count j strip

pub counted_start : (kinds : ℕ) (strip : List ℕ) → Counted kinds strip (replicate kinds 0) 0
counted_start kinds strip = record {
  passed = omega arith;
  room = length-replicate kinds 0;
  fewer = λ j h. omega (arith, get_or-replicate {A = ℕ} kinds j 0 0 h);
  both = λ j h. omega (arith, get_or-replicate {A = ℕ} kinds j 0 0 h);
}

module _ (kinds : ℕ) (strip seen : List ℕ) (i : ℕ) (s : Counted kinds strip seen i) where
  pub counted_on : i < length strip → get_or strip i 0 < kinds → Counted kinds strip (set seen (get_or strip i 0) (get_or seen (get_or strip i 0) 0 + 1)) (i + 1)
  counted_on h k = record {
    passed = omega arith;
    room = length-set seen x (get_or seen x 0 + 1) ∙ s.room;
    fewer = λ j l. (at j l).0;
    both = λ j l. (at j l).1;
  }
    where
      x : ℕ
      x = get_or strip i 0

      more : List ℕ
      more = set seen x (get_or seen x 0 + 1)

      at : (j : ℕ) → j < kinds → (get_or more j 0 ≤ i + 1) × (get_or more j 0 + count j (drop (i + 1) strip) ≡ count j strip)
      at j l = elim (ℕ_discrete x j) [
        | yes e ↦ rw (← e) (omega (arith, get_or-set_same seen x (get_or seen x 0 + 1) 0 (omega (arith, s.room)), count_hit x strip i h refl, s.fewer x k, s.both x k))
        | no e ↦ omega (arith, get_or-set_other seen x j (get_or seen x 0 + 1) 0 (λ f. e (sym f)), count_miss j strip i h e, s.fewer j l, s.both j l)
      ]

  pub counted_end : length strip ≤ i → (j : ℕ) → j < kinds → get_or seen j 0 ≡ count j strip
  counted_end h j l = omega (arith, count_end j strip i h, s.both j l)
