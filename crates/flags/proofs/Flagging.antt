-- Proofs. Flags: setting the one of a strip, a pass over all of them, and what they say of the book that they belong to.
use Prim.Native.Nat.{ℕ, suc, ◌+◌, ◌≤◌, ◌<◌, suc-le-suc}
use mathlib.Core.Path.{◌≡◌, refl, ◌∙◌}
use mathlib.Core.Bool.{Bool, true, false, not, cond, ◌||◌}
use mathlib.Core.List.{List, [], ◌∷◌}
use native.Mathlib.Decide.{ℕ_discrete}
use native.Mathlib.Numerals.{add-one}
use native.Mathlib.Omega.{arith}
use borrow.Author.Tests.{eq-eqb, ne_eqb}
use lib.ListN.{length, get_or, set, take, drop, replicate, drop_of_length-le, length-replicate, get_or-replicate}
use mir.Val.{bool_byte}
use Rattle.std.proofs.Common.{slice_index_or}
use lib.Seq.{drop-cons, length-take-le, get_or-take, get_or-set_same, get_or-set_other}
use Rattle.std.proofs.lemmas.List.Sums.{sum_by-cons}
use Rattle.rules.specs.Stock.{total, tally, IsStrip}
use Rattle.rules.specs.Book.{book, same, place_in, ahead}
use Rattle.rules.proofs.Places.{place_same}
use Rattle.searching.specs.Searching.{passed_over, passing, is_among}
use Rattle.bar.specs.Bar.{different, missing}
use Rattle.flags.specs.Flags.{Clear, Flagged, how_many_set, first_clear_place}

-- ---- the first of so many clear flags

module _ (strips size : ℕ) (fits : strips ≤ size) where
  pub part_length : (b : Bool) → length (take strips (replicate size b)) ≡ strips
  part_length b = length-take-le strips (replicate size b) (rw (length-replicate size b) fits)

  pub part_clear : Clear (take strips (replicate size false))
  part_clear k l =
      let m : k < strips = omega (arith, part_length false) in
      get_or-take strips (replicate size false) k false m ∙ get_or-replicate size k false false (omega arith)

-- ---- the flag of a strip is set

pub set_flag : (counts t : List ℕ) (flags : List Bool) (number k : ℕ) → IsStrip counts t → number ≡ place_in (book counts) t → number < length flags → k < total counts
    → get_or (set flags number true) k false ≡ (same t (get_or (book counts) k []) || get_or flags k false)
set_flag counts t flags number k own at room l = rw (place_same counts t own k l, ← at) (elim (ℕ_discrete k number) [
  | yes e ↦ rw (e, eq-eqb number number refl) (get_or-set_same flags number true false room)
  | no e ↦ rw (ne_eqb k number e) (get_or-set_other flags number k true false e)
])

-- ---- one flag more in front

counted_more : (b : Bool) (flags : List Bool) → how_many_set (b ∷ flags) ≡ tally b (how_many_set flags)
counted_more true flags = omega (arith, sum_by-cons (λ set. cond set 1 0) true flags)
counted_more false flags = omega (arith, sum_by-cons (λ set. cond set 1 0) false flags)

clear_further : (b : Bool) (flags : List Bool) → first_clear_place (b ∷ flags) ≡ ahead (not b) (first_clear_place flags)
clear_further true flags = omega arith
clear_further false flags = refl

-- ---- counting those that are set: the flag at a place, as the byte that it is, and those behind it

byte_few : (b : Bool) → bool_byte b ≤ 1
byte_few true = omega arith
byte_few false = omega arith

tallied : (b : Bool) (n : ℕ) → tally b n ≡ bool_byte b + n
tallied true n = omega arith
tallied false n = omega arith

module _ (flags : List Bool) (i : ℕ) where
  pub set_few : bool_byte (slice_index_or flags i false) ≤ 1
  set_few = byte_few (slice_index_or flags i false)

  pub set_on : i < length flags → how_many_set (drop i flags) ≡ bool_byte (slice_index_or flags i false) + how_many_set (drop (i + 1) flags)
  set_on h = rw (add-one i, drop-cons flags i false h) (counted_more (get_or flags i false) (drop (suc i) flags) ∙ tallied (get_or flags i false) (how_many_set (drop (suc i) flags)))

  pub set_end : length flags ≤ i → how_many_set (drop i flags) ≡ 0
  set_end h = rw (drop_of_length-le flags h)

-- ---- what the flags of a book say

module _ (test : List ℕ → Bool) where
  many_pass : (flags : List Bool) (l : List (List ℕ)) → length flags ≡ length l → ((k : ℕ) → k < length l → get_or flags k false ≡ test (get_or l k [])) → how_many_set flags ≡ length (passing test l)
  unfolding passing
  many_pass [] [] e h = refl
  many_pass [] (s ∷ l) e h = absurd (omega arith)
  many_pass (b ∷ flags) [] e h = absurd (omega arith)
  many_pass (b ∷ flags) (s ∷ l) e h = counted_more b flags ∙ rw (h 0 (omega arith), many_pass flags l (omega arith) (λ k m. h (suc k) (suc-le-suc m))) (go (test s))
    where
      go : (b : Bool) → tally b (length (passing test l)) ≡ length (cond b (s ∷ passing test l) (passing test l))
      go true = refl
      go false = refl

  first_fails : (flags : List Bool) (l : List (List ℕ)) → length flags ≡ length l → ((k : ℕ) → k < length l → get_or flags k false ≡ test (get_or l k [])) → first_clear_place flags ≡ passed_over (λ s. not (test s)) l
  unfolding passed_over
  first_fails [] [] e h = refl
  first_fails [] (s ∷ l) e h = absurd (omega arith)
  first_fails (b ∷ flags) [] e h = absurd (omega arith)
  first_fails (b ∷ flags) (s ∷ l) e h = clear_further b flags ∙ rw (h 0 (omega arith), first_fails flags l (omega arith) (λ k m. h (suc k) (suc-le-suc m)))

module _ (book l : List (List ℕ)) (flags : List Bool) (f : Flagged book l flags) where
  pub many_different : how_many_set flags ≡ different l book
  many_different = many_pass (is_among l) flags book f.many f.each

  pub first_missing : first_clear_place flags ≡ missing l book
  first_missing = first_fails (is_among l) flags book f.many f.each
