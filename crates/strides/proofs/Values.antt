-- Proofs. Numbers as bytes: a number that is written is read again, and std reads and writes the same bytes.
use Prim.Native.Nat.{ℕ, zero, suc, ◌+◌, ◌*◌, ◌/◌, ◌%◌, ◌^◌, ◌≤◌, ◌<◌}
use mathlib.Core.Path.{◌≡◌, refl, sym, ap, ◌∙◌}
use mathlib.Core.List.{List, [], ◌∷◌, ◌++◌}
use native.Mathlib.Nat.{div-div-eq-div-mul}
use native.Mathlib.Numerals.{unary_clauses}
use native.Mathlib.Omega.{arith}
use lib.ListN.{length, get_or, take, drop, length-append}
use lib.Seq.{length-take-le}
use native.Mathlib.Decide.{dec_lt}
use Rattle.std.proofs.lemmas.List.{get_or-take, get_or_past}
use Rattle.std.specs.Int.{w64, byte_at, bytes_high_first, from_be_bytes}
use Rattle.std.proofs.lemmas.Nat.{be_bytes_8}
use Rattle.strides.specs.Strides.{value_after, value, bytes_of, stride_record}

value_append : (n : ℕ) (l : List ℕ) (x : ℕ) → value_after n (l ++ (x ∷ [])) ≡ value_after n l * 256 + x
unfolding value_after
value_append n [] x = refl
value_append n (y ∷ l) x = value_append (n * 256 + y) l x

-- a number that is written in k bytes
pub value_bytes : (k n : ℕ) → n < 256 ^ k → value (bytes_of k n) ≡ n
unfolding bytes_of value_after
value_bytes zero n h = omega arith
value_bytes (suc k) n h =
    let e : 256 ^ suc k ≡ 256 * 256 ^ k = simp unary_clauses (omega arith) in
    let l : n / 256 < 256 ^ k = omega (arith, e) in
    value_append 0 (bytes_of k (n / 256)) (n % 256) ∙ rw (value_bytes k (n / 256) l) (omega arith)

pub bytes_long : (k n : ℕ) → length (bytes_of k n) ≡ k
unfolding bytes_of
bytes_long zero n = refl
bytes_long (suc k) n = length-append (bytes_of k (n / 256)) (n % 256 ∷ []) ∙ rw (bytes_long k (n / 256)) (omega arith)

-- ---- std's bytes of a number are these

byte_below : (k n : ℕ) → byte_at k (n / 256) ≡ byte_at (suc k) n
byte_below zero n = refl
byte_below (suc k) n =
    let e : 256 * 256 ^ suc k ≡ 256 ^ suc (suc k) = simp unary_clauses (omega arith) in
    ap (λ (q : ℕ). q % 256) (div-div-eq-div-mul n 256 (256 ^ suc k) ∙ rw e refl)

lowest_last : (k n : ℕ) → bytes_high_first k (n / 256) ++ (n % 256 ∷ []) ≡ bytes_high_first (suc k) n
lowest_last zero n = refl
lowest_last (suc k) n = rw (lowest_last k n, byte_below k n) refl

pub high_first : (k n : ℕ) → bytes_high_first k n ≡ bytes_of k n
unfolding bytes_of
high_first zero n = refl
high_first (suc k) n = sym (lowest_last k n) ∙ rw (high_first k (n / 256)) refl

-- and so is the number that it reads from the first eight
pub number_is : (l : List ℕ) (n : ℕ) → 8 ≤ length l → ((i : ℕ) → get_or l i 0 < 256) → n < 256 ^ 8 → n ≡ from_be_bytes w64 (take 8 l) → n ≡ value (take 8 l)
number_is l n long small fits e =
    let below : (i : ℕ) → get_or (take 8 l) i 0 < 256 = λ i. elim (dec_lt i 8) [
      | yes h ↦ rw (get_or-take 8 l i 0 h) (small i)
      | no h ↦ rw (get_or_past (take 8 l) i 0 (omega (arith, length-take-le 8 l long))) (omega arith)
    ] in
    sym (value_bytes 8 n fits) ∙ ap value (sym (high_first 8 n) ∙ be_bytes_8 (take 8 l) n (length-take-le 8 l long) below e)

-- the stride's record in front of bytes that stay
pub stride_put : (n : ℕ) (rest put : List ℕ) → put ≡ (5 ∷ bytes_high_first 8 n) ++ drop 9 rest → put ≡ stride_record n ++ drop 9 rest
unfolding stride_record
stride_put n rest put e = e ∙ rw (← high_first 8 n) refl
