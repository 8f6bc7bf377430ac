-- Proofs. The two cases of the one form.
use Prim.Native.Nat.{ℕ, ◌+◌, ◌*◌, ◌^◌, ◌≤◌, ◌<◌}
use mathlib.Core.Path.{◌≡◌, ap, ◌∙◌}
use mathlib.Core.Bool.{Bool, false, ◌&&◌, and-false}
use mathlib.Core.List.{List}
use native.Mathlib.Decide.{dec_lt}
use native.Mathlib.Omega.{arith}
use borrow.Author.Tests.{lt-ltb, le-ltb, le-leb, lt-leb}
use lib.Dec.{ltb}
use Rattle.rules.specs.Stock.{total}
use Rattle.sheets.specs.Sheets.{move_records}
use Rattle.strides.specs.Strides.{stride_record}
use Rattle.forms.specs.Forms.{strided, form_records, form_length}

-- one stride
pub record Long (counts s : List ℕ) (c : ℕ) : Type 0 where
  pub few : total counts < 2 ^ 64
  pub three : 3 ≤ c
  pub records : form_records counts s c ≡ stride_record c
  pub length : form_length counts c ≡ 92

-- single moves
pub record Short (counts s : List ℕ) (c : ℕ) : Type 0 where
  pub why : total counts < 2 ^ 64 → c < 3
  pub records : form_records counts s c ≡ move_records counts s c
  pub length : form_length counts c ≡ 83 + 3 * c

module _ (counts s : List ℕ) (c : ℕ) where
  pub long : total counts < 2 ^ 64 → 3 ≤ c → Long counts s c
  unfolding form_records form_length
  long h k = record { few = h; three = k; records = rw (lt-ltb (total counts) (2 ^ 64) h, le-leb 3 c k); length = rw (lt-ltb (total counts) (2 ^ 64) h, le-leb 3 c k) }

  pub short_few : c < 3 → Short counts s c
  unfolding form_records form_length
  short_few k =
      let e : strided counts c ≡ false = ap (λ (b : Bool). ltb (total counts) (2 ^ 64) && b) (lt-leb 3 c k) ∙ and-false (ltb (total counts) (2 ^ 64)) in
      record { why = λ h. k; records = rw e; length = rw e }

  pub short_many : 2 ^ 64 ≤ total counts → Short counts s c
  unfolding form_records form_length
  short_many k = record { why = λ h. absurd (omega arith); records = rw (le-ltb (total counts) (2 ^ 64) k); length = rw (le-ltb (total counts) (2 ^ 64) k) }

  -- it is one or the other
  pub by_case : {A : Type 0} → (Long counts s c → A) → (Short counts s c → A) → A
  by_case f g = elim (dec_lt (total counts) (2 ^ 64)) [
    | yes h ↦ elim (dec_lt c 3) [ yes k ↦ g (short_few k) | no k ↦ f (long h (omega arith)) ]
    | no h ↦ g (short_many (omega arith))
  ]
