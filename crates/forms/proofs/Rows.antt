-- Computed rows: the one form for some counts of moves, beside the numbers of document 02.
use Prim.Native.Nat.{ℕ}
use mathlib.Core.Path.{◌≡◌, refl}
use mathlib.Core.List.{List, [], ◌∷◌, map}
use lib.ListN.{replicate}
use Rattle.rules.specs.Stock.{sum, binom, product, total}
use Rattle.strides.specs.Strides.{bytes_of, stride_record}
use Rattle.forms.specs.Forms.{form_records, form_length}

-- none, one and two moves are single ones; 92 bytes for more, however many
pub lengths : map (form_length (2 ∷ 3 ∷ [])) (0 ∷ 1 ∷ 2 ∷ 3 ∷ 9 ∷ 10000000 ∷ []) ≡ 83 ∷ 86 ∷ 89 ∷ 92 ∷ 92 ∷ 92 ∷ []
unfolding form_length total
lengths = refl

-- a stride of 3, and one of 2^32 + 258, from whatever strip
pub three : (s : List ℕ) → form_records (2 ∷ 3 ∷ []) s 3 ≡ 5 ∷ 0 ∷ 0 ∷ 0 ∷ 0 ∷ 0 ∷ 0 ∷ 0 ∷ 3 ∷ []
unfolding form_records total stride_record bytes_of
three s = refl

pub many : (s : List ℕ) → form_records (2 ∷ 3 ∷ []) s 4294967554 ≡ 5 ∷ 0 ∷ 0 ∷ 0 ∷ 1 ∷ 0 ∷ 0 ∷ 1 ∷ 2 ∷ []
unfolding form_records total stride_record bytes_of
many s = refl

-- of sixteen 4s, which cannot be numbered, single moves
pub unnumbered : map (form_length (replicate 16 4)) (2 ∷ 3 ∷ 1000 ∷ []) ≡ 89 ∷ 92 ∷ 3083 ∷ []
unfolding form_length total product binom sum
unnumbered = refl
