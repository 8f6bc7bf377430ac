-- Proofs. A stride at a byte, or a record that is neither a move nor a stride: refused there, or passed.
use Prim.Native.Nat.{ℕ, ◌+◌, ◌-◌, ◌≤◌, ◌<◌}
use mathlib.Core.Path.{◌≡◌, refl, sym, ap, ◌∙◌}
use mathlib.Core.Bool.{Bool, true, false, ◌&&◌}
use mathlib.Core.List.{List}
use native.Mathlib.Omega.{arith}
use lib.Dec.{eqb}
use lib.ListN.{length, get_or, take, drop}
use Rattle.std.specs.Prelude.{Ok, Err}
use Rattle.rules.specs.Refusals.{No, first_of}
use Rattle.stock.specs.declared.refused.Reason.{Reason}
use Rattle.stock.specs.declared.refused.Reason.TheVariants.{Record}
use Rattle.stock.specs.declared.refused.Refused.{Refused}
use Rattle.stock.specs.Refused.{number_of}
use Rattle.stock.proofs.Told.{number_some}
use Rattle.walker.specs.declared.Walker.{Walker}
use Rattle.walker.specs.Walkers.{walker_for}
use Rattle.walking.specs.Answers.{onward}
use Rattle.strides.specs.Strides.{value, stride_nos}
use Rattle.strides.specs.Strode.{Strode}
use Rattle.strides.proofs.Rows.{rows_passed}
use Rattle.following.specs.Following.{Followed, refused_at, if_made, follow}
use Rattle.following.specs.Ends.{Took}
use Rattle.following.proofs.Steps.{at_other, at_short_stride, at_stride, made, made_not}

module _ (counts sheet s : List ℕ) (at : ℕ) (h : at < length sheet) where
  -- neither a move nor a stride of this edition
  pub took_other : (strides : Bool) → (get_or sheet at 0 ≡ 3 → ⊥) → (strides && eqb (get_or sheet at 0) 5) ≡ false → (get_or sheet at 0 ≡ 4 → ⊥) → (e : Refused) → e ≡ record { reason = Record; place = at } → Took strides counts sheet s at (Err e) s
  took_other strides m f g e is = rw is (ap (λ (f : Followed). f.no) (at_other strides counts s sheet at h m f g))

  -- a stride
  module _ (stride : get_or sheet at 0 ≡ 5) where
    pub took_short_stride : length sheet - at < 9 → (e : Refused) → e ≡ record { reason = Record; place = at } → Took true counts sheet s at (Err e) s
    took_short_stride l e is = rw is (ap (λ (f : Followed). f.no) (at_short_stride true counts s sheet at h stride refl l))

    module _ (l : 9 ≤ length sheet - at) (n : ℕ) (is : n ≡ value (take 8 (drop (at + 1) sheet))) (t : List ℕ) where
      whole_stride : follow true counts s at (drop at sheet) ≡ if_made (first_of (stride_nos counts s n)) n at (follow true counts (onward counts s n) (at + 9) (drop (at + 9) sheet))
      whole_stride = at_stride true counts s sheet at h stride refl l n is

      pub took_stride_no : (r : Reason) → Strode counts s n (Err r) t → (e : Refused) → e ≡ record { reason = r; place = at } → Took true counts sheet s at (Err e) t
      took_stride_no r v e k =
          let row : number_of r ≡ (first_of (stride_nos counts s n)).0 = ap (λ (r : No). r.0) v.refusal in
          rw k (ap (λ (f : Followed). f.no) (whole_stride ∙ made_not (first_of (stride_nos counts s n)) n at _ (λ z. number_some r (row ∙ z)) ∙ ap (λ (m : ℕ). refused_at m at) (sym row)))

      pub took_stride : Strode counts s n (Ok tt) t → (next : Walker) → next ≡ walker_for counts t → Took true counts sheet s at (Ok (record { walker = next; bytes = 9; moves = n })) t
      took_stride v next w_is =
          let z : (first_of (stride_nos counts s n)).0 ≡ 0 = ap (λ (r : No). r.0) (sym v.refusal) in
          let a = rows_passed counts s n z in
          record {
            follows = whole_stride ∙ made (first_of (stride_nos counts s n)) n at _ z ∙ rw v.strip;
            inside = omega arith;
            strip = v.strip;
            within = a.within;
            walker = w_is;
            few = λ k. a.few;
            some = omega arith;
          }
