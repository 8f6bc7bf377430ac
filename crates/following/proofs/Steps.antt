-- Proofs. What following a sheet comes to, by the record at the byte where it stands.
use Prim.Native.Nat.{ℕ, zero, suc, ◌+◌, ◌-◌, ◌≤◌, ◌<◌}
use mathlib.Core.Path.{◌≡◌, refl, ap, ◌∙◌, sym, subst}
use mathlib.Core.Bool.{Bool, true, false, not, ◌&&◌, and-false}
use mathlib.Core.List.{List, [], ◌∷◌}
use native.Mathlib.Numerals.{add-one}
use native.Mathlib.Omega.{arith}
use borrow.Author.Tests.{eq-eqb, ne_eqb, lt-ltb, le-ltb}
use lib.Dec.{eqb, ltb}
use lib.ListN.{length, get_or, take, drop, length-drop, drop_of_length-le}
use lib.Seq.{drop-cons, drop-drop}
use Rattle.rules.specs.Book.{same}
use Rattle.rules.specs.Neighbours.{places}
use Rattle.rules.specs.Refusals.{No, fine, first_of}
use Rattle.rules.proofs.Refusals.{when_is}
use Rattle.walking.specs.Answers.{along, onward}
use Rattle.strides.specs.Strides.{value, stride_nos}
use Rattle.strides.proofs.Rows.{stride_is}
use Rattle.following.specs.Following.{Followed, refused_at, more, choice, ended, whole, if_made, next_no, by_kind, follow_past, follow}

-- ---- by the first byte of what is left

module _ (strides : Bool) (counts s : List ℕ) where
  -- the bytes of a body are passed over
  pub passed : (k at : ℕ) (l : List ℕ) → k ≤ length l → follow_past strides counts s at k l ≡ follow strides counts s (at + k) (drop k l)
  unfolding follow_past
  passed zero at l h = ap (λ (a : ℕ). follow_past strides counts s a 0 l) (omega arith)
  passed (suc k) at [] h = absurd (omega arith)
  passed (suc k) at (x ∷ l) h = passed k (at + 1) l (omega arith) ∙ ap (λ (a : ℕ). follow_past strides counts s a 0 (drop k l)) (omega arith)

  module _ (at kind : ℕ) (rest : List ℕ) where
    pub not_move : (kind ≡ 3 → ⊥) → (strides && eqb kind 5) ≡ false → follow strides counts s at (kind ∷ rest) ≡ choice (eqb kind 4) (ended s at rest) (refused_at 11 at)
    unfolding follow_past
    not_move h k = rw (ne_eqb kind 3 h, k)

    module _ (move : kind ≡ 3) where
      pub short_move : length rest < 2 → follow strides counts s at (kind ∷ rest) ≡ refused_at 11 at
      unfolding follow_past
      short_move l = rw (eq-eqb kind 3 move, lt-ltb (length rest) 2 l)

      pub whole_move : 2 ≤ length rest → follow strides counts s at (kind ∷ rest) ≡ if_made (next_no s (onward counts s 1) (take 2 rest)) 1 at (follow_past strides counts (onward counts s 1) (at + 1) 2 rest)
      unfolding follow_past along
      whole_move l = rw (eq-eqb kind 3 move, le-ltb (length rest) 2 l)

    module _ (stride : kind ≡ 5) (two : strides ≡ true) where
      pub short_stride : length rest < 8 → follow strides counts s at (kind ∷ rest) ≡ refused_at 11 at
      unfolding follow_past
      short_stride l = rw (two, ne_eqb kind 3 (omega arith), eq-eqb kind 5 stride, lt-ltb (length rest) 8 l)

      pub whole_stride : 8 ≤ length rest → follow strides counts s at (kind ∷ rest) ≡ if_made (first_of (stride_nos counts s (value (take 8 rest)))) (value (take 8 rest)) at (follow_past strides counts (onward counts s (value (take 8 rest))) (at + 1) 8 rest)
      unfolding follow_past along
      whole_stride l =
          subst (λ (b : Bool). follow b counts s at (kind ∷ rest) ≡ if_made (first_of (stride_nos counts s (value (take 8 rest)))) (value (take 8 rest)) at (follow_past b counts (onward counts s (value (take 8 rest))) (at + 1) 8 rest))
          (sym two)
          (rw (ne_eqb kind 3 (omega arith), eq-eqb kind 5 stride, le-ltb (length rest) 8 l))

-- ---- by the sheet and the byte

module _ (strides : Bool) (counts s sheet : List ℕ) (at : ℕ) where
  -- no record
  pub at_none : length sheet ≤ at → follow strides counts s at (drop at sheet) ≡ refused_at 11 at
  unfolding follow_past
  at_none h = rw (drop_of_length-le sheet h)

  module _ (h : at < length sheet) where
    -- what stands behind a body of k bytes
    past : (t : List ℕ) (k : ℕ) → k ≤ length sheet - at - 1 → follow_past strides counts t (at + 1) k (drop (suc at) sheet) ≡ follow strides counts t (at + (k + 1)) (drop (at + (k + 1)) sheet)
    past t k l =
        let e : suc at + k ≡ at + (k + 1) = omega arith in
        let f : at + 1 + k ≡ at + (k + 1) = omega arith in
        passed strides counts t k (at + 1) (drop (suc at) sheet) (omega (arith, length-drop (suc at) sheet))
        ∙ rw f (ap (follow_past strides counts t (at + (k + 1)) 0) (drop-drop k (suc at) sheet ∙ ap (λ (a : ℕ). drop a sheet) e))

    pub at_end : get_or sheet at 0 ≡ 4 → follow strides counts s at (drop at sheet) ≡ ended s at (drop (at + 1) sheet)
    at_end e =
        let no : (strides && eqb (get_or sheet at 0) 5) ≡ false = rw (ne_eqb (get_or sheet at 0) 5 (omega arith)) (and-false strides) in
        rw (add-one at, drop-cons sheet at 0 h, not_move strides counts s at (get_or sheet at 0) (drop (suc at) sheet) (omega arith) no, eq-eqb (get_or sheet at 0) 4 e)

    pub at_other : (get_or sheet at 0 ≡ 3 → ⊥) → (strides && eqb (get_or sheet at 0) 5) ≡ false → (get_or sheet at 0 ≡ 4 → ⊥) → follow strides counts s at (drop at sheet) ≡ refused_at 11 at
    at_other e g f = rw (drop-cons sheet at 0 h, not_move strides counts s at (get_or sheet at 0) (drop (suc at) sheet) e g, ne_eqb (get_or sheet at 0) 4 f)

    module _ (move : get_or sheet at 0 ≡ 3) where
      pub at_short : length sheet - at < 3 → follow strides counts s at (drop at sheet) ≡ refused_at 11 at
      at_short l = rw (drop-cons sheet at 0 h) (short_move strides counts s at (get_or sheet at 0) (drop (suc at) sheet) move (omega (arith, length-drop (suc at) sheet)))

      pub at_move : 3 ≤ length sheet - at → follow strides counts s at (drop at sheet) ≡ if_made (next_no s (onward counts s 1) (get_or sheet (at + 1) 0 ∷ get_or sheet (at + 2) 0 ∷ [])) 1 at (follow strides counts (onward counts s 1) (at + 3) (drop (at + 3) sheet))
      at_move l =
          let two : take 2 (drop (suc at) sheet) ≡ get_or sheet (at + 1) 0 ∷ get_or sheet (at + 2) 0 ∷ [] =
          let e : at + 2 ≡ suc (suc at) = omega arith in
          rw (add-one at, e, drop-cons sheet (suc at) 0 (omega arith), drop-cons sheet (suc (suc at)) 0 (omega arith))
          in
          rw (drop-cons sheet at 0 h) (whole_move strides counts s at (get_or sheet at 0) (drop (suc at) sheet) move (omega (arith, length-drop (suc at) sheet)) ∙ rw (two, past (onward counts s 1) 2 (omega arith)))

    module _ (stride : get_or sheet at 0 ≡ 5) (two : strides ≡ true) where
      pub at_short_stride : length sheet - at < 9 → follow strides counts s at (drop at sheet) ≡ refused_at 11 at
      at_short_stride l = rw (drop-cons sheet at 0 h) (short_stride strides counts s at (get_or sheet at 0) (drop (suc at) sheet) stride two (omega (arith, length-drop (suc at) sheet)))

      pub at_stride : 9 ≤ length sheet - at → (n : ℕ) → n ≡ value (take 8 (drop (at + 1) sheet)) → follow strides counts s at (drop at sheet) ≡ if_made (first_of (stride_nos counts s n)) n at (follow strides counts (onward counts s n) (at + 9) (drop (at + 9) sheet))
      at_stride l n is =
          let e : n ≡ value (take 8 (drop (suc at) sheet)) = is ∙ rw (add-one at) in
          rw (drop-cons sheet at 0 h) (whole_stride strides counts s at (get_or sheet at 0) (drop (suc at) sheet) stride two (omega (arith, length-drop (suc at) sheet)) ∙ rw (← e, past (onward counts s n) 8 (omega arith)))

-- ---- the end

module _ (at : ℕ) (sheet : List ℕ) where
  pub end_more : at + 1 < length sheet → (11, at + 1) ≡ (ended [] at (drop (at + 1) sheet)).no
  end_more h = rw (drop-cons sheet (at + 1) 0 h)

  pub end_last : length sheet ≤ at + 1 → fine ≡ (ended [] at (drop (at + 1) sheet)).no
  end_last h = rw (drop_of_length-le sheet h)

-- ---- a record's row refuses it, or none does

pub made_not : (r : No) (n at : ℕ) (f : Followed) → (r.0 ≡ 0 → ⊥) → if_made r n at f ≡ refused_at r.0 at
made_not (zero, p) n at f e = absurd (e refl)
made_not (suc m, p) n at f e = refl

pub made : (r : No) (n at : ℕ) (f : Followed) → r.0 ≡ 0 → if_made r n at f ≡ more n f
made (zero, p) n at f e = refl
made (suc m, p) n at f e = absurd (omega arith)

pub made_passed : (r : No) (n at : ℕ) (f : Followed) → (if_made r n at f).no.0 ≡ 0 → (r.0 ≡ 0) × (f.no.0 ≡ 0)
made_passed (zero, p) n at f z = (refl, z)
made_passed (suc m, p) n at f z = absurd (omega arith)

-- ---- moves before what follows

pub more_more : (i j : ℕ) (f : Followed) → more i (more j f) ≡ more (i + j) f
more_more i j f =
    let e : i + (j + f.moves) ≡ i + j + f.moves = omega arith in
    ap (λ (m : ℕ). record { no = f.no; moves = m; strip = f.strip }) e

pub more_none : (f : Followed) → f ≡ more 0 f
more_none f = ap (λ (m : ℕ). record { no = f.no; moves = m; strip = f.strip }) (omega arith)

-- ---- the number of its refusal: none, 7, 11, 12 or 17

module _ (P : ℕ → Type 0) (none : P 0) (seven : P 7) (eleven : P 11) (twelve : P 12) (seventeen : P 17) where
  choice_is : (b : Bool) (f g : Followed) → P f.no.0 → P g.no.0 → P (choice b f g).no.0
  choice_is true f g p q = p
  choice_is false f g p q = q

  made_is : (r : No) (n at : ℕ) (f : Followed) → P r.0 → P f.no.0 → P (if_made r n at f).no.0
  made_is (zero, p) n at f own rest = rest
  made_is (suc m, p) n at f own rest = own

  ended_is : (s : List ℕ) (at : ℕ) (rest : List ℕ) → P (ended s at rest).no.0
  ended_is s at [] = none
  ended_is s at (x ∷ rest) = eleven

  whole_is : (k : ℕ) (rest : List ℕ) (at : ℕ) (f : Followed) → P f.no.0 → P (whole k rest at f).no.0
  whole_is k rest at f p = choice_is (ltb (length rest) k) (refused_at 11 at) f eleven p

  kind_is : (strides : Bool) (kind at : ℕ) (move stride end : Followed) → P move.no.0 → P stride.no.0 → P end.no.0 → P (by_kind strides kind at move stride end).no.0
  kind_is strides kind at move stride end p q r =
      choice_is (eqb kind 3) move _ p (choice_is (strides && eqb kind 5) stride _ q (choice_is (eqb kind 4) end _ r eleven))

  -- a record, with what follows it as a move and as a stride
  record_is : (strides : Bool) (counts s t : List ℕ) (at kind n : ℕ) (rest : List ℕ) (f g : Followed) → P f.no.0 → P g.no.0
      → P (by_kind strides kind at (whole 2 rest at (if_made (next_no s t (take 2 rest)) 1 at f)) (whole 8 rest at (if_made (first_of (stride_nos counts s n)) n at g)) (ended s at rest)).no.0
  record_is strides counts s t at kind n rest f g p q =
      let move = if_made (next_no s t (take 2 rest)) 1 at f in
      let stride = if_made (first_of (stride_nos counts s n)) n at g in
      kind_is strides kind at (whole 2 rest at move) (whole 8 rest at stride) (ended s at rest)
      (whole_is 2 rest at move (made_is (next_no s t (take 2 rest)) 1 at f (when_is P none 12 0 twelve (not (same (places s t) (take 2 rest)))) p))
      (whole_is 8 rest at stride (made_is (first_of (stride_nos counts s n)) n at g (stride_is P none seven twelve seventeen counts s n) q))
      (ended_is s at rest)

  past_is : (strides : Bool) (counts s : List ℕ) (at body : ℕ) (l : List ℕ) → P (follow_past strides counts s at body l).no.0
  unfolding follow_past along
  past_is strides counts s at zero [] = eleven
  past_is strides counts s at (suc body) [] = eleven
  past_is strides counts s at (suc body) (x ∷ rest) = past_is strides counts s (at + 1) body rest
  past_is strides counts s at zero (kind ∷ rest) =
      let t = onward counts s 1 in
      let n = value (take 8 rest) in
      let u = onward counts s n in
      record_is strides counts s t at kind n rest (follow_past strides counts t (at + 1) 2 rest) (follow_past strides counts u (at + 1) 8 rest) (past_is strides counts t (at + 1) 2 rest) (past_is strides counts u (at + 1) 8 rest)

  pub follow_is : (strides : Bool) (counts s : List ℕ) (at : ℕ) (l : List ℕ) → P (follow strides counts s at l).no.0
  follow_is strides counts s at l = past_is strides counts s at 0 l
