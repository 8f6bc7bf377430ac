-- Proofs. A strip turned round, block by block, and the search for a turn.
use Prim.Native.Nat.{ℕ, zero, suc, ◌+◌, ◌-◌, ◌%◌, ◌<◌}
use mathlib.Core.Path.{◌≡◌, refl, sym, ap, ◌∙◌}
use mathlib.Core.Bool.{Bool, true, false, or-true, ◌||◌}
use mathlib.Core.List.{List, [], ◌∷◌, ◌++◌, reverse, reverse-reverse, append-nil}
use native.Mathlib.Decide.{dec_lt, ℕ_discrete}
use native.Mathlib.Nat.{mod-lt, mod-eq_of_lt, mod-eq-sub-mod}
use native.Mathlib.Omega.{arith}
use lib.ListN.{length, get_or, take, drop, length-append, length-drop, length-take, length-map, length-reverse, get_or-append}
use lib.Seq.{get_or_at, get_or-append-add, get_or-drop, get_or-take, ext_get_or}
use Rattle.std.specs.Bool.{MatchBool}
use Rattle.rules.specs.Book.{turn, same}
use Rattle.rules.proofs.Listed.{get_or_map', get_d_reverse, length_turn, flip, flip_self}
use Rattle.rules.proofs.Places.{same_self, same_not, same_true}
use Rattle.searching.specs.Searching.{some, is_among}
use Rattle.searching.proofs.Some.{some_hit, some_none, some_where, some_append}
use Rattle.papers.specs.Papers.{turned, up_to, turns_of, hung, turns, is_a_turn}
use Rattle.papers.specs.Blocks.{block_at}

-- ---- a strip turned by t places

pub turned_none : (s : List ℕ) → turned 0 s ≡ s
unfolding turned
turned_none s = append-nil s

module _ (s : List ℕ) (t : ℕ) (h : t < length s) where
  pub turned_length : length (turned t s) ≡ length s
  unfolding turned
  turned_length = simp (length-append, length-drop, length-take) (omega arith)

  pub turned_at_lem : (i : ℕ) → i < length s → get_or (turned t s) i 0 ≡ block_at s (i + t)
  unfolding turned
  turned_at_lem i l = elim (dec_lt (i + t) (length s)) [
    | yes m ↦ let e : t + i ≡ i + t = omega arith in
        rw (mod-eq_of_lt m, ← e) (get_or-append (drop t s) (take t s) 0 i (simp length-drop (omega arith)) ∙ get_or-drop t s i 0)
    | no m ↦ let j : ℕ = i + t - length s in
        let e : i ≡ length (drop t s) + j = omega (arith, length-drop t s) in
        let f : (i + t) % length s ≡ j = mod-eq-sub-mod {n = i + t} {m = length s} (omega arith) ∙ mod-eq_of_lt (omega arith) in
        rw f (ap (λ (k : ℕ). get_or (drop t s ++ take t s) k 0) e ∙ get_or-append-add (drop t s) (take t s) j 0 ∙ get_or-take t s j 0 (omega arith))
  ]

-- ---- a strip that hangs, foot up or not

pub hung_length : (back : Bool) (s : List ℕ) → length (hung back s) ≡ length s
hung_length back s = length_turn back s

-- foot up twice is as it stands
pub hung_hung : (a b : Bool) (s : List ℕ) → hung a (hung b s) ≡ hung (flip a b) s
unfolding turn
hung_hung false b s = refl
hung_hung true false s = refl
hung_hung true true s = reverse-reverse s

pub hung_twice : (back : Bool) (s : List ℕ) → hung back (hung back s) ≡ s
unfolding turn
hung_twice back s = hung_hung back back s ∙ ap (λ (b : Bool). hung b s) (flip_self back)

module _ (s : List ℕ) (i : ℕ) (some : 0 < length s) where
  pub block_there : get_or s (i % length s) 0 ≡ block_at (hung false s) i
  unfolding turn
  block_there = refl

  pub block_back : get_or s (length s - 1 - i % length s) 0 ≡ block_at (hung true s) i
  unfolding turn
  block_back =
      let m : i % length s < length s = mod-lt i some in
      rw (length-reverse s) (sym (get_d_reverse s (i % length s) (length s - 1 - i % length s) 0 (omega arith)))

-- ---- comparing with the strip as it hangs, turned by t places

-- the block of the strip so turned at a place is that of the other strip
abbrev pub Alike : List ℕ → Bool → List ℕ → ℕ → ℕ → Type 0
Alike s back u t i = block_at (hung back s) (i + t) ≡ get_or u i 0

module _ (s : List ℕ) (back : Bool) (u : List ℕ) (t : ℕ) (h : t < length s) (one : length s ≡ length u) where
  inside : t < length (hung back s)
  inside = omega (arith, hung_length back s)

  block_is : (i : ℕ) → i < length u → get_or (turned t (hung back s)) i 0 ≡ block_at (hung back s) (i + t)
  block_is i l = turned_at_lem (hung back s) t inside i (omega (arith, hung_length back s))

  pub turn_agrees : (r : Bool) → MatchBool r ((i : ℕ) → i < length u → Alike s back u t i) ((i : ℕ) × (i < length u) × (Alike s back u t i → ⊥)) → r ≡ same (turned t (hung back s)) u
  turn_agrees true a =
      let long : length (turned t (hung back s)) ≡ length u = turned_length (hung back s) t inside ∙ hung_length back s ∙ one in
      let e : turned t (hung back s) ≡ u = ext_get_or 0 (turned t (hung back s)) u long (λ i m. block_is i (omega (arith, long)) ∙ a i (omega (arith, long))) in
      rw e (sym (same_self u))
  turn_agrees false (i, l, d) =
      sym (same_not (turned t (hung back s)) u (λ e. d (sym (block_is i l) ∙ ap (λ (l : List ℕ). get_or l i 0) e)))

-- ---- the list of the turns, by place

length_upto : (n : ℕ) → length (up_to n) ≡ n
unfolding up_to
length_upto zero = refl
length_upto (suc n) = length-append (up_to n) (n ∷ []) ∙ omega (arith, length_upto n)

get_d_upto : (n t : ℕ) → t < n → get_or (up_to n) t 0 ≡ t
unfolding up_to
get_d_upto zero t h = absurd (omega arith)
get_d_upto (suc n) t h = elim (ℕ_discrete t n) [
  | yes e ↦ rw e (get_or_at (up_to n) n [] 0 n (length_upto n))
  | no e ↦ get_or-append (up_to n) (n ∷ []) 0 t (omega (arith, length_upto n)) ∙ get_d_upto n t (omega arith)
]

pub length_turns_of : (s : List ℕ) → length (turns_of s) ≡ length s
unfolding turns_of
length_turns_of s = length-map (up_to (length s)) (λ t. turned t s) ∙ length_upto (length s)

pub turns_of_at : (s : List ℕ) (t : ℕ) → t < length s → get_or (turns_of s) t [] ≡ turned t s
unfolding turns_of
turns_of_at s t h = get_or_map' (λ t. turned t s) (up_to (length s)) t 0 [] (omega (arith, length_upto (length s))) ∙ ap (λ (t : ℕ). turned t s) (get_d_upto (length s) t h)

-- ---- some turn of a strip as it hangs

module _ (test : List ℕ → Bool) (s : List ℕ) (back : Bool) where
  abbrev v : List ℕ
  v = hung back s

  long : length (turns_of v) ≡ length s
  long = length_turns_of v ∙ hung_length back s

  at : (t : ℕ) → t < length s → get_or (turns_of v) t [] ≡ turned t v
  at t l = turns_of_at v t (omega (arith, hung_length back s))

  pub some_turn : (t : ℕ) → t < length s → test (turned t v) ≡ true → some test (turns_of v) ≡ true
  some_turn t l e = some_hit test (turns_of v) t (omega (arith, long)) (rw (at t l) e)

  pub no_turn : ((t : ℕ) → t < length s → test (turned t v) ≡ false) → some test (turns_of v) ≡ false
  no_turn none = some_none test (turns_of v) (λ t k. let l : t < length s = omega (arith, long) in rw (at t l) (none t l))

  pub which_turn : some test (turns_of v) ≡ true → (t : ℕ) × (t < length s) × (test (turned t v) ≡ true)
  which_turn e =
      let w = some_where test (turns_of v) e in
      let l : w.0 < length s = omega (arith, w.1, long) in
      (w.0, l, rw (at w.0 l) at w.2)

-- ---- the search for a turn of the strip as it hangs

module _ (s : List ℕ) (back : Bool) (u : List ℕ) where
  -- whether the strip as it hangs, turned by t places, is the other
  abbrev pub Turn : Bool → ℕ → Type 0
  Turn is t = is ≡ same (turned t (hung back s)) u

  turn_hit : (t : ℕ) → t < length s → Turn true t → is_among (turns_of (hung back s)) u ≡ true
  turn_hit t l e = some_turn (λ v. same v u) s back t l (sym e)

  pub some_turn_is : (r : Bool) → MatchBool r ((t : ℕ) × (t < length s) × Turn true t) ((t : ℕ) → t < length s → Turn false t) → r ≡ is_among (turns_of (hung back s)) u
  some_turn_is true (t, l, e) = sym (turn_hit t l e)
  some_turn_is false none = sym (no_turn (λ v. same v u) s back (λ t l. sym (none t l)))

-- ---- the turns of a strip as it stands, and then foot up

module _ (s u : List ℕ) where
  -- whether the other strip is a turn of it, as it hangs
  abbrev Turns : Bool → Bool
  Turns back = is_among (turns_of (hung back s)) u

  either_way : is_a_turn s u ≡ Turns false || Turns true
  unfolding is_a_turn turns turn
  either_way = some_append (λ v. same v u) (turns_of s) (turns_of (reverse s))

  pub turn_there : true ≡ Turns false → true ≡ is_a_turn s u
  turn_there e = rw (either_way, ← e)

  pub turn_back : (r : Bool) → false ≡ Turns false → r ≡ Turns true → r ≡ is_a_turn s u
  turn_back r e f = rw (either_way, ← e) f

  -- each turn of either is one, and nothing else is
  pub hung_turn : (back : Bool) (t : ℕ) → t < length s → turned t (hung back s) ≡ u → is_a_turn s u ≡ true
  hung_turn back t l e = either_way ∙ go back (turn_hit s back u t l (rw e (sym (same_self u))))
    where
      go : (back : Bool) → Turns back ≡ true → Turns false || Turns true ≡ true
      go false f = rw f
      go true f = rw (f, or-true (Turns false))

  pub turn_hung : is_a_turn s u ≡ true → (back : Bool) × (t : ℕ) × (t < length s) × (turned t (hung back s) ≡ u)
  turn_hung y = go (Turns false) refl
    where
      found : (back : Bool) → Turns back ≡ true → (back : Bool) × (t : ℕ) × (t < length s) × (turned t (hung back s) ≡ u)
      found back e = let w = which_turn (λ v. same v u) s back e in (back, w.0, w.1, same_true (turned w.0 (hung back s)) u w.2)

      go : (b : Bool) → Turns false ≡ b → (back : Bool) × (t : ℕ) × (t < length s) × (turned t (hung back s) ≡ u)
      go true e = found false e
      go false e = found true (rw (either_way, e) at y)
