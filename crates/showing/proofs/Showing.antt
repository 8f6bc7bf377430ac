-- Proofs. The strip that is shown: its blocks, its line, and the lines that are left after it.
use Prim.Native.Nat.{ℕ, ◌+◌, ◌-◌, ◌≤◌, ◌<◌}
use mathlib.Core.Path.{◌≡◌, refl, sym, ap, ◌∙◌}
use mathlib.Core.Bool.{Bool}
use mathlib.Core.Logic.{◌⊎◌, inl, inr}
use mathlib.Core.List.{List, [], ◌∷◌, ◌++◌}
use native.Mathlib.Decide.{dec_lt}
use native.Mathlib.Omega.{arith}
use borrow.Author.Tests.{lt-ltb, le-ltb}
use lib.ListN.{length, get_or, drop, replicate, length-append, drop_of_length-le}
use lib.Seq.{take_at, drop_at}
use Rattle.std.proofs.lemmas.List.{drop_more}
use Rattle.std.specs.Prelude.{Option, Some, None}
use Rattle.rules.specs.Stock.{sum, IsStock}
use Rattle.rules.specs.Book.{place_in}
use Rattle.rules.proofs.Checks.{some_block}
use Rattle.rules.proofs.Strips.{strip_sum}
use Rattle.walker.specs.declared.Walker.{Walker}
use Rattle.lines.specs.Text.{strip_line}
use Rattle.lines.proofs.Lengths.{strip_length}
use Rattle.showing.specs.declared.Shown.{Shown}
use Rattle.printed.specs.Output.{list_of, strips, strip_lines}
use Rattle.showing.specs.States.{walker_at, shown_at, shown_if, next_shown, blocks_shown, shown_text, lines_left, Held, Shows, Fits}
use Rattle.printed.proofs.Lines.{own, near, lines_many, line_at}

-- a strip as it is held
pub shown_is : (papers : Bool) (counts t zs : List ℕ) (number i : ℕ) (w : Walker)
    → t ≡ get_or (strips papers counts) i [] → zs ≡ replicate (64 - length t) 0 → number ≡ place_in (list_of papers counts) t → w ≡ walker_at papers counts i
    → ◌≡◌ {A = Shown} record { strip = t ++ zs; number = number; index = i; walker = w } (shown_at papers counts i)
unfolding shown_at
shown_is papers counts t zs number i w e g h v = rw (v, h, g, e)

module _ (papers : Bool) (counts : List ℕ) (k : IsStock counts) (i : ℕ) (l : i < length (strips papers counts)) where
  abbrev s : List ℕ
  s = get_or (strips papers counts) i []

  pub size : length s ≡ sum counts
  size = strip_sum counts s (own counts papers i l)

  two_digits : (j : ℕ) → j < length s → get_or s j 0 < 100
  two_digits j h = omega (arith, ((own counts papers i l).kinds j h).1, k.few)

  module _ (sh : Shown) (is : sh ≡ shown_at papers counts i) where
    pub number_is : sh.number ≡ place_in (list_of papers counts) s
    unfolding shown_at
    number_is = ap (λ (x : Shown). x.number) is

    index_is : sh.index ≡ i
    unfolding shown_at
    index_is = ap (λ (x : Shown). x.index) is

    pub walker_is : sh.walker ≡ walker_at papers counts i
    unfolding shown_at
    walker_is = ap (λ (x : Shown). x.walker) is

    held_is : sh.strip ≡ s ++ replicate (64 - length s) 0
    unfolding shown_at
    held_is = ap (λ (x : Shown). x.strip) is

    pub strip_is : blocks_shown counts sh ≡ s
    strip_is = rw held_is (take_at s (replicate (64 - length s) 0) (sum counts) size)

    pub zeros_are : drop (sum counts) sh.strip ≡ replicate (64 - length s) 0
    zeros_are = rw held_is (drop_at s (replicate (64 - length s) 0) (sum counts) size)

    pub inside : sum counts ≤ length sh.strip
    inside = rw held_is (omega (arith, size, length-append s (replicate (64 - length s) 0)))

    pub fits_at : Fits counts sh
    fits_at = record {
      some = some_block counts k;
      few = k.short;
      inside = inside;
      small = rw number_is (near counts papers i l);
      short = rw (strip_is, number_is) (strip_length (place_in (list_of papers counts) s) s (omega (arith, size, k.short)) two_digits);
    }

    pub text_at : shown_text counts sh ≡ strip_line (place_in (list_of papers counts) s) s
    text_at = rw (strip_is, number_is)

  -- the lines from its own on
  pub lines_from : drop i (strip_lines papers counts) ≡ shown_text counts (shown_at papers counts i) ∷ lines_left papers counts (Some (shown_at papers counts i))
  unfolding shown_at
  lines_from =
      let t = line_at papers counts i l ∙ sym (text_at (shown_at papers counts i) refl) in
      drop_more (strip_lines papers counts) i [] (omega (arith, lines_many papers counts)) ∙ ap (λ (x : List ℕ). x ∷ drop (i + 1) (strip_lines papers counts)) t

-- ---- the strip after it

module _ (papers : Bool) (counts : List ℕ) (sh : Shown) where
  pub next_last : length (strips papers counts) ≤ sh.index + 1 → next_shown papers counts (Some sh) ≡ None
  unfolding shown_if
  next_last h = rw (le-ltb (sh.index + 1) (length (strips papers counts)) h)

  next_at : sh.index + 1 < length (strips papers counts) → next_shown papers counts (Some sh) ≡ Some (shown_at papers counts (sh.index + 1))
  unfolding shown_if
  next_at h = rw (lt-ltb (sh.index + 1) (length (strips papers counts)) h)

  pub held_inside : Held papers counts sh → sum counts ≤ length sh.strip
  held_inside st = inside papers counts st.stock sh.index st.within sh st.is

-- the next strip as it is held, beside the zeros that stand behind the one that is shown
module _ (papers : Bool) (counts : List ℕ) (sh : Shown) (st : Held papers counts sh) where
  pub shown_next : (u : List ℕ) (number : ℕ) (w : Walker) → sh.index + 1 < length (strips papers counts) → u ≡ get_or (strips papers counts) (sh.index + 1) []
      → number ≡ place_in (list_of papers counts) u → w ≡ walker_at papers counts (sh.index + 1)
      → Some (record { strip = u ++ drop (sum counts) sh.strip; number = number; index = sh.index + 1; walker = w }) ≡ next_shown papers counts (Some sh)
  shown_next u number w h e f g =
      let n : length (get_or (strips papers counts) sh.index []) ≡ length u =
      size papers counts st.stock sh.index st.within ∙ sym (size papers counts st.stock (sh.index + 1) h) ∙ ap length (sym e) in
      let z : drop (sum counts) sh.strip ≡ replicate (64 - length u) 0 = zeros_are papers counts st.stock sh.index st.within sh st.is ∙ ap (λ (m : ℕ). replicate (64 - m) 0) n in
      ap (λ (x : Shown). Some x) (shown_is papers counts u (drop (sum counts) sh.strip) number (sh.index + 1) w e z f g) ∙ sym (next_at papers counts sh h)

-- what a strip that is shown has after it: no strip and no line, or the next strip and its line
pub record Last (papers : Bool) (counts : List ℕ) (o : Option Shown) : Type 0 where
  pub next : next_shown papers counts o ≡ None
  pub left : lines_left papers counts o ≡ []

pub record Goes (papers : Bool) (counts : List ℕ) (o : Option Shown) : Type 0 where
  pub i : ℕ
  pub stock : IsStock counts
  pub within : i < length (strips papers counts)
  pub next : next_shown papers counts o ≡ Some (shown_at papers counts i)
  pub left : lines_left papers counts o ≡ drop i (strip_lines papers counts)

module _ (papers : Bool) (counts : List ℕ) where
  pub goes_on : (o : Option Shown) → Shows papers counts o → Last papers counts o ⊎ Goes papers counts o
  goes_on None h = inl (record { next = refl; left = refl })
  goes_on (Some sh) st =
      elim (dec_lt (sh.index + 1) (length (strips papers counts))) [
        | yes h ↦ inr (record { i = sh.index + 1; stock = st.stock; within = h; next = next_at papers counts sh h; left = refl })
        | no h ↦ inl (record {
          next = next_last papers counts sh (omega arith);
          left = drop_of_length-le (strip_lines papers counts) {i = sh.index + 1} (omega (arith, lines_many papers counts));
        })
      ]

  module _ {o : Option Shown} (g : Goes papers counts o) where
    pub next_fits : Fits counts (shown_at papers counts g.i)
    next_fits = fits_at papers counts g.stock g.i g.within (shown_at papers counts g.i) refl

    pub next_held : Held papers counts (shown_at papers counts g.i)
    unfolding shown_at
    next_held = record { stock = g.stock; within = g.within; is = refl }

    -- the lines that are left are its line and those after it
    pub next_lines : lines_left papers counts o ≡ shown_text counts (shown_at papers counts g.i) ∷ lines_left papers counts (Some (shown_at papers counts g.i))
    next_lines = g.left ∙ lines_from papers counts g.stock g.i g.within

-- the strip that is shown next, and the lines from its own on
pub record Follows (papers : Bool) (counts : List ℕ) (o : Option Shown) (sh : Shown) : Type 0 where
  pub held : Held papers counts sh
  pub fits : Fits counts sh
  pub lines : lines_left papers counts o ≡ shown_text counts sh ∷ lines_left papers counts (Some sh)

module _ (papers : Bool) (counts : List ℕ) (o : Option Shown) (shows : Shows papers counts o) where
  pub follows : (sh : Shown) → next_shown papers counts o ≡ Some sh → Follows papers counts o sh
  follows sh e = elim (goes_on papers counts o shows) [
    | inl z ↦ absurd (let q : None ≡ Some sh = sym z.next ∙ e in cc)
    | inr g ↦ let q : shown_at papers counts g.i ≡ sh = cc (g.next, e) in rw (← q) (record { held = next_held papers counts g; fits = next_fits papers counts g; lines = next_lines papers counts g })
  ]

  pub ends : next_shown papers counts o ≡ None → lines_left papers counts o ≡ []
  ends e = elim (goes_on papers counts o shows) [
    | inl z ↦ z.left
    | inr g ↦ absurd (let q : None ≡ Some (shown_at papers counts g.i) = sym e ∙ g.next in cc)
  ]

  pub shows_next : Shows papers counts (next_shown papers counts o)
  shows_next = elim (goes_on papers counts o shows) [ inl z ↦ rw z.next tt | inr g ↦ rw g.next (next_held papers counts g) ]

  pub left_next : lines_left papers counts (next_shown papers counts o) ≡ drop 1 (lines_left papers counts o)
  left_next = elim (goes_on papers counts o shows) [ inl z ↦ rw (z.next, z.left) | inr g ↦ rw (g.next, next_lines papers counts g) ]
