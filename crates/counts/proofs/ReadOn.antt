-- Proofs. A line on its way to be read: the counts that are done, the one that has begun, and what is left.
use Prim.Native.Nat.{ℕ, ◌+◌, ◌*◌, ◌-◌, ◌≤◌, ◌<◌}
use mathlib.Core.Path.{◌≡◌, refl, sym, ap, ◌∙◌}
use mathlib.Core.Bool.{Bool, true, false, ◌&&◌}
use mathlib.Core.Option.{Option, none, some}
use mathlib.Core.List.{List, [], ◌∷◌, ◌++◌, append_assoc}
use native.Mathlib.Numerals.{add-one}
use native.Mathlib.Omega.{arith}
use borrow.Author.Tests.{lt-leb, le-leb, eq-eqb, ne_eqb}
use lib.Dec.{eqb}
use lib.ListN.{length, get_or, drop, length-append, drop_of_length-le}
use lib.Seq.{drop-cons, take-append_seam, get_or-append_seam}
use Rattle.std.specs.Prelude.{Option as Answer, Some, None}
use Rattle.rules.specs.Refusals.{pick}
use Rattle.lines.specs.Text.{feed, space}
use Rattle.counts.specs.Reading.{takes, before, read_from, counts_read, has_begun, value_of, line_read}

-- ---- one byte

before_none : (o : Option (List ℕ)) → before [] o ≡ o
before_none none = refl
before_none (some l) = refl

before_before : (a b : List ℕ) (o : Option (List ℕ)) → before a (before b o) ≡ before (a ++ b) o
before_before a b none = refl
before_before a b (some l) = ap (λ (l : List ℕ). some l) (sym (append_assoc a b l))

module _ (line : List ℕ) (i : ℕ) (h : i < length line) (begun : Bool) (value : ℕ) where
  read_digit : takes begun value (get_or line i 0) ≡ true → read_from begun value (drop i line) ≡ read_from true (10 * value + (get_or line i 0 - 48)) (drop (i + 1) line)
  unfolding read_from
  read_digit t = rw (add-one i, drop-cons line i 0 h, t)

  read_space : begun ≡ true → takes begun value (get_or line i 0) ≡ false → get_or line i 0 ≡ space
      → read_from begun value (drop i line) ≡ before (value ∷ []) (read_from false 0 (drop (i + 1) line))
  unfolding read_from
  read_space b t e = rw (add-one i, drop-cons line i 0 h, t, b, eq-eqb (get_or line i 0) space e)

  read_stuck : takes begun value (get_or line i 0) ≡ false → begun && eqb (get_or line i 0) space ≡ false → read_from begun value (drop i line) ≡ none
  unfolding read_from
  read_stuck t e = rw (drop-cons line i 0 h, t, e)

and_false : (x : Bool) → x && false ≡ false
and_false false = refl
and_false true = refl

-- ---- the bytes up to i

pub record ReadOn (line counts : List ℕ) (begun : Answer ℕ) (i : ℕ) : Type 0 where
  pub few : 2 * length counts + pick (has_begun begun) 1 0 ≤ i
  pub rest : before counts (read_from (has_begun begun) (value_of begun) (drop i line)) ≡ read_from false 0 line

pub start : (line : List ℕ) → ReadOn line [] None 0
start line = record { few = omega arith; rest = before_none (read_from false 0 line) }

module _ {line counts : List ℕ} {i : ℕ} (h : i < length line) where
  pub digit : {begun : Answer ℕ} → ReadOn line counts begun i → takes (has_begun begun) (value_of begun) (get_or line i 0) ≡ true
      → {value : ℕ} → value ≡ 10 * value_of begun + (get_or line i 0 - 48) → ReadOn line counts (Some value) (i + 1)
  digit {begun} r t {value} e = record {
    few = omega (arith, r.few);
    rest = rw e (ap (before counts) (sym (read_digit line i h (has_begun begun) (value_of begun) t)) ∙ r.rest);
  }

  pub next : {value : ℕ} → ReadOn line counts (Some value) i → takes true value (get_or line i 0) ≡ false → get_or line i 0 ≡ space → ReadOn line (counts ++ (value ∷ [])) None (i + 1)
  next {value} r t e = record {
    few = omega (arith, r.few, length-append counts (value ∷ []));
    rest = sym (before_before counts (value ∷ []) (read_from false 0 (drop (i + 1) line))) ∙ ap (before counts) (sym (read_space line i h true value refl t e)) ∙ r.rest;
  }

  -- no digit, and no space that ends a count
  stuck : {begun : Answer ℕ} → ReadOn line counts begun i → takes (has_begun begun) (value_of begun) (get_or line i 0) ≡ false → has_begun begun && eqb (get_or line i 0) space ≡ false
      → None ≡ line_read (read_from false 0 line)
  stuck {begun} r t e = ap line_read (ap (before counts) (sym (read_stuck line i h (has_begun begun) (value_of begun) t e)) ∙ r.rest)

  pub not_begun : ReadOn line counts None i → takes false 0 (get_or line i 0) ≡ false → None ≡ line_read (read_from false 0 line)
  not_begun r t = stuck r t refl

  pub no_space : {value : ℕ} → ReadOn line counts (Some value) i → takes true value (get_or line i 0) ≡ false → (get_or line i 0 ≡ space → ⊥) → None ≡ line_read (read_from false 0 line)
  no_space r t n = stuck r t (rw (ne_eqb (get_or line i 0) space n))

module _ {line counts : List ℕ} {i : ℕ} (h : length line ≤ i) where
  -- no count at the end
  pub open_end : ReadOn line counts None i → None ≡ line_read (read_from false 0 line)
  unfolding read_from
  open_end r = ap line_read (rw (drop_of_length-le line {i = i} h) at r.rest)

  -- the last count
  pub end : {value : ℕ} → ReadOn line counts (Some value) i → Some (counts ++ (value ∷ [])) ≡ line_read (read_from false 0 line)
  unfolding read_from
  end r = ap line_read (rw (drop_of_length-le line {i = i} h) at r.rest)

-- ---- the line feed and the length

module _ (input : List ℕ) where
  pub no_bytes : length input ≡ 0 → counts_read input ≡ none
  unfolding counts_read
  no_bytes e = go input e
    where
      go : (l : List ℕ) → length l ≡ 0 → counts_read l ≡ none
      go [] f = refl
      go (b ∷ l) f = absurd (omega arith)

  pub long_line : 255 < length input → counts_read input ≡ none
  unfolding counts_read
  long_line h = rw (lt-leb (length input) 255 h)

-- a line with its last byte
module _ (line : List ℕ) (last : ℕ) (h : length (line ++ (last ∷ [])) ≤ 255) where
  at_last : length (line ++ (last ∷ [])) - 1 ≡ length line
  at_last = omega (arith, length-append line (last ∷ []))

  pub no_feed : (last ≡ feed → ⊥) → counts_read (line ++ (last ∷ [])) ≡ none
  unfolding counts_read
  no_feed n = rw (le-leb (length (line ++ (last ∷ []))) 255 h, at_last, get_or-append_seam line last [] 0, ne_eqb last feed n)

  pub with_feed : last ≡ feed → counts_read (line ++ (last ∷ [])) ≡ read_from false 0 line
  unfolding counts_read
  with_feed e = rw (le-leb (length (line ++ (last ∷ []))) 255 h, at_last, get_or-append_seam line last [] 0, eq-eqb last feed e, take-append_seam line (last ∷ []))
