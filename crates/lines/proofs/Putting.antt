-- Proofs. A text that is written into a line part after part.
use Prim.Native.Nat.{ℕ, ◌+◌, ◌≤◌}
use mathlib.Core.Path.{◌≡◌, refl, sym, ap, ◌∙◌}
use mathlib.Core.List.{List, [], ◌++◌, append_assoc}
use native.Mathlib.Nat.{add-zero}
use native.Mathlib.Omega.{arith}
use lib.ListN.{length, take, drop, length-append, take-append-drop}
use lib.Seq.{length-take-le, take_at, drop_at, drop-drop}
use Rattle.lines.specs.declared.text.Line.{Line}
use Rattle.lines.specs.Puts.{put}
use Rattle.lines.specs.Writing.{Writes}

module _ (line : List ℕ) (at : ℕ) where
  put_none : put line at [] ≡ line
  put_none = rw (add-zero at) (take-append-drop at line)

  put_after : (a : List ℕ) → at + length a ≤ length line → (b : List ℕ) → put (put line at a) (at + length a) b ≡ put line at (a ++ b)
  put_after a h b =
      let front = take at line ++ a in
      let behind = drop (at + length a) line in
      let n : length front ≡ at + length a = length-append (take at line) a ∙ omega (arith, length-take-le at line (omega arith)) in
      let two : put line at a ≡ front ++ behind = sym (append_assoc (take at line) a behind) in
      let tk : take (at + length a) (put line at a) ≡ front = ap (take (at + length a)) two ∙ take_at front behind (at + length a) n in
      let e : at + length a + length b ≡ at + length (a ++ b) = omega (arith, length-append a b) in
      let dr : drop (at + length a + length b) (put line at a) ≡ drop (at + length (a ++ b)) line =
      ap (drop (at + length a + length b)) two ∙ sym (drop-drop (length b) (at + length a) (front ++ behind))
      ∙ ap (drop (length b)) (drop_at front behind (at + length a) n) ∙ drop-drop (length b) (at + length a) line ∙ ap (λ (n : ℕ). drop n line) e in
      let rest = drop (at + length (a ++ b)) line in
      rw (tk, dr) (append_assoc (take at line) a (b ++ rest) ∙ ap (λ (l : List ℕ). take at line ++ l) (sym (append_assoc a b rest)))

-- nothing is written
pub writes_none : (line : Line) → Writes line [] line
writes_none line = record { same = refl; kept = refl; puts = (omega arith, sym (put_none line.bytes.now line.end)) }

-- one text and one after it
pub writes_on : {line next after : Line} {a b : List ℕ} → Writes line a next → Writes next b after → line.end + length a ≤ length line.bytes.now → Writes line (a ++ b) after
writes_on {line} {next} {after} {a} {b} v w h = record {
  same = w.same ∙ v.same;
  kept = w.kept ∙ v.kept;
  puts = (omega (arith, v.puts, w.puts, length-append a b), w.puts.1 ∙ rw (v.puts.1, v.puts.0) (put_after line.bytes.now line.end a h b));
}
