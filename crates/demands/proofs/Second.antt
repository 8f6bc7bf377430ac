-- Demand 2. The book is the one that document 01's rules give. Where a stock has fewer than 2^64 strips, strip to number and number to strip are exactly that
-- book's, and each undoes the other.
use Prim.Native.Nat.{ℕ, suc, ◌+◌, ◌-◌, ◌^◌, ◌<◌}
use mathlib.Core.Path.{◌≡◌}
use mathlib.Core.Bool.{false, cond}
use mathlib.Core.List.{List, [], ◌∷◌, ◌++◌, map, reverse}
use lib.Dec.{leb}
use lib.ListN.{length, get_or, replicate}
use contract.Lifetimes.{Lfts}
use borrow.Fn.Kinds.{Dens, ended_of}
use denote.Triple.Clauses.{AtExit}
use Rattle.rules.specs.Stock.{sum, total, IsStock, IsStrip}
use Rattle.rules.specs.Book.{K, R, after, E, lay, snake, book, place_in}
use Rattle.rules.proofs.Equations.{e_all_k, e_all_r, e_rule}
use Rattle.rules.proofs.Strips.{book_one, book_rule}
use Rattle.stock.specs.declared.Refusal.{Refusal}
use Rattle.counting.specs.declared.count.Counted.{Counted}
use Rattle.counting.proofs.Theorems.{count_right, first_right}
use Rattle.counting.proofs.count.count.Kinds as count
use Rattle.counting.proofs.count.count.Reads as count_reads
use Rattle.counting.proofs.first.first.Kinds as first
use Rattle.counting.proofs.first.first.Reads as first_reads
use Rattle.numbering.specs.declared.number.Numbered.{Numbered}
use Rattle.numbering.proofs.Theorems.{number_right, strip_right}
use Rattle.numbering.proofs.number.number.Kinds as number
use Rattle.numbering.proofs.number.number.Reads as number_reads
use Rattle.numbering.proofs.strip.strip.Kinds as strip
use Rattle.numbering.proofs.strip.strip.Reads as strip_reads
-- T is document 01's product, which is n! divided by the factorials of the counts, and the book has T strips
pub use Rattle.rules.proofs.Strips.{total_one, total_rule}
pub use Rattle.rules.proofs.Factorials.{total_quotient}
pub use Rattle.rules.proofs.Places.{book_size}
-- that each undoes the other, for any outcomes that the two contracts allow
pub use Rattle.numbering.proofs.Theorems.{number_of_strip, strip_of_number}

-- ---- the rules

pub all_kind : (a : ℕ) → E a 0 ≡ replicate a K ∷ []
all_kind = e_all_k

pub all_rest : (a : ℕ) → E a a ≡ replicate a R ∷ []
all_rest = e_all_r

pub three_parts : (a b : ℕ) → 0 < b → b < a
    → E a b ≡ after (K ∷ []) (E (a - 1) b) ++ (after (K ∷ R ∷ []) (reverse (E (a - 2) (b - 1))) ++ cond (leb 2 b) (after (R ∷ R ∷ []) (E (a - 2) (b - 2))) [])
three_parts = e_rule

pub one_kind : (c : ℕ) → book (c ∷ []) ≡ replicate c 1 ∷ []
one_kind = book_one

pub one_kind_more : (counts : List ℕ) (c : ℕ)
    → book (counts ++ (c ∷ [])) ≡ snake false (map (λ w. map (lay (suc (length counts)) w) (E (c + sum counts) (sum counts))) (book counts))
one_kind_more = book_rule

-- ---- the total, and strip 0

-- any answer r of Count for an accepted stock that has fewer than 2^64 strips: not refused, and T
pub count_is_the_total : (κs : Lfts 1) (a : Dens κs count.ps) (r : Counted) (s : AtExit (ended_of 1 count.ps count.r) κs) → count_reads.Post κs a r s
    → IsStock a.0.now → total a.0.now < 2 ^ 64 → (r.refusal.no ≡ 0) × (r.total ≡ total a.0.now)
count_is_the_total κs a r s h k m =
    let n = count_right κs a r s h in
    let e = n.accepted k m in
    (e, n.is_total e)

-- any outcome of First for an accepted stock and a buffer of n bytes: not refused, and the book's strip 0
pub first_is_strip_0 : (κs : Lfts 2) (a : Dens κs first.ps) (r : Refusal) (s : AtExit (ended_of 2 first.ps first.r) κs) → first_reads.Post κs a r s
    → IsStock a.0.now → length a.1.0.now ≡ sum a.0.now → (r.no ≡ 0) × (s.1.0.now ≡ get_or (book a.0.now) 0 [])
first_is_strip_0 κs a r s h k l =
    let n = first_right κs a r s h in
    let e = n.accepted k l in
    (e, n.strip_zero e)

-- ---- strip to number, and number to strip

-- any answer r of Number for a strip of an accepted stock that has fewer than 2^64 strips: not refused, and the strip's place in the book
pub number_is_the_book's : (κs : Lfts 2) (a : Dens κs number.ps) (r : Numbered) (s : AtExit (ended_of 2 number.ps number.r) κs) → number_reads.Post κs a r s
    → IsStock a.0.now → IsStrip a.0.now a.1.0.now → total a.0.now < 2 ^ 64 → (r.refusal.no ≡ 0) × (r.number ≡ place_in (book a.0.now) a.1.0.now)
number_is_the_book's κs a r s h k l m =
    let n = number_right κs a r s h in
    let e = n.accepted k l m in
    (e, n.place e)

-- any outcome of Strip for a number below T: not refused, and the book's strip there
pub strip_is_the_book's : (κs : Lfts 2) (a : Dens κs strip.ps) (r : Refusal) (s : AtExit (ended_of 2 strip.ps strip.r) κs) → strip_reads.Post κs a r s
    → IsStock a.0.now → length a.1.1.0.now ≡ sum a.0.now → total a.0.now < 2 ^ 64 → a.1.0 < total a.0.now
    → (r.no ≡ 0) × (s.1.1.0.now ≡ get_or (book a.0.now) a.1.0 [])
strip_is_the_book's κs a r s h k l m i =
    let n = strip_right κs a r s h in
    let e = n.accepted k l m i in
    (e, n.written e)
