-- TO BE BELIEVED. What Which and Earlier answer, by the book and the table of refusals.
use Rattle.std.specs.Prelude.{ℕ, ◌≡◌, Bool, true, false, List, [], eqb}
use Rattle.std.specs.Borrow.{Bor}
use Rattle.rules.specs.Book.{book, place_in}
use Rattle.rules.specs.Refusals.{No, first_of, unless, pair_nos}
use Rattle.stock.specs.Refused.{refusal}
use Rattle.comparing.specs.declared.which.Compared.{Compared}
use Rattle.comparing.specs.Order.{which_of, parting_kind}

-- ---- Which: the strip with the smaller number, and the kind at which the two part; refusals 1, 2, 3, then 4, 5, 6 for the first strip, then for the second

abbrev pub as_compared : No → ℕ → ℕ → Compared
as_compared r w k = record { refusal = refusal r; which = w; kind = k }

-- refused, both are 0
unfoldable pub which_answer : List ℕ → List ℕ → List ℕ → Compared
which_answer counts first second =
    let r = first_of (pair_nos counts first second) in
    as_compared r (unless r 0 (which_of (place_in (book counts) first) (place_in (book counts) second))) (unless r 0 (parting_kind counts first second))

-- ---- Earlier: one of the two lent strips itself, by its pointer and not only by its content; refused as Which

-- a lent strip: where it lies, and its blocks
abbrev pub Lent : Type 0
Lent = Bor (List ℕ)

-- the empty part at the start of a lent strip
abbrev pub EmptyPart : Lent → Lent → Type 0
EmptyPart whole part = (part.ref_ptr ≡ whole.ref_ptr) × (part.now ≡ [])

abbrev pub second_if : Bool → Lent → Lent → Lent
second_if true first second = second
second_if false first second = first

-- the second where Which says second, and else the first
abbrev pub named : ℕ → Lent → Lent → Lent
named w first second = second_if (eqb w 2) first second

unfoldable pub IsEarlier : List ℕ → Lent → Lent → Lent → Type 0
IsEarlier counts first second r =
    unless (first_of (pair_nos counts first.now second.now))
    (EmptyPart first r)
    (r ≡ named (which_of (place_in (book counts) first.now) (place_in (book counts) second.now)) first second)
