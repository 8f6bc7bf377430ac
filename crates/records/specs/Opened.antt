-- What the private functions promise of the records before the moves. No open call's contract cites it, so nothing here is to be believed.
use Rattle.std.specs.Prelude.{ℕ, ◌+◌, ◌≡◌, not, List, [], ◌∷◌, ◌++◌, length, take, drop, replicate, Result, IfOk}
use Rattle.rules.specs.Stock.{sum}
use Rattle.rules.specs.Book.{same}
use Rattle.rules.specs.Refusals.{No, when_at, first_of, stranger_no, amount_no, stock_nos}
use Rattle.rules.specs.SoldOut.{used}
use Rattle.stock.specs.declared.refused.Refused.{Refused}
use Rattle.stock.specs.Refused.{told}
use Rattle.records.specs.declared.held.Opening.{Opening}
use Rattle.records.specs.Records.{record_no}

-- the stock of the record at a byte, and the strip of one for these counts
unfoldable pub stock_at : ℕ → List ℕ → List ℕ
stock_at at sheet = used (take 16 (drop (at + 1) sheet))

unfoldable pub strip_at : List ℕ → ℕ → List ℕ → List ℕ
strip_at counts at sheet = take (sum counts) (take 64 (drop (at + 1) sheet))

-- the bytes after that strip
unfoldable pub rest_at : List ℕ → ℕ → List ℕ → List ℕ
rest_at counts at sheet = drop (sum counts) (take 64 (drop (at + 1) sheet))

-- the refusals of a stock record at a byte: 11, then 1, 2, 3
unfoldable pub stock_at_nos : ℕ → List ℕ → List No
stock_at_nos at sheet = record_no 1 16 at sheet ∷ stock_nos (stock_at at sheet)

-- of a strip record: 11, then 5, 6, then padding
unfoldable pub strip_at_nos : List ℕ → ℕ → List ℕ → List No
strip_at_nos counts at sheet =
    let s = strip_at counts at sheet in
    let rest = rest_at counts at sheet in
    record_no 2 64 at sheet ∷ stranger_no counts s ∷ amount_no counts s ∷ when_at 11 at (not (same rest (replicate (length rest) 0))) ∷ []

-- of both, one after the other
unfoldable pub opening_nos : ℕ → List ℕ → List No
opening_nos at sheet = stock_at_nos at sheet ++ strip_at_nos (stock_at at sheet) (at + 17) sheet

-- what was read
abbrev pub held_stock : Opening → List ℕ
held_stock o = take o.kinds o.counts

abbrev pub held_strip : Opening → List ℕ
held_strip o = take o.blocks o.strip

-- what is read of both records: the first refusal, or the stock and the strip
pub record Opened (at : ℕ) (sheet : List ℕ) (r : Result Opening Refused) : Type 0 where
  pub refused : told r ≡ first_of (opening_nos at sheet)
  pub stock : IfOk r (λ o. held_stock o ≡ stock_at at sheet)
  pub strip : IfOk r (λ o. held_strip o ≡ strip_at (stock_at at sheet) (at + 17) sheet)
