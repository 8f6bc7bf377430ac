-- TO BE BELIEVED. Document 02, P1: what each call on dictionary numbers answers, by the dictionary, the book and the table of refusals.
use Rattle.std.specs.Prelude.{ℕ, ◌+◌, List, [], ◌∷◌, ◌++◌, eqb, get_or}
use Rattle.rules.specs.Stock.{total}
use Rattle.rules.specs.Book.{place_in}
use Rattle.rules.specs.Refusals.{No, when, first_of, unless, answer, check_nos}
use Rattle.stock.specs.declared.Refusal.{Refusal}
use Rattle.stock.specs.Refused.{refusal}
use Rattle.numbering.specs.Answers.{number_nos, by_number_nos}
use Rattle.dictionary.specs.Dictionary.{dictionary}
use Rattle.drawers.specs.declared.Filed.{Filed}

abbrev pub as_filed : No → ℕ → Filed
as_filed r n = record { refusal = refusal r; number = n }

-- ---- number from strip: the strip's place in the dictionary; refusals 1 to 6, then 7, as Number's

unfoldable pub dictionary_number_answer : List ℕ → List ℕ → Filed
dictionary_number_answer counts strip = answer as_filed (number_nos counts strip) 0 (place_in (dictionary counts) strip)

-- ---- strip from number: the buffer becomes the entry at the number; refusals 1 to 4, then 7, then 8, as Strip's

unfoldable pub dictionary_strip_answer : List ℕ → ℕ → List ℕ → Refusal
dictionary_strip_answer counts number buffer = refusal (first_of (by_number_nos counts number buffer))

unfoldable pub dictionary_strip_after : List ℕ → ℕ → List ℕ → List ℕ
dictionary_strip_after counts number buffer = unless (first_of (by_number_nos counts number buffer)) buffer (get_or (dictionary counts) number [])

-- ---- the next strip: the strip becomes the entry after it; refusals 1 to 6, then 9

-- 9: no next strip
abbrev pub last_no : List ℕ → List ℕ → No
last_no counts s = when 9 (eqb (place_in (dictionary counts) s + 1) (total counts))

unfoldable pub dictionary_next_nos : List ℕ → List ℕ → List No
dictionary_next_nos counts s = check_nos counts s ++ (last_no counts s ∷ [])

unfoldable pub dictionary_next_answer : List ℕ → List ℕ → Refusal
dictionary_next_answer counts s = refusal (first_of (dictionary_next_nos counts s))

unfoldable pub dictionary_next_after : List ℕ → List ℕ → List ℕ
dictionary_next_after counts s = unless (first_of (dictionary_next_nos counts s)) s (get_or (dictionary counts) (place_in (dictionary counts) s + 1) [])
