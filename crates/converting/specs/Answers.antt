-- TO BE BELIEVED. Document 02, P1: conversion between the two numberings. Of the strip that has a number in one list of the stock's strips, the number in
-- another; refusals 1, 2, 3, then 7, then 8.
use Rattle.std.specs.Prelude.{ℕ, List, [], ◌∷◌, ◌++◌, get_or}
use Rattle.rules.specs.Book.{book, place_in}
use Rattle.rules.specs.Refusals.{No, answer, stock_nos, many_no, above_no}
use Rattle.dictionary.specs.Dictionary.{dictionary}
use Rattle.drawers.specs.declared.Filed.{Filed}
use Rattle.drawers.specs.Answers.{as_filed}

unfoldable pub convert_nos : List ℕ → ℕ → List No
convert_nos counts number = stock_nos counts ++ (many_no counts ∷ above_no counts number ∷ [])

unfoldable pub convert_answer : (from to : List (List ℕ)) → List ℕ → ℕ → Filed
convert_answer from to counts number = answer as_filed (convert_nos counts number) 0 (place_in to (get_or from number []))

-- from the book's number to the dictionary's
abbrev pub to_dictionary_answer : List ℕ → ℕ → Filed
to_dictionary_answer counts number = convert_answer (book counts) (dictionary counts) counts number

-- and from the dictionary's to the book's
abbrev pub to_book_answer : List ℕ → ℕ → Filed
to_book_answer counts number = convert_answer (dictionary counts) (book counts) counts number
