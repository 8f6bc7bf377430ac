-- TO BE BELIEVED. Demand 1 of a call: a bad input is refused with the refusal named in document 01, and a refusal leaves everything lent as it was.
use Rattle.std.specs.Prelude.{◌≡◌, List}
use Rattle.rules.specs.Refusals.{No, first_of}
use Rattle.stock.specs.declared.Refusal.{Refusal}
use Rattle.stock.specs.Refused.{refusal}

-- nos: the rows of the table that the call has, in the document's order. given: what it answers beside a refusal, and what is left in everything lent
pub record Refuses (nos : List No) (r : Refusal) (given : Type 0) : Type 0 where
  pub named : r ≡ refusal (first_of nos)
  pub left : (r.no ≡ 0 → ⊥) → given
