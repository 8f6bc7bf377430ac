-- What the functions behind the calls answer, as the numbers that the calls give for it. No open call's contract cites it, so nothing here is to be believed.
use Rattle.std.specs.Prelude.{ℕ, Option, Some, None, Result, Ok, Err}
use Rattle.rules.specs.Refusals.{fine}
use Rattle.stock.specs.declared.refused.Refused.{Refused}
use Rattle.stock.specs.Refused.{no_of}
use Rattle.comparing.specs.declared.letters.Ahead.{Ahead}
use Rattle.comparing.specs.declared.letters.Ahead.TheVariants.{First, Second}
use Rattle.comparing.specs.declared.order.Parting.{Parting}
use Rattle.comparing.specs.declared.which.Compared.{Compared}
use Rattle.comparing.specs.Answers.{as_compared}

-- 1: the first stands ahead; 2: the second does; 3: they are equal
abbrev pub ahead_number : Option Ahead → ℕ
ahead_number (Some First) = 1
ahead_number (Some Second) = 2
ahead_number None = 3

-- and of two strips
abbrev pub which_number : Option Parting → ℕ
which_number (Some p) = ahead_number (Some p.ahead)
which_number None = 3

-- the kind at which they part, 0 where they are equal
abbrev pub kind_number : Option Parting → ℕ
kind_number (Some p) = p.kind
kind_number None = 0

-- refused, both are 0
abbrev pub compared : Result (Option Parting) Refused → Compared
compared (Ok parting) = as_compared fine (which_number parting) (kind_number parting)
compared (Err e) = as_compared (no_of e) 0 0
