-- A number of orders as the functions behind the calls answer it. No open call's contract cites it, so nothing here is to be believed.
use Rattle.std.specs.Prelude.{ℕ, ◌^◌, leb, Option, Some, None}
use Rattle.rules.specs.Refusals.{when, unless}

-- a number, or none where it is 2^64 or more. Of T this is what Count finds before it answers or refuses by 7
abbrev pub fitting : ℕ → Option ℕ
fitting n = unless (when 7 (leb (2 ^ 64) n)) None (Some n)
