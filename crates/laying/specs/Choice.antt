-- A choice between two things. No open call's contract cites it, so nothing here is to be believed.
use Rattle.std.specs.Prelude.{Bool, true, false}

abbrev pub pick : {A : Type 0} → Bool → A → A → A
pick true x y = x
pick false x y = y
