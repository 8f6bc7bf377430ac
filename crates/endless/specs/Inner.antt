-- The answers that the functions behind the calls come to. No open call's contract cites it, so nothing here is to be believed.
use Rattle.std.specs.Prelude.{Result, Ok, Err, false}
use Rattle.rules.specs.Refusals.{fine}
use Rattle.stock.specs.Refused.{no_of, refusal}
use Rattle.stock.specs.declared.refused.Refused.{Refused}
use Rattle.searching.specs.Ended.{number_of}
use Rattle.searching.specs.declared.Ended.{Ended}
use Rattle.hanging.specs.declared.either.Hanging.{Hanging}
use Rattle.endless.specs.declared.stand.Stood.{Stood}
use Rattle.endless.specs.declared.next_paper.Stepped.{Stepped}

abbrev pub stood : Result Hanging Refused → Stood
stood (Ok h) = record { refusal = refusal fine; turn = h.turn; reversed = h.reversed }
stood (Err e) = record { refusal = refusal (no_of e); turn = 0; reversed = false }

abbrev pub stepped : Result Ended Refused → Stepped
stepped (Ok e) = record { refusal = refusal fine; outcome = number_of e.outcome; steps = e.steps }
stepped (Err e) = record { refusal = refusal (no_of e); outcome = 0; steps = 0 }
