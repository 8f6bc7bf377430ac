-- What rebuilding tells C of what it comes to. No open call's contract cites it, so nothing here is to be believed.
use Rattle.std.specs.Prelude.{Result, Ok, Err, unwrap_or}
use Rattle.rules.specs.Refusals.{fine}
use Rattle.stock.specs.declared.refused.Refused.{Refused}
use Rattle.stock.specs.Refused.{no_of, refusal}
use Rattle.rebuilding.specs.declared.Rebuilt.{Rebuilt}
use Rattle.rebuilding.specs.declared.rebuild.Proper.{Proper}

abbrev pub told_rebuilt : Result Proper Refused → Rebuilt
told_rebuilt (Ok p) = record { refusal = refusal fine; moves = p.moves; differing = p.found.many; first = unwrap_or p.found.first 0 }
told_rebuilt (Err e) = record { refusal = refusal (no_of e); moves = 0; differing = 0; first = 0 }
