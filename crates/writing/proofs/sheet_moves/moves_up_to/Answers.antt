-- `writing::sheet_moves::moves_up_to` meets its contract: what walks is the strip.
use Rattle.rules.proofs.Strips.{strip_fits}
use Rattle.writing.proofs.sheet_moves.moves_up_to.Goals as goal

pub copied-word-requires : goal.copied-word-requires
copied-word-requires c = strip_fits _ _ c.requires.stock c.requires.strip
