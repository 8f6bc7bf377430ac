-- `hanging::reversing::reverse_parts` meets its contract.
use Rattle.hanging.proofs.Reversals.{parts_reversed}
use Rattle.hanging.proofs.reversing.reverse_parts.Goals as goal

pub returns : goal.returns
returns c = parts_reversed c.args.front c.args.strip.now c.requires _ _ c.reverse.ensures.after c.reverse-2.ensures.after
