-- `copying::copied` meets its contract.
use Rattle.copying.proofs.Copies.{copy_zeros}
use Rattle.copying.proofs.copied.Goals as goal

pub returns : goal.returns
returns c = copy_zeros 64 c.args.strip.now _ c.copy.ensures
