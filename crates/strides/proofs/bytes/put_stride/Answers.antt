-- `strides::bytes::put_stride` meets its contract.
use Rattle.strides.proofs.Values.{stride_put}
use Rattle.strides.proofs.bytes.put_stride.Goals as goal

pub returns : goal.returns
returns c = stride_put c.args.moves c.args.rest.now _ (rw c.to_be_bytes.ensures at c.put_record.ensures)
