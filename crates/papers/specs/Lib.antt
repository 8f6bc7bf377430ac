-- TO BE BELIEVED: what it is to turn a strip round and to hang it foot up, and what Same paper answers. `Blocks` is the exception: it is what reading a block promises.
pub mod Papers
pub mod Blocks
