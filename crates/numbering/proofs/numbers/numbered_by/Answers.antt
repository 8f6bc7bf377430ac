-- `numbering::numbers::numbered_by` meets its contract.
use Prim.Native.Nat.{ℕ, ◌+◌, ◌*◌, ◌<◌}
use mathlib.Core.Path.{ap, ◌∙◌}
use mathlib.Core.Bool.{Bool}
use native.Mathlib.Omega.{arith}
use Rattle.rules.proofs.Listed.{face, face_lt}
use Rattle.rules.proofs.Snake.{numbered}
use Rattle.rules.proofs.Numbers.{odd_rest}
use Rattle.numbering.proofs.numbers.numbered_by.Goals as goal

pub overflow_add-result : goal.overflow_add-result
overflow_add-result c =
    let a = c.args in
    let below : c.faced.result < a.patterns = rw c.faced.ensures (face_lt _ a.patterns a.index c.requires.0) in
    omega arith

pub returns : goal.returns
unfolding numbered
returns c =
    let a = c.args in
    ap (λ (i : ℕ). a.number * a.patterns + i) (c.faced.ensures ∙ ap (λ (b : Bool). face b a.patterns a.index) (odd_rest a.number))
