-- `strides::bytes::number_at` meets its contract.
use Prim.Native.Nat.{ℕ, ◌+◌, ◌-◌, ◌<◌}
use mathlib.Core.Path.{◌≡◌, ap, ◌∙◌}
use native.Mathlib.Omega.{arith}
use lib.ListN.{get_or, take, drop, length-drop}
use lib.Seq.{get_or-drop}
use Rattle.std.specs.Int.{w64, from_be_bytes}
use Rattle.strides.proofs.Values.{number_is}
use Rattle.strides.proofs.bytes.number_at.Goals as goal

pub returns : goal.returns
returns c =
    let at = c.args.at in
    let rest = drop at c.args.sheet.now in
    let small : (i : ℕ) → get_or rest i 0 < 256 = λ i. rw (get_or-drop at c.args.sheet.now i 0) (omega (arith, c.type_inv.sheet (at + i))) in
    let eight : at + 8 - at ≡ 8 = omega arith in
    let bytes : c.copy_from_slice.new.self ≡ take 8 rest = rw eight at c.copy_from_slice.ensures.after in
    number_is rest _ (omega (arith, length-drop at c.args.sheet.now)) small (omega (arith, c.from_be_bytes.type_inv)) (c.from_be_bytes.ensures ∙ ap (from_be_bytes w64) bytes)
