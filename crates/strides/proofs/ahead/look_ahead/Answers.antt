-- `strides::ahead::look_ahead` meets its contract: row by row, and then the number so many moves on.
use Prim.Native.Nat.{◌^◌, ◌<◌}
use mathlib.Core.Path.{◌≡◌}
use native.Mathlib.Omega.{arith}
use Rattle.rules.specs.Stock.{total}
use Rattle.rules.proofs.Places.{place_below}
use Rattle.counting.proofs.Held.{many, few}
use Rattle.strides.proofs.Rows.{sees_short, sees_many, sees_past, sees_on}
use Rattle.strides.proofs.ahead.look_ahead.Goals as goal
use Rattle.strides.proofs.ahead.look_ahead.Goals.{In-Some}

-- past 7: the stock can be numbered
held : (c : In-Some) → (total c.args.stock.now < 2 ^ 64) × (c.in-Some.strips ≡ total c.args.stock.now)
held c = few _ c.in-Some.ensures

pub returns-then-moves-lt2 : goal.returns-then-moves-lt2
returns-then-moves-lt2 c = sees_short _ _ _ (omega arith)

pub returns-in_default : goal.returns-in_default
returns-in_default c = sees_many _ _ _ (omega arith) (many _ c.in_default.ensures)

pub overflow_sub-strips : goal.overflow_sub-strips
overflow_sub-strips c = omega (arith, (held (goal.at.overflow_sub-strips c).In-Some).1, c.number_of-here.ensures.0, place_below c.args.stock.now c.args.strip.now c.requires.1)

pub returns-then-strips-here : goal.returns-then-strips-here
returns-then-strips-here c =
    let t = held (goal.at.returns-then-strips-here c).In-Some in
    sees_past _ _ _ (omega arith) c.requires.1 t.0 _ c.number_of-here.ensures.0 (omega (arith, t.1))

pub returns : goal.returns
returns c =
    let t = held (goal.at.returns c).In-Some in
    sees_on _ _ _ (omega arith) c.requires.1 t.0 _ c.number_of-here.ensures.0 (omega (arith, t.1))
