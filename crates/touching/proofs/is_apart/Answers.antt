-- `touching::is_apart` meets its contract.
use Rattle.touching.proofs.Places.{last_touches, none_on_panel, none_but_ends}
use Rattle.touching.proofs.is_apart.Goals as goal

pub returns-in-Some : goal.returns-in-Some
returns-in-Some c = last_touches c.args.strip.now c.args.endless _ (rw c.in-Some.is at c.requires)

pub returns-in-None : goal.returns-in-None
returns-in-None c = none_but_ends c.args.strip.now (rw c.in-None.is at c.requires) c.args.endless c.if-endless.true

pub returns-in-None-2 : goal.returns-in-None-2
returns-in-None-2 c = none_on_panel c.args.strip.now (rw c.in-None-2.is at c.requires) c.args.endless c.if-endless.false
