use Rattle.std.proofs.Common.{sym}
use Rattle.hp_obc.specs.Form.{is_name}
use Rattle.hp_form.specs.Declaring.{keys}
use Rattle.hp_form.proofs.EachLaws.{old_first, new_in_both}
use Rattle.hp_form.proofs.declare.may_declare.Goals as goal

pub returns-then-not-is_fresh : goal.returns-then-not-is_fresh
returns-then-not-is_fresh c = old_first is_name (keys c.args.before.now) (keys c.args.known.now) c.args.name.now (sym c.if-not-is_fresh.ensures)

pub returns : goal.returns
returns c = new_in_both is_name (keys c.args.before.now) (keys c.args.known.now) c.args.name.now c.is_fresh-2.result (sym c.if-not-is_name.ensures) (sym c.if-not-is_fresh.ensures) c.is_fresh-2.ensures
