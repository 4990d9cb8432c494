use Rattle.hp_boolx.specs.Machine.{game}
use Rattle.hp_play.proofs.FieldLaws.{loss-is}
use Rattle.hp_play.proofs.losing.lost.Goals as goal

pub returns : goal.returns
returns c = let play = c.in_ok-play.ensures in loss-is (game c.args.m.now) c.field_of.new.t c.in_ok-field.field c.in_ok-field.ensures.field c.in_ok-play.play.items play.many play.loses play.play
