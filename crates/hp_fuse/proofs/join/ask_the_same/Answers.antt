use Rattle.std.proofs.Common.{sym, ◌∙◌, arith}
use Rattle.hp_obc.specs.CommandView.{cmd_seen}
use Rattle.hp_fuse.specs.Fusing.{ask_the_same}
use Rattle.hp_fuse.proofs.Steps.{asked}
use Rattle.hp_fuse.proofs.join.ask_the_same.Goals as goal

pub returns-then-same_name : goal.returns-then-same_name
returns-then-same_name c =
    let o = c.in-Case-Case in
    asked o.name o.other o.arms.items o.others.items c.len.result c.len-then-same_name.result c.if-same_name.ensures (omega (arith, c.len.ensures, o.arms.ok.0)) (omega (arith, c.len-then-same_name.ensures, o.others.ok.0))
    ∙ sym (λ i. ask_the_same (cmd_seen (o.is-0 i)) (cmd_seen (o.is-1 i)))
