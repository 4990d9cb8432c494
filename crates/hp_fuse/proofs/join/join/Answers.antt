use Rattle.std.proofs.Common.{sym, ap, ◌∙◌, length}
use Rattle.hp_obc.specs.CommandView.{cmd_seen}
use Rattle.hp_fuse.specs.Fusing.{ask_the_same}
use Rattle.hp_fuse.proofs.Steps.{as_many}
use Rattle.hp_fuse.proofs.join.join.Goals as goal

pub append_arms-requires : goal.append_arms-requires
append_arms-requires c =
    let o = c.in-Case-Case in
    record {
      as_many = ap length c.deref_mut.ensures.value
          ∙ as_many o.name-0 o.name-1 o.arms.items o.others.items (sym (λ i. ask_the_same (cmd_seen (o.is-0 i)) (cmd_seen (o.is-1 i))) ∙ c.requires)
          ∙ sym (ap length c.deref_mut-in-Case-Case.ensures.value);
    }
