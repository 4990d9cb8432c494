use Rattle.std.proofs.Common.{◌+◌, drop, sym, ap, ◌∙◌, arith}
use Rattle.hp_typing.specs.Uses.{both, how}
use Rattle.hp_typing.proofs.UseMaps.{no_entry, said, add-step, added-end}
use Rattle.hp_typing.proofs.uses.Uses.add_all.Goals as goal
use Rattle.hp_typing.proofs.uses.Uses.add_all.Goals.{in-Some+in_ok-put, in_default}

pub loop-i-preserved : goal.loop-i-preserved
loop-i-preserved c =
    let es = c.args.other.now.names.entries in
    elim c.match-get_index.branch [
      | in-Some+in_ok-put w ↦
          ap (λ uses. both (how uses) (said (drop (c.loop-i.i + 1) es))) w.self-is
          ∙ add-step es c.loop-i.i w.in-Some.name.now w.in-Some.used.now w.beside.result (how c.loop-i.self) (how w.put.new.self) _ c.len-i-end.ensures.unique
          (sym w.in-Some.ensures.entry) (w.beside.ensures ∙ rw w.of-so_far.ensures) w.in_ok-put.ensures c.loop-i.invariant
      | in_default w ↦ absurd (no_entry es c.loop-i.i (omega arith) w.in_default.ensures.entry)
    ]

pub returns : goal.returns
returns c = added-end c.args.other.now.names.entries c.loop-i.i (how c.loop-i.self) _ (omega arith) c.loop-i.invariant
