use Rattle.std.proofs.Common.{◌+◌, drop, sym, ap, ◌∙◌, arith}
use Rattle.hp_typing.specs.Uses.{pairwise, how}
use Rattle.hp_typing.proofs.UseMaps.{no_entry, worse_in, worse-step, worse-end}
use Rattle.hp_typing.proofs.uses.Uses.worsen.Goals as goal
use Rattle.hp_typing.proofs.uses.Uses.worsen.Goals.{in-Some+in_ok-put, in_default}

pub loop-i-preserved : goal.loop-i-preserved
loop-i-preserved c =
    let es = c.args.names.now.names.entries in
    let two = pairwise (how c.args.first.now) (how c.args.second.now) in
    elim c.match-get_index.branch [
      | in-Some+in_ok-put w ↦
          ap (λ uses. worse_in (drop (c.loop-i.i + 1) es) (how uses) two) w.self-is
          ∙ worse-step es c.loop-i.i w.in-Some.name.now w.in-Some.field-0-1.now w.worse.result (how c.loop-i.self) two (how w.put.new.self) _ c.len-i-end.ensures.unique
          (sym w.in-Some.ensures.entry) (w.worse.ensures ∙ rw (w.of-so_far.ensures, w.between.ensures, w.of-before.ensures, w.of-after.ensures)) w.in_ok-put.ensures c.loop-i.invariant
      | in_default w ↦ absurd (no_entry es c.loop-i.i (omega arith) w.in_default.ensures.entry)
    ]

pub returns : goal.returns
returns c = worse-end c.args.names.now.names.entries c.loop-i.i (how c.loop-i.self) (pairwise (how c.args.first.now) (how c.args.second.now)) _ (omega arith) c.loop-i.invariant
