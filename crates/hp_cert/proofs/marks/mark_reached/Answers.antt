use Rattle.hp_cert.proofs.marks.mark_reached.Goals as goal

pub returns : goal.returns
returns c = record { sound = c.mark_lines.ensures.sound c.args.roots.now c.mark_roots.ensures; closed = c.mark_lines.ensures.closed }
