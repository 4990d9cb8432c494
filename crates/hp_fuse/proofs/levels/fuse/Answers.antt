use Rattle.std.proofs.Common.{subst, sym}
use Rattle.hp_obc.specs.MachineView.{machine_seen}
use Rattle.hp_fuse.specs.Fusing.{with_step}
use Rattle.hp_fuse.specs.Likeness.{AreAlike, IsLike}
use Rattle.hp_fuse.proofs.LevelLaws.{like, alike-fused}
use Rattle.hp_fuse.proofs.levels.fuse.Goals as goal

pub returns-in-Ok-clause-like : goal.returns-in-Ok-clause-like
returns-in-Ok-clause-like c =
    let m = machine_seen c.machine.inside in
    subst (λ z. IsLike z (with_step (machine_seen c.machine.inside) c.fuse_cmds.new.cmds)) c.machine.view_is
    (like (machine_seen c.machine.inside) c.fuse_cmds.new.cmds (subst (AreAlike c.machine.inside.step) (sym c.in-Ok.ensures.fused) (alike-fused 301 c.machine.inside.step)))

pub returns-in-Err-clause-handed_back : goal.returns-in-Err-clause-handed_back
returns-in-Err-clause-handed_back c =
    subst (λ z. IsLike z (with_step (machine_seen c.machine.inside) c.fuse_cmds.new.cmds)) c.machine.view_is
    (like (machine_seen c.machine.inside) c.fuse_cmds.new.cmds c.in-Err.ensures.alike)
