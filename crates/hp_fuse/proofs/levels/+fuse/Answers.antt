use Rattle.std.proofs.Common.{slice_set, sym, ap, ◌∙◌, arith, map, subst, get_or}
use Rattle.std.proofs.lemmas.List.{with_items_is, length-map}
use Rattle.std.specs.Vec.{with_items}
use Rattle.hp_obc.specs.CommandView.{cmd_seen}
use Rattle.hp_obc.specs.Commands.{cmds_of, arms_of, and_then, done, case_of}
use Rattle.hp_fuse.specs.Fusing.{fused_to, within, joined}
use Rattle.hp_fuse.specs.Likeness.{AreAlike, ArmsAreAlike}
use Rattle.hp_fuse.proofs.LikeLaws.{alike-trans, alike-case}
use Rattle.hp_fuse.proofs.LevelLaws.{alike-joined, alike-fused, alike-within}
use Rattle.hp_fuse.proofs.Steps.{mapped_next, mapped_end, arms_listed, all_listed, arms_so_far, alike_so_far, set-seen, get-seen, on_err, in_err}
use Rattle.hp_fuse.proofs.levels.+fuse.Goals as goal

pub fuse_arms-returns-in_err-fuse_cmds-clause-alike : goal.fuse_arms-returns-in_err-fuse_cmds-clause-alike
fuse_arms-returns-in_err-fuse_cmds-clause-alike t c =
    let f = fused_to c.args.levels in
    let l = c.loop-cmds in
    in_err c.from_residual.result
    (subst (λ z. ArmsAreAlike (arms_of c.args.arms.now) (arms_of (slice_set z l.cmds-index c.fuse_cmds.new.cmds))) (sym l.invariant)
    (arms_so_far f (alike-fused c.args.levels) l.cmds-index c.args.arms.now c.fuse_cmds.new.cmds c.cmds-item.result (omega arith)
    (subst (λ z. AreAlike (get_or z l.cmds-index c.cmds-item.result) c.fuse_cmds.new.cmds) l.invariant c.in_err-fuse_cmds.ensures.alike)))

pub fuse_arms-loop-cmds-preserved : goal.fuse_arms-loop-cmds-preserved
fuse_arms-loop-cmds-preserved t c =
    mapped_next (fused_to c.args.levels) c.loop-cmds.cmds-index c.args.arms.now c.loop-cmds.arms c.fuse_cmds.new.cmds c.cmds-item.result c.loop-cmds.invariant c.in_ok-fuse_cmds.ensures.fused (omega arith)

pub fuse_arms-returns-clause-fused : goal.fuse_arms-returns-clause-fused
fuse_arms-returns-clause-fused t c =
    ap arms_of (mapped_end (fused_to c.args.levels) c.loop-cmds.cmds-index c.args.arms.now c.loop-cmds.arms c.loop-cmds.invariant c.loop-cmds-test.false) ∙ arms_listed (fused_to c.args.levels) c.args.arms.now

pub fuse_cmds-returns-clause-alike : goal.fuse_cmds-returns-clause-alike
fuse_cmds-returns-clause-alike t c =
    let back = with_items_is c.cmds.inside.list c.fuse_each.new.cmds (c.fuse_each.auto.cmds ∙ c.deref_mut.ensures.len) in
    on_err c.fuse_each.result
    (λ (h : AreAlike (cmds_of (map cmd_seen c.deref_mut.result.now)) (cmds_of (map cmd_seen c.fuse_each.new.cmds))).
    alike-trans c.args.cmds.now (joined c.args.cmds.now) (cmds_of (map cmd_seen (with_items c.cmds.inside.list c.fuse_each.new.cmds).items)) (alike-joined c.args.cmds.now)
    (subst (λ z. AreAlike (joined c.args.cmds.now) (cmds_of (map cmd_seen z))) (sym back)
    (subst (λ z. AreAlike z (cmds_of (map cmd_seen c.fuse_each.new.cmds))) (ap (λ z. cmds_of (map cmd_seen z)) c.deref_mut.ensures.value ∙ c.cmds.view_is ∙ c.in_ok-join_neighbours.ensures.joined) h)))
    c.fuse_each.ensures.alike

pub fuse_each-returns-in_err-fuse_within-clause-alike : goal.fuse_each-returns-in_err-fuse_within-clause-alike
fuse_each-returns-in_err-fuse_within-clause-alike t c =
    let f = within (fused_to c.args.levels) in
    let l = c.loop-cmd in
    let xs = map cmd_seen c.args.cmds.now in
    in_err c.from_residual.result
    (subst (λ z. AreAlike (cmds_of (map cmd_seen c.args.cmds.now)) (cmds_of z)) (sym (set-seen l.cmds l.cmd-index c.fuse_within.new.cmd ∙ ap (λ z. slice_set z l.cmd-index (cmd_seen c.fuse_within.new.cmd)) l.invariant))
    (alike_so_far (within (fused_to c.args.levels)) (alike-within (fused_to c.args.levels) (alike-fused c.args.levels)) l.cmd-index (map cmd_seen c.args.cmds.now) (cmd_seen c.fuse_within.new.cmd) (cmd_seen c.cmd-item.result)
    (omega (arith, c.loop-cmd-test.true, length-map c.args.cmds.now cmd_seen))
    (subst (λ z. AreAlike (and_then z done) (and_then (cmd_seen c.fuse_within.new.cmd) done)) (get-seen l.cmds l.cmd-index c.cmd-item.result ∙ ap (λ z. get_or z l.cmd-index (cmd_seen c.cmd-item.result)) l.invariant) c.in_err-fuse_within.ensures.alike)))

pub fuse_each-loop-cmd-preserved : goal.fuse_each-loop-cmd-preserved
fuse_each-loop-cmd-preserved t c =
    let l = c.loop-cmd in
    set-seen l.cmds l.cmd-index c.fuse_within.new.cmd
    ∙ mapped_next (within (fused_to c.args.levels)) l.cmd-index (map cmd_seen c.args.cmds.now) (map cmd_seen l.cmds) (cmd_seen c.fuse_within.new.cmd) (cmd_seen c.cmd-item.result) l.invariant
    (c.in_ok-fuse_within.ensures.fused ∙ ap (within (fused_to c.args.levels)) (get-seen l.cmds l.cmd-index c.cmd-item.result)) (omega (arith, c.loop-cmd-test.true, length-map c.args.cmds.now cmd_seen))

pub fuse_each-returns-clause-fused : goal.fuse_each-returns-clause-fused
fuse_each-returns-clause-fused t c =
    ap cmds_of (mapped_end (within (fused_to c.args.levels)) c.loop-cmd.cmd-index (map cmd_seen c.args.cmds.now) (map cmd_seen c.loop-cmd.cmds) c.loop-cmd.invariant (omega (arith, c.loop-cmd-test.false, length-map c.args.cmds.now cmd_seen)))
    ∙ all_listed (fused_to c.args.levels) (map cmd_seen c.args.cmds.now)

pub fuse_within-returns-in-Case-clause-alike : goal.fuse_within-returns-in-Case-clause-alike
fuse_within-returns-in-Case-clause-alike t c =
    let back = with_items_is c.in-Case.arms c.fuse_arms.new.arms (c.fuse_arms.auto.arms ∙ c.deref_mut.ensures.len) in
    on_err c.fuse_arms.result
    (λ (h : ArmsAreAlike (arms_of c.deref_mut.result.now) (arms_of c.fuse_arms.new.arms)).
    subst (λ z. AreAlike (and_then (cmd_seen c.args.cmd.now) done) (and_then (case_of c.in-Case.name (arms_of z)) done)) (sym back)
    (subst (λ z. AreAlike (and_then z done) (and_then (case_of c.in-Case.name (arms_of c.fuse_arms.new.arms)) done)) (sym (ap cmd_seen c.in-Case.is))
    (alike-case c.in-Case.name (arms_of c.in-Case.arms.items) (arms_of c.fuse_arms.new.arms) (subst (λ z. ArmsAreAlike (arms_of z) (arms_of c.fuse_arms.new.arms)) c.deref_mut.ensures.value h))))
    c.fuse_arms.ensures.alike
