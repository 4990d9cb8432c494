use Rattle.std.proofs.lemmas.Result.{IfErr-weaker}
use Rattle.hp_verdicts.proofs.DecideLaws.{found_refuses, proof_answer}
use Rattle.hp_verdicts.proofs.proving.prove.Goals as goal

pub returns-clause-proof : goal.returns-clause-proof
returns-clause-proof c =
    proof_answer c.args.program.now c.args.node.now c.in_ok-m.m c.in_ok-m.ensures.machine (λ text. text.items) c.is_wide.result c.is_wide.ensures c.in_ok-cert.cert c.in_ok-cert.ensures.found
    c.text_of.result c.text_of.ensures.text c.text_of.ensures.within

pub returns-clause-refused : goal.returns-clause-refused
returns-clause-refused c =
    IfErr-weaker c.text_of.result _ _
    (λ e why. found_refuses c.args.program.now c.args.node.now c.in_ok-m.m c.in_ok-m.ensures.machine c.requires c.is_wide.result c.is_wide.ensures c.in_ok-cert.cert c.in_ok-cert.ensures.found e why)
    c.text_of.ensures.refused
