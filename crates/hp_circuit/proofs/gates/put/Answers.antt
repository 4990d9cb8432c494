use Rattle.std.proofs.Common.{◌≡◌, ℕ, subst, rules}
use Rattle.std.specs.Prelude.{length}
use Rattle.hp_boolx.specs.Machine.{gate_value, values}
use Rattle.std.specs.Prelude.{[]}
use Rattle.hp_circuit.specs.Adding.{named, Adds}
use Rattle.hp_circuit.proofs.AddingLaws.{put_adds}
use Rattle.hp_circuit.proofs.gates.put.Goals as goal

pub returns-clause-adds : goal.returns-clause-adds
returns-clause-adds c =
    let old = c.args.gates.now.items in
    subst (λ (r : ℕ). Adds (named c.args.gate) old c.push.new.self.items r (λ v. gate_value v (values v [] old) c.args.gate)) (let e : length old ≡ c.len-number.result = search rules in e)
    (put_adds old c.push.new.self.items c.args.gate c.requires c.in_ok-push.ensures.items)
