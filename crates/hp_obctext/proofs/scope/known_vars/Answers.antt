use Rattle.hp_obc.specs.Form.{mem_vars}
use Rattle.hp_obctext.proofs.LookupLaws.{vars_in_turn}
use Rattle.hp_obctext.proofs.scope.known_vars.Goals as goal

pub returns : goal.returns
returns c = vars_in_turn c.new-known.result c.add_vars.new.known c.add_vars-2.new.known c.add_vars-3.new.known c.add_mems.new.known
    c.args.inputs.now c.args.outputs.now c.args.vars.now (mem_vars c.args.mems.now) c.new-known.ensures
    c.in_ok-add_vars.ensures c.in_ok-add_vars-2.ensures c.in_ok-add_vars-3.ensures c.in_ok-add_mems.ensures
