use Rattle.std.proofs.Common.{[], sym, ◌∙◌}
use Rattle.std.specs.Prelude.{unwrap_or}
use Rattle.std.proofs.lemmas.List.{length-map}
use Rattle.hp_base.specs.Kinds.{Bools}
use Rattle.hp_obc.specs.declared.machine.Var.{Var}
use Rattle.hp_obc.specs.Kinded.{kinds_in}
use Rattle.hp_obc.specs.Values.{kind_of}
use Rattle.hp_native.proofs.NativeLaws.{fits-apart}
use Rattle.hp_native.proofs.fit.fits.Goals as goal

pub returns-then-vars-values-clause-test : goal.returns-then-vars-values-clause-test
returns-then-vars-values-clause-test c =
    let vars = c.args.vars.now in
    sym (fits-apart (kinds_in [] vars) c.args.values.now (λ e. c.if-vars-values.true (sym (length-map vars (λ (x : Var). unwrap_or (kind_of [] x.ty) Bools)) ∙ e)))
