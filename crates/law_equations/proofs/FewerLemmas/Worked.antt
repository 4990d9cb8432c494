-- A node that has what is asked of it, with a clock, a restart and a copy.
use Rattle.std.proofs.Common.{◌≡◌, true, false, [], ◌∷◌, refl, rules, arith}
use Rattle.std.specs.Prelude.{codes}
use Rattle.std.specs.List.{IsDistinct}
use Rattle.hp_base.specs.declared.value.Value.TheVariants.{B}
use Rattle.hp_obc.specs.declared.command.ObcOp.TheVariants.{Copy, Mux}
use Rattle.hp_flat.specs.declared.equation.Atom.TheVariants.{Variable as Named, Value as Fixed}
use Rattle.hp_flat.specs.declared.node.FlatTy.TheVariants.{Bool as FlatBool}
use Rattle.hp_flat.specs.Equations.{operator, register}
use Rattle.hp_flat.specs.Nodes.{FlatNode}
use Rattle.hp_normal.specs.Normal.{normal}
use Rattle.law_equations.specs.Fewer.Compiling.{FlatForm}

-- inputs c, r and x; while c is true, y is what x was at the last such instant since r was true, and else false
abbrev last_seen : FlatNode
last_seen = record {
  name = codes "f";
  variables = record { name = codes "c"; ty = FlatBool } ∷ record { name = codes "r"; ty = FlatBool } ∷ record { name = codes "x"; ty = FlatBool } ∷ record { name = codes "y"; ty = FlatBool } ∷ record { name = codes "e$x4"; ty = FlatBool } ∷ [];
  inputs = 3;
  outputs = 3 ∷ [];
  eqns = record { targets = 4 ∷ []; clock = (0, 1) ∷ []; right = register (B false) (Named 2); restart = 1 ∷ []; at = 0 }
      ∷ record { targets = 3 ∷ []; clock = (0, 1) ∷ []; right = operator Copy (Named 4 ∷ []); restart = []; at = 1 }
      ∷ record { targets = 3 ∷ []; clock = (0, 0) ∷ []; right = operator Copy (Fixed (B false) ∷ []); restart = []; at = 2 }
      ∷ [];
}

has_form : FlatForm [] last_seen
unfolding IsDistinct
has_form = record {
  within = record {
    inputs = omega arith;
    outputs = (omega arith, tt);
    eqns = (
      record { targets = (omega arith, tt); clock = (omega arith, tt); operands = (omega arith, tt); restart = (omega arith, tt) },
      (
        record { targets = (omega arith, tt); clock = (omega arith, tt); operands = (omega arith, tt); restart = tt },
        (record { targets = (omega arith, tt); clock = (omega arith, tt); operands = tt; restart = tt }, tt),
      ),
    );
  };
  no_inputs = ((omega arith, tt), ((omega arith, tt), ((omega arith, tt), tt)));
  ranked = (
    (((λ t. absurd (cc)), ((λ t. absurd (cc)), ((λ t. absurd (cc)), tt))), (((λ t. absurd (cc)), ((λ t. absurd (cc)), ((λ t. absurd (cc)), tt))), tt)),
    (
      (((λ t. absurd (cc)), ((λ t. absurd (cc)), ((λ t. absurd (cc)), tt))), (((λ t. omega arith), ((λ t. absurd (cc)), ((λ t. absurd (cc)), tt))), tt)),
      ((((λ t. absurd (cc)), ((λ t. absurd (cc)), ((λ t. absurd (cc)), tt))), tt), tt),
    ),
  );
  eqns = (
    record { clock = (omega arith, tt); constants = (refl, tt) },
    (record { clock = (omega arith, tt); constants = tt }, (record { clock = (omega arith, tt); constants = (refl, tt) }, tt)),
  );
  copies = (tt, (refl, (tt, tt)));
  names_differ = search rules;
  names_own = (refl, (refl, (refl, (refl, (refl, tt)))));
  few = omega arith;
}

-- of its copies one goes
one_less : (normal last_seen).eqns
    ≡ record { targets = 3 ∷ []; clock = (0, 1) ∷ []; right = register (B false) (Named 2); restart = 1 ∷ []; at = 0 }
    ∷ record { targets = 3 ∷ []; clock = (0, 0) ∷ []; right = operator Copy (Fixed (B false) ∷ []); restart = []; at = 2 } ∷ []
one_less = refl

-- inputs c and x; a choice between two copies of x begins anew with c, and nothing reads another one of c
abbrev chooses_one : FlatNode
chooses_one = record {
  name = codes "f";
  variables = record { name = codes "c"; ty = FlatBool } ∷ record { name = codes "x"; ty = FlatBool } ∷ record { name = codes "e$x1"; ty = FlatBool } ∷ record { name = codes "e$x2"; ty = FlatBool } ∷ record { name = codes "y"; ty = FlatBool }
      ∷ record { name = codes "e$x3"; ty = FlatBool } ∷ [];
  inputs = 2;
  outputs = 4 ∷ [];
  eqns = record { targets = 2 ∷ []; clock = []; right = operator Copy (Named 1 ∷ []); restart = []; at = 0 }
      ∷ record { targets = 3 ∷ []; clock = []; right = operator Copy (Named 1 ∷ []); restart = []; at = 1 }
      ∷ record { targets = 5 ∷ []; clock = []; right = operator Mux (Named 0 ∷ Named 3 ∷ Fixed (B true) ∷ []); restart = []; at = 2 }
      ∷ record { targets = 4 ∷ []; clock = []; right = operator Mux (Named 0 ∷ Named 2 ∷ Named 3 ∷ []); restart = 0 ∷ []; at = 3 }
      ∷ [];
}

-- it copies x, and nothing else is left
one_copy : (normal chooses_one).eqns ≡ record { targets = 4 ∷ []; clock = []; right = operator Copy (Named 1 ∷ []); restart = []; at = 0 } ∷ []
one_copy = refl
