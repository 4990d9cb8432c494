-- A node that has shape; and one whose clocks do not part, in which a call would give one variable two outputs.
use Rattle.std.proofs.Common.{◌≡◌, ℕ, nat_eq, Bool, true, false, ◌||◌, [], ◌∷◌, inl, inr, refl, ap, ◌∙◌, rules, arith}
use Rattle.std.specs.Prelude.{codes}
use Rattle.std.specs.List.{IsDistinct}
use Rattle.std.proofs.lemmas.Bool.{eqb-true}
use Rattle.hp_base.specs.Kinds.{Bools}
use Rattle.hp_obc.specs.declared.command.ObcOp.TheVariants.{Copy}
use Rattle.hp_flat.specs.declared.equation.Atom.TheVariants.{Variable as Named}
use Rattle.hp_flat.specs.declared.node.FlatTy.TheVariants.{Bool as FlatBool}
use Rattle.hp_flat.specs.Equations.{Clock, operator, called}
use Rattle.hp_flat.specs.Nodes.{FlatNode}
use Rattle.law_equations.specs.Meaning.Kinding.{Callees}
use Rattle.law_equations.specs.Meaning.Reactions.{has}
use Rattle.hp_normal.specs.Normal.{normal}
use Rattle.law_equations.specs.Shaped.Shaped.{NodeShape}

-- inputs c and x; a call of f has two outputs, of which y is the first on one clock and the second on another
abbrev chosen : Clock → Clock → FlatNode
chosen first second = record {
  name = codes "g";
  variables = record { name = codes "c"; ty = FlatBool } ∷ record { name = codes "x"; ty = FlatBool } ∷ record { name = codes "y"; ty = FlatBool } ∷ record { name = codes "e$x3"; ty = FlatBool } ∷ record { name = codes "e$x4"; ty = FlatBool } ∷ [];
  inputs = 2;
  outputs = 2 ∷ [];
  eqns = record { targets = 3 ∷ 4 ∷ []; clock = []; right = called (codes "f") (Named 1 ∷ []); restart = []; at = 0 }
      ∷ record { targets = 2 ∷ []; clock = first; right = operator Copy (Named 3 ∷ []); restart = []; at = 1 }
      ∷ record { targets = 2 ∷ []; clock = second; right = operator Copy (Named 4 ∷ []); restart = []; at = 2 }
      ∷ [];
}

-- f takes a truth value and gives two
abbrev callees : Callees
callees = record { takes = λ f. Bools ∷ []; gives = λ f. Bools ∷ Bools ∷ [] }

either : (a : Bool) → (a || false) ≡ true → a ≡ true
either true h = refl
either false h = absurd (cc)

-- no equation of the call defines y
not_both : (x : ℕ) → has (3 ∷ 4 ∷ []) x ≡ true → has (2 ∷ []) x ≡ true → ⊥
not_both x h g =
    let same : 2 ≡ x = eqb-true 2 x (either (nat_eq 2 x) g) in
    let no : false ≡ true = ap (has (3 ∷ 4 ∷ [])) same ∙ h in absurd (cc)

has_shape : NodeShape [] callees (chosen ((0, 1) ∷ []) ((0, 0) ∷ []))
unfolding IsDistinct
has_shape = record {
  name = refl;
  within = record {
    inputs = omega arith;
    outputs = (omega arith, tt);
    eqns = (
      record { targets = (omega arith, (omega arith, tt)); clock = tt; operands = (omega arith, tt); restart = tt },
      (
        record { targets = (omega arith, tt); clock = (omega arith, tt); operands = (omega arith, tt); restart = tt },
        (record { targets = (omega arith, tt); clock = (omega arith, tt); operands = (omega arith, tt); restart = tt }, tt),
      ),
    );
  };
  no_inputs = ((omega arith, (omega arith, tt)), ((omega arith, tt), ((omega arith, tt), tt)));
  outputs_behind = (omega arith, tt);
  outputs_differ = (tt, tt);
  kinds = (
    record { right = ((refl, tt), refl); clock = tt; restart = tt },
    (
      record { right = (Bools ∷ [], (refl, tt), Bools, refl, refl); clock = (omega arith, tt); restart = tt },
      (record { right = (Bools ∷ [], (refl, tt), Bools, refl, refl); clock = (omega arith, tt); restart = tt }, tt),
    ),
  );
  values = (tt, (tt, (tt, (tt, (tt, tt)))));
  targets_differ = (((refl, tt), (tt, tt)), ((tt, tt), ((tt, tt), tt)));
  apart = (
    ((λ x h g. inl refl), ((λ x h g. absurd (not_both x h g)), ((λ x h g. absurd (not_both x h g)), tt))),
    (
      ((λ x h g. absurd (not_both x g h)), ((λ x h g. inl refl), ((λ x h g. inr (refl, inl refl)), tt))),
      (((λ x h g. absurd (not_both x g h)), ((λ x h g. inr (refl, inl refl)), ((λ x h g. inl refl), tt))), tt),
    ),
  );
  short = (omega arith, (omega arith, (omega arith, tt)));
  names_good = (refl, (refl, (refl, (refl, (refl, tt)))));
  names_differ = search rules;
  names_own = (refl, (refl, (refl, (refl, (refl, tt)))));
  few = omega arith;
}

-- Where both clocks are the same, both copies go, and the call gives y twice, which has no form.
given_twice : (normal (chosen [] [])).eqns ≡ record { targets = 2 ∷ 2 ∷ []; clock = []; right = called (codes "f") (Named 1 ∷ []); restart = []; at = 0 } ∷ []
given_twice = refl
