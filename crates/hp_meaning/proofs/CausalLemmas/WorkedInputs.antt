-- Worked: what depends on an input, and what does not.
use Rattle.std.proofs.Common.{◌≡◌, inl, inr, List, [], ◌∷◌, refl}
use Rattle.std.specs.Prelude.{false, codes}
use Rattle.hp_tree.specs.declared.expr.Op2.TheVariants.{Eq}
use Rattle.hp_tree.specs.Expressions.{two, pre, call, no_expr, more_exprs}
use Rattle.hp_tree.specs.Blocks.{more_eqns}
use Rattle.hp_tree.specs.Programs.{Node}
use Rattle.hp_tree.specs.Instant.{Inputs, Body, Equations, Right, Named, Head, Place}
use Rattle.hp_meaning.specs.Causal.Sources.{only, none}
use Rattle.hp_meaning.specs.Causal.InputDependence.{input_in, ChainWithInputs, DependsOnInput, DependsOnNone}
use Rattle.hp_meaning.proofs.CausalLemmas.Worked.{here, bool, v, def, node, only_eqn, x, y, z, c}

-- x = f(c); y = pre c; z = (y = y)
abbrev delayed : Node
delayed =
    node (bool c ∷ []) (bool x ∷ bool y ∷ bool z ∷ []) []
    (more_eqns (def x (call here (codes "f") false (more_exprs (v c) no_expr)))
    (more_eqns (def y (pre here (v c)))
    (only_eqn (def z (two here Eq (v y) (v y))))))

abbrev the_input : Place
the_input = Inputs ∷ Head ∷ []

abbrev the_call : Place
the_call = Body ∷ Equations ∷ Head ∷ Right ∷ []

-- through the call
x_depends : DependsOnInput delayed (Body ∷ Named x ∷ []) c
x_depends = (the_input, refl, (the_call ∷ []), (inr refl, inr (inl refl)))

-- What stands under `pre` is not read.
y_reads_nothing : (q : Place) (between : List Place) → ChainWithInputs delayed (Body ∷ Named y ∷ []) between q → ⊥
y_reads_nothing q [] h = nothing_at q h
  where
    nothing_at : (q : Place) → ChainWithInputs delayed (Body ∷ Named y ∷ []) [] q → ⊥
    nothing_at q (inl h) = h
    nothing_at q (inr h) = h
y_reads_nothing q (r ∷ between) h = nothing_at r h.0
  where
    nothing_at : (q : Place) → ChainWithInputs delayed (Body ∷ Named y ∷ []) [] q → ⊥
    nothing_at q (inl h) = h
    nothing_at q (inr h) = h

y_is_early : DependsOnNone delayed y (bool c ∷ [])
y_is_early = ((λ h. y_reads_nothing h.0 h.2 h.3), tt)

-- a name that is no input has no such place
no_input : input_in delayed only x ≡ none
no_input = refl
