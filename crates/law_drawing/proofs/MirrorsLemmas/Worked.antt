-- Worked: an assumption that reads a controllable variable by an output, one that reads the output as it was before, and a contract that assumes nothing.
use Rattle.std.proofs.Common.{List, [], ◌∷◌, Option, None, Some, refl, inr}
use Rattle.hp_tree.specs.declared.expr.Op2.TheVariants.{And}
use Rattle.hp_tree.specs.Blocks.{block, no_eqn}
use Rattle.hp_tree.specs.Expressions.{Expr, two, pre}
use Rattle.hp_tree.specs.Instant.{Assume, Body, Controls, Head, Named, Place}
use Rattle.hp_tree.specs.Programs.{Contract, Node}
use Rattle.hp_meaning.specs.Causal.Causality.{Chain}
use Rattle.hp_meaning.proofs.CausalLemmas.Worked.{here, x, y, c, bool, v, def, only_eqn, node}
use Rattle.law_drawing.specs.Mirrors.Assumptions.{AssumesControl}

abbrev contract_of : Option Expr → Contract
contract_of assumed = record { body = block [] no_eqn; assume = assumed; enforce = None; controls = bool c ∷ []; span = here }

-- y = x and c, where c is chosen
abbrev assuming : Option Expr → Node
assuming assumed = record (node (bool x ∷ []) (bool y ∷ []) [] (only_eqn (def y (two here And (v x) (v c))))) { contract = Some (contract_of assumed) }

now_reads : AssumesControl (assuming (Some (v y)))
now_reads = record {
  contract = contract_of (Some (v y));
  is = refl;
  assumption = v y;
  assumed = refl;
  name = c;
  control = Controls ∷ Head ∷ [];
  chosen = refl;
  between = (Body ∷ Named y ∷ []) ∷ [];
  chain = (inr refl, inr (inr refl));
}

before_reads : (between : List Place) (control : Place) → Chain (assuming (Some (pre here (v y)))) (Assume ∷ []) between control → ⊥
before_reads [] control h = h
before_reads (p ∷ between) control h = h.0

before_is_told : AssumesControl (assuming (Some (pre here (v y)))) → ⊥
before_is_told h = before_reads h.between h.control h.chain

none_reads : (between : List Place) (control : Place) → Chain (assuming None) (Assume ∷ []) between control → ⊥
none_reads [] control h = h
none_reads (p ∷ between) control h = h.0

none_is_told : AssumesControl (assuming None) → ⊥
none_is_told h = none_reads h.between h.control h.chain
