-- The laws of flattening.
use Rattle.std.proofs.Common.{ℕ, List, [], ◌∷◌}
use Rattle.hp_base.specs.declared.value.Value.{Value}
use Rattle.hp_tree.specs.Programs.{TypeDecl, Node}
use Rattle.hp_tree.specs.Operators.{filled}
use Rattle.hp_tree.specs.Instant.{Place, Instant, Past}
use Rattle.hp_tree.specs.Meaning.{Nodes, node}
use Rattle.law_equations.specs.Flattened.Flat.{Behaviours}
use Rattle.law_equations.specs.Flattened.Flatten.{Prefix, always, node_scope}
use Rattle.law_equations.specs.Flattened.Timely.{Along}
use Rattle.law_equations.specs.Flattened.Timely.{scope_clocks}
use Rattle.law_equations.specs.Flattened.Lifted.{Reacts, lifted, lifts, inputs_of, IsFill, AllFilled, in_body, node_lasts, NodeTimely}
use Rattle.law_equations.specs.Flattened.Behaves.{IsFine, EachCallIn}
use Rattle.law_equations.specs.Flattened.Laws.{FlattenLaw}
use Rattle.law_equations.proofs.FlattenedLemmas.NodeLaws.{remembers, all_remember, body_live, body_lives, stands_tail, NodeCalls, flat_reaction}
use Rattle.law_equations.proofs.FlattenedLemmas.CallLaws.{Gives, calls_scope}

module _ (types : List TypeDecl) (N : Nodes) (does : Behaviours) (fills : List ℕ → Place → Value) (fill : Place → Value) (n : Node) where
  abbrev Fine : List ℕ → Prefix → Type 0
  Fine = IsFine N does (λ f. IsFill (fills f)) (IsFill fill)

  all_give : (inputs : List (List Value)) (frees : List Instant) (past : Past) → Reacts (node types filled N n) inputs frees past → AllFilled fill frees → Along (Gives types N does fill (λ f. IsFill (fills f)) (IsFill fill)) (lifts n inputs frees past)
  all_give [] [] [] r fl = tt
  all_give (vs ∷ inputs) (free ∷ frees) (now ∷ past) r fl = (fl.0, all_give inputs frees past r.0 fl.1)
  all_give [] [] (now ∷ past) r fl = absurd r
  all_give [] (free ∷ frees) past r fl = absurd r
  all_give (vs ∷ inputs) [] past r fl = absurd r
  all_give (vs ∷ inputs) (free ∷ frees) [] r fl = absurd r

  node_calls : (inputs : List (List Value)) (frees : List Instant) (past : Past) → EachCallIn Fine n.body in_body → Reacts (node types filled N n) inputs frees past → AllFilled fill frees → NodeTimely types N.outputs n (lifts n inputs frees past) → Along (NodeCalls types N does fill n) (lifts n inputs frees past)
  node_calls [] [] [] k r fl tm = tt
  node_calls (vs ∷ inputs) (free ∷ frees) (now ∷ past) k r fl tm =
      let G = lifts n inputs frees past in
      let j = lifted G (inputs_of n vs free) free now in (
        calls_scope types N does fill (λ f. IsFill (fills f)) (IsFill fill) n.body (λ i. Rattle.std.specs.Prelude.false) (node_scope n) (node_lasts types n) in_body always [] G j
            (body_live types N does fill n vs free now inputs frees past r.0 r.1, body_lives types N does fill n inputs frees past r.0)
            tm (remembers G (inputs_of n vs free) free now, all_remember types N does fill n inputs frees past r.0) (all_give (vs ∷ inputs) (free ∷ frees) (now ∷ past) r fl) k,
        node_calls inputs frees past k r.0 fl.1 (λ p. stands_tail (scope_clocks types N.outputs n.body (node_scope n) (node_lasts types n) in_body always [] p) _ j G (tm p)),
      )
  node_calls [] [] (now ∷ past) k r fl tm = absurd r
  node_calls [] (free ∷ frees) past k r fl tm = absurd r
  node_calls (vs ∷ inputs) [] past k r fl tm = absurd r
  node_calls (vs ∷ inputs) (free ∷ frees) [] k r fl tm = absurd r

pub flattens : FlattenLaw
flattens types N does fills fill n inputs frees past na k r fl tm =
    flat_reaction types N does fill n na inputs frees past r fl tm (node_calls types N does fills fill n inputs frees past k r fl tm)
