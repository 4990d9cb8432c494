-- Tests fit as well where nodes with the same inputs and outputs are known.
use Rattle.std.proofs.Common.{◌≡◌, ℕ, List, [], ◌∷◌, refl, sym, ap, ap₂, subst, ◌∙◌}
use Rattle.std.specs.Prelude.{Option, None, Some}
use Rattle.hp_tree.specs.Expressions.{Expr, constant, variable, last_of, one, two, choose, pre, fby, arrow, when_is, merge, call, Exprs, no_expr, more_exprs, Parts, no_part, more_parts}
use Rattle.hp_tree.specs.Blocks.{Decl, Block, block, Eqns, no_eqn, more_eqns, Eqn, define, switch, reset, automaton, Arms, no_arm, more_arms, States, no_state, more_states}
use Rattle.hp_tree.specs.Programs.{TypeDecl, Node}
use Rattle.hp_tree.specs.Instant.{Clock}
use Rattle.hp_tree.specs.Meaning.{controls_of}
use Rattle.hp_base.specs.Known.Known.{with_entry}
use Rattle.hp_typing.specs.Scopes.{with_variables, inside_node}
use Rattle.hp_typing.specs.Types.{type_of}
use Rattle.law_judged.specs.Typed.Scopes.{Scope}
use Rattle.law_values.specs.Valued.Judged.{no_lasts}
use Rattle.hp_automata.specs.Renaming.{renamed, renamed_exprs, renamed_parts}
use Rattle.hp_automata.specs.Lowering.{same_name}
use Rattle.law_values.proofs.AcceptedLemmas.Keeps.{Kept, Grows}
use Rattle.law_automata.proofs.ReadiedLemmas.SoundExpressions.{expr_typed}
use Rattle.law_wellmade.specs.Timely.Tested.{ClockTested}
use Rattle.law_wellmade.specs.Tested.Fits.{WrittenFits, DeclsFit, BlockFits, EqnsFit, EqnFits, ArmsFit, StatesFit, NodeFits}

mutual
  renamed_same : (e : Expr) → renamed same_name e ≡ e
  renamed_same (constant a c) = refl
  renamed_same (variable a x) = refl
  renamed_same (last_of a x) = refl
  renamed_same (one a o b) = ap (one a o) (renamed_same b)
  renamed_same (two a o b c) = ap₂ (two a o) (renamed_same b) (renamed_same c)
  renamed_same (choose a b c d) = let x = renamed_same b in let y = renamed_same c in let z = renamed_same d in λ i. choose a (x i) (y i) (z i)
  renamed_same (pre a b) = ap (pre a) (renamed_same b)
  renamed_same (fby a b c) = ap₂ (fby a) (renamed_same b) (renamed_same c)
  renamed_same (arrow a b c) = ap₂ (arrow a) (renamed_same b) (renamed_same c)
  renamed_same (when_is a b c x) = ap (λ z. when_is a z c x) (renamed_same b)
  renamed_same (merge a x ps) = ap (merge a x) (parts_same ps)
  renamed_same (call a f i es) = ap (call a f i) (exprs_same es)

  exprs_same : (es : Exprs) → renamed_exprs same_name es ≡ es
  exprs_same no_expr = refl
  exprs_same (more_exprs e es) = ap₂ more_exprs (renamed_same e) (exprs_same es)

  parts_same : (ps : Parts) → renamed_parts same_name ps ≡ ps
  parts_same no_part = refl
  parts_same (more_parts c e ps) = ap₂ (more_parts c) (renamed_same e) (parts_same ps)

module _ (types : List TypeDecl) (among : List ℕ → Option Node) (ns : List (List ℕ × Node)) where
  abbrev to : Scope → Scope
  to s = record s { nodes = ns }

  abbrev More : Scope → Type 0
  More s = Grows types among s (to s)

  to_more : (ds : List Decl) (s : Scope) → with_variables (to s) ds ≡ to (with_variables s ds)
  to_more [] s = refl
  to_more (d ∷ ds) s = to_more ds (record s { variables = with_entry s.variables d.name d.ty })

  grows_to : (ds : List Decl) (s : Scope) → More s → More (with_variables s ds)
  grows_to [] s g = g
  grows_to (d ∷ ds) s g = grows_to ds (record s { variables = with_entry s.variables d.name d.ty }) (record { conses = g.conses; nodes = g.nodes; constants = g.constants; known = g.known })

  type_to : (s : Scope) → More s → (e : Expr) → Kept (type_of s e) (type_of (to s) e)
  type_to s g e t h = subst (λ z. type_of (to s) z ≡ Some t) (renamed_same e) (expr_typed types among s (to s) g same_name no_lasts no_lasts (λ x u k. k) (λ x u k. k) (λ x k. k) e t h)

  path_to : (s : Scope) (path : Clock) → ClockTested types s path → ClockTested types (to s) path
  path_to s [] h = tt
  path_to s (step ∷ path) h = (h.0, path_to s path h.1)

  written_to : (s : Scope) (o : Option Clock) → WrittenFits types s o → WrittenFits types (to s) o
  written_to s None h = tt
  written_to s (Some path) h = path_to s path h

  decls_to : (s : Scope) (ds : List Decl) → DeclsFit types s ds → DeclsFit types (to s) ds
  decls_to s [] h = tt
  decls_to s (d ∷ ds) h = (written_to s d.clock h.0, decls_to s ds h.1)

  mutual
    block_to : (b : Block) (s : Scope) → More s → BlockFits types s b → BlockFits types (to s) b
    block_to (block ds es) s g h = subst (λ z. DeclsFit types z ds × EqnsFit types z es) (sym (to_more ds s)) (decls_to (with_variables s ds) ds h.0, eqns_to es (with_variables s ds) (grows_to ds s g) h.1)

    eqns_to : (es : Eqns) (s : Scope) → More s → EqnsFit types s es → EqnsFit types (to s) es
    eqns_to no_eqn s g h = tt
    eqns_to (more_eqns e es) s g h = (eqn_to e s g h.0, eqns_to es s g h.1)

    eqn_to : (e : Eqn) (s : Scope) → More s → EqnFits types s e → EqnFits types (to s) e
    eqn_to (define a ys e) s g h = h
    eqn_to (switch a e arms) s g h = (h.0, ((h.1.0.0, (type_to s g e h.1.0.0 h.1.0.1.0, h.1.0.1.1)), arms_to arms s g h.1.1))
    eqn_to (reset a b e) s g h = (h.0, block_to b s g h.1)
    eqn_to (automaton a ss) s g h = states_to ss s g h

    arms_to : (arms : Arms) (s : Scope) → More s → ArmsFit types s arms → ArmsFit types (to s) arms
    arms_to no_arm s g h = tt
    arms_to (more_arms c b a arms) s g h = (block_to b s g h.0, arms_to arms s g h.1)

    states_to : (ss : States) (s : Scope) → More s → StatesFit types s ss → StatesFit types (to s) ss
    states_to no_state s g h = tt
    states_to (more_states f b until unless a ss) s g h = (block_to b s g h.0, (h.1.0, (h.1.1.0, states_to ss s g h.1.1.1)))

  pub node_to : (n : Node) (s : Scope) → More s → NodeFits types s n → NodeFits types (to s) n
  node_to n s g h =
      let cs = controls_of n.contract in
      let in_inputs = with_variables s n.inputs in
      let g1 = grows_to n.inputs s g in
      let g2 = grows_to n.outputs in_inputs g1 in
      let g3 = grows_to cs (inside_node s n) g2 in
      subst (λ z. BlockFits types z n.body) (sym (ap (λ z. with_variables z cs) (ap (λ z. with_variables z n.outputs) (to_more n.inputs s) ∙ to_more n.outputs in_inputs) ∙ to_more cs (inside_node s n)))
      (block_to n.body (with_variables (inside_node s n) cs) g3 h)
