-- Names that equations define, as a drawing says them, and states of an automaton.
use Rattle.std.proofs.Common.{◌≡◌, ℕ, suc, Bool, true, false, ◌||◌, if◌then◌else◌, ◌++◌, length, map, List, [], ◌∷◌, refl, ap, ◌∙◌}
use Rattle.std.specs.Str.{bytes_eq}
use Rattle.hp_base.specs.declared.span.Span.{Span}
use Rattle.hp_tree.specs.declared.block.State.{State}
use Rattle.hp_tree.specs.Blocks.{Decl, Block, block, Eqns, no_eqn, more_eqns, Eqn, define, switch, reset, automaton, Arms, no_arm, more_arms, States, no_state, more_states, states_of}
use Rattle.hp_tree.specs.BlockView.{state_seen}
use Rattle.hp_tree.specs.Meaning.{declares}
use Rattle.hp_tables.specs.Defining.Names as defining
use Rattle.hp_drawing.specs.Planned.{count_states}
use Rattle.hp_drawing.specs.Scopes.{is_declared, left_names, names_of_arms, names_of_eqn, names_of_eqns, names_of_states, outer_names, unknown_names}

pub states-counted : (qs : List State) → length qs ≡ count_states (states_of (map state_seen qs))
states-counted [] = refl
states-counted (q ∷ qs) = ap suc (states-counted qs)

left-same : (ys : List (List ℕ × Span)) → map (λ (y : List ℕ × Span). y.0) ys ≡ left_names ys
left-same [] = refl
left-same (y ∷ ys) = ap (λ more. y.0 ∷ more) (left-same ys)

declared-same : (ds : List Decl) (x : List ℕ) → declares ds x ≡ is_declared ds x
declared-same [] x = refl
declared-same (d ∷ ds) x = ap (λ more. bytes_eq d.name x || more) (declared-same ds x)

unknown-by : (known : Bool) (x : List ℕ) (more other : List (List ℕ)) → more ≡ other → (if known then more else x ∷ more) ≡ (if known then [] else x ∷ []) ++ other
unknown-by true x more other h = h
unknown-by false x more other h = ap (λ xs. x ∷ xs) h

unknown-same : (ds : List Decl) (xs : List (List ℕ)) → defining.undeclared ds xs ≡ unknown_names (is_declared ds) xs
unknown-same ds [] = refl
unknown-same ds (x ∷ xs) =
    ap (λ known. if known then defining.undeclared ds xs else x ∷ defining.undeclared ds xs) (declared-same ds x)
    ∙ unknown-by (is_declared ds x) x (defining.undeclared ds xs) (unknown_names (is_declared ds) xs) (unknown-same ds xs)

-- the names that a drawing says are those that equations define
mutual
  pub names-same : (es : Eqns) → defining.names_in es ≡ names_of_eqns es
  names-same no_eqn = refl
  names-same (more_eqns e es) = ap (λ more. more ++ defining.names_in es) (name-same e) ∙ ap (λ more. names_of_eqn e ++ more) (names-same es)

  pub name-same : (e : Eqn) → defining.names_of e ≡ names_of_eqn e
  name-same (define at ys e) = left-same ys
  name-same (switch at e arms) = arms-same arms
  name-same (reset at b e) = outer-same b
  name-same (automaton at ss) = states-same ss

  arms-same : (arms : Arms) → defining.names_of_arms arms ≡ names_of_arms arms
  arms-same no_arm = refl
  arms-same (more_arms c b at arms) = ap (λ more. more ++ defining.names_of_arms arms) (outer-same b) ∙ ap (λ more. outer_names b ++ more) (arms-same arms)

  states-same : (ss : States) → defining.names_of_states ss ≡ names_of_states ss
  states-same no_state = refl
  states-same (more_states f b until unless at ss) = ap (λ more. more ++ defining.names_of_states ss) (outer-same b) ∙ ap (λ more. outer_names b ++ more) (states-same ss)

  outer-same : (b : Block) → defining.outer_names b ≡ outer_names b
  outer-same (block ds es) = ap (defining.undeclared ds) (names-same es) ∙ unknown-same ds (names_of_eqns es)
