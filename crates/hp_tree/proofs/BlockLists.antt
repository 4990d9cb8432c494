-- The lists of a block, and what the lists of the code are seen as.
use Rattle.std.proofs.Common.{◌≡◌, ℕ, zero, suc, ◌<◌, ◌≤◌, get_or, length, arith, List, [], ◌∷◌, map, refl, sym, ap, ◌∙◌}
use Rattle.hp_tree.specs.Blocks.{Eqn, Arm, State, eqns_of, list_of_eqns, arms_of, list_of_arms, states_of, list_of_states}
use Rattle.hp_tree.specs.Sizes.{lines, lines_of_eqn, lines_of_eqns, lines_of_arms, lines_of_states}
use Rattle.hp_tree.specs.declared.block.Eqn as code_eqn
use Rattle.hp_tree.specs.declared.block.Arm as code_arm
use Rattle.hp_tree.specs.declared.block.State as code_state
use Rattle.hp_tree.specs.BlockView.{eqn_seen, arm_seen, state_seen}

-- the plain list is read back
pub list_of_eqns-eqns_of : (es : List Eqn) → list_of_eqns (eqns_of es) ≡ es
list_of_eqns-eqns_of [] = refl
list_of_eqns-eqns_of (e ∷ es) = ap (λ rest. e ∷ rest) (list_of_eqns-eqns_of es)

pub eqns_of-one : (es fs : List Eqn) → eqns_of es ≡ eqns_of fs → es ≡ fs
eqns_of-one es fs p = sym (list_of_eqns-eqns_of es) ∙ ap list_of_eqns p ∙ list_of_eqns-eqns_of fs

pub list_of_arms-arms_of : (arms : List Arm) → list_of_arms (arms_of arms) ≡ arms
list_of_arms-arms_of [] = refl
list_of_arms-arms_of (a ∷ arms) = ap (λ rest. a ∷ rest) (list_of_arms-arms_of arms)

pub arms_of-one : (arms others : List Arm) → arms_of arms ≡ arms_of others → arms ≡ others
arms_of-one arms others p = sym (list_of_arms-arms_of arms) ∙ ap list_of_arms p ∙ list_of_arms-arms_of others

pub list_of_states-states_of : (qs : List State) → list_of_states (states_of qs) ≡ qs
list_of_states-states_of [] = refl
list_of_states-states_of (q ∷ qs) = ap (λ rest. q ∷ rest) (list_of_states-states_of qs)

pub states_of-one : (qs others : List State) → states_of qs ≡ states_of others → qs ≡ others
states_of-one qs others p = sym (list_of_states-states_of qs) ∙ ap list_of_states p ∙ list_of_states-states_of others

-- no element has more lines than all together
pub lines-at_eqn : (es : List code_eqn.Eqn) (i : ℕ) (d : code_eqn.Eqn) → i < length es → lines_of_eqn (eqn_seen (get_or es i d)) ≤ lines_of_eqns (eqns_of (map eqn_seen es))
lines-at_eqn [] i d h = absurd (omega arith)
lines-at_eqn (e ∷ es) zero d h = omega arith
lines-at_eqn (e ∷ es) (suc i) d h = omega (arith, lines-at_eqn es i d (omega arith))

pub lines-at_arm : (arms : List code_arm.Arm) (i : ℕ) (d : code_arm.Arm) → i < length arms → lines (get_or arms i d).body ≤ lines_of_arms (arms_of (map arm_seen arms))
lines-at_arm [] i d h = absurd (omega arith)
lines-at_arm (a ∷ arms) zero d h = omega arith
lines-at_arm (a ∷ arms) (suc i) d h = omega (arith, lines-at_arm arms i d (omega arith))

pub lines-at_state : (qs : List code_state.State) (i : ℕ) (d : code_state.State) → i < length qs → lines (get_or qs i d).body ≤ lines_of_states (states_of (map state_seen qs))
lines-at_state [] i d h = absurd (omega arith)
lines-at_state (q ∷ qs) zero d h = omega arith
lines-at_state (q ∷ qs) (suc i) d h = omega (arith, lines-at_state qs i d (omega arith))
