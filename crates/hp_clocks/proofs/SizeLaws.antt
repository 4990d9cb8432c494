-- How many variables the parts of a node have.
use Rattle.std.proofs.Common.{◌≡◌, ℕ, ◌+◌, ◌<◌, get_or, length, drop, map, List, ap}
use Rattle.hp_tree.specs.Blocks.{eqns_of, arms_of, states_of}
use Rattle.hp_tree.specs.BlockView.{eqn_seen, arm_seen, state_seen}
use Rattle.hp_tree.specs.declared.block.Eqn as code_eqn
use Rattle.hp_tree.specs.declared.block.Arm as code_arm
use Rattle.hp_tree.specs.declared.block.State as code_state
use Rattle.hp_clocks.specs.Units.{size, size_of, size_of_all, size_of_arms, size_of_states}
use Rattle.hp_clocks.proofs.Leading.{drop_next}

pub sized_eqns : (es : List code_eqn.Eqn) (i : ℕ) (e : code_eqn.Eqn) → i < length es → e ≡ get_or es i e → size_of_all (eqns_of (map eqn_seen (drop i es))) ≡ size_of (eqn_seen e) + size_of_all (eqns_of (map eqn_seen (drop (i + 1) es)))
sized_eqns es i e h p = ap (λ more. size_of_all (eqns_of (map eqn_seen more))) (drop_next es i e h p)

pub sized_arms : (arms : List code_arm.Arm) (i : ℕ) (a : code_arm.Arm) → i < length arms → a ≡ get_or arms i a → size_of_arms (arms_of (map arm_seen (drop i arms))) ≡ size a.body + size_of_arms (arms_of (map arm_seen (drop (i + 1) arms)))
sized_arms arms i a h p = ap (λ more. size_of_arms (arms_of (map arm_seen more))) (drop_next arms i a h p)

pub sized_states : (qs : List code_state.State) (i : ℕ) (q : code_state.State) → i < length qs → q ≡ get_or qs i q → size_of_states (states_of (map state_seen (drop i qs))) ≡ size q.body + size_of_states (states_of (map state_seen (drop (i + 1) qs)))
sized_states qs i q h p = ap (λ more. size_of_states (states_of (map state_seen more))) (drop_next qs i q h p)
