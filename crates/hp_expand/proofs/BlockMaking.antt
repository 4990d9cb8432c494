-- What is made of blocks, element by element.
use Rattle.std.proofs.Common.{◌≡◌, ℕ, ◌+◌, ◌<◌, ◌≤◌, get_or, length, drop, map, List, [], ◌∷◌, ◌++◌, refl, sym, ap, ◌∙◌}
use Rattle.std.proofs.lemmas.List.{append_assoc}
use Rattle.hp_tree.specs.declared.block.Eqn as code_eqn
use Rattle.hp_tree.specs.declared.block.Arm as code_arm
use Rattle.hp_tree.specs.declared.block.State as code_state
use Rattle.hp_tree.specs.BlockView.{eqn_seen, arm_seen, state_seen}
use Rattle.hp_tree.specs.Blocks.{Decl, block, Eqn, Eqns, no_eqn, more_eqns, more_arms, more_states, eqns_of, list_of_eqns, arms_of, states_of}
use Rattle.hp_tree.specs.Programs.{Node}
use Rattle.hp_expand.specs.Replacing.{Replaced, placed, in_block, in_eqns, in_eqn, in_arms, in_states}
use Rattle.hp_expand.specs.Numbered.{arms_onto, states_onto}
use Rattle.hp_expand.specs.Making.{with_more, replaced_arm, replaced_state}
use Rattle.hp_expand.proofs.SizeLaws.{drop-next, drop-end}
use Rattle.hp_expand.proofs.RenamingLaws.{map-one}
use Rattle.hp_expand.proofs.NumberingLaws.{arms_onto-one, states_onto-one, arms_onto-none, states_onto-none}

list_back : (es : List Eqn) → list_of_eqns (eqns_of es) ≡ es
list_back [] = refl
list_back (e ∷ es) = ap (λ rest. e ∷ rest) (list_back es)

eqns_back : (es : Eqns) → eqns_of (list_of_eqns es) ≡ es
eqns_back no_eqn = refl
eqns_back (more_eqns e es) = ap (more_eqns e) (eqns_back es)

pub contract-made : (ds more made : List Decl) (eqns es : List Eqn) → made ≡ with_more ds more → eqns ≡ with_more [] es → block made (eqns_of eqns) ≡ block (ds ++ more) (eqns_of es)
unfolding with_more
contract-made ds more made eqns es h g = λ j. block (h j) (eqns_of (g j))

module _ (nodes : List ℕ → Node) where
  pub eqns-from : (k : ℕ) (es : List code_eqn.Eqn) (i : ℕ) (e : code_eqn.Eqn) → i < length es → e ≡ get_or es i e
      → in_eqns nodes k (eqns_of (map eqn_seen (drop i es)))
      ≡ placed nodes (in_eqn nodes k (eqn_seen e)) (in_eqns nodes (in_eqn nodes k (eqn_seen e)).next (eqns_of (map eqn_seen (drop (i + 1) es))))
  eqns-from k es i e h p = ap (λ more. in_eqns nodes k (eqns_of (map eqn_seen more))) (drop-next es i e h p)

  -- the equations of those that are placed
  pub placed-list : (a : Replaced (List Eqn)) (b : Replaced Eqns) → list_of_eqns (placed nodes a b).part ≡ (a.before ++ a.part) ++ list_of_eqns b.part
  placed-list a b = list_back (a.before ++ (a.part ++ list_of_eqns b.part)) ∙ sym (append_assoc a.before a.part (list_of_eqns b.part))

  pub eqns-finished : (k : ℕ) (es : List code_eqn.Eqn) (i : ℕ) → length es ≤ i → list_of_eqns (in_eqns nodes k (eqns_of (map eqn_seen (drop i es)))).part ≡ []
  eqns-finished k es i h = ap (λ more. list_of_eqns (in_eqns nodes k (eqns_of (map eqn_seen more))).part) (drop-end es i h)

  pub block-made : (k : ℕ) (ds made : List Decl) (es : Eqns) (eqns : List Eqn) → made ≡ with_more ds (in_eqns nodes k es).locals → eqns ≡ with_more [] (list_of_eqns (in_eqns nodes k es).part)
      → block made (eqns_of eqns) ≡ (in_block nodes k (block ds es)).part
  unfolding with_more
  block-made k ds made es eqns h g = λ j. block (h j) ((ap eqns_of g ∙ eqns_back (in_eqns nodes k es).part) j)

  pub arms-replaced : (made : List code_arm.Arm) (k : ℕ) (arms : List code_arm.Arm) (i : ℕ) → length arms ≤ i → arms_onto (map arm_seen made) (in_arms nodes k (arms_of (map arm_seen (drop i arms)))).part ≡ arms_of (map arm_seen made)
  arms-replaced made k arms i h = ap (λ more. arms_onto (map arm_seen made) (in_arms nodes k (arms_of (map arm_seen more))).part) (drop-end arms i h) ∙ arms_onto-none (map arm_seen made)

  pub states-replaced : (made : List code_state.State) (k : ℕ) (qs : List code_state.State) (i : ℕ) → length qs ≤ i → states_onto (map state_seen made) (in_states nodes k (states_of (map state_seen (drop i qs)))).part ≡ states_of (map state_seen made)
  states-replaced made k qs i h = ap (λ more. states_onto (map state_seen made) (in_states nodes k (states_of (map state_seen more))).part) (drop-end qs i h) ∙ states_onto-none (map state_seen made)

  module _ (k further : ℕ) where
    pub arms-next : (made after : List code_arm.Arm) (other : code_arm.Arm) (arms : List code_arm.Arm) (i : ℕ) (a : code_arm.Arm) → i < length arms → a ≡ get_or arms i a
        → further ≡ (in_block nodes k a.body).next → after ≡ made ++ other ∷ [] → arm_seen other ≡ replaced_arm nodes k (arm_seen a)
        → arms_onto (map arm_seen after) (in_arms nodes further (arms_of (map arm_seen (drop (i + 1) arms)))).part ≡ arms_onto (map arm_seen made) (in_arms nodes k (arms_of (map arm_seen (drop i arms)))).part
    arms-next made after other arms i a h p next push is =
        let rest = (in_arms nodes further (arms_of (map arm_seen (drop (i + 1) arms)))).part in
        ap (λ xs. arms_onto (map arm_seen xs) rest) push
        ∙ ap (λ xs. arms_onto xs rest) (map-one arm_seen made other)
        ∙ arms_onto-one (map arm_seen made) (arm_seen other) rest
        ∙ (λ j. arms_onto (map arm_seen made) (more_arms (is j).cons (is j).body (is j).span (in_arms nodes (next j) (arms_of (map arm_seen (drop (i + 1) arms)))).part))
        ∙ sym (ap (λ more. arms_onto (map arm_seen made) (in_arms nodes k (arms_of (map arm_seen more))).part) (drop-next arms i a h p))

    pub arms-further : (arms : List code_arm.Arm) (i : ℕ) (a : code_arm.Arm) → i < length arms → a ≡ get_or arms i a → further ≡ (in_block nodes k a.body).next
        → (in_arms nodes further (arms_of (map arm_seen (drop (i + 1) arms)))).next ≡ (in_arms nodes k (arms_of (map arm_seen (drop i arms)))).next
    arms-further arms i a h p next =
        ap (λ n. (in_arms nodes n (arms_of (map arm_seen (drop (i + 1) arms)))).next) next ∙ sym (ap (λ more. (in_arms nodes k (arms_of (map arm_seen more))).next) (drop-next arms i a h p))

    pub states-next : (made after : List code_state.State) (other : code_state.State) (qs : List code_state.State) (i : ℕ) (q : code_state.State) → i < length qs → q ≡ get_or qs i q
        → further ≡ (in_block nodes k q.body).next → after ≡ made ++ other ∷ [] → state_seen other ≡ replaced_state nodes k (state_seen q)
        → states_onto (map state_seen after) (in_states nodes further (states_of (map state_seen (drop (i + 1) qs)))).part ≡ states_onto (map state_seen made) (in_states nodes k (states_of (map state_seen (drop i qs)))).part
    states-next made after other qs i q h p next push is =
        let rest = (in_states nodes further (states_of (map state_seen (drop (i + 1) qs)))).part in
        ap (λ xs. states_onto (map state_seen xs) rest) push
        ∙ ap (λ xs. states_onto xs rest) (map-one state_seen made other)
        ∙ states_onto-one (map state_seen made) (state_seen other) rest
        ∙ (λ j. states_onto (map state_seen made) (more_states (is j).name (is j).body (is j).until (is j).unless (is j).span (in_states nodes (next j) (states_of (map state_seen (drop (i + 1) qs)))).part))
        ∙ sym (ap (λ more. states_onto (map state_seen made) (in_states nodes k (states_of (map state_seen more))).part) (drop-next qs i q h p))

    pub states-further : (qs : List code_state.State) (i : ℕ) (q : code_state.State) → i < length qs → q ≡ get_or qs i q → further ≡ (in_block nodes k q.body).next
        → (in_states nodes further (states_of (map state_seen (drop (i + 1) qs)))).next ≡ (in_states nodes k (states_of (map state_seen (drop i qs)))).next
    states-further qs i q h p next =
        ap (λ n. (in_states nodes n (states_of (map state_seen (drop (i + 1) qs)))).next) next ∙ sym (ap (λ more. (in_states nodes k (states_of (map state_seen more))).next) (drop-next qs i q h p))
