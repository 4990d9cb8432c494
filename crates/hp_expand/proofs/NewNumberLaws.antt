-- New variables are places.
use Rattle.std.specs.Prelude.{decimal}
use Rattle.std.proofs.lemmas.List.{take_all}
use Rattle.std.proofs.Common.{◌≡◌, ◌≤◌, ℕ, ◌+◌, Bool, true, false, if◌then◌else◌, min, take, length, List, [], ◌∷◌, ◌++◌, Option, None, Some, refl, ap, arith}
use Rattle.hp_tree.specs.Blocks.{Decl, Block, block, Eqns, no_eqn, more_eqns, Eqn, define, switch, reset, automaton, Arms, no_arm, more_arms, States, no_state, more_states}
use Rattle.hp_tree.specs.Programs.{Contract, Node}
use Rattle.hp_expand.specs.NewNames.{is_new, dollar}
use Rattle.hp_expand.specs.Numbering.{new_in_decls, new_in_block, new_in_eqns, new_in_eqn, new_in_arms, new_in_states}
use Rattle.hp_expand.specs.Numbered.{new_in_contract}
use Rattle.hp_expand.specs.Replacing as new
use Rattle.hp_expand.specs.Sizes.{Size, places, join, deeper, in_expr, in_transitions, in_condition, in_block, in_eqns, in_eqn, in_arms, in_states, in_contract, in_node}
use Rattle.hp_expand.specs.NewNumbers.{new_in_node, NumbersWithinPlaces, NamesAreWhole}
use Rattle.hp_expand.proofs.ReplacedSizes.{node-replaced}

pub joined : (a b : Size) → (join a b).places ≡ a.places + b.places
unfolding join
joined a b = refl

pub counted : (n : ℕ) → (places n).places ≡ n
unfolding places
counted n = refl

pub inner : (s : Size) → (deeper s).places ≡ s.places
unfolding deeper
inner s = refl

at_most : (n : ℕ) (b : Bool) → (if b then n else 0) ≤ n
at_most n true = omega arith
at_most n false = omega arith

new_decls : (ds : List Decl) → new_in_decls ds ≤ length ds
new_decls [] = omega arith
new_decls (d ∷ ds) = omega (arith, at_most 1 (is_new d.name), new_decls ds)

module _ (known : List ℕ → Size) where
  mutual
    block_places : (b : Block) → new_in_block b ≤ (in_block known b).places
    block_places (block ds es) = omega (arith, joined (places (length ds)) (in_eqns known es), counted (length ds), new_decls ds, eqns_places es)

    eqns_places : (es : Eqns) → new_in_eqns es ≤ (in_eqns known es).places
    eqns_places no_eqn = omega arith
    eqns_places (more_eqns e es) = omega (arith, joined (in_eqn known e) (in_eqns known es), eqn_places e, eqns_places es)

    eqn_places : (e : Eqn) → new_in_eqn e ≤ (in_eqn known e).places
    eqn_places (define s xs e) = omega arith
    eqn_places (switch s e arms) = omega (arith, joined (in_expr known e) (in_arms known arms), arms_places arms)
    eqn_places (reset s b e) = omega (arith, joined (deeper (in_block known b)) (in_expr known e), inner (in_block known b), block_places b)
    eqn_places (automaton s qs) = omega (arith, joined (places 4) (in_states known qs), states_places qs)

    arms_places : (arms : Arms) → new_in_arms arms ≤ (in_arms known arms).places
    arms_places no_arm = omega arith
    arms_places (more_arms c b at arms) = omega (arith, joined (deeper (in_block known b)) (in_arms known arms), inner (in_block known b), block_places b, arms_places arms)

    states_places : (qs : States) → new_in_states qs ≤ (in_states known qs).places
    states_places no_state = omega arith
    states_places (more_states x b until unless at qs) =
        let t = join (in_transitions known until) (in_transitions known unless) in
        omega (arith, joined (join (deeper (in_block known b)) t) (in_states known qs), joined (deeper (in_block known b)) t, inner (in_block known b), block_places b, states_places qs)

  contract_places : (c : Option Contract) → new_in_contract c ≤ (in_contract known c).places
  contract_places None = omega arith
  contract_places (Some c) =
      let conditions = join (in_condition known c.assume) (in_condition known c.enforce) in
      omega (arith, joined (places (length c.controls)) (join (in_block known c.body) conditions), joined (in_block known c.body) conditions, block_places c.body)

  node_places : (n : Node) → new_in_node n ≤ (in_node known n).places
  node_places n =
      let ends = join (places (length n.inputs)) (places (length n.outputs)) in
      omega (arith, joined ends (join (in_contract known n.contract) (in_block known n.body)), joined (in_contract known n.contract) (in_block known n.body), contract_places n.contract, block_places n.body)

pub numbers_law : NumbersWithinPlaces
numbers_law known nodes n h =
    let same : (in_node known (new.in_node nodes n)).places ≡ (in_node known n).places = ap (λ (s : Size). s.places) (node-replaced known nodes n h) in
    omega (arith, node_places known (new.in_node nodes n), same)

pub names_law : NamesAreWhole
names_law room x k short small =
    let whole : take room x ≡ x = take_all room x short in
    let same : min 999999 k ≡ k = omega arith in
    λ j. whole j ++ (dollar ∷ decimal (same j))
