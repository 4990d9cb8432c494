-- The numbering of blocks, element by element.
use Rattle.std.proofs.Common.{◌≡◌, ◌↔◌, IsSome, ℕ, zero, suc, ◌+◌, ◌-◌, ◌<◌, ◌≤◌, get_or, length, take, drop, map, true, false, List, [], ◌∷◌, ◌++◌, Option, None, Some, option_map, refl, sym, ap, ◌∙◌, arith}
use Rattle.std.specs.Option.{option_to_list}
use Rattle.std.proofs.lemmas.List.{append-nil, length-append, take-append-le}
use Rattle.std.proofs.Math.Seq.{take-length}
use Rattle.hp_tree.specs.declared.block.Eqn as code_eqn
use Rattle.hp_tree.specs.declared.block.Arm as code_arm
use Rattle.hp_tree.specs.declared.block.State as code_state
use Rattle.hp_tree.specs.BlockView.{eqn_seen, arm_seen, state_seen}
use Rattle.hp_tree.specs.Blocks.{Block, block, Eqn, Eqns, no_eqn, more_eqns, Arm, Arms, no_arm, more_arms, State, States, no_state, more_states, eqns_of, arms_of, states_of}
use Rattle.hp_tree.specs.Programs.{Contract, Node}
use Rattle.hp_expand.specs.declared.names.Layer.{Layer}
use Rattle.hp_expand.specs.Layers.{said_in}
use Rattle.hp_expand.specs.Numbering.{same_name, numbered, in_block, in_eqns, in_eqn, in_arms, in_states, in_contract, behind, new_in_block, new_in_eqns, new_in_eqn, new_in_arms, new_in_states}
use Rattle.hp_expand.specs.Numbered.{front, entered, said_inside, own_new, inner_new, numbered_arm, numbered_state, numbered_contract, new_in_contract, eqns_onto, arms_onto, states_onto}
use Rattle.hp_expand.proofs.SizeLaws.{drop-next, drop-end}
use Rattle.hp_expand.proofs.RenamingLaws.{map-one}

-- ---- all but the last

pub front-more : {A : Type 0} (xs : List A) (x : A) → front (xs ++ x ∷ []) ≡ xs
front-more xs x =
    let shorter : length (xs ++ x ∷ []) - 1 ≡ length xs = omega (arith, length-append xs (x ∷ [])) in
    ap (λ n. take n (xs ++ x ∷ [])) shorter ∙ take-append-le (length xs) xs (x ∷ []) (omega arith) ∙ take-length xs

at_most_none : (n : ℕ) → (0 < n → ⊥) → n ≤ 0
at_most_none zero h = omega arith
at_most_none (suc n) h = absurd (h (omega arith))

nothing_left : {A : Type 0} (old new : List A) → old ≡ new → length old ≤ 0 → new ≡ front old
nothing_left [] new e h = sym e
nothing_left (x ∷ xs) new e h = absurd (omega arith)

pub front-left : {A : Type 0} (old new : List A) (r : Option A) → old ≡ new ++ option_to_list r → (IsSome r ↔ (0 < length old)) → new ≡ front old
front-left old new None e some = nothing_left old new (e ∙ append-nil new) (at_most_none (length old) (λ h. let no : false ≡ true = some.1 h in absurd cc))
front-left old new (Some x) e some = sym (ap front e ∙ front-more new x)

-- ---- blocks that are entered

pub block-entered : (to : List ℕ → List ℕ) (k : ℕ) (b : Block) → in_block to k b ≡ entered (said_inside to k b) (k + own_new b) b
block-entered to k (block ds es) = refl

pub new-both : (b : Block) → new_in_block b ≡ own_new b + inner_new b
new-both (block ds es) = refl

contract_by : (c : Contract) (b : Block) → numbered_contract same_name 1 (record c { body = b }) ≡ in_contract (record c { body = b })
contract_by c (block ds es) = refl

pub contract-numbered : (c : Option Contract) → option_map (numbered_contract same_name 1) c ≡ option_map in_contract c
contract-numbered None = refl
contract-numbered (Some c) = ap Some (contract_by c c.body)

pub behind-new : (c : Option Contract) → behind c ≡ 1 + new_in_contract c
behind-new None = refl
behind-new (Some c) = omega arith

-- ---- element by element

eqns_onto-one : (xs : List Eqn) (x : Eqn) (rest : Eqns) → eqns_onto (xs ++ x ∷ []) rest ≡ eqns_onto xs (more_eqns x rest)
eqns_onto-one [] x rest = refl
eqns_onto-one (y ∷ xs) x rest = ap (more_eqns y) (eqns_onto-one xs x rest)

pub arms_onto-one : (xs : List Arm) (x : Arm) (rest : Arms) → arms_onto (xs ++ x ∷ []) rest ≡ arms_onto xs (more_arms x.cons x.body x.span rest)
arms_onto-one [] x rest = refl
arms_onto-one (y ∷ xs) x rest = ap (λ more. more_arms y.cons y.body y.span more) (arms_onto-one xs x rest)

pub states_onto-one : (xs : List State) (x : State) (rest : States) → states_onto (xs ++ x ∷ []) rest ≡ states_onto xs (more_states x.name x.body x.until x.unless x.span rest)
states_onto-one [] x rest = refl
states_onto-one (y ∷ xs) x rest = ap (λ more. more_states y.name y.body y.until y.unless y.span more) (states_onto-one xs x rest)

eqns_onto-none : (xs : List Eqn) → eqns_onto xs no_eqn ≡ eqns_of xs
eqns_onto-none [] = refl
eqns_onto-none (x ∷ xs) = ap (more_eqns x) (eqns_onto-none xs)

pub arms_onto-none : (xs : List Arm) → arms_onto xs no_arm ≡ arms_of xs
arms_onto-none [] = refl
arms_onto-none (x ∷ xs) = ap (λ more. more_arms x.cons x.body x.span more) (arms_onto-none xs)

pub states_onto-none : (xs : List State) → states_onto xs no_state ≡ states_of xs
states_onto-none [] = refl
states_onto-none (x ∷ xs) = ap (λ more. more_states x.name x.body x.until x.unless x.span more) (states_onto-none xs)

state_by : (to : List ℕ → List ℕ) (k : ℕ) (x : List ℕ) (b : Block) (q : State) (rest : States)
    → in_states to k (more_states q.name b q.until q.unless q.span rest)
    ≡ states_onto (numbered_state to k (record q { body = b }) ∷ []) (in_states to (k + new_in_block b) rest)
state_by to k x (block ds es) q rest = refl

-- numbers add up
pub numbers-on : (first next after own rest all from : ℕ) → after ≡ next + own → from ≡ own + rest → next + from ≡ first + all → after + rest ≡ first + all
numbers-on first next after own rest all from a b c = omega arith

module _ (to now : List ℕ → List ℕ) (same : now ≡ to) (k further : ℕ) where
  pub eqns-on : (made after : List code_eqn.Eqn) (other : code_eqn.Eqn) (es : List code_eqn.Eqn) (i : ℕ) (e : code_eqn.Eqn) → i < length es → e ≡ get_or es i e
      → further ≡ k + new_in_eqn (eqn_seen e) → after ≡ made ++ other ∷ [] → eqn_seen other ≡ in_eqn now k (eqn_seen e)
      → eqns_onto (map eqn_seen after) (in_eqns to further (eqns_of (map eqn_seen (drop (i + 1) es)))) ≡ eqns_onto (map eqn_seen made) (in_eqns to k (eqns_of (map eqn_seen (drop i es))))
  eqns-on made after other es i e h p next push seen =
      let rest = in_eqns to further (eqns_of (map eqn_seen (drop (i + 1) es))) in
      ap (λ xs. eqns_onto (map eqn_seen xs) rest) push
      ∙ ap (λ xs. eqns_onto xs rest) (map-one eqn_seen made other)
      ∙ eqns_onto-one (map eqn_seen made) (eqn_seen other) rest
      ∙ (λ j. eqns_onto (map eqn_seen made) (more_eqns ((seen ∙ ap (λ f. in_eqn f k (eqn_seen e)) same) j) (in_eqns to (next j) (eqns_of (map eqn_seen (drop (i + 1) es))))))
      ∙ sym (ap (λ more. eqns_onto (map eqn_seen made) (in_eqns to k (eqns_of (map eqn_seen more)))) (drop-next es i e h p))

  pub arms-on : (made after : List code_arm.Arm) (other : code_arm.Arm) (arms : List code_arm.Arm) (i : ℕ) (a : code_arm.Arm) → i < length arms → a ≡ get_or arms i a
      → further ≡ k + new_in_block a.body → after ≡ made ++ other ∷ [] → arm_seen other ≡ numbered_arm now k (arm_seen a)
      → arms_onto (map arm_seen after) (in_arms to further (arms_of (map arm_seen (drop (i + 1) arms)))) ≡ arms_onto (map arm_seen made) (in_arms to k (arms_of (map arm_seen (drop i arms))))
  arms-on made after other arms i a h p next push seen =
      let rest = in_arms to further (arms_of (map arm_seen (drop (i + 1) arms))) in
      let is : arm_seen other ≡ numbered_arm to k (arm_seen a) = seen ∙ ap (λ f. numbered_arm f k (arm_seen a)) same in
      ap (λ xs. arms_onto (map arm_seen xs) rest) push
      ∙ ap (λ xs. arms_onto xs rest) (map-one arm_seen made other)
      ∙ arms_onto-one (map arm_seen made) (arm_seen other) rest
      ∙ (λ j. arms_onto (map arm_seen made) (more_arms (is j).cons (is j).body (is j).span (in_arms to (next j) (arms_of (map arm_seen (drop (i + 1) arms))))))
      ∙ sym (ap (λ more. arms_onto (map arm_seen made) (in_arms to k (arms_of (map arm_seen more)))) (drop-next arms i a h p))

  pub states-on : (made after : List code_state.State) (other : code_state.State) (qs : List code_state.State) (i : ℕ) (q : code_state.State) → i < length qs → q ≡ get_or qs i q
      → further ≡ k + new_in_block q.body → after ≡ made ++ other ∷ [] → state_seen other ≡ numbered_state now k (state_seen q)
      → states_onto (map state_seen after) (in_states to further (states_of (map state_seen (drop (i + 1) qs)))) ≡ states_onto (map state_seen made) (in_states to k (states_of (map state_seen (drop i qs))))
  states-on made after other qs i q h p next push seen =
      let rest = in_states to further (states_of (map state_seen (drop (i + 1) qs))) in
      let is : state_seen other ≡ numbered_state to k (state_seen q) = seen ∙ ap (λ f. numbered_state f k (state_seen q)) same in
      ap (λ xs. states_onto (map state_seen xs) rest) push
      ∙ ap (λ xs. states_onto xs rest) (map-one state_seen made other)
      ∙ states_onto-one (map state_seen made) (state_seen other) rest
      ∙ (λ j. states_onto (map state_seen made) (states_onto (is j ∷ []) (in_states to (next j) (states_of (map state_seen (drop (i + 1) qs))))))
      ∙ sym (ap (λ more. states_onto (map state_seen made) more) (state_by to k q.name q.body (state_seen q) (states_of (map state_seen (drop (i + 1) qs)))))
      ∙ sym (ap (λ more. states_onto (map state_seen made) (in_states to k (states_of (map state_seen more)))) (drop-next qs i q h p))

-- ---- at the end of a list

module _ (to : List ℕ → List ℕ) (k : ℕ) where
  pub eqns-all : (made es : List code_eqn.Eqn) (i : ℕ) → length es ≤ i → eqns_onto (map eqn_seen made) (in_eqns to k (eqns_of (map eqn_seen (drop i es)))) ≡ eqns_of (map eqn_seen made)
  eqns-all made es i h = ap (λ more. eqns_onto (map eqn_seen made) (in_eqns to k (eqns_of (map eqn_seen more)))) (drop-end es i h) ∙ eqns_onto-none (map eqn_seen made)

  pub arms-all : (made arms : List code_arm.Arm) (i : ℕ) → length arms ≤ i → arms_onto (map arm_seen made) (in_arms to k (arms_of (map arm_seen (drop i arms)))) ≡ arms_of (map arm_seen made)
  arms-all made arms i h = ap (λ more. arms_onto (map arm_seen made) (in_arms to k (arms_of (map arm_seen more)))) (drop-end arms i h) ∙ arms_onto-none (map arm_seen made)

  pub states-all : (made qs : List code_state.State) (i : ℕ) → length qs ≤ i → states_onto (map state_seen made) (in_states to k (states_of (map state_seen (drop i qs)))) ≡ states_of (map state_seen made)
  states-all made qs i h = ap (λ more. states_onto (map state_seen made) (in_states to k (states_of (map state_seen more)))) (drop-end qs i h) ∙ states_onto-none (map state_seen made)

pub new-eqns-next : (es : List code_eqn.Eqn) (i : ℕ) (e : code_eqn.Eqn) → i < length es → e ≡ get_or es i e
    → new_in_eqns (eqns_of (map eqn_seen (drop i es))) ≡ new_in_eqn (eqn_seen e) + new_in_eqns (eqns_of (map eqn_seen (drop (i + 1) es)))
new-eqns-next es i e h p = ap (λ more. new_in_eqns (eqns_of (map eqn_seen more))) (drop-next es i e h p)

pub new-arms-next : (arms : List code_arm.Arm) (i : ℕ) (a : code_arm.Arm) → i < length arms → a ≡ get_or arms i a
    → new_in_arms (arms_of (map arm_seen (drop i arms))) ≡ new_in_block a.body + new_in_arms (arms_of (map arm_seen (drop (i + 1) arms)))
new-arms-next arms i a h p = ap (λ more. new_in_arms (arms_of (map arm_seen more))) (drop-next arms i a h p)

pub new-states-next : (qs : List code_state.State) (i : ℕ) (q : code_state.State) → i < length qs → q ≡ get_or qs i q
    → new_in_states (states_of (map state_seen (drop i qs))) ≡ new_in_block q.body + new_in_states (states_of (map state_seen (drop (i + 1) qs)))
new-states-next qs i q h p = ap (λ more. new_in_states (states_of (map state_seen more))) (drop-next qs i q h p)

-- ---- a node

module _ (n other : Node) (ls kept : List Layer) (k : ℕ) (none : ls ≡ []) (same : kept ≡ ls) (next : k ≡ 1 + new_in_contract n.contract) where
  pub node-numbered : other.name ≡ n.name → other.span ≡ n.span → other.inputs ≡ n.inputs → other.outputs ≡ n.outputs
      → other.contract ≡ option_map (numbered_contract (said_in ls) 1) n.contract → other.body ≡ in_block (said_in kept) k n.body → other ≡ numbered n
  node-numbered name span inputs outputs contract body =
      let observer : other.contract ≡ option_map in_contract n.contract =
      contract ∙ ap (λ l. option_map (numbered_contract (said_in l) 1) n.contract) none ∙ contract-numbered n.contract in
      let inner : other.body ≡ in_block same_name (behind n.contract) n.body =
      body ∙ ap (λ l. in_block (said_in l) k n.body) (same ∙ none) ∙ ap (λ m. in_block same_name m n.body) (next ∙ sym (behind-new n.contract)) in
      λ j. record { name = name j; span = span j; inputs = inputs j; outputs = outputs j; contract = observer j; body = inner j }
