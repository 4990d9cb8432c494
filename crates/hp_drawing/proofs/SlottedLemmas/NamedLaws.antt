-- Where names are well used, those of each list of declarations are apart.
use Rattle.std.proofs.Common.{◌≡◌, ℕ, zero, suc, ◌<◌, Bool, true, false, if◌then◌else◌, List, [], ◌∷◌, ◌++◌, Option, None, Some, Contains, refl, sym, subst, arith}
use Rattle.std.proofs.lemmas.List.Elements.{Contains-append_left, Contains-append_right}
use Rattle.hp_tree.specs.declared.program.Item.{Item}
use Rattle.hp_tree.specs.declared.program.Item.TheVariants.{TypeItem, NodeItem}
use Rattle.hp_tree.specs.Blocks.{Decl, Block, block, Eqns, no_eqn, more_eqns, Eqn, define, switch, reset, automaton, Arms, no_arm, more_arms, States, no_state, more_states}
use Rattle.hp_tree.specs.Programs.{Contract, Node}
use Rattle.hp_names.specs.Names.{has, with_name, declared_names}
use Rattle.hp_tree.specs.Meaning.{controls_of}
use Rattle.hp_names.specs.Scopes.{nothing, with_variables, inside_node, behind}
use Rattle.hp_names.specs.Rules.{AreNew, BlockIsNamed, EqnsAreNamed, EqnIsNamed, ArmsAreNamed, StatesAreNamed, ContractIsNamed, NodeIsNamed, ItemsAreNamed, WellNamed}
use Rattle.hp_names.proofs.RuleLaws.{Contains-has}
use Rattle.hp_drawing.proofs.SlottedLemmas.Declaring.{BlockDeclares, EqnsDeclare, EqnDeclares, ArmsDeclare, StatesDeclare, ContractDeclares, NodeDeclares, NodesDeclare, Lacks, DeclaresApart}

-- what is known at a place
abbrev TypeOf : {A : Type 0} → A → Type 0
TypeOf {A} a = A

abbrev Scope : Type 0
Scope = TypeOf nothing

-- ---- names that are known, and one more

kept_name : (names : List (List ℕ)) (y x : List ℕ) → Contains names x → Contains (with_name names y) x
kept_name names y x h = by (has names y)
  where
    by : (known : Bool) → Contains (if known then names else names ++ y ∷ []) x
    by true = h
    by false = Contains-append_left names (y ∷ []) x h

the_one : (y : List ℕ) → Contains (y ∷ []) y
the_one y = let h : 0 < 1 = omega arith in (0, h, refl)

new_name : (names : List (List ℕ)) (y : List ℕ) → Contains (with_name names y) y
new_name names y = by (has names y) (Contains-has names y)
  where
    by : (known : Bool) → (known ≡ true → Contains names y) → Contains (if known then names else names ++ y ∷ []) y
    by true h = h refl
    by false h = Contains-append_right names (y ∷ []) y (the_one y)

apart_from : (ds : List Decl) (names : List (List ℕ)) (x : List ℕ) → Contains names x → AreNew names (declared_names ds) → Lacks x ds
apart_from [] names x h n = tt
apart_from (d ∷ ds) names x h n =
    ((λ e. n.0 (subst (λ (y : List ℕ). Contains names y) (sym e) h)), apart_from ds (with_name names d.name) x (kept_name names d.name x h) n.1)

apart : (ds : List Decl) (names : List (List ℕ)) → AreNew names (declared_names ds) → DeclaresApart ds
apart [] names n = tt
apart (d ∷ ds) names n = (apart_from ds (with_name names d.name) d.name (new_name names d.name) n.1, apart ds (with_name names d.name) n.1)

-- ---- blocks

mutual
  block_apart : (b : Block) (s : Scope) → BlockIsNamed s b → BlockDeclares DeclaresApart b
  block_apart (block ds es) s h = (apart ds s.variables h.0.0, eqns_apart es (with_variables s ds) h.1)

  eqns_apart : (es : Eqns) (s : Scope) → EqnsAreNamed s es → EqnsDeclare DeclaresApart es
  eqns_apart no_eqn s h = tt
  eqns_apart (more_eqns e es) s h = (eqn_apart e s h.0, eqns_apart es s h.1)

  eqn_apart : (e : Eqn) (s : Scope) → EqnIsNamed s e → EqnDeclares DeclaresApart e
  eqn_apart (define at ys e) s h = tt
  eqn_apart (switch at e arms) s h = arms_apart arms s h.1
  eqn_apart (reset at b e) s h = block_apart b s h.0
  eqn_apart (automaton at ss) s h = states_apart ss s _ h.1

  arms_apart : (arms : Arms) (s : Scope) → ArmsAreNamed s arms → ArmsDeclare DeclaresApart arms
  arms_apart no_arm s h = tt
  arms_apart (more_arms c b at arms) s h = (block_apart b s h.1.0, arms_apart arms s h.1.1)

  states_apart : (ss : States) (s : Scope) (names : List (List ℕ)) → StatesAreNamed s names ss → StatesDeclare DeclaresApart ss
  states_apart no_state s names h = tt
  states_apart (more_states f b until unless at ss) s names h = (block_apart b s h.0, states_apart ss s names h.1.1.1)

contract_apart : (o : Option Contract) (s : Scope) → ContractIsNamed s o → ContractDeclares DeclaresApart o
contract_apart None s h = tt
contract_apart (Some c) s h = block_apart c.body s h.0

-- ---- nodes

node_apart : (n : Node) (s : Scope) → NodeIsNamed s n → NodeDeclares DeclaresApart n
node_apart n s h =
    (apart n.outputs (with_variables s n.inputs).variables h.1.0, (contract_apart n.contract (inside_node s n) h.1.1.1.1.0, block_apart n.body (with_variables (inside_node s n) (controls_of n.contract)) h.1.1.1.1.1.1))

items_apart : (items : List Item) (s : Scope) → ItemsAreNamed s items → NodesDeclare DeclaresApart items
items_apart [] s h = tt
items_apart (TypeItem t ∷ items) s h = items_apart items (behind s (TypeItem t)) h.1
items_apart (NodeItem n ∷ items) s h = (node_apart n s h.0.1, items_apart items (behind s (NodeItem n)) h.1)

pub all_apart : (program : List Item) → WellNamed program → NodesDeclare DeclaresApart program
all_apart program h = items_apart program nothing h

-- so in a node of the program
pub one_apart : (items : List Item) (n : Node) → Contains items (NodeItem n) → NodesDeclare DeclaresApart items → NodeDeclares DeclaresApart n
one_apart [] n (k, h, e) d = absurd (omega (arith, h))
one_apart (TypeItem t ∷ items) n (zero, h, e) d = absurd (cc)
one_apart (NodeItem m ∷ items) n (zero, h, e) d = subst (NodeDeclares DeclaresApart) (let q : m ≡ n = cc in q) d.0
one_apart (TypeItem t ∷ items) n (suc k, h, e) d = one_apart items n (k, omega (arith, h), e) d
one_apart (NodeItem m ∷ items) n (suc k, h, e) d = one_apart items n (k, omega (arith, h), e) d.1
