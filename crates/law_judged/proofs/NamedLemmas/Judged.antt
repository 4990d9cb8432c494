-- The names of judged nodes are in their scopes.
use Rattle.std.proofs.Common.{ℕ, ◌<◌, ◌⊎◌, inl, inr, ⊎_elim, false, List, [], ◌∷◌, Contains, sym, subst, arith}
use Rattle.std.specs.Prelude.{IsTrue, Option, None, Some}
use Rattle.std.specs.Str.{bytes_eq}
use Rattle.hp_base.specs.declared.span.Span.{Span}
use Rattle.hp_tree.specs.declared.program.Item.{Item}
use Rattle.hp_tree.specs.declared.program.Item.TheVariants.{TypeItem, NodeItem}
use Rattle.hp_tree.specs.Blocks.{Decl, Block, block, Eqns, no_eqn, more_eqns, Eqn, define, switch, reset, automaton, Arms, no_arm, more_arms, States, no_state, more_states}
use Rattle.hp_tree.specs.Programs.{Contract, Node}
use Rattle.hp_tree.specs.Meaning.{declares, is_among, defines, some_defines, arms_define, states_define, block_defines, controls_of}
use Rattle.hp_names.specs.Names.{Placed, with_names, state_names}
use Rattle.hp_names.specs.Scopes as names
use Rattle.hp_names.specs.Rules.{LeftIsNamed, BlockIsNamed, EqnsAreNamed, EqnIsNamed, ArmsAreNamed, StatesAreNamed, ContractIsNamed, NodeIsNamed, ItemsAreNamed}
use Rattle.hp_typing.specs.Scopes as types
use Rattle.hp_typing.specs.Definitions.{IsOn, Defines, SomeDefines, BlockDefines, SomeArmDefines, SomeStateDefines}
use Rattle.hp_typing.specs.Definedness.{equations}
use Rattle.hp_typing.specs.DefinitionRules.{VariablesAreDefined, HaveNoEquation, BlockIsDefined, EqnsAreDefined, EqnIsDefined, ArmsAreDefined, StatesAreDefined, ContractIsDefined, NodeIsDefined, ItemsAreDefined}
use Rattle.law_judged.specs.Named.Scoped.{Names, no_names, also, BlockScoped, EqnsScoped, EqnScoped, ArmsScoped, StatesScoped, ContractScoped, equations_of, interface, NodeScoped, EachNode}
use Rattle.law_judged.specs.Named.Scopes.{Scope, NameScope}
use Rattle.law_judged.specs.Named.Laws.{ScopedLaw}
use Rattle.law_judged.proofs.NamedLemmas.Sets.{or_cases, or_left, or_right, both_true, same_name, name_same, Sees, sees_more, new_once, new_fresh, once_append}

-- ---- a name that equations define, by the rules and in the meaning

on_left : (ys : List (List ℕ × Span)) (x : List ℕ) → IsOn ys x → IsTrue (is_among ys x)
on_left [] x h = absurd h
on_left (y ∷ ys) x (inl e) = or_left (bytes_eq y.0 x) (is_among ys x) (name_same y.0 x (sym e))
on_left (y ∷ ys) x (inr h) = or_right (bytes_eq y.0 x) (is_among ys x) (on_left ys x h)

left_on : (ys : List (List ℕ × Span)) (x : List ℕ) → IsTrue (is_among ys x) → IsOn ys x
left_on [] x h = absurd (cc h)
left_on (y ∷ ys) x h = ⊎_elim (λ e. inl (sym (same_name y.0 x e))) (λ k. inr (left_on ys x k)) (or_cases (bytes_eq y.0 x) (is_among ys x) h)

-- Where the names of equations are in their scopes, no block inside hides a name that is seen.
module _ (x : List ℕ) where
  mutual
    block_seen : (seen own : Names) (b : Block) → BlockScoped seen own b → IsTrue (seen x) → BlockDefines b x → IsTrue (block_defines b x)
    block_seen seen own (block ds es) s h d =
        both_true (some_defines es x) (declares ds x) (eqns_seen (also seen ds) (also own ds) es s.3 (or_right (declares ds x) (seen x) h) d) (λ k. s.1 x k h)

    pub eqns_seen : (seen own : Names) (es : Eqns) → EqnsScoped seen own es → IsTrue (seen x) → SomeDefines es x → IsTrue (some_defines es x)
    eqns_seen seen own no_eqn s h d = absurd d
    eqns_seen seen own (more_eqns e es) s h (inl d) = or_left (defines e x) (some_defines es x) (eqn_seen seen own e s.0 h d)
    eqns_seen seen own (more_eqns e es) s h (inr d) = or_right (defines e x) (some_defines es x) (eqns_seen seen own es s.1 h d)

    eqn_seen : (seen own : Names) (e : Eqn) → EqnScoped seen own e → IsTrue (seen x) → Defines e x → IsTrue (defines e x)
    eqn_seen seen own (define at ys e) s h d = on_left ys x d
    eqn_seen seen own (switch at e arms) s h d = arms_seen seen own arms s h d
    eqn_seen seen own (reset at b e) s h d = block_seen seen own b s h d
    eqn_seen seen own (automaton at ss) s h d = states_seen seen own ss s h d

    arms_seen : (seen own : Names) (arms : Arms) → ArmsScoped seen own arms → IsTrue (seen x) → SomeArmDefines arms x → IsTrue (arms_define arms x)
    arms_seen seen own no_arm s h d = absurd d
    arms_seen seen own (more_arms c b at arms) s h (inl d) = or_left (block_defines b x) (arms_define arms x) (block_seen seen own b s.0 h d)
    arms_seen seen own (more_arms c b at arms) s h (inr d) = or_right (block_defines b x) (arms_define arms x) (arms_seen seen own arms s.1 h d)

    states_seen : (seen own : Names) (ss : States) → StatesScoped seen own ss → IsTrue (seen x) → SomeStateDefines ss x → IsTrue (states_define ss x)
    states_seen seen own no_state s h d = absurd d
    states_seen seen own (more_states f b until unless at ss) s h (inl d) = or_left (block_defines b x) (states_define ss x) (block_seen seen own b s.0 h d)
    states_seen seen own (more_states f b until unless at ss) s h (inr d) = or_right (block_defines b x) (states_define ss x) (states_seen seen own ss s.1 h d)

some_defined : (es : Eqns) (ds : List Decl) → VariablesAreDefined es ds → (x : List ℕ) → IsTrue (declares ds x) → SomeDefines es x
some_defined es [] v x h = absurd (cc h)
some_defined es (d ∷ ds) v x h =
    ⊎_elim (λ e. subst (λ z. SomeDefines es z) (same_name d.name x e) v.0.0) (λ k. some_defined es ds v.1 x k) (or_cases (bytes_eq d.name x) (declares ds x) h)

no_equation : (es : Eqns) (ds : List Decl) → HaveNoEquation es ds → (x : List ℕ) → IsTrue (declares ds x) → SomeDefines es x → ⊥
no_equation es [] v x h d = absurd (cc h)
no_equation es (k ∷ ds) v x h d =
    ⊎_elim (λ e. v.0 (subst (λ z. SomeDefines es z) (sym (same_name k.name x e)) d)) (λ l. no_equation es ds v.1 x l d) (or_cases (bytes_eq k.name x) (declares ds x) h)

-- ---- blocks

-- What is seen and defined is to be defined here.
abbrev Owns : Names → Names → (List ℕ → Type 0) → Type 0
Owns seen own D = (x : List ℕ) → IsTrue (seen x) → D x → IsTrue (own x)

owns_more : (seen own : Names) (ds : List Decl) (D : List ℕ → Type 0) → Owns seen own D → Owns (also seen ds) (also own ds) D
owns_more seen own ds D o x h d = by (or_cases (declares ds x) (seen x) h)
  where
    by : IsTrue (declares ds x) ⊎ IsTrue (seen x) → IsTrue (also own ds x)
    by (inl k) = or_left (declares ds x) (own x) k
    by (inr k) = or_right (declares ds x) (own x) (o x k d)

left_known : (s : NameScope) (ys : List Placed) → LeftIsNamed s ys → (x : List ℕ) → IsTrue (is_among ys x) → Contains s.variables x
left_known s [] n x h = absurd (cc h)
left_known s (y ∷ ys) n x h =
    ⊎_elim (λ e. subst (λ z. Contains s.variables z) (same_name y.0 x e) n.0) (λ k. left_known s ys n.1 x k) (or_cases (bytes_eq y.0 x) (is_among ys x) h)

mutual
  pub block_scoped : (s : NameScope) (t : Scope) (seen own : Names) (b : Block) → Sees s seen → Owns seen own (BlockDefines b) → BlockIsNamed s b → BlockIsDefined t b → BlockScoped seen own b
  block_scoped s t seen own (block ds es) k o n d =
      let inner = eqns_scoped (names.with_variables s ds) (types.with_variables t ds) (also seen ds) (also own ds) es (sees_more s seen ds k) (owns_more seen own ds (SomeDefines es) o) n.1 d.0 in (
        new_once s.variables ds n.0.0,
        new_fresh s seen ds k n.0.0,
        (λ x h. eqns_seen x (also seen ds) (also own ds) es inner (or_left (declares ds x) (seen x) h) (some_defined es ds d.1 x h)),
        inner,
      )

  eqns_scoped : (s : NameScope) (t : Scope) (seen own : Names) (es : Eqns) → Sees s seen → Owns seen own (SomeDefines es) → EqnsAreNamed s es → EqnsAreDefined t es → EqnsScoped seen own es
  eqns_scoped s t seen own no_eqn k o n d = tt
  eqns_scoped s t seen own (more_eqns e es) k o n d =
      (eqn_scoped s t seen own e k (λ x h l. o x h (inl l)) n.0 d.0, eqns_scoped s t seen own es k (λ x h l. o x h (inr l)) n.1 d.1)

  eqn_scoped : (s : NameScope) (t : Scope) (seen own : Names) (e : Eqn) → Sees s seen → Owns seen own (Defines e) → EqnIsNamed s e → EqnIsDefined t e → EqnScoped seen own e
  eqn_scoped s t seen own (define at ys e) k o n d = λ x h. o x (k.0 x (left_known s ys n.0 x h)) (left_on ys x h)
  eqn_scoped s t seen own (switch at e arms) k o n d = arms_scoped s t seen own arms k o n.1 d.1.1
  eqn_scoped s t seen own (reset at b e) k o n d = block_scoped s t seen own b k o n.0 d.0
  eqn_scoped s t seen own (automaton at ss) k o n d = states_scoped s t seen own (with_names [] (state_names ss)) ss k o n.1 d

  arms_scoped : (s : NameScope) (t : Scope) (seen own : Names) (arms : Arms) → Sees s seen → Owns seen own (SomeArmDefines arms) → ArmsAreNamed s arms → ArmsAreDefined t arms → ArmsScoped seen own arms
  arms_scoped s t seen own no_arm k o n d = tt
  arms_scoped s t seen own (more_arms c b at arms) k o n d =
      (block_scoped s t seen own b k (λ x h l. o x h (inl l)) n.1.0 d.0, arms_scoped s t seen own arms k (λ x h l. o x h (inr l)) n.1.1 d.1)

  states_scoped : (s : NameScope) (t : Scope) (seen own : Names) (all : List (List ℕ)) (ss : States) → Sees s seen → Owns seen own (SomeStateDefines ss) → StatesAreNamed s all ss → StatesAreDefined t ss → StatesScoped seen own ss
  states_scoped s t seen own all no_state k o n d = tt
  states_scoped s t seen own all (more_states f b until unless at ss) k o n d =
      (block_scoped s t seen own b k (λ x h l. o x h (inl l)) n.0 d.0, states_scoped s t seen own all ss k (λ x h l. o x h (inr l)) n.1.1.1 d.1.1.1)

-- ---- nodes

defined_equations : (b : Block) (x : List ℕ) → BlockDefines b x → SomeDefines (equations b) x
defined_equations (block ds es) x h = h

contract_scoped : (s : NameScope) (t : Scope) (seen : Names) (ins outs : List Decl) (c : Option Contract) → Sees s seen → ((x : List ℕ) → IsTrue (seen x) → IsTrue (declares ins x) ⊎ IsTrue (declares outs x)) → ContractIsNamed s c → ContractIsDefined t ins outs c → ContractScoped seen c
contract_scoped s t seen ins outs None k a n d = tt
contract_scoped s t seen ins outs (Some c) k a n d =
    block_scoped s t seen no_names c.body k (λ x h l. absurd (by x (a x h) (defined_equations c.body x l))) n.0 d.0
  where
    by : (x : List ℕ) → IsTrue (declares ins x) ⊎ IsTrue (declares outs x) → SomeDefines (equations c.body) x → ⊥
    by x (inl h) l = no_equation (equations c.body) ins d.1.0 x h l
    by x (inr h) l = no_equation (equations c.body) outs d.1.1.0 x h l

body_defines : (seen own : Names) (b : Block) → BlockScoped seen own b → (x : List ℕ) → IsTrue (seen x) → SomeDefines (equations b) x → IsTrue (some_defines (equations_of b) x)
body_defines seen own (block ds es) s x h d = eqns_seen x (also seen ds) (also own ds) es s.3 (or_right (declares ds x) (seen x) h) d

node_scoped : (s : NameScope) (t : Scope) → Sees s no_names → (n : Node) → NodeIsNamed s n → NodeIsDefined t n → NodeScoped n
node_scoped s t k n m d =
    let controls = controls_of n.contract in
    let ins = also no_names n.inputs in
    let seen = also (interface n) controls in
    let own = also no_names n.outputs in
    let here = names.inside_node s n in
    let sees_ins = sees_more s no_names n.inputs k in
    let sees_outs = sees_more (names.with_variables s n.inputs) ins n.outputs sees_ins in
    let sees_all = sees_more here (interface n) controls sees_outs in
    let body = block_scoped (names.with_variables here controls) (types.with_variables (types.inside_node t n) controls) seen own n.body sees_all owns m.1.1.1.1.1.1 d.1.0 in
    record {
      once = once_append n.inputs n.outputs (new_once s.variables n.inputs m.0) (new_once (names.with_variables s n.inputs).variables n.outputs m.1.0)
          (λ x h l. new_fresh (names.with_variables s n.inputs) ins n.outputs sees_ins m.1.0 x h (or_left (declares n.inputs x) false l));
      contract = contract_scoped here (types.inside_node t n) (interface n) n.inputs n.outputs n.contract sees_outs interface_cases m.1.1.1.1.0 d.0;
      body = body;
      outputs = λ x h. body_defines seen own n.body body x
          (or_right (declares controls x) (interface n x) (or_left (declares n.outputs x) (ins x) h)) (some_defined (equations n.body) n.outputs d.1.1.1.1 x h);
    }
  where
    none_left : (x : List ℕ) → IsTrue (no_names x) → ⊥
    none_left x h = absurd (cc h)

    interface_cases : (x : List ℕ) → IsTrue (interface n x) → IsTrue (declares n.inputs x) ⊎ IsTrue (declares n.outputs x)
    interface_cases x h =
        ⊎_elim (λ o. inr o) (λ i. ⊎_elim (λ l. inl l) (λ l. absurd (none_left x l)) (or_cases (declares n.inputs x) false i))
        (or_cases (declares n.outputs x) (also no_names n.inputs x) h)

    owns : (x : List ℕ) → IsTrue (also (interface n) (controls_of n.contract) x) → BlockDefines n.body x → IsTrue (also no_names n.outputs x)
    owns x h l =
        ⊎_elim (λ c. absurd (no_equation (equations n.body) (controls_of n.contract) d.1.1.1.0 x c (defined_equations n.body x l)))
        (λ i. ⊎_elim (λ j. absurd (no_equation (equations n.body) n.inputs d.1.1.0 x j (defined_equations n.body x l))) (λ o. or_left (declares n.outputs x) false o) (interface_cases x i))
        (or_cases (declares (controls_of n.contract) x) (interface n x) h)

-- ---- programs

sees_behind : (s : NameScope) (item : Item) → Sees s no_names → Sees (names.behind s item) no_names
sees_behind s (TypeItem t) k = k
sees_behind s (NodeItem n) k = k

items_scoped : (s : NameScope) (t : Scope) → Sees s no_names → (items : List Item) → ItemsAreNamed s items → ItemsAreDefined t items → EachNode NodeScoped items
items_scoped s t k [] n d = tt
items_scoped s t k (TypeItem y ∷ items) n d = items_scoped (names.behind s (TypeItem y)) (types.behind t (TypeItem y)) (sees_behind s (TypeItem y) k) items n.1 d.1
items_scoped s t k (NodeItem y ∷ items) n d = (
  node_scoped s t k y n.0.1 d.0,
  items_scoped (names.behind s (NodeItem y)) (types.behind t (NodeItem y)) (sees_behind s (NodeItem y) k) items n.1 d.1,
)

sees_nothing : Sees names.nothing no_names
sees_nothing = ((λ x h. absurd (empty x h.0 h.1)), λ x h. absurd (cc h))
  where
    empty : (x : List ℕ) (k : ℕ) → k < 0 → ⊥
    empty x k h = absurd (omega (arith, h))

pub scoped : ScopedLaw
scoped program n d = items_scoped names.nothing types.nothing sees_nothing program n d
