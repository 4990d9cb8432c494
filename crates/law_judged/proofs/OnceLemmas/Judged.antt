-- In judged programs each name has one equation in its block.
use Rattle.std.proofs.Common.{ℕ, inl, inr, ⊎_elim, List, [], ◌∷◌, refl, sym, subst}
use Rattle.std.specs.Prelude.{IsTrue, Option, None, Some}
use Rattle.std.specs.Str.{bytes_eq}
use Rattle.hp_base.specs.declared.span.Span.{Span}
use Rattle.hp_tree.specs.declared.program.Item.{Item}
use Rattle.hp_tree.specs.declared.program.Item.TheVariants.{TypeItem, NodeItem}
use Rattle.hp_tree.specs.Blocks.{Decl, Block, block, Eqns, no_eqn, more_eqns, Eqn, define, switch, reset, automaton, Arms, no_arm, more_arms, States, no_state, more_states}
use Rattle.hp_tree.specs.Programs.{Contract, Node}
use Rattle.hp_tree.specs.Meaning.{declares, is_among, defines, some_defines, arms_define, states_define, block_defines, controls_of}
use Rattle.hp_typing.specs.Scopes as types
use Rattle.hp_typing.specs.Definitions.{IsOn, IsAtMostOnceOn, Defines, SomeDefines, BlockDefines, SomeArmDefines, SomeStateDefines, DefineAtMostOnce, DefinesAtMostOnce, BlockDefinesAtMostOnce, ArmsDefineAtMostOnce, StatesDefineAtMostOnce}
use Rattle.hp_typing.specs.Definedness.{equations}
use Rattle.hp_typing.specs.DefinitionRules.{VariablesAreDefined, BlockIsDefined, EqnsAreDefined, EqnIsDefined, ArmsAreDefined, StatesAreDefined, ContractIsDefined, NodeIsDefined, ItemsAreDefined}
use Rattle.law_judged.specs.Named.Scopes.{Scope}
use Rattle.law_judged.specs.Named.Scoped.{Names, no_names, also, BlockScoped, EqnsScoped, EqnScoped, ArmsScoped, StatesScoped, ContractScoped, interface, NodeScoped, EachNode}
use Rattle.law_judged.proofs.NamedLemmas.Sets.{or_cases, or_left, or_right, false_if, first_true, same_name, name_same}
use Rattle.law_judged.proofs.NamedLemmas.Declared.{eqn_owned}
use Rattle.law_judged.proofs.NamedLemmas.Judged.{scoped}
use Rattle.law_judged.specs.Once.Once.{BlockOnce, AllOnce, OneOnce, ArmsOnce, StatesOnce, ContractOnce, DefinedOnce}
use Rattle.law_judged.specs.Once.Singly.{AreDistinct, BlockSingly, AllSingly, OneSingly, ArmsSingly, StatesSingly, ContractSingly, DefinedSingly}
use Rattle.law_judged.specs.Once.Laws.{SinglyLaw, OnceLaw}
use Rattle.law_judged.proofs.OnceLemmas.Renamed.{or_none}

-- ---- what equations define in the meaning, they define by the rules

left_on : (ys : List (List ℕ × Span)) (x : List ℕ) → IsTrue (is_among ys x) → IsOn ys x
left_on [] x h = absurd (cc h)
left_on (y ∷ ys) x h = ⊎_elim (λ e. inl (sym (same_name y.0 x e))) (λ k. inr (left_on ys x k)) (or_cases (bytes_eq y.0 x) (is_among ys x) h)

module _ (x : List ℕ) where
  mutual
    block_by_rule : (b : Block) → IsTrue (block_defines b x) → BlockDefines b x
    block_by_rule (block ds es) h = some_by_rule es (first_true (some_defines es x) (declares ds x) h)

    some_by_rule : (es : Eqns) → IsTrue (some_defines es x) → SomeDefines es x
    some_by_rule no_eqn h = absurd (cc h)
    some_by_rule (more_eqns e es) h = ⊎_elim (λ l. inl (one_by_rule e l)) (λ l. inr (some_by_rule es l)) (or_cases (defines e x) (some_defines es x) h)

    one_by_rule : (e : Eqn) → IsTrue (defines e x) → Defines e x
    one_by_rule (define s ys e) h = left_on ys x h
    one_by_rule (switch s e arms) h = arms_by_rule arms h
    one_by_rule (reset s b e) h = block_by_rule b h
    one_by_rule (automaton s ss) h = states_by_rule ss h

    arms_by_rule : (arms : Arms) → IsTrue (arms_define arms x) → SomeArmDefines arms x
    arms_by_rule no_arm h = absurd (cc h)
    arms_by_rule (more_arms c b s arms) h = ⊎_elim (λ l. inl (block_by_rule b l)) (λ l. inr (arms_by_rule arms l)) (or_cases (block_defines b x) (arms_define arms x) h)

    states_by_rule : (ss : States) → IsTrue (states_define ss x) → SomeStateDefines ss x
    states_by_rule no_state h = absurd (cc h)
    states_by_rule (more_states f b until unless s ss) h =
        ⊎_elim (λ l. inl (block_by_rule b l)) (λ l. inr (states_by_rule ss l)) (or_cases (block_defines b x) (states_define ss x) h)

-- ---- declared names have at most one equation, and equations define no other

at_most_once : (es : Eqns) (ds : List Decl) → VariablesAreDefined es ds → (x : List ℕ) → IsTrue (declares ds x) → DefineAtMostOnce es x
at_most_once es [] v x h = absurd (cc h)
at_most_once es (d ∷ ds) v x h =
    ⊎_elim (λ e. subst (λ z. DefineAtMostOnce es z) (same_name d.name x e) v.0.1.0) (λ l. at_most_once es ds v.1 x l) (or_cases (bytes_eq d.name x) (declares ds x) h)

left_distinct : (ys : List (List ℕ × Span)) → ((x : List ℕ) → IsTrue (is_among ys x) → IsAtMostOnceOn ys x) → AreDistinct ys
left_distinct [] f = tt
left_distinct (y ∷ ys) f = (
  false_if (is_among ys y.0) (λ h. (f y.0 (or_left (bytes_eq y.0 y.0) (is_among ys y.0) (name_same y.0 y.0 refl))).0 refl (left_on ys y.0 h)),
  left_distinct ys (λ x h. (f x (or_right (bytes_eq y.0 x) (is_among ys x) h)).1),
)

abbrev AtMost : Names → (List ℕ → Type 0) → Type 0
AtMost own P = (x : List ℕ) → IsTrue (own x) → P x

mutual
  block_singly : (t : Scope) (seen own : Names) (b : Block) → BlockScoped seen own b → BlockIsDefined t b → AtMost own (BlockDefinesAtMostOnce b) → BlockSingly b
  block_singly t seen own (block ds es) s d a =
      all_singly (types.with_variables t ds) (also seen ds) (also own ds) es s.3 d.0
      (λ x h. ⊎_elim (λ l. at_most_once es ds d.1 x l) (λ l. a x l) (or_cases (declares ds x) (own x) h))

  all_singly : (t : Scope) (seen own : Names) (es : Eqns) → EqnsScoped seen own es → EqnsAreDefined t es → AtMost own (DefineAtMostOnce es) → AllSingly es
  all_singly t seen own no_eqn s d a = tt
  all_singly t seen own (more_eqns e es) s d a = (
    (λ x h. false_if (some_defines es x) (λ l. (a x (eqn_owned x seen own e s.0 h)).1.0 (one_by_rule x e h) (some_by_rule x es l))),
    (one_singly t seen own e s.0 d.0 (λ x h. (a x h).0), all_singly t seen own es s.1 d.1 (λ x h. (a x h).1.1)),
  )

  one_singly : (t : Scope) (seen own : Names) (e : Eqn) → EqnScoped seen own e → EqnIsDefined t e → AtMost own (DefinesAtMostOnce e) → OneSingly e
  one_singly t seen own (define w ys e) s d a = left_distinct ys (λ x h. a x (s x h))
  one_singly t seen own (switch w e arms) s d a = arms_singly t seen own arms s d.1.1 a
  one_singly t seen own (reset w b e) s d a = block_singly t seen own b s d.0 a
  one_singly t seen own (automaton w ss) s d a = states_singly t seen own ss s d a

  arms_singly : (t : Scope) (seen own : Names) (arms : Arms) → ArmsScoped seen own arms → ArmsAreDefined t arms → AtMost own (ArmsDefineAtMostOnce arms) → ArmsSingly arms
  arms_singly t seen own no_arm s d a = tt
  arms_singly t seen own (more_arms c b w arms) s d a = (block_singly t seen own b s.0 d.0 (λ x h. (a x h).0), arms_singly t seen own arms s.1 d.1 (λ x h. (a x h).1))

  states_singly : (t : Scope) (seen own : Names) (ss : States) → StatesScoped seen own ss → StatesAreDefined t ss → AtMost own (StatesDefineAtMostOnce ss) → StatesSingly ss
  states_singly t seen own no_state s d a = tt
  states_singly t seen own (more_states f b until unless w ss) s d a =
      (block_singly t seen own b s.0 d.0 (λ x h. (a x h).0), states_singly t seen own ss s.1 d.1.1.1 (λ x h. (a x h).1))

-- ---- nodes and programs

contract_singly : (t : Scope) (seen : Names) (ins outs : List Decl) (c : Option Contract) → ContractScoped seen c → ContractIsDefined t ins outs c → ContractSingly c
contract_singly t seen ins outs None s d = tt
contract_singly t seen ins outs (Some c) s d = block_singly t seen no_names c.body s d.0 (λ x h. absurd (cc h))

block_at_most : (b : Block) (x : List ℕ) → DefineAtMostOnce (equations b) x → BlockDefinesAtMostOnce b x
block_at_most (block ds es) x h = h

node_singly : (t : Scope) (n : Node) → NodeScoped n → NodeIsDefined t n → DefinedSingly n
node_singly t n s d =
    let here = types.inside_node t n in (
      contract_singly here (interface n) n.inputs n.outputs n.contract s.contract d.0,
      block_singly (types.with_variables here (controls_of n.contract)) (also (interface n) (controls_of n.contract)) (also no_names n.outputs) n.body s.body d.1.0
          (λ x h. block_at_most n.body x (at_most_once (equations n.body) n.outputs d.1.1.1.1 x (or_none (declares n.outputs x) h))),
    )

items_singly : (t : Scope) (items : List Item) → EachNode NodeScoped items → ItemsAreDefined t items → EachNode DefinedSingly items
items_singly t [] s d = tt
items_singly t (TypeItem y ∷ items) s d = items_singly (types.behind t (TypeItem y)) items s d.1
items_singly t (NodeItem y ∷ items) s d = (node_singly t y s.0 d.0, items_singly (types.behind t (NodeItem y)) items s.1 d.1)

pub singly : SinglyLaw
singly program n d = items_singly types.nothing program (scoped program n d) d

-- ---- and so it is where left sides are not looked at

mutual
  block_once : (b : Block) → BlockSingly b → BlockOnce b
  block_once (block ds es) o = all_once es o

  all_once : (es : Eqns) → AllSingly es → AllOnce es
  all_once no_eqn o = tt
  all_once (more_eqns e es) o = (o.0, (one_once e o.1.0, all_once es o.1.1))

  one_once : (e : Eqn) → OneSingly e → OneOnce e
  one_once (define s ys e) o = tt
  one_once (switch s e arms) o = arms_once arms o
  one_once (reset s b e) o = block_once b o
  one_once (automaton s ss) o = states_once ss o

  arms_once : (arms : Arms) → ArmsSingly arms → ArmsOnce arms
  arms_once no_arm o = tt
  arms_once (more_arms c b s arms) o = (block_once b o.0, arms_once arms o.1)

  states_once : (ss : States) → StatesSingly ss → StatesOnce ss
  states_once no_state o = tt
  states_once (more_states f b until unless s ss) o = (block_once b o.0, states_once ss o.1)

contract_once : (c : Option Contract) → ContractSingly c → ContractOnce c
contract_once None o = tt
contract_once (Some c) o = block_once c.body o

items_once : (items : List Item) → EachNode DefinedSingly items → EachNode DefinedOnce items
items_once [] o = tt
items_once (TypeItem y ∷ items) o = items_once items o
items_once (NodeItem y ∷ items) o = ((contract_once y.contract o.0.0, block_once y.body o.0.1), items_once items o.1)

pub once : OnceLaw
once program n d = items_once program (singly program n d)
