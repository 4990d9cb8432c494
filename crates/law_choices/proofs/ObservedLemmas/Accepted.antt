-- The observers of a ready program are accepted, with their automata and without.
use Rattle.std.proofs.Common.{◌≡◌, ℕ, ◌+◌, List, [], ◌∷◌, ◌++◌, map, reverse, refl, ap, subst, ◌∙◌}
use Rattle.std.specs.Prelude.{⊤, Option, None, Some, option_map}
use Rattle.hp_base.specs.declared.ty.Const.{Const}
use Rattle.hp_tree.specs.declared.program.Item.{Item}
use Rattle.hp_tree.specs.declared.program.Item.TheVariants.{TypeItem, NodeItem}
use Rattle.hp_tree.specs.Blocks.{Decl, Block, block, Eqns, no_eqn, more_eqns, Eqn, define, switch, reset, automaton, Arms, no_arm, more_arms, eqns_of, list_of_eqns}
use Rattle.hp_tree.specs.Programs.{TypeDecl, Contract, Node}
use Rattle.hp_tree.specs.Meaning.{node_among}
use Rattle.hp_typing.specs.Scopes.{with_constructors}
use Rattle.hp_init.specs.Classes.{Assignment}
use Rattle.law_judged.specs.Named.Scoped.{EachNode}
use Rattle.law_values.specs.Valued.Classed.{HasClasses}
use Rattle.law_values.specs.Valued.Judged.{ConstantIs, IsPlain, AllPlain, OnePlain, ArmsPlain, PlainContract}
use Rattle.law_values.specs.Valued.Values.{scope_behind, Classing, class_here, class_behind, NodeAccepted, AreAccepted}
use Rattle.hp_automata.specs.Lowering.{Types, Enumerations, same_name, types_of as types_in, lowered_contract, lowered_node, lowered_item}
use Rattle.law_equations.specs.Flattened.Timely.{Lowered, AllLowered, OneLowered, ArmsLowered}
use Rattle.law_automata.specs.Lowered.Removable.{NodeOk}
use Rattle.law_automata.specs.Readied.Sound.{SoundBehind}
use Rattle.law_automata.proofs.LoweredLemmas.RightSteps.{clocks_law}
use Rattle.law_automata.proofs.LowerableLemmas.Texts.{onto}
use Rattle.law_automata.proofs.ClassedLemmas.Nodes.{node_classes}
use Rattle.law_automata.proofs.ReadiedLemmas.NoAutomata.{block_lowered, lowered_law}
use Rattle.law_equations.specs.Answered.Answering.{AreApart}
use Rattle.hp_watch.specs.Observing.{all_handed_on, with_lines, lines_of, observer_of, observer_if, observers}
use Rattle.law_choices.proofs.ObservedLemmas.Classed.{observer_classes}
use Rattle.law_choices.proofs.ObservedLemmas.Clocks.{observer_right}
use Rattle.law_choices.proofs.ObservedLemmas.Known.{IsKnown}
use Rattle.law_choices.proofs.ObservedLemmas.Scoped.{observer_scoped}
use Rattle.law_choices.proofs.ObservedLemmas.Sound.{observer_sound}
use Rattle.law_choices.proofs.ObservedLemmas.Standing.{ConstantsAre, constant_there, no_variables, nodes_known}

-- ---- conditions of transitions

-- equations that are definitions alone
abbrev Defines : List Eqn → Type 0
Defines [] = ⊤
Defines (e ∷ es) = OnePlain e × Defines es

plain_behind : (es : Eqns) (more : List Eqn) → AllPlain es → Defines more → AllPlain (eqns_of (list_of_eqns es ++ more))
plain_behind no_eqn [] h g = tt
plain_behind no_eqn (m ∷ more) h g = (g.0, plain_behind no_eqn more tt g.1)
plain_behind (more_eqns e es) more h g = (h.0, plain_behind es more h.1 g)

handed_plain : (i : ℕ) (ds : List Decl) → Defines (all_handed_on i ds)
handed_plain i [] = tt
handed_plain i (d ∷ ds) = (tt, handed_plain (i + 1) ds)

body_plain : (b : Block) (more : List Decl) (lines : List Eqn) → IsPlain b → Defines lines → IsPlain (with_lines b more lines)
body_plain (block ds es) more lines h g = plain_behind es lines h g

observer_plain : (n : Node) (c : Contract) → n.contract ≡ Some c → PlainContract n.contract → IsPlain (observer_of n c).body
observer_plain n c e h = body_plain c.body n.outputs (lines_of n c) (subst PlainContract e h) (tt, (tt, handed_plain 0 n.outputs))

-- ---- with automata

conses_observed : (items : List Item) → (scope_behind (observers items)).constructors ≡ (scope_behind items).constructors
conses_observed [] = refl
conses_observed (TypeItem t ∷ items) = ap (λ z. with_constructors z t.name t.cons) (conses_observed items)
conses_observed (NodeItem n ∷ items) = by n.contract (conses_observed items)
  where
    by : (o : Option Contract) → (scope_behind (observers items)).constructors ≡ (scope_behind items).constructors → (scope_behind (observer_if n o ++ observers items)).constructors ≡ (scope_behind items).constructors
    by None e = e
    by (Some c) e = e

here_is : (class : Assignment) (others : Classing) → class ≡ class_here (class ∷ others)
here_is class others = λ i p. class p

module _ (types : List TypeDecl) where
  one_accepted : (n : Node) (c : Contract) (earlier : List Item) → n.contract ≡ Some c → IsKnown types n → (class : Assignment) → NodeAccepted types (node_among earlier) (scope_behind earlier) class n → ((k : Const) → ConstantIs types (scope_behind earlier) k)
      → AreApart (observers earlier) → (other : Assignment) × NodeAccepted types (node_among (observers earlier)) (scope_behind (observers earlier)) other (observer_of n c)
  one_accepted n c earlier e k class a constants apart =
      let o = k.observable in
      let there = observers earlier in
      let s = scope_behind earlier in
      let r = scope_behind there in
      let same : r.constructors ≡ s.constructors = conses_observed earlier in
      let here : (q : Const) → ConstantIs types r q = λ q. constant_there types s r same q (constants q) in
      let scoped = observer_scoped n c e k.scoped o in
      let classes = observer_classes n c e k.scoped k.base o class a.classes in (
        classes.0,
        record {
          sound = observer_sound types (node_among earlier) (node_among there) s r (no_variables earlier) (no_variables there) same here (nodes_known there apart) n c k.scoped scoped o.interface e o.contract k.alone a.sound;
          classes = classes.1;
          clocks = observer_right n c e k.scoped k.base o k.clocks;
          plain = observer_plain n c e a.plain_contract;
          plain_contract = tt;
        },
      )

  -- the last one first
  pub all_accepted : (class : Classing) (items : List Item) → EachNode (IsKnown types) items → AreAccepted types class items → ConstantsAre types items → AreApart (observers items) → (others : Classing) × AreAccepted types others (observers items)
  all_accepted class [] k a g apart = ([], tt)
  all_accepted class (TypeItem t ∷ items) k a g apart = all_accepted class items k a g apart
  all_accepted class (NodeItem n ∷ items) k a g apart = by n.contract refl apart (all_accepted (class_behind class) items k.1 a.1 g.1)
    where
      by : (o : Option Contract) → n.contract ≡ o → AreApart (observer_if n o ++ observers items) → (AreApart (observers items) → (others : Classing) × AreAccepted types others (observers items)) → (others : Classing) × AreAccepted types others (observer_if n o ++ observers items)
      by None e p rest = rest p
      by (Some c) e p rest =
          let own = one_accepted n c items e k.0 (class_here class) a.0 g.0 p.1 in
          let others = rest p.1 in
          (own.0 ∷ others.0, (subst (λ z. NodeAccepted types (node_among (observers items)) (scope_behind (observers items)) z (observer_of n c)) (here_is own.0 others.0) own.1, others.1))

-- ---- in their order

moved : (n : Node) (o : Option Contract) (xs ys : List Item) → onto (observer_if n o ++ xs) ys ≡ onto xs (observer_if n o ++ ys)
moved n None xs ys = refl
moved n (Some c) xs ys = refl

onto_observed : (xs ys : List Item) → onto (observers xs) (observers ys) ≡ observers (onto xs ys)
onto_observed [] ys = refl
onto_observed (TypeItem t ∷ xs) ys = onto_observed xs (TypeItem t ∷ ys)
onto_observed (NodeItem n ∷ xs) ys = moved n n.contract (observers xs) (observers ys) ∙ onto_observed xs (NodeItem n ∷ ys)

pub reverse_observed : (items : List Item) → reverse (observers items) ≡ observers (reverse items)
reverse_observed items = onto_observed items []

-- ---- without automata

mutual
  block_plain : (b : Block) → Lowered b → IsPlain b
  block_plain (block ds es) h = all_plain es h

  all_plain : (es : Eqns) → AllLowered es → AllPlain es
  all_plain no_eqn h = tt
  all_plain (more_eqns e es) h = (one_plain e h.0, all_plain es h.1)

  one_plain : (e : Eqn) → OneLowered e → OnePlain e
  one_plain (define s ys e) h = tt
  one_plain (switch s e arms) h = arms_plain arms h
  one_plain (reset s b e) h = block_plain b h
  one_plain (automaton s ss) h = absurd h

  arms_plain : (arms : Arms) → ArmsLowered arms → ArmsPlain arms
  arms_plain no_arm h = tt
  arms_plain (more_arms c b s arms) h = (block_plain b h.0, arms_plain arms h.1)

contract_plain : (enums : Enumerations) (tys : Types) (o : Option Contract) → PlainContract (option_map (lowered_contract enums tys) o)
contract_plain enums tys None = tt
contract_plain enums tys (Some c) = block_plain (lowered_contract enums tys c).body (block_lowered enums same_name tys 0 c.span [] c.body)

-- What is accepted is accepted without automata, where it is sound then.
pub low_accepted : (types : List TypeDecl) (enums : Enumerations) (class : Classing) (items : List Item) → AreAccepted types class items → EachNode NodeOk items → SoundBehind types (map (lowered_item enums) items) → (others : Classing) × AreAccepted types others (map (lowered_item enums) items)
low_accepted types enums class [] a ok sound = ([], tt)
low_accepted types enums class (TypeItem t ∷ items) a ok sound = low_accepted types enums class items a ok sound
low_accepted types enums class (NodeItem n ∷ items) a ok sound =
    let low = map (lowered_item enums) items in
    let m = lowered_node enums n in
    let own = node_classes enums n ok.0 (class_here class) a.0.classes in
    let others = low_accepted types enums (class_behind class) items a.1 ok.1 sound.1 in (
      own.0 ∷ others.0,
      (
        record {
          sound = sound.0;
          classes = subst (λ z. HasClasses z m) (here_is own.0 others.0) own.1;
          clocks = clocks_law enums n ok.0 a.0.clocks;
          plain = block_plain m.body (lowered_law enums n);
          plain_contract = contract_plain enums (types_in n) n.contract;
        },
        others.1,
      ),
    )
