-- Of each node of a program with a contract, one of the nodes that are made tells what the contract assumes and enforces.
use Rattle.std.proofs.Common.{◌≡◌, ℕ, false, List, [], ◌∷◌, ◌++◌, map, reverse, None, Some, refl, sym, ap, subst, ◌∙◌}
use Rattle.std.specs.Prelude.{Contains, Option}
use Rattle.std.specs.List.{AllByRecursion}
use Rattle.std.proofs.lemmas.List.Elements.{Contains-append_right}
use Rattle.hp_base.specs.Kinds.{KindData, AreOfKinds}
use Rattle.hp_base.specs.declared.value.Value.{Value}
use Rattle.hp_base.specs.declared.value.Value.TheVariants.{B}
use Rattle.hp_obc.specs.Machines.{ObcType}
use Rattle.hp_tree.specs.declared.program.Item.{Item}
use Rattle.hp_tree.specs.declared.program.Item.TheVariants.{TypeItem, NodeItem}
use Rattle.hp_tree.specs.Meaning.{types_of, node_among}
use Rattle.hp_tree.specs.Programs.{Contract, Node}
use Rattle.hp_flat.specs.Nodes.{FlatNode}
use Rattle.hp_meaning.specs.Contract.Guarantee.{HasContract}
use Rattle.law_judged.specs.Named.Scoped.{EachNode}
use Rattle.hp_automata.specs.Lowering.{Enumerations, enumerations, lowered_item, lowered_program}
use Rattle.hp_automata.specs.NewNames.{is_new}
use Rattle.law_automata.proofs.LowerableLemmas.Texts.{each_reverse}
use Rattle.hp_complete.specs.Declaring.{known_of}
use Rattle.hp_complete.specs.Made.{AreMadeOf}
use Rattle.law_equations.specs.Made.Making.{Known}
use Rattle.law_equations.specs.Made.Types.{obc_types}
use Rattle.law_equations.specs.Meaning.Kinding.{Callees, OneReactionLaw}
use Rattle.law_equations.specs.Meaning.Reactions.{Answers}
use Rattle.law_history.proofs.StreamsLemmas.NamesApart.{name_found, each_found}
use Rattle.law_wellmade.specs.Timely.Kinds.{kinds_of_decls}
use Rattle.hp_watch.specs.Watching.{Observing}
use Rattle.law_choices.specs.Answered.Loops.{plants}
use Rattle.law_choices.specs.InTurn.Laws.{IsChoosing, Tells, TellsContract, said_of}
use Rattle.law_choices.specs.InTurn.Nodes.{Contracted, Made, plain, contracted, IsMade, AreAllMade, all_nodes, contract_name, loops, nodes_of, telling}
use Rattle.law_choices.specs.InTurn.Telling.{TellsForLaw}
use Rattle.law_choices.specs.OnClocks.Meaning.{HasOneMeaning}
use Rattle.law_choices.proofs.AnsweredLemmas.Programs.{takes_kinds}
use Rattle.law_choices.proofs.ClosedLemmas.ClosedLaws.{first_one}
use Rattle.law_choices.proofs.InTurnLemmas.Contracted.{own_named}
use Rattle.law_choices.proofs.InTurnLemmas.Programs.{Grounded, TurnLaws, all_old, all_stand, have_bytes, telling_law}

module _ (laws : TurnLaws) (one_law : OneReactionLaw) (program after : List Item) (observers : Observing) (ms : List Made) (h : IsChoosing program after observers ms) (one : HasOneMeaning (said_of after ms) (all_nodes ms)) where
  abbrev types : List ObcType
  types = obc_types (types_of after)

  abbrev k : Known
  k = known_of (lowered_program after)

  abbrev enums : Enumerations
  enums = enumerations [] after

  abbrev all : Callees
  all = said_of after ms

  abbrev answers : Answers
  answers = one.answers

  abbrev GroundedHere : Made → Type 0
  GroundedHere m = Grounded laws types k enums observers all (have_bytes laws program after observers ms h) h.suit h.alone (all_old laws program after observers ms h) (λ n. node_among (reverse after) n.name ≡ Some n) m

  -- what is made of a node with a contract tells it
  record Told (n : Node) : Type 0 where
    made : Contracted
    there : Contains (all_nodes ms) (telling made.chosen)
    named : made.own.name ≡ n.name
    contract : TellsContract all answers made

  find : (items : List Item) (made : List Made) → ((w : FlatNode) → Contains (all_nodes made) w → Contains (all_nodes ms) w) → AreAllMade types observers items made → AreMadeOf k (map (lowered_item enums) items) (plants (loops made)) → AllByRecursion GroundedHere made
      → AllByRecursion (Tells all answers) made → EachNode (λ (n : Node). HasContract n → Told n) items
  find [] made among is of grounded tells = tt
  find (TypeItem t ∷ items) made among is of grounded tells = find items made among is of grounded tells
  find (NodeItem n ∷ items) [] among is of grounded tells = absurd is
  find (NodeItem n ∷ items) (plain f ∷ made) among is of grounded tells = (
    λ has. absurd (none has.0 (subst (λ (o : Option Contract). IsMade types observers n o (plain f)) has.1 is.0)),
    find items made (λ w there. among w (Contains-append_right (f ∷ []) (all_nodes made) w there)) is.1 of.1 grounded.1 tells.1,
  )
    where
      none : (c : Contract) → IsMade types observers n (Some c) (plain f) → ⊥
      none c i = i
  find (NodeItem n ∷ items) (contracted c ∷ made) among is of grounded tells =
      let it = grounded.0 in (
        λ has. record {
          made = c;
          there = among (telling c.chosen) (Contains-append_right (c.controller ∷ c.own ∷ []) (telling c.chosen ∷ all_nodes made) (telling c.chosen) (first_one (telling c.chosen) (all_nodes made)));
          named = own_named laws.nodes types all observers it.0 c it.1 ∙ sym (it.1).named ∙ (of.0).name;
          contract = tells.0;
        },
        find items made (λ w there. among w (Contains-append_right (c.controller ∷ c.own ∷ telling c.chosen ∷ []) (all_nodes made) w there)) is.1 of.1 grounded.1 tells.1,
      )

  told_all : EachNode (λ (n : Node). HasContract n → Told n) after
  told_all = find after ms (λ w there. there) h.made h.equations (all_stand laws program after observers ms h).2 (telling_law laws one_law program after observers ms h one)

pub tells_for_law : TurnLaws → OneReactionLaw → TellsForLaw
tells_for_law laws one_law program after observers ms h one f n e has =
    let Is : Node → Type 0 = λ (m : Node). HasContract m → Told laws one_law program after observers ms h one m in
    let t = each_found Is (reverse after) f n (each_reverse Is after (told_all laws one_law program after observers ms h one)) e has in
    let name : n.name ≡ f = name_found (reverse after) f n e in
    let own : (t.made).own.name ≡ f = t.named ∙ name in
    let plain_name : is_new f ≡ false = subst (λ x. is_new x ≡ false) name (each_found (λ (m : Node). is_new m.name ≡ false) (reverse after) f n (each_reverse (λ (m : Node). is_new m.name ≡ false) after h.names) e) in
    let said = all_old laws program after observers ms h f plain_name in
    let kinds : (said_of after ms).takes f ≡ kinds_of_decls (types_of after) n.inputs = said.0 ∙ takes_kinds program after h.ready h.form f n e in
    let its_kinds : (said_of after ms).takes (t.made).own.name ≡ kinds_of_decls (types_of after) n.inputs = ap (said_of after ms).takes own ∙ kinds in
    let takes_own : (said_of after ms).takes (contract_name f) ≡ (said_of after ms).takes (contract_name (t.made).own.name) = ap (λ g. (said_of after ms).takes (contract_name g)) (sym own) in
    let takes_same : (said_of after ms).takes (contract_name (t.made).own.name) ≡ kinds_of_decls (types_of after) n.inputs = (t.contract).takes ∙ its_kinds in
    record {
      node = telling (t.made).chosen;
      there = t.there;
      named = (t.contract).named ∙ ap contract_name own;
      takes = takes_own ∙ takes_same;
      tells = λ args earlier a b.
          let x = (t.contract).tells args earlier (subst (λ ks. AreOfKinds ks args) (sym its_kinds) a) (subst (λ ks. AllByRecursion (AreOfKinds ks) earlier) (sym its_kinds) b) in
          (x.0, x.1, ap (λ g. one.answers (contract_name g) args earlier) (sym own) ∙ x.2 ∙ ap (λ g. one.answers g args earlier ++ B x.0 ∷ B x.1 ∷ []) own);
    }
