-- A ready program without its automata is accepted, where its nodes have classes.
use Rattle.std.proofs.Common.{◌≡◌, List, [], ◌∷◌, map, reverse, refl, sym, ap, subst}
use Rattle.std.specs.Prelude.{Option, None, Some, option_map}
use Rattle.hp_tree.specs.declared.program.Item.{Item}
use Rattle.hp_tree.specs.declared.program.Item.TheVariants.{TypeItem, NodeItem}
use Rattle.hp_tree.specs.Blocks.{Block, block, Eqns, no_eqn, more_eqns, Eqn, define, switch, reset, automaton, Arms, no_arm, more_arms}
use Rattle.hp_tree.specs.Programs.{TypeDecl, Contract, Node}
use Rattle.hp_tree.specs.Meaning.{types_of}
use Rattle.hp_meaning.specs.Causal.Clocked.{ClocksRight}
use Rattle.law_judged.specs.Named.Scoped.{EachNode}
use Rattle.law_values.specs.Valued.Judged.{IsPlain, AllPlain, OnePlain, ArmsPlain, PlainContract}
use Rattle.law_values.specs.Valued.Values.{Classing, class_behind, AreAccepted}
use Rattle.law_values.specs.Accepted.Written.{NodePlain}
use Rattle.law_values.proofs.AcceptedLemmas.Laws.{accepted}
use Rattle.hp_automata.specs.Lowering.{Types, Enumerations, enumerations, same_name, types_of as types_in, lowered_contract, lowered_node, lowered_item, lowered_program}
use Rattle.law_equations.specs.Flattened.Timely.{Lowered, AllLowered, OneLowered, ArmsLowered}
use Rattle.law_automata.specs.Lowered.Removable.{NodeOk}
use Rattle.law_automata.proofs.LoweredLemmas.RightSteps.{clocks_law}
use Rattle.law_automata.proofs.LowerableLemmas.Texts.{each_reverse}
use Rattle.law_automata.specs.Readied.Sound.{SoundBehind}
use Rattle.law_automata.specs.Readied.Accepted.{ClassesBehind, AcceptedLaw}
use Rattle.law_automata.proofs.ReadiedLemmas.NoAutomata.{block_lowered, lowered_law}
use Rattle.law_automata.proofs.ReadiedLemmas.SoundPrograms.{low_onto, each_ok, ready_sound_law}

-- ---- where no automaton is left, conditions are plain

mutual
  block_plain : (b : Block) → Lowered b → IsPlain b
  block_plain (block ds es) h = all_plain es h

  all_plain : (es : Eqns) → AllLowered es → AllPlain es
  all_plain no_eqn h = tt
  all_plain (more_eqns e es) h = (one_plain e h.0, all_plain es h.1)

  one_plain : (e : Eqn) → OneLowered e → OnePlain e
  one_plain (define s ys e) h = tt
  one_plain (switch s e arms) h = arms_plain arms h
  one_plain (reset s b e) h = block_plain b h
  one_plain (automaton s ss) h = absurd h

  arms_plain : (arms : Arms) → ArmsLowered arms → ArmsPlain arms
  arms_plain no_arm h = tt
  arms_plain (more_arms c b s arms) h = (block_plain b h.0, arms_plain arms h.1)

module _ (enums : Enumerations) where
  contract_plain : (tys : Types) (o : Option Contract) → PlainContract (option_map (lowered_contract enums tys) o)
  contract_plain tys None = tt
  contract_plain tys (Some c) = block_plain (lowered_contract enums tys c).body (block_lowered enums same_name tys 0 c.span [] c.body)

  node_plain : (n : Node) → NodePlain (lowered_node enums n)
  node_plain n = (block_plain (lowered_node enums n).body (lowered_law enums n), contract_plain (types_in n) n.contract)

  all_nodes_plain : (items : List Item) → EachNode NodePlain (map (lowered_item enums) items)
  all_nodes_plain [] = tt
  all_nodes_plain (TypeItem t ∷ items) = all_nodes_plain items
  all_nodes_plain (NodeItem n ∷ items) = (node_plain n, all_nodes_plain items)

  all_clocks_right : (types : List TypeDecl) (class : Classing) (items : List Item) → AreAccepted types class items → EachNode NodeOk items → EachNode ClocksRight (map (lowered_item enums) items)
  all_clocks_right types class [] a ok = tt
  all_clocks_right types class (TypeItem t ∷ items) a ok = all_clocks_right types class items a ok
  all_clocks_right types class (NodeItem n ∷ items) a ok = (clocks_law enums n ok.0 a.0.clocks, all_clocks_right types (class_behind class) items a.1 ok.1)

  types_stay : (items : List Item) → types_of (map (lowered_item enums) items) ≡ types_of items
  types_stay [] = refl
  types_stay (TypeItem t ∷ items) = ap (λ ts. t ∷ ts) (types_stay items)
  types_stay (NodeItem n ∷ items) = types_stay items

together : (types : List TypeDecl) (class : Classing) (items : List Item) → SoundBehind types items → EachNode ClocksRight items → EachNode NodePlain items → ClassesBehind class items → AreAccepted types class items
together types class [] s c p h = tt
together types class (TypeItem t ∷ items) s c p h = together types class items s c p h
together types class (NodeItem n ∷ items) s c p h =
    (record { sound = s.0; classes = h.0; clocks = c.0; plain = p.0.0; plain_contract = p.0.1 }, together types (class_behind class) items s.1 c.1 p.1 h.1)

pub accepted_law : AcceptedLaw
accepted_law program after class r ok cons h =
    let enums = enumerations [] after in
    let a = accepted program after r in
    let sound = ready_sound_law program after r ok cons in
    let clocks : EachNode ClocksRight (reverse (lowered_program after)) = subst (EachNode ClocksRight) (low_onto (types_of after) enums after []) (all_clocks_right enums (types_of after) a.0 (reverse after) a.1 (each_reverse NodeOk after (each_ok after ok))) in
    subst (λ z. AreAccepted z class (reverse (lowered_program after))) (sym (types_stay enums after))
    (together (types_of after) class (reverse (lowered_program after)) sound clocks (each_reverse NodePlain (lowered_program after) (all_nodes_plain enums after)) h)
