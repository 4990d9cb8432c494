-- One of the nodes that are made stands for each node of a program.
use Rattle.std.proofs.Common.{◌≡◌, ℕ, false, List, [], ◌∷◌, reverse, refl, subst, ◌∙◌}
use Rattle.std.specs.Prelude.{Contains}
use Rattle.std.specs.List.{AllByRecursion}
use Rattle.std.proofs.lemmas.List.Elements.{Contains-append_right}
use Rattle.hp_base.specs.Kinds.{KindData}
use Rattle.hp_obc.specs.Steps.{Names}
use Rattle.hp_tree.specs.Programs.{Node}
use Rattle.hp_automata.specs.Lowering.{enumerations, lowered_program}
use Rattle.hp_automata.specs.NewNames.{is_new}
use Rattle.law_automata.proofs.LowerableLemmas.Texts.{each_reverse}
use Rattle.hp_flat.specs.Nodes.{FlatNode}
use Rattle.hp_complete.specs.Declaring.{known_of}
use Rattle.law_equations.specs.Meaning.Reactions.{Answers}
use Rattle.law_history.proofs.StreamsLemmas.NamesApart.{name_found, each_found}
use Rattle.law_choices.proofs.ClosedLemmas.ClosedLaws.{each_other, first_one}
use Rattle.law_choices.specs.Answered.Loops.{Loop, AreClosed, plants}
use Rattle.law_choices.specs.Choosing.Programs.{controls_in}
use Rattle.law_choices.specs.InTurn.Nodes.{Made, plain, contracted, all_nodes, loops}
use Rattle.law_choices.specs.InTurn.Standing.{StandsLaw}
use Rattle.law_choices.proofs.AnsweredLemmas.Programs.{named_before, takes_kinds}
use Rattle.law_choices.proofs.InTurnLemmas.Programs.{TurnLaws, all_old, loops_closed}

-- one of some nodes has the name
abbrev HasNode : List FlatNode → List ℕ → Type 0
HasNode ns f = (w : FlatNode) × Contains ns w × (w.name ≡ f)

each_there : (ns : List FlatNode) → AllByRecursion (λ (w : FlatNode). HasNode ns w.name) ns
each_there [] = tt
each_there (w ∷ ws) = (
  (w, first_one w ws, refl),
  each_other (λ (v : FlatNode). HasNode ws v.name) (λ (v : FlatNode). HasNode (w ∷ ws) v.name) (λ v h. (h.0, Contains-append_right (w ∷ []) ws h.0 h.1, h.2)) ws (each_there ws),
)

module _ (P : List ℕ → Type 0) where
  -- what is so of all names is so of those of closed nodes,
  of_closed : (ms : List Made) → AllByRecursion (λ (w : FlatNode). P w.name) (all_nodes ms) → AllByRecursion (λ (l : Loop). P l.closed.name) (loops ms)
  of_closed [] h = tt
  of_closed (plain f ∷ ms) h = (h.0, of_closed ms h.1)
  of_closed (contracted c ∷ ms) h = (h.1.0, of_closed ms h.1.1.1)

  -- and of those of plants, which are the same
  of_plants : (answers : Answers) (controls : Names (List KindData)) (ls : List Loop) → AreClosed answers controls ls → AllByRecursion (λ (l : Loop). P l.closed.name) ls → AllByRecursion (λ (f : FlatNode). P f.name) (plants ls)
  of_plants answers controls [] are h = tt
  of_plants answers controls (l ∷ ls) are h =
      let one = are.0 in
      let is = one.loop in
      (subst P is.name h.0, of_plants answers controls ls are.1 h.1)

pub stands_law : TurnLaws → StandsLaw
stands_law laws program after observers ms h f n e =
    let none : Answers = λ g args earlier. [] in
    let Has = HasNode (all_nodes ms) in
    let own = of_plants Has none (controls_in after) (loops ms) (loops_closed laws program after observers ms h none) (of_closed Has ms (each_there (all_nodes ms))) in
    let each = named_before Has (enumerations [] after) (known_of (lowered_program after)) after (plants (loops ms)) h.equations own in
    let name = name_found (reverse after) f n e in
    let found : HasNode (all_nodes ms) f = subst Has name (each_found (λ (m : Node). Has m.name) (reverse after) f n (each_reverse (λ (m : Node). Has m.name) after each) e) in
    let plain_name : is_new f ≡ false = subst (λ x. is_new x ≡ false) name (each_found (λ (m : Node). is_new m.name ≡ false) (reverse after) f n (each_reverse (λ (m : Node). is_new m.name ≡ false) after h.names) e) in
    let said = all_old laws program after observers ms h f plain_name in
    record { node = found.0; there = found.1; named = found.2; takes = said.0 ∙ takes_kinds program after h.ready h.form f n e }
