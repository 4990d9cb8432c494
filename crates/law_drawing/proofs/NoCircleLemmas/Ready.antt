-- The nodes of a ready program are as it is asked of nodes that are drawn.
use Rattle.std.proofs.Common.{◌≡◌, ℕ, if◌then◌else◌, List, [], ◌∷◌, Option, None, Some, reverse, refl, sym, ap, ◌∙◌}
use Rattle.std.specs.Str.{bytes_eq}
use Rattle.hp_tree.specs.declared.program.Item.{Item}
use Rattle.hp_tree.specs.declared.program.Item.TheVariants.{TypeItem, NodeItem}
use Rattle.hp_tree.specs.Blocks.{Block, block, Eqns, no_eqn, more_eqns, Eqn, define, switch, reset, automaton, Arms, no_arm, more_arms, States, no_state, more_states}
use Rattle.hp_tree.specs.Programs.{Contract, Node}
use Rattle.hp_tree.specs.Meaning.{types_of, node_among}
use Rattle.hp_typing.specs.Scopes.{inside_node, with_variables}
use Rattle.law_judged.specs.Typed.Scopes.{Scope as TypeScope}
use Rattle.law_values.specs.Valued.Judged.{body_scope as typed_body}
use Rattle.law_values.specs.Valued.Values.{scope_behind}
use Rattle.law_automata.proofs.LowerableLemmas.Texts.{onto}
use Rattle.law_games.specs.ReadyGames.Laws.{Stands, IsInOrder}
use Rattle.law_games.proofs.ReadyGamesLemmas.Ordered.{all_stand}
use Rattle.law_games.proofs.ReadyGamesLemmas.Settled.{class, ranked}
use Rattle.hp_drawing.specs.Told.{with_node, with_nodes, none_of, told_of}
use Rattle.hp_drawing.specs.DrawnNodes.{drawn_node}
use Rattle.law_drawing.specs.Carrying.Drawable.{BlockDrawable, EqnsDrawable, EqnDrawable, ArmsDrawable, StatesDrawable, ContractDrawable}
use Rattle.law_drawing.proofs.DrawableLemmas.Fitting.{told, fits}
use Rattle.law_drawing.proofs.DrawableLemmas.Programs.{drawable}
use Rattle.law_drawing.specs.NoCircle.Asked.{BlockApart, EqnsApart, EqnApart, ArmsApart, EachApart, ContractApart}
use Rattle.law_drawing.specs.NoCircle.Nodes.{ContractAsked, NodeAsked}
use Rattle.law_drawing.specs.NoCircle.Laws.{NodeCircleLaw, NoCircleLaw}
use Rattle.law_drawing.proofs.NoCircleLemmas.Nodes.{alone, node-marked}
use Rattle.law_drawing.proofs.NoCircleLemmas.Circles.{no-circle}

pub node-circle : NodeCircleLaw
node-circle types t n asked wires c = let m = node-marked types t n asked in no-circle alone (λ k q. q) (drawn_node t n) m.0 m.1 wires c

-- ---- what is declared has names of its own

mutual
  block-apart : (g : TypeScope) (b : Block) → BlockDrawable g b → BlockApart b
  block-apart g (block ds es) h = (h.0, eqns-apart (with_variables g ds) es h.1.1)

  eqns-apart : (g : TypeScope) (es : Eqns) → EqnsDrawable g es → EqnsApart es
  eqns-apart g no_eqn h = tt
  eqns-apart g (more_eqns e es) h = (eqn-apart g e h.1.0, eqns-apart g es h.1.1)

  eqn-apart : (g : TypeScope) (e : Eqn) → EqnDrawable g e → EqnApart e
  eqn-apart g (define q xs e) h = tt
  eqn-apart g (switch q e arms) h = arms-apart g arms h.1
  eqn-apart g (reset q b e) h = block-apart g b h
  eqn-apart g (automaton q ss) h = states-apart g ss h.1

  arms-apart : (g : TypeScope) (arms : Arms) → ArmsDrawable g arms → ArmsApart arms
  arms-apart g no_arm h = tt
  arms-apart g (more_arms c b q arms) h = (block-apart g b h.0, arms-apart g arms h.1)

  states-apart : (g : TypeScope) (ss : States) → StatesDrawable g ss → EachApart ss
  states-apart g no_state h = tt
  states-apart g (more_states f b until unless q ss) h = (block-apart g b h.0, states-apart g ss h.1)

contract-apart : (g : TypeScope) (c : Option Contract) → ContractDrawable g c → ContractApart c
contract-apart g None h = tt
contract-apart g (Some c) h = block-apart g c.body h

-- ---- behind some items no variable is known

alone-behind : (items : List Item) → (scope_behind items).variables ≡ []
alone-behind [] = refl
alone-behind (TypeItem t ∷ items) = alone-behind items
alone-behind (NodeItem n ∷ items) = alone-behind items

-- ---- what the tables have stands in the program

table-from : (before : List ℕ → Option Node) (there items : List Item) (f : List ℕ) → ((g : List ℕ) → before g ≡ node_among there g) → with_nodes before items f ≡ node_among (onto items there) f
table-from before there [] f h = h f
table-from before there (TypeItem t ∷ items) f h = table-from before (TypeItem t ∷ there) items f h
table-from before there (NodeItem n ∷ items) f h = table-from (with_node before (NodeItem n)) (NodeItem n ∷ there) items f (λ g. ap (λ o. if bytes_eq n.name g then Some n else o) (h g))

table : (after : List Item) (f : List ℕ) → (told_of after).nodes f ≡ node_among (reverse after) f
table after f = table-from none_of [] after f (λ g. refl)

module _ (program after : List Item) (ranks : List (List ℕ)) (o : IsInOrder program after ranks) where
  stood : (f : List ℕ) (m : Node) → (told_of after).nodes f ≡ Some m → (earlier : List Item) × Stands after earlier m
  stood f m e = all_stand after f m (sym (table after f) ∙ e)

  contract-asked : (earlier : List Item) (m : Node) → Stands after earlier m → ContractAsked (types_of after) (told_of after) m
  contract-asked earlier m st =
      let ok = (class program after ranks o earlier m st).1.0.sound in
      let d = drawable program after ranks o earlier m st in
      record {
        among = node_among earlier;
        known = λ f k e. told program after ranks o earlier m st f k e;
        scope = scope_behind earlier;
        alone = alone-behind earlier;
        inputs = ok.0.0;
        outputs = ok.0.1;
        sound = ok.1.1.1.1.1;
        fits = (fits program after ranks o earlier m st).contract;
        apart = contract-apart (inside_node (scope_behind earlier) m) m.contract d.node.contract;
        ranked = (ranked program after ranks o earlier m st).0;
      }

  pub node-asked : (earlier : List Item) (n : Node) → Stands after earlier n → NodeAsked (types_of after) (told_of after) n
  node-asked earlier n st =
      let d = drawable program after ranks o earlier n st in
      record {
        among = node_among earlier;
        known = λ f k e. told program after ranks o earlier n st f k e;
        scope = scope_behind earlier;
        alone = alone-behind earlier;
        sound = (class program after ranks o earlier n st).1.0.sound;
        fits = fits program after ranks o earlier n st;
        body_apart = block-apart (typed_body (scope_behind earlier) n) n.body d.node.body;
        contract_apart = contract-apart (inside_node (scope_behind earlier) n) n.contract d.node.contract;
        ranked = (ranked program after ranks o earlier n st).0;
        callees = λ f m e. let s = stood f m e in contract-asked s.0 m s.1;
      }

pub ready-circle : NoCircleLaw
ready-circle program after ranks o earlier n st wires c = node-circle (types_of after) (told_of after) n (node-asked program after ranks o earlier n st) wires c
