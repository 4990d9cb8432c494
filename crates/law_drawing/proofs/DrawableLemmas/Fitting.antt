-- The calls of the nodes of a ready program fit.
use Rattle.std.proofs.Common.{◌≡◌, ℕ, List, [], ◌∷◌, ◌++◌, reverse, refl, sym, ap, subst, ◌∙◌}
use Rattle.std.specs.Prelude.{Bool, true, false, if◌then◌else◌, Option, None, Some}
use Rattle.std.specs.Str.{bytes_eq}
use Rattle.hp_tree.specs.declared.program.Item.{Item}
use Rattle.hp_tree.specs.declared.program.Item.TheVariants.{TypeItem, NodeItem}
use Rattle.hp_tree.specs.Blocks.{Block, block, Eqns, no_eqn, more_eqns, Eqn, define, switch, reset, automaton, Arms, no_arm, more_arms, States, no_state, more_states}
use Rattle.hp_tree.specs.Programs.{Contract, Node}
use Rattle.hp_tree.specs.Meaning.{types_of, node_among}
use Rattle.law_judged.specs.Named.Scoped.{EachNode}
use Rattle.law_judged.specs.Once.Once as once
use Rattle.law_judged.specs.Once.Once.{DefinedOnce}
use Rattle.hp_typing.specs.Scopes.{inside_node}
use Rattle.law_values.specs.Valued.Judged.{lasts_in, no_lasts}
use Rattle.law_values.specs.Valued.Values.{scope_behind}
use Rattle.law_values.proofs.ValuedLemmas.Typed.{some_is}
use Rattle.law_automata.proofs.LowerableLemmas.Texts.{onto, each_reverse}
use Rattle.law_games.specs.ReadyGames.Laws.{Stands, IsInOrder}
use Rattle.law_games.proofs.ReadyGamesLemmas.Settled.{class, found}
use Rattle.hp_drawing.specs.Told.{with_node, with_nodes, none_of, told_of}
use Rattle.law_drawing.specs.Steered.Asked.{ContractFits}
use Rattle.law_drawing.specs.Steered.Accepted.{IsOnce, AllOnce, OneOnce, ArmsOnce, StatesOnce, ContractOnce}
use Rattle.law_drawing.proofs.SteeredLemmas.Accepted.{contract-fits, node-fits}
use Rattle.law_drawing.specs.Drawable.Fitting.{ToldLaw, FitsLaw}
use Rattle.law_drawing.proofs.DrawableLemmas.Programs.{each_behind, ready_once}

-- ---- one equation for each name

mutual
  block_once : (b : Block) → once.BlockOnce b → IsOnce b
  block_once (block ds es) h = all_once es h

  all_once : (es : Eqns) → once.AllOnce es → AllOnce es
  all_once no_eqn h = tt
  all_once (more_eqns e es) h = (h.0, one_once e h.1.0, all_once es h.1.1)

  one_once : (e : Eqn) → once.OneOnce e → OneOnce e
  one_once (define s ys e) h = tt
  one_once (switch s e arms) h = arms_once arms h
  one_once (reset s b e) h = block_once b h
  one_once (automaton s ss) h = states_once ss h

  arms_once : (arms : Arms) → once.ArmsOnce arms → ArmsOnce arms
  arms_once no_arm h = tt
  arms_once (more_arms c b s arms) h = (block_once b h.0, arms_once arms h.1)

  states_once : (ss : States) → once.StatesOnce ss → StatesOnce ss
  states_once no_state h = tt
  states_once (more_states f b until unless s ss) h = (block_once b h.0, states_once ss h.1)

contract_once : (o : Option Contract) → once.ContractOnce o → ContractOnce o
contract_once None h = tt
contract_once (Some c) h = block_once c.body h

-- ---- the tables

table_from : (before : List ℕ → Option Node) (there items : List Item) (f : List ℕ) → ((g : List ℕ) → before g ≡ node_among there g) → with_nodes before items f ≡ node_among (onto items there) f
table_from before there [] f h = h f
table_from before there (TypeItem t ∷ items) f h = table_from before (TypeItem t ∷ there) items f h
table_from before there (NodeItem n ∷ items) f h = table_from (with_node before (NodeItem n)) (NodeItem n ∷ there) items f (λ g. ap (λ o. if bytes_eq n.name g then Some n else o) (h g))

table : (after : List Item) (f : List ℕ) → (told_of after).nodes f ≡ node_among (reverse after) f
table after f = table_from none_of [] after f (λ g. refl)

pub told : ToldLaw
told program after ranks o earlier n st f m e = table after f ∙ found program after ranks o earlier n st f m e

-- ---- the nodes

-- what is found stands behind the items before it
found_there : (items : List Item) (f : List ℕ) (m : Node) → node_among items f ≡ Some m → (later : List Item) × ((earlier : List Item) × (items ≡ later ++ NodeItem m ∷ earlier))
found_there [] f m e = absurd (cc)
found_there (TypeItem t ∷ items) f m e = let q = found_there items f m e in (TypeItem t ∷ q.0, (q.1.0, ap (λ z. TypeItem t ∷ z) q.1.1))
found_there (NodeItem n ∷ items) f m e = by (bytes_eq n.name f) e (found_there items f m)
  where
    by : (b : Bool) → (if b then Some n else node_among items f) ≡ Some m → (node_among items f ≡ Some m → (later : List Item) × ((earlier : List Item) × (items ≡ later ++ NodeItem m ∷ earlier)))
        → (later : List Item) × ((earlier : List Item) × (NodeItem n ∷ items ≡ later ++ NodeItem m ∷ earlier))
    by true q g = ([], (items, ap (λ (z : Node). NodeItem z ∷ items) (some_is n m q)))
    by false q g = let r = g q in (NodeItem n ∷ r.0, (r.1.0, ap (λ z. NodeItem n ∷ z) r.1.1))

once_here : (program after : List Item) (ranks : List (List ℕ)) → IsInOrder program after ranks → (earlier : List Item) (n : Node) → Stands after earlier n → DefinedOnce n
once_here program after ranks o earlier n st = (each_behind DefinedOnce st.0 (NodeItem n ∷ earlier) (subst (EachNode DefinedOnce) st.1 (each_reverse DefinedOnce after (ready_once program after o.ready)))).0

observer_fits : (program after : List Item) (ranks : List (List ℕ)) → IsInOrder program after ranks → (earlier : List Item) (n : Node) → Stands after earlier n → ContractFits (told_of after) n.contract
observer_fits program after ranks o earlier n st =
    let a = class program after ranks o earlier n st in
    contract-fits (types_of after) (node_among earlier) (told_of after) (λ f m e. told program after ranks o earlier n st f m e) (inside_node (scope_behind earlier) n) (lasts_in n.outputs no_lasts) n.contract a.1.0.sound.1.1.1.1.1 (contract_once n.contract (once_here program after ranks o earlier n st).0)

all_observers_fit : (program after : List Item) (ranks : List (List ℕ)) → IsInOrder program after ranks → (f : List ℕ) (m : Node) → (told_of after).nodes f ≡ Some m → ContractFits (told_of after) m.contract
all_observers_fit program after ranks o f m e =
    let q = found_there (reverse after) f m (sym (table after f) ∙ e) in
    observer_fits program after ranks o q.1.0 m (q.0, q.1.1)

pub fits : FitsLaw
fits program after ranks o earlier n st =
    let a = class program after ranks o earlier n st in
    let u = once_here program after ranks o earlier n st in
    node-fits (types_of after) (node_among earlier) (told_of after) (λ f m e. told program after ranks o earlier n st f m e) (scope_behind earlier) n a.1.0.sound (contract_once n.contract u.0) (block_once n.body u.1) (all_observers_fit program after ranks o)
