-- Where nodes can be drawn, the names of each list of declarations are apart.
use Rattle.std.proofs.Common.{◌≡◌, ℕ, Bool, true, false, ◌||◌, List, [], ◌∷◌, ◌++◌, Option, None, Some, refl, sym, ◌∙◌}
use Rattle.std.specs.Prelude.{IsFalse, reverse}
use Rattle.std.proofs.lemmas.Slice.Eq.{bytes_eq-Decides}
use Rattle.std.specs.Str.{bytes_eq}
use Rattle.hp_tree.specs.declared.program.Item.{Item}
use Rattle.hp_tree.specs.declared.program.Item.TheVariants.{TypeItem, NodeItem}
use Rattle.hp_tree.specs.Blocks.{Decl, Block, block, Eqns, no_eqn, more_eqns, Eqn, define, switch, reset, automaton, Arms, no_arm, more_arms, States, no_state, more_states}
use Rattle.hp_tree.specs.Meaning.{declares}
use Rattle.hp_tree.specs.Programs.{Contract, Node}
use Rattle.law_judged.specs.Typed.Scopes.{Scope}
use Rattle.hp_typing.specs.Scopes.{with_variables}
use Rattle.law_games.specs.Mirror.Memories.{AreApart}
use Rattle.law_drawing.specs.Carrying.Drawable.{BlockDrawable, EqnsDrawable, EqnDrawable, ArmsDrawable, StatesDrawable, ContractDrawable, NodeDrawable}
use Rattle.hp_drawing.proofs.SlottedLemmas.Declaring.{BlockDeclares, EqnsDeclare, EqnDeclares, ArmsDeclare, StatesDeclare, ContractDeclares, NodeDeclares, NodesDeclare, Lacks, DeclaresApart}
use Rattle.law_games.specs.ReadyGames.Laws.{Stands}
use Rattle.law_drawing.specs.Drawable.Laws.{IsDrawable}

-- each node of a program can be drawn
abbrev pub AreDrawable : List Item → Type 0
AreDrawable program = (earlier : List Item) (n : Node) → Stands program earlier n → IsDrawable program earlier n

-- ---- a list of declarations

lacks : (ds : List Decl) (x : List ℕ) → IsFalse (declares ds x) → Lacks x ds
lacks [] x h = tt
lacks (d ∷ ds) x h = by (bytes_eq d.name x) refl (lacks ds x) h
  where
    by : (b : Bool) → bytes_eq d.name x ≡ b → (IsFalse (declares ds x) → Lacks x ds) → IsFalse (b || declares ds x) → (d.name ≡ x → ⊥) × Lacks x ds
    by true e others h = absurd cc
    by false e others h = ((λ same. let no : true ≡ false = sym ((bytes_eq-Decides d.name x).1 same) ∙ e in absurd cc), others h)

apart : (ds : List Decl) → AreApart ds → DeclaresApart ds
apart [] h = tt
apart (d ∷ ds) h = (lacks ds d.name h.0, apart ds h.1)

-- ---- blocks

mutual
  block_apart : (s : Scope) (b : Block) → BlockDrawable s b → BlockDeclares DeclaresApart b
  block_apart s (block ds es) h = (apart ds h.0, eqns_apart (with_variables s ds) es h.1.1)

  eqns_apart : (s : Scope) (es : Eqns) → EqnsDrawable s es → EqnsDeclare DeclaresApart es
  eqns_apart s no_eqn h = tt
  eqns_apart s (more_eqns e es) h = (eqn_apart s e h.1.0, eqns_apart s es h.1.1)

  eqn_apart : (s : Scope) (e : Eqn) → EqnDrawable s e → EqnDeclares DeclaresApart e
  eqn_apart s (define at ys e) h = tt
  eqn_apart s (switch at e arms) h = arms_apart s arms h.1
  eqn_apart s (reset at b e) h = block_apart s b h
  eqn_apart s (automaton at ss) h = states_apart s ss h.1

  arms_apart : (s : Scope) (arms : Arms) → ArmsDrawable s arms → ArmsDeclare DeclaresApart arms
  arms_apart s no_arm h = tt
  arms_apart s (more_arms c b at arms) h = (block_apart s b h.0, arms_apart s arms h.1)

  states_apart : (s : Scope) (ss : States) → StatesDrawable s ss → StatesDeclare DeclaresApart ss
  states_apart s no_state h = tt
  states_apart s (more_states f b until unless at ss) h = (block_apart s b h.0, states_apart s ss h.1)

contract_apart : (s : Scope) (o : Option Contract) → ContractDrawable s o → ContractDeclares DeclaresApart o
contract_apart s None h = tt
contract_apart s (Some c) h = block_apart s c.body h

-- ---- nodes

pub node_apart : (s : Scope) (n : Node) → NodeDrawable s n → NodeDeclares DeclaresApart n
node_apart s n h = (apart n.outputs h.outputs, (contract_apart _ n.contract h.contract, block_apart _ n.body h.body))

pub one_more : (later : List Item) (item : Item) (items : List Item) → later ++ item ∷ items ≡ (later ++ item ∷ []) ++ items
one_more [] item items = refl
one_more (x ∷ later) item items = λ i. x ∷ one_more later item items i

-- of all that stand in a program, the last one first
each_apart : (program : List Item) → AreDrawable program → (items later : List Item) → reverse program ≡ later ++ items → NodesDeclare DeclaresApart items
each_apart program h [] later e = tt
each_apart program h (TypeItem t ∷ items) later e = each_apart program h items (later ++ TypeItem t ∷ []) (e ∙ one_more later (TypeItem t) items)
each_apart program h (NodeItem n ∷ items) later e =
    (node_apart _ n (h items n (later, e)).node, each_apart program h items (later ++ NodeItem n ∷ []) (e ∙ one_more later (NodeItem n) items))

abbrev pub onto : List Item → List Item → List Item
onto [] ys = ys
onto (x ∷ xs) ys = onto xs (x ∷ ys)

from_onto : (xs ys : List Item) → NodesDeclare DeclaresApart (onto xs ys) → NodesDeclare DeclaresApart xs × NodesDeclare DeclaresApart ys
from_onto [] ys h = (tt, h)
from_onto (TypeItem t ∷ xs) ys h = from_onto xs (TypeItem t ∷ ys) h
from_onto (NodeItem n ∷ xs) ys h = let r = from_onto xs (NodeItem n ∷ ys) h in ((r.1.0, r.0), r.1.1)

pub all_apart : (program : List Item) → AreDrawable program → NodesDeclare DeclaresApart program
all_apart program h = (from_onto program [] (each_apart program h (reverse program) [] refl)).0
