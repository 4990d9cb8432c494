-- What follows where each local is declared once and has an equation.
use Rattle.std.proofs.Common.{List, [], ◌∷◌, refl, ap, ◌∙◌}
use Rattle.std.proofs.lemmas.Slice.Eq.{bytes_eq-Decides}
use Rattle.std.specs.Prelude.{if◌then◌else◌, Option, None, Some}
use Rattle.hp_tree.specs.Blocks.{Decl, Block, block, Eqns, no_eqn, more_eqns, Eqn, define, switch, reset, automaton, Arms, no_arm, more_arms, States, no_state, more_states}
use Rattle.hp_tree.specs.Programs.{Contract, Node}
use Rattle.hp_tree.specs.Meaning.{written, clock_in}
use Rattle.hp_meaning.specs.Clocking.Clocking.{EachBlock, EachOfAll, EachOfOne, EachOfArms, EachOfStates, EachInContract, AreDefined, AreFound, AreOnce, NamesRight, NodeNamed, NodeFound, NodeDefined}
use Rattle.hp_meaning.proofs.ClockingLemmas.Passed.{Apart, apart}

module _ (P Q : List Decl → Eqns → Type 0) (f : (ds : List Decl) (es : Eqns) → P ds es → Q ds es) where
  mutual
    pub each_block : (b : Block) → EachBlock P b → EachBlock Q b
    each_block (block ds es) h = (f ds es h.0, each_all es h.1)

    each_all : (es : Eqns) → EachOfAll P es → EachOfAll Q es
    each_all no_eqn h = tt
    each_all (more_eqns e es) h = (each_one e h.0, each_all es h.1)

    each_one : (e : Eqn) → EachOfOne P e → EachOfOne Q e
    each_one (define s ys e) h = tt
    each_one (switch s e arms) h = each_arm arms h
    each_one (reset s b e) h = each_block b h
    each_one (automaton s ss) h = each_state ss h

    each_arm : (arms : Arms) → EachOfArms P arms → EachOfArms Q arms
    each_arm no_arm h = tt
    each_arm (more_arms c b s arms) h = (each_block b h.0, each_arm arms h.1)

    each_state : (ss : States) → EachOfStates P ss → EachOfStates Q ss
    each_state no_state h = tt
    each_state (more_states n b until unless s ss) h = (each_block b h.0, each_state ss h.1)

  pub each_in_contract : (c : Option Contract) → EachInContract P c → EachInContract Q c
  each_in_contract None h = tt
  each_in_contract (Some c) h = each_block c.body h

lifted : (d : Decl) (all ds : List Decl) → Apart d.name ds → AreFound all ds → AreFound (d ∷ all) ds
lifted d all [] a h = tt
lifted d all (k ∷ ds) a h = (ap (λ z. if z then written d.clock else clock_in all k.name) a.0 ∙ h.0, lifted d all ds a.1 h.1)

found : (ds : List Decl) → AreOnce ds → AreFound ds ds
found [] o = tt
found (d ∷ ds) o =
    (ap (λ z. if z then written d.clock else clock_in ds d.name) ((bytes_eq-Decides d.name d.name).1 refl), lifted d ds ds (apart d.name ds o.0) (found ds o.1))

pub node_found : (n : Node) → NodeNamed n → NodeFound n
node_found n h =
    let f : (ds : List Decl) (es : Eqns) → NamesRight ds es → AreFound ds ds = λ ds es k. found ds k.0 in
    (each_block NamesRight (λ ds es. AreFound ds ds) f n.body h.0, each_in_contract NamesRight (λ ds es. AreFound ds ds) f n.contract h.1)

pub node_defined : (n : Node) → NodeNamed n → NodeDefined n
node_defined n h =
    let f : (ds : List Decl) (es : Eqns) → NamesRight ds es → AreDefined ds es = λ ds es k. k.1 in
    (each_block NamesRight AreDefined f n.body h.0, each_in_contract NamesRight AreDefined f n.contract h.1, h.2)
