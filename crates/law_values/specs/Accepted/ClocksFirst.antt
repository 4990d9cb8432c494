-- That each name of a node's clocks is First where its clock stands.
use Rattle.std.specs.Prelude.{⊤, IsFalse, List, [], ◌∷◌, Option, None, Some}
use Rattle.hp_tree.specs.Blocks.{Decl, Block, block, Eqns, no_eqn, more_eqns, Eqn, define, switch, reset, automaton, Arms, no_arm, more_arms, States, no_state, more_states}
use Rattle.hp_tree.specs.Programs.{Contract, Node}
use Rattle.hp_tree.specs.Instant.{Body, Observer, Equations, Head, Tail, Arms as ArmsOf, States as StatesOf, Place, Clock}
use Rattle.hp_meaning.specs.Causal.Sources.{below}
use Rattle.hp_meaning.specs.Clocking.Terms.{value}
use Rattle.hp_meaning.specs.Clocking.Clocking.{Assignment, local_term, in_observer, in_body}
use Rattle.hp_init.specs.Classes as classes
use Rattle.hp_init.specs.Classes.{Classes, Known, known_in, known_within, known_outputs}

abbrev pub AllFirst : Classes → Clock → Type 0
AllFirst second [] = ⊤
AllFirst second (on ∷ clock) = IsFalse (second on.1) × AllFirst second clock

module _ (at : Assignment) where
  abbrev pub LocalsFirst : Classes → Eqns → (Place → Place) → List Decl → Type 0
  LocalsFirst second es here [] = ⊤
  LocalsFirst second es here (d ∷ ds) = AllFirst second (value at (local_term es here d)) × LocalsFirst second es here ds

  abbrev mutual
    pub BlockFirst : Known → classes.Assignment → (Place → Place) → Block → Type 0
    BlockFirst k class here (block ds es) =
        LocalsFirst (known_in (block ds es) class k).values es here ds × EqnsFirst (known_in (block ds es) class k) (λ p. class (Equations ∷ p)) (below Equations here) es

    pub EqnsFirst : Known → classes.Assignment → (Place → Place) → Eqns → Type 0
    EqnsFirst k class here no_eqn = ⊤
    EqnsFirst k class here (more_eqns e es) = EqnFirst k (λ p. class (Head ∷ p)) (below Head here) e × EqnsFirst k (λ p. class (Tail ∷ p)) (below Tail here) es

    pub EqnFirst : Known → classes.Assignment → (Place → Place) → Eqn → Type 0
    EqnFirst k class here (define s ys e) = ⊤
    EqnFirst k class here (switch s e arms) = ArmsFirst (known_within (switch s e arms) k) (λ p. class (ArmsOf ∷ p)) (below ArmsOf here) arms
    EqnFirst k class here (reset s b e) = BlockFirst (known_within (reset s b e) k) (λ p. class (Body ∷ p)) (below Body here) b
    EqnFirst k class here (automaton s ss) = StatesFirst (known_within (automaton s ss) k) (λ p. class (StatesOf ∷ p)) (below StatesOf here) ss

    pub ArmsFirst : Known → classes.Assignment → (Place → Place) → Arms → Type 0
    ArmsFirst k class here no_arm = ⊤
    ArmsFirst k class here (more_arms c b s arms) = BlockFirst k (λ p. class (Head ∷ p)) (below Head here) b × ArmsFirst k (λ p. class (Tail ∷ p)) (below Tail here) arms

    pub StatesFirst : Known → classes.Assignment → (Place → Place) → States → Type 0
    StatesFirst k class here no_state = ⊤
    StatesFirst k class here (more_states f b until unless s ss) =
        BlockFirst k (λ p. class (Head ∷ Body ∷ p)) (below Body (below Head here)) b × StatesFirst k (λ p. class (Tail ∷ p)) (below Tail here) ss

  abbrev pub ContractFirst : Known → classes.Assignment → Option Contract → Type 0
  ContractFirst k class None = ⊤
  ContractFirst k class (Some c) = BlockFirst k class in_observer c.body

  -- of a node
  abbrev pub NodeFirst : classes.Assignment → Node → Type 0
  NodeFirst class n = ContractFirst (known_outputs n class) (λ p. class (Observer ∷ p)) n.contract × BlockFirst (known_outputs n class) (λ p. class (Body ∷ p)) in_body n.body
