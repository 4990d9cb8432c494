-- Instants that fit, where the values of names are forgotten.
use Rattle.std.proofs.Common.{ℕ, suc, List, [], ◌∷◌, refl}
use Rattle.std.specs.Prelude.{Bool, true, false, ◌&&◌, nat_eq, IsTrue, Option, None, Some}
use Rattle.hp_base.specs.declared.value.Value.{Value}
use Rattle.hp_tree.specs.Expressions.{Expr}
use Rattle.hp_tree.specs.Blocks.{Decl, Block, block, Eqns, no_eqn, more_eqns, Eqn, define, switch, reset, automaton, Arms, no_arm, more_arms, States, no_state, more_states}
use Rattle.hp_tree.specs.Programs.{TypeDecl, Contract, Node}
use Rattle.hp_tree.specs.Operators.{is_cons}
use Rattle.hp_tree.specs.Instant.{Body, Observer, Equations, Head, Tail, Test, Arms as ArmsOf, States as StatesOf, Until, Active, Instant, part, Clock, holds, without}
use Rattle.hp_tree.specs.Meaning.{Names, inside as inside_names, within, state_of}
use Rattle.hp_typing.specs.Scopes.{with_variables, inside_node}
use Rattle.law_judged.specs.Typed.Scopes.{Scope}
use Rattle.hp_init.specs.Classes.{Classes, Assignment}
use Rattle.law_values.specs.Valued.Judged.{body_scope}
use Rattle.law_values.specs.Valued.Classed.{classes_in, classes_within, none_second}
use Rattle.law_values.specs.Valued.Fitting.{IsPresence, IsThere, held, names_inside, BlockFits, EqnsFit, EqnFits, ArmsFit, StatesFit, ContractAt as ContractStands, contract_names, ContractFits, NodeFits}
use Rattle.law_values.proofs.ValuedLemmas.Loose.{BlockLoose, EqnsLoose, EqnLoose, ArmsLoose, StatesLoose, ContractAt, ContractLoose, NodeLoose}

and_right : (a b : Bool) → IsTrue (a && b) → IsTrue b
and_right true b h = h
and_right false b h = absurd (cc)

pub is_presence : (types : List TypeDecl) (names : Names) → IsPresence (λ c. holds types c names)
is_presence types names = record { base = refl; shorter = by }
  where
    by : (c : Clock) → IsTrue (holds types c names) → IsTrue (holds types (without c) names)
    by [] h = h
    by (on ∷ c) h = and_right (is_cons types (names on.1) on.0) (holds types c names) h

there_as : (d : Bool) (Q R : Instant → Type 0) (i : Instant) → ((j : Instant) → Q j → R j) → IsThere d Q i → IsThere d R i
there_as true Q R i f h = f i h
there_as false Q R i f h = h

module _ (types : List TypeDecl) (nils : Bool) (fits : List ℕ → Instant → Type 0) where
  mutual
    pub block_loose : (b : Block) (s : Scope) (second : Classes) (class : Assignment) (names : Names) (i : Instant) → BlockFits types nils fits s second class names b i → BlockLoose types nils fits s second class b i
    block_loose (block ds es) s second class names i h =
        (held types nils fits (inside_names es names i), (is_presence types (inside_names es names i), (h.0, eqns_loose es ds (with_variables s ds) (classes_in es second class) (λ p. class (Equations ∷ p)) (inside_names es names i) (part Equations i) h.1.1)))

    pub eqns_loose : (es : Eqns) (ds : List Decl) (s : Scope) (second : Classes) (class : Assignment) (names : Names) (i : Instant) → EqnsFit types nils fits ds s second class names es i → EqnsLoose types nils fits ds s second class (held types nils fits names) es i
    eqns_loose no_eqn ds s second class names i h = tt
    eqns_loose (more_eqns e es) ds s second class names i h =
        (eqn_loose e ds s second (λ p. class (Head ∷ p)) names (part Head i) h.0, eqns_loose es ds s second (λ p. class (Tail ∷ p)) names (part Tail i) h.1)

    eqn_loose : (e : Eqn) (ds : List Decl) (s : Scope) (second : Classes) (class : Assignment) (names : Names) (i : Instant) → EqnFits types nils fits ds s second class names e i → EqnLoose types nils fits ds s second class (held types nils fits names) e i
    eqn_loose (define a ys e) ds s second class names i h = h
    eqn_loose (switch a e arms) ds s second class names i h =
        (h.0, arms_loose arms s (classes_within (switch a e arms) second) (λ p. class (ArmsOf ∷ p)) (within (switch a e arms) names h.1.0) (i (Test ∷ [])) (part ArmsOf i) h.1.1)
    eqn_loose (reset a b e) ds s second class names i h =
        (h.0, block_loose b s (classes_within (reset a b e) second) (λ p. class (Body ∷ p)) (within (reset a b e) names h.1.0) (part Body i) h.1.1)
    eqn_loose (automaton a ss) ds s second class names i h =
        (h.0, (h.1.0, states_loose ss s second (classes_within (automaton a ss) second) (λ p. class (StatesOf ∷ p)) names (within (automaton a ss) names h.1.1.1.0) (i (Active ∷ [])) 0 (part StatesOf i) h.1.1.1.1))

    arms_loose : (arms : Arms) (s : Scope) (second : Classes) (class : Assignment) (names : Names) (v : Value) (i : Instant) → ArmsFit types nils fits s second class names v arms i → ArmsLoose types nils fits s second class arms i
    arms_loose no_arm s second class names v i h = tt
    arms_loose (more_arms c b a arms) s second class names v i h =
        ((is_cons types v c, there_as (is_cons types v c) _ _ (part Head i) (λ j k. block_loose b s second (λ p. class (Head ∷ p)) names j k) h.0), arms_loose arms s second (λ p. class (Tail ∷ p)) names v (part Tail i) h.1)

    states_loose : (ss : States) (s : Scope) (out second : Classes) (class : Assignment) (onames names : Names) (v : Value) (k : ℕ) (i : Instant) → StatesFit types nils fits s out second class onames names v k ss i → StatesLoose types nils fits s out second class (held types nils fits onames) ss i
    states_loose no_state s out second class onames names v k i h = tt
    states_loose (more_states f b until unless a ss) s out second class onames names v k i h = (
      (
        (
          nat_eq k (state_of v),
          (
            there_as (nat_eq k (state_of v)) _ _ (part Body (part Head i)) (λ j z. block_loose b s second (λ p. class (Head ∷ Body ∷ p)) names j z) h.0.0,
            there_as (nat_eq k (state_of v)) _ _ (part Until (part Head i))
                (λ j z. (held types nils fits (names_inside types nils fits b names (part Body (part Head i))), (is_presence types (names_inside types nils fits b names (part Body (part Head i))), z))) h.0.1.0,
          ),
        ),
        h.0.1.1,
      ),
      states_loose ss s out second (λ p. class (Tail ∷ p)) onames names v (suc k) (part Tail i) h.1,
    )

  contract_stands : (b : Block) (assume enforce : Option Expr) (s : Scope) (class : Assignment) (names : Names) (i : Instant) → ContractStands types nils fits s class names b assume enforce i → ContractAt types nils fits s class b assume enforce i
  contract_stands (block ds es) assume enforce s class names i h = (
    held types nils fits (inside_names es names (part Observer i)),
    (
      is_presence types (inside_names es names (part Observer i)),
      ((h.0.0, eqns_loose es ds (with_variables s ds) (classes_in es none_second (λ p. class (Observer ∷ p))) (λ p. class (Observer ∷ Equations ∷ p)) (inside_names es names (part Observer i)) (part Equations (part Observer i)) h.0.1.1), h.1),
    ),
  )

  contract_loose : (k : Option Contract) (s : Scope) (class : Assignment) (names : Names) (i : Instant) → ContractFits types nils fits s class names k i → ContractLoose types nils fits s class k i
  contract_loose None s class names i h = tt
  contract_loose (Some c) s class names i h = contract_stands c.body c.assume c.enforce s class names i h

  pub node_loose : (s : Scope) (class : Assignment) (n : Node) (i : Instant) → NodeFits types nils fits s class n i → NodeLoose types nils fits s class n i
  node_loose s class n i h = (
    (h.0.0, block_loose n.body (body_scope s n) none_second (λ p. class (Body ∷ p)) _ (part Body i) h.0.1.1.1.1.1),
    contract_loose n.contract (inside_node s n) class (contract_names types nils fits n i) i h.1,
  )
