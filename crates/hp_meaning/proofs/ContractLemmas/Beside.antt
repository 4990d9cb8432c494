-- What is early depends on nothing that it does not read.
use Rattle.std.proofs.Common.{◌≡◌, ℕ, List, [], ◌∷◌, None, Some, refl, sym, ap, ◌∙◌, subst, ⊎_elim}
use Rattle.std.specs.Prelude.{Bool, true, false, ◌&&◌, if◌then◌else◌, Option}
use Rattle.std.specs.Str.{bytes_eq}
use Rattle.hp_tree.specs.declared.block.Trans.{Trans}
use Rattle.hp_tree.specs.declared.program.Item.{Item}
use Rattle.hp_tree.specs.Expressions.{Expr, constant, variable, last_of, one, two, choose, pre, fby, arrow, when_is, merge, call, Exprs, no_expr, more_exprs, Parts, no_part, more_parts}
use Rattle.hp_tree.specs.Blocks.{Decl, Block, block, Eqns, no_eqn, more_eqns, Eqn, define, switch, reset, automaton, States, no_state, more_states}
use Rattle.hp_tree.specs.Programs.{Contract, Node}
use Rattle.hp_tree.specs.Operators.{is_comparison}
use Rattle.hp_tree.specs.Instant.{Step, Controls, Body, Observer, Assume, Enforce, Named, Equations, Head, Tail, Right, Test, States as StatesOf, Unless, Active, First, Second, Third, Args, Instance, Place, Clock, without}
use Rattle.hp_tree.specs.Meaning.{declares, some_defines, clock_of, controls_of}
use Rattle.hp_meaning.specs.Causal.Sources.{Sources, none, only, both, also, IsBeside, NameSources, PlaceSources, below}
use Rattle.hp_meaning.specs.Causal.WhatIsRead.{of_clock, of_expr, of_parts, names_in, names_in_block, control_in, has_equation, output_in, at_expr, at_exprs, at_parts, at_conditions, in_block, in_equations, in_equation, in_each_state, at_told, in_contract}
use Rattle.hp_meaning.specs.Causal.Causality.{sources}
use Rattle.hp_meaning.specs.Causal.Clocked.{ClocksRight}
use Rattle.hp_meaning.specs.Causal.Steering.{Unsteered}
use Rattle.hp_meaning.proofs.CausalLemmas.Clocks.{early}
use Rattle.hp_meaning.proofs.CausalLemmas.Unsteered.{steering, abstract_steering}
use Rattle.hp_meaning.specs.Contract.FreePlaces.{FreeClocks, by_step, if_compared, outputs_free, free_in, free_in_all, free_in_parts, free_in_conditions, free_in_states, free_in_equation, free_in_equations, free_in_block, free_in_told, free_in_contract, own_free, IsEarly, EarlyValuesLaw, AbstractEarlyValuesLaw}

abbrev pub NoneBeside : Sources → Type 0
NoneBeside s = (r : Place) → IsBeside r s → ⊥

both_none : (s t : Sources) → NoneBeside s → NoneBeside t → NoneBeside (both s t)
both_none s t h k r b = ⊎_elim (h r) (k r) b

abbrev NamesNone : NameSources → Type 0
NamesNone names = (x : List ℕ) → NoneBeside (names x)

abbrev PlacesNone : PlaceSources → Type 0
PlacesNone k = (p : Place) → NoneBeside (k p)

abbrev base : Clock
base = []

not_free : {X : Type 0} → None ≡ Some base → X
not_free e = absurd (cc)

some_same : (c d : Clock) → Some c ≡ Some d → c ≡ d
some_same c d e = cc

-- ---- what is read

mutual
  reads_none : (e : Expr) (names : NameSources) (k : PlaceSources) → NamesNone names → PlacesNone k → NoneBeside (of_expr e names k)
  reads_none (constant s c) names k h w = λ r b. b
  reads_none (variable s x) names k h w = h x
  reads_none (last_of s x) names k h w = λ r b. b
  reads_none (one s o a) names k h w = reads_none a names (below First k) h (λ p. w (First ∷ p))
  reads_none (two s o a b) names k h w =
      both_none (of_expr a names (below First k)) (of_expr b names (below Second k)) (reads_none a names (below First k) h (λ p. w (First ∷ p))) (reads_none b names (below Second k) h (λ p. w (Second ∷ p)))
  reads_none (choose s a b c) names k h w =
      both_none (of_expr a names (below First k)) (both (of_expr b names (below Second k)) (of_expr c names (below Third k)))
      (reads_none a names (below First k) h (λ p. w (First ∷ p)))
      (both_none (of_expr b names (below Second k)) (of_expr c names (below Third k)) (reads_none b names (below Second k) h (λ p. w (Second ∷ p))) (reads_none c names (below Third k) h (λ p. w (Third ∷ p))))
  reads_none (pre s a) names k h w = λ r b. b
  reads_none (fby s a b) names k h w = reads_none a names (below First k) h (λ p. w (First ∷ p))
  reads_none (arrow s a b) names k h w =
      both_none (of_expr a names (below First k)) (of_expr b names (below Second k)) (reads_none a names (below First k) h (λ p. w (First ∷ p))) (reads_none b names (below Second k) h (λ p. w (Second ∷ p)))
  reads_none (when_is s a c x) names k h w = both_none (names x) (of_expr a names (below First k)) (h x) (reads_none a names (below First k) h (λ p. w (First ∷ p)))
  reads_none (merge s x ps) names k h w = both_none (names x) (of_parts ps names (below Args k)) (h x) (parts_none ps names (below Args k) h (λ p. w (Args ∷ p)))
  reads_none (call s f inlined es) names k h w = w []

  parts_none : (ps : Parts) (names : NameSources) (k : PlaceSources) → NamesNone names → PlacesNone k → NoneBeside (of_parts ps names k)
  parts_none no_part names k h w = λ r b. b
  parts_none (more_parts c e ps) names k h w =
      both_none (of_expr e names (below Head k)) (of_parts ps names (below Tail k)) (reads_none e names (below Head k) h (λ p. w (Head ∷ p))) (parts_none ps names (below Tail k) h (λ p. w (Tail ∷ p)))

-- ---- free places in an expression

compared_clock : (t : Bool) (clock : Clock) (ks : List (Step × FreeClocks)) → if_compared t clock (by_step ks) [] ≡ Some base → clock ≡ []
compared_clock true clock ks e = some_same clock [] e
compared_clock false clock ks e = not_free e

compared_below : (t : Bool) (clock : Clock) (k : FreeClocks) (s : Step) (p : Place) → if_compared t clock k (s ∷ p) ≡ k (s ∷ p)
compared_below true clock k s p = refl
compared_below false clock k s p = refl

outputs_clock : (clock : Clock) (p : Place) → outputs_free clock p ≡ Some base → clock ≡ []
outputs_clock clock (Named x ∷ []) e = some_same clock [] e
outputs_clock clock p e = not_free e

mutual
  expr_none : (e : Expr) (clock : Clock) (names : NameSources) (k : PlaceSources) → NamesNone names → PlacesNone k → (p : Place) → free_in e clock p ≡ Some base → NoneBeside (at_expr e clock names k p)
  expr_none (constant s c) clock names k h w p e = not_free e
  expr_none (variable s x) clock names k h w p e = not_free e
  expr_none (last_of s x) clock names k h w p e = not_free e
  expr_none (one s o a) clock names k h w (First ∷ p) e = expr_none a clock names (below First k) h (λ p. w (First ∷ p)) p e
  expr_none (one s o a) clock names k h w p e = not_free e
  expr_none (two s o a b) clock names k h w [] e =
      let c = compared_clock (is_comparison o) clock ((First, free_in a clock) ∷ (Second, free_in b clock) ∷ []) e in
      subst (λ c. NoneBeside (both (also (of_clock c names)) (of_expr (two s o a b) names k))) (sym c)
      (both_none (also none) (of_expr (two s o a b) names k) (λ r b. b) (reads_none (two s o a b) names k h w))
  expr_none (two s o a b) clock names k h w (First ∷ p) e =
      expr_none a clock names (below First k) h (λ p. w (First ∷ p)) p (sym (compared_below (is_comparison o) clock (by_step ((First, free_in a clock) ∷ (Second, free_in b clock) ∷ [])) First p) ∙ e)
  expr_none (two s o a b) clock names k h w (Second ∷ p) e =
      expr_none b clock names (below Second k) h (λ p. w (Second ∷ p)) p (sym (compared_below (is_comparison o) clock (by_step ((First, free_in a clock) ∷ (Second, free_in b clock) ∷ [])) Second p) ∙ e)
  expr_none (two s o a b) clock names k h w (t ∷ p) e = not_free (sym (compared_below (is_comparison o) clock (by_step ((First, free_in a clock) ∷ (Second, free_in b clock) ∷ [])) t p) ∙ e)
  expr_none (choose s a b c) clock names k h w (First ∷ p) e = expr_none a clock names (below First k) h (λ p. w (First ∷ p)) p e
  expr_none (choose s a b c) clock names k h w (Second ∷ p) e = expr_none b clock names (below Second k) h (λ p. w (Second ∷ p)) p e
  expr_none (choose s a b c) clock names k h w (Third ∷ p) e = expr_none c clock names (below Third k) h (λ p. w (Third ∷ p)) p e
  expr_none (choose s a b c) clock names k h w p e = not_free e
  expr_none (pre s a) clock names k h w (First ∷ p) e = expr_none a clock names (below First k) h (λ p. w (First ∷ p)) p e
  expr_none (pre s a) clock names k h w p e = not_free e
  expr_none (fby s a b) clock names k h w (First ∷ p) e = expr_none a clock names (below First k) h (λ p. w (First ∷ p)) p e
  expr_none (fby s a b) clock names k h w (Second ∷ p) e = expr_none b clock names (below Second k) h (λ p. w (Second ∷ p)) p e
  expr_none (fby s a b) clock names k h w p e = not_free e
  expr_none (arrow s a b) clock names k h w (First ∷ p) e = expr_none a clock names (below First k) h (λ p. w (First ∷ p)) p e
  expr_none (arrow s a b) clock names k h w (Second ∷ p) e = expr_none b clock names (below Second k) h (λ p. w (Second ∷ p)) p e
  expr_none (arrow s a b) clock names k h w p e = not_free e
  expr_none (when_is s a c x) clock names k h w (First ∷ p) e = expr_none a (without clock) names (below First k) h (λ p. w (First ∷ p)) p e
  expr_none (when_is s a c x) clock names k h w p e = not_free e
  expr_none (merge s x ps) clock names k h w (Args ∷ p) e = merged_none ps x clock names (below Args k) h (λ p. w (Args ∷ p)) p e
  expr_none (merge s x ps) clock names k h w p e = not_free e
  expr_none (call s f inlined es) clock names k h w (Args ∷ p) e = exprs_none es clock names (below Args k) h (λ p. w (Args ∷ p)) p e
  expr_none (call s f inlined es) clock names k h w (Instance ∷ p) e =
      subst (λ c. NoneBeside (both (also (of_clock c names)) (k []))) (sym (outputs_clock clock p e)) (both_none (also none) (k []) (λ r b. b) (w []))
  expr_none (call s f inlined es) clock names k h w p e = not_free e

  exprs_none : (es : Exprs) (clock : Clock) (names : NameSources) (k : PlaceSources) → NamesNone names → PlacesNone k → (p : Place) → free_in_all es clock p ≡ Some base → NoneBeside (at_exprs es clock names k p)
  exprs_none no_expr clock names k h w p e = not_free e
  exprs_none (more_exprs a es) clock names k h w (Head ∷ p) e = expr_none a clock names (below Head k) h (λ p. w (Head ∷ p)) p e
  exprs_none (more_exprs a es) clock names k h w (Tail ∷ p) e = exprs_none es clock names (below Tail k) h (λ p. w (Tail ∷ p)) p e
  exprs_none (more_exprs a es) clock names k h w p e = not_free e

  merged_none : (ps : Parts) (x : List ℕ) (clock : Clock) (names : NameSources) (k : PlaceSources) → NamesNone names → PlacesNone k → (p : Place) → free_in_parts ps x clock p ≡ Some base → NoneBeside (at_parts ps x clock names k p)
  merged_none no_part x clock names k h w p e = not_free e
  merged_none (more_parts c a ps) x clock names k h w (Head ∷ p) e = expr_none a ((c, x) ∷ clock) names (below Head k) h (λ p. w (Head ∷ p)) p e
  merged_none (more_parts c a ps) x clock names k h w (Tail ∷ p) e = merged_none ps x clock names (below Tail k) h (λ p. w (Tail ∷ p)) p e
  merged_none (more_parts c a ps) x clock names k h w p e = not_free e

-- ---- in a block

conditions_none : (ts : List Trans) (names : NameSources) (k : PlaceSources) → NamesNone names → PlacesNone k → (p : Place) → free_in_conditions ts p ≡ Some base → NoneBeside (at_conditions ts names k p)
conditions_none [] names k h w p e = not_free e
conditions_none (t ∷ ts) names k h w (Head ∷ p) e = expr_none t.cond [] names (below Head k) h (λ p. w (Head ∷ p)) p e
conditions_none (t ∷ ts) names k h w (Tail ∷ p) e = conditions_none ts names (below Tail k) h (λ p. w (Tail ∷ p)) p e
conditions_none (t ∷ ts) names k h w p e = not_free e

states_none : (ss : States) (active : Sources) (names inner : NameSources) (k : PlaceSources) → NamesNone names → PlacesNone k → (p : Place) → free_in_states ss p ≡ Some base → NoneBeside (in_each_state ss active names inner k p)
states_none no_state active names inner k h w p e = not_free e
states_none (more_states f b until unless s ss) active names inner k h w (Head ∷ Unless ∷ p) e = conditions_none unless names (below Unless (below Head k)) h (λ p. w (Head ∷ Unless ∷ p)) p e
states_none (more_states f b until unless s ss) active names inner k h w (Tail ∷ p) e = states_none ss active names inner (below Tail k) h (λ p. w (Tail ∷ p)) p e
states_none (more_states f b until unless s ss) active names inner k h w p e = not_free e

equation_none : (ds : List Decl) (e : Eqn) (names : NameSources) (k : PlaceSources) → NamesNone names → PlacesNone k → (p : Place) → free_in_equation ds e p ≡ Some base → NoneBeside (in_equation ds e names k p)
equation_none ds (define s ys a) names k h w (Right ∷ p) e = expr_none a (clock_of ds ys a) names (below Right k) h (λ p. w (Right ∷ p)) p e
equation_none ds (define s ys a) names k h w p e = not_free e
equation_none ds (switch s a arms) names k h w (Test ∷ p) e = expr_none a [] names (below Test k) h (λ p. w (Test ∷ p)) p e
equation_none ds (switch s a arms) names k h w p e = not_free e
equation_none ds (reset s b a) names k h w (Test ∷ p) e = expr_none a [] names (below Test k) h (λ p. w (Test ∷ p)) p e
equation_none ds (reset s b a) names k h w p e = not_free e
equation_none ds (automaton s ss) names k h w (StatesOf ∷ p) e = states_none ss (k (Active ∷ [])) names _ (below StatesOf k) h (λ p. w (StatesOf ∷ p)) p e
equation_none ds (automaton s ss) names k h w p e = not_free e

equations_none : (ds : List Decl) (es : Eqns) (names : NameSources) (k : PlaceSources) → NamesNone names → PlacesNone k → (p : Place) → free_in_equations ds es p ≡ Some base → NoneBeside (in_equations ds es names k p)
equations_none ds no_eqn names k h w p e = not_free e
equations_none ds (more_eqns a es) names k h w (Head ∷ p) e = equation_none ds a names (below Head k) h (λ p. w (Head ∷ p)) p e
equations_none ds (more_eqns a es) names k h w (Tail ∷ p) e = equations_none ds es names (below Tail k) h (λ p. w (Tail ∷ p)) p e
equations_none ds (more_eqns a es) names k h w p e = not_free e

if_none : (d : Bool) (s t : Sources) → NoneBeside s → NoneBeside t → NoneBeside (if d then s else t)
if_none true s t h k = h
if_none false s t h k = k

names_none : (es : Eqns) (names : NameSources) (k : PlaceSources) → NamesNone names → PlacesNone k → NamesNone (names_in es names k)
names_none es names k h w x = if_none (some_defines es x) (k (Named x ∷ [])) (names x) (w (Named x ∷ [])) (h x)

block_none : (b : Block) (names : NameSources) (k : PlaceSources) → NamesNone names → PlacesNone k → (p : Place) → free_in_block b p ≡ Some base → NoneBeside (in_block b names k p)
block_none (block ds es) names k h w (Equations ∷ p) e = equations_none ds es (names_in es names k) (below Equations k) (names_none es names k h w) (λ p. w (Equations ∷ p)) p e
block_none (block ds es) names k h w p e = not_free e

own_names_none : (b : Block) (names : NameSources) (k : PlaceSources) → NamesNone names → PlacesNone k → NamesNone (names_in_block b names k)
own_names_none (block ds es) names k h w = names_none es names k h w

-- ---- in a node

told_none : (a : Option Expr) (names : NameSources) (k : PlaceSources) → NamesNone names → PlacesNone k → (p : Place) → free_in_told a p ≡ Some base → NoneBeside (at_told a names k p)
told_none None names k h w p e = not_free e
told_none (Some a) names k h w p e = expr_none a [] names k h w p e

control_none : (ds : List Decl) (k : PlaceSources) → PlacesNone k → NamesNone (control_in ds k)
control_none [] k w x = λ r b. b
control_none (d ∷ ds) k w x = if_none (bytes_eq d.name x) (k (Head ∷ [])) (control_in ds (below Tail k) x) (w (Head ∷ [])) (control_none ds (below Tail k) (λ p. w (Tail ∷ p)) x)

output_none : (n : Node) (k : PlaceSources) → PlacesNone k → NamesNone (output_in n k)
output_none n k w x = if_none (declares n.outputs x && has_equation n.body x) (k (Named x ∷ [])) none (w (Named x ∷ [])) (λ r b. b)

contract_none : (c : Option Contract) (names : NameSources) (k : PlaceSources) → NamesNone names → PlacesNone k → (p : Place) → by_step (free_in_contract c) p ≡ Some base → NoneBeside (in_contract c names k p)
contract_none None names k h w [] e = not_free e
contract_none None names k h w (s ∷ p) e = not_free e
contract_none (Some c) names k h w (Observer ∷ p) e = block_none c.body names (below Observer k) h (λ p. w (Observer ∷ p)) p e
contract_none (Some c) names k h w (Assume ∷ p) e = told_none c.assume (names_in_block c.body names (below Observer k)) (below Assume k) (own_names_none c.body names (below Observer k) h (λ p. w (Observer ∷ p))) (λ p. w (Assume ∷ p)) p e
contract_none (Some c) names k h w (Enforce ∷ p) e = told_none c.enforce (names_in_block c.body names (below Observer k)) (below Enforce k) (own_names_none c.body names (below Observer k) h (λ p. w (Observer ∷ p))) (λ p. w (Enforce ∷ p)) p e
contract_none (Some c) names k h w p e = not_free e

pub node_none : (n : Node) (p : Place) → own_free n p ≡ Some base → NoneBeside (sources n p)
node_none n [] e = not_free e
node_none n (Body ∷ p) e = block_none n.body (control_in (controls_of n.contract) (below Controls only)) (below Body only) (control_none (controls_of n.contract) (below Controls only) (λ p r b. b)) (λ p r b. b) p e
node_none n (Named x ∷ []) e = output_none n (below Body only) (λ p r b. b) x
node_none n p e = contract_none n.contract (output_in n (below Body only)) only (output_none n (below Body only) (λ p r b. b)) (λ p r b. b) p e

controls_not_free : (b : FreeClocks) (c : Option Contract) (q : Place) → by_step ((Body, b) ∷ free_in_contract c) (Controls ∷ q) ≡ Some base → ⊥
controls_not_free b None q e = not_free e
controls_not_free b (Some c) q e = not_free e

-- An early place does not depend on the controllable variables.
pub early_unsteered : (program : List Item) (n : Node) (p : Place) → ClocksRight n → IsEarly program n p → Unsteered n p
early_unsteered program n p right is =
    early n p right
    (λ q e. controls_not_free (free_in_block n.body) n.contract q (sym (ap (own_free n) e) ∙ is.on_base))
    (node_none n p is.on_base) is.unsteered

pub early_values : EarlyValuesLaw
early_values reading program f n inputs past free controls others now other r right e m k p is =
    steering reading program f n inputs past free controls others now other r e m k p (early_unsteered program n p right is)

pub abstract_early_values : AbstractEarlyValuesLaw
abstract_early_values program f n inputs past free controls others now other r right e m k p is =
    abstract_steering program f n inputs past free controls others now other r e m k p (early_unsteered program n p right is)
