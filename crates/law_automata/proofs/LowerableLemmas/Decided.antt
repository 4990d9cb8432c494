-- In instants that fit, conditions of transitions have truth values.
use Rattle.std.proofs.Common.{◌≡◌, ℕ, suc, List, [], ◌∷◌, reverse, subst}
use Rattle.std.specs.Prelude.{Bool, true, false, nat_eq, Option, None, Some}
use Rattle.std.specs.Str.{bytes_eq}
use Rattle.hp_base.specs.declared.value.Value.{Value}
use Rattle.hp_base.specs.declared.value.Value.TheVariants.{Absent}
use Rattle.hp_tree.specs.declared.block.Trans.{Trans}
use Rattle.hp_tree.specs.declared.program.Item.{Item}
use Rattle.hp_tree.specs.declared.program.Item.TheVariants.{TypeItem, NodeItem}
use Rattle.hp_tree.specs.Expressions.{Expr, constant, variable, last_of, one, two, choose, pre, fby, arrow, when_is, merge, call, Exprs, no_expr, more_exprs, Parts, no_part, more_parts}
use Rattle.hp_tree.specs.Blocks.{Decl, Block, block, Eqns, no_eqn, more_eqns, Eqn, define, switch, reset, automaton, Arms, no_arm, more_arms, States, no_state, more_states}
use Rattle.hp_tree.specs.Programs.{TypeDecl, Contract, Node}
use Rattle.hp_tree.specs.Operators.{is_there, is_cons}
use Rattle.hp_tree.specs.Instant.{Body, Observer, Assume, Enforce, Fresh, Equations, Head, Tail, Right, Test, Arms as ArmsOf, States as StatesOf, Until, Unless, Active, First, Second, Third, Args, Instance, Instant, Past, part, Clock, without}
use Rattle.hp_tree.specs.Meaning.{Names, inside as inside_names, within, clock_of, state_of, types_of, node_among}
use Rattle.hp_tree.specs.Reaction.{Each}
use Rattle.hp_meaning.proofs.CausalLemmas.Ranking.{all_ranks_enough}
use Rattle.hp_typing.specs.Scopes.{with_variables, inside, inside_node}
use Rattle.law_judged.specs.Typed.Scopes.{Scope}
use Rattle.hp_init.specs.Classes.{Classes, Assignment}
use Rattle.law_values.specs.Valued.Judged.{Lasts, lasts_in, lasts_of, no_lasts, body_scope}
use Rattle.law_values.specs.Valued.Classed.{classes_in, classes_within, classes_of, none_second, seen_in_node}
use Rattle.law_values.specs.Valued.Fitting.{Presence, IsThere, held, names_inside, ExprFits, ExprsFit, PartsFit, TestsFit, BlockFits, EqnsFit, EqnFits, ArmsFit, StatesFit, body_names, contract_names, ToldFits, ContractFits, NodeFits}
use Rattle.law_values.specs.Valued.Values.{scope_behind, Classing, class_here, class_behind, AreAccepted, either_of, InstantFits}
use Rattle.law_values.proofs.ValuedLemmas.Both.{TestsOk, BlockOk, EqnsOk, EqnOk, ArmsOk, StatesOk, ContractOk}
use Rattle.law_values.proofs.ValuedLemmas.Decided.{Decided, decided}
use Rattle.law_values.proofs.ValuedLemmas.Joined.{node_ok}
use Rattle.law_values.proofs.ValuedLemmas.Loosen.{is_presence}
use Rattle.law_values.proofs.ValuedLemmas.Programs.{real_values, filled_values}
use Rattle.law_values.proofs.AcceptedLemmas.Laws.{accepted}
use Rattle.law_automata.specs.Lowered.Deciding.{Property, IfThere, RowDecided, ExprDecided, ExprsDecided, PartsDecided, BlockDecided, EqnsDecided, EqnDecided, ArmsDecided, StatesDecided, ConditionDecided, ContractDecided, NodeDecided, decided_among}
use Rattle.law_automata.specs.Lowered.Standing.{either_is}
use Rattle.law_automata.specs.Lowerable.Laws.{DecidedLaw, FilledDecidedLaw}

-- what is not there, begins nothing
never_there : {X : Type 0} (i : Instant) → i (Fresh ∷ []) ≡ Absent → is_there (i (Fresh ∷ [])) ≡ true → X
never_there i e t = let k : is_there Absent ≡ true = subst (λ v. is_there v ≡ true) e t in absurd (cc k)

if_there : (d : Bool) (Q P : Instant → Type 0) (i : Instant) → (Q i → P i) → IsThere d Q i → IfThere P i
if_there true Q P i f h t = f h
if_there false Q P i f h t = never_there i (h (Fresh ∷ [])) t

-- the same of a part that is there together with a body
if_body : (d : Bool) (R Q : Instant → Type 0) (P : Type 0) (i j : Instant) → (Q j → P) → IsThere d R i → IsThere d Q j → is_there (i (Fresh ∷ [])) ≡ true → P
if_body true R Q P i j f b h t = f h
if_body false R Q P i j f b h t = never_there i (b (Fresh ∷ [])) t

module _ (types : List TypeDecl) (nils : Bool) (fits : List ℕ → Instant → Type 0) (told : List ℕ → Property) (all : (f : List ℕ) (i : Instant) → fits f i → told f i) (among : List ℕ → Option Node) where
  mutual
    expr_decided : (e : Expr) (s : Scope) (second : Classes) (there : Presence) (clock : Clock) (i : Instant) → ExprFits types nils fits s second there e clock i → ExprDecided told e i
    expr_decided (constant at c) s second there clock i h = tt
    expr_decided (variable at x) s second there clock i h = tt
    expr_decided (last_of at x) s second there clock i h = tt
    expr_decided (one at o a) s second there clock i h = expr_decided a s second there clock (part First i) h.1
    expr_decided (two at o a b) s second there clock i h = (expr_decided a s second there clock (part First i) h.1.0, expr_decided b s second there clock (part Second i) h.1.1)
    expr_decided (choose at a b c) s second there clock i h =
        (expr_decided a s second there clock (part First i) h.1.0, expr_decided b s second there clock (part Second i) h.1.1.0, expr_decided c s second there clock (part Third i) h.1.1.1)
    expr_decided (pre at a) s second there clock i h = expr_decided a s second there clock (part First i) h.1
    expr_decided (fby at a b) s second there clock i h = (expr_decided a s second there clock (part First i) h.1.0, expr_decided b s second there clock (part Second i) h.1.1)
    expr_decided (arrow at a b) s second there clock i h = (expr_decided a s second there clock (part First i) h.1.0, expr_decided b s second there clock (part Second i) h.1.1)
    expr_decided (when_is at a c x) s second there clock i h = expr_decided a s second there (without clock) (part First i) h.1
    expr_decided (merge at x ps) s second there clock i h = parts_decided ps s second there x clock (part Args i) h.1
    expr_decided (call at f inlined es) s second there clock i h =
        (exprs_decided es s second there clock (part Args i) h.1.0, if_there (there clock) (fits f) (told f) (part Instance i) (λ k. all f (part Instance i) k) h.1.1)

    exprs_decided : (es : Exprs) (s : Scope) (second : Classes) (there : Presence) (clock : Clock) (i : Instant) → ExprsFit types nils fits s second there es clock i → ExprsDecided told es i
    exprs_decided no_expr s second there clock i h = tt
    exprs_decided (more_exprs e es) s second there clock i h = (expr_decided e s second there clock (part Head i) h.0, exprs_decided es s second there clock (part Tail i) h.1)

    parts_decided : (ps : Parts) (s : Scope) (second : Classes) (there : Presence) (x : List ℕ) (clock : Clock) (i : Instant) → PartsFit types nils fits s second there ps x clock i → PartsDecided told ps i
    parts_decided no_part s second there x clock i h = tt
    parts_decided (more_parts c e ps) s second there x clock i h = (expr_decided e s second there ((c, x) ∷ clock) (part Head i) h.0, parts_decided ps s second there x clock (part Tail i) h.1)

  -- the conditions of some transitions
  row_by : (s : Scope) (second : Classes) (lasts : Lasts) (there : Presence) (ts : List Trans) (i : Instant) → Decided types nils fits among s second lasts there ts i → RowDecided ts i
  row_by s second lasts there [] i h = tt
  row_by s second lasts there (t ∷ ts) i h = (h.0, row_by s second lasts there ts (part Tail i) h.1)

  row_decided : (s : Scope) (second : Classes) (lasts : Lasts) (names : Names) (ts : List Trans) (i : Instant) → TestsOk types among s second lasts ts → TestsFit types nils fits s second (held types nils fits names) ts i → RowDecided ts i
  row_decided s second lasts names ts i ok h = row_by s second lasts (held types nils fits names) ts i (decided types nils fits among s second lasts (held types nils fits names) (is_presence types names) ts i ok h)

  mutual
    block_decided : (b : Block) (s : Scope) (second : Classes) (lasts : Lasts) (class : Assignment) (names : Names) (i : Instant) → BlockOk types among s second lasts class b → BlockFits types nils fits s second class names b i → BlockDecided told b i
    block_decided (block ds es) s second lasts class names i ok h =
        eqns_decided es ds (with_variables s ds) (classes_in es second class) (lasts_in ds lasts) (λ p. class (Equations ∷ p)) (inside_names es names i) (part Equations i) ok.1.1 h.1.1

    eqns_decided : (es : Eqns) (ds : List Decl) (s : Scope) (second : Classes) (lasts : Lasts) (class : Assignment) (names : Names) (i : Instant) → EqnsOk types among s second lasts class es → EqnsFit types nils fits ds s second class names es i → EqnsDecided told es i
    eqns_decided no_eqn ds s second lasts class names i ok h = tt
    eqns_decided (more_eqns e es) ds s second lasts class names i ok h =
        (eqn_decided e ds s second lasts (λ p. class (Head ∷ p)) names (part Head i) ok.0 h.0, eqns_decided es ds s second lasts (λ p. class (Tail ∷ p)) names (part Tail i) ok.1 h.1)

    eqn_decided : (e : Eqn) (ds : List Decl) (s : Scope) (second : Classes) (lasts : Lasts) (class : Assignment) (names : Names) (i : Instant) → EqnOk types among s second lasts class e → EqnFits types nils fits ds s second class names e i → EqnDecided told e i
    eqn_decided (define at ys e) ds s second lasts class names i ok h = expr_decided e s second (held types nils fits names) (clock_of ds ys e) (part Right i) h
    eqn_decided (switch at e arms) ds s second lasts class names i ok h = (
      expr_decided e s second (held types nils fits names) [] (part Test i) h.0,
      arms_decided arms (switch at e arms) s (classes_within (switch at e arms) second) lasts (λ p. class (ArmsOf ∷ p)) (within (switch at e arms) names h.1.0) (i (Test ∷ [])) (part ArmsOf i) ok.1.1.1 h.1.1,
    )
    eqn_decided (reset at b e) ds s second lasts class names i ok h = (
      expr_decided e s second (held types nils fits names) [] (part Test i) h.0,
      λ t. block_decided b s (classes_within (reset at b e) second) lasts (λ p. class (Body ∷ p)) (within (reset at b e) names h.1.0) (part Body i) ok.1 h.1.1,
    )
    eqn_decided (automaton at ss) ds s second lasts class names i ok h =
        states_decided ss (automaton at ss) s second (classes_within (automaton at ss) second) lasts (λ p. class (StatesOf ∷ p)) names (within (automaton at ss) names h.1.1.1.0) (i (Active ∷ [])) 0 (part StatesOf i) ok h.1.1.1.1

    arms_decided : (arms : Arms) (e : Eqn) (s : Scope) (second : Classes) (lasts : Lasts) (class : Assignment) (names : Names) (v : Value) (i : Instant) → ArmsOk types among e s second lasts class arms → ArmsFit types nils fits s second class names v arms i → ArmsDecided told arms i
    arms_decided no_arm e s second lasts class names v i ok h = tt
    arms_decided (more_arms c b at arms) e s second lasts class names v i ok h = (
      if_there (is_cons types v c) _ (BlockDecided told b) (part Head i) (λ k. block_decided b s second lasts (λ p. class (Head ∷ p)) names (part Head i) ok.1.0 k) h.0,
      arms_decided arms e s second lasts (λ p. class (Tail ∷ p)) names v (part Tail i) ok.1.1 h.1,
    )

    states_decided : (ss : States) (e : Eqn) (s : Scope) (out second : Classes) (lasts : Lasts) (class : Assignment) (onames names : Names) (v : Value) (k : ℕ) (i : Instant) → StatesOk types among e s out second lasts class ss → StatesFit types nils fits s out second class onames names v k ss i → StatesDecided told ss i
    states_decided no_state e s out second lasts class onames names v k i ok h = tt
    states_decided (more_states f b until unless at ss) e s out second lasts class onames names v k i ok h =
        let body = part Body (part Head i) in (
          (
            row_decided s out lasts onames unless (part Unless (part Head i)) ok.1.1.1.0 h.0.1.1,
            λ t. if_body (nat_eq k (state_of v)) _ _ (RowDecided until (part Until (part Head i))) body (part Until (part Head i))
                (λ z. row_decided (inside s b) (classes_of b second (λ p. class (Head ∷ Body ∷ p))) (lasts_of b lasts) (names_inside types nils fits b names body) until (part Until (part Head i)) ok.1.1.0 z) h.0.0 h.0.1.0 t,
            if_there (nat_eq k (state_of v)) _ (BlockDecided told b) body (λ z. block_decided b s second lasts (λ p. class (Head ∷ Body ∷ p)) names body ok.1.0 z) h.0.0,
          ),
          states_decided ss e s out second lasts (λ p. class (Tail ∷ p)) onames names v (suc k) (part Tail i) ok.1.1.1.1 h.1,
        )

  told_decided : (o : Option Expr) (s : Scope) (second : Classes) (there : Presence) (i : Instant) → ToldFits types nils fits s second there o i → ConditionDecided told o i
  told_decided None s second there i h = tt
  told_decided (Some e) s second there i h = expr_decided e s second there [] i h

  contract_decided : (o : Option Contract) (s : Scope) (lasts : Lasts) (class : Assignment) (names : Names) (i : Instant) → ContractOk types among s lasts class o → ContractFits types nils fits s class names o i → ContractDecided told o i
  contract_decided None s lasts class names i ok h = tt
  contract_decided (Some c) s lasts class names i ok h = (
    block_decided c.body s none_second lasts (λ p. class (Observer ∷ p)) names (part Observer i) ok.0 h.0,
    told_decided c.assume _ _ _ (part Assume i) h.1.1.0,
    told_decided c.enforce _ _ _ (part Enforce i) h.1.1.1,
  )

module _ (types : List TypeDecl) (nils : Bool) where
  pub fits_decided : (class : Classing) (items : List Item) → AreAccepted types class items → (f : List ℕ) (i : Instant) → InstantFits types nils class items f i → decided_among items f i
  fits_decided class [] a f i h = tt
  fits_decided class (TypeItem t ∷ earlier) a f i h = fits_decided class earlier a f i h
  fits_decided class (NodeItem n ∷ earlier) a f i h =
      by (bytes_eq n.name f) (λ g j k. fits_decided (class_behind class) earlier a.1 g j k) h
    where
      here : ((g : List ℕ) (j : Instant) → InstantFits types nils (class_behind class) earlier g j → decided_among earlier g j) → NodeFits types nils (InstantFits types nils (class_behind class) earlier) (scope_behind earlier) (seen_in_node (class_here class) n) n i → NodeDecided (decided_among earlier) n i
      here all k =
          let s = scope_behind earlier in
          let c = seen_in_node (class_here class) n in
          let ok = node_ok types (node_among earlier) n s (class_here class) a.0.sound a.0.classes in (
            block_decided types nils (InstantFits types nils (class_behind class) earlier) (decided_among earlier) all (node_among earlier) n.body (body_scope s n) none_second (lasts_in n.outputs no_lasts) (λ p. c (Body ∷ p)) (body_names types nils (InstantFits types nils (class_behind class) earlier) n i) (part Body i) ok.1.1.1.1.0 k.0.1.1.1.1.1,
            contract_decided types nils (InstantFits types nils (class_behind class) earlier) (decided_among earlier) all (node_among earlier) n.contract (inside_node s n) (lasts_in n.outputs no_lasts) c (contract_names types nils (InstantFits types nils (class_behind class) earlier) n i) i ok.1.1.1.1.1 k.1,
          )

      by : (b : Bool) → ((g : List ℕ) (j : Instant) → InstantFits types nils (class_behind class) earlier g j → decided_among earlier g j) → either_of b (NodeFits types nils (InstantFits types nils (class_behind class) earlier) (scope_behind earlier) (seen_in_node (class_here class) n) n i) (InstantFits types nils (class_behind class) earlier f i) → either_is b (NodeDecided (decided_among earlier) n i) (decided_among earlier f i)
      by true all k = here all k
      by false all k = all f i k

  pub past_decided : (class : Classing) (items : List Item) → AreAccepted types class items → (f : List ℕ) (past : Past) → Each (InstantFits types nils class items f) past → Each (decided_among items f) past
  past_decided class items a f [] h = tt
  past_decided class items a f (i ∷ past) h = (fits_decided class items a f i h.0, past_decided class items a f past h.1)

-- ---- of programs that are ready

pub decided_law : DecidedLaw
decided_law program after ranks r fall f n inputs frees past e i h k =
    let a = accepted program after r in
    past_decided (types_of after) true a.0 (reverse after) a.1 f past (real_values after a.0 f n inputs frees past a.1 (all_ranks_enough after ranks fall) e i h k)

pub filled_decided_law : FilledDecidedLaw
filled_decided_law program after ranks r fall f n inputs frees past e i h k =
    let a = accepted program after r in
    past_decided (types_of after) false a.0 (reverse after) a.1 f past (filled_values after a.0 f n inputs frees past a.1 (all_ranks_enough after ranks fall) e i h k)
