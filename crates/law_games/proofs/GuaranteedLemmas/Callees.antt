-- Of each call of a node whose instant fits, the instance fits where it is there.
use Rattle.std.proofs.Common.{◌≡◌, ℕ, List, [], ◌∷◌, ◌++◌, refl, sym, ap, subst, ◌∙◌}
use Rattle.std.proofs.Math.Path.{fun_ext}
use Rattle.std.specs.Prelude.{Bool, true, false, IsTrue, filter, Option, None, Some}
use Rattle.hp_base.specs.declared.span.Span.{Span}
use Rattle.hp_base.specs.declared.value.Value.{Value}
use Rattle.hp_base.specs.declared.value.Value.TheVariants.{Absent}
use Rattle.hp_tree.specs.declared.block.Trans.{Trans}
use Rattle.hp_tree.specs.Expressions.{Expr, constant, variable, last_of, one, two, choose, pre, fby, arrow, when_is, merge, call, Exprs, no_expr, more_exprs, Parts, no_part, more_parts}
use Rattle.hp_tree.specs.Blocks.{Decl, Block, block, Eqns, no_eqn, more_eqns, Eqn, define, switch, reset, automaton, Arms, no_arm, more_arms, States, no_state, more_states}
use Rattle.hp_tree.specs.Programs.{TypeDecl, Contract, Node}
use Rattle.hp_tree.specs.Operators.{is_there}
use Rattle.hp_tree.specs.Instant.{Step, Controls, Body, Observer, Assume, Enforce, Named, Fresh, Equations, Head, Tail, Right, Test, Arms as ArmsOf, States as StatesOf, Until, Unless, First, Second, Third, Args, Instance, Place, Instant, Clock, part, without}
use Rattle.hp_tree.specs.Meaning.{clock_of, defines, names_of, controls_of}
use Rattle.hp_meaning.specs.Causal.Sources.{below}
use Rattle.hp_meaning.specs.declared.causal.point.PointKind.TheVariants as kind
use Rattle.hp_meaning.specs.Causal.Points.{Placed, Whereabouts, calls, calls_in_all, calls_in_parts, conditions, lefts, defined_by, points_of, points_of_all, points_of_one, points_of_arms, points_of_states, point_at, calls_told, points_of_contract, controls, points}
use Rattle.hp_meaning.specs.Contract.FreePlaces.{instance_at}
use Rattle.hp_typing.specs.Scopes.{with_variables, inside as into, inside_node}
use Rattle.law_judged.specs.Typed.Scopes.{Scope}
use Rattle.hp_init.specs.Classes.{Classes, Assignment}
use Rattle.law_values.specs.Valued.Classed.{classes_in, classes_within, classes_of, none_second}
use Rattle.law_values.specs.Valued.Fitting.{Presence, IsPresence, IsThere, ExprFits, ExprsFit, PartsFit, TestsFit, ToldFits}
use Rattle.law_values.proofs.ValuedLemmas.Loose.{BlockLoose, EqnsLoose, EqnLoose, ArmsLoose, StatesLoose, BlockAt, ContractLoose, NodeLoose}
use Rattle.law_games.proofs.ForcedLemmas.EachCall.{EachCall, each_append, each_left, each_def, each_control}
use Rattle.law_games.proofs.ForcedLemmas.Outputs.{Way, way_below}

no_call : {X : Type 0} → IsTrue false → X
no_call e = absurd (cc)

absent_there : {X : Type 0} (v : Value) → v ≡ Absent → IsTrue (is_there v) → X
absent_there v e h = absurd (let k : IsTrue false = subst (λ z. IsTrue (is_there z)) e h in cc)

there_as : (d : Bool) (P Q : Instant → Type 0) (i : Instant) → ((j : Instant) → P j → Q j) → IsThere d P i → IsThere d Q i
there_as true P Q i f h = f i h
there_as false P Q i f h = h

module _ (types : List TypeDecl) (fits : List ℕ → Instant → Type 0) (now : Instant) where
  -- The instance of a call fits where it is there.
  abbrev pub CallFits : Placed → Type 0
  CallFits c = IsTrue (is_there (instance_at c now (Fresh ∷ []))) → fits c.point.name (instance_at c now)

  -- what the instant gives to a part
  abbrev seen : Whereabouts → Instant
  seen w p = now (w p)

  -- a part that is there, or not
  abbrev Maybe : (Instant → Type 0) → Instant → Type 0
  Maybe P i = (d : Bool) × IsThere d P i

  below_maybe : (P Q : Instant → Type 0) (s : Step) (i : Instant) → ((j : Instant) → P j → Maybe Q (part s j)) → Maybe P i → Maybe Q (part s i)
  below_maybe P Q s i f h = by h.0 h.1
    where
      by : (d : Bool) → IsThere d P i → Maybe Q (part s i)
      by true z = f i z
      by false z = (false, λ p. z (s ∷ p))

  below_too : (P Q : Instant → Type 0) (s : Step) (i : Instant) → ((j : Instant) → P j → Q (part s j)) → Maybe P i → Maybe Q (part s i)
  below_too P Q s i f h = below_maybe P Q s i (λ j z. (true, f j z)) h

  here : (f : List ℕ) (s : Span) (w : Whereabouts) → Way w → Maybe (fits f) (seen (below Instance w)) → CallFits (point_at kind.Call f s (w []))
  here f s w a h = by h.0 h.1
    where
      by : (d : Bool) → IsThere d (fits f) (seen (below Instance w)) → CallFits (point_at kind.Call f s (w []))
      by true h t = subst (fits f) (fun_ext (λ p. ap now (a (Instance ∷ p)))) h
      by false h t = absent_there (now (w [] ++ (Instance ∷ Fresh ∷ []))) (sym (ap now (a (Instance ∷ Fresh ∷ []))) ∙ h (Fresh ∷ [])) t

  module _ (s : Scope) (second : Classes) where
    abbrev Was : Expr → Clock → Instant → Type 0
    Was e clock j = (v : Presence) × ExprFits types true fits s second v e clock j

    abbrev AllWere : Exprs → Clock → Instant → Type 0
    AllWere es clock j = (v : Presence) × ExprsFit types true fits s second v es clock j

    abbrev PartsWere : Parts → List ℕ → Clock → Instant → Type 0
    PartsWere ps x clock j = (v : Presence) × PartsFit types true fits s second v ps x clock j

    abbrev TestsWere : List Trans → Instant → Type 0
    TestsWere ts j = (v : Presence) × TestsFit types true fits s second v ts j

    mutual
      expr_calls : (e : Expr) (clock : Clock) (w : Whereabouts) → Way w → Maybe (Was e clock) (seen w) → EachCall CallFits (calls e w)
      expr_calls (constant at c) clock w a h = tt
      expr_calls (variable at x) clock w a h = tt
      expr_calls (last_of at x) clock w a h = tt
      expr_calls (one at o b) clock w a h = expr_calls b clock (below First w) (way_below First w a) (below_too (Was (one at o b) clock) (Was b clock) First (seen w) (λ j z. (z.0, z.1.1)) h)
      expr_calls (two at o b c) clock w a h =
          each_append CallFits (calls b (below First w)) (calls c (below Second w))
          (expr_calls b clock (below First w) (way_below First w a) (below_too (Was (two at o b c) clock) (Was b clock) First (seen w) (λ j z. (z.0, z.1.1.0)) h))
          (expr_calls c clock (below Second w) (way_below Second w a) (below_too (Was (two at o b c) clock) (Was c clock) Second (seen w) (λ j z. (z.0, z.1.1.1)) h))
      expr_calls (choose at b c d) clock w a h =
          each_append CallFits (calls b (below First w)) (calls c (below Second w) ++ calls d (below Third w))
          (expr_calls b clock (below First w) (way_below First w a) (below_too (Was (choose at b c d) clock) (Was b clock) First (seen w) (λ j z. (z.0, z.1.1.0)) h))
          (each_append CallFits (calls c (below Second w)) (calls d (below Third w))
          (expr_calls c clock (below Second w) (way_below Second w a) (below_too (Was (choose at b c d) clock) (Was c clock) Second (seen w) (λ j z. (z.0, z.1.1.1.0)) h))
          (expr_calls d clock (below Third w) (way_below Third w a) (below_too (Was (choose at b c d) clock) (Was d clock) Third (seen w) (λ j z. (z.0, z.1.1.1.1)) h)))
      expr_calls (pre at b) clock w a h = expr_calls b clock (below First w) (way_below First w a) (below_too (Was (pre at b) clock) (Was b clock) First (seen w) (λ j z. (z.0, z.1.1)) h)
      expr_calls (fby at b c) clock w a h =
          each_append CallFits (calls b (below First w)) (calls c (below Second w))
          (expr_calls b clock (below First w) (way_below First w a) (below_too (Was (fby at b c) clock) (Was b clock) First (seen w) (λ j z. (z.0, z.1.1.0)) h))
          (expr_calls c clock (below Second w) (way_below Second w a) (below_too (Was (fby at b c) clock) (Was c clock) Second (seen w) (λ j z. (z.0, z.1.1.1)) h))
      expr_calls (arrow at b c) clock w a h =
          each_append CallFits (calls b (below First w)) (calls c (below Second w))
          (expr_calls b clock (below First w) (way_below First w a) (below_too (Was (arrow at b c) clock) (Was b clock) First (seen w) (λ j z. (z.0, z.1.1.0)) h))
          (expr_calls c clock (below Second w) (way_below Second w a) (below_too (Was (arrow at b c) clock) (Was c clock) Second (seen w) (λ j z. (z.0, z.1.1.1)) h))
      expr_calls (when_is at b c x) clock w a h = expr_calls b (without clock) (below First w) (way_below First w a) (below_too (Was (when_is at b c x) clock) (Was b (without clock)) First (seen w) (λ j z. (z.0, z.1.1)) h)
      expr_calls (merge at x ps) clock w a h = parts_calls ps x clock (below Args w) (way_below Args w a) (below_too (Was (merge at x ps) clock) (PartsWere ps x clock) Args (seen w) (λ j z. (z.0, z.1.1)) h)
      expr_calls (call at f inlined es) clock w a h = (
        (λ e. here f at w a (below_maybe (Was (call at f inlined es) clock) (fits f) Instance (seen w) (λ j z. (z.0 clock, z.1.1.1)) h)),
        exprs_calls es clock (below Args w) (way_below Args w a) (below_too (Was (call at f inlined es) clock) (AllWere es clock) Args (seen w) (λ j z. (z.0, z.1.1.0)) h),
      )

      exprs_calls : (es : Exprs) (clock : Clock) (w : Whereabouts) → Way w → Maybe (AllWere es clock) (seen w) → EachCall CallFits (calls_in_all es w)
      exprs_calls no_expr clock w a h = tt
      exprs_calls (more_exprs e es) clock w a h =
          each_append CallFits (calls e (below Head w)) (calls_in_all es (below Tail w))
          (expr_calls e clock (below Head w) (way_below Head w a) (below_too (AllWere (more_exprs e es) clock) (Was e clock) Head (seen w) (λ j z. (z.0, z.1.0)) h))
          (exprs_calls es clock (below Tail w) (way_below Tail w a) (below_too (AllWere (more_exprs e es) clock) (AllWere es clock) Tail (seen w) (λ j z. (z.0, z.1.1)) h))

      parts_calls : (ps : Parts) (x : List ℕ) (clock : Clock) (w : Whereabouts) → Way w → Maybe (PartsWere ps x clock) (seen w) → EachCall CallFits (calls_in_parts ps w)
      parts_calls no_part x clock w a h = tt
      parts_calls (more_parts c e ps) x clock w a h =
          each_append CallFits (calls e (below Head w)) (calls_in_parts ps (below Tail w))
          (expr_calls e ((c, x) ∷ clock) (below Head w) (way_below Head w a) (below_too (PartsWere (more_parts c e ps) x clock) (Was e ((c, x) ∷ clock)) Head (seen w) (λ j z. (z.0, z.1.0)) h))
          (parts_calls ps x clock (below Tail w) (way_below Tail w a) (below_too (PartsWere (more_parts c e ps) x clock) (PartsWere ps x clock) Tail (seen w) (λ j z. (z.0, z.1.1)) h))

    tests_calls : (ts : List Trans) (w : Whereabouts) → Way w → Maybe (TestsWere ts) (seen w) → EachCall CallFits (conditions ts w)
    tests_calls [] w a h = tt
    tests_calls (t ∷ ts) w a h = (
      (λ e. no_call e),
      each_append CallFits (calls t.cond (below Head w)) (conditions ts (below Tail w))
          (expr_calls t.cond [] (below Head w) (way_below Head w a) (below_too (TestsWere (t ∷ ts)) (Was t.cond []) Head (seen w) (λ j z. (z.0, z.1.0)) h))
          (tests_calls ts (below Tail w) (way_below Tail w a) (below_too (TestsWere (t ∷ ts)) (TestsWere ts) Tail (seen w) (λ j z. (z.0, z.1.1)) h)),
    )

  -- ---- blocks

  abbrev EqnsWere : List Decl → Scope → Classes → Assignment → Eqns → Instant → Type 0
  EqnsWere ds s second class es j = (v : Presence) × EqnsLoose types true fits ds s second class v es j

  abbrev EqnWas : List Decl → Scope → Classes → Assignment → Eqn → Instant → Type 0
  EqnWas ds s second class e j = (v : Presence) × EqnLoose types true fits ds s second class v e j

  abbrev StatesWere : Scope → Classes → Classes → Assignment → States → Instant → Type 0
  StatesWere s out second class ss j = (v : Presence) × StatesLoose types true fits s out second class v ss j

  abbrev UntilWas : Scope → Classes → Assignment → Block → List Trans → Instant → Type 0
  UntilWas s second class b until j = (v : Presence) × (IsPresence v × TestsFit types true fits (into s b) (classes_of b second class) v until j)

  abbrev StateWas : Scope → Classes → Classes → Assignment → Block → List Trans → List Trans → Instant → Type 0
  StateWas s out second class b until unless j =
      (v : Presence)
      × (((d : Bool) × (IsThere d (BlockLoose types true fits s second class b) (part Body j) × IsThere d (UntilWas s second class b until) (part Until j)))
      × TestsFit types true fits s out v unless (part Unless j))

  mutual
    block_calls : (declared : List (List ℕ)) (b : Block) (s : Scope) (second : Classes) (class : Assignment) (w : Whereabouts) → Way w → Maybe (BlockLoose types true fits s second class b) (seen w) → EachCall CallFits (points_of declared b w)
    block_calls declared (block ds es) s second class w a h =
        eqns_calls (declared ++ names_of ds) (λ y. w (Named y ∷ [])) ds es (with_variables s ds) (classes_in es second class) (λ p. class (Equations ∷ p)) (below Equations w) (way_below Equations w a)
        (below_too (BlockLoose types true fits s second class (block ds es)) (EqnsWere ds (with_variables s ds) (classes_in es second class) (λ p. class (Equations ∷ p)) es) Equations (seen w) (λ j z. (z.0, z.1.1.1)) h)

    eqns_calls : (declared : List (List ℕ)) (named : List ℕ → Place) (ds : List Decl) (es : Eqns) (s : Scope) (second : Classes) (class : Assignment) (w : Whereabouts) → Way w → Maybe (EqnsWere ds s second class es) (seen w) → EachCall CallFits (points_of_all declared named es w)
    eqns_calls declared named ds no_eqn s second class w a h = tt
    eqns_calls declared named ds (more_eqns e es) s second class w a h =
        each_append CallFits (points_of_one declared named e (below Head w)) (points_of_all declared named es (below Tail w))
        (eqn_calls declared named ds e s second (λ p. class (Head ∷ p)) (below Head w) (way_below Head w a) (below_too (EqnsWere ds s second class (more_eqns e es)) (EqnWas ds s second (λ p. class (Head ∷ p)) e) Head (seen w) (λ j z. (z.0, z.1.0)) h))
        (eqns_calls declared named ds es s second (λ p. class (Tail ∷ p)) (below Tail w) (way_below Tail w a) (below_too (EqnsWere ds s second class (more_eqns e es)) (EqnsWere ds s second (λ p. class (Tail ∷ p)) es) Tail (seen w) (λ j z. (z.0, z.1.1)) h))

    eqn_calls : (declared : List (List ℕ)) (named : List ℕ → Place) (ds : List Decl) (e : Eqn) (s : Scope) (second : Classes) (class : Assignment) (w : Whereabouts) → Way w → Maybe (EqnWas ds s second class e) (seen w) → EachCall CallFits (points_of_one declared named e w)
    eqn_calls declared named ds (define at ys e) s second class w a h =
        each_append CallFits (lefts ys named) (calls e (below Right w)) (each_left CallFits ys named)
        (expr_calls s second e (clock_of ds ys e) (below Right w) (way_below Right w a) (below_too (EqnWas ds s second class (define at ys e)) (Was s second e (clock_of ds ys e)) Right (seen w) (λ j z. z) h))
    eqn_calls declared named ds (switch at e arms) s second class w a h =
        let W = EqnWas ds s second class (switch at e arms) in
        each_append CallFits (defined_by (switch at e arms) at declared named) (calls e (below Test w) ++ points_of_arms declared arms (below ArmsOf w)) (each_def CallFits (filter (defines (switch at e arms)) declared) at named)
        (each_append CallFits (calls e (below Test w)) (points_of_arms declared arms (below ArmsOf w))
        (expr_calls s second e [] (below Test w) (way_below Test w a) (below_too W (Was s second e []) Test (seen w) (λ j z. (z.0, z.1.0)) h))
        (arms_calls declared arms s (classes_within (switch at e arms) second) (λ p. class (ArmsOf ∷ p)) (below ArmsOf w) (way_below ArmsOf w a)
        (below_too W (ArmsLoose types true fits s (classes_within (switch at e arms) second) (λ p. class (ArmsOf ∷ p)) arms) ArmsOf (seen w) (λ j z. z.1.1) h)))
    eqn_calls declared named ds (reset at b e) s second class w a h =
        let W = EqnWas ds s second class (reset at b e) in
        each_append CallFits (defined_by (reset at b e) at declared named) (points_of declared b (below Body w) ++ calls e (below Test w)) (each_def CallFits (filter (defines (reset at b e)) declared) at named)
        (each_append CallFits (points_of declared b (below Body w)) (calls e (below Test w))
        (block_calls declared b s (classes_within (reset at b e) second) (λ p. class (Body ∷ p)) (below Body w) (way_below Body w a)
        (below_too W (BlockLoose types true fits s (classes_within (reset at b e) second) (λ p. class (Body ∷ p)) b) Body (seen w) (λ j z. z.1.1) h))
        (expr_calls s second e [] (below Test w) (way_below Test w a) (below_too W (Was s second e []) Test (seen w) (λ j z. (z.0, z.1.0)) h)))
    eqn_calls declared named ds (automaton at ss) s second class w a h = (
      (λ e. no_call e),
      (
        (λ e. no_call e),
        each_append CallFits (defined_by (automaton at ss) at declared named) (points_of_states declared ss (below StatesOf w)) (each_def CallFits (filter (defines (automaton at ss)) declared) at named)
            (states_calls declared ss s second (classes_within (automaton at ss) second) (λ p. class (StatesOf ∷ p)) (below StatesOf w) (way_below StatesOf w a)
            (below_too (EqnWas ds s second class (automaton at ss)) (StatesWere s second (classes_within (automaton at ss) second) (λ p. class (StatesOf ∷ p)) ss) StatesOf (seen w) (λ j z. (z.0, z.1.1.1)) h)),
      ),
    )

    arms_calls : (declared : List (List ℕ)) (arms : Arms) (s : Scope) (second : Classes) (class : Assignment) (w : Whereabouts) → Way w → Maybe (ArmsLoose types true fits s second class arms) (seen w) → EachCall CallFits (points_of_arms declared arms w)
    arms_calls declared no_arm s second class w a h = tt
    arms_calls declared (more_arms c b at arms) s second class w a h =
        let W = ArmsLoose types true fits s second class (more_arms c b at arms) in
        each_append CallFits (points_of declared b (below Head w)) (points_of_arms declared arms (below Tail w))
        (block_calls declared b s second (λ p. class (Head ∷ p)) (below Head w) (way_below Head w a) (below_maybe W (BlockLoose types true fits s second (λ p. class (Head ∷ p)) b) Head (seen w) (λ j z. z.0) h))
        (arms_calls declared arms s second (λ p. class (Tail ∷ p)) (below Tail w) (way_below Tail w a) (below_too W (ArmsLoose types true fits s second (λ p. class (Tail ∷ p)) arms) Tail (seen w) (λ j z. z.1) h))

    states_calls : (declared : List (List ℕ)) (ss : States) (s : Scope) (out second : Classes) (class : Assignment) (w : Whereabouts) → Way w → Maybe (StatesWere s out second class ss) (seen w) → EachCall CallFits (points_of_states declared ss w)
    states_calls declared no_state s out second class w a h = tt
    states_calls declared (more_states y b until unless at ss) s out second class w a h =
        let W = StatesWere s out second class (more_states y b until unless at ss) in
        let class' : Assignment = λ p. class (Head ∷ Body ∷ p) in
        let V = StateWas s out second class' b until unless in
        let head = below Head w in
        let way = way_below Head w a in
        let one : Maybe V (seen head) = below_too W V Head (seen w) (λ j z. (z.0, z.1.0)) h in
        let K = classes_of b second class' in
        each_append CallFits (points_of declared b (below Body head)) (conditions until (below Until head) ++ (conditions unless (below Unless head) ++ points_of_states declared ss (below Tail w)))
        (block_calls declared b s second class' (below Body head) (way_below Body head way) (below_maybe V (BlockLoose types true fits s second class' b) Body (seen head) (λ j z. (z.1.0.0, z.1.0.1.0)) one))
        (each_append CallFits (conditions until (below Until head)) (conditions unless (below Unless head) ++ points_of_states declared ss (below Tail w))
        (tests_calls (into s b) K until (below Until head) (way_below Until head way)
        (below_maybe V (TestsWere (into s b) K until) Until (seen head) (λ j z. (z.1.0.0, there_as z.1.0.0 (UntilWas s second class' b until) (TestsWere (into s b) K until) (part Until j) (λ k v. (v.0, v.1.1)) z.1.0.1.1)) one))
        (each_append CallFits (conditions unless (below Unless head)) (points_of_states declared ss (below Tail w))
        (tests_calls s out unless (below Unless head) (way_below Unless head way) (below_too V (TestsWere s out unless) Unless (seen head) (λ j z. (z.0, z.1.1)) one))
        (states_calls declared ss s out second (λ p. class (Tail ∷ p)) (below Tail w) (way_below Tail w a) (below_too W (StatesWere s out second (λ p. class (Tail ∷ p)) ss) Tail (seen w) (λ j z. (z.0, z.1.1)) h))))

  -- ---- nodes

  told_calls : (o : Option Expr) (s : Scope) (second : Classes) (there : Presence) (w : Whereabouts) → Way w → ToldFits types true fits s second there o (seen w) → EachCall CallFits (calls_told o w)
  told_calls None s second there w a h = tt
  told_calls (Some e) s second there w a h = expr_calls s second e [] w a (true, (there, h))

  block_at_calls : (declared : List (List ℕ)) (b : Block) (s : Scope) (second : Classes) (class : Assignment) (there : Presence) (w : Whereabouts) → Way w → BlockAt types true fits s second class there b (seen w) → EachCall CallFits (points_of declared b w)
  block_at_calls declared (block ds es) s second class there w a h =
      eqns_calls (declared ++ names_of ds) (λ y. w (Named y ∷ [])) ds es (with_variables s ds) (classes_in es second class) (λ p. class (Equations ∷ p)) (below Equations w) (way_below Equations w a) (true, (there, h.1))

  contract_calls : (o : Option Contract) (s : Scope) (class : Assignment) → ContractLoose types true fits s class o now → EachCall CallFits (points_of_contract o (λ p. p))
  contract_calls None s class h = tt
  contract_calls (Some c) s class h =
      let K = classes_of c.body none_second (λ p. class (Observer ∷ p)) in
      each_append CallFits (points_of [] c.body (λ p. Observer ∷ p)) (calls_told c.assume (λ p. Assume ∷ p) ++ calls_told c.enforce (λ p. Enforce ∷ p))
      (block_at_calls [] c.body s none_second (λ p. class (Observer ∷ p)) h.0 (λ p. Observer ∷ p) (λ p. refl) h.1.1.0)
      (each_append CallFits (calls_told c.assume (λ p. Assume ∷ p)) (calls_told c.enforce (λ p. Enforce ∷ p))
      (told_calls c.assume (into s c.body) K h.0 (λ p. Assume ∷ p) (λ p. refl) h.1.1.1.1.0)
      (told_calls c.enforce (into s c.body) K h.0 (λ p. Enforce ∷ p) (λ p. refl) h.1.1.1.1.1))

  -- each call of a node
  pub node_calls : (n : Node) (s : Scope) (class : Assignment) → NodeLoose types true fits s class n now → EachCall CallFits (points n)
  node_calls n s class h =
      each_append CallFits (controls (controls_of n.contract) (λ p. Controls ∷ p)) (points_of_contract n.contract (λ p. p) ++ points_of (names_of n.outputs) n.body (λ p. Body ∷ p)) (each_control CallFits (controls_of n.contract) (λ p. Controls ∷ p))
      (each_append CallFits (points_of_contract n.contract (λ p. p)) (points_of (names_of n.outputs) n.body (λ p. Body ∷ p)) (contract_calls n.contract (inside_node s n) class h.1)
      (block_calls (names_of n.outputs) n.body (with_variables (inside_node s n) (controls_of n.contract)) none_second (λ p. class (Body ∷ p)) (λ p. Body ∷ p) (λ p. refl) (true, h.0.1)))
