-- No chain leads from the places of a block to an input that loops, where none does from their sources.
use Rattle.std.proofs.Common.{◌≡◌, ℕ, Bool, true, false, if◌then◌else◌, List, [], ◌∷◌}
use Rattle.std.specs.Prelude.{Option, None, Some}
use Rattle.std.specs.List.{AllByRecursion}
use Rattle.hp_base.specs.declared.value.Value.{Value}
use Rattle.hp_tree.specs.Blocks.{Decl, Block, block, Eqns, no_eqn, more_eqns, Eqn, define, switch, reset, automaton, Arms, no_arm, more_arms}
use Rattle.hp_tree.specs.Programs.{TypeDecl, Node}
use Rattle.hp_tree.specs.Operators.{cons_of}
use Rattle.hp_tree.specs.Instant.{Body as BodyOf, Named, Equations, Head, Tail, Right as RightOf, Test, Arms as ArmsOf, Place}
use Rattle.hp_tree.specs.Meaning.{some_defines, clock_of}
use Rattle.hp_meaning.specs.Causal.Sources.{Sources, NameSources, PlaceSources, Within, below as under_step, at_block, at_arms, at_body}
use Rattle.hp_meaning.specs.Causal.WhatIsRead.{of_expr, names_in, names_within, of_definitions, at_expr, in_block, in_equations, in_equation, in_each_arm}
use Rattle.hp_meaning.specs.Causal.Clocked.{Standing, standing_in, BlockRight, AllRight, OneRight, ArmsRight}
use Rattle.law_equations.specs.Flattened.Flatten.{FlatName, At, When, on, Rows, Plan, unless, plan_block, plan_arms, plan_body, is_false, restarts_at, Prefix, below, Scope, inside_at, within_at, lasts_at, flat_expr, flat_defined, flat_scope, flat_equations, flat_equation, flat_arms}
use Rattle.law_wellmade.specs.Acyclic.Reading.{RowReads}
use Rattle.law_wellmade.proofs.AcyclicLemmas.Chains.{ends}
use Rattle.law_choices.proofs.DependingLemmas.Names.{rows_in, NameEnds, PlaceEnds, Reaches, Planned, RestartEnds, Solid, no_rows, solid_row, solid_right, solid_unless}
use Rattle.law_choices.proofs.DependingLemmas.ExpressionLaws.{whole}
use Rattle.law_choices.proofs.DependingLemmas.DefinitionLaws.{Around, around_in, around_within, read_ends, defined_ends}

module _ (types : List TypeDecl) (outputs : List ℕ → List (List ℕ)) (fill : Place → Value) (n : Node) (loops : List ℕ → Bool) (away : Place → Type 0) where
  abbrev Ending : FlatName → Type 0
  Ending a = NameEnds types outputs fill n loops away a

  abbrev EndingPlace : Place → Type 0
  EndingPlace p = PlaceEnds types outputs fill n loops away p

  abbrev Stands : Prefix → Plan Rows → Type 0
  Stands here plan = Planned types outputs fill n loops away here plan

  abbrev Reach : PlaceSources → Prefix → Type 0
  Reach k here = Reaches types outputs fill n loops away k here

  abbrev AllEnding : Prefix → PlaceSources → Type 0
  AllEnding here k = Solid types outputs fill n loops away here k

  abbrev Near : NameSources → Scope → Scope → When → List Place → Type 0
  Near names sc lsc ck rs = Around types outputs fill n loops away names sc lsc ck rs

  -- ---- places of parts

  solid_arms : (i j : Plan Rows) (s : Sources) (k l : PlaceSources) (here : Prefix) → Stands here (plan_arms i j) → AllEnding (below Test here) k → (Within EndingPlace s → AllEnding (below ArmsOf here) l) → AllEnding here (at_arms k s l)
  solid_arms i j s k l here plan a b (Test ∷ p) h = a p h
  solid_arms i j s k l here plan a b (ArmsOf ∷ p) h = b h.0 p h.1
  solid_arms i j s k l here plan a b p h = no_rows types outputs fill n loops away (At (here p)) (plan p)

  solid_body : (i j : Plan Rows) (s : Sources) (k l : PlaceSources) (here : Prefix) → Stands here (plan_body i j) → AllEnding (below Test here) k → (Within EndingPlace s → AllEnding (below BodyOf here) l) → AllEnding here (at_body k s l)
  solid_body i j s k l here plan a b (Test ∷ p) h = a p h
  solid_body i j s k l here plan a b (BodyOf ∷ p) h = b h.0 p h.1
  solid_body i j s k l here plan a b p h = no_rows types outputs fill n loops away (At (here p)) (plan p)

  named_ends : (d : Bool) (rows : Rows) (a : FlatName) → rows_in types outputs fill n loops away a ≡ (if d then Some rows else None) → AllByRecursion (RowReads Ending) rows → Ending a
  named_ends true rows a e h = ends (rows_in types outputs fill n loops away) a (Some rows) e h
  named_ends false rows a e h = no_rows types outputs fill n loops away a e

  solid_block : (named : List ℕ → Option Rows) (i : Plan Rows) (names : NameSources) (k : PlaceSources) (here : Prefix) → Stands here (plan_block named i)
      → ((x : List ℕ) → Within EndingPlace (names x) → Ending (At (here (Named x ∷ [])))) → AllEnding (below Equations here) k → AllEnding here (at_block names k)
  solid_block named i names k here plan f a (Named x ∷ []) h = f x h
  solid_block named i names k here plan f a (Equations ∷ p) h = a p h
  solid_block named i names k here plan f a p h = no_rows types outputs fill n loops away (At (here p)) (plan p)

  -- a condition at which a block begins anew, where it is not the constant `false`
  restart_ends : (d : Bool) (i : Plan Rows) (here : Prefix) (rs : List Place) → Stands (below Test here) (unless d i) → (Stands (below Test here) i → Ending (At (here (Test ∷ [])))) → RestartEnds types outputs fill n loops away rs
      → RestartEnds types outputs fill n loops away (if d then rs else here (Test ∷ []) ∷ rs)
  restart_ends true i here rs plan f rest = rest
  restart_ends false i here rs plan f rest = (f plan, rest)

  -- ---- blocks

  mutual
    pub block_ends : (b : Block) (names : NameSources) (sc lsc : Scope) (k : PlaceSources) (here : Prefix) (ck : When) (rs : List Place) (out : Standing) → Near names sc lsc ck rs → Reach k here
        → Stands here (flat_scope types outputs fill b sc lsc here ck rs) → BlockRight out b → AllEnding here (in_block b names k)
    block_ends (block ds es) names sc lsc k here ck rs out a reach plan right =
        let names' = names_in es names k in
        let sc' = inside_at es sc here in
        let lsc' = lasts_at types ds lsc here ck rs in
        let st = standing_in ds es out in
        let inner = around_in types outputs fill n loops away ds es names sc lsc k here ck rs a reach in
        solid_block (λ x. if some_defines es x then Some (flat_defined types outputs fill ds es sc' lsc' (below Equations here) ck rs x) else None)
        (flat_equations types outputs fill ds es sc' lsc' (below Equations here) ck rs) (of_definitions ds es names' (under_step Equations k)) (in_equations ds es names' (under_step Equations k)) here plan
        (λ x h. named_ends (some_defines es x) (flat_defined types outputs fill ds es sc' lsc' (below Equations here) ck rs x) (At (here (Named x ∷ []))) (plan (Named x ∷ []))
        (defined_ends types outputs fill n loops away names' sc' lsc' ck rs st inner ds es (under_step Equations k) (below Equations here) (λ p. reach (Equations ∷ p)) (λ p. plan (Equations ∷ p)) x h))
        (eqns_end ds es names' sc' lsc' (under_step Equations k) (below Equations here) ck rs st inner (λ p. reach (Equations ∷ p)) (λ p. plan (Equations ∷ p)) right.1)

    eqns_end : (ds : List Decl) (es : Eqns) (names : NameSources) (sc lsc : Scope) (k : PlaceSources) (here : Prefix) (ck : When) (rs : List Place) (st : Standing) → Near names sc lsc ck rs → Reach k here
        → Stands here (flat_equations types outputs fill ds es sc lsc here ck rs) → AllRight st ds es → AllEnding here (in_equations ds es names k)
    eqns_end ds no_eqn names sc lsc k here ck rs st a reach plan right = λ p h. no_rows types outputs fill n loops away (At (here p)) (plan p)
    eqns_end ds (more_eqns e es) names sc lsc k here ck rs st a reach plan right =
        solid_row types outputs fill n loops away (flat_equation types outputs fill ds e sc lsc (below Head here) ck rs) (flat_equations types outputs fill ds es sc lsc (below Tail here) ck rs)
        (in_equation ds e names (under_step Head k)) (in_equations ds es names (under_step Tail k)) here plan
        (eqn_ends ds e names sc lsc (under_step Head k) (below Head here) ck rs st a (λ p. reach (Head ∷ p)) (λ p. plan (Head ∷ p)) right.0)
        (eqns_end ds es names sc lsc (under_step Tail k) (below Tail here) ck rs st a (λ p. reach (Tail ∷ p)) (λ p. plan (Tail ∷ p)) right.1)

    eqn_ends : (ds : List Decl) (e : Eqn) (names : NameSources) (sc lsc : Scope) (k : PlaceSources) (here : Prefix) (ck : When) (rs : List Place) (st : Standing) → Near names sc lsc ck rs → Reach k here
        → Stands here (flat_equation types outputs fill ds e sc lsc here ck rs) → OneRight st ds e → AllEnding here (in_equation ds e names k)
    eqn_ends ds (define s ys e) names sc lsc k here ck rs st a reach plan right =
        solid_right types outputs fill n loops away (flat_expr types outputs fill e (clock_of ds ys e) sc lsc (below RightOf here) ck rs) (at_expr e (clock_of ds ys e) names (under_step RightOf k)) here plan
        (whole types outputs fill n loops away names sc lsc ck rs st a.sees a.lasts a.clock a.restart e (clock_of ds ys e) (under_step RightOf k) (below RightOf here) (λ p. reach (RightOf ∷ p)) (λ p. plan (RightOf ∷ p)) right.2)
    eqn_ends ds (switch s e arms) names sc lsc k here ck rs st a reach plan right =
        let test = At (here (Test ∷ [])) in
        let eqn = switch s e arms in
        solid_arms (flat_expr types outputs fill e [] sc lsc (below Test here) ck rs) (flat_arms types outputs fill arms test (within_at eqn sc lsc) lsc (below ArmsOf here) ck rs)
        (of_expr e names (under_step Test k)) (at_expr e [] names (under_step Test k)) (in_each_arm arms (names_within eqn names) (under_step ArmsOf k)) here plan
        (whole types outputs fill n loops away names sc lsc ck rs st a.sees a.lasts a.clock a.restart e [] (under_step Test k) (below Test here) (λ p. reach (Test ∷ p)) (λ p. plan (Test ∷ p)) right.1)
        (λ control. arms_end arms test (names_within eqn names) (within_at eqn sc lsc) lsc (under_step ArmsOf k) (below ArmsOf here) ck rs st
        (read_ends types outputs fill n loops away names sc lsc ck rs st a e [] (under_step Test k) (below Test here) (λ p. reach (Test ∷ p)) (λ p. plan (Test ∷ p)) tt control)
        (around_within types outputs fill n loops away eqn names sc lsc ck rs a) (λ p. reach (ArmsOf ∷ p)) (λ p. plan (ArmsOf ∷ p)) right.2)
    eqn_ends ds (reset s b e) names sc lsc k here ck rs st a reach plan right =
        let eqn = reset s b e in
        let tested = flat_expr types outputs fill e [] sc lsc (below Test here) ck rs in
        solid_body (unless (is_false e) tested) (flat_scope types outputs fill b (within_at eqn sc lsc) lsc (below BodyOf here) ck (restarts_at e here rs)) (of_expr e names (under_step Test k))
        (at_expr e [] names (under_step Test k)) (in_block b (names_within eqn names) (under_step BodyOf k)) here plan
        (solid_unless types outputs fill n loops away (is_false e) tested (below Test here) (at_expr e [] names (under_step Test k)) (λ p. plan (Test ∷ p))
        (λ first. whole types outputs fill n loops away names sc lsc ck rs st a.sees a.lasts a.clock a.restart e [] (under_step Test k) (below Test here) (λ p. reach (Test ∷ p)) first right.1))
        (λ control. let inner = around_within types outputs fill n loops away eqn names sc lsc ck rs a in
        block_ends b (names_within eqn names) (within_at eqn sc lsc) lsc (under_step BodyOf k) (below BodyOf here) ck (restarts_at e here rs) st
        (record {
          sees = inner.sees;
          lasts = inner.lasts;
          clock = inner.clock;
          restart = restart_ends (is_false e) tested here rs (λ p. plan (Test ∷ p)) (λ first. read_ends types outputs fill n loops away names sc lsc ck rs st a e [] (under_step Test k) (below Test here) (λ p. reach (Test ∷ p)) first tt control) a.restart;
        })
        (λ p. reach (BodyOf ∷ p)) (λ p. plan (BodyOf ∷ p)) right.2)
    eqn_ends ds (automaton s ss) names sc lsc k here ck rs st a reach plan right = λ p h. no_rows types outputs fill n loops away (At (here p)) (plan p)

    arms_end : (arms : Arms) (test : FlatName) (names : NameSources) (sc lsc : Scope) (k : PlaceSources) (here : Prefix) (ck : When) (rs : List Place) (st : Standing) → Ending test → Near names sc lsc ck rs → Reach k here
        → Stands here (flat_arms types outputs fill arms test sc lsc here ck rs) → ArmsRight st arms → AllEnding here (in_each_arm arms names k)
    arms_end no_arm test names sc lsc k here ck rs st t a reach plan right = λ p h. no_rows types outputs fill n loops away (At (here p)) (plan p)
    arms_end (more_arms c b s arms) test names sc lsc k here ck rs st t a reach plan right =
        let w = on (cons_of types c) test ck in
        solid_row types outputs fill n loops away (flat_scope types outputs fill b sc lsc (below Head here) w rs) (flat_arms types outputs fill arms test sc lsc (below Tail here) ck rs)
        (in_block b names (under_step Head k)) (in_each_arm arms names (under_step Tail k)) here plan
        (block_ends b names sc lsc (under_step Head k) (below Head here) w rs st (record { sees = a.sees; lasts = a.lasts; clock = (t, a.clock); restart = a.restart }) (λ p. reach (Head ∷ p)) (λ p. plan (Head ∷ p)) right.0)
        (arms_end arms test names sc lsc (under_step Tail k) (below Tail here) ck rs st t a (λ p. reach (Tail ∷ p)) (λ p. plan (Tail ∷ p)) right.1)
