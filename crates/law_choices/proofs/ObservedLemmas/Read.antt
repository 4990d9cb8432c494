-- What the places of a part read depends on those names alone that stand on clocks around it.
use Rattle.std.proofs.Common.{◌≡◌, ℕ, List, [], ◌∷◌, refl, ap, ap₂, subst, Some}
use Rattle.std.proofs.Math.Path.{fun_ext}
use Rattle.std.specs.Prelude.{Bool, true, false, if◌then◌else◌, Option, None}
use Rattle.hp_tree.specs.declared.block.Trans.{Trans}
use Rattle.hp_tree.specs.Expressions.{Expr, constant, variable, last_of, one, two, choose, pre, fby, arrow, when_is, merge, call, Exprs, no_expr, more_exprs, Parts, no_part, more_parts}
use Rattle.hp_tree.specs.Blocks.{Decl, Block, block, Eqns, no_eqn, more_eqns, Eqn, define, switch, reset, automaton, Arms, no_arm, more_arms, States, no_state, more_states}
use Rattle.hp_tree.specs.Instant.{Body, Named, Equations, Head, Tail, Right, Test, Arms as ArmsOf, States as StatesOf, Until, Unless, Active, First, Second, Third, Args, Clock, without}
use Rattle.hp_tree.specs.Meaning.{defines, some_defines, clock_of, clock_in}
use Rattle.hp_meaning.specs.Causal.Clocked.{AllRight, ArmsRight, BlockRight, ClockRight, ConditionsOn, ExprsOn, IsOn, OneRight, PartsOn, Standing, StatesRight, base_alone, standing_in, standing_of}
use Rattle.hp_meaning.specs.Causal.Sources.{Sources, none, both, also, NameSources, PlaceSources, below, nowhere, at_one, at_two, at_three, at_row, at_merge, at_call, at_block, at_right, at_arms, at_body, at_state, at_words}
use Rattle.hp_meaning.specs.Causal.WhatIsRead.{of_clock, of_expr, of_exprs, of_parts, names_in, names_within, names_in_block, in_arms, strong_ones, weak_ones, at_expr, at_exprs, at_parts, at_conditions, of_definition, of_definitions, in_block, in_equations, in_equation, in_each_arm, in_each_state}

-- names that stand on clocks stand for the same
abbrev pub Agree : Standing → NameSources → NameSources → Type 0
Agree on names others = (x : List ℕ) (clock : Clock) → on x ≡ Some clock → names x ≡ others x

-- ---- expressions

module _ (on : Standing) (names others : NameSources) (agree : Agree on names others) where
  clock_same : (clock : Clock) → ClockRight on clock → of_clock clock names ≡ of_clock clock others
  clock_same [] h = refl
  clock_same (s ∷ clock) h = ap₂ both (agree s.1 clock h.0) (clock_same clock h.1)

  mutual
    pub of_same : (e : Expr) (clock : Clock) (k : PlaceSources) → IsOn on e clock → of_expr e names k ≡ of_expr e others k
    of_same (constant s c) clock k h = refl
    of_same (variable s x) clock k h = agree x clock h
    of_same (last_of s x) clock k h = refl
    of_same (one s o a) clock k h = of_same a clock (below First k) h
    of_same (two s o a b) clock k h = ap₂ both (of_same a clock (below First k) h.0) (of_same b clock (below Second k) h.1)
    of_same (choose s a b c) clock k h = ap₂ both (of_same a clock (below First k) h.0) (ap₂ both (of_same b clock (below Second k) h.1) (of_same c clock (below Third k) h.2))
    of_same (pre s a) clock k h = refl
    of_same (fby s a b) clock k h = of_same a clock (below First k) h.0
    of_same (arrow s a b) clock k h = ap₂ both (of_same a clock (below First k) h.0) (of_same b clock (below Second k) h.1)
    of_same (when_is s a c x) clock k h = ap₂ both (agree x (without clock) h.1) (of_same a (without clock) (below First k) h.2)
    of_same (merge s x ps) clock k h = ap₂ both (agree x clock h.0) (parts_same ps x clock (below Args k) h.1)
    of_same (call s f inlined es) clock k h = refl

    parts_same : (ps : Parts) (x : List ℕ) (clock : Clock) (k : PlaceSources) → PartsOn on x ps clock → of_parts ps names k ≡ of_parts ps others k
    parts_same no_part x clock k h = refl
    parts_same (more_parts c e ps) x clock k h = ap₂ both (of_same e ((c, x) ∷ clock) (below Head k) h.0) (parts_same ps x clock (below Tail k) h.1)

  all_same : (es : Exprs) (clock : Clock) (k : PlaceSources) → ExprsOn on es clock → of_exprs es names k ≡ of_exprs es others k
  all_same no_expr clock k h = refl
  all_same (more_exprs e es) clock k h = ap₂ both (of_same e clock (below Head k) h.0) (all_same es clock (below Tail k) h.1)

  -- with the names of the clock besides
  with_clock : (e : Expr) (clock : Clock) (k : PlaceSources) → ClockRight on clock → IsOn on e clock → both (also (of_clock clock names)) (of_expr e names k) ≡ both (also (of_clock clock others)) (of_expr e others k)
  with_clock e clock k r h = ap₂ (λ s t. both (also s) t) (clock_same clock r) (of_same e clock k h)

  mutual
    pub at_same : (e : Expr) (clock : Clock) (k : PlaceSources) → ClockRight on clock → IsOn on e clock → at_expr e clock names k ≡ at_expr e clock others k
    at_same (constant s c) clock k r h = ap (λ t. at_one (also t) nowhere) (clock_same clock r)
    at_same (variable s x) clock k r h = ap (λ t. at_one t nowhere) (with_clock (variable s x) clock k r h)
    at_same (last_of s x) clock k r h = refl
    at_same (one s o a) clock k r h = ap₂ at_one (with_clock (one s o a) clock k r h) (at_same a clock (below First k) r h)
    at_same (two s o a b) clock k r h =
        let t = with_clock (two s o a b) clock k r h in
        let u = at_same a clock (below First k) r h.0 in
        let v = at_same b clock (below Second k) r h.1 in
        λ d. at_two (t d) (u d) (v d)
    at_same (choose s a b c) clock k r h =
        let t = with_clock (choose s a b c) clock k r h in
        let u = at_same a clock (below First k) r h.0 in
        let v = at_same b clock (below Second k) r h.1 in
        let w = at_same c clock (below Third k) r h.2 in
        λ d. at_three (t d) (u d) (v d) (w d)
    at_same (pre s a) clock k r h = ap₂ (λ t u. at_one (also t) u) (clock_same clock r) (at_same a clock (below First k) r h)
    at_same (fby s a b) clock k r h =
        let t = with_clock (fby s a b) clock k r h in
        let u = at_same a clock (below First k) r h.0 in
        let v = at_same b clock (below Second k) r h.1 in
        λ d. at_two (t d) (u d) (v d)
    at_same (arrow s a b) clock k r h =
        let t = with_clock (arrow s a b) clock k r h in
        let u = at_same a clock (below First k) r h.0 in
        let v = at_same b clock (below Second k) r h.1 in
        λ d. at_two (t d) (u d) (v d)
    at_same (when_is s a c x) clock k r h =
        let outer = subst (ClockRight on) h.0 r in
        ap₂ at_one (with_clock (when_is s a c x) clock k r h) (at_same a (without clock) (below First k) outer.1 h.2)
    at_same (merge s x ps) clock k r h = ap₂ at_merge (with_clock (merge s x ps) clock k r h) (at_parts_same ps x clock (below Args k) (h.0, r) h.1)
    at_same (call s f inlined es) clock k r h =
        let t = ap₂ (λ s t. both (also s) t) (clock_same clock r) (all_same es clock (below Args k) h) in
        let u = ap (λ s. both (also s) (k [])) (clock_same clock r) in
        let v = at_all_same es clock (below Args k) r h in
        λ d. at_call (t d) (u d) (v d)

    at_all_same : (es : Exprs) (clock : Clock) (k : PlaceSources) → ClockRight on clock → ExprsOn on es clock → at_exprs es clock names k ≡ at_exprs es clock others k
    at_all_same no_expr clock k r h = refl
    at_all_same (more_exprs e es) clock k r h = ap₂ at_row (at_same e clock (below Head k) r h.0) (at_all_same es clock (below Tail k) r h.1)

    at_parts_same : (ps : Parts) (x : List ℕ) (clock : Clock) (k : PlaceSources) → (on x ≡ Some clock) × ClockRight on clock → PartsOn on x ps clock → at_parts ps x clock names k ≡ at_parts ps x clock others k
    at_parts_same no_part x clock k r h = refl
    at_parts_same (more_parts c e ps) x clock k r h = ap₂ at_row (at_same e ((c, x) ∷ clock) (below Head k) (r.0, r.1) h.0) (at_parts_same ps x clock (below Tail k) r h.1)

  conditions_same : (ts : List Trans) (k : PlaceSources) → ConditionsOn on ts → at_conditions ts names k ≡ at_conditions ts others k
  conditions_same [] k h = refl
  conditions_same (t ∷ ts) k h = ap₂ at_row (at_same t.cond [] (below Head k) tt h.0) (conditions_same ts (below Tail k) h.1)

  -- ---- definitions

  definition_same : (ds : List Decl) (e : Eqn) (k : PlaceSources) (x : List ℕ) → OneRight on ds e → of_definition ds e names k x ≡ of_definition ds e others k x
  definition_same ds (define s ys e) k x h = with_clock e (clock_of ds ys e) (below Right k) h.0 h.2
  definition_same ds (switch s e arms) k x h = ap (λ t. both t (in_arms arms (below ArmsOf k) x)) (of_same e [] (below Test k) h.1)
  definition_same ds (reset s b e) k x h = ap (λ t. both t (below Body k (Named x ∷ []))) (of_same e [] (below Test k) h.1)
  definition_same ds (automaton s ss) k x h = refl

  pub definitions_same : (ds : List Decl) (es : Eqns) (k : PlaceSources) (x : List ℕ) → AllRight on ds es → of_definitions ds es names k x ≡ of_definitions ds es others k x
  definitions_same ds no_eqn k x h = refl
  definitions_same ds (more_eqns e es) k x h = ap₂ (λ s t. if defines e x then s else t) (definition_same ds e (below Head k) x h.0) (definitions_same ds es (below Tail k) x h.1)

-- ---- names further in

module _ (on : Standing) (names others : NameSources) (agree : Agree on names others) where
  within_agree : (e : Eqn) → Agree on (names_within e names) (names_within e others)
  within_agree e x clock h = ap (λ s. if defines e x then none else s) (agree x clock h)

  inner_agree : (ds : List Decl) (es : Eqns) (k : PlaceSources) → Agree (standing_in ds es on) (names_in es names k) (names_in es others k)
  inner_agree ds es k x clock h = by (some_defines es x) h
    where
      base : (o : Option Clock) → on x ≡ o → base_alone o ≡ Some clock → names x ≡ others x
      base None e q = absurd cc
      base (Some []) e q = agree x [] e
      base (Some (s ∷ more)) e q = absurd cc

      by : (d : Bool) → (if d then Some (clock_in ds x) else base_alone (on x)) ≡ Some clock → (if d then k (Named x ∷ []) else names x) ≡ (if d then k (Named x ∷ []) else others x)
      by true q = refl
      by false q = base (on x) refl q

  block_agree : (b : Block) (k : PlaceSources) → Agree (standing_of b on) (names_in_block b names k) (names_in_block b others k)
  block_agree (block ds es) k = inner_agree ds es k

-- ---- blocks

mutual
  block_same : (b : Block) (on : Standing) (names others : NameSources) (k : PlaceSources) → Agree on names others → BlockRight on b → in_block b names k ≡ in_block b others k
  block_same (block ds es) on names others k agree h =
      let inside = inner_agree on names others agree ds es k in
      let inner = names_in es names k in
      let outer = names_in es others k in
      ap₂ at_block (fun_ext (λ x. definitions_same (standing_in ds es on) inner outer inside ds es (below Equations k) x h.1)) (equations_same ds es (standing_in ds es on) inner outer (below Equations k) inside h.1)

  pub equations_same : (ds : List Decl) (es : Eqns) (on : Standing) (names others : NameSources) (k : PlaceSources) → Agree on names others → AllRight on ds es → in_equations ds es names k ≡ in_equations ds es others k
  equations_same ds no_eqn on names others k agree h = refl
  equations_same ds (more_eqns e es) on names others k agree h = ap₂ at_row (equation_same ds e on names others (below Head k) agree h.0) (equations_same ds es on names others (below Tail k) agree h.1)

  equation_same : (ds : List Decl) (e : Eqn) (on : Standing) (names others : NameSources) (k : PlaceSources) → Agree on names others → OneRight on ds e → in_equation ds e names k ≡ in_equation ds e others k
  equation_same ds (define s ys e) on names others k agree h = ap at_right (at_same on names others agree e (clock_of ds ys e) (below Right k) h.0 h.2)
  equation_same ds (switch s e arms) on names others k agree h =
      let t = at_same on names others agree e [] (below Test k) tt h.1 in
      let u = of_same on names others agree e [] (below Test k) h.1 in
      let v = arms_same arms on (names_within (switch s e arms) names) (names_within (switch s e arms) others) (below ArmsOf k) (within_agree on names others agree (switch s e arms)) h.2 in
      λ d. at_arms (t d) (u d) (v d)
  equation_same ds (reset s b e) on names others k agree h =
      let t = at_same on names others agree e [] (below Test k) tt h.1 in
      let u = of_same on names others agree e [] (below Test k) h.1 in
      let v = block_same b on (names_within (reset s b e) names) (names_within (reset s b e) others) (below Body k) (within_agree on names others agree (reset s b e)) h.2 in
      λ d. at_body (t d) (u d) (v d)
  equation_same ds (automaton s ss) on names others k agree h =
      let inner = names_within (automaton s ss) names in
      let outer = names_within (automaton s ss) others in
      ap (at_words (strong_ones ss (below StatesOf k)) (both (also (k (Active ∷ []))) (weak_ones ss (below StatesOf k))))
      (states_same ss (k (Active ∷ [])) on names others inner outer (below StatesOf k) agree (within_agree on names others agree (automaton s ss)) h.1)

  arms_same : (arms : Arms) (on : Standing) (names others : NameSources) (k : PlaceSources) → Agree on names others → ArmsRight on arms → in_each_arm arms names k ≡ in_each_arm arms others k
  arms_same no_arm on names others k agree h = refl
  arms_same (more_arms c b s arms) on names others k agree h = ap₂ at_row (block_same b on names others (below Head k) agree h.0) (arms_same arms on names others (below Tail k) agree h.1)

  states_same : (ss : States) (active : Sources) (on : Standing) (out away names others : NameSources) (k : PlaceSources) → Agree on out away → Agree on names others → StatesRight on ss
      → in_each_state ss active out names k ≡ in_each_state ss active away others k
  states_same no_state active on out away names others k far agree h = refl
  states_same (more_states f b until unless s ss) active on out away names others k far agree h =
      let body = below Body (below Head k) in
      let t = block_same b on names others body agree h.0 in
      let u = conditions_same (standing_of b on) (names_in_block b names body) (names_in_block b others body) (block_agree on names others agree b body) until (below Until (below Head k)) h.1 in
      let v = conditions_same on out away far unless (below Unless (below Head k)) h.2 in
      let w = states_same ss active on out away names others (below Tail k) far agree h.3 in
      λ d. at_row (at_state active (t d) (u d) (v d)) (w d)
