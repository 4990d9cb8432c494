-- What the condition of a strong transition of an automaton in the outermost block does not depend on, no chain leads to without automata.
use Rattle.std.proofs.Common.{◌≡◌, ℕ, ◌+◌, Bool, true, false, not, ◌&&◌, if◌then◌else◌, List, [], ◌∷◌, ◌++◌, map, length, inl, inr, refl, sym, ap, ◌∙◌, subst, arith}
use Rattle.std.specs.Prelude.{Option, None, Some}
use Rattle.std.specs.Str.{bytes_eq}
use Rattle.hp_base.specs.declared.span.Span.{Span}
use Rattle.hp_base.specs.declared.value.Value.{Value}
use Rattle.hp_tree.specs.declared.block.Trans.{Trans}
use Rattle.hp_tree.specs.Expressions.{Expr}
use Rattle.hp_tree.specs.Blocks.{Decl, Eqns, Eqn, automaton, States, no_state, more_states, eqns_of}
use Rattle.hp_tree.specs.Programs.{TypeDecl, Node}
use Rattle.hp_tree.specs.Instant.{Inputs, Controls, Body, Named, Equations, Head, Tail, Right, First, States as StatesOf, Until, Unless, Active, Place, Clock}
use Rattle.hp_tree.specs.Meaning.{declares, defines, some_defines, clock_in, states_define}
use Rattle.hp_tables.specs.Defining.Names.{names_of_states}
use Rattle.hp_meaning.specs.Causal.Sources.{Sources, none, only, both, Within, IsSource, NameSources, below}
use Rattle.hp_meaning.specs.Causal.WhatIsRead.{names_in, names_within, at_expr, at_conditions, in_equations, in_equation, in_each_state}
use Rattle.hp_meaning.specs.Causal.Causality.{Ranked, OrderLaw}
use Rattle.hp_meaning.specs.Causal.Clocked.{ClocksRight}
use Rattle.hp_meaning.specs.Causal.InputDependence.{sources_with_inputs}
use Rattle.hp_meaning.specs.Causal.Points.{NamesDeclared}
use Rattle.hp_meaning.specs.Contract.FreePlaces.{free_in_states, own_free}
use Rattle.hp_automata.specs.Names.{is_name, once}
use Rattle.hp_automata.specs.declared.new_names.Word.TheVariants.{Strong}
use Rattle.hp_automata.specs.Lowering.{Enumerations, Types, Frame, choices, declaring, frame, frame_eqns, frame_locals, from_eqn, idle, joined, lowered_body, lowered_eqn, lowered_node, lowered_states, on_word, pending_of, same_name, state_switch, types_of}
use Rattle.hp_automata.specs.NewNames.{transition_word}
use Rattle.hp_automata.specs.Renaming.{renamed}
use Rattle.law_automata.specs.Lowered.OldNames.{IsOld, OldExpr}
use Rattle.law_automata.specs.Lowered.Removable.{Known, and_defined, none_known, EqnOk, NodeOk, Plain, StatesOk, TransitionsOk}
use Rattle.law_automata.specs.Lowered.Laws.{NodeRanksLaw, ClocksLaw}
use Rattle.law_automata.proofs.LoweredLemmas.BlockMaking.{base_clock}
use Rattle.law_automata.proofs.LoweredLemmas.Bounds.{frame_base}
use Rattle.law_automata.proofs.LoweredLemmas.Defined.{eqn_same, frame_apart}
use Rattle.law_automata.proofs.LoweredLemmas.Lookups.{eqn_old, names_of_frame}
use Rattle.law_automata.proofs.LoweredLemmas.Nodes.{itself, itself_renames}
use Rattle.law_automata.proofs.LoweredLemmas.Renaming.{to_apart}
use Rattle.law_equations.specs.Flattened.Flatten.{FlatName, At, Prefix, always, copies, flatten}
use Rattle.law_wellmade.specs.Acyclic.Reading.{Ends}
use Rattle.law_wellmade.proofs.AcyclicLemmas.Chains.{read_end}
use Rattle.law_choices.specs.Independent.Dependence.{given_in}
use Rattle.law_choices.specs.Independent.Laws.{IsApart}
use Rattle.law_choices.specs.Depending.Looping.{looped}
use Rattle.law_choices.specs.Places.Found.{at_body, at_condition, at_states, behind, behind_state, found, found_in_body, found_in_conditions, found_in_states}
use Rattle.law_choices.proofs.IndependentLemmas.AutomataLaw.{same_given}
use Rattle.law_choices.proofs.IndependentLemmas.FedLowered.{low_locals, low_eqns}
use Rattle.law_choices.proofs.IndependentLemmas.Given.{Shape, shape, place_in}
use Rattle.law_choices.proofs.IndependentLemmas.Moved.{moved, mn, mk, move_expr}
use Rattle.law_choices.proofs.IndependentLemmas.Ours.{with_body}
use Rattle.law_choices.proofs.PlacesLemmas.Related.{All, all-both, body-hidden, conditions-hidden, expr-related}
use Rattle.law_choices.proofs.DependingLemmas.BodyLaws.{place_ends}
use Rattle.law_choices.proofs.DependingLemmas.Conditions.{condition_same, within_moved}
use Rattle.law_choices.proofs.DependingLemmas.Outermost.{IsNear, near, is_near, names_near}
use Rattle.law_choices.proofs.DependingLemmas.PlaceLaws.{name_ends, clear_ends}
use Rattle.law_choices.proofs.DependingLemmas.Sourced.{Clear, clear_next, sources_moved}

-- the equations of a state, in a row
regrouped : (xs : List Eqn) (a b c : Eqn) (ys : List Eqn) → (((xs ++ a ∷ []) ++ b ∷ []) ++ c ∷ []) ++ ys ≡ xs ++ a ∷ b ∷ c ∷ ys
regrouped [] a b c ys = refl
regrouped (x ∷ xs) a b c ys = ap (λ l. x ∷ l) (regrouped xs a b c ys)

and_true : (b : Bool) → (b && true) ≡ b
and_true true = refl
and_true false = refl

module _ (order : OrderLaw) (ranks : NodeRanksLaw) (kept : ClocksLaw) (types : List TypeDecl) (outputs : List ℕ → List (List ℕ)) (fill : Place → Value) (enums : Enumerations) (n : Node) (ds : List Decl) (es : Eqns) (x : List ℕ) (px : Place)
    (ok : NodeOk (with_body n ds es)) (declared : NamesDeclared (with_body n ds es)) (right : ClocksRight (with_body n ds es)) (r : Ranked (with_body n ds es)) (old : IsOld x) (apart : IsApart (with_body n ds es) x) (at : given_in (with_body n ds es) x ≡ only px) where
  abbrev N : Node
  N = with_body n ds es

  abbrev M : Node
  M = lowered_node enums N

  abbrev tys : Types
  tys = declaring (types_of n) ds

  abbrev names : NameSources
  names = names_in es (given_in N) (below Body only)

  abbrev IsClear : Place → Type 0
  IsClear p = Clear n ds es px p

  abbrev Ending : FlatName → Type 0
  Ending a = Ends (looped types outputs fill M (λ z. bytes_eq x z)) a

  abbrev EndingPlace : Place → Type 0
  EndingPlace p = Ending (At p) × (px ≡ p → ⊥)

  -- what is given stands in no body
  not_body : (q : Place) → px ≡ Body ∷ q → ⊥
  not_body q e = by (shape N x)
    where
      by : Shape N x → ⊥
      by (inl s) = let no : none ≡ only px = sym s.0 ∙ at in absurd cc
      by (inr (inl s)) = let no : Body ∷ q ≡ Controls ∷ s.0 = sym e ∙ ap place_in (sym at ∙ s.1) in absurd cc
      by (inr (inr s)) = let no : Body ∷ q ≡ Inputs ∷ s.0 = sym e ∙ ap place_in (sym at ∙ s.1) in absurd cc

  -- Where nothing depends on what is given under x, a free place ends.
  abbrev pub EndsSo : Place → Place → Type 0
  EndsSo p q = own_free N p ≡ Some [] → IsClear p → Ending (At q)

  -- an automaton of the outermost block, as it stands before and behind
  module _ (s : Span) (ss : States) (v : Prefix) (fits : EqnOk none_known 0 (automaton s ss)) (defined : (z : List ℕ) → states_define ss z ≡ true → some_defines es z ≡ true)
      (high : (p : Place) → sources_with_inputs N (Body ∷ Equations ∷ v p) ≡ in_equation ds (automaton s ss) names (λ q. only (Body ∷ Equations ∷ v q)) p)
      (low : (p : Place) → sources_with_inputs M (Body ∷ Equations ∷ v p) ≡ in_equation ds (lowered_eqn enums same_name tys 0 (automaton s ss)) names (λ q. only (Body ∷ Equations ∷ v q)) p)
      (rows : (z : List ℕ) → states_define ss z ≡ true → flatten types outputs fill M (At (Body ∷ Named z ∷ [])) ≡ Some (copies always [] (At (Body ∷ Equations ∷ v (Body ∷ Named z ∷ []))) ∷ [])) where
    abbrev f : Frame
    f = frame s 0 ss

    abbrev words : List Decl
    words = frame_locals tys f ss

    abbrev made : List Eqn
    made = frame_eqns enums same_name tys f ++ lowered_states enums same_name tys f 0 ss

    abbrev behind_eqn : Eqn
    behind_eqn = lowered_eqn enums same_name tys 0 (automaton s ss)

    abbrev inner_names : NameSources
    inner_names = names_in (eqns_of made) (names_within behind_eqn names) (λ q. only (Body ∷ Equations ∷ v (Body ∷ q)))

    -- a name of the program that the automaton defines is one of its block
    abbrev inner : Place → Sources
    inner (Body ∷ Named z ∷ []) = if states_define ss z then only (Body ∷ Equations ∷ v (Body ∷ Named z ∷ [])) else only (Body ∷ Named z ∷ [])
    inner p = only p

    eqn_defines : (z : List ℕ) → IsOld z → defines behind_eqn z ≡ states_define ss z
    eqn_defines z o = eqn_same enums itself_renames tys (automaton s ss) fits z o

    frame_old : (z : List ℕ) → is_name f.names z ≡ true → IsOld z
    frame_old z e = eqn_old none_known 0 (automaton s ss) fits z (sym (names_of_frame enums s 0 ss z) ∙ e)

    made_defines : (z : List ℕ) → IsOld z → some_defines (eqns_of made) z ≡ states_define ss z
    made_defines z o =
        let few = fits.2 in
        let none_declared : declares words z ≡ false =
        frame_apart tys f frame_old z (λ a room e. to_apart itself_renames z a 0 o room (omega arith) fits.0 (sym e)) ss (and_defined (automaton s ss) none_known) 1 ss fits.3 (omega (arith, few)) in
        sym (and_true (some_defines (eqns_of made) z)) ∙ ap (λ t. some_defines (eqns_of made) z && not t) (sym none_declared) ∙ eqn_defines z o

    inner_same : (z : List ℕ) → IsOld z → inner_names z ≡ mn inner names z
    inner_same z o = by (states_define ss z) refl
      where
        outside : (t : Bool) → some_defines es z ≡ t → states_define ss z ≡ false → moved inner (if t then only (Body ∷ Named z ∷ []) else given_in N z) ≡ (if t then only (Body ∷ Named z ∷ []) else given_in N z)
        outside true q e = ap (λ t. if t then only (Body ∷ Equations ∷ v (Body ∷ Named z ∷ [])) else only (Body ∷ Named z ∷ [])) e
        outside false q e = given_same (shape N z)
          where
            given_same : Shape N z → moved inner (given_in N z) ≡ given_in N z
            given_same (inl h) = ap (moved inner) h.0 ∙ sym h.0
            given_same (inr (inl h)) = ap (moved inner) h.1 ∙ sym h.1
            given_same (inr (inr h)) = ap (moved inner) h.1 ∙ sym h.1

        by : (t : Bool) → states_define ss z ≡ t → inner_names z ≡ mn inner names z
        by true e =
            ap (λ t. if t then only (Body ∷ Equations ∷ v (Body ∷ Named z ∷ [])) else names_within behind_eqn names z) (made_defines z o ∙ e)
            ∙ sym (ap (λ t. moved inner (if t then only (Body ∷ Named z ∷ []) else given_in N z)) (defined z e) ∙ ap (λ t. if t then only (Body ∷ Equations ∷ v (Body ∷ Named z ∷ [])) else only (Body ∷ Named z ∷ [])) e)
        by false e =
            ap (λ t. if t then only (Body ∷ Equations ∷ v (Body ∷ Named z ∷ [])) else names_within behind_eqn names z) (made_defines z o ∙ e)
            ∙ ap (λ t. if t then none else names z) (eqn_defines z o ∙ e)
            ∙ sym (outside (some_defines es z) refl e)

    inner_ends : (z : List ℕ) → states_define ss z ≡ true → IsClear (Body ∷ Named z ∷ []) → Ending (At (Body ∷ Equations ∷ v (Body ∷ Named z ∷ [])))
    inner_ends z e clear =
        let outer = name_ends order ranks kept types outputs fill enums n ds es x px ok declared right r old apart at z (defined z e) clear in
        let read = read_end (looped types outputs fill M (λ y. bytes_eq x y)) (At (Body ∷ Named z ∷ [])) (Some (copies always [] (At (Body ∷ Equations ∷ v (Body ∷ Named z ∷ []))) ∷ [])) (rows z e) outer in
        let row = read.0 in
        let right = row.2 in
        right.0

    source_ends : (q : Place) → IsNear n ds es q → IsClear q → (px ≡ q → ⊥) → Within EndingPlace (inner q)
    source_ends (Body ∷ Named z ∷ []) near clear far = by (states_define ss z) refl
      where
        by : (t : Bool) → states_define ss z ≡ t → Within EndingPlace (if t then only (Body ∷ Equations ∷ v (Body ∷ Named z ∷ [])) else only (Body ∷ Named z ∷ []))
        by true e = (inner_ends z e clear, not_body (Equations ∷ v (Body ∷ Named z ∷ [])))
        by false e = (clear_ends order ranks kept types outputs fill enums n ds es x px ok declared right r old apart at (Body ∷ Named z ∷ []) near clear, far)
    source_ends q near clear far = (clear_ends order ranks kept types outputs fill enums n ds es x px ok declared right r old apart at q near clear, far)

    -- ---- conditions

    -- equations of the block that stands for the automaton, from some place on
    abbrev Standing : List Eqn → Prefix → Type 0
    Standing made h = (p : Place) → ((q : Place) × (h p ≡ Body ∷ q)) × (sources_with_inputs M (h p) ≡ both none (in_equations words (eqns_of made) inner_names (λ q. only (h q)) p))

    -- a condition, where it stands before and behind
    condition_ends : (e : Expr) → Plain e → OldExpr e → (p p' h : Place) → h ≡ Body ∷ p' → (clock : Clock) → clock ≡ [] → (k l : Place → Place) (q : Place) → sources_with_inputs N p ≡ at_expr e [] names (λ z. only (k z)) q
        → sources_with_inputs M h ≡ both none (at_expr (renamed same_name e) clock inner_names (λ z. only (l z)) q) → IsClear p → Ending (At h)
    condition_ends e plain old_e p p' h is clock base k l q before behind clear =
        let sources : Sources = at_expr e [] names (λ z. only (k z)) q in
        let moves : at_expr (renamed same_name e) clock inner_names (λ z. only (l z)) q ≡ moved inner sources =
        ap (λ (g : Expr). at_expr g clock inner_names (λ z. only (l z)) q) (itself e) ∙ ap (λ (c : Clock). at_expr e c inner_names (λ z. only (l z)) q) base
        ∙ condition_same inner_names (mn inner names) inner_same e plain old_e (λ z. only (l z)) (mk inner (λ z. only (k z))) q ∙ sym (ap (λ (g : Place → Sources). g q) (move_expr inner e [] names (λ z. only (k z)))) in
        let kept_near : moved (near n ds es) sources ≡ sources =
        ap (λ (g : Place → Sources). g q) (move_expr (near n ds es) e [] names (λ z. only (k z)))
        ∙ condition_same (mn (near n ds es) names) names (λ z o. names_near n ds es z) e plain old_e (mk (near n ds es) (λ z. only (k z))) (λ z. only (k z)) q in
        let is_source : (z : Place) → IsSource z sources → IsSource z (sources_with_inputs N p) = λ z i. subst (IsSource z) (sym before) i in
        let each : (z : Place) → IsSource z sources → Within EndingPlace (inner z) =
        λ z i. let from = sources_moved (near n ds es) z sources (subst (IsSource z) (sym kept_near) i) in
        source_ends z (is_near n ds es z from.0 from.2) (clear_next n ds es px p z clear (is_source z i)) (λ e. clear [] (subst (λ y. IsSource y (sources_with_inputs N p)) (sym e) (is_source z i))) in
        let all : Within EndingPlace (sources_with_inputs M h) = subst (Within EndingPlace) (sym (behind ∙ ap (both none) moves)) (tt, within_moved inner EndingPlace sources each) in
        subst (λ (z : Place). Ending (At z)) (sym is)
        (place_ends types outputs fill M (low_locals enums ds) (low_eqns enums n ds es) x px (same_given enums N x ∙ at) (kept enums N ok right) p' (subst (λ (z : Place). Within EndingPlace (sources_with_inputs M z)) is all))

    module _ (outs : List ℕ → List (List ℕ)) where
      conditions_found : (all : States) (k m j : ℕ) (end : Expr) (ts : List Trans) (more : List Eqn) (w h : Prefix) → TransitionsOk all ts → ((p : Place) → sources_with_inputs N (w p) ≡ at_conditions ts names (λ q. only (w q)) p)
          → Standing (choices same_name f Strong k m end j ts ++ more) h → All outs EndsSo (found_in_conditions outs ts w h)
      conditions_found all k m j end [] more w h fit before stand = tt
      conditions_found all k m j end (t ∷ ts) more w h fit before stand =
          all-both outs EndsSo (found outs t.cond (below Head w) (at_condition h)) (found_in_conditions outs ts (below Tail w) (below Tail h))
          (expr-related outs EndsSo t.cond (below Head w) (at_condition h)
          (λ p free clear. let here = stand (Head ∷ Right ∷ First ∷ p) in
          condition_ends t.cond fit.0.1 fit.0.0 (w (Head ∷ p)) here.0.0 (h (Head ∷ Right ∷ First ∷ p)) here.0.1 (clock_in words (transition_word Strong f.depth k j)) (base_clock same_name words (frame_base same_name tys f ss) (transition_word Strong f.depth k j))
          (λ q. w (Head ∷ q)) (λ q. h (Head ∷ Right ∷ First ∷ q)) p (before (Head ∷ p)) here.1 clear))
          (conditions_found all k m (j + 1) end ts more (below Tail w) (below Tail h) fit.1 (λ p. before (Tail ∷ p)) (λ p. stand (Tail ∷ p)))

      conditions_behind : (k m j : ℕ) (end : Expr) (ts : List Trans) (more : List Eqn) (h : Prefix) → Standing (choices same_name f Strong k m end j ts ++ more) h → Standing more (behind ts h)
      conditions_behind k m j end [] more h stand = stand
      conditions_behind k m j end (t ∷ ts) more h stand = conditions_behind k m (j + 1) end ts more (below Tail h) (λ p. stand (Tail ∷ p))

      -- what is no free place
      no_place : (p q : Place) → own_free N p ≡ None → EndsSo p q
      no_place p q e free clear = absurd (none_some (own_free N p) e free)
        where
          none_some : {A : Type 0} (o : Option (List A)) → o ≡ None → o ≡ Some [] → ⊥
          none_some o a b = absurd cc

      states_found : (all : States) (outer : Known) (d : ℕ) (k : ℕ) (rest : States) (w h : Prefix) → StatesOk all outer d rest
          → ((p : Place) → sources_with_inputs N (w p) ≡ in_each_state rest (only (Body ∷ Equations ∷ v (Active ∷ []))) names (names_within (automaton s ss) names) (λ q. only (w q)) p) → ((p : Place) → own_free N (w p) ≡ free_in_states rest p)
          → Standing (lowered_states enums same_name tys f k rest) h → All outs EndsSo (found_in_states outs rest w h)
      states_found all outer d k no_state w h fit before free stand = tt
      states_found all outer d k (more_states q b until unless place rest) w h fit before free stand =
          let own = found_in_body outs until b (below Body (below Head w)) (at_body unless h) in
          let weak = found_in_conditions outs until (below Until (below Head w)) (below Equations (at_body unless h)) in
          let strong = found_in_conditions outs unless (below Unless (below Head w)) h in
          let others = found_in_states outs rest (below Tail w) (behind_state unless h) in
          let lower = lowered_states enums same_name tys f (k + 1) rest in
          let last = state_switch f k (lowered_body enums same_name tys f k b until) (idle enums tys f k) in
          let more = from_eqn f k Strong (length unless) (pending_of f) ∷ on_word f k ∷ last ∷ lower in
          let row : Standing (choices same_name f Strong k (length unless) (pending_of f) 0 unless ++ more) h =
          subst (λ (l : List Eqn). Standing l h) (regrouped (choices same_name f Strong k (length unless) (pending_of f) 0 unless) (from_eqn f k Strong (length unless) (pending_of f)) (on_word f k) last lower) stand in
          let later = conditions_behind k (length unless) 0 (pending_of f) unless more h row in
          all-both outs EndsSo own (weak ++ (strong ++ others)) (body-hidden outs EndsSo b until (below Body (below Head w)) (at_body unless h) (λ p z. no_place (w (Head ∷ Body ∷ p)) z (free (Head ∷ Body ∷ p))))
          (all-both outs EndsSo weak (strong ++ others)
          (conditions-hidden outs EndsSo until (below Until (below Head w)) (below Equations (at_body unless h)) (λ p z. no_place (w (Head ∷ Until ∷ p)) z (free (Head ∷ Until ∷ p))))
          (all-both outs EndsSo strong others
          (conditions_found all k (length unless) 0 (pending_of f) unless more (below Unless (below Head w)) h fit.0.2.0 (λ p. before (Head ∷ Unless ∷ p)) row)
          (states_found all outer d (k + 1) rest (below Tail w) (behind_state unless h) fit.1 (λ p. before (Tail ∷ p)) (λ p. free (Tail ∷ p)) (λ p. later (Tail ∷ Tail ∷ Tail ∷ p)))))

      names_behind : (zs : List (List ℕ)) (more : List Eqn) (h : Prefix) → Standing (map (joined enums same_name tys f) zs ++ more) h → Standing more (behind zs h)
      names_behind [] more h stand = stand
      names_behind (z ∷ zs) more h stand = names_behind zs more (below Tail h) (λ p. stand (Tail ∷ p))

      -- So it is of the conditions of the automaton.
      pub automaton_found : ((p : Place) → own_free N (Body ∷ Equations ∷ v (StatesOf ∷ p)) ≡ free_in_states ss p)
          → All outs EndsSo (found_in_states outs ss (λ p. Body ∷ Equations ∷ v (StatesOf ∷ p)) (at_states ss (λ p. Body ∷ Equations ∷ v p)))
      automaton_found free =
          let stand : Standing (map (joined enums same_name tys f) (once (names_of_states ss)) ++ lowered_states enums same_name tys f 0 ss) (λ p. Body ∷ Equations ∷ v (Body ∷ Equations ∷ Tail ∷ Tail ∷ p)) =
          λ p. ((Equations ∷ v (Body ∷ Equations ∷ Tail ∷ Tail ∷ p), refl), low (Body ∷ Equations ∷ Tail ∷ Tail ∷ p)) in
          states_found ss (and_defined (automaton s ss) none_known) 1 0 ss (λ p. Body ∷ Equations ∷ v (StatesOf ∷ p)) (at_states ss (λ p. Body ∷ Equations ∷ v p)) fits.3 (λ p. high (StatesOf ∷ p)) free
          (names_behind (once (names_of_states ss)) (lowered_states enums same_name tys f 0 ss) (λ p. Body ∷ Equations ∷ v (Body ∷ Equations ∷ Tail ∷ Tail ∷ p)) stand)
