-- What is shown of the instance of a call has the values of its wires, where the call is there; else nothing of it is shown.
use Rattle.std.proofs.Common.{◌≡◌, ℕ, suc, inl, inr, List, [], ◌∷◌, map, refl, sym, ap, subst, ◌∙◌}
use Rattle.std.proofs.Math.Path.{fun_ext}
use Rattle.std.proofs.lemmas.List.{append_assoc}
use Rattle.std.proofs.lemmas.List.Elements.{All-nil, All-cons}
use Rattle.std.specs.Prelude.{Bool, true, false, if◌then◌else◌, nat_eq, IsTrue, ◌++◌, filter, ⊤, All, Option, None, Some}
use Rattle.hp_base.specs.declared.span.Span.{Span}
use Rattle.hp_base.specs.declared.value.Value.{Value}
use Rattle.hp_base.specs.declared.value.Value.TheVariants.{B}
use Rattle.hp_tree.specs.declared.block.Trans.{Trans}
use Rattle.hp_tree.specs.Expressions.{Expr, constant, variable, last_of, one, two, choose, pre, fby, arrow, when_is, merge, call, Exprs, no_expr, more_exprs, Parts, no_part, more_parts}
use Rattle.hp_tree.specs.Blocks.{Decl, Block, block, Eqns, no_eqn, more_eqns, Eqn, define, switch, reset, automaton, Arms, no_arm, more_arms, States, no_state, more_states}
use Rattle.hp_tree.specs.Programs.{TypeDecl, Contract, Node}
use Rattle.hp_tree.specs.Operators.{is_cons, is_true}
use Rattle.hp_tree.specs.Instant.{Step, Controls, Body, Observer, Assume, Enforce, Named, Fresh, Active, Equations, Head, Tail, Right, Test, Arms as ArmsOf, States as StatesOf, Until, Unless, First, Second, Third, Args, Instance, Place, Instant, part, top, nothing, in_row, Clock, holds, without}
use Rattle.hp_tree.specs.Meaning.{Names, defines, within, inside, clock_of, names_of, state_of, controls_of, Jump, node_among, absent}
use Rattle.hp_meaning.specs.Causal.Sources.{below}
use Rattle.hp_meaning.specs.declared.causal.point.PointKind.TheVariants as kind
use Rattle.hp_meaning.specs.Causal.Points.{Placed, Whereabouts, calls, calls_in_all, calls_in_parts, conditions, lefts, defined_by, points_of, points_of_all, points_of_one, points_of_arms, points_of_states, calls_told, points_of_contract, controls, points, point_at}
use Rattle.hp_meaning.specs.Contract.FreePlaces.{is_call, instance_at, calls_of}
use Rattle.law_games.specs.Wires.Wired.{Held, held_at, Callees, lasts_in, values_of, wired, wired_all, wired_parts, shown, shown_all, shown_parts}
use Rattle.law_games.specs.Wires.WiredBlocks.{read_of, lasts_of, anew, selected_in, wired_conditions, strong_in, wired_block, wired_equations, wired_equation, wired_arms, wired_states, shown_conditions, shown_block, shown_equations, shown_equation, shown_arms, shown_states}
use Rattle.law_games.specs.Wires.WiredNodes.{wired_told, shown_told, wired_observer, shown_observer, body_names, contract_names, wired_node, shown_node}
use Rattle.hp_meaning.specs.Causal.Abstract.{given_outputs}
use Rattle.law_games.specs.Wires.WiredCallees.{no_callees, alone_names, own_last, wired_by, shown_by, callee_wires}
use Rattle.law_games.specs.Wires.Laws.{Tops, Seen, CallsLaw}
use Rattle.law_games.proofs.WiresLemmas.Nodes.{observer_tops}

-- ---- a property of each call among some points

abbrev Each : (Placed → Type 0) → List Placed → Type 0
Each Q [] = ⊤
Each Q (c ∷ cs) = (IsTrue (is_call c.point.kind) → Q c) × Each Q cs

both : (Q : Placed → Type 0) (xs ys : List Placed) → Each Q xs → Each Q ys → Each Q (xs ++ ys)
both Q [] ys h k = k
both Q (x ∷ xs) ys h k = (h.0, both Q xs ys h.1 k)

each_left : (Q : Placed → Type 0) (ys : List (List ℕ × Span)) (named : List ℕ → Place) → Each Q (lefts ys named)
each_left Q [] named = tt
each_left Q (y ∷ ys) named = ((λ e. absurd (cc)), each_left Q ys named)

each_def : (Q : Placed → Type 0) (xs : List (List ℕ)) (s : Span) (named : List ℕ → Place) → Each Q (map (λ x. point_at kind.Def x s (named x)) xs)
each_def Q [] s named = tt
each_def Q (x ∷ xs) s named = ((λ e. absurd (cc)), each_def Q xs s named)

each_control : (Q : Placed → Type 0) (ds : List Decl) (w : Whereabouts) → Each Q (controls ds w)
each_control Q [] w = tt
each_control Q (d ∷ ds) w = ((λ e. absurd (cc)), each_control Q ds (below Tail w))

all_called : (Q : Placed → Type 0) (ps : List Placed) → Each Q ps → All Q (filter (λ p. is_call p.point.kind) ps)
all_called Q [] h = All-nil Q
all_called Q (p ∷ ps) h = by (is_call p.point.kind) h.0 (all_called Q ps h.1)
  where
    by : (d : Bool) → (IsTrue d → Q p) → All Q (filter (λ p. is_call p.point.kind) ps) → All Q (if d then p ∷ filter (λ p. is_call p.point.kind) ps else filter (λ p. is_call p.point.kind) ps)
    by true k u = All-cons Q p (filter (λ p. is_call p.point.kind) ps) (k refl) u
    by false k u = u

-- ---- each call of a part is somewhere in it

module _ (Q : Placed → Type 0) where
  abbrev Within : Whereabouts → Type 0
  Within w = (c : Placed) (q : Place) → c.place ≡ w q → Q c

  abbrev deeper : (s : Step) (w : Whereabouts) → Within w → Within (below s w)
  deeper s w z c q e = z c (s ∷ q) e

  mutual
    expr_in : (e : Expr) (w : Whereabouts) → Within w → Each Q (calls e w)
    expr_in (constant s c) w z = tt
    expr_in (variable s x) w z = tt
    expr_in (last_of s x) w z = tt
    expr_in (one s o a) w z = expr_in a (below First w) (deeper First w z)
    expr_in (two s o a b) w z = both Q (calls a (below First w)) (calls b (below Second w)) (expr_in a (below First w) (deeper First w z)) (expr_in b (below Second w) (deeper Second w z))
    expr_in (choose s a b c) w z =
        both Q (calls a (below First w)) (calls b (below Second w) ++ calls c (below Third w)) (expr_in a (below First w) (deeper First w z))
        (both Q (calls b (below Second w)) (calls c (below Third w)) (expr_in b (below Second w) (deeper Second w z)) (expr_in c (below Third w) (deeper Third w z)))
    expr_in (pre s a) w z = expr_in a (below First w) (deeper First w z)
    expr_in (fby s a b) w z = both Q (calls a (below First w)) (calls b (below Second w)) (expr_in a (below First w) (deeper First w z)) (expr_in b (below Second w) (deeper Second w z))
    expr_in (arrow s a b) w z = both Q (calls a (below First w)) (calls b (below Second w)) (expr_in a (below First w) (deeper First w z)) (expr_in b (below Second w) (deeper Second w z))
    expr_in (when_is s a c x) w z = expr_in a (below First w) (deeper First w z)
    expr_in (merge s x ps) w z = parts_in ps (below Args w) (deeper Args w z)
    expr_in (call s f inlined es) w z = ((λ e. z (point_at kind.Call f s (w [])) [] refl), exprs_in es (below Args w) (deeper Args w z))

    exprs_in : (es : Exprs) (w : Whereabouts) → Within w → Each Q (calls_in_all es w)
    exprs_in no_expr w z = tt
    exprs_in (more_exprs e es) w z = both Q (calls e (below Head w)) (calls_in_all es (below Tail w)) (expr_in e (below Head w) (deeper Head w z)) (exprs_in es (below Tail w) (deeper Tail w z))

    parts_in : (ps : Parts) (w : Whereabouts) → Within w → Each Q (calls_in_parts ps w)
    parts_in no_part w z = tt
    parts_in (more_parts c e ps) w z = both Q (calls e (below Head w)) (calls_in_parts ps (below Tail w)) (expr_in e (below Head w) (deeper Head w z)) (parts_in ps (below Tail w) (deeper Tail w z))

  tests_in : (ts : List Trans) (w : Whereabouts) → Within w → Each Q (conditions ts w)
  tests_in [] w z = tt
  tests_in (t ∷ ts) w z =
      ((λ e. absurd (cc)), both Q (calls t.cond (below Head w)) (conditions ts (below Tail w)) (expr_in t.cond (below Head w) (deeper Head w z)) (tests_in ts (below Tail w) (deeper Tail w z)))

  mutual
    block_in : (ds : List (List ℕ)) (b : Block) (w : Whereabouts) → Within w → Each Q (points_of ds b w)
    block_in ds (block own es) w z = eqns_in (ds ++ names_of own) (λ x. w (Named x ∷ [])) es (below Equations w) (deeper Equations w z)

    eqns_in : (ds : List (List ℕ)) (named : List ℕ → Place) (es : Eqns) (w : Whereabouts) → Within w → Each Q (points_of_all ds named es w)
    eqns_in ds named no_eqn w z = tt
    eqns_in ds named (more_eqns e es) w z =
        both Q (points_of_one ds named e (below Head w)) (points_of_all ds named es (below Tail w)) (eqn_in ds named e (below Head w) (deeper Head w z)) (eqns_in ds named es (below Tail w) (deeper Tail w z))

    eqn_in : (ds : List (List ℕ)) (named : List ℕ → Place) (e : Eqn) (w : Whereabouts) → Within w → Each Q (points_of_one ds named e w)
    eqn_in ds named (define s ys e) w z = both Q (lefts ys named) (calls e (below Right w)) (each_left Q ys named) (expr_in e (below Right w) (deeper Right w z))
    eqn_in ds named (switch s e arms) w z =
        both Q (defined_by (switch s e arms) s ds named) (calls e (below Test w) ++ points_of_arms ds arms (below ArmsOf w)) (each_def Q (filter (defines (switch s e arms)) ds) s named)
        (both Q (calls e (below Test w)) (points_of_arms ds arms (below ArmsOf w)) (expr_in e (below Test w) (deeper Test w z)) (arms_in ds arms (below ArmsOf w) (deeper ArmsOf w z)))
    eqn_in ds named (reset s b e) w z =
        both Q (defined_by (reset s b e) s ds named) (points_of ds b (below Body w) ++ calls e (below Test w)) (each_def Q (filter (defines (reset s b e)) ds) s named)
        (both Q (points_of ds b (below Body w)) (calls e (below Test w)) (block_in ds b (below Body w) (deeper Body w z)) (expr_in e (below Test w) (deeper Test w z)))
    eqn_in ds named (automaton s ss) w z =
        ((λ e. absurd (cc)), ((λ e. absurd (cc)), both Q (defined_by (automaton s ss) s ds named) (points_of_states ds ss (below StatesOf w)) (each_def Q (filter (defines (automaton s ss)) ds) s named) (states_in ds ss (below StatesOf w) (deeper StatesOf w z))))

    arms_in : (ds : List (List ℕ)) (arms : Arms) (w : Whereabouts) → Within w → Each Q (points_of_arms ds arms w)
    arms_in ds no_arm w z = tt
    arms_in ds (more_arms c b s arms) w z =
        both Q (points_of ds b (below Head w)) (points_of_arms ds arms (below Tail w)) (block_in ds b (below Head w) (deeper Head w z)) (arms_in ds arms (below Tail w) (deeper Tail w z))

    states_in : (ds : List (List ℕ)) (ss : States) (w : Whereabouts) → Within w → Each Q (points_of_states ds ss w)
    states_in ds no_state w z = tt
    states_in ds (more_states f b until unless s ss) w z =
        let us = conditions until (below Until (below Head w)) in
        let vs = conditions unless (below Unless (below Head w)) in
        let rest = points_of_states ds ss (below Tail w) in
        both Q (points_of ds b (below Body (below Head w))) (us ++ (vs ++ rest)) (block_in ds b (below Body (below Head w)) (deeper Body (below Head w) (deeper Head w z)))
        (both Q us (vs ++ rest) (tests_in until (below Until (below Head w)) (deeper Until (below Head w) (deeper Head w z)))
        (both Q vs rest (tests_in unless (below Unless (below Head w)) (deeper Unless (below Head w) (deeper Head w z))) (states_in ds ss (below Tail w) (deeper Tail w z))))

-- ---- what is shown of each call

module _ (types : List TypeDecl) (C : Callees) (tops : (f : List ℕ) (ins : List Value) (m : Held) (i : Instant) → i ≡ C.wired f ins m i → Tops (C.shown f ins m i) i) (S W : Instant) where
  abbrev Q : Placed → Type 0
  Q c = Seen (instance_at c S) (instance_at c W)

  -- where a part is: what is shown of it, and its wires
  record At (w : Whereabouts) (s i : Instant) : Type 0 where
    way : (p : Place) → w p ≡ w [] ++ p
    shows : (p : Place) → s p ≡ S (w p)
    wires : (p : Place) → i p ≡ W (w p)

  down : (t : Step) (w : Whereabouts) (s i : Instant) → At w s i → At (below t w) (part t s) (part t i)
  down t w s i a =
      record {
        way = λ p. a.way (t ∷ p) ∙ sym (ap (λ x. x ++ p) (a.way (t ∷ [])) ∙ append_assoc (w []) (t ∷ []) p);
        shows = λ p. a.shows (t ∷ p);
        wires = λ p. a.wires (t ∷ p);
      }

  -- nothing is shown of calls of a part of which nothing is shown
  hidden : (w : Whereabouts) (i : Instant) → At w nothing i → Within Q w
  hidden w i a c q e =
      inr (λ p. ap (λ x. S (x ++ (Instance ∷ p))) (e ∙ a.way q) ∙ ap S (append_assoc (w []) q (Instance ∷ p)) ∙ sym (ap S (a.way (q ++ (Instance ∷ p)))) ∙ sym (a.shows (q ++ (Instance ∷ p))))

  call_seen : (d : Bool) (x i : Instant) → Tops x i → Seen (if d then x else nothing) i
  call_seen true x i t = inl t
  call_seen false x i t = inr (λ p. refl)

  here : (k : List ℕ) (sp : Span) (w : Whereabouts) (s i : Instant) → At w s i → Seen (part Instance s) (part Instance i) → Q (point_at kind.Call k sp (w []))
  here k sp w s i a h =
      let c = point_at kind.Call k sp (w []) in
      let es : part Instance s ≡ instance_at c S = fun_ext (λ p. a.shows (Instance ∷ p) ∙ ap S (a.way (Instance ∷ p))) in
      let ew : part Instance i ≡ instance_at c W = fun_ext (λ p. a.wires (Instance ∷ p) ∙ ap W (a.way (Instance ∷ p))) in
      subst (λ x. Seen x (instance_at c W)) es (subst (λ x. Seen (part Instance s) x) ew h)

  args_are : (es : Exprs) (names last : Names) (m : Held) (now i : Instant) → i ≡ in_row (wired_all types C es names last m now) → map top (wired_all types C es names last m now) ≡ values_of es i
  args_are no_expr names last m now i h = refl
  args_are (more_exprs e es) names last m now i h =
      λ z. sym (ap (λ w. w (Head ∷ [])) h) z ∷ args_are es names last (held_at Tail m) (part Tail now) (part Tail i) (ap (part Tail) h) z

  mutual
    expr_seen : (e : Expr) (clock : Clock) (names last : Names) (m : Held) (w : Whereabouts) (i : Instant) → At w (shown types C e clock names m i) i → i ≡ wired types C e names last m i → Each Q (calls e w)
    expr_seen (constant s c) clock names last m w i a h = tt
    expr_seen (variable s x) clock names last m w i a h = tt
    expr_seen (last_of s x) clock names last m w i a h = tt
    expr_seen (one s o b) clock names last m w i a h = expr_seen b clock names last (held_at First m) (below First w) (part First i) (down First w _ i a) (ap (part First) h)
    expr_seen (two s o b c) clock names last m w i a h =
        both Q (calls b (below First w)) (calls c (below Second w))
        (expr_seen b clock names last (held_at First m) (below First w) (part First i) (down First w _ i a) (ap (part First) h))
        (expr_seen c clock names last (held_at Second m) (below Second w) (part Second i) (down Second w _ i a) (ap (part Second) h))
    expr_seen (choose s b c d) clock names last m w i a h =
        both Q (calls b (below First w)) (calls c (below Second w) ++ calls d (below Third w))
        (expr_seen b clock names last (held_at First m) (below First w) (part First i) (down First w _ i a) (ap (part First) h))
        (both Q (calls c (below Second w)) (calls d (below Third w))
        (expr_seen c clock names last (held_at Second m) (below Second w) (part Second i) (down Second w _ i a) (ap (part Second) h))
        (expr_seen d clock names last (held_at Third m) (below Third w) (part Third i) (down Third w _ i a) (ap (part Third) h)))
    expr_seen (pre s b) clock names last m w i a h = expr_seen b clock names last (held_at First m) (below First w) (part First i) (down First w _ i a) (ap (part First) h)
    expr_seen (fby s b c) clock names last m w i a h =
        both Q (calls b (below First w)) (calls c (below Second w))
        (expr_seen b clock names last (held_at First m) (below First w) (part First i) (down First w _ i a) (ap (part First) h))
        (expr_seen c clock names last (held_at Second m) (below Second w) (part Second i) (down Second w _ i a) (ap (part Second) h))
    expr_seen (arrow s b c) clock names last m w i a h =
        both Q (calls b (below First w)) (calls c (below Second w))
        (expr_seen b clock names last (held_at First m) (below First w) (part First i) (down First w _ i a) (ap (part First) h))
        (expr_seen c clock names last (held_at Second m) (below Second w) (part Second i) (down Second w _ i a) (ap (part Second) h))
    expr_seen (when_is s b c x) clock names last m w i a h = expr_seen b (without clock) names last (held_at First m) (below First w) (part First i) (down First w _ i a) (ap (part First) h)
    expr_seen (merge s x ps) clock names last m w i a h = parts_seen ps x clock names last (held_at Args m) (below Args w) (part Args i) (down Args w _ i a) (ap (part Args) h)
    expr_seen (call s f inlined es) clock names last m w i a h =
        let ins : map top (wired_all types C es names last (held_at Args m) (part Args i)) ≡ values_of es (part Args i) = args_are es names last (held_at Args m) (part Args i) (part Args i) (ap (part Args) h) in
        let wi : part Instance i ≡ C.wired f (values_of es (part Args i)) (held_at Instance m) (part Instance i) = ap (part Instance) h ∙ ap (λ vs. C.wired f vs (held_at Instance m) (part Instance i)) ins in (
          (λ q.
              here f s w (shown types C (call s f inlined es) clock names m i) i a
              (call_seen (holds types clock names) (C.shown f (values_of es (part Args i)) (held_at Instance m) (part Instance i)) (part Instance i) (tops f (values_of es (part Args i)) (held_at Instance m) (part Instance i) wi))),
          exprs_seen es clock names last (held_at Args m) (below Args w) (part Args i) (down Args w (shown types C (call s f inlined es) clock names m i) i a) (ap (part Args) h),
        )

    exprs_seen : (es : Exprs) (clock : Clock) (names last : Names) (m : Held) (w : Whereabouts) (i : Instant) → At w (in_row (shown_all types C es clock names m i)) i → i ≡ in_row (wired_all types C es names last m i) → Each Q (calls_in_all es w)
    exprs_seen no_expr clock names last m w i a h = tt
    exprs_seen (more_exprs e es) clock names last m w i a h =
        both Q (calls e (below Head w)) (calls_in_all es (below Tail w))
        (expr_seen e clock names last (held_at Head m) (below Head w) (part Head i) (down Head w (in_row (shown_all types C (more_exprs e es) clock names m i)) i a) (ap (part Head) h))
        (exprs_seen es clock names last (held_at Tail m) (below Tail w) (part Tail i) (down Tail w (in_row (shown_all types C (more_exprs e es) clock names m i)) i a) (ap (part Tail) h))

    parts_seen : (ps : Parts) (x : List ℕ) (clock : Clock) (names last : Names) (m : Held) (w : Whereabouts) (i : Instant) → At w (in_row (shown_parts types C ps x clock names m i)) i → i ≡ in_row (wired_parts types C ps names last m i) → Each Q (calls_in_parts ps w)
    parts_seen no_part x clock names last m w i a h = tt
    parts_seen (more_parts c e ps) x clock names last m w i a h =
        both Q (calls e (below Head w)) (calls_in_parts ps (below Tail w))
        (expr_seen e ((c, x) ∷ clock) names last (held_at Head m) (below Head w) (part Head i) (down Head w (in_row (shown_parts types C (more_parts c e ps) x clock names m i)) i a) (ap (part Head) h))
        (parts_seen ps x clock names last (held_at Tail m) (below Tail w) (part Tail i) (down Tail w (in_row (shown_parts types C (more_parts c e ps) x clock names m i)) i a) (ap (part Tail) h))

  tests_seen : (ts : List Trans) (names last : Names) (m : Held) (w : Whereabouts) (i : Instant) → At w (in_row (shown_conditions types C ts names m i)) i → i ≡ in_row (wired_conditions types C ts names last m i) → Each Q (conditions ts w)
  tests_seen [] names last m w i a h = tt
  tests_seen (t ∷ ts) names last m w i a h = (
    (λ e. absurd (cc)),
    both Q (calls t.cond (below Head w)) (conditions ts (below Tail w))
        (expr_seen t.cond [] names last (held_at Head m) (below Head w) (part Head i) (down Head w (in_row (shown_conditions types C (t ∷ ts) names m i)) i a) (ap (part Head) h))
        (tests_seen ts names last (held_at Tail m) (below Tail w) (part Tail i) (down Tail w (in_row (shown_conditions types C (t ∷ ts) names m i)) i a) (ap (part Tail) h)),
  )

  -- a part that is taken, or not
  taken : (d : Bool) (x i : Instant) (w : Whereabouts) (ps : List Placed) → (At w x i → Each Q ps) → (Within Q w → Each Q ps) → At w (if d then x else nothing) i → Each Q ps
  taken true x i w ps h k a = h a
  taken false x i w ps h k a = k (hidden w i a)

  word : (b : Block) (fresh : Bool) (names last : Names) (m : Held) (i : Instant) → wired_block types C b fresh names last m i (Fresh ∷ []) ≡ B fresh
  word (block ds es) fresh names last m i = refl

  mutual
    block_seen : (ds : List (List ℕ)) (b : Block) (fresh : Bool) (names last : Names) (m : Held) (w : Whereabouts) (i : Instant) → At w (shown_block types C b names last m i) i → i ≡ wired_block types C b fresh names last m i → Each Q (points_of ds b w)
    block_seen ds (block own es) fresh names last m w i a h =
        eqns_seen own (ds ++ names_of own) (λ x. w (Named x ∷ [])) es (inside es names i) (lasts_in own m.memory last) (held_at Equations m) (below Equations w) (part Equations i)
        (down Equations w (shown_block types C (block own es) names last m i) i a) (ap (part Equations) h)

    eqns_seen : (own : List Decl) (ds : List (List ℕ)) (named : List ℕ → Place) (es : Eqns) (names last : Names) (m : Held) (w : Whereabouts) (i : Instant) → At w (shown_equations types C own es names last m i) i → i ≡ wired_equations types C es names last m i → Each Q (points_of_all ds named es w)
    eqns_seen own ds named no_eqn names last m w i a h = tt
    eqns_seen own ds named (more_eqns e es) names last m w i a h =
        both Q (points_of_one ds named e (below Head w)) (points_of_all ds named es (below Tail w))
        (eqn_seen own ds named e names last (held_at Head m) (below Head w) (part Head i) (down Head w (shown_equations types C own (more_eqns e es) names last m i) i a) (ap (part Head) h))
        (eqns_seen own ds named es names last (held_at Tail m) (below Tail w) (part Tail i) (down Tail w (shown_equations types C own (more_eqns e es) names last m i) i a) (ap (part Tail) h))

    eqn_seen : (own : List Decl) (ds : List (List ℕ)) (named : List ℕ → Place) (e : Eqn) (names last : Names) (m : Held) (w : Whereabouts) (i : Instant) → At w (shown_equation types C own e names last m i) i → i ≡ wired_equation types C e names last m i → Each Q (points_of_one ds named e w)
    eqn_seen own ds named (define s ys e) names last m w i a h =
        both Q (lefts ys named) (calls e (below Right w)) (each_left Q ys named)
        (expr_seen e (clock_of own ys e) names last (held_at Right m) (below Right w) (part Right i) (down Right w (shown_equation types C own (define s ys e) names last m i) i a) (ap (part Right) h))
    eqn_seen own ds named (switch s e arms) names last m w i a h =
        both Q (defined_by (switch s e arms) s ds named) (calls e (below Test w) ++ points_of_arms ds arms (below ArmsOf w)) (each_def Q (filter (defines (switch s e arms)) ds) s named)
        (both Q (calls e (below Test w)) (points_of_arms ds arms (below ArmsOf w))
        (expr_seen e [] names last (held_at Test m) (below Test w) (part Test i) (down Test w (shown_equation types C own (switch s e arms) names last m i) i a) (ap (part Test) h))
        (arms_seen ds arms (i (Test ∷ [])) (within (switch s e arms) names last) last (held_at ArmsOf m) (below ArmsOf w) (part ArmsOf i) (down ArmsOf w (shown_equation types C own (switch s e arms) names last m i) i a) (ap (part ArmsOf) h)))
    eqn_seen own ds named (reset s b e) names last m w i a h =
        let t : i (Test ∷ []) ≡ top (wired types C e names last (held_at Test m) (part Test i)) = λ z. h z (Test ∷ []) in
        both Q (defined_by (reset s b e) s ds named) (points_of ds b (below Body w) ++ calls e (below Test w)) (each_def Q (filter (defines (reset s b e)) ds) s named)
        (both Q (points_of ds b (below Body w)) (calls e (below Test w))
        (block_seen ds b (is_true (i (Test ∷ []))) (within (reset s b e) names last) last (anew types C b (is_true (i (Test ∷ []))) (held_at Body m)) (below Body w) (part Body i)
        (down Body w (shown_equation types C own (reset s b e) names last m i) i a)
        (ap (part Body) h ∙ ap (λ v. wired_block types C b (is_true v) (within (reset s b e) names last) last (anew types C b (is_true v) (held_at Body m)) (part Body i)) (sym t)))
        (expr_seen e [] names last (held_at Test m) (below Test w) (part Test i) (down Test w (shown_equation types C own (reset s b e) names last m i) i a) (ap (part Test) h)))
    eqn_seen own ds named (automaton s ss) names last m w i a h =
        let j = strong_in types C ss ss 0 (selected_in m.memory) names last (held_at StatesOf m) (part StatesOf i) in (
          (λ e. absurd (cc)),
          (
            (λ e. absurd (cc)),
            both Q (defined_by (automaton s ss) s ds named) (points_of_states ds ss (below StatesOf w)) (each_def Q (filter (defines (automaton s ss)) ds) s named)
                (states_seen ds ss 0 (state_of (i (Active ∷ []))) j names (within (automaton s ss) names last) last (held_at StatesOf m) (below StatesOf w) (part StatesOf i)
                (down StatesOf w (shown_equation types C own (automaton s ss) names last m i) i a) (ap (part StatesOf) h)),
          ),
        )

    arms_seen : (ds : List (List ℕ)) (arms : Arms) (v : Value) (names last : Names) (m : Held) (w : Whereabouts) (i : Instant) → At w (shown_arms types C arms v names last m i) i → i ≡ wired_arms types C arms names last m i → Each Q (points_of_arms ds arms w)
    arms_seen ds no_arm v names last m w i a h = tt
    arms_seen ds (more_arms c b s arms) v names last m w i a h =
        both Q (points_of ds b (below Head w)) (points_of_arms ds arms (below Tail w))
        (taken (is_cons types v c) (shown_block types C b names last (held_at Head m) (part Head i)) (part Head i) (below Head w) (points_of ds b (below Head w))
        (λ k. block_seen ds b false names last (held_at Head m) (below Head w) (part Head i) k (ap (part Head) h))
        (block_in Q ds b (below Head w))
        (down Head w (shown_arms types C (more_arms c b s arms) v names last m i) i a))
        (arms_seen ds arms v names last (held_at Tail m) (below Tail w) (part Tail i) (down Tail w (shown_arms types C (more_arms c b s arms) v names last m i) i a) (ap (part Tail) h))

    states_seen : (ds : List (List ℕ)) (ss : States) (k n : ℕ) (j : Jump) (out names last : Names) (m : Held) (w : Whereabouts) (i : Instant) → At w (shown_states types C ss k n out names last m i) i → i ≡ wired_states types C ss j out names last m i → Each Q (points_of_states ds ss w)
    states_seen ds no_state k n j out names last m w i a h = tt
    states_seen ds (more_states f b until unless s ss) k n j out names last m w i a h =
        let us = conditions until (below Until (below Head w)) in
        let vs = conditions unless (below Unless (below Head w)) in
        let rest = points_of_states ds ss (below Tail w) in
        let mb = held_at Body (held_at Head m) in
        let ib = part Body (part Head i) in
        let r = is_true (i (Head ∷ Body ∷ Fresh ∷ [])) in
        let t : i (Head ∷ Body ∷ Fresh ∷ []) ≡ B j.restart = (λ z. h z (Head ∷ Body ∷ Fresh ∷ [])) ∙ word b j.restart names last (anew types C b j.restart mb) ib in
        let ah = down Head w (shown_states types C (more_states f b until unless s ss) k n out names last m i) i a in
        both Q (points_of ds b (below Body (below Head w))) (us ++ (vs ++ rest))
        (taken (nat_eq k n) (shown_block types C b names last (anew types C b r mb) ib) ib (below Body (below Head w)) (points_of ds b (below Body (below Head w)))
        (λ u. block_seen ds b r names last (anew types C b r mb) (below Body (below Head w)) ib u
        (ap (λ x. part Body (part Head x)) h ∙ ap (λ d. wired_block types C b d names last (anew types C b d mb) ib) (sym (ap is_true t))))
        (block_in Q ds b (below Body (below Head w)))
        (down Body (below Head w) (part Head (shown_states types C (more_states f b until unless s ss) k n out names last m i)) (part Head i) ah))
        (both Q us (vs ++ rest)
        (taken (nat_eq k n) (in_row (shown_conditions types C until (read_of b names ib) (held_at Until (held_at Head m)) (part Until (part Head i)))) (part Until (part Head i)) (below Until (below Head w)) us
        (λ u. tests_seen until (read_of b names ib) (lasts_of b (anew types C b j.restart mb).memory last) (held_at Until (held_at Head m)) (below Until (below Head w)) (part Until (part Head i)) u (ap (λ x. part Until (part Head x)) h))
        (tests_in Q until (below Until (below Head w)))
        (down Until (below Head w) (part Head (shown_states types C (more_states f b until unless s ss) k n out names last m i)) (part Head i) ah))
        (both Q vs rest
        (tests_seen unless out last (held_at Unless (held_at Head m)) (below Unless (below Head w)) (part Unless (part Head i))
        (down Unless (below Head w) (part Head (shown_states types C (more_states f b until unless s ss) k n out names last m i)) (part Head i) ah) (ap (λ x. part Unless (part Head x)) h))
        (states_seen ds ss (suc k) n j out names last (held_at Tail m) (below Tail w) (part Tail i) (down Tail w (shown_states types C (more_states f b until unless s ss) k n out names last m i) i a) (ap (part Tail) h))))

  told_seen : (o : Option Expr) (names last : Names) (m : Held) (w : Whereabouts) (i : Instant) → At w (shown_told types C o names m i) i → i ≡ wired_told types C o names last m i → Each Q (calls_told o w)
  told_seen None names last m w i a h = tt
  told_seen (Some e) names last m w i a h = expr_seen e [] names last m w i a h

  contract_seen : (o : Option Contract) (names last : Names) (m : Held) (w : Whereabouts) (i : Instant) → At (below Observer w) (part Observer (shown_observer types C o names last m i)) (part Observer i) → At (below Assume w) (part Assume (shown_observer types C o names last m i)) (part Assume i) → At (below Enforce w) (part Enforce (shown_observer types C o names last m i)) (part Enforce i) → part Observer i ≡ part Observer (wired_observer types C o names last m i) → part Assume i ≡ part Assume (wired_observer types C o names last m i) → part Enforce i ≡ part Enforce (wired_observer types C o names last m i) → Each Q (points_of_contract o w)
  contract_seen None names last m w i ag aa ae hg ha he = tt
  contract_seen (Some c) names last m w i ag aa ae hg ha he =
      let inner = read_of c.body names (part Observer i) in
      let own = lasts_of c.body (part Observer m.memory) last in
      both Q (points_of [] c.body (below Observer w)) (calls_told c.assume (below Assume w) ++ calls_told c.enforce (below Enforce w))
      (block_seen [] c.body false names last (held_at Observer m) (below Observer w) (part Observer i) ag hg)
      (both Q (calls_told c.assume (below Assume w)) (calls_told c.enforce (below Enforce w))
      (told_seen c.assume inner own (held_at Assume m) (below Assume w) (part Assume i) aa ha)
      (told_seen c.enforce inner own (held_at Enforce m) (below Enforce w) (part Enforce i) ae he))

module _ (types : List TypeDecl) (C : Callees) (tops : (f : List ℕ) (ins : List Value) (m : Held) (i : Instant) → i ≡ C.wired f ins m i → Tops (C.shown f ins m i) i) where
  node_seen : (n : Node) (inputs : List Value) (m : Held) (now : Instant) → now ≡ wired_node types C n inputs m now → All (λ c. Seen (instance_at c (shown_node types C n inputs m now)) (instance_at c now)) (calls_of n)
  node_seen n inputs m now h =
      let S = shown_node types C n inputs m now in
      let R : Placed → Type 0 = λ c. Seen (instance_at c S) (instance_at c now) in
      let last = lasts_in n.outputs m.memory absent in
      let root : At types C tops S now (λ p. p) S now = record { way = λ p. refl; shows = λ p. refl; wires = λ p. refl } in
      let cs = controls (controls_of n.contract) (λ p. Controls ∷ p) in
      let gs = points_of_contract n.contract (λ p. p) in
      let bs = points_of (names_of n.outputs) n.body (λ p. Body ∷ p) in
      all_called R (points n)
      (both R cs (gs ++ bs) (each_control R (controls_of n.contract) (λ p. Controls ∷ p))
      (both R gs bs
      (contract_seen types C tops S now n.contract (contract_names types C n inputs now) last m (λ p. p) now
      (down types C tops S now Observer (λ p. p) S now root) (down types C tops S now Assume (λ p. p) S now root) (down types C tops S now Enforce (λ p. p) S now root)
      (ap (part Observer) h) (ap (part Assume) h) (ap (part Enforce) h))
      (block_seen types C tops S now (names_of n.outputs) n.body false (body_names types C n inputs m.free) last (held_at Body m) (λ p. Body ∷ p) (part Body now)
      (down types C tops S now Body (λ p. p) S now root) (ap (part Body) h))))

callee_tops : (types : List TypeDecl) (o : Option Node) (ins : List Value) (m : Held) (i : Instant) → i ≡ wired_by types o ins m i → Tops (shown_by types o ins m i) i
callee_tops types None ins m i h = (refl, (sym (ap (λ w. w (Assume ∷ [])) h), sym (ap (λ w. w (Enforce ∷ [])) h)))
callee_tops types (Some n) ins m i h =
    let t = observer_tops types no_callees n.contract (alone_names n ins m.free) (own_last n m) m i nothing (given_outputs n.outputs m.free absent) ins [] h in
    (refl, (t.0, t.1))

pub calls_seen : CallsLaw
calls_seen types items n inputs m now h = node_seen types (callee_wires types items) (λ f ins m i. callee_tops types (node_among items f) ins m i) n inputs m now h
