-- Places of equations.
use Rattle.std.proofs.Common.{◌≡◌, ◌⊎◌, inl, inr, ℕ, ◌+◌, ◌≤◌, true, ◌&&◌, ◌||◌, nat_eq, List, [], ◌∷◌, ◌++◌, length, map, refl, sym, ap, ap₂, subst, ◌∙◌, arith}
use Rattle.std.specs.Prelude.{Contains}
use Rattle.std.specs.List.{AllByRecursion, IsDistinct, range_with_len}
use Rattle.std.proofs.lemmas.List.Elements.{All-contains, All-from_recursion, Contains-append_cases}
use Rattle.hp_base.specs.declared.value.Value.{Value}
use Rattle.hp_obc.specs.Machines.{ObcType}
use Rattle.hp_flat.specs.Equations.{Clock, FlatEqn}
use Rattle.hp_flat.specs.Nodes.{FlatNode}
use Rattle.law_equations.specs.Meaning.Fitting.{operands}
use Rattle.law_equations.specs.Meaning.Instants.{Instant, holds}
use Rattle.law_equations.specs.Meaning.Kinding.{Callees, EqnKinds}
use Rattle.law_equations.specs.Meaning.Reactions.{Answers, has, is_set, Holds, Continues, Reaction}
use Rattle.law_equations.specs.Meaning.Scheduling.{EqnWithin}
use Rattle.law_equations.specs.Made.Laws.{unplaced}
use Rattle.hp_controller.specs.Extending.{rows_with}
use Rattle.law_choices.specs.Adding.Adding.{IsWellBuilt}
use Rattle.law_choices.specs.Adding.Keeping.{IsBased}
use Rattle.law_choices.specs.Adding.Placed.{IsPlaced, PlacedLaw, PlacedReactionLaw, PlacedLoopLaw}
use Rattle.law_choices.specs.Closed.Closed.{IsTarget, IsGiven, variables_in}
use Rattle.law_choices.specs.Closed.Clocking.{IsFrontOf, IsDefinedOn, StepsStand, IsSplit, AreClocks}
use Rattle.law_choices.specs.Closed.Exclusive.{AreParted, Differ}
use Rattle.law_choices.proofs.ClosedLemmas.ClosedLaws.{each_other, first_one, later_one}

-- ---- equations

abbrev pub AreSame : List FlatEqn → List FlatEqn → Type 0
AreSame [] [] = Unit {0}
AreSame (e ∷ es) (f ∷ fs) = (unplaced e ≡ unplaced f) × AreSame es fs
AreSame es fs = ⊥

first_of : FlatEqn → List FlatEqn → FlatEqn
first_of d [] = d
first_of d (e ∷ es) = e

rest_of : List FlatEqn → List FlatEqn
rest_of [] = []
rest_of (e ∷ es) = es

pub same_eqns : (es fs : List FlatEqn) → map unplaced es ≡ map unplaced fs → AreSame es fs
unfolding first_of rest_of
same_eqns [] [] h = tt
same_eqns [] (f ∷ fs) h = absurd cc
same_eqns (e ∷ es) [] h = absurd cc
same_eqns (e ∷ es) (f ∷ fs) h = (ap (first_of (unplaced e)) h, same_eqns es fs (ap rest_of h))

-- what says nothing of places
pub transfer : (P : FlatEqn → Type 0) → ((e : FlatEqn) → P e → P (unplaced e)) → ((e : FlatEqn) → P (unplaced e) → P e) → (es fs : List FlatEqn) → AreSame es fs → AllByRecursion P es → AllByRecursion P fs
transfer P up down [] [] s h = tt
transfer P up down [] (f ∷ fs) s h = absurd s
transfer P up down (e ∷ es) [] s h = absurd s
transfer P up down (e ∷ es) (f ∷ fs) s h = (down f (subst P s.0 (up e h.0)), transfer P up down es fs s.1 h.1)

abbrev Twin : List FlatEqn → FlatEqn → Type 0
Twin fs e = (f : FlatEqn) × Contains fs f × (unplaced e ≡ unplaced f)

twin : (es fs : List FlatEqn) → AreSame es fs → (e : FlatEqn) → Contains es e → Twin fs e
twin [] [] s e c = absurd (omega (arith, c.1))
twin [] (f ∷ fs) s e c = absurd s
twin (d ∷ es) [] s e c = absurd s
twin (d ∷ es) (f ∷ fs) s e c = by (λ h. twin es fs s.1 e h) (Contains-append_cases (d ∷ []) es e c)
  where
    by : (Contains es e → Twin fs e) → Contains (d ∷ []) e ⊎ Contains es e → Twin (f ∷ fs) e
    by rest (inl h) =
        let same : e ≡ d = All-contains (λ (z : FlatEqn). z ≡ d) (d ∷ []) e (All-from_recursion (λ (z : FlatEqn). z ≡ d) (d ∷ []) (refl, tt)) h in
        (f, first_one f fs, ap unplaced same ∙ s.0)
    by rest (inr h) = let t = rest h in (t.0, later_one f t.0 fs t.1, t.2)

target : (es fs : List FlatEqn) → AreSame es fs → (x : ℕ) → IsTarget es x → IsTarget fs x
target es fs s x t = let r = twin es fs s t.0 t.1 in (r.0, r.1, subst (λ (z : FlatEqn). Contains z.targets x) r.2 t.2)

-- ---- nothing is defined twice

parted_same : (es fs : List FlatEqn) → AreSame es fs → AreParted es → AreParted fs
parted_same [] [] s h = tt
parted_same [] (f ∷ fs) s h = absurd s
parted_same (e ∷ es) [] s h = absurd s
parted_same (e ∷ es) (f ∷ fs) s h = (transfer (Differ f) (λ d g. g) (λ d g. g) es fs s.1 (subst (λ (z : FlatEqn). AllByRecursion (Differ z) es) s.0 h.0), parted_same es fs s.1 h.1)

pub set_same : (now : Instant) (x : ℕ) (es fs : List FlatEqn) → AreSame es fs → is_set es now x ≡ is_set fs now x
set_same now x [] [] s = refl
set_same now x [] (f ∷ fs) s = absurd s
set_same now x (e ∷ es) [] s = absurd s
set_same now x (e ∷ es) (f ∷ fs) s = ap₂ (λ a b. a || b) (ap (λ (z : FlatEqn). holds z.clock now && has z.targets x) s.0) (set_same now x es fs s.1)

-- ---- a node with other equations

module _ (n : FlatNode) (fs : List FlatEqn) (s : AreSame n.eqns fs) where
  abbrev these : FlatNode
  these = record { name = n.name; variables = n.variables; inputs = n.inputs; outputs = n.outputs; eqns = fs }

  given : (x : ℕ) → IsGiven n x → IsGiven these x
  given x (inl h) = inl h
  given x (inr t) = inr (target n.eqns fs s x t)

  defined_on : (x : ℕ) (c : Clock) → IsDefinedOn n x c → IsDefinedOn these x c
  defined_on x c h =
      let r = twin n.eqns fs s h.0 h.1 in
      (r.0, r.1, subst (λ (z : FlatEqn). Contains z.targets x) r.2 h.2, sym (ap (λ (z : FlatEqn). z.clock) r.2) ∙ h.3)

  module _ (types : List ObcType) (callees : Callees) (clock : ℕ → Clock) where
    stand : (before rest : Clock) → StepsStand n types clock before rest → StepsStand these types clock before rest
    stand before [] h = tt
    stand before (on ∷ rest) h = (h.0, stand (before ++ on ∷ []) rest h.1)

    split : (x : ℕ) → IsSplit n types clock x → IsSplit these types clock x
    split x h = record { tested = h.tested; there = h.there; has_one = h.has_one; arms = λ k a. defined_on x (clock x ++ (h.tested, k) ∷ []) (h.arms k a) }

    defined : (x : ℕ) → IsDefinedOn n x (clock x) ⊎ IsSplit n types clock x → IsDefinedOn these x (clock x) ⊎ IsSplit these types clock x
    defined x (inl h) = inl (defined_on x (clock x) h)
    defined x (inr h) = inr (split x h)

    back : (x : ℕ) → IsTarget fs x → IsTarget n.eqns x
    back = target fs n.eqns (turned n.eqns fs s)
      where
        turned : (es ds : List FlatEqn) → AreSame es ds → AreSame ds es
        turned [] [] h = tt
        turned [] (d ∷ ds) h = absurd h
        turned (e ∷ es) [] h = absurd h
        turned (e ∷ es) (d ∷ ds) h = (sym h.0, turned es ds h.1)

    are_clocks : AreClocks n types clock → AreClocks these types clock
    are_clocks c = record {
      outputs = c.outputs;
      steps = transfer (λ (e : FlatEqn). StepsStand these types clock [] e.clock) (λ e h. h) (λ e h. h) n.eqns fs s
          (each_other (λ (e : FlatEqn). StepsStand n types clock [] e.clock) (λ (e : FlatEqn). StepsStand these types clock [] e.clock) (λ e h. stand [] e.clock h) n.eqns c.steps);
      reads = transfer (λ (e : FlatEqn). AllByRecursion (λ x. IsFrontOf (clock x) e.clock) (operands e.right)) (λ e h. h) (λ e h. h) n.eqns fs s c.reads;
      defined = λ x t. defined x (c.defined x (back x t));
    }

    well : IsWellBuilt types callees clock n → IsWellBuilt types callees clock these
    well w =
        let i = w.within in
        let c = w.closed in
        record {
          within = record {
            inputs = i.inputs;
            outputs = i.outputs;
            eqns = transfer (EqnWithin (length n.variables)) (λ e h. record { targets = h.targets; clock = h.clock; operands = h.operands; restart = h.restart })
                (λ e h. record { targets = h.targets; clock = h.clock; operands = h.operands; restart = h.restart }) n.eqns fs s i.eqns;
          };
          no_inputs = transfer (λ (e : FlatEqn). AllByRecursion (λ x. n.inputs ≤ x) e.targets) (λ e h. h) (λ e h. h) n.eqns fs s w.no_inputs;
          targets_differ = transfer (λ (e : FlatEqn). IsDistinct nat_eq e.targets) (λ e h. h) (λ e h. h) n.eqns fs s w.targets_differ;
          values = w.values;
          kinds = transfer (EqnKinds types callees n.variables) (λ e h. record { right = h.right; clock = h.clock; restart = h.restart }) (λ e h. record { right = h.right; clock = h.clock; restart = h.restart }) n.eqns fs s w.kinds;
          closed = record {
            variables = λ x l. given x (c.variables x l);
            outputs = each_other (IsGiven n) (IsGiven these) given n.outputs c.outputs;
            eqns = transfer (λ (e : FlatEqn). AllByRecursion (IsGiven these) (variables_in e)) (λ e h. h) (λ e h. h) n.eqns fs s
                (each_other (λ (e : FlatEqn). AllByRecursion (IsGiven n) (variables_in e)) (λ (e : FlatEqn). AllByRecursion (IsGiven these) (variables_in e)) (λ e h. each_other (IsGiven n) (IsGiven these) given (variables_in e) h) n.eqns c.eqns);
          };
          parted = parted_same n.eqns fs s w.parted;
          clocks = are_clocks w.clocks;
        }

  -- reactions are those of the first equations
  continues : (answers : Answers) (past : List Instant) (row : List Value) (now : Instant) → Continues answers n past row now → Continues answers these past row now
  continues answers past row now h = record {
    inputs_are = h.inputs_are;
    equations = transfer (Holds answers past now) (λ e g. g) (λ e g. g) n.eqns fs s h.equations;
    others = λ x l e. h.others x l (set_same now x n.eqns fs s ∙ e);
  }

  reacts : (answers : Answers) (rows : List (List Value)) (instants : List Instant) → Reaction answers n rows instants → Reaction answers these rows instants
  reacts answers [] [] r = tt
  reacts answers [] (now ∷ past) r = absurd r
  reacts answers (row ∷ rows) [] r = absurd r
  reacts answers (row ∷ rows) (now ∷ past) r = (reacts answers rows past r.0, continues answers past row now r.1)

-- ---- the laws

-- the other node is the node with its equations
is_other : (n other : FlatNode) → IsPlaced n other → other ≡ record { name = n.name; variables = n.variables; inputs = n.inputs; outputs = n.outputs; eqns = other.eqns }
is_other n other p = λ j. record { name = p.name j; variables = p.variables j; inputs = p.inputs j; outputs = p.outputs j; eqns = other.eqns }

turned : (n other : FlatNode) → IsPlaced n other → IsPlaced other n
turned n other p = record { name = sym p.name; variables = sym p.variables; inputs = sym p.inputs; outputs = sym p.outputs; eqns = sym p.eqns }

pub placed_law : PlacedLaw
placed_law types callees clock n other p b =
    subst (IsBased types callees clock) (sym (is_other n other p)) (record { well = well n other.eqns (same_eqns n.eqns other.eqns (sym p.eqns)) types callees clock b.well; inputs = b.inputs })

pub placed_reaction_law : PlacedReactionLaw
placed_reaction_law n other p answers rows instants r =
    let q = turned n other p in
    subst (λ (m : FlatNode). Reaction answers m rows instants) (sym (is_other other n q)) (reacts other n.eqns (same_eqns other.eqns n.eqns (sym q.eqns)) answers rows instants r)

pub placed_loop_law : PlacedLoopLaw
placed_loop_law plant n other controls answers p c =
    let l = c.loop in
    let v = l.variables in
    record {
      loop = record {
        name = p.name ∙ l.name;
        inputs = l.inputs ∙ ap (λ k. k + controls) (sym p.inputs);
        within = l.within;
        variables = (v.0, p.variables ∙ v.1);
        defined = λ now. subst (λ k. AllByRecursion (λ x. is_set other.eqns now x ≡ true) (range_with_len k controls)) (sym p.inputs)
            (each_other (λ x. is_set n.eqns now x ≡ true) (λ x. is_set other.eqns now x ≡ true) (λ x e. sym (set_same now x n.eqns other.eqns (same_eqns n.eqns other.eqns (sym p.eqns))) ∙ e) (range_with_len n.inputs controls) (l.defined now));
      };
      follows = λ rows instants r.
          let f = c.follows rows instants (placed_reaction_law n other p answers rows instants r) in
          record {
            followed = f.followed;
            reaction = subst (λ k. Reaction answers plant (rows_with k controls rows instants) f.followed) (sym p.inputs) f.reaction;
            outputs = f.outputs ∙ ap (λ xs. map (λ (now : Instant). map now xs) instants) (sym p.outputs);
          };
    }
