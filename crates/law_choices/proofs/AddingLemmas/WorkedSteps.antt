-- A variable that is lifted, and a node that chooses.
use Rattle.std.proofs.Common.{◌≡◌, inl, inr, ℕ, zero, suc, ◌<◌, true, false, List, [], ◌∷◌, Some, refl, sym, subst, arith}
use Rattle.std.specs.Prelude.{codes}
use Rattle.std.specs.List.{IsDistinct}
use Rattle.std.proofs.lemmas.List.Elements.{All-contains, All-from_recursion}
use Rattle.hp_base.specs.Kinds.{Bools}
use Rattle.hp_boolx.specs.Machine.{IsMachine}
use Rattle.hp_flat.specs.Equations.{FlatEqn}
use Rattle.law_equations.specs.Meaning.Kinding.{Callees, EqnKinds}
use Rattle.law_equations.specs.Meaning.Scheduling.{EqnWithin}
use Rattle.law_equations.specs.Meaning.Solving.{TargetsDiffer}
use Rattle.hp_watch.specs.Watching.{surveyed, Watched, watched_by, IsWatched}
use Rattle.law_choices.specs.Adding.Choosing.{IsOfNode}
use Rattle.law_choices.specs.Adding.Keeping.{IsBased}
use Rattle.law_choices.specs.Adding.Surveyed.{Suits, AllSuit}
use Rattle.law_choices.specs.Adding.Lifts.{SomeLiftLaw}
use Rattle.hp_flat.specs.Nodes.{FlatNode}
use Rattle.hp_controller.specs.Controlled.{controlled}
use Rattle.hp_watch.specs.Adding.{with_variable, with_eqn, with_copy}
use Rattle.law_choices.specs.Adding.Whole.{IsWhole}
use Rattle.law_choices.specs.Adding.Worked.{handed_on, free_node, free_machine, one_control, asked_alone, SomeControlledLaw, SomeWholeLaw, one_observer, some_tree, SomeEmbeddedLaw, SomeWatchedLaw, SomeWatchingLaw}
use Rattle.law_choices.specs.Closed.Closed.{IsTarget, IsGiven}
use Rattle.law_choices.specs.Closed.Clocking.{IsDefinedOn, IsSplit, copy_where, by_cases}
use Rattle.law_choices.specs.Closed.Exclusive.{AreParted}
use Rattle.law_choices.proofs.ClosedLemmas.Cases.{base, is_one, split}
use Rattle.law_choices.proofs.ClosedLemmas.ClosedLaws.{first_one}
use Rattle.law_wellmade.proofs.PartedLemmas.Adding.{part-behind}

-- ---- two cases

copies_within : (c : ℕ) → EqnWithin 2 (copy_where c)
copies_within c = record { targets = (omega arith, tt); clock = (omega arith, tt); operands = (omega arith, tt); restart = tt }

copies_kinds : (callees : Callees) (c : ℕ) → c < 2 → EqnKinds [] callees by_cases.variables (copy_where c)
copies_kinds callees c l = record { right = (Bools ∷ [], (refl, tt), Bools, refl, refl); clock = (l, tt); restart = tt }

one_target : IsTarget by_cases.eqns 1
one_target = (copy_where 1, first_one (copy_where 1) (copy_where 0 ∷ []), first_one 1 [])

given : (x : ℕ) → x < 2 → IsGiven by_cases x
given zero l = inl (omega arith)
given (suc zero) l = inr one_target
given (suc (suc x)) l = absurd (omega (arith, l))

targets_differ : TargetsDiffer by_cases
unfolding IsDistinct
targets_differ = ((tt, tt), ((tt, tt), tt))

parted : AreParted by_cases.eqns
parted = (((λ x h g. part-behind [] 0 1 0 refl), tt), (tt, tt))

by_cases_based : (callees : Callees) → IsBased [] callees base by_cases
by_cases_based callees = record {
  well = record {
    within = record { inputs = omega arith; outputs = (omega arith, tt); eqns = (copies_within 1, (copies_within 0, tt)) };
    no_inputs = ((omega arith, tt), ((omega arith, tt), tt));
    targets_differ = targets_differ;
    values = (tt, (tt, tt));
    kinds = (copies_kinds callees 1 (omega arith), (copies_kinds callees 0 (omega arith), tt));
    closed = record { variables = given; outputs = (given 1 (omega arith), tt); eqns = ((given 0 (omega arith), (given 0 (omega arith), tt)), ((given 0 (omega arith), (given 0 (omega arith), tt)), tt)) };
    parted = parted;
    clocks = record {
      outputs = (refl, tt);
      steps = ((([], refl), tt), ((([], refl), tt), tt));
      reads = ((((0, 1) ∷ [], refl), tt), ((((0, 0) ∷ [], refl), tt), tt));
      defined = λ x t. inr (subst (λ y. IsSplit by_cases [] base y) (sym (is_one x t)) split);
    };
  };
  inputs = λ x l. refl;
}

pub some_lift_law : SomeLiftLaw
some_lift_law callees = (
  by_cases_based callees,
  tt,
  record { within = (omega arith, tt); steps = (([], refl), tt); arms = (omega arith, tt) },
  record { variable = omega arith; there = ((0, 1) ∷ [], refl); type = refl },
)

-- ---- a free control variable

output_target : IsTarget free_node.eqns 1
output_target = (handed_on, first_one handed_on [], first_one 1 [])

free_given : (x : ℕ) → x < 2 → IsGiven free_node x
free_given zero l = inl (omega arith)
free_given (suc zero) l = inr output_target
free_given (suc (suc x)) l = absurd (omega (arith, l))

on_base : (x : ℕ) → IsTarget free_node.eqns x → IsDefinedOn free_node x []
on_base x t =
    let each : FlatEqn → Type 0 = λ (e : FlatEqn). e.clock ≡ [] in
    (t.0, t.1, t.2, All-contains each free_node.eqns t.0 (All-from_recursion each free_node.eqns (refl, tt)) t.1)

free_differ : TargetsDiffer free_node
unfolding IsDistinct
free_differ = ((tt, tt), tt)

pub free_based : IsBased [] asked_alone (λ x. []) free_node
free_based = record {
  well = record {
    within = record { inputs = omega arith; outputs = (omega arith, tt); eqns = (record { targets = (omega arith, tt); clock = tt; operands = (omega arith, tt); restart = tt }, tt) };
    no_inputs = ((omega arith, tt), tt);
    targets_differ = free_differ;
    values = (tt, (tt, tt));
    kinds = (record { right = (Bools ∷ [], (refl, tt), Bools, refl, refl); clock = tt; restart = tt }, tt);
    closed = record { variables = free_given; outputs = (free_given 1 (omega arith), tt); eqns = ((free_given 0 (omega arith), tt), tt) };
    parted = (tt, tt);
    clocks = record { outputs = (refl, tt); steps = (tt, tt); reads = ((([], refl), tt), tt); defined = λ x t. inl (on_base x t) };
  };
  inputs = λ x l. refl;
}

pub is_machine : IsMachine free_machine
is_machine = record {
  few = omega arith;
  gates = (omega arith, omega arith);
  init = refl;
  next = refl;
  next_gates = All-from_recursion (λ k. k < 1) [] tt;
  valid = omega arith;
  hyp = omega arith;
  duty = omega arith;
  prefer = refl;
  widths = refl;
}

pub some_controlled_law : SomeControlledLaw
some_controlled_law = (
  free_based,
  record {
    machine = is_machine;
    inputs = omega arith;
    variables = omega arith;
    within = (record { targets = (omega arith, tt); clock = tt; operands = (omega arith, tt); restart = tt }, tt);
    as_many = refl;
    bits = (refl, tt);
    widths = refl;
  },
  record { takes = refl; gives = refl },
  (refl, tt),
)

-- ---- a node that is made of it, with ranks

unfoldable pub placed_eqns : List ℕ → List FlatEqn → List FlatEqn
placed_eqns [] es = es
placed_eqns (at ∷ ats) [] = []
placed_eqns (at ∷ ats) (e ∷ es) = record e { at = at } ∷ placed_eqns ats es

unranked : FlatNode
unranked = with_copy 3 (with_copy 3 (controlled free_node free_machine (codes "f$ctl") [] [] one_control))

with_ranks : FlatNode
with_ranks = record { name = unranked.name; variables = unranked.variables; inputs = unranked.inputs; outputs = unranked.outputs; eqns = placed_eqns (2 ∷ 0 ∷ 0 ∷ 1 ∷ 1 ∷ 1 ∷ []) unranked.eqns }

pub never : {P : Type 0} → false ≡ true → P
never h = absurd cc

some_whole : IsWhole free_node free_machine (codes "f$ctl") [] [] one_control with_ranks
unfolding with_ranks unranked placed_eqns with_variable with_eqn
some_whole = record {
  assume = 3;
  enforce = 3;
  assume_bit = (omega arith, omega arith);
  enforce_bit = (omega arith, omega arith);
  placed = record { name = refl; variables = refl; inputs = refl; outputs = refl; eqns = refl };
  ranked = (
    ((never, (never, (never, ((λ h. omega arith), (never, (never, tt)))))), tt),
    (tt, (tt, (((never, ((λ h. omega arith), (never, (never, (never, (never, tt)))))), tt), (((never, (never, ((λ h. omega arith), (never, (never, (never, tt)))))), tt), (((never, (never, ((λ h. omega arith), (never, (never, (never, tt)))))), tt), tt))))),
  );
}

pub some_whole_law : SomeWholeLaw
some_whole_law = (with_ranks, some_whole)

-- ---- an observer, and a free place

pub some_embedded_law : SomeEmbeddedLaw
some_embedded_law = record {
  stands = record { within = (omega arith, tt); steps = (([], refl), tt); arms = (omega arith, tt) };
  restart_within = tt;
  restart_kinds = tt;
  kinds = (refl, tt);
  below = (omega arith, tt);
  there = (((0, 1) ∷ [], refl), tt);
}

pub some_watched_law : SomeWatchedLaw
some_watched_law = record {
  numbered = omega arith;
  stands = record { within = (omega arith, tt); steps = (([], refl), tt); arms = (omega arith, tt) };
  there = record { variable = omega arith; there = ((0, 1) ∷ [], refl); type = refl };
}

-- ---- a node that is watched

some_suits : (f : List ℕ) → Suits [] asked_alone f one_observer
some_suits f = record { own = λ x. []; based = free_based; takes = refl; free = tt }

pub all_suit : AllSuit [] asked_alone (λ f. Some one_observer)
all_suit f o e = let same : one_observer ≡ o = cc in subst (Suits [] asked_alone f) same (some_suits f)

abbrev pub some_watched : Watched
some_watched = watched_by [] [] (surveyed (λ f. Some one_observer) one_observer 0 [] free_node)

pub is_watched : IsWatched [] (λ f. Some one_observer) some_tree [] free_node some_watched
is_watched = record { fits = record { events = refl; own = one_observer; has = refl; places = refl }; is = refl }

pub of_some_tree : IsOfNode [] asked_alone (λ x. []) some_tree free_node
of_some_tree = record { based = free_based; few = omega arith; takes = refl; gives = refl; own = ((inl refl, tt), tt) }

pub some_watching_law : SomeWatchingLaw
some_watching_law = (some_watched, is_watched, of_some_tree, all_suit)
