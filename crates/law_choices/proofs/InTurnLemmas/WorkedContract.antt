-- What is made of a node whose contract asks for nothing.
use Rattle.std.proofs.Common.{◌≡◌, ◌⊎◌, inl, inr, zero, suc, true, false, [], ◌∷◌, Some, length, refl, arith}
use Rattle.std.specs.Prelude.{IsFalse, codes}
use Rattle.std.specs.List.{IsDistinct}
use Rattle.hp_boolx.specs.Game.{Before, Forced, Permitted, Safe}
use Rattle.hp_boolx.specs.Machine.{game}
use Rattle.hp_boolx.specs.Search.{Bits}
use Rattle.hp_boolx.specs.Solved.{IsChoice}
use Rattle.hp_controller.specs.Controlling.{IsController}
use Rattle.hp_controller.specs.Laws.{WellMadeLaw}
use Rattle.hp_watch.specs.Adding.{with_variable, with_eqn}
use Rattle.hp_watch.specs.Watching.{IsWatched}
use Rattle.law_choices.specs.Adding.Worked.{free_node, free_machine, one_control, one_observer}
use Rattle.law_choices.proofs.AddingLemmas.WorkedSteps.{is_machine, some_watched}
use Rattle.law_choices.proofs.AddingLemmas.WorkedChoosing.{watched_ranked, watched_whole}
use Rattle.law_choices.specs.InTurn.Nodes.{Contracted}
use Rattle.law_choices.specs.InTurn.Worked.{contract_tree, free_controller, SomeContractedLaw}

-- ---- nothing is ever forced, and each choice is permitted

safe : (r : Bits) → Safe (game free_machine) r
safe r zero f = f
safe r (suc n) f = by ((f.2 (true ∷ []) (refl, ([], (refl, refl)))).3) (safe (game free_machine).init n)
  where
    by : IsFalse true ⊎ Forced (game free_machine) n [] → (Forced (game free_machine) n [] → ⊥) → ⊥
    by (inl e) rest = absurd cc
    by (inr g) rest = rest g

permitted : (r u c : Bits) → length c ≡ 1 → Permitted (game free_machine) r u c
permitted r u c l = ((l, ([], (refl, refl))), λ w v h. (refl, safe []))

before : (d : Bits) → length d ≡ 1 → Before (true ∷ []) (true ∷ []) d
before [] l = absurd (omega (arith, l))
before (true ∷ []) l = inl (refl, tt)
before (false ∷ []) l = inr ((λ e. absurd cc), refl)
before (b ∷ c ∷ d) l = absurd (omega (arith, l))

choice : (r u : Bits) → IsChoice (game free_machine) r u (true ∷ [])
choice r u = record { len = refl; best = λ d l p. (permitted r u (true ∷ []) refl, before d l); else_prefer = λ none. refl }

-- ---- the controller

pub is_controller : WellMadeLaw → IsController free_machine free_controller
unfolding IsDistinct
is_controller well_made = record {
  name = refl;
  bits = (refl, tt);
  numbered = refl;
  few = omega arith;
  inputs = refl;
  outputs = refl;
  within = record { inputs = omega arith; outputs = (omega arith, tt); eqns = (record { targets = (omega arith, tt); clock = tt; operands = tt; restart = tt }, tt) };
  outputs_behind = (omega arith, tt);
  outputs_differ = (tt, tt);
  always = (refl, tt);
  exclusive = λ now. ((λ c. tt), tt);
  stateless = (tt, tt);
  well_made = λ types callees. well_made types callees (codes "f$ctl") 0 [] (1 ∷ []);
  gives = λ answers past r u now lr lu goes. (true ∷ [], choice r u, goes.equations.0 refl);
}

-- ---- all of it

pub watched_as_well : IsWatched [] (λ f. Some one_observer) contract_tree [] free_node some_watched
watched_as_well = record { fits = record { events = refl; own = one_observer; has = refl; places = refl }; is = refl }

abbrev pub some_contracted : Contracted
some_contracted = record { plant = free_node; controller = free_controller; own = watched_ranked; chosen = record { node = watched_ranked; assume = 6; enforce = 7 } }

pub some_contracted_law : WellMadeLaw → SomeContractedLaw
unfolding with_variable with_eqn
some_contracted_law well_made = (
  some_contracted,
  record {
    machine = free_machine;
    is_machine = is_machine;
    named = refl;
    controller = is_controller well_made;
    controls = one_control;
    count = refl;
    kinds = (tt, tt);
    bits = (refl, tt);
    widths = refl;
    is_early = [];
    watched = some_watched;
    is_watched = watched_as_well;
    early = refl;
    whole = watched_whole;
    assume = refl;
    enforce = refl;
    own = refl;
  },
)
