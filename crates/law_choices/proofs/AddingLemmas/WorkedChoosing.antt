-- A node that meets all that is asked of one that chooses; an equation at another place, and calls of which the same is said.
use Rattle.std.proofs.Common.{◌≡◌, ℕ, zero, suc, ◌≤◌, false, [], ◌∷◌, refl, arith}
use Rattle.std.specs.Prelude.{codes}
use Rattle.hp_base.specs.declared.value.Value.TheVariants.{Absent}
use Rattle.hp_flat.specs.Nodes.{FlatNode}
use Rattle.law_equations.specs.Meaning.Reactions.{is_set}
use Rattle.hp_controller.specs.Controlled.{controlled, IsControllable}
use Rattle.hp_watch.specs.Adding.{with_variable, with_eqn, with_copy}
use Rattle.law_choices.specs.Adding.Whole.{IsWhole}
use Rattle.law_choices.specs.Adding.Worked.{free_node, free_machine, one_control, asked_alone, SomeChoosingLaw, later_node, both_true, SomePlacedLaw, SomeCalledLaw}
use Rattle.law_choices.proofs.AnsweredLemmas.Extended.{own_loop}
use Rattle.law_choices.proofs.AddingLemmas.Decoding.{controlled_stays}
use Rattle.law_choices.proofs.AddingLemmas.WorkedSteps.{never, placed_eqns, is_machine, free_based, all_suit, some_watched, is_watched, of_some_tree}

-- ---- the node that is watched chooses

watched_unranked : FlatNode
watched_unranked = with_copy 5 (with_copy 5 (controlled some_watched.node free_machine (codes "f$ctl") some_watched.early some_watched.late one_control))

pub watched_ranked : FlatNode
watched_ranked = record {
  name = watched_unranked.name;
  variables = watched_unranked.variables;
  inputs = watched_unranked.inputs;
  outputs = watched_unranked.outputs;
  eqns = placed_eqns (2 ∷ 3 ∷ 4 ∷ 0 ∷ 0 ∷ 1 ∷ 1 ∷ 1 ∷ []) watched_unranked.eqns;
}

watched_controllable : IsControllable some_watched.node free_machine some_watched.early one_control
unfolding with_variable with_eqn
watched_controllable = record {
  machine = is_machine;
  inputs = omega arith;
  variables = omega arith;
  within = (
    record { targets = (omega arith, tt); clock = tt; operands = (omega arith, tt); restart = tt },
    (
      record { targets = (omega arith, tt); clock = tt; operands = (omega arith, tt); restart = tt },
      (record { targets = (omega arith, tt); clock = tt; operands = (omega arith, tt); restart = tt }, tt),
    ),
  );
  as_many = refl;
  bits = (refl, tt);
  widths = refl;
}

pub watched_whole : IsWhole some_watched.node free_machine (codes "f$ctl") some_watched.early some_watched.late one_control watched_ranked
unfolding watched_ranked watched_unranked placed_eqns with_variable with_eqn
watched_whole = record {
  assume = 5;
  enforce = 5;
  assume_bit = (omega arith, omega arith);
  enforce_bit = (omega arith, omega arith);
  placed = record { name = refl; variables = refl; inputs = refl; outputs = refl; eqns = refl };
  ranked = (
    ((never, (never, (never, (never, (never, ((λ h. omega arith), (never, (never, tt)))))))), tt),
    (
      (((λ h. omega arith), (never, (never, (never, (never, (never, (never, (never, tt)))))))), tt),
      (
        ((never, ((λ h. omega arith), (never, (never, (never, (never, (never, (never, tt)))))))), tt),
        (
          tt,
          (
            tt,
            (
              ((never, (never, (never, ((λ h. omega arith), (never, (never, (never, (never, tt)))))))), tt),
              (
                ((never, (never, (never, (never, ((λ h. omega arith), (never, (never, (never, tt)))))))), tt),
                (((never, (never, (never, (never, ((λ h. omega arith), (never, (never, (never, tt)))))))), tt), tt),
              ),
            ),
          ),
        ),
      ),
    ),
  );
}

-- what it copies is the first gate of the machine
pub watched_gates : (watched_whole.assume ≡ 5) × (watched_whole.enforce ≡ 5)
unfolding watched_whole
watched_gates = (refl, refl)

pub some_choosing_law : SomeChoosingLaw
some_choosing_law = (some_watched, watched_ranked, tt, of_some_tree, all_suit, is_watched, watched_controllable, record { takes = refl; gives = refl }, (refl, tt), watched_whole)

-- ---- another place

other_absent : (x : ℕ) → 1 ≤ x → is_set later_node.eqns both_true x ≡ false → both_true x ≡ Absent
other_absent zero l h = absurd (omega (arith, l))
other_absent (suc zero) l h = absurd cc
other_absent (suc (suc x)) l h = refl

pub some_placed_law : SomePlacedLaw
some_placed_law = (
  record { name = refl; variables = refl; inputs = refl; outputs = refl; eqns = refl },
  free_based,
  λ answers. ((tt, record { inputs_are = refl; equations = ((λ h. refl), tt); others = other_absent }), own_loop free_node (omega arith) answers),
)

-- ---- calls

pub some_called_law : SomeCalledLaw
some_called_law =
    let stays = controlled_stays [] asked_alone free_node (λ x. []) free_machine (codes "f$ctl") [] [] one_control free_based (record {
      machine = is_machine;
      inputs = omega arith;
      variables = omega arith;
      within = (record { targets = (omega arith, tt); clock = tt; operands = (omega arith, tt); restart = tt }, tt);
      as_many = refl;
      bits = (refl, tt);
      widths = refl;
    }) (record { takes = refl; gives = refl }) tt tt (refl, tt) in
    (stays.clocks, stays.built, (tt, ((refl, refl), (tt, (tt, tt)))), refl)
