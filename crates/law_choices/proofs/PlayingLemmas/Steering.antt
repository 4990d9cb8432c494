-- The node that chooses runs under the choices of its controller.
use Rattle.std.proofs.Common.{◌≡◌, ◌⊎◌, inr, ℕ, ◌<◌, ◌≤◌, List, [], ◌∷◌, length, refl, ap, subst, ◌∙◌, arith}
use Rattle.std.specs.List.{AllByRecursion}
use Rattle.std.proofs.lemmas.List.{append-nil}
use Rattle.hp_base.specs.Kinds.{IsOfKind}
use Rattle.hp_base.specs.declared.value.Value.{Value}
use Rattle.hp_boolx.specs.Machine.{Machine}
use Rattle.hp_obc.specs.Machines.{ObcType}
use Rattle.hp_flat.specs.Equations.{Clock, FlatEqn}
use Rattle.hp_flat.specs.Nodes.{FlatNode}
use Rattle.law_equations.specs.Meaning.Instants.{Instant}
use Rattle.law_equations.specs.Meaning.Kinding.{Callees}
use Rattle.law_equations.specs.Meaning.Reactions.{Answers, Reaction}
use Rattle.hp_controller.specs.declared.decoding.Control.{Control}
use Rattle.hp_controller.specs.Controlled.{ControlledLaw, IsControlledRun}
use Rattle.hp_controller.specs.Extending.{Extends, ExtendedLaw, rows_with}
use Rattle.hp_controller.specs.Steps.{AnswersAsController}
use Rattle.law_choices.specs.Adding.Keeping.{Keeps}
use Rattle.law_choices.specs.Adding.Whole.{IsWhole, MayChoose}
use Rattle.law_choices.specs.Playing.Steering.{AlwaysBits, asking_instants, WholeRunLaw, TypedAtLaw}
use Rattle.law_choices.proofs.AddingLemmas.One.{kind-at}
use Rattle.law_choices.proofs.AddingLemmas.Placed.{placed_reaction_law}
use Rattle.law_choices.proofs.AddingLemmas.Whole.{asking, asking_based, closed, copies}
use Rattle.law_choices.proofs.ClosedLemmas.ClosedLaws.{each_other}
use Rattle.law_choices.proofs.ClosedLemmas.Clocking.{is_there_on, kind_of}

-- no inputs are added to rows
pub no-more : (answers : Answers) (n : FlatNode) (from : ℕ) (rows : List (List Value)) (instants : List Instant) → Reaction answers n rows instants → rows_with from 0 rows instants ≡ rows
no-more answers n from [] [] r = refl
no-more answers n from [] (now ∷ past) r = absurd r
no-more answers n from (row ∷ rows) [] r = absurd r
no-more answers n from (row ∷ rows) (now ∷ past) r = ap (λ v. v ∷ rows_with from 0 rows past) (append-nil row) ∙ ap (λ vs. row ∷ vs) (no-more answers n from rows past r.0)

module _ (types : List ObcType) (callees : Callees) (clock : ℕ → Clock) (plant n other : FlatNode) (m : Machine) (name early late : List ℕ) (controls : List Control) (k : Keeps types callees clock plant n)
    (may : MayChoose types callees k.clocks n m name early late controls) (whole : IsWhole n m name early late controls other) where
  abbrev node : FlatNode
  node = asking types callees clock plant n other m name early late controls k may whole

  abbrev told : FlatNode
  told = closed types callees clock plant n other m name early late controls k may whole

  abbrev more : List FlatEqn
  more = ((copies types callees clock plant n other m name early late controls k may whole).grows.eqns).0

  told-extends : Extends node told 0 more
  told-extends =
      let based = asking_based types callees clock plant n other m name early late controls k may whole in
      let c = copies types callees clock plant n other m name early late controls k may whole in
      let g = c.grows in
      let e = g.eqns in
      let w = based.well in
      let i = w.within in
      record {
        inputs = let q = g.inputs in omega (arith, q);
        variables = i.inputs;
        within = i.eqns;
        eqns = e.1;
        targets = each_other (λ (e : FlatEqn). AllByRecursion (λ x. length node.variables ≤ x) e.targets) (λ (e : FlatEqn). AllByRecursion (λ x. (x < node.inputs) ⊎ (length node.variables ≤ x)) e.targets)
            (λ e h. each_other (λ x. length node.variables ≤ x) (λ x. (x < node.inputs) ⊎ (length node.variables ≤ x)) (λ x l. inr l) e.targets h) more c.fresh;
      }

  runs : ExtendedLaw → ControlledLaw → (answers : Answers) → AnswersAsController answers m name → (rows : List (List Value)) (instants : List Instant) → Reaction answers other rows instants
      → AlwaysBits early late (asking_instants n m name early late controls instants) → IsControlledRun answers n m early late controls rows (asking_instants n m name early late controls instants)
  runs extended controlled_law answers asked rows instants reaction bits =
      let first = placed_reaction_law told other whole.placed answers rows instants reaction in
      let second = extended answers node told 0 more told-extends rows instants first in
      let same = no-more answers told told.inputs rows instants first in
      controlled_law answers n m name early late controls may.controllable asked rows (asking_instants n m name early late controls instants)
      (subst (λ vs. Reaction answers node vs (asking_instants n m name early late controls instants)) same second) bits

pub whole_run_law : ExtendedLaw → ControlledLaw → WholeRunLaw
whole_run_law extended controlled_law types callees clock plant n other m name early late controls based k may whole answers asked rows instants reaction bits =
    runs types callees clock plant n other m name early late controls k may whole extended controlled_law answers asked rows instants reaction bits

pub typed_at_law : TypedAtLaw
typed_at_law types callees clock n now based ranked possible x l h =
    let w = based.well in
    let closed = w.closed in
    let there = is_there_on types n ranked closed clock w.clocks now possible x (closed.variables x l) h in
    subst (λ q. IsOfKind q (now x)) (kind-at types n x) (kind_of types n ranked closed clock w.clocks now possible x there)
