-- The clocked equations of a program are well built.
use Rattle.std.proofs.Common.{◌≡◌, ◌⊎◌, inl, inr, ℕ, ◌<◌, ◌≤◌, List, [], ◌∷◌, length, subst, ◌∙◌, arith}
use Rattle.std.specs.Prelude.{All}
use Rattle.std.specs.List.{AllByRecursion}
use Rattle.std.proofs.lemmas.List.Elements.{All-head, All-tail}
use Rattle.hp_obc.specs.Form.{HasConstructors}
use Rattle.hp_obc.specs.Machines.{ObcType}
use Rattle.hp_automata.specs.Lowering.{enumerations, lowered_program}
use Rattle.hp_flat.specs.Equations.{FlatEqn}
use Rattle.hp_flat.specs.Nodes.{FlatNode}
use Rattle.law_equations.specs.Fitting.Fitting.{TargetsLaw}
use Rattle.law_equations.specs.Made.Types.{obc_types}
use Rattle.law_equations.specs.Meaning.Kinding.{Callees}
use Rattle.law_equations.specs.Meaning.Scheduling.{EqnWithin, IsWithin}
use Rattle.hp_tree.specs.Meaning.{types_of}
use Rattle.hp_complete.specs.Declaring.{known_of}
use Rattle.law_wellmade.proofs.RegularLemmas.RegularLaws.{lowered}
use Rattle.law_choices.specs.Closed.Clocking.{IsCopy, DefinesOwn, HasOwnClocks}
use Rattle.law_choices.specs.OnClocks.WellMade.{calls_of}
use Rattle.law_choices.specs.Adding.Adding.{IsWellBuilt}
use Rattle.law_choices.specs.Adding.Base.{based}
use Rattle.law_choices.specs.Adding.Lifts.{HaveBytes}
use Rattle.law_choices.specs.Adding.Made.{IsReadyMade, CompiledMadeLaw, ReadyMadeLaw, BytesLaw}
use Rattle.law_choices.proofs.ClosedLemmas.ClosedLaws.{each_both}
use Rattle.law_wellmade.proofs.BegunLemmas.Items.{types_low}
use Rattle.law_choices.proofs.OnClocksLemmas.Programs.{all_clocked, compiled_clocked, compilable_law}
use Rattle.law_choices.proofs.OnClocksLemmas.WellMade.{IsKnown, compiled_within, compiled_known}
use Rattle.law_choices.proofs.AddingLemmas.Steps.{based_law, own_same}

-- ---- one node

module _ (types : List ObcType) (callees : Callees) (n : FlatNode) (k : IsKnown types callees n) (h : HasOwnClocks types n) (within : IsWithin n) where
  well : IsWellBuilt types callees h.clock n
  well = record {
    within = within;
    no_inputs = (k.0).no_inputs;
    targets_differ = (k.0).targets_differ;
    values = (k.0).values;
    kinds = (k.0).kinds;
    closed = k.1.0;
    parted = k.1.1;
    clocks = h.clocks;
  }

  -- what is defined is no input, so its clock stays
  own_there : (e : FlatEqn) → AllByRecursion (λ x. n.inputs ≤ x) e.targets → EqnWithin (length n.variables) e → DefinesOwn h.clock e → DefinesOwn (based n h.clock) e
  own_there e low in_range own =
      each_both (λ x. (n.inputs ≤ x) × (x < length n.variables)) (λ x. (h.clock x ≡ e.clock) ⊎ IsCopy e.right) (λ x. (based n h.clock x ≡ e.clock) ⊎ IsCopy e.right) by e.targets
      (each_both (λ x. n.inputs ≤ x) (λ x. x < length n.variables) (λ x. (n.inputs ≤ x) × (x < length n.variables)) (λ x l u. (l, u)) e.targets low in_range.targets) own
    where
      by : (x : ℕ) → (n.inputs ≤ x) × (x < length n.variables) → (h.clock x ≡ e.clock) ⊎ IsCopy e.right → (based n h.clock x ≡ e.clock) ⊎ IsCopy e.right
      by x l (inl q) = inl (own_same types callees h.clock n well x l.0 l.1 ∙ q)
      by x l (inr c) = inr c

  all_own : (es : List FlatEqn) → AllByRecursion (λ (e : FlatEqn). AllByRecursion (λ x. n.inputs ≤ x) e.targets) es → AllByRecursion (EqnWithin (length n.variables)) es → AllByRecursion (DefinesOwn h.clock) es → AllByRecursion (DefinesOwn (based n h.clock)) es
  all_own [] low in_range own = tt
  all_own (e ∷ es) low in_range own = (own_there e low.0 in_range.0 own.0, all_own es low.1 in_range.1 own.1)

  ready_made : IsReadyMade types callees n
  ready_made = record { clock = based n h.clock; based = based_law types callees h.clock n well; own = all_own n.eqns (k.0).no_inputs within.eqns h.own }

-- ---- the nodes

pub compiled_made_law : TargetsLaw → CompiledMadeLaw
compiled_made_law law program low t c short fs made =
    let types = obc_types (types_of low) in
    let callees = calls_of types (known_of low) in
    let clocked = all_clocked types (known_of low) low fs made (compiled_clocked program low t c) in
    each_both (λ f. IsKnown types callees f × HasOwnClocks types f) IsWithin (IsReadyMade types callees) (λ f k w. ready_made types callees f k.0 k.1 w) fs
    (each_both (IsKnown types callees) (HasOwnClocks types) (λ f. IsKnown types callees f × HasOwnClocks types f) (λ f k h. (k, h)) fs (compiled_known law program low t c short fs made) clocked) (compiled_within law program low t c short fs made)

pub ready_made_law : TargetsLaw → ReadyMadeLaw
ready_made_law law program after r ok form short fs made =
    let low = lowered_program after in
    let c = compilable_law program after r ok form in
    subst (λ ts. AllByRecursion (IsReadyMade (obc_types ts) (calls_of (obc_types ts) (known_of low))) fs) (types_low (enumerations [] after) after) (compiled_made_law law program low c.0 c.1 (lowered after ok short) fs made)

-- ---- bytes

few_each : (types : List ObcType) → All HasConstructors types → HaveBytes types
few_each [] h = tt
few_each (t ∷ types) h = let few = (All-head HasConstructors t types h).1 in (omega (arith, few), few_each types (All-tail HasConstructors t types h))

pub bytes_law : BytesLaw
bytes_law types form = few_each types form.counts
