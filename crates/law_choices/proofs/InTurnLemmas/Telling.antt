-- The node that tells what its contract assumes and enforces is well made as the node that chooses.
use Rattle.std.proofs.Common.{◌≡◌, ℕ, suc, ◌<◌, Bool, true, false, ◌||◌, List, [], ◌∷◌, ◌++◌, append_assoc, refl, sym, ap, subst, ◌∙◌, arith}
use Rattle.std.specs.Prelude.{get_or, length, nat_lt}
use Rattle.std.proofs.lemmas.List.{length-append}
use Rattle.hp_obc.specs.Machines.{ObcType}
use Rattle.hp_flat.specs.declared.equation.Atom.TheVariants.{Variable as Read}
use Rattle.hp_base.specs.Kinds.{Bools, KindData}
use Rattle.hp_flat.specs.declared.node.FlatTy.TheVariants.{Bool as Truth, Int as FlatInt}
use Rattle.hp_flat.specs.declared.node.Variable.{Variable}
use Rattle.hp_flat.specs.Nodes.{FlatNode}
use Rattle.law_equations.specs.Meaning.Fitting.{IsThere}
use Rattle.law_equations.specs.Meaning.Instants.{Instant}
use Rattle.law_equations.specs.Meaning.Kinding.{Callees, OptionallyOf, kind_of_type, variable_kind, IsPossible, ClocksFit, IsWellMade}
use Rattle.law_equations.specs.Meaning.Reactions.{is_set}
use Rattle.law_equations.specs.Meaning.Scheduling.{IsWithin}
use Rattle.hp_watch.specs.Adding.{added_variable, with_eqn, with_variable, with_copy, next_variable}
use Rattle.law_choices.proofs.ClosedLemmas.Clocking.{kind_there}
use Rattle.law_choices.proofs.AnsweredLemmas.ControlledLoops.{set_front, set_behind, copy_set}
use Rattle.law_choices.proofs.AddingLemmas.Adding.{both}
use Rattle.law_choices.proofs.AddingLemmas.Placed.{same_eqns, set_same}
use Rattle.law_choices.specs.Adding.Placed.{IsPlaced}
use Rattle.law_choices.specs.InTurn.Nodes.{Chosen, telling}

-- ---- a copy is there always

copy_there : (x : ℕ) (n : FlatNode) (now : Instant) → is_set (with_copy x n).eqns now (next_variable n) ≡ true
unfolding with_eqn with_variable
copy_there x n now = set_behind n.eqns _ now (next_variable n) (copy_set (next_variable n) (Read x) now)

copy_keeps : (x : ℕ) (n : FlatNode) (now : Instant) (y : ℕ) → is_set n.eqns now y ≡ true → is_set (with_copy x n).eqns now y ≡ true
unfolding with_eqn with_variable
copy_keeps x n now y h = set_front n.eqns _ now y h

pub copy_next : (x : ℕ) (n : FlatNode) → length (with_copy x n).variables ≡ suc (length n.variables)
unfolding with_eqn with_variable
copy_next x n = let l = length-append n.variables (added_variable (next_variable n) Truth ∷ []) in omega (arith, l)

pub copy_outputs : (x : ℕ) (n : FlatNode) → (with_copy x n).outputs ≡ n.outputs
unfolding with_eqn with_variable
copy_outputs x n = refl

set_there : (types : List ObcType) (n : FlatNode) (now : Instant) (x : ℕ) → IsPossible types n now → is_set n.eqns now x ≡ true → IsThere now x
set_there types n now x p h = by (nat_lt x n.inputs || is_set n.eqns now x) (ap (λ b. nat_lt x n.inputs || b) h ∙ right_true (nat_lt x n.inputs)) (p x)
  where
    right_true : (b : Bool) → (b || true) ≡ true
    right_true true = refl
    right_true false = refl

    by : (b : Bool) → b ≡ true → OptionallyOf b (variable_kind types n.variables x) (now x) → IsThere now x
    by true e v = kind_there (variable_kind types n.variables x) (now x) v
    by false e v = absurd cc

-- ---- the node

module _ (types : List ObcType) (callees : Callees) (asking : FlatNode) (assume enforce : ℕ) (c : Chosen) (placed : IsPlaced (with_copy enforce (with_copy assume asking)) c.node) (assumed : c.assume ≡ length asking.variables) (enforced : c.enforce ≡ suc c.assume) where
  abbrev first : FlatNode
  first = with_copy assume asking

  abbrev second : FlatNode
  second = with_copy enforce first

  moved : (now : Instant) (x : ℕ) → is_set second.eqns now x ≡ true → is_set c.node.eqns now x ≡ true
  moved now x h = sym (set_same now x second.eqns c.node.eqns (same_eqns second.eqns c.node.eqns (sym placed.eqns))) ∙ h

  assume_set : (now : Instant) → is_set c.node.eqns now c.assume ≡ true
  assume_set now = subst (λ x. is_set c.node.eqns now x ≡ true) (sym assumed) (moved now (next_variable asking) (copy_keeps enforce first now (next_variable asking) (copy_there assume asking now)))

  enforce_set : (now : Instant) → is_set c.node.eqns now c.enforce ≡ true
  enforce_set now =
      let at : c.enforce ≡ next_variable first = enforced ∙ ap suc assumed ∙ sym (copy_next assume asking) in
      subst (λ x. is_set c.node.eqns now x ≡ true) (sym at) (moved now (next_variable first) (copy_there enforce first now))

  telling_fits : (now : Instant) → IsPossible types c.node now → ClocksFit c.node now → ClocksFit (telling c) now
  telling_fits now p f = record {
    outputs = both (IsThere now) c.node.outputs (c.assume ∷ c.enforce ∷ []) f.outputs (set_there types c.node now c.assume p (assume_set now), (set_there types c.node now c.enforce p (enforce_set now), tt));
    clocks = f.clocks;
    operands_there = f.operands_there;
    exclusive = f.exclusive;
  }

  pub telling_well : IsWellMade types callees c.node → IsWellMade types callees (telling c)
  telling_well w = record {
    ranked = w.ranked;
    no_inputs = w.no_inputs;
    targets_differ = w.targets_differ;
    values = w.values;
    kinds = w.kinds;
    fit = λ now p. telling_fits now p (w.fit now p);
  }

  long : length c.node.variables ≡ suc (suc (length asking.variables))
  long = ap length placed.variables ∙ copy_next enforce first ∙ ap suc (copy_next assume asking)

  pub telling_in_range : IsWithin c.node → IsWithin (telling c)
  telling_in_range w = record {
    inputs = w.inputs;
    outputs = both (λ x. x < length c.node.variables) c.node.outputs (c.assume ∷ c.enforce ∷ []) w.outputs (omega (arith, long, assumed), (omega (arith, long, assumed, enforced), tt));
    eqns = w.eqns;
  }

  -- ---- what it tells are truth values

  abbrev none : Variable
  none = record { name = []; ty = FlatInt }

  variable_at : (xs : List Variable) (v : Variable) (ys : List Variable) → get_or (xs ++ v ∷ ys) (length xs) none ≡ v
  variable_at [] v ys = refl
  variable_at (x ∷ xs) v ys = variable_at xs v ys

  abbrev kind_in : List Variable → ℕ → KindData
  kind_in vs x = kind_of_type types (get_or vs x none).ty

  pub told_kinds : (variable_kind types c.node.variables c.assume ≡ Bools) × (variable_kind types c.node.variables c.enforce ≡ Bools)
  unfolding with_eqn with_variable
  told_kinds =
      let one = added_variable (next_variable asking) Truth in
      let other = added_variable (next_variable first) Truth in
      let at : c.enforce ≡ next_variable first = enforced ∙ ap suc assumed ∙ sym (copy_next assume asking) in
      let both : c.node.variables ≡ asking.variables ++ one ∷ other ∷ [] = placed.variables ∙ append_assoc asking.variables (one ∷ []) (other ∷ []) in (
        ap (λ vs. kind_in vs c.assume) both ∙ ap (kind_in (asking.variables ++ one ∷ other ∷ [])) assumed ∙ ap (λ (v : Variable). kind_of_type types v.ty) (variable_at asking.variables one (other ∷ [])),
        ap (λ vs. kind_in vs c.enforce) placed.variables ∙ ap (kind_in second.variables) at ∙ ap (λ (v : Variable). kind_of_type types v.ty) (variable_at first.variables other []),
      )
