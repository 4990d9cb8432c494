-- What a node has it has without the equations that define nothing.
use Rattle.std.proofs.Common.{◌≡◌, ℕ, suc, ◌<◌, ◌≤◌, Bool, true, false, cond, List, [], ◌∷◌, ◌++◌, length, map, refl, sym, ap, subst, ◌∙◌, arith}
use Rattle.std.specs.List.{AllByRecursion, filter}
use Rattle.hp_obc.specs.Machines.{ObcType}
use Rattle.hp_flat.specs.Equations.{FlatEqn}
use Rattle.hp_flat.specs.Nodes.{FlatNode}
use Rattle.law_equations.specs.Flattened.Flat.{Flat}
use Rattle.law_equations.specs.Flattened.Flatten.{FlatName}
use Rattle.law_equations.specs.Flattened.Numbered.{targets_from, definitions, StandFor, HasTargets, AreEquationsFor}
use Rattle.law_equations.specs.Meaning.Scheduling.{reads, IsDefinedBelow, IsRanked, EqnWithin}
use Rattle.law_equations.specs.Followed.Premises.{EqnForm}
use Rattle.law_equations.specs.Followed.Programs.{CallsOnly, CallsAmong}
use Rattle.law_equations.specs.Fewer.Compiling.{CopyAgrees, FlatForm, AreFlatNodes}
use Rattle.hp_normal.specs.Reading.{copy_of}
use Rattle.law_equations.specs.Answered.Fitting.{DefineSome}
use Rattle.hp_machines.specs.Making.{defines_some, giving}

abbrev kept : List FlatEqn → List FlatEqn
kept es = filter defines_some es

-- ---- lists of equations

pub kept_all : (P : FlatEqn → Type 0) (es : List FlatEqn) → AllByRecursion P es → AllByRecursion P (kept es)
kept_all P [] h = tt
kept_all P (e ∷ es) h = by (defines_some e) (kept_all P es h.1)
  where
    by : (b : Bool) → AllByRecursion P (kept es) → AllByRecursion P (cond b (e ∷ kept es) (kept es))
    by true rest = (h.0, rest)
    by false rest = rest

shorter : (es : List FlatEqn) → length (kept es) ≤ length es
shorter [] = omega arith
shorter (e ∷ es) = by (defines_some e) (shorter es)
  where
    by : (b : Bool) → length (kept es) ≤ length es → length (cond b (e ∷ kept es) (kept es)) ≤ suc (length es)
    by true rest = omega (arith, rest)
    by false rest = omega (arith, rest)

all_numbers : (P Q : ℕ → Type 0) → ((x : ℕ) → P x → Q x) → (xs : List ℕ) → AllByRecursion P xs → AllByRecursion Q xs
all_numbers P Q f [] h = tt
all_numbers P Q f (x ∷ xs) h = (f x h.0, all_numbers P Q f xs h.1)

all_eqns : (P Q : FlatEqn → Type 0) → ((e : FlatEqn) → P e → Q e) → (es : List FlatEqn) → AllByRecursion P es → AllByRecursion Q es
all_eqns P Q f [] h = tt
all_eqns P Q f (e ∷ es) h = (f e h.0, all_eqns P Q f es h.1)

pub kept_ranked : (es : List FlatEqn) → IsRanked es → IsRanked (kept es)
kept_ranked es h =
    all_eqns (λ e. AllByRecursion (IsDefinedBelow es e) (reads e)) (λ e. AllByRecursion (IsDefinedBelow (kept es) e) (reads e))
    (λ e g. all_numbers (IsDefinedBelow es e) (IsDefinedBelow (kept es) e) (λ x k. kept_all _ es k) (reads e) g) (kept es)
    (kept_all (λ e. AllByRecursion (IsDefinedBelow es e) (reads e)) es h)

-- each that is left defines something
pub kept_define : (es : List FlatEqn) → DefineSome (kept es)
kept_define [] = tt
kept_define (e ∷ es) = by e.targets refl (kept_define es)
  where
    by : (ts : List ℕ) → e.targets ≡ ts → DefineSome (kept es) → DefineSome (kept (e ∷ es))
    by [] q rest = subst (λ (us : List ℕ). DefineSome (cond (elim us [ [] ↦ false | x ∷ xs ↦ true ]) (e ∷ kept es) (kept es))) (sym q) rest
    by (t ∷ ts) q rest =
        subst (λ (us : List ℕ). DefineSome (cond (elim us [ [] ↦ false | x ∷ xs ↦ true ]) (e ∷ kept es) (kept es))) (sym q) (subst (λ (us : List ℕ). 0 < length us) (sym q) (omega arith), rest)

-- and each variable is defined as before
pub kept_definitions : (es : List FlatEqn) (x : ℕ) → definitions (kept es) x ≡ definitions es x
kept_definitions [] x = refl
kept_definitions (e ∷ es) x = by e.targets refl (kept_definitions es x)
  where
    Same : List ℕ → Type 0
    Same us = definitions (cond (elim us [ [] ↦ false | y ∷ ys ↦ true ]) (e ∷ kept es) (kept es)) x ≡ targets_from 0 us e x ++ definitions es x

    by : (ts : List ℕ) → e.targets ≡ ts → definitions (kept es) x ≡ definitions es x → definitions (kept (e ∷ es)) x ≡ definitions (e ∷ es) x
    by [] q rest = subst Same (sym q) rest
    by (t ∷ ts) q rest = subst Same (sym q) (ap (λ us. targets_from 0 us e x ++ definitions (kept es) x) q ∙ ap (λ ds. targets_from 0 (t ∷ ts) e x ++ ds) rest)

-- ---- nodes

pub kept_equations : (means : ℕ → FlatName) (flat : Flat FlatName) (names : List (List ℕ)) (count : List ℕ → ℕ) (n : FlatNode) → AreEquationsFor means flat names count n → AreEquationsFor means flat names count (giving n)
kept_equations means flat names count n h = record {
  inputs = h.inputs;
  variables = λ x above. subst (λ ds. StandFor means ds (means x) (flat (means x))) (sym (kept_definitions n.eqns x)) (h.variables x above);
  targets = kept_all (λ (e : FlatEqn). HasTargets count e e.right) n.eqns h.targets;
  no_inputs = kept_all (λ (e : FlatEqn). AllByRecursion (λ x. n.inputs ≤ x) e.targets) n.eqns h.no_inputs;
}

kept_form : (types : List ObcType) (n : FlatNode) → FlatForm types n → FlatForm types (giving n)
kept_form types n h =
    let within = h.within in
    let few = h.few in
    let less = shorter n.eqns in
    record {
      within = record { inputs = within.inputs; outputs = within.outputs; eqns = kept_all (EqnWithin (length n.variables)) n.eqns within.eqns };
      no_inputs = kept_all (λ (e : FlatEqn). AllByRecursion (λ x. n.inputs ≤ x) e.targets) n.eqns h.no_inputs;
      ranked = kept_ranked n.eqns h.ranked;
      eqns = kept_all (EqnForm types n.variables) n.eqns h.eqns;
      copies = kept_all (λ (e : FlatEqn). CopyAgrees n.variables (copy_of e)) n.eqns h.copies;
      names_differ = h.names_differ;
      names_own = h.names_own;
      few = omega (arith, few, less);
    }

pub kept_calls : (names : List (List ℕ)) (es : List FlatEqn) → CallsOnly names es → CallsOnly names (kept es)
kept_calls names es h = kept_all (λ (e : FlatEqn). CallsAmong names e.right) es h

pub kept_nodes : (types : List ObcType) (earlier : List (List ℕ)) (ns : List FlatNode) → AreFlatNodes types earlier ns → AreFlatNodes types earlier (map giving ns)
kept_nodes types earlier [] h = tt
kept_nodes types earlier (n ∷ ns) h = (kept_form types n h.0, kept_calls earlier n.eqns h.1, kept_nodes types (n.name ∷ earlier) ns h.2)
