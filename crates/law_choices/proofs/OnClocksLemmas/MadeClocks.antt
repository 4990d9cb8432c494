-- A node that is made has clocks where its sketch has.
use Rattle.std.proofs.Common.{◌≡◌, ◌⊎◌, inl, inr, ℕ, zero, suc, ◌+◌, Bool, true, false, nat_eq, ◌||◌, List, [], ◌∷◌, length, get_or, map, Some, refl, sym, ap, subst, ◌∙◌}
use Rattle.std.specs.Prelude.{⊤, slice_get, Contains}
use Rattle.std.specs.List.{AllByRecursion}
use Rattle.std.proofs.lemmas.Bool.Decides.{Decides-eqb}
use Rattle.std.proofs.lemmas.List.Elements.{All-contains, All-from_recursion}
use Rattle.hp_obc.specs.Machines.{ObcType}
use Rattle.hp_tree.specs.Programs.{Node}
use Rattle.hp_tree.specs.Meaning.{controls_of}
use Rattle.hp_flat.specs.declared.node.FlatTy.TheVariants.{Int as FlatInt}
use Rattle.hp_flat.specs.declared.node.Variable.{Variable}
use Rattle.hp_flat.specs.Equations.{Clock, FlatEqn}
use Rattle.hp_flat.specs.Nodes.{FlatNode}
use Rattle.law_equations.specs.Meaning.Fitting.{operands}
use Rattle.law_equations.specs.Meaning.Kinding.{kind_of_type}
use Rattle.law_equations.specs.Meaning.Reactions.{has}
use Rattle.law_equations.specs.Made.Laws.{unplaced}
use Rattle.law_equations.specs.Made.Making.{Known, next, nothing_made, signature, sketch_node}
use Rattle.hp_complete.specs.Made.{IsMadeOf}
use Rattle.law_choices.specs.Closed.Closed.{IsTarget}
use Rattle.law_choices.specs.Closed.Clocking.{IsFrontOf, IsDefinedOn, StepsStand, IsSplit, AreClocks, IsCopy, DefinesOwn, HasOwnClocks}
use Rattle.law_choices.proofs.ClosedLemmas.ClosedLaws.{first_one, later_one, each_other}
use Rattle.law_choices.proofs.OnClocksLemmas.Steps.{DefinedOn, Within, Timed, Step}
use Rattle.law_choices.proofs.OnClocksLemmas.Nodes.{Based, numbers_based, signature_long}

-- ---- equations of the node

has_it : (ys : List ℕ) (x : ℕ) → has ys x ≡ true → Contains ys x
has_it [] x h = absurd cc
has_it (y ∷ ys) x h = by (nat_eq y x) refl h (has_it ys x)
  where
    by : (b : Bool) → nat_eq y x ≡ b → (b || has ys x) ≡ true → (has ys x ≡ true → Contains ys x) → Contains (y ∷ ys) x
    by true e h f = subst (λ z. Contains (y ∷ ys) z) ((Decides-eqb y x).0 e) (first_one y ys)
    by false e h f = later_one y x ys (f h)

-- the equation that defines a variable on a clock
abbrev Finds : List FlatEqn → ℕ → Clock → Type 0
Finds es x c = (e : FlatEqn) × Contains es e × Contains e.targets x × (e.clock ≡ c)

finds : (es : List FlatEqn) (x : ℕ) (c : Clock) → DefinedOn es x c → Finds es x c
finds [] x c h = absurd h
finds (e ∷ es) x c (inl h) = (e, first_one e es, has_it e.targets x h.0, h.1)
finds (e ∷ es) x c (inr h) = let q = finds es x c h in (q.0, later_one e q.0 es q.1, q.2, q.3)

-- where equations stand does not matter
to_unplaced : (es : List FlatEqn) (x : ℕ) (c : Clock) → DefinedOn es x c → DefinedOn (map unplaced es) x c
to_unplaced [] x c h = absurd h
to_unplaced (e ∷ es) x c (inl h) = inl h
to_unplaced (e ∷ es) x c (inr h) = inr (to_unplaced es x c h)

from_unplaced : (es : List FlatEqn) (x : ℕ) (c : Clock) → DefinedOn (map unplaced es) x c → DefinedOn es x c
from_unplaced [] x c h = absurd h
from_unplaced (e ∷ es) x c (inl h) = inl h
from_unplaced (e ∷ es) x c (inr h) = inr (from_unplaced es x c h)

got : (vs : List Variable) (x : ℕ) (v d : Variable) → slice_get vs x ≡ Some v → get_or vs x d ≡ v
got [] x v d h = absurd cc
got (w ∷ vs) zero v d h = cc
got (w ∷ vs) (suc x) v d h = got vs x v d h

module _ (types : List ObcType) (f : FlatNode) (g : ℕ → Clock) where
  timed_unplaced : (es : List FlatEqn) → AllByRecursion (Timed types f g) es → AllByRecursion (Timed types f g) (map unplaced es)
  timed_unplaced [] h = tt
  timed_unplaced (e ∷ es) h = (record { steps = h.0.steps; reads = h.0.reads; targets = h.0.targets }, timed_unplaced es h.1)

  timed_placed : (es : List FlatEqn) → AllByRecursion (Timed types f g) (map unplaced es) → AllByRecursion (Timed types f g) es
  timed_placed [] h = tt
  timed_placed (e ∷ es) h = (record { steps = h.0.steps; reads = h.0.reads; targets = h.0.targets }, timed_placed es h.1)

  -- what is asked of each equation is what is asked of clocks
  timed_clocks : AllByRecursion (Timed types f g) f.eqns → AllByRecursion (λ x. g x ≡ []) f.outputs → AreClocks f types g
  timed_clocks h outputs =
      record {
        outputs = outputs;
        steps = each_other (Timed types f g) (λ (e : FlatEqn). StepsStand f types g [] e.clock) (λ e t. t.steps) f.eqns h;
        reads = each_other (Timed types f g) (λ (e : FlatEqn). AllByRecursion (λ x. IsFrontOf (g x) e.clock) (operands e.right)) (λ e t. t.reads) f.eqns h;
        defined = λ x t.
            let own = All-contains (Timed types f g) f.eqns t.0 (All-from_recursion (Timed types f g) f.eqns h) t.1 in
            let Has : ℕ → Type 0 = λ y. (g y ≡ t.0.clock) ⊎ (IsSplit f types g y × IsCopy t.0.right) in
            by x t (All-contains Has t.0.targets x (All-from_recursion Has t.0.targets own.targets) t.2);
      }
    where
      by : (x : ℕ) (t : IsTarget f.eqns x) → (g x ≡ t.0.clock) ⊎ (IsSplit f types g x × IsCopy t.0.right) → IsDefinedOn f x (g x) ⊎ IsSplit f types g x
      by x t (inl e) = inl (t.0, t.1, t.2, sym e)
      by x t (inr s) = inr s.0

  timed_own : (e : FlatEqn) → Timed types f g e → DefinesOwn g e
  timed_own e t = each_other (λ x. (g x ≡ e.clock) ⊎ (IsSplit f types g x × IsCopy e.right)) (λ x. (g x ≡ e.clock) ⊎ IsCopy e.right) by e.targets t.targets
    where
      by : (x : ℕ) → (g x ≡ e.clock) ⊎ (IsSplit f types g x × IsCopy e.right) → (g x ≡ e.clock) ⊎ IsCopy e.right
      by x (inl h) = inl h
      by x (inr h) = inr h.1

module _ (types : List ObcType) (k : Known) (n : Node) (f : FlatNode) (made : IsMadeOf k n f) where
  pub within : Within types f (sketch_node k n)
  within =
      record {
        kinds = λ x t h.
            ap (λ (v : Variable). kind_of_type types v.ty)
            (got f.variables x h.0 (record { name = []; ty = FlatInt }) (ap (λ vs. slice_get vs x) made.variables ∙ h.1))
            ∙ ap (kind_of_type types) h.2;
        eqns = λ x c h. finds f.eqns x c (from_unplaced f.eqns x c (subst (λ es. DefinedOn es x c) (sym made.eqns) (to_unplaced (sketch_node k n).eqns x c h)));
      }

  pub made_clocks : Step types f [] nothing_made (sketch_node k n) (λ g. ⊤) (Based k types f (next (signature k n).1)) → HasOwnClocks types f
  made_clocks s =
      let g = s.clocks in
      let r = s.timed g (λ x i j. refl) within (record { eqns = tt; flag = tt }) tt in
      let d = sketch_node k n in
      let eqns = timed_placed types f g f.eqns (subst (λ es. AllByRecursion (Timed types f g) es) (sym made.eqns) (timed_unplaced types f g d.eqns r.0.eqns)) in
      record {
        clock = g;
        clocks = timed_clocks types f g eqns (subst (λ xs. AllByRecursion (λ x. g x ≡ []) xs) (sym made.outputs) (numbers_based k types f (next (signature k n).1) (length n.inputs + length (controls_of n.contract)) n.outputs g r.1 (signature_long k n)));
        own = each_other (Timed types f g) (DefinesOwn g) (timed_own types f g) f.eqns eqns;
      }
