-- Words for worked games: choices of one variable, given Booleans, and which places are early.
use Rattle.std.proofs.Common.{◌≡◌, inl, inr, List, [], ◌∷◌, refl, sym, ap₂, subst}
use Rattle.std.proofs.lemmas.List.Elements.{All-nil, All-cons, All-head}
use Rattle.std.specs.Prelude.{Bool, true, false, IsTrue, All, reverse}
use Rattle.hp_base.specs.declared.ty.Ty.TheVariants as ty
use Rattle.hp_base.specs.declared.value.Value.{Value}
use Rattle.hp_base.specs.declared.value.Value.TheVariants.{B}
use Rattle.hp_tree.specs.declared.program.Item.{Item}
use Rattle.hp_tree.specs.declared.expr.Op2.TheVariants.{Eq}
use Rattle.hp_tree.specs.Blocks.{Decl}
use Rattle.hp_tree.specs.Programs.{Node}
use Rattle.hp_tree.specs.Operators.{same_bool, two_marked, is_there}
use Rattle.hp_tree.specs.Instant.{Named, Fresh, Place, Instant}
use Rattle.hp_tree.specs.Meaning.{types_of, node_among}
use Rattle.hp_meaning.specs.Causal.Points.{Placed}
use Rattle.hp_meaning.specs.Contract.FreePlaces.{IsAbstractOf, OutputFits, declared_outputs, calls_of, instance_at, Fits}
use Rattle.hp_meaning.specs.Contract.Game.{Choice, AreChoices, AtMost}
use Rattle.hp_meaning.proofs.ContractLemmas.Texts.{bool, c}

-- ---- choices of one variable

abbrev pub of_one : (P : Choice → Type 0) → ((t : Bool) → P (B t ∷ [])) → (d : Choice) → AreChoices [] (bool c ∷ []) d → P d
of_one P f [] l = absurd l
of_one P f (v ∷ []) (inl e, l) = subst (λ w. P (w ∷ [])) (sym e) (f true)
of_one P f (v ∷ []) (inr (inl e), l) = subst (λ w. P (w ∷ [])) (sym e) (f false)
of_one P f (v ∷ []) (inr (inr m), l) = absurd m
of_one P f (v ∷ w ∷ d) l = absurd l.1

-- it may be true, and it may be false
pub may_be : (t : Bool) → AreChoices [] (bool c ∷ []) (B t ∷ [])
may_be true = (inl refl, tt)
may_be false = (inr (inl refl), tt)

-- true is preferred
pub at_most_true : (t : Bool) → AtMost [] (bool c ∷ []) (B t ∷ []) (B true ∷ [])
at_most_true true = inr (refl, tt)
at_most_true false = inl ((λ e. absurd (cc)), inl refl)

abbrev pub of_none : (P : Choice → Type 0) → P [] → (d : Choice) → AreChoices [] [] d → P d
of_none P f [] l = f
of_none P f (v ∷ d) l = absurd l

-- ---- values

pub compared : (v w : Value) (s t : Bool) (given : Value) → v ≡ B s → w ≡ B t → two_marked Eq given v w ≡ B (same_bool s t)
compared v w s t given d e = ap₂ (λ v w. two_marked Eq given v w) d e

-- Booleans fit where no call is, and where one call has one Boolean output.
abbrev pub as_given : (Place → Bool) → Instant
as_given k p = B (k p)

abbrev OutputsFit : List Item → Instant → Instant → Placed → Type 0
OutputsFit program now free c = IsTrue (is_there (instance_at c now (Fresh ∷ []))) → All (OutputFits (types_of program) c free) (declared_outputs (node_among (reverse program) c.point.name))

pub no_call_fits : (program : List Item) (n : Node) (now : Instant) (k : Place → Bool) → calls_of n ≡ [] → Fits program n now (as_given k)
no_call_fits program n now k e =
    let P = OutputsFit program now (as_given k) in
    record { comparisons = λ p x y z. (k p, refl); outputs = subst (All P) (sym e) (All-nil P) }

pub one_call_fits : (program : List Item) (n : Node) (call : Placed) (d : Decl) (now : Instant) (k : Place → Bool) → calls_of n ≡ call ∷ [] → declared_outputs (node_among (reverse program) call.point.name) ≡ d ∷ [] → d.ty ≡ ty.Bool → Fits program n now (as_given k)
one_call_fits program n call d now k e o t =
    let P = OutputsFit program now (as_given k) in
    let Q = OutputFits (types_of program) call (as_given k) in
    record {
      comparisons = λ p x y z. (k p, refl);
      outputs = subst (All P) (sym e) (All-cons P call [] (λ there. subst (All Q) (sym o) (All-cons Q d [] (subst (λ t. IsAbstractOf (types_of program) t (instance_at call (as_given k) (Named d.name ∷ []))) (sym t) (_, refl)) (All-nil Q))) (All-nil P));
    }

-- What fits gives a Boolean to the output of a call that is there.
pub one_output : (program : List Item) (n : Node) (call : Placed) (d : Decl) (now free : Instant) → calls_of n ≡ call ∷ [] → declared_outputs (node_among (reverse program) call.point.name) ≡ d ∷ [] → d.ty ≡ ty.Bool → Fits program n now free → IsTrue (is_there (instance_at call now (Fresh ∷ []))) → (b : Bool) × (instance_at call free (Named d.name ∷ []) ≡ B b)
one_output program n call d now free e o t fits there =
    let P = OutputsFit program now free in
    let Q = OutputFits (types_of program) call free in
    subst (λ t. IsAbstractOf (types_of program) t (instance_at call free (Named d.name ∷ []))) t
    (All-head Q d [] (subst (All Q) o (All-head P call [] (subst (All P) e fits.outputs) there)))
