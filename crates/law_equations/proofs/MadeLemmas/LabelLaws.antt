-- Of which places equations are made that compare or call.
use Rattle.std.proofs.Common.{◌≡◌, ℕ, ◌+◌, Bool, true, false, if◌then◌else◌, List, [], ◌∷◌, ◌++◌, map, Option, None, Some, refl, sym, ap, ap₂, subst, ◌∙◌}
use Rattle.std.proofs.lemmas.List.{append-nil, append_assoc}
use Rattle.hp_base.specs.declared.span.Span.{Span}
use Rattle.hp_tree.specs.Blocks.{Decl}
use Rattle.hp_tree.specs.Instant.{Place}
use Rattle.hp_tree.specs.Operators.{is_comparison}
use Rattle.hp_tree.specs.declared.expr.Op1.{Op1}
use Rattle.hp_tree.specs.declared.expr.Op1.TheVariants.{Not, Neg}
use Rattle.hp_tree.specs.declared.expr.Op2.{Op2}
use Rattle.hp_tree.specs.declared.expr.Op2.TheVariants as op
use Rattle.hp_flat.specs.declared.equation.Atom.{Atom}
use Rattle.hp_flat.specs.Equations.{operator, FlatEqn}
use Rattle.law_equations.specs.Flattened.Flatten.{FlatName, At, Prefix, ats, obc_one, obc_two}
use Rattle.law_equations.specs.Made.Labels.{Label, comparison, IsMadeAt, AreMadeAt, compares, compares_or_calls, events, output_places, with_comparison}
use Rattle.law_equations.specs.Made.Laws.{unplaced}
use Rattle.law_equations.specs.Made.Making.{Sketch, Site, Sight, Layer, bind, bind_all, bind_outputs, output_left, others, given_by, link_all, numbers_from}
use Rattle.law_equations.specs.Made.Standing.{Agrees, AreLabelled}
use Rattle.law_equations.proofs.MadeLemmas.CallLaws.{output_names}

-- ---- operators

pub one-is-none : (o : Op1) → compares (obc_one o) ≡ false
one-is-none Not = refl
one-is-none Neg = refl

two_is_same : (o : Op2) → compares (obc_two o) ≡ is_comparison o
two_is_same op.And = refl
two_is_same op.Or = refl
two_is_same op.Xor = refl
two_is_same op.Imp = refl
two_is_same op.Eq = refl
two_is_same op.Ne = refl
two_is_same op.Lt = refl
two_is_same op.Le = refl
two_is_same op.Gt = refl
two_is_same op.Ge = refl
two_is_same op.Add = refl
two_is_same op.Sub = refl
two_is_same op.Mul = refl
two_is_same op.Div = refl
two_is_same op.Rem = refl

-- ---- one equation more, or none

module _ (means : ℕ → FlatName) where
  pub labelled-both : {L N : List Label → List Label} (ds es fs : List FlatEqn) → AreLabelled means ds es L → AreLabelled means es fs N → AreLabelled means ds fs (λ rest. L (N rest))
  labelled-both {L} {N} ds es fs a b =
      record {
        added = a.added ++ b.added;
        whole = b.whole ∙ ap (λ xs. xs ++ b.added) a.whole ∙ append_assoc ds a.added b.added;
        made = λ xs rest h. subst (λ ys. AreMadeAt means (events ys) (L (N rest))) (sym (append_assoc a.added b.added xs)) (a.made (b.added ++ xs) (N rest) (b.made xs rest h));
      }

  pub none-labelled : (ds : List FlatEqn) → AreLabelled means ds ds (λ rest. rest)
  none-labelled ds = record { added = []; whole = sym (append-nil ds); made = λ xs rest h. h }

  pub same-labelled : (ds es : List FlatEqn) → es ≡ ds → AreLabelled means ds es (λ rest. rest)
  same-labelled ds es same = subst (λ xs. AreLabelled means ds xs (λ rest. rest)) (sym same) (none-labelled ds)

  -- one that neither compares nor calls
  pub other-labelled : (ds : List FlatEqn) (e : FlatEqn) → compares_or_calls e.right ≡ false → AreLabelled means ds (ds ++ e ∷ []) (λ rest. rest)
  other-labelled ds e q = record { added = e ∷ []; whole = refl; made = λ xs rest h. subst (λ b. AreMadeAt means (if b then e ∷ events xs else events xs) rest) (sym q) h }

  -- one that does
  pub event-labelled : (ds : List FlatEqn) (e : FlatEqn) (label : Label) → compares_or_calls e.right ≡ true → IsMadeAt means e label → AreLabelled means ds (ds ++ e ∷ []) (λ rest. label ∷ rest)
  event-labelled ds e label q m =
      record { added = e ∷ []; whole = refl; made = λ xs rest h. subst (λ b. AreMadeAt means (if b then e ∷ events xs else events xs) (label ∷ rest)) (sym q) (m, h) }

  -- one of an operator with two operands
  pub two-labelled : (ds : List FlatEqn) (targets : List ℕ) (clock : List (ℕ × ℕ)) (restart : List ℕ) (o : Op2) (args : List Atom) (p : Place) → map means targets ≡ At p ∷ []
      → AreLabelled means ds (ds ++ record { targets = targets; clock = clock; right = operator (obc_two o) args; restart = restart; at = 0 } ∷ []) (with_comparison o p)
  two-labelled ds targets clock restart o args p m = by (is_comparison o) (two_is_same o)
    where
      e : FlatEqn
      e = record { targets = targets; clock = clock; right = operator (obc_two o) args; restart = restart; at = 0 }

      by : (b : Bool) → compares (obc_two o) ≡ b → AreLabelled means ds (ds ++ e ∷ []) (λ rest. if b then comparison o p ∷ rest else rest)
      by true q = event-labelled ds e (comparison o p) q (record { right = refl; targets = m })
      by false q = other-labelled ds e q

  -- ---- names that take values

  bind_labelled : (at : Site) (o source : Option ℕ) (d : Sketch) → AreLabelled means d.eqns (bind at o source d).eqns (λ rest. rest)
  bind_labelled at None source d = none-labelled d.eqns
  bind_labelled at (Some x) source d = other-labelled d.eqns _ refl

  pub all-labelled : (see : Sight) (at : Site) (ys : List (List ℕ × Span)) (x : ℕ) (d : Sketch) → AreLabelled means d.eqns (bind_all see at ys x d).eqns (λ rest. rest)
  all-labelled see at [] x d = none-labelled d.eqns
  all-labelled see at (y ∷ ys) x d =
      let e = bind at (see y.0).value (Some x) d in
      labelled-both d.eqns e.eqns (bind_all see at ys x e).eqns (bind_labelled at (see y.0).value (Some x) d) (all-labelled see at ys x e)

  pub outputs-labelled : (see : Sight) (at : Site) (ys : List (List ℕ × Span)) (n : ℕ) (os : List Decl) (d : Sketch) → AreLabelled means d.eqns (bind_outputs see at ys n os d).eqns (λ rest. rest)
  outputs-labelled see at [] n os d = none-labelled d.eqns
  outputs-labelled see at (y ∷ ys) n os d =
      let e = bind at (see y.0).value (output_left n os) d in
      labelled-both d.eqns e.eqns (bind_outputs see at ys (n + 1) (others os) e).eqns (bind_labelled at (see y.0).value (output_left n os) d) (outputs-labelled see at ys (n + 1) (others os) e)

  pub links-labelled : (see : Sight) (at : Site) (own : Layer) (xs : List (List ℕ)) (d : Sketch) → AreLabelled means d.eqns (link_all see at own xs d).eqns (λ rest. rest)
  links-labelled see at own [] d = none-labelled d.eqns
  links-labelled see at own (x ∷ xs) d =
      let e = bind at (see x).value (given_by (own x) (see x)) d in
      labelled-both d.eqns e.eqns (link_all see at own xs e).eqns (bind_labelled at (see x).value (given_by (own x) (see x)) d) (links-labelled see at own xs e)

  -- ---- calls

  -- the variables of a call stand for the places of its outputs
  pub outputs-are : (os : List Decl) (here : Prefix) (n : ℕ) → Agrees means n (output_names os here) → map means (numbers_from n os) ≡ ats (output_places (map (λ (o : Decl). o.name) os) here)
  outputs-are [] here n a = refl
  outputs-are (o ∷ os) here n a = ap₂ (λ x xs. x ∷ xs) a.0 (outputs-are os here (n + 1) a.1)

  -- ---- equations but for where they stand

  at_up : (e : FlatEqn) (label : Label) → IsMadeAt means e label → IsMadeAt means (unplaced e) label
  at_up e label m = record { right = m.right; targets = m.targets }

  at_down : (e : FlatEqn) (label : Label) → IsMadeAt means (unplaced e) label → IsMadeAt means e label
  at_down e label m = record { right = m.right; targets = m.targets }

  up : (es : List FlatEqn) (labels : List Label) → AreMadeAt means es labels → AreMadeAt means (map unplaced es) labels
  up [] [] h = h
  up [] (l ∷ labels) h = absurd h
  up (e ∷ es) [] h = absurd h
  up (e ∷ es) (l ∷ labels) h = (at_up e l h.0, up es labels h.1)

  down : (es : List FlatEqn) (labels : List Label) → AreMadeAt means (map unplaced es) labels → AreMadeAt means es labels
  down [] [] h = h
  down [] (l ∷ labels) h = absurd h
  down (e ∷ es) [] h = absurd h
  down (e ∷ es) (l ∷ labels) h = (at_down e l h.0, down es labels h.1)

  events_up : (es : List FlatEqn) → events (map unplaced es) ≡ map unplaced (events es)
  events_up [] = refl
  events_up (e ∷ es) = by (compares_or_calls e.right) (events_up es)
    where
      by : (b : Bool) → events (map unplaced es) ≡ map unplaced (events es)
          → (if b then unplaced e ∷ events (map unplaced es) else events (map unplaced es)) ≡ map unplaced (if b then e ∷ events es else events es)
      by true h = ap (λ xs. unplaced e ∷ xs) h
      by false h = h

  pub made-alike : (es fs : List FlatEqn) (labels : List Label) → map unplaced fs ≡ map unplaced es → AreMadeAt means (events es) labels → AreMadeAt means (events fs) labels
  made-alike es fs labels same h =
      let whole : map unplaced (events es) ≡ map unplaced (events fs) = sym (events_up es) ∙ ap events (sym same) ∙ events_up fs in
      down (events fs) labels (subst (λ xs. AreMadeAt means xs labels) whole (up (events es) labels h))
