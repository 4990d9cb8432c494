-- What is told of an expression, by what it is seen as.
use Rattle.std.proofs.Common.{◌≡◌, ℕ, List, refl, sym, ap, ◌∙◌, subst}
use Rattle.std.specs.Prelude.{Result, Ok, Err}
use Rattle.hp_tree.specs.declared.expr.ExprKind.{ExprKind}
use Rattle.hp_tree.specs.declared.expr.Expr.TheInside.{Inside}
use Rattle.hp_base.specs.declared.span.Span.{Span}
use Rattle.hp_meaning.specs.Causal.Points.{span_of}
use Rattle.hp_tree.specs.Expressions.{Expr}
use Rattle.hp_tree.specs.ExpressionView.{expr_at, expr_seen}
use Rattle.hp_meaning.specs.Causal.Clocked.{IsOn}
use Rattle.hp_clocks.specs.declared.cell.Cell.{Cell}
use Rattle.hp_clocks.specs.Cells.{Never}
use Rattle.hp_clocks.specs.Scopes.{Sight, standing, Grows}
use Rattle.std.proofs.Common.{◌⊎◌, inl, inr}
use Rattle.std.specs.Result.{IsErrAnd}
use Rattle.hp_tree.specs.declared.expr.ExprKind.TheVariants as kind
use Rattle.hp_tree.specs.declared.expr.Op1.{Op1}
use Rattle.hp_tree.specs.declared.expr.Op2.{Op2}
use Rattle.hp_tree.specs.Instant.{Clock}
use Rattle.hp_meaning.specs.Causal.Clocked.{Standing}
use Rattle.hp_meaning.proofs.ClockingLemmas.Generate.{Iff}
use Rattle.hp_clocks.proofs.Sampling.{grows_like}

pub seen_as : (a : Inside) (e : Expr) (k kind : ExprKind) → expr_seen a ≡ e → k ≡ a.kind.value → k ≡ kind → expr_at a.span kind ≡ e
seen_as a e k kind v d i = ap (expr_at a.span) (sym i ∙ d) ∙ v

module _ (sight : Sight) (cs : List Cell) (t : ℕ) (d e : Expr) (p : d ≡ e) where
  pub grows_seen : (ds : List Cell) → Grows cs ds (λ at. IsOn (standing at sight) d (at t)) → Grows cs ds (λ at. IsOn (standing at sight) e (at t))
  grows_seen ds g = subst (λ z. Grows cs ds (λ at. IsOn (standing at sight) z (at t))) p g

  pub never_seen : Never cs (λ at. IsOn (standing at sight) d (at t)) → Never cs (λ at. IsOn (standing at sight) e (at t))
  never_seen n = subst (λ z. Never cs (λ at. IsOn (standing at sight) z (at t))) p n

-- an error that is handed on
pub handed_on : {A E : Type 0} (r : Result A E) (e f : E) → IsErrAnd r (λ x. x ≡ e) → r ≡ Err f → e ≡ f
handed_on (Ok x) e f h q = absurd h
handed_on (Err x) e f h q = cc

-- operators of one and of two operands stand where their operands do
module _ (a : Inside) (e : Expr) (k : ExprKind) (v : expr_seen a ≡ e) (d : k ≡ a.kind.value) where
  pub one_is : (b : Expr) → ((o : Op1) × (k ≡ kind.One o b)) ⊎ (k ≡ kind.Pre b) → (st : Standing) (c : Clock) → Iff (IsOn st b c) (IsOn st e c)
  one_is b (inl h) st c =
      let p = seen_as a e k (kind.One h.0 b) v d h.1 in
      ((λ o. subst (λ z. IsOn st z c) p o), λ o. subst (λ z. IsOn st z c) (sym p) o)
  one_is b (inr h) st c =
      let p = seen_as a e k (kind.Pre b) v d h in
      ((λ o. subst (λ z. IsOn st z c) p o), λ o. subst (λ z. IsOn st z c) (sym p) o)

  pub two_is : (b b2 : Expr) → ((o : Op2) × (k ≡ kind.Two o b b2)) ⊎ ((k ≡ kind.Fby b b2) ⊎ (k ≡ kind.Arrow b b2)) → (st : Standing) (c : Clock) → Iff (IsOn st b c × IsOn st b2 c) (IsOn st e c)
  two_is b b2 (inl h) st c =
      let p = seen_as a e k (kind.Two h.0 b b2) v d h.1 in
      ((λ o. subst (λ z. IsOn st z c) p o), λ o. subst (λ z. IsOn st z c) (sym p) o)
  two_is b b2 (inr (inl h)) st c =
      let p = seen_as a e k (kind.Fby b b2) v d h in
      ((λ o. subst (λ z. IsOn st z c) p o), λ o. subst (λ z. IsOn st z c) (sym p) o)
  two_is b b2 (inr (inr h)) st c =
      let p = seen_as a e k (kind.Arrow b b2) v d h in
      ((λ o. subst (λ z. IsOn st z c) p o), λ o. subst (λ z. IsOn st z c) (sym p) o)

module _ (sight : Sight) (cs ds : List Cell) (t : ℕ) (e : Expr) where
  pub one_grows : (b : Expr) → ((st : Standing) (c : Clock) → Iff (IsOn st b c) (IsOn st e c)) → Grows cs ds (λ at. IsOn (standing at sight) b (at t)) → Grows cs ds (λ at. IsOn (standing at sight) e (at t))
  one_grows b h g =
      grows_like cs ds (λ at. IsOn (standing at sight) b (at t)) (λ at. IsOn (standing at sight) e (at t)) g
      (λ at f o. (h (standing at sight) (at t)).0 o) (λ at f o. (h (standing at sight) (at t)).1 o)

  pub two_grow : (b b2 : Expr) → ((st : Standing) (c : Clock) → Iff (IsOn st b c × IsOn st b2 c) (IsOn st e c)) → Grows cs ds (λ at. IsOn (standing at sight) b (at t) × IsOn (standing at sight) b2 (at t)) → Grows cs ds (λ at. IsOn (standing at sight) e (at t))
  two_grow b b2 h g =
      grows_like cs ds (λ at. IsOn (standing at sight) b (at t) × IsOn (standing at sight) b2 (at t)) (λ at. IsOn (standing at sight) e (at t)) g
      (λ at f o. (h (standing at sight) (at t)).0 o) (λ at f o. (h (standing at sight) (at t)).1 o)

  pub two_never : (b b2 : Expr) → ((st : Standing) (c : Clock) → Iff (IsOn st b c × IsOn st b2 c) (IsOn st e c)) → Never cs (λ at. IsOn (standing at sight) b (at t) × IsOn (standing at sight) b2 (at t)) → Never cs (λ at. IsOn (standing at sight) e (at t))
  two_never b b2 h n at f o = n at f ((h (standing at sight) (at t)).1 o)

-- the place of an expression
span_at : (s : Span) (k : ExprKind) → s ≡ span_of (expr_at s k)
span_at s (kind.Const c) = refl
span_at s (kind.Name x) = refl
span_at s (kind.Last x) = refl
span_at s (kind.One o a) = refl
span_at s (kind.Two o a b) = refl
span_at s (kind.If a b c) = refl
span_at s (kind.Pre a) = refl
span_at s (kind.Fby a b) = refl
span_at s (kind.Arrow a b) = refl
span_at s (kind.When a c x) = refl
span_at s (kind.Merge x ps) = refl
span_at s (kind.Call f i es) = refl

pub spanned : (a : Inside) → a.span ≡ span_of (expr_seen a)
spanned a = span_at a.span a.kind.value
