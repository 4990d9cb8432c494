-- What the law gives: conditions have truth values, and a value of an expression that is First is of its type where its clock is there.
use Rattle.std.proofs.Common.{◌≡◌, ℕ, List, [], ◌∷◌, refl, subst}
use Rattle.std.specs.Prelude.{⊤, Bool, true, false, ◌&&◌, IsTrue, IsFalse, Option, Some}
use Rattle.hp_base.specs.declared.ty.Ty.{Ty}
use Rattle.hp_base.specs.declared.ty.Ty.TheVariants as ty
use Rattle.hp_base.specs.declared.value.Value.TheVariants.{B}
use Rattle.hp_tree.specs.declared.block.Trans.{Trans}
use Rattle.hp_tree.specs.Expressions.{Expr, constant, variable, last_of, one, two, choose, pre, fby, arrow, when_is, merge, call}
use Rattle.hp_tree.specs.Programs.{TypeDecl, Node}
use Rattle.hp_tree.specs.Instant.{Head, Tail, Instant, part, top, Clock}
use Rattle.hp_base.specs.Known.Known.{lookup}
use Rattle.hp_typing.specs.Types.{type_of, types_in}
use Rattle.law_judged.specs.Typed.Scopes.{Scope}
use Rattle.hp_tree.specs.Values.{IsOf}
use Rattle.hp_init.specs.Classes.{Classes, is_second}
use Rattle.law_values.specs.Valued.Judged.{Lasts}
use Rattle.law_values.proofs.ValuedLemmas.Both.{TestsOk}
use Rattle.law_values.specs.Valued.Fitting.{Fits, Presence, IsPresence, value_type, TopFits, ExprFits, TestsFit}
use Rattle.law_values.proofs.ValuedLemmas.Laws.{never_nil, fits_true, is_bool}
use Rattle.law_values.proofs.ValuedLemmas.Typed.{call_typed}

module _ (types : List TypeDecl) (nils : Bool) (fits : List ℕ → Instant → Type 0) (among : List ℕ → Option Node) (s : Scope) (second : Classes) (lasts : Lasts) (there : Presence) where
  value_is : (e : Expr) (t : Ty) → type_of s e ≡ Some t → value_type s e ≡ Some t
  value_is (call a f i es) t h = (call_typed (lookup s.nodes f) (types_in s es) t h).3
  value_is (constant a c) t h = h
  value_is (variable a x) t h = h
  value_is (last_of a x) t h = h
  value_is (one a o b) t h = h
  value_is (two a o b c) t h = h
  value_is (choose a b c d) t h = h
  value_is (pre a b) t h = h
  value_is (fby a b c) t h = h
  value_is (arrow a b c) t h = h
  value_is (when_is a b c x) t h = h
  value_is (merge a x ps) t h = h

  top_fits : (e : Expr) (clock : Clock) (i : Instant) → ExprFits types nils fits s second there e clock i → TopFits types nils fits s second there e clock i
  top_fits (constant a c) clock i h = h
  top_fits (variable a x) clock i h = h
  top_fits (last_of a x) clock i h = h
  top_fits (one a o b) clock i h = h.0
  top_fits (two a o b c) clock i h = h.0
  top_fits (choose a b c d) clock i h = h.0
  top_fits (pre a b) clock i h = h.0
  top_fits (fby a b c) clock i h = h.0
  top_fits (arrow a b c) clock i h = h.0
  top_fits (when_is a b c x) clock i h = h.0
  top_fits (merge a x ps) clock i h = h.0
  top_fits (call a f j es) clock i h = h.0

  -- an expression that is First, or any where nothing is Nil
  pub first_is : (e : Expr) (t : Ty) (clock : Clock) (i : Instant) → type_of s e ≡ Some t → IsFalse (is_second second e && nils) → IsTrue (there clock) → ExprFits types nils fits s second there e clock i → IsOf types t (top i)
  first_is e t clock i h f c k =
      never_nil types t (is_second second e && nils) (top i) f
      (fits_true types (there clock) t (is_second second e && nils) (top i) c (subst (λ o. Fits types (there clock) o (is_second second e && nils) (top i)) (value_is e t h) (top_fits e clock i k)))

  not_second : (b : Bool) → IsFalse b → IsFalse (b && nils)
  not_second true f = absurd (cc)
  not_second false f = refl

  abbrev pub Decided : List Trans → Instant → Type 0
  Decided [] i = ⊤
  Decided (t ∷ ts) i = ((b : Bool) × (top (part Head i) ≡ B b)) × Decided ts (part Tail i)

  -- conditions of transitions have truth values
  pub decided : IsPresence there → (ts : List Trans) (i : Instant) → TestsOk types among s second lasts ts → TestsFit types nils fits s second there ts i → Decided ts i
  decided p [] i ok h = tt
  decided p (t ∷ ts) i ok h =
      (is_bool types (top (part Head i)) (first_is t.cond ty.Bool [] (part Head i) ok.0.1.1 (not_second (is_second second t.cond) ok.0.1.0) p.base h.0), decided p ts (part Tail i) ok.1 h.1)
