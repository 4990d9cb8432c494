-- The occurrences in an expression are there exactly where their clocks are, at one flat instant.
use Rattle.std.proofs.Common.{◌≡◌, ℕ, List, [], ◌∷◌, refl, sym, ap, subst, ◌∙◌}
use Rattle.std.specs.Prelude.{Bool, true, false, ◌&&◌, IsTrue, IsFalse, Option, Some}
use Rattle.hp_base.specs.declared.span.Span.{Span}
use Rattle.hp_base.specs.declared.ty.Ty.{Ty}
use Rattle.hp_base.specs.declared.ty.Ty.TheVariants as ty
use Rattle.hp_base.specs.declared.value.Value.TheVariants.{Absent}
use Rattle.hp_tree.specs.Expressions.{Expr, constant, variable, last_of, one, two, choose, pre, fby, arrow, when_is, merge, call, Exprs, no_expr, more_exprs, Parts, no_part, more_parts}
use Rattle.hp_tree.specs.Blocks.{Decl}
use Rattle.hp_tree.specs.Programs.{TypeDecl, Node}
use Rattle.hp_tree.specs.Instant.{Named, Head, Tail, First, Second, Third, Args, Instance, Place, Instant, Clock, holds as tree_holds, without}
use Rattle.hp_tree.specs.Meaning.{Nodes, names_of}
use Rattle.hp_base.specs.Known.Known.{lookup}
use Rattle.hp_typing.specs.Types.{type_of, types_in, type_of_one, input_type, args_fit}
use Rattle.law_judged.specs.Typed.Scopes.{Scope as Known}
use Rattle.hp_init.specs.Classes.{Classes, is_second}
use Rattle.law_equations.specs.Flattened.Flat.{Now, holds}
use Rattle.law_equations.specs.Flattened.Flatten.{FlatName, At, When, steps, Prefix, below, Scope, under}
use Rattle.law_equations.specs.Flattened.Timely.{Fits, only_stands, demand, outputs_stand, expr_clocks, exprs_clocks, parts_clocks}
use Rattle.law_equations.proofs.FlattenedLemmas.PastLaws.{seen}
use Rattle.law_values.specs.Valued.Judged.{Lasts}
use Rattle.law_values.specs.Valued.Fitting.{Fits as Typed, Presence, value_type, first_output, IsThere, TopFits, ExprFits, ExprsFit, PartsFit, OutputsFit}
use Rattle.law_values.specs.Valued.Given.{reading}
use Rattle.law_values.proofs.ValuedLemmas.Both.{ExprOk, ExprsOk, PartsOk, RightOk}
use Rattle.law_values.proofs.ValuedLemmas.Typed.{one_typed, two_typed, if_typed, pair_typed, when_typed, call_typed, row_typed, merge_typed, PartsHave, arg_typed}
use Rattle.law_values.proofs.ValuedLemmas.ExprTops.{Callees}
use Rattle.law_wellmade.proofs.TimelyLemmas.Actual.{first}
use Rattle.law_wellmade.proofs.TimelyLemmas.Instants.{both_fit, under_holds, StandsAt, TimelyAt, timely_alone, timely_one, timely_two, timely_three, timely_row, timely_call, timely_of_two, timely_demand, outputs_timely}

pub value_typed : (s : Known) (e : Expr) (t : Ty) → type_of s e ≡ Some t → value_type s e ≡ Some t
value_typed s (constant a c) t h = h
value_typed s (variable a x) t h = h
value_typed s (last_of a x) t h = h
value_typed s (one a o b) t h = h
value_typed s (two a o b c) t h = h
value_typed s (choose a b c d) t h = h
value_typed s (pre a b) t h = h
value_typed s (fby a b c) t h = h
value_typed s (arrow a b c) t h = h
value_typed s (when_is a b c x) t h = h
value_typed s (merge a x ps) t h = h
value_typed s (call a f i es) t h = (call_typed (lookup s.nodes f) (types_in s es) t h).3

module _ (types : List TypeDecl) (N : Nodes) (among : List ℕ → Option Node) (fits given : List ℕ → Instant → Type 0) (known : Callees types false (reading first) N among fits given) where
  module _ (s : Known) (second : Classes) (lasts : Lasts) (sc : Scope) (ck : When) (i : Now FlatName) where
    abbrev pub there : Presence
    there clock = tree_holds types clock (λ x. i (sc x))

    -- what is known of a part: where the block is there it fits, and else no place of it has a value
    abbrev pub Here : (Instant → Type 0) → Prefix → Type 0
    Here P here = (IsTrue (holds (steps ck) i) → P (seen here i)) × (IsFalse (holds (steps ck) i) → (p : Place) → i (At (here p)) ≡ Absent)

    abbrev pub ExprHere : Expr → Clock → Prefix → Type 0
    ExprHere e clock here = Here (ExprFits types false fits s second there e clock) here

    pub top_of : (e : Expr) (clock : Clock) (j : Instant) → ExprFits types false fits s second there e clock j → TopFits types false fits s second there e clock j
    top_of (constant a c) clock j h = h
    top_of (variable a x) clock j h = h
    top_of (last_of a x) clock j h = h
    top_of (one a o b) clock j h = h.0
    top_of (two a o b c) clock j h = h.0
    top_of (choose a b c d) clock j h = h.0
    top_of (pre a b) clock j h = h.0
    top_of (fby a b c) clock j h = h.0
    top_of (arrow a b c) clock j h = h.0
    top_of (when_is a b c x) clock j h = h.0
    top_of (merge a x ps) clock j h = h.0
    top_of (call a f k es) clock j h = h.0

    pub top_at : (e : Expr) (t : Ty) (clock : Clock) (here : Prefix) → value_type s e ≡ Some t → ExprHere e clock here → StandsAt (Some (under types sc clock ck)) (At (here [])) i
    top_at e t clock here q h =
        subst (λ d. Fits d (i (At (here [])))) (sym (under_holds types sc clock ck i))
        (both_fit types (there clock) (holds (steps ck) i) t (is_second second e) (i (At (here [])))
        (λ k. subst (λ o. Typed types (there clock) o (is_second second e && false) (i (At (here [])))) q (top_of e clock (seen here i) (h.0 k)))
        (λ k. h.1 k []))

    -- the instance of a call is there where its clock is
    instance_at : (f : List ℕ) (m : Node) (clock : Clock) (here : Prefix) → among f ≡ Some m → Here (λ j. IsThere (there clock) (fits f) j) here → (x : List ℕ) → StandsAt (outputs_stand (N.outputs f) (under types sc clock ck) x) (At (here (Named x ∷ []))) i
    instance_at f m clock here q h x =
        subst (λ os. StandsAt (outputs_stand os (under types sc clock ck) x) (At (here (Named x ∷ []))) i) (sym (known.outputs f m q))
        (outputs_timely types m.outputs (under types sc clock ck) here i
        (λ k. fit (there clock) (holds (steps ck) i) (sym (under_holds types sc clock ck i) ∙ k) h)
        (λ k. none (there clock) (holds (steps ck) i) (sym (under_holds types sc clock ck i) ∙ k) h) x)
      where
        fit : (d b : Bool) → IsTrue (d && b) → (IsTrue b → IsThere d (fits f) (seen here i)) × (IsFalse b → (p : Place) → i (At (here p)) ≡ Absent) → OutputsFit types m.outputs (seen here i)
        fit true true k h = known.gives f m (seen here i) q (h.0 refl)
        fit true false k h = absurd (cc)
        fit false b k h = absurd (cc)

        none : (d b : Bool) → IsFalse (d && b) → (IsTrue b → IsThere d (fits f) (seen here i)) × (IsFalse b → (p : Place) → i (At (here p)) ≡ Absent) → (p : Place) → i (At (here p)) ≡ Absent
        none true true k h p = absurd (cc)
        none d false k h p = h.1 refl p
        none false true k h p = h.0 refl p

    only_at : (f : List ℕ) (m : Node) (a : Span) (inlined : Bool) (es : Exprs) (clock : Clock) (here : Prefix) → lookup s.nodes f ≡ Some m → among f ≡ Some m → ExprHere (call a f inlined es) clock here → StandsAt (only_stands (N.outputs f) (under types sc clock ck)) (At (here [])) i
    only_at f m a inlined es clock here l q h =
        subst (λ os. StandsAt (only_stands os (under types sc clock ck)) (At (here [])) i) (sym (known.outputs f m q)) (by m.outputs refl)
      where
        by : (ds : List Decl) → m.outputs ≡ ds → StandsAt (only_stands (names_of ds) (under types sc clock ck)) (At (here [])) i
        by [] e = tt
        by (d ∷ ds) e = top_at (call a f inlined es) d.ty clock here (ap first_output l ∙ ap input_type e) h

    -- an operand that is remembered
    demanded : (e : Expr) (t : Ty) (clock : Clock) (here : Prefix) → type_of s e ≡ Some t → ExprHere e clock here → TimelyAt (expr_clocks types N.outputs e clock sc ck) here i → TimelyAt (demand (under types sc clock ck) (expr_clocks types N.outputs e clock sc ck)) here i
    demanded e t clock here q h m = timely_demand (under types sc clock ck) (expr_clocks types N.outputs e clock sc ck) here i (top_at e t clock here (value_typed s e t q) h) m

    mutual
      pub expr_timely : (e : Expr) (t : Ty) (clock : Clock) (here : Prefix) → type_of s e ≡ Some t → ExprOk types among s second lasts e → ExprHere e clock here → TimelyAt (expr_clocks types N.outputs e clock sc ck) here i
      expr_timely (constant a c) t clock here q ok h = timely_alone (under types sc clock ck) here i (top_at (constant a c) t clock here q h)
      expr_timely (variable a x) t clock here q ok h = timely_alone (under types sc clock ck) here i (top_at (variable a x) t clock here q h)
      expr_timely (last_of a x) t clock here q ok h = timely_alone (under types sc clock ck) here i (top_at (last_of a x) t clock here q h)
      expr_timely (one a o d) t clock here q ok h =
          let y = one_typed (type_of_one o) (type_of s d) t q in
          timely_one (under types sc clock ck) (expr_clocks types N.outputs d clock sc ck) here i (top_at (one a o d) t clock here q h)
          (expr_timely d (type_of_one o) clock (below First here) y.0 ok ((λ k. (h.0 k).1), λ k p. h.1 k (First ∷ p)))
      expr_timely (two a o d e) t clock here q ok h =
          let y = two_typed o (type_of s d) (type_of s e) t q in
          timely_two (under types sc clock ck) (expr_clocks types N.outputs d clock sc ck) (expr_clocks types N.outputs e clock sc ck) here i (top_at (two a o d e) t clock here q h)
          (expr_timely d y.0 clock (below First here) y.2 ok.0 ((λ k. (h.0 k).1.0), λ k p. h.1 k (First ∷ p)))
          (expr_timely e y.0 clock (below Second here) y.3 ok.1 ((λ k. (h.0 k).1.1), λ k p. h.1 k (Second ∷ p)))
      expr_timely (choose a d e f) t clock here q ok h =
          let y = if_typed (type_of s d) (type_of s e) (type_of s f) t q in
          timely_three (under types sc clock ck) (expr_clocks types N.outputs d clock sc ck) (expr_clocks types N.outputs e clock sc ck) (expr_clocks types N.outputs f clock sc ck) here i (top_at (choose a d e f) t clock here q h)
          (expr_timely d ty.Bool clock (below First here) y.0 ok.0 ((λ k. (h.0 k).1.0), λ k p. h.1 k (First ∷ p)))
          (expr_timely e t clock (below Second here) y.1 ok.1.0 ((λ k. (h.0 k).1.1.0), λ k p. h.1 k (Second ∷ p)))
          (expr_timely f t clock (below Third here) y.2 ok.1.1 ((λ k. (h.0 k).1.1.1), λ k p. h.1 k (Third ∷ p)))
      expr_timely (pre a d) t clock here q ok h =
          timely_one (under types sc clock ck) (demand (under types sc clock ck) (expr_clocks types N.outputs d clock sc ck)) here i (top_at (pre a d) t clock here q h)
          (demanded d t clock (below First here) q ((λ k. (h.0 k).1), λ k p. h.1 k (First ∷ p)) (expr_timely d t clock (below First here) q ok.1 ((λ k. (h.0 k).1), λ k p. h.1 k (First ∷ p))))
      expr_timely (fby a d e) t clock here q ok h =
          let y = pair_typed (type_of s d) (type_of s e) t q in
          timely_two (under types sc clock ck) (demand (under types sc clock ck) (expr_clocks types N.outputs d clock sc ck)) (demand (under types sc clock ck) (expr_clocks types N.outputs e clock sc ck)) here i (top_at (fby a d e) t clock here q h)
          (demanded d t clock (below First here) y.0 ((λ k. (h.0 k).1.0), λ k p. h.1 k (First ∷ p)) (expr_timely d t clock (below First here) y.0 ok.1.0 ((λ k. (h.0 k).1.0), λ k p. h.1 k (First ∷ p))))
          (demanded e t clock (below Second here) y.1 ((λ k. (h.0 k).1.1), λ k p. h.1 k (Second ∷ p)) (expr_timely e t clock (below Second here) y.1 ok.1.1 ((λ k. (h.0 k).1.1), λ k p. h.1 k (Second ∷ p))))
      expr_timely (arrow a d e) t clock here q ok h =
          let y = pair_typed (type_of s d) (type_of s e) t q in
          timely_two (under types sc clock ck) (demand (under types sc clock ck) (expr_clocks types N.outputs d clock sc ck)) (expr_clocks types N.outputs e clock sc ck) here i (top_at (arrow a d e) t clock here q h)
          (demanded d t clock (below First here) y.0 ((λ k. (h.0 k).1.0), λ k p. h.1 k (First ∷ p)) (expr_timely d t clock (below First here) y.0 ok.0 ((λ k. (h.0 k).1.0), λ k p. h.1 k (First ∷ p))))
          (expr_timely e t clock (below Second here) y.1 ok.1 ((λ k. (h.0 k).1.1), λ k p. h.1 k (Second ∷ p)))
      expr_timely (when_is a d c x) t clock here q ok h =
          timely_one (under types sc clock ck) (expr_clocks types N.outputs d (without clock) sc ck) here i (top_at (when_is a d c x) t clock here q h)
          (expr_timely d t (without clock) (below First here) (when_typed _ _ t q) ok.1 ((λ k. (h.0 k).1), λ k p. h.1 k (First ∷ p)))
      expr_timely (merge a x ps) t clock here q ok h =
          timely_row (under types sc clock ck) (parts_clocks types N.outputs ps x clock sc ck) here i (top_at (merge a x ps) t clock here q h)
          (parts_timely ps x t clock (below Args here) (merge_typed s (lookup s.variables x) ps t q) ok.1.1 ((λ k. (h.0 k).1), λ k p. h.1 k (Args ∷ p)))
      expr_timely (call a f inlined es) t clock here q ok h =
          let y = call_typed (lookup s.nodes f) (types_in s es) t q in
          timely_call (only_stands (N.outputs f) (under types sc clock ck)) (exprs_clocks types N.outputs es clock sc ck) (outputs_stand (N.outputs f) (under types sc clock ck)) here i
          (only_at f y.0 a inlined es clock here y.1 (sym ok.0 ∙ y.1) h)
          (exprs_timely es y.0.inputs clock (below Args here) y.2 ok.1 ((λ k. (h.0 k).1.0), λ k p. h.1 k (Args ∷ p)))
          (instance_at f y.0 clock (below Instance here) (sym ok.0 ∙ y.1) ((λ k. (h.0 k).1.1), λ k p. h.1 k (Instance ∷ p)))

      pub exprs_timely : (es : Exprs) (ds : List Decl) (clock : Clock) (here : Prefix) → IsTrue (args_fit ds (types_in s es)) → ExprsOk types among s second lasts es → Here (ExprsFit types false fits s second there es clock) here → TimelyAt (exprs_clocks types N.outputs es clock sc ck) here i
      exprs_timely no_expr ds clock here q ok h = λ p. tt
      exprs_timely (more_exprs e es) [] clock here q ok h = absurd (cc)
      exprs_timely (more_exprs e es) (d ∷ ds) clock here q ok h =
          let y = arg_typed d ds (type_of s e) (types_in s es) q in
          timely_of_two (expr_clocks types N.outputs e clock sc ck) (exprs_clocks types N.outputs es clock sc ck) here i
          (expr_timely e d.ty clock (below Head here) y.0 ok.1.0 ((λ k. (h.0 k).0), λ k p. h.1 k (Head ∷ p)))
          (exprs_timely es ds clock (below Tail here) y.1 ok.1.1 ((λ k. (h.0 k).1), λ k p. h.1 k (Tail ∷ p)))

      parts_timely : (ps : Parts) (x : List ℕ) (t : Ty) (clock : Clock) (here : Prefix) → PartsHave s t ps → PartsOk types among s second lasts ps → Here (PartsFit types false fits s second there ps x clock) here → TimelyAt (parts_clocks types N.outputs ps x clock sc ck) here i
      parts_timely no_part x t clock here q ok h = λ p. tt
      parts_timely (more_parts c e ps) x t clock here q ok h =
          timely_of_two (expr_clocks types N.outputs e ((c, x) ∷ clock) sc ck) (parts_clocks types N.outputs ps x clock sc ck) here i
          (expr_timely e t ((c, x) ∷ clock) (below Head here) q.0 ok.1.0 ((λ k. (h.0 k).0), λ k p. h.1 k (Head ∷ p)))
          (parts_timely ps x t clock (below Tail here) q.1 ok.1.1 ((λ k. (h.0 k).1), λ k p. h.1 k (Tail ∷ p)))

    -- the right side of an equation
    pub right_timely : (ys : List (List ℕ × Span)) (e : Expr) (clock : Clock) (here : Prefix) → RightOk types among s second lasts ys e → ExprHere e clock here → TimelyAt (expr_clocks types N.outputs e clock sc ck) here i
    right_timely ys (call a f inlined es) clock here ok h =
        let y = row_typed (lookup s.nodes f) (types_in s es) ok.1.0 ok.1.1.0 in
        timely_call (only_stands (N.outputs f) (under types sc clock ck)) (exprs_clocks types N.outputs es clock sc ck) (outputs_stand (N.outputs f) (under types sc clock ck)) here i
        (only_at f y.0 a inlined es clock here y.1 (sym ok.0.0 ∙ y.1) h)
        (exprs_timely es y.0.inputs clock (below Args here) y.2 ok.0.1 ((λ k. (h.0 k).1.0), λ k p. h.1 k (Args ∷ p)))
        (instance_at f y.0 clock (below Instance here) (sym ok.0.0 ∙ y.1) ((λ k. (h.0 k).1.1), λ k p. h.1 k (Instance ∷ p)))
    right_timely ys (constant a c) clock here ok h = expr_timely (constant a c) ok.1.0 clock here ok.1.1.0 ok.0 h
    right_timely ys (variable a c) clock here ok h = expr_timely (variable a c) ok.1.0 clock here ok.1.1.0 ok.0 h
    right_timely ys (last_of a c) clock here ok h = expr_timely (last_of a c) ok.1.0 clock here ok.1.1.0 ok.0 h
    right_timely ys (one a o c) clock here ok h = expr_timely (one a o c) ok.1.0 clock here ok.1.1.0 ok.0 h
    right_timely ys (two a o b c) clock here ok h = expr_timely (two a o b c) ok.1.0 clock here ok.1.1.0 ok.0 h
    right_timely ys (choose a o b c) clock here ok h = expr_timely (choose a o b c) ok.1.0 clock here ok.1.1.0 ok.0 h
    right_timely ys (pre a c) clock here ok h = expr_timely (pre a c) ok.1.0 clock here ok.1.1.0 ok.0 h
    right_timely ys (fby a b c) clock here ok h = expr_timely (fby a b c) ok.1.0 clock here ok.1.1.0 ok.0 h
    right_timely ys (arrow a b c) clock here ok h = expr_timely (arrow a b c) ok.1.0 clock here ok.1.1.0 ok.0 h
    right_timely ys (when_is a b c x) clock here ok h = expr_timely (when_is a b c x) ok.1.0 clock here ok.1.1.0 ok.0 h
    right_timely ys (merge a b c) clock here ok h = expr_timely (merge a b c) ok.1.0 clock here ok.1.1.0 ok.0 h
