-- The rows of the occurrences in an expression fit, and so do the registers that it keeps.
use Rattle.std.proofs.Common.{◌≡◌, inl, inr, ℕ, suc, List, [], ◌∷◌, refl, sym, ap, subst, ◌∙◌}
use Rattle.std.specs.Prelude.{Bool, true, false, ◌&&◌, if◌then◌else◌, is_some, IsTrue, IsFalse, Option, None, Some}
use Rattle.std.specs.List.{AllByRecursion}
use Rattle.std.specs.Str.{bytes_eq}
use Rattle.hp_base.specs.Kinds.{KindData, AreOfKinds}
use Rattle.hp_base.specs.declared.span.Span.{Span}
use Rattle.hp_base.specs.declared.ty.Ty.{Ty}
use Rattle.hp_base.specs.declared.ty.Ty.TheVariants as ty
use Rattle.hp_base.specs.declared.ty.Const.{Const}
use Rattle.hp_base.specs.declared.value.Value.{Value}
use Rattle.hp_base.specs.declared.value.Value.TheVariants.{B}
use Rattle.hp_obc.specs.Steps.{Names}
use Rattle.hp_obc.specs.declared.command.ObcOp.TheVariants.{Copy, Mux}
use Rattle.hp_tree.specs.declared.decl.Cons.{Cons}
use Rattle.hp_tree.specs.declared.expr.Op1.{Op1}
use Rattle.hp_tree.specs.declared.expr.Op2.{Op2}
use Rattle.hp_tree.specs.Expressions.{Expr, constant, variable, last_of, one, two, choose, pre, fby, arrow, when_is, merge, call, Exprs, no_expr, more_exprs, Parts, no_part, more_parts}
use Rattle.hp_tree.specs.Blocks.{Decl}
use Rattle.hp_tree.specs.Programs.{TypeDecl, Node}
use Rattle.hp_tree.specs.Operators.{cons_of, constant_of}
use Rattle.hp_tree.specs.Values.{IsOf}
use Rattle.hp_tree.specs.Instant.{Named, Head, Tail, First, Second, Third, Args, Instance, Place, Instant, Clock, without}
use Rattle.hp_tree.specs.Meaning.{Nodes}
use Rattle.hp_base.specs.Known.Known.{lookup}
use Rattle.hp_typing.specs.Types.{type_of, types_in, type_of_one, args_fit}
use Rattle.law_judged.specs.Typed.Scopes.{Scope as Known}
use Rattle.hp_init.specs.Classes.{Classes, is_second}
use Rattle.hp_meaning.specs.Causal.Clocked.{Standing, IsOn, ExprsOn, PartsOn}
use Rattle.law_equations.specs.Meaning.Fitting.{is_there}
use Rattle.law_equations.specs.Flattened.Flat.{Arg, name, value, Op, Register, Call, Now, Behaviours, holds, recent, values, said, Says}
use Rattle.law_equations.specs.Flattened.Flatten.{obc_one, obc_two, FlatName, At, IsFirst, Held, When, on, steps, ats, row, copies, constant_in, unless, Prefix, below, Scope, under, args_at, parts_at, only_row, output_row, fby_row, flat_expr, flat_exprs, flat_parts}
use Rattle.law_equations.specs.Flattened.Timely.{Fits, Along, Stands, Timely, outputs_stand, only_stands, expr_clocks, exprs_clocks, parts_clocks}
use Rattle.law_equations.proofs.FlattenedLemmas.PastLaws.{seen}
use Rattle.law_equations.proofs.FlattenedLemmas.ExpressionLaws.{Remembers, Good, undemand}
use Rattle.law_values.specs.Valued.Judged.{Lasts, CoversType, of_parts}
use Rattle.law_values.specs.Valued.Fitting.{Fits as Typed, ExprsFit, PartsFit, value_type}
use Rattle.law_values.specs.Valued.Given.{reading}
use Rattle.law_values.proofs.ValuedLemmas.Both.{ExprOk, ExprsOk, PartsOk, RightOk}
use Rattle.law_values.proofs.ValuedLemmas.Laws.{never_nil, fits_true}
use Rattle.law_values.proofs.ValuedLemmas.Typed.{one_typed, two_typed, if_typed, pair_typed, when_typed, call_typed, row_typed, merge_typed, PartsHave, arg_typed}
use Rattle.law_values.proofs.ValuedLemmas.ExprTops.{Callees}
use Rattle.law_equations.specs.Answered.Fitting.{ArgFits}
use Rattle.law_wellmade.specs.Timely.Kinds.{kinds_of_decls}
use Rattle.law_wellmade.specs.Timely.Actual.{NamesHave}
use Rattle.law_wellmade.specs.Timely.Tested.{ConstructorsDiffer, ConsAre, AreApart, ExprTested, ExprsTested, PartsTested}
use Rattle.law_wellmade.specs.Timely.Kept.{OfExpr, OfExprs, OfParts, IfNone, ExprBegins, ExprsBegin, PartsBegin}
use Rattle.law_equations.specs.Answered.Short.{AreShort}
use Rattle.law_wellmade.proofs.TimelyLemmas.Actual.{first}
use Rattle.law_wellmade.proofs.TimelyLemmas.KindLaws.{AbsentOr, kind_is}
use Rattle.law_wellmade.proofs.TimelyLemmas.Instants.{is_value, under_holds}
use Rattle.law_wellmade.proofs.TimelyLemmas.ExpressionsTimely.{there, Here, ExprHere, top_of, value_typed}
use Rattle.law_wellmade.proofs.TimelyLemmas.NodesTimely.{there_is}
use Rattle.law_wellmade.proofs.TimelyLemmas.Rows.{stand_there, flag_there, recent_there, SiteFits, RowsFit, OptFits, PlanFits, KeptFits, one_row, copy_row, branches, conses, branch_site, branch_rows, fit_alone, fit_one, fit_two, fit_three, fit_row, fit_call, fit_of_two}

and_never : (m : Bool) → IsFalse (m && false)
and_never true = refl
and_never false = refl

pub some_type : (types : List TypeDecl) (o : Option Ty) (cs : List Cons) → CoversType types o cs → (t : Ty) × (o ≡ Some t)
some_type types None cs h = absurd h
some_type types (Some t) cs h = (t, refl)

module _ (types : List TypeDecl) (differ : ConstructorsDiffer types) (N : Nodes) (among : List ℕ → Option Node) (fits allowed : List ℕ → Instant → Type 0) (known : Callees types false (reading first) N among fits allowed) (does : Behaviours) (fill : Place → Value) (takes : Names (List KindData)) (takes_is : (f : List ℕ) (m : Node) → among f ≡ Some m → takes f ≡ kinds_of_decls types m.inputs) where
  module _ (s : Known) (st : Standing) (second : Classes) (lasts : Lasts) (sc lsc : Scope) (ck : When) (rs : List Place) (G : List (Now FlatName)) (i : Now FlatName) (rem : Remembers G i)
      (have : IsTrue (holds (steps ck) i) → NamesHave types s st (λ x. i (sc x))) (told : (x : List ℕ) (t : Ty) → lookup s.variables x ≡ Some t → AbsentOr types t (i (sc x))) where
    abbrev on_clock : Clock → When
    on_clock clock = under types sc clock ck

    abbrev KnownHere : Expr → Clock → Prefix → Type 0
    KnownHere e clock here = ExprHere types N among fits allowed known s second lasts sc ck i e clock here

    abbrev PartHere : (Instant → Type 0) → Prefix → Type 0
    PartHere P here = Here types N among fits allowed known s second lasts sc ck i P here

    abbrev on_it : Clock → Bool
    on_it clock = there types N among fits allowed known s second lasts sc ck i clock

    -- all that is known of an expression at its place
    pub record Fine (e : Expr) (t : Ty) (clock : Clock) (here : Prefix) : Type 0 where
      pub typed : type_of s e ≡ Some t
      pub is_on : IsOn st e clock
      pub ok : ExprOk types among s second lasts e
      pub tested : ExprTested types s e
      pub begins : ExprBegins fill e here
      pub known_here : KnownHere e clock here
      pub timely : Timely (expr_clocks types N.outputs e clock sc ck) here (i ∷ G)
      pub site : SiteFits takes i (on_clock clock) rs
      pub says : Good types N does fill (flat_expr types N.outputs fill e clock sc lsc here ck rs) here G i

    -- ---- values at the top

    both : (d h : Bool) → IsTrue (d && h) → IsTrue d × IsTrue h
    both true true k = (refl, refl)
    both true false k = absurd (cc)
    both false h k = absurd (cc)

    pub clock_holds : (clock : Clock) → IsTrue (holds (steps (on_clock clock)) i) → IsTrue (on_it clock) × IsTrue (holds (steps ck) i)
    clock_holds clock h = both (on_it clock) (holds (steps ck) i) (sym (under_holds types sc clock ck i) ∙ h)

    pub top_typed : (e : Expr) (t : Ty) (clock : Clock) (here : Prefix) → value_type s e ≡ Some t → KnownHere e clock here → IsTrue (holds (steps (on_clock clock)) i) → IsOf types t (i (At (here [])))
    top_typed e t clock here q h k =
        let b = clock_holds clock k in
        never_nil types t (is_second second e && false) (i (At (here []))) (and_never (is_second second e))
        (fits_true types (on_it clock) t (is_second second e && false) (i (At (here []))) b.0
        (subst (λ o. Typed types (on_it clock) o (is_second second e && false) (i (At (here [])))) q (top_of types N among fits allowed known s second lasts sc ck i e clock (seen here i) (h.0 b.1))))

    pub top_there : (e : Expr) (t : Ty) (clock : Clock) (here : Prefix) → Fine e t clock here → IsTrue (holds (steps (on_clock clock)) i) → IsTrue (is_there (i (At (here []))))
    top_there e t clock here f k = there_is (i (At (here []))) (is_value types t (i (At (here []))) (top_typed e t clock here (value_typed s e t f.typed) f.known_here k))

    -- the site without the innermost step of a clock
    shorter : (clock : Clock) → SiteFits takes i (on_clock clock) rs → SiteFits takes i (on_clock (without clock)) rs
    shorter [] h = h
    shorter (step ∷ clock) h = record { told = h.told.1; fits = h.fits.1; flags = h.flags }

    shorter_holds : (clock : Clock) → IsTrue (holds (steps (on_clock clock)) i) → IsTrue (holds (steps (on_clock (without clock))) i)
    shorter_holds [] h = h
    shorter_holds (step ∷ clock) h = (both _ (holds (steps (on_clock clock)) i) h).1

    -- ---- what is remembered

    pub first_there : (w : When) → IsTrue (holds (steps w) i) → IsTrue (is_there (i (IsFirst w rs)))
    first_there w h = subst (λ v. IsTrue (is_there v)) (sym (rem.1 w rs h)) (flag_there (recent (steps w) (ats rs) G i))

    pub held_there : (v : Value) (p : Place) (w : When) → IsTrue (is_there v) → Along (λ G i. Fits (holds (steps w) i) (i (At p))) G → IsTrue (holds (steps w) i) → IsTrue (is_there (i (Held v p w rs)))
    held_there v p w k l h = subst (λ v. IsTrue (is_there v)) (sym (rem.2 v p w rs h)) (recent_there v p w (ats rs) G i k l)

    -- ---- parts of expressions

    fine_one : (a : Span) (o : Op1) (e : Expr) (t : Ty) (clock : Clock) (here : Prefix) → Fine (one a o e) t clock here → Fine e (type_of_one o) clock (below First here)
    fine_one a o e t clock here f = record {
      typed = (one_typed (type_of_one o) (type_of s e) t f.typed).0;
      is_on = f.is_on;
      ok = f.ok;
      tested = f.tested;
      begins = f.begins;
      known_here = ((λ k. (f.known_here.0 k).1), λ k p. f.known_here.1 k (First ∷ p));
      timely = λ p. f.timely (First ∷ p);
      site = f.site;
      says = λ p. f.says (First ∷ p);
    }

    fine_two0 : (a : Span) (o : Op2) (d e : Expr) (t : Ty) (clock : Clock) (here : Prefix) → (f : Fine (two a o d e) t clock here) → Fine d (two_typed o (type_of s d) (type_of s e) t f.typed).0 clock (below First here)
    fine_two0 a o d e t clock here f = record {
      typed = (two_typed o (type_of s d) (type_of s e) t f.typed).2;
      is_on = f.is_on.0;
      ok = f.ok.0;
      tested = f.tested.0;
      begins = f.begins.0;
      known_here = ((λ k. (f.known_here.0 k).1.0), λ k p. f.known_here.1 k (First ∷ p));
      timely = λ p. f.timely (First ∷ p);
      site = f.site;
      says = λ p. f.says (First ∷ p);
    }

    fine_two1 : (a : Span) (o : Op2) (d e : Expr) (t : Ty) (clock : Clock) (here : Prefix) → (f : Fine (two a o d e) t clock here) → Fine e (two_typed o (type_of s d) (type_of s e) t f.typed).0 clock (below Second here)
    fine_two1 a o d e t clock here f = record {
      typed = (two_typed o (type_of s d) (type_of s e) t f.typed).3;
      is_on = f.is_on.1;
      ok = f.ok.1;
      tested = f.tested.1;
      begins = f.begins.1;
      known_here = ((λ k. (f.known_here.0 k).1.1), λ k p. f.known_here.1 k (Second ∷ p));
      timely = λ p. f.timely (Second ∷ p);
      site = f.site;
      says = λ p. f.says (Second ∷ p);
    }

    fine_choose0 : (a : Span) (d e g : Expr) (t : Ty) (clock : Clock) (here : Prefix) → Fine (choose a d e g) t clock here → Fine d ty.Bool clock (below First here)
    fine_choose0 a d e g t clock here f = record {
      typed = (if_typed (type_of s d) (type_of s e) (type_of s g) t f.typed).0;
      is_on = f.is_on.0;
      ok = f.ok.0;
      tested = f.tested.0;
      begins = f.begins.0;
      known_here = ((λ k. (f.known_here.0 k).1.0), λ k p. f.known_here.1 k (First ∷ p));
      timely = λ p. f.timely (First ∷ p);
      site = f.site;
      says = λ p. f.says (First ∷ p);
    }

    fine_choose1 : (a : Span) (d e g : Expr) (t : Ty) (clock : Clock) (here : Prefix) → Fine (choose a d e g) t clock here → Fine e t clock (below Second here)
    fine_choose1 a d e g t clock here f = record {
      typed = (if_typed (type_of s d) (type_of s e) (type_of s g) t f.typed).1;
      is_on = f.is_on.1;
      ok = f.ok.1.0;
      tested = f.tested.1.0;
      begins = f.begins.1.0;
      known_here = ((λ k. (f.known_here.0 k).1.1.0), λ k p. f.known_here.1 k (Second ∷ p));
      timely = λ p. f.timely (Second ∷ p);
      site = f.site;
      says = λ p. f.says (Second ∷ p);
    }

    fine_choose2 : (a : Span) (d e g : Expr) (t : Ty) (clock : Clock) (here : Prefix) → Fine (choose a d e g) t clock here → Fine g t clock (below Third here)
    fine_choose2 a d e g t clock here f = record {
      typed = (if_typed (type_of s d) (type_of s e) (type_of s g) t f.typed).2;
      is_on = f.is_on.2;
      ok = f.ok.1.1;
      tested = f.tested.1.1;
      begins = f.begins.1.1;
      known_here = ((λ k. (f.known_here.0 k).1.1.1), λ k p. f.known_here.1 k (Third ∷ p));
      timely = λ p. f.timely (Third ∷ p);
      site = f.site;
      says = λ p. f.says (Third ∷ p);
    }

    fine_pre : (a : Span) (e : Expr) (t : Ty) (clock : Clock) (here : Prefix) → Fine (pre a e) t clock here → Fine e t clock (below First here)
    fine_pre a e t clock here f = record {
      typed = f.typed;
      is_on = f.is_on;
      ok = f.ok.1;
      tested = f.tested;
      begins = f.begins;
      known_here = ((λ k. (f.known_here.0 k).1), λ k p. f.known_here.1 k (First ∷ p));
      timely = undemand types N does fill e clock sc ck (below First here) (i ∷ G) (λ p. f.timely (First ∷ p));
      site = f.site;
      says = λ p. f.says (First ∷ p);
    }

    good_left : (a : Span) (d e : Expr) (clock : Clock) (here : Prefix) (b : Bool) → is_some (constant_in d) ≡ b → Good types N does fill (flat_expr types N.outputs fill (fby a d e) clock sc lsc here ck rs) here G i → Good types N does fill (unless b (flat_expr types N.outputs fill d clock sc lsc (below First here) ck rs)) (below First here) G i
    good_left a d e clock here b q h = subst (λ c. Good types N does fill (unless c (flat_expr types N.outputs fill d clock sc lsc (below First here) ck rs)) (below First here) G i) q (λ p. h (First ∷ p))

    fine_fby1 : (a : Span) (d e : Expr) (t : Ty) (clock : Clock) (here : Prefix) → Fine (fby a d e) t clock here → Fine e t clock (below Second here)
    fine_fby1 a d e t clock here f = record {
      typed = (pair_typed (type_of s d) (type_of s e) t f.typed).1;
      is_on = f.is_on.1;
      ok = f.ok.1.1;
      tested = f.tested.1;
      begins = f.begins.1.1;
      known_here = ((λ k. (f.known_here.0 k).1.1), λ k p. f.known_here.1 k (Second ∷ p));
      timely = undemand types N does fill e clock sc ck (below Second here) (i ∷ G) (λ p. f.timely (Second ∷ p));
      site = f.site;
      says = λ p. f.says (Second ∷ p);
    }

    -- the left side of a `fby`, which is flattened where it is no constant
    fine_fby0 : (a : Span) (d e : Expr) (t : Ty) (clock : Clock) (here : Prefix) → constant_in d ≡ None → Fine (fby a d e) t clock here → Fine d t clock (below First here)
    fine_fby0 a d e t clock here n f = record {
      typed = (pair_typed (type_of s d) (type_of s e) t f.typed).0;
      is_on = f.is_on.0;
      ok = f.ok.1.0;
      tested = f.tested.0;
      begins = f.begins.1.0;
      known_here = ((λ k. (f.known_here.0 k).1.0), λ k p. f.known_here.1 k (First ∷ p));
      timely = undemand types N does fill d clock sc ck (below First here) (i ∷ G) (λ p. f.timely (First ∷ p));
      site = f.site;
      says = good_left a d e clock here false (ap is_some n) f.says;
    }

    fine_arrow0 : (a : Span) (d e : Expr) (t : Ty) (clock : Clock) (here : Prefix) → Fine (arrow a d e) t clock here → Fine d t clock (below First here)
    fine_arrow0 a d e t clock here f = record {
      typed = (pair_typed (type_of s d) (type_of s e) t f.typed).0;
      is_on = f.is_on.0;
      ok = f.ok.0;
      tested = f.tested.0;
      begins = f.begins.0;
      known_here = ((λ k. (f.known_here.0 k).1.0), λ k p. f.known_here.1 k (First ∷ p));
      timely = undemand types N does fill d clock sc ck (below First here) (i ∷ G) (λ p. f.timely (First ∷ p));
      site = f.site;
      says = λ p. f.says (First ∷ p);
    }

    fine_arrow1 : (a : Span) (d e : Expr) (t : Ty) (clock : Clock) (here : Prefix) → Fine (arrow a d e) t clock here → Fine e t clock (below Second here)
    fine_arrow1 a d e t clock here f = record {
      typed = (pair_typed (type_of s d) (type_of s e) t f.typed).1;
      is_on = f.is_on.1;
      ok = f.ok.1;
      tested = f.tested.1;
      begins = f.begins.1;
      known_here = ((λ k. (f.known_here.0 k).1.1), λ k p. f.known_here.1 k (Second ∷ p));
      timely = λ p. f.timely (Second ∷ p);
      site = f.site;
      says = λ p. f.says (Second ∷ p);
    }

    fine_when : (a : Span) (e : Expr) (c : Cons) (x : List ℕ) (t : Ty) (clock : Clock) (here : Prefix) → Fine (when_is a e c x) t clock here → Fine e t (without clock) (below First here)
    fine_when a e c x t clock here f = record {
      typed = when_typed _ _ t f.typed;
      is_on = f.is_on.2;
      ok = f.ok.1;
      tested = f.tested;
      begins = f.begins;
      known_here = ((λ k. (f.known_here.0 k).1), λ k p. f.known_here.1 k (First ∷ p));
      timely = λ p. f.timely (First ∷ p);
      site = shorter clock f.site;
      says = λ p. f.says (First ∷ p);
    }

    -- ---- arguments

    pub record AllFine (es : Exprs) (ds : List Decl) (clock : Clock) (here : Prefix) : Type 0 where
      pub typed : IsTrue (args_fit ds (types_in s es))
      pub are_on : ExprsOn st es clock
      pub ok : ExprsOk types among s second lasts es
      pub tested : ExprsTested types s es
      pub begin : ExprsBegin fill es here
      pub known_here : PartHere (ExprsFit types false fits s second (λ c. on_it c) es clock) here
      pub timely : Timely (exprs_clocks types N.outputs es clock sc ck) here (i ∷ G)
      pub site : SiteFits takes i (on_clock clock) rs
      pub say : Good types N does fill (flat_exprs types N.outputs fill es clock sc lsc here ck rs) here G i

    fine_head : (e : Expr) (es : Exprs) (d : Decl) (ds : List Decl) (clock : Clock) (here : Prefix) → AllFine (more_exprs e es) (d ∷ ds) clock here → Fine e d.ty clock (below Head here)
    fine_head e es d ds clock here f = record {
      typed = (arg_typed d ds (type_of s e) (types_in s es) f.typed).0;
      is_on = f.are_on.0;
      ok = f.ok.1.0;
      tested = f.tested.0;
      begins = f.begin.0;
      known_here = ((λ k. (f.known_here.0 k).0), λ k p. f.known_here.1 k (Head ∷ p));
      timely = λ p. f.timely (Head ∷ p);
      site = f.site;
      says = λ p. f.say (Head ∷ p);
    }

    fine_tail : (e : Expr) (es : Exprs) (d : Decl) (ds : List Decl) (clock : Clock) (here : Prefix) → AllFine (more_exprs e es) (d ∷ ds) clock here → AllFine es ds clock (below Tail here)
    fine_tail e es d ds clock here f = record {
      typed = (arg_typed d ds (type_of s e) (types_in s es) f.typed).1;
      are_on = f.are_on.1;
      ok = f.ok.1.1;
      tested = f.tested.1;
      begin = f.begin.1;
      known_here = ((λ k. (f.known_here.0 k).1), λ k p. f.known_here.1 k (Tail ∷ p));
      timely = λ p. f.timely (Tail ∷ p);
      site = f.site;
      say = λ p. f.say (Tail ∷ p);
    }

    args_there : (es : Exprs) (ds : List Decl) (clock : Clock) (here : Prefix) → AllFine es ds clock here → IsTrue (holds (steps (on_clock clock)) i) → AllByRecursion (ArgFits i) (args_at types N.outputs fill es here) × (AreShort (values (args_at types N.outputs fill es here) i) → AreOfKinds (kinds_of_decls types ds) (values (args_at types N.outputs fill es here) i))
    args_there no_expr [] clock here f h = (tt, λ q. tt)
    args_there no_expr (d ∷ ds) clock here f h = absurd (let k = f.typed in cc)
    args_there (more_exprs e es) [] clock here f h = absurd (let k = f.typed in cc)
    args_there (more_exprs e es) (d ∷ ds) clock here f h =
        let g = fine_head e es d ds clock here f in
        let v = top_typed e d.ty clock (below Head here) (value_typed s e d.ty g.typed) g.known_here h in
        let others = args_there es ds clock (below Tail here) (fine_tail e es d ds clock here f) h in
        ((there_is _ (is_value types d.ty _ v), others.0), λ q. (kind_is types d.ty _ differ q.0 v, others.1 q.1))

    -- ---- calls

    output_there : (os : List (List ℕ)) (w : When) (here : Prefix) (k : ℕ) (f : List ℕ) (xs : List (Arg FlatName)) (x : List ℕ) → SiteFits takes i w rs → (IsTrue (holds (steps w) i) → AllByRecursion (ArgFits i) xs × (AreShort (values xs i) → AreOfKinds (takes f) (values xs i))) → Stands (outputs_stand os w x) (At (here (Named x ∷ []))) (i ∷ G) → OptFits takes i (output_row types N.outputs fill k os w rs f xs x) (At (here (Named x ∷ [])))
    output_there [] w here k f xs x s' a h = tt
    output_there (o ∷ os) w here k f xs x s' a h = by (bytes_eq o x) h (λ g. output_there os w here (suc k) f xs x s' a g)
      where
        by : (b : Bool) → Stands (if b then Some w else outputs_stand os w x) (At (here (Named x ∷ []))) (i ∷ G) → (Stands (outputs_stand os w x) (At (here (Named x ∷ []))) (i ∷ G) → OptFits takes i (output_row types N.outputs fill (suc k) os w rs f xs x) (At (here (Named x ∷ []))))
            → OptFits takes i (if b then Some (row w rs (Call f k xs) ∷ []) else output_row types N.outputs fill (suc k) os w rs f xs x) (At (here (Named x ∷ [])))
        by true h f' = one_row takes i w rs (Call f k xs) (At (here (Named x ∷ []))) s' a (λ t. stand_there (holds (steps w) i) (i (At (here (Named x ∷ [])))) h.0 t)
        by false h f' = f' h

    only_there : (os : List (List ℕ)) (w : When) (here : Prefix) → SiteFits takes i w rs → Stands (only_stands os w) (At (here [])) (i ∷ G) → Says does (only_row types N.outputs fill os here w rs) G i (i (At (here []))) → OptFits takes i (only_row types N.outputs fill os here w rs) (At (here []))
    only_there [] w here s' h e = tt
    only_there (o ∷ os) w here s' h e = copy_row takes i does G w rs (At (here (Instance ∷ Named o ∷ []))) (At (here [])) s' (λ t. stand_there (holds (steps w) i) (i (At (here []))) h.0 t) e

    -- ---- merge

    branches_of : Parts → Prefix → List (Cons × FlatName)
    branches_of no_part here = []
    branches_of (more_parts c e ps) here = (c, At (here (Head ∷ []))) ∷ branches_of ps (below Tail here)

    branches_are : (ps : Parts) (x : List ℕ) (here : Prefix) (w : When) → branches takes i types (branches_of ps here) (sc x) w rs ≡ parts_at types N.outputs fill ps x sc here w rs
    unfolding branches_of
    branches_are no_part x here w = refl
    branches_are (more_parts c e ps) x here w = ap (λ r. copies (on (cons_of types c) (sc x) w) rs (At (here (Head ∷ []))) ∷ r) (branches_are ps x (below Tail here) w)

    conses_are : (ps : Parts) (here : Prefix) → conses takes i (branches_of ps here) ≡ of_parts ps
    unfolding branches_of
    conses_are no_part here = refl
    conses_are (more_parts c e ps) here = ap (λ cs. c ∷ cs) (conses_are ps (below Tail here))

    pub chosen_here : (x : List ℕ) (clock : Clock) (u : Ty) → lookup s.variables x ≡ Some u → st x ≡ Some clock → IsTrue (holds (steps (on_clock clock)) i) → IsOf types u (i (sc x))
    chosen_here x clock u l o h =
        let b = clock_holds clock h in
        never_nil types u false (i (sc x)) refl (fits_true types (on_it clock) u false (i (sc x)) b.0 (have b.1 x clock u o l))

    merge_rows : (ps : Parts) (x : List ℕ) (clock : Clock) (here : Prefix) (a : FlatName) (u : Ty) → lookup s.variables x ≡ Some u → st x ≡ Some clock → ConsAre types (lookup s.variables x) (of_parts ps) → AreApart (of_parts ps) → SiteFits takes i (on_clock clock) rs → (IsTrue (holds (steps (on_clock clock)) i) → IsTrue (is_there (i a)))
        → i a ≡ said does (parts_at types N.outputs fill ps x sc here (on_clock clock) rs) G i → RowsFit takes i a (parts_at types N.outputs fill ps x sc here (on_clock clock) rs)
    merge_rows ps x clock here a u l o k n s' g e =
        subst (λ r. RowsFit takes i a r) (branches_are ps x here (on_clock clock))
        (branch_rows takes i types differ u (sc x) (on_clock clock) rs s' (told x u l) (λ h. chosen_here x clock u l o h) does G a (branches_of ps here)
        (subst (λ cs. ConsAre types (Some u) cs) (sym (conses_are ps here)) (subst (λ t. ConsAre types t (of_parts ps)) l k))
        (subst AreApart (sym (conses_are ps here)) n) g (e ∙ ap (λ r. said does r G i) (sym (branches_are ps x here (on_clock clock)))))

    -- ---- operands of a merge

    record PartsFine (ps : Parts) (x : List ℕ) (u t : Ty) (clock : Clock) (here : Prefix) : Type 0 where
      pub typed : PartsHave s t ps
      pub are_on : PartsOn st x ps clock
      pub ok : PartsOk types among s second lasts ps
      pub tested : PartsTested types s ps
      pub begin : PartsBegin fill ps here
      pub known_here : PartHere (PartsFit types false fits s second (λ c. on_it c) ps x clock) here
      pub timely : Timely (parts_clocks types N.outputs ps x clock sc ck) here (i ∷ G)
      pub site : SiteFits takes i (on_clock clock) rs
      pub say : Good types N does fill (flat_parts types N.outputs fill ps x clock sc lsc here ck rs) here G i
      pub name_typed : lookup s.variables x ≡ Some u
      pub name_on : st x ≡ Some clock
      pub conses_typed : ConsAre types (Some u) (of_parts ps)

    fine_part : (c : Cons) (e : Expr) (ps : Parts) (x : List ℕ) (u t : Ty) (clock : Clock) (here : Prefix) → PartsFine (more_parts c e ps) x u t clock here → Fine e t ((c, x) ∷ clock) (below Head here)
    fine_part c e ps x u t clock here f = record {
      typed = f.typed.0;
      is_on = f.are_on.0;
      ok = f.ok.1.0;
      tested = f.tested.0;
      begins = f.begin.0;
      known_here = ((λ k. (f.known_here.0 k).0), λ k p. f.known_here.1 k (Head ∷ p));
      timely = λ p. f.timely (Head ∷ p);
      site = branch_site takes i types differ u (sc x) (on_clock clock) rs f.site (told x u f.name_typed) (λ h. chosen_here x clock u f.name_typed f.name_on h) c f.conses_typed.0;
      says = λ p. f.say (Head ∷ p);
    }

    fine_parts : (c : Cons) (e : Expr) (ps : Parts) (x : List ℕ) (u t : Ty) (clock : Clock) (here : Prefix) → PartsFine (more_parts c e ps) x u t clock here → PartsFine ps x u t clock (below Tail here)
    fine_parts c e ps x u t clock here f = record {
      typed = f.typed.1;
      are_on = f.are_on.1;
      ok = f.ok.1.1;
      tested = f.tested.1;
      begin = f.begin.1;
      known_here = ((λ k. (f.known_here.0 k).1), λ k p. f.known_here.1 k (Tail ∷ p));
      timely = λ p. f.timely (Tail ∷ p);
      site = f.site;
      say = λ p. f.say (Tail ∷ p);
      name_typed = f.name_typed;
      name_on = f.name_on;
      conses_typed = f.conses_typed.1;
    }

    fine_merge : (a : Span) (x : List ℕ) (ps : Parts) (t : Ty) (clock : Clock) (here : Prefix) → (f : Fine (merge a x ps) t clock here) → PartsFine ps x (some_type types (lookup s.variables x) (of_parts ps) f.ok.1.0).0 t clock (below Args here)
    fine_merge a x ps t clock here f =
        let u = some_type types (lookup s.variables x) (of_parts ps) f.ok.1.0 in
        record {
          typed = merge_typed s (lookup s.variables x) ps t f.typed;
          are_on = f.is_on.1;
          ok = f.ok.1.1;
          tested = f.tested.1.1;
          begin = f.begins;
          known_here = ((λ k. (f.known_here.0 k).1), λ k p. f.known_here.1 k (Args ∷ p));
          timely = λ p. f.timely (Args ∷ p);
          site = f.site;
          say = λ p. f.says (Args ∷ p);
          name_typed = u.1;
          name_on = f.is_on.0;
          conses_typed = subst (λ o. ConsAre types o (of_parts ps)) u.1 f.tested.0;
        }

    -- ---- a call of a node

    pub record CallFine (a : Span) (f : List ℕ) (inlined : Bool) (es : Exprs) (m : Node) (clock : Clock) (here : Prefix) : Type 0 where
      pub found : among f ≡ Some m
      pub args : AllFine es m.inputs clock (below Args here)
      pub timely : Timely (expr_clocks types N.outputs (call a f inlined es) clock sc ck) here (i ∷ G)
      pub says : Good types N does fill (flat_expr types N.outputs fill (call a f inlined es) clock sc lsc here ck rs) here G i

    fine_call : (a : Span) (f : List ℕ) (inlined : Bool) (es : Exprs) (t : Ty) (clock : Clock) (here : Prefix) → (g : Fine (call a f inlined es) t clock here) → CallFine a f inlined es (call_typed (lookup s.nodes f) (types_in s es) t g.typed).0 clock here
    fine_call a f inlined es t clock here g =
        let y = call_typed (lookup s.nodes f) (types_in s es) t g.typed in
        record {
          found = sym g.ok.0 ∙ y.1;
          args = record {
            typed = y.2;
            are_on = g.is_on;
            ok = g.ok.1;
            tested = g.tested;
            begin = g.begins;
            known_here = ((λ k. (g.known_here.0 k).1.0), λ k p. g.known_here.1 k (Args ∷ p));
            timely = λ p. g.timely (Args ∷ p);
            site = g.site;
            say = λ p. g.says (Args ∷ p);
          };
          timely = g.timely;
          says = g.says;
        }

    call_rows : (a : Span) (f : List ℕ) (inlined : Bool) (es : Exprs) (m : Node) (clock : Clock) (here : Prefix) → CallFine a f inlined es m clock here → PlanFits takes i (flat_exprs types N.outputs fill es clock sc lsc (below Args here) ck rs) (below Args here) → PlanFits takes i (flat_expr types N.outputs fill (call a f inlined es) clock sc lsc here ck rs) here
    call_rows a f inlined es m clock here g h =
        let w = on_clock clock in
        let xs = args_at types N.outputs fill es (below Args here) in
        fit_call takes i (only_row types N.outputs fill (N.outputs f) here w rs) (flat_exprs types N.outputs fill es clock sc lsc (below Args here) ck rs) (output_row types N.outputs fill 0 (N.outputs f) w rs f xs) here
        (only_there (N.outputs f) w here g.args.site (g.timely []) (g.says [])) h
        (λ x. output_there (N.outputs f) w (below Instance here) 0 f xs x g.args.site
        (λ k. let b = args_there es m.inputs clock (below Args here) g.args k in (b.0, λ q. subst (λ ks. AreOfKinds ks (values xs i)) (sym (takes_is f m g.found)) (b.1 q)))
        (g.timely (Instance ∷ Named x ∷ [])))

    -- ---- `fby`

    fby_top : (a : Span) (d e : Expr) (t : Ty) (clock : Clock) (here : Prefix) → Fine (fby a d e) t clock here → (o : Option Const) → constant_in d ≡ o → RowsFit takes i (At (here [])) (fby_row types N.outputs fill o here (on_clock clock) rs ∷ [])
    fby_top a d e t clock here f None q =
        let w = on_clock clock in
        one_row takes i w rs (Op Mux (name (IsFirst w rs) ∷ name (At (here (First ∷ []))) ∷ name (Held (fill (here [])) (here (Second ∷ [])) w rs) ∷ [])) (At (here [])) f.site
        (λ h. (first_there w h, (top_there d t clock (below First here) (fine_fby0 a d e t clock here q f) h, (held_there (fill (here [])) (here (Second ∷ [])) w (subst (λ c. IfNone c (fill (here []))) q f.begins.0) (f.timely (Second ∷ [])).1 h, tt))))
        (λ h. top_there (fby a d e) t clock here f h)
    fby_top a d e t clock here f (Some c) q =
        let w = on_clock clock in
        one_row takes i w rs (Register (constant_of types c) (name (At (here (Second ∷ []))))) (At (here [])) f.site
        (λ h. top_there e t clock (below Second here) (fine_fby1 a d e t clock here f) h) (λ h. top_there (fby a d e) t clock here f h)

    fby_left : (d : Expr) (clock : Clock) (here : Prefix) (o : Option Const) → constant_in d ≡ o → (constant_in d ≡ None → PlanFits takes i (flat_expr types N.outputs fill d clock sc lsc here ck rs) here) → PlanFits takes i (unless (is_some (constant_in d)) (flat_expr types N.outputs fill d clock sc lsc here ck rs)) here
    fby_left d clock here o q f = subst (λ b. PlanFits takes i (unless (is_some b) (flat_expr types N.outputs fill d clock sc lsc here ck rs)) here) (sym q) (by o q)
      where
        by : (o : Option Const) → constant_in d ≡ o → PlanFits takes i (unless (is_some o) (flat_expr types N.outputs fill d clock sc lsc here ck rs)) here
        by None q p = f q p
        by (Some c) q p = tt

    -- ---- all rows

    mutual
      pub expr_rows : (e : Expr) (t : Ty) (clock : Clock) (here : Prefix) → Fine e t clock here → PlanFits takes i (flat_expr types N.outputs fill e clock sc lsc here ck rs) here
      expr_rows (constant a c) t clock here f =
          fit_alone takes i (row (on_clock clock) rs (Op Copy (value (constant_of types c) ∷ [])) ∷ []) here
          (one_row takes i (on_clock clock) rs (Op Copy (value (constant_of types c) ∷ [])) (At (here [])) f.site (λ h. (tt, tt)) (λ h. top_there (constant a c) t clock here f h))
      expr_rows (variable a x) t clock here f =
          fit_alone takes i (copies (on_clock clock) rs (sc x) ∷ []) here
          (copy_row takes i does G (on_clock clock) rs (sc x) (At (here [])) f.site (λ h. top_there (variable a x) t clock here f h) (f.says []))
      expr_rows (last_of a x) t clock here f =
          fit_alone takes i (copies (on_clock clock) rs (lsc x) ∷ []) here
          (copy_row takes i does G (on_clock clock) rs (lsc x) (At (here [])) f.site (λ h. top_there (last_of a x) t clock here f h) (f.says []))
      expr_rows (one a o d) t clock here f =
          let g = fine_one a o d t clock here f in
          fit_one takes i (row (on_clock clock) rs (Op (obc_one o) (name (At (here (First ∷ []))) ∷ [])) ∷ []) (flat_expr types N.outputs fill d clock sc lsc (below First here) ck rs) here
          (one_row takes i (on_clock clock) rs (Op (obc_one o) (name (At (here (First ∷ []))) ∷ [])) (At (here [])) f.site (λ h. (top_there d (type_of_one o) clock (below First here) g h, tt)) (λ h. top_there (one a o d) t clock here f h))
          (expr_rows d (type_of_one o) clock (below First here) g)
      expr_rows (two a o d e) t clock here f =
          let u = (two_typed o (type_of s d) (type_of s e) t f.typed).0 in
          let g = fine_two0 a o d e t clock here f in
          let h' = fine_two1 a o d e t clock here f in
          fit_two takes i (row (on_clock clock) rs (Op (obc_two o) (name (At (here (First ∷ []))) ∷ name (At (here (Second ∷ []))) ∷ [])) ∷ []) (flat_expr types N.outputs fill d clock sc lsc (below First here) ck rs) (flat_expr types N.outputs fill e clock sc lsc (below Second here) ck rs) here
          (one_row takes i (on_clock clock) rs (Op (obc_two o) (name (At (here (First ∷ []))) ∷ name (At (here (Second ∷ []))) ∷ [])) (At (here [])) f.site (λ h. (top_there d u clock (below First here) g h, (top_there e u clock (below Second here) h' h, tt))) (λ h. top_there (two a o d e) t clock here f h))
          (expr_rows d u clock (below First here) g) (expr_rows e u clock (below Second here) h')
      expr_rows (choose a d e k) t clock here f =
          let g0 = fine_choose0 a d e k t clock here f in
          let g1 = fine_choose1 a d e k t clock here f in
          let g2 = fine_choose2 a d e k t clock here f in
          fit_three takes i (row (on_clock clock) rs (Op Mux (name (At (here (First ∷ []))) ∷ name (At (here (Second ∷ []))) ∷ name (At (here (Third ∷ []))) ∷ [])) ∷ []) (flat_expr types N.outputs fill d clock sc lsc (below First here) ck rs) (flat_expr types N.outputs fill e clock sc lsc (below Second here) ck rs) (flat_expr types N.outputs fill k clock sc lsc (below Third here) ck rs) here
          (one_row takes i (on_clock clock) rs (Op Mux (name (At (here (First ∷ []))) ∷ name (At (here (Second ∷ []))) ∷ name (At (here (Third ∷ []))) ∷ [])) (At (here [])) f.site
          (λ h. (top_there d ty.Bool clock (below First here) g0 h, (top_there e t clock (below Second here) g1 h, (top_there k t clock (below Third here) g2 h, tt)))) (λ h. top_there (choose a d e k) t clock here f h))
          (expr_rows d ty.Bool clock (below First here) g0) (expr_rows e t clock (below Second here) g1) (expr_rows k t clock (below Third here) g2)
      expr_rows (pre a d) t clock here f =
          let g = fine_pre a d t clock here f in
          fit_one takes i (row (on_clock clock) rs (Register (fill (here [])) (name (At (here (First ∷ []))))) ∷ []) (flat_expr types N.outputs fill d clock sc lsc (below First here) ck rs) here
          (one_row takes i (on_clock clock) rs (Register (fill (here [])) (name (At (here (First ∷ []))))) (At (here [])) f.site (λ h. top_there d t clock (below First here) g h) (λ h. top_there (pre a d) t clock here f h))
          (expr_rows d t clock (below First here) g)
      expr_rows (fby a d e) t clock here f =
          fit_two takes i (fby_row types N.outputs fill (constant_in d) here (on_clock clock) rs ∷ []) (unless (is_some (constant_in d)) (flat_expr types N.outputs fill d clock sc lsc (below First here) ck rs)) (flat_expr types N.outputs fill e clock sc lsc (below Second here) ck rs) here
          (fby_top a d e t clock here f (constant_in d) refl)
          (fby_left d clock (below First here) (constant_in d) refl (λ q. expr_rows d t clock (below First here) (fine_fby0 a d e t clock here q f)))
          (expr_rows e t clock (below Second here) (fine_fby1 a d e t clock here f))
      expr_rows (arrow a d e) t clock here f =
          let g0 = fine_arrow0 a d e t clock here f in
          let g1 = fine_arrow1 a d e t clock here f in
          let w = on_clock clock in
          fit_two takes i (row w rs (Op Mux (name (IsFirst w rs) ∷ name (At (here (First ∷ []))) ∷ name (At (here (Second ∷ []))) ∷ [])) ∷ []) (flat_expr types N.outputs fill d clock sc lsc (below First here) ck rs) (flat_expr types N.outputs fill e clock sc lsc (below Second here) ck rs) here
          (one_row takes i w rs (Op Mux (name (IsFirst w rs) ∷ name (At (here (First ∷ []))) ∷ name (At (here (Second ∷ []))) ∷ [])) (At (here [])) f.site
          (λ h. (first_there w h, (top_there d t clock (below First here) g0 h, (top_there e t clock (below Second here) g1 h, tt)))) (λ h. top_there (arrow a d e) t clock here f h))
          (expr_rows d t clock (below First here) g0) (expr_rows e t clock (below Second here) g1)
      expr_rows (when_is a d c x) t clock here f =
          fit_one takes i (copies (on_clock clock) rs (At (here (First ∷ []))) ∷ []) (flat_expr types N.outputs fill d (without clock) sc lsc (below First here) ck rs) here
          (copy_row takes i does G (on_clock clock) rs (At (here (First ∷ []))) (At (here [])) f.site (λ h. top_there (when_is a d c x) t clock here f h) (f.says []))
          (expr_rows d t (without clock) (below First here) (fine_when a d c x t clock here f))
      expr_rows (merge a x ps) t clock here f =
          let u = some_type types (lookup s.variables x) (of_parts ps) f.ok.1.0 in
          fit_row takes i (parts_at types N.outputs fill ps x sc (below Args here) (on_clock clock) rs) (flat_parts types N.outputs fill ps x clock sc lsc (below Args here) ck rs) here
          (merge_rows ps x clock (below Args here) (At (here [])) u.0 u.1 f.is_on.0 f.tested.0 f.tested.1.0 f.site (λ h. top_there (merge a x ps) t clock here f h) (f.says []))
          (parts_rows ps x u.0 t clock (below Args here) (fine_merge a x ps t clock here f))
      expr_rows (call a f inlined es) t clock here g =
          let m = (call_typed (lookup s.nodes f) (types_in s es) t g.typed).0 in
          let k = fine_call a f inlined es t clock here g in
          call_rows a f inlined es m clock here k (exprs_rows es m.inputs clock (below Args here) k.args)

      pub exprs_rows : (es : Exprs) (ds : List Decl) (clock : Clock) (here : Prefix) → AllFine es ds clock here → PlanFits takes i (flat_exprs types N.outputs fill es clock sc lsc here ck rs) here
      exprs_rows no_expr ds clock here f = λ p. tt
      exprs_rows (more_exprs e es) [] clock here f = absurd (let k = f.typed in cc)
      exprs_rows (more_exprs e es) (d ∷ ds) clock here f =
          fit_of_two takes i (flat_expr types N.outputs fill e clock sc lsc (below Head here) ck rs) (flat_exprs types N.outputs fill es clock sc lsc (below Tail here) ck rs) here
          (expr_rows e d.ty clock (below Head here) (fine_head e es d ds clock here f)) (exprs_rows es ds clock (below Tail here) (fine_tail e es d ds clock here f))

      parts_rows : (ps : Parts) (x : List ℕ) (u t : Ty) (clock : Clock) (here : Prefix) → PartsFine ps x u t clock here → PlanFits takes i (flat_parts types N.outputs fill ps x clock sc lsc here ck rs) here
      parts_rows no_part x u t clock here f = λ p. tt
      parts_rows (more_parts c e ps) x u t clock here f =
          fit_of_two takes i (flat_expr types N.outputs fill e ((c, x) ∷ clock) sc lsc (below Head here) ck rs) (flat_parts types N.outputs fill ps x clock sc lsc (below Tail here) ck rs) here
          (expr_rows e t ((c, x) ∷ clock) (below Head here) (fine_part c e ps x u t clock here f)) (parts_rows ps x u t clock (below Tail here) (fine_parts c e ps x u t clock here f))

    -- ---- what is kept

    pub first_kept : (w : When) → SiteFits takes i w rs → KeptFits takes i (IsFirst w rs)
    first_kept w s' = one_row takes i w rs (Register (B true) (value (B false))) (IsFirst w rs) s' (λ h. tt) (λ h. first_there w h)

    pub held_kept : (v : Value) (p : Place) (w : When) → SiteFits takes i w rs → (IsTrue (holds (steps w) i) → IsTrue (is_there (i (At p)))) → (IsTrue (holds (steps w) i) → IsTrue (is_there (i (Held v p w rs)))) → KeptFits takes i (Held v p w rs)
    held_kept v p w s' f g = one_row takes i w rs (Register v (name (At p))) (Held v p w rs) s' f g

    pub no_keep : (d : Expr) (c : Const) (clock : Clock) (here : Prefix) (a : FlatName) → constant_in d ≡ Some c → OfExpr types fill d clock sc here ck rs a → ⊥
    no_keep (constant s x) c clock here a q k = k
    no_keep (variable s x) c clock here a q k = absurd (cc)
    no_keep (last_of s x) c clock here a q k = absurd (cc)
    no_keep (one s o d) c clock here a q k = absurd (cc)
    no_keep (two s o d e) c clock here a q k = absurd (cc)
    no_keep (choose s d e f) c clock here a q k = absurd (cc)
    no_keep (pre s d) c clock here a q k = absurd (cc)
    no_keep (fby s d e) c clock here a q k = absurd (cc)
    no_keep (arrow s d e) c clock here a q k = absurd (cc)
    no_keep (when_is s d x y) c clock here a q k = absurd (cc)
    no_keep (merge s x ps) c clock here a q k = absurd (cc)
    no_keep (call s f j es) c clock here a q k = absurd (cc)

    left_kept : (d : Expr) (clock : Clock) (here : Prefix) (a : FlatName) (o : Option Const) → constant_in d ≡ o → OfExpr types fill d clock sc here ck rs a → (constant_in d ≡ None → KeptFits takes i a) → KeptFits takes i a
    left_kept d clock here a None q k f = f q
    left_kept d clock here a (Some c) q k f = absurd (no_keep d c clock here a q k)

    mutual
      pub expr_kept : (e : Expr) (t : Ty) (clock : Clock) (here : Prefix) → Fine e t clock here → (a : FlatName) → OfExpr types fill e clock sc here ck rs a → KeptFits takes i a
      expr_kept (constant s c) t clock here f a k = absurd k
      expr_kept (variable s x) t clock here f a k = absurd k
      expr_kept (last_of s x) t clock here f a k = absurd k
      expr_kept (one s o d) t clock here f a k = expr_kept d (type_of_one o) clock (below First here) (fine_one s o d t clock here f) a k
      expr_kept (two s' o d e) t clock here f a (inl k) = expr_kept d (two_typed o (type_of s d) (type_of s e) t f.typed).0 clock (below First here) (fine_two0 s' o d e t clock here f) a k
      expr_kept (two s' o d e) t clock here f a (inr k) = expr_kept e (two_typed o (type_of s d) (type_of s e) t f.typed).0 clock (below Second here) (fine_two1 s' o d e t clock here f) a k
      expr_kept (choose s d e g) t clock here f a (inl k) = expr_kept d ty.Bool clock (below First here) (fine_choose0 s d e g t clock here f) a k
      expr_kept (choose s d e g) t clock here f a (inr (inl k)) = expr_kept e t clock (below Second here) (fine_choose1 s d e g t clock here f) a k
      expr_kept (choose s d e g) t clock here f a (inr (inr k)) = expr_kept g t clock (below Third here) (fine_choose2 s d e g t clock here f) a k
      expr_kept (pre s d) t clock here f a k = expr_kept d t clock (below First here) (fine_pre s d t clock here f) a k
      expr_kept (fby s d e) t clock here f a (inl (q, inl r)) = subst (λ z. KeptFits takes i z) (sym r) (first_kept (on_clock clock) f.site)
      expr_kept (fby s d e) t clock here f a (inl (q, inr r)) =
          subst (λ z. KeptFits takes i z) (sym r)
          (held_kept (fill (here [])) (here (Second ∷ [])) (on_clock clock) f.site (λ h. top_there e t clock (below Second here) (fine_fby1 s d e t clock here f) h)
          (λ h. held_there (fill (here [])) (here (Second ∷ [])) (on_clock clock) (subst (λ c. IfNone c (fill (here []))) q f.begins.0) (f.timely (Second ∷ [])).1 h))
      expr_kept (fby s d e) t clock here f a (inr (inl k)) = left_kept d clock (below First here) a (constant_in d) refl k (λ q. expr_kept d t clock (below First here) (fine_fby0 s d e t clock here q f) a k)
      expr_kept (fby s d e) t clock here f a (inr (inr k)) = expr_kept e t clock (below Second here) (fine_fby1 s d e t clock here f) a k
      expr_kept (arrow s d e) t clock here f a (inl r) = subst (λ z. KeptFits takes i z) (sym r) (first_kept (on_clock clock) f.site)
      expr_kept (arrow s d e) t clock here f a (inr (inl k)) = expr_kept d t clock (below First here) (fine_arrow0 s d e t clock here f) a k
      expr_kept (arrow s d e) t clock here f a (inr (inr k)) = expr_kept e t clock (below Second here) (fine_arrow1 s d e t clock here f) a k
      expr_kept (when_is s d c x) t clock here f a k = expr_kept d t (without clock) (below First here) (fine_when s d c x t clock here f) a k
      expr_kept (merge s' x ps) t clock here f a k = parts_kept ps x (some_type types (lookup s.variables x) (of_parts ps) f.ok.1.0).0 t clock (below Args here) (fine_merge s' x ps t clock here f) a k
      expr_kept (call s' f inlined es) t clock here g a k =
          exprs_kept es (call_typed (lookup s.nodes f) (types_in s es) t g.typed).0.inputs clock (below Args here) (fine_call s' f inlined es t clock here g).args a k

      pub exprs_kept : (es : Exprs) (ds : List Decl) (clock : Clock) (here : Prefix) → AllFine es ds clock here → (a : FlatName) → OfExprs types fill es clock sc here ck rs a → KeptFits takes i a
      exprs_kept no_expr ds clock here f a k = absurd k
      exprs_kept (more_exprs e es) [] clock here f a k = absurd (let y = f.typed in cc)
      exprs_kept (more_exprs e es) (d ∷ ds) clock here f a (inl k) = expr_kept e d.ty clock (below Head here) (fine_head e es d ds clock here f) a k
      exprs_kept (more_exprs e es) (d ∷ ds) clock here f a (inr k) = exprs_kept es ds clock (below Tail here) (fine_tail e es d ds clock here f) a k

      parts_kept : (ps : Parts) (x : List ℕ) (u t : Ty) (clock : Clock) (here : Prefix) → PartsFine ps x u t clock here → (a : FlatName) → OfParts types fill ps x clock sc here ck rs a → KeptFits takes i a
      parts_kept no_part x u t clock here f a k = absurd k
      parts_kept (more_parts c e ps) x u t clock here f a (inl k) = expr_kept e t ((c, x) ∷ clock) (below Head here) (fine_part c e ps x u t clock here f) a k
      parts_kept (more_parts c e ps) x u t clock here f a (inr k) = parts_kept ps x u t clock (below Tail here) (fine_parts c e ps x u t clock here f) a k

    -- ---- the right side of an equation

    pub record RightFine (ys : List (List ℕ × Span)) (e : Expr) (clock : Clock) (here : Prefix) : Type 0 where
      pub is_on : IsOn st e clock
      pub ok : RightOk types among s second lasts ys e
      pub tested : ExprTested types s e
      pub begins : ExprBegins fill e here
      pub known_here : KnownHere e clock here
      pub timely : Timely (expr_clocks types N.outputs e clock sc ck) here (i ∷ G)
      pub site : SiteFits takes i (on_clock clock) rs
      pub says : Good types N does fill (flat_expr types N.outputs fill e clock sc lsc here ck rs) here G i

    pub right_call : (ys : List (List ℕ × Span)) (a : Span) (f : List ℕ) (inlined : Bool) (es : Exprs) (clock : Clock) (here : Prefix) → (g : RightFine ys (call a f inlined es) clock here) → CallFine a f inlined es (row_typed (lookup s.nodes f) (types_in s es) g.ok.1.0 g.ok.1.1.0).0 clock here
    right_call ys a f inlined es clock here g =
        let y = row_typed (lookup s.nodes f) (types_in s es) g.ok.1.0 g.ok.1.1.0 in
        record {
          found = sym g.ok.0.0 ∙ y.1;
          args = record {
            typed = y.2;
            are_on = g.is_on;
            ok = g.ok.0.1;
            tested = g.tested;
            begin = g.begins;
            known_here = ((λ k. (g.known_here.0 k).1.0), λ k p. g.known_here.1 k (Args ∷ p));
            timely = λ p. g.timely (Args ∷ p);
            site = g.site;
            say = λ p. g.says (Args ∷ p);
          };
          timely = g.timely;
          says = g.says;
        }

    fine_right : (ys : List (List ℕ × Span)) (e : Expr) (t : Ty) (clock : Clock) (here : Prefix) → type_of s e ≡ Some t → ExprOk types among s second lasts e → RightFine ys e clock here → Fine e t clock here
    fine_right ys e t clock here q ok g = record { typed = q; is_on = g.is_on; ok = ok; tested = g.tested; begins = g.begins; known_here = g.known_here; timely = g.timely; site = g.site; says = g.says }

    -- an expression that is no call, or a call with its node
    by_right : (P : Type 0) (ys : List (List ℕ × Span)) (e : Expr) (clock : Clock) (here : Prefix) → RightFine ys e clock here → ((t : Ty) → Fine e t clock here → P) → ((a : Span) (f : List ℕ) (inlined : Bool) (es : Exprs) → (g : RightFine ys (call a f inlined es) clock here) → e ≡ call a f inlined es → P) → P
    by_right P ys (constant a c) clock here g f h = f g.ok.1.0 (fine_right ys (constant a c) g.ok.1.0 clock here g.ok.1.1.0 g.ok.0 g)
    by_right P ys (variable a c) clock here g f h = f g.ok.1.0 (fine_right ys (variable a c) g.ok.1.0 clock here g.ok.1.1.0 g.ok.0 g)
    by_right P ys (last_of a c) clock here g f h = f g.ok.1.0 (fine_right ys (last_of a c) g.ok.1.0 clock here g.ok.1.1.0 g.ok.0 g)
    by_right P ys (one a o c) clock here g f h = f g.ok.1.0 (fine_right ys (one a o c) g.ok.1.0 clock here g.ok.1.1.0 g.ok.0 g)
    by_right P ys (two a o b c) clock here g f h = f g.ok.1.0 (fine_right ys (two a o b c) g.ok.1.0 clock here g.ok.1.1.0 g.ok.0 g)
    by_right P ys (choose a o b c) clock here g f h = f g.ok.1.0 (fine_right ys (choose a o b c) g.ok.1.0 clock here g.ok.1.1.0 g.ok.0 g)
    by_right P ys (pre a c) clock here g f h = f g.ok.1.0 (fine_right ys (pre a c) g.ok.1.0 clock here g.ok.1.1.0 g.ok.0 g)
    by_right P ys (fby a b c) clock here g f h = f g.ok.1.0 (fine_right ys (fby a b c) g.ok.1.0 clock here g.ok.1.1.0 g.ok.0 g)
    by_right P ys (arrow a b c) clock here g f h = f g.ok.1.0 (fine_right ys (arrow a b c) g.ok.1.0 clock here g.ok.1.1.0 g.ok.0 g)
    by_right P ys (when_is a b c x) clock here g f h = f g.ok.1.0 (fine_right ys (when_is a b c x) g.ok.1.0 clock here g.ok.1.1.0 g.ok.0 g)
    by_right P ys (merge a b c) clock here g f h = f g.ok.1.0 (fine_right ys (merge a b c) g.ok.1.0 clock here g.ok.1.1.0 g.ok.0 g)
    by_right P ys (call a k inlined es) clock here g f h = h a k inlined es g refl

    pub right_rows : (ys : List (List ℕ × Span)) (e : Expr) (clock : Clock) (here : Prefix) → RightFine ys e clock here → PlanFits takes i (flat_expr types N.outputs fill e clock sc lsc here ck rs) here
    right_rows ys e clock here g =
        by_right (PlanFits takes i (flat_expr types N.outputs fill e clock sc lsc here ck rs) here) ys e clock here g (λ t f. expr_rows e t clock here f)
        (λ a f inlined es k q.
        subst (λ z. PlanFits takes i (flat_expr types N.outputs fill z clock sc lsc here ck rs) here) (sym q)
        (let m = (row_typed (lookup s.nodes f) (types_in s es) k.ok.1.0 k.ok.1.1.0).0 in
        let c = right_call ys a f inlined es clock here k in
        call_rows a f inlined es m clock here c (exprs_rows es m.inputs clock (below Args here) c.args)))

    pub right_kept : (ys : List (List ℕ × Span)) (e : Expr) (clock : Clock) (here : Prefix) → RightFine ys e clock here → (a : FlatName) → OfExpr types fill e clock sc here ck rs a → KeptFits takes i a
    right_kept ys e clock here g a k =
        by_right (OfExpr types fill e clock sc here ck rs a → KeptFits takes i a) ys e clock here g (λ t f. expr_kept e t clock here f a)
        (λ b f inlined es r q.
        subst (λ z. OfExpr types fill z clock sc here ck rs a → KeptFits takes i a) (sym q)
        (let m = (row_typed (lookup s.nodes f) (types_in s es) r.ok.1.0 r.ok.1.1.0).0 in
        exprs_kept es m.inputs clock (below Args here) (right_call ys b f inlined es clock here r).args a)) k
