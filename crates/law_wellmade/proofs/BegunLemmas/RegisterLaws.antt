-- What is given at each register of an expression is the first value of the type of its variable.
use Rattle.std.proofs.Common.{◌≡◌, ℕ, List, [], ◌∷◌, sym, ap, subst, ◌∙◌}
use Rattle.std.specs.Prelude.{Option, None, Some}
use Rattle.hp_base.specs.declared.span.Span.{Span}
use Rattle.hp_base.specs.declared.value.Value.{Value}
use Rattle.hp_base.specs.declared.ty.Ty.{Ty}
use Rattle.hp_base.specs.declared.ty.Ty.TheVariants as ty
use Rattle.hp_base.specs.declared.ty.Const.{Const}
use Rattle.hp_tree.specs.Expressions.{Expr, constant, variable, last_of, one, two, choose, pre, fby, arrow, when_is, merge, call, Exprs, no_expr, more_exprs, Parts, no_part, more_parts}
use Rattle.hp_tree.specs.Blocks.{Decl}
use Rattle.hp_tree.specs.Programs.{TypeDecl, Node}
use Rattle.hp_tree.specs.Instant.{First, Second, Third, Args, Head, Tail, Place, Instant, in_row}
use Rattle.hp_base.specs.Known.Known.{lookup}
use Rattle.hp_typing.specs.Types.{type_of, types_in, type_of_one}
use Rattle.law_judged.specs.Typed.Scopes.{Scope}
use Rattle.law_values.specs.Valued.Judged.{Lasts, RightSound}
use Rattle.law_values.proofs.ValuedLemmas.Typed.{one_typed, two_typed, if_typed, pair_typed, when_typed, call_typed, row_typed, PartsHave, merge_typed}
use Rattle.law_equations.specs.Flattened.Flatten.{Prefix, below, constant_in}
use Rattle.law_equations.specs.Made.Making.{Known, Sketch, Site, Sight, type_at, flat_type, first_value, cons_number, outputs_of, on_site, off_site, tested, part_at, sketch_expr}
use Rattle.law_equations.specs.Made.Standing.{HasOne, ByConstant, Ready, ReadyParts, ReadyAll, ReadyRight}
use Rattle.law_wellmade.specs.Begun.Firsts.{first_of, expr_firsts, exprs_firsts, parts_firsts}
use Rattle.law_wellmade.proofs.BegunLemmas.Keeping.{type_is}
use Rattle.law_wellmade.proofs.BegunLemmas.Typing.{Grounded, SeesTypes, ExprsHave, args_have, call_outputs, typed}

-- what is given at the places of a part are these values
abbrev pub Gives : (Place → Value) → Prefix → Instant → Type 0
Gives fill here i = (p : Place) → fill (here p) ≡ i p

either_constant : (o : Option Const) (A G : Type 0) → A → G → ByConstant o A G
either_constant None A G a g = a
either_constant (Some c) A G a g = g

module _ (k : Known) (callee : List ℕ → Instant) (fill : Place → Value) (s : Scope) (see : Sight) (ground : Grounded k s) (sees : SeesTypes k s see) where
  -- the first value of the type of an expression, and that of its variable
  first_is : (e : Expr) (t : Ty) (at : Site) (d : Sketch) (v : Value) → type_of s e ≡ Some t → v ≡ first_of k (type_of s e) → v ≡ first_value (type_at (sketch_expr k see at e d).0 (sketch_expr k see at e d).1)
  first_is e t at d v h g =
      g ∙ ap (λ o. first_of k o) h ∙ ap (λ u. first_value u) (sym (type_is (sketch_expr k see at e d).0 (sketch_expr k see at e d).1 (flat_type k.types t) (typed k s see ground sees e t at d h)))

  has_one : (os : List Decl) (d : Decl) → os ≡ d ∷ [] → HasOne os
  has_one os d e = subst HasOne (sym e) tt

  mutual
    pub ready : (e : Expr) (t : Ty) (at : Site) (here : Prefix) (d : Sketch) → type_of s e ≡ Some t → Gives fill here (expr_firsts k callee s e) → Ready k fill see at e here d
    ready (constant a c) t at here d h g = tt
    ready (variable a x) t at here d h g = tt
    ready (last_of a x) t at here d h g = tt
    ready (one a o b) t at here d h g = ready b (type_of_one o) at (below First here) d (one_typed (type_of_one o) (type_of s b) t h).0 (λ p. g (First ∷ p))
    ready (two a o b c) t at here d h g =
        let q = two_typed o (type_of s b) (type_of s c) t h in
        (ready b q.0 at (below First here) d q.2 (λ p. g (First ∷ p)), ready c q.0 at (below Second here) (sketch_expr k see at b d).0 q.3 (λ p. g (Second ∷ p)))
    ready (choose a b c e) t at here d h g =
        let x = sketch_expr k see at b d in
        let q = if_typed (type_of s b) (type_of s c) (type_of s e) t h in
        (ready b ty.Bool at (below First here) d q.0 (λ p. g (First ∷ p)), ready c t at (below Second here) x.0 q.1 (λ p. g (Second ∷ p)), ready e t at (below Third here) (sketch_expr k see at c x.0).0 q.2 (λ p. g (Third ∷ p)))
    ready (pre a b) t at here d h g = (first_is b t at d (fill (here [])) h (g []), ready b t at (below First here) d h (λ p. g (First ∷ p)))
    ready (fby a b c) t at here d h g =
        let x = sketch_expr k see at b d in
        let q = pair_typed (type_of s b) (type_of s c) t h in
        either_constant (constant_in b) _ _
        (ready b t at (below First here) d q.0 (λ p. g (First ∷ p)), ready c t at (below Second here) x.0 q.1 (λ p. g (Second ∷ p)), first_is c t at x.0 (fill (here [])) q.1 (g []))
        (ready c t at (below Second here) d q.1 (λ p. g (Second ∷ p)))
    ready (arrow a b c) t at here d h g =
        let q = pair_typed (type_of s b) (type_of s c) t h in
        (ready b t at (below First here) d q.0 (λ p. g (First ∷ p)), ready c t at (below Second here) (sketch_expr k see at b d).0 q.1 (λ p. g (Second ∷ p)))
    ready (when_is a b c x) t at here d h g = ready b t (off_site at) (below First here) d (when_typed _ _ t h) (λ p. g (First ∷ p))
    ready (merge a x ps) t at here d h g =
        let v = tested (see x).value d in
        ready_parts ps t at v.1 None (below Args here) v.0 (merge_typed s (lookup s.variables x) ps t h) (λ p. g (Args ∷ p))
    ready (call a f i es) t at here d h g =
        let q = call_outputs (lookup s.nodes f) (types_in s es) t h in
        let w = call_typed (lookup s.nodes f) (types_in s es) t h in
        (has_one (outputs_of (k.nodes f)) q.2.0 (ap outputs_of (ground.nodes f q.0 q.1) ∙ q.2.1), ready_all es at (below Args here) d (args_have s w.0.inputs es w.2) (λ p. g (Args ∷ p)))

    ready_parts : (ps : Parts) (t : Ty) (at : Site) (v : ℕ) (merged : Option ℕ) (here : Prefix) (d : Sketch) → PartsHave s t ps → Gives fill here (in_row (parts_firsts k callee s ps)) → ReadyParts k fill see at v merged ps here d
    ready_parts no_part t at v merged here d h g = tt
    ready_parts (more_parts c e ps) t at v merged here d h g =
        let on = on_site at v (cons_number k c) in
        let m = part_at on merged (sketch_expr k see on e d) in
        (ready e t on (below Head here) d h.0 (λ p. g (Head ∷ p)), ready_parts ps t at v (Some m.1) (below Tail here) m.0 h.1 (λ p. g (Tail ∷ p)))

    pub ready_all : (es : Exprs) (at : Site) (here : Prefix) (d : Sketch) → ExprsHave s es → Gives fill here (in_row (exprs_firsts k callee s es)) → ReadyAll k fill see at es here d
    ready_all no_expr at here d h g = tt
    ready_all (more_exprs e es) at here d h g =
        (ready e h.0.0 at (below Head here) d h.0.1 (λ p. g (Head ∷ p)), ready_all es at (below Tail here) (sketch_expr k see at e d).0 h.1 (λ p. g (Tail ∷ p)))

  module _ (types : List TypeDecl) (among : List ℕ → Option Node) (lasts : Lasts) where
    pub ready_right : (ys : List (List ℕ × Span)) (e : Expr) (at : Site) (here : Prefix) (d : Sketch) → RightSound types among s lasts ys e → Gives fill here (expr_firsts k callee s e) → ReadyRight k fill see at e here d
    ready_right ys (constant a c) at here d ok g = tt
    ready_right ys (variable a x) at here d ok g = tt
    ready_right ys (last_of a x) at here d ok g = tt
    ready_right ys (one a o b) at here d ok g = ready (one a o b) ok.1.0 at here d ok.1.1.0 g
    ready_right ys (two a o b c) at here d ok g = ready (two a o b c) ok.1.0 at here d ok.1.1.0 g
    ready_right ys (choose a b c e) at here d ok g = ready (choose a b c e) ok.1.0 at here d ok.1.1.0 g
    ready_right ys (pre a b) at here d ok g = ready (pre a b) ok.1.0 at here d ok.1.1.0 g
    ready_right ys (fby a b c) at here d ok g = ready (fby a b c) ok.1.0 at here d ok.1.1.0 g
    ready_right ys (arrow a b c) at here d ok g = ready (arrow a b c) ok.1.0 at here d ok.1.1.0 g
    ready_right ys (when_is a b c x) at here d ok g = ready (when_is a b c x) ok.1.0 at here d ok.1.1.0 g
    ready_right ys (merge a x ps) at here d ok g = ready (merge a x ps) ok.1.0 at here d ok.1.1.0 g
    ready_right ys (call a f i es) at here d ok g =
        let q = row_typed (lookup s.nodes f) (types_in s es) ok.1.0 ok.1.1.0 in
        ready_all es at (below Args here) d (args_have s q.0.inputs es q.2) (λ p. g (Args ∷ p))
