-- What a node keeps is what it remembers.
use Rattle.std.proofs.Common.{◌≡◌, ◌⊎◌, inl, inr, ℕ, List, [], ◌∷◌, refl, ap, ◌∙◌}
use Rattle.std.specs.Prelude.{Bool, true, false, ◌||◌, if◌then◌else◌, Option, None, Some}
use Rattle.std.specs.Str.{bytes_eq}
use Rattle.std.proofs.lemmas.Slice.Eq.{bytes_eq-Decides}
use Rattle.hp_base.specs.declared.ty.Const.{Const}
use Rattle.hp_base.specs.declared.value.Value.{Value}
use Rattle.hp_tree.specs.Expressions.{Expr, constant, variable, last_of, one, two, choose, pre, fby, arrow, when_is, merge, call, Exprs, no_expr, more_exprs, Parts, no_part, more_parts}
use Rattle.hp_tree.specs.Blocks.{Decl, Block, block, Eqns, no_eqn, more_eqns, Eqn, define, switch, reset, automaton, Arms, no_arm, more_arms}
use Rattle.hp_tree.specs.Programs.{TypeDecl}
use Rattle.hp_tree.specs.Operators.{cons_of, constant_of}
use Rattle.hp_tree.specs.Instant.{Named, Equations, Head, Tail, Right as RightOf, Test, Arms as ArmsOf, Body, First, Second, Third, Args, Place, Clock, without}
use Rattle.hp_tree.specs.Meaning.{declares, clock_of}
use Rattle.law_equations.specs.Flattened.Flatten.{FlatName, At, IsFirst, Held, When, always, on, constant_in, Prefix, below, Scope, inside_at, within_at, restarts_at, lasts_at, under, node_scope}
use Rattle.law_equations.specs.Flattened.Lifted.{in_body, node_lasts}
use Rattle.law_equations.specs.Made.Blocks.{DeclaredOnce, IsPlain, ArePlain, OnePlain, ArmsPlain}
use Rattle.law_equations.specs.Made.Keeping.{LastKept, LastsKept, FbyKeeps, ExprKeeps, ExprsKeep, PartsKeep, BlockKeeps, EqnsKeep, EqnKeeps, ArmsKeep}
use Rattle.law_wellmade.specs.Timely.Kept.{last_in, OfLasts, OfExpr, OfExprs, OfParts, OfBlock, OfEqns, OfEqn, OfArms, IsRemembered}
use Rattle.law_wellmade.specs.Timely.Laws.{KeepsLaw}

-- a declaration that is among some, each of which is declared once, is found by its name
abbrev Among : Decl → List Decl → Type 0
Among d [] = ⊥
Among d (e ∷ ds) = (e ≡ d) ⊎ Among d ds

among_declared : (d : Decl) (ds : List Decl) → Among d ds → declares ds d.name ≡ true
among_declared d [] h = absurd h
among_declared d (e ∷ ds) (inl q) = ap (λ b. b || declares ds d.name) (ap (λ (z : Decl). bytes_eq z.name d.name) q ∙ (bytes_eq-Decides d.name d.name).1 refl)
among_declared d (e ∷ ds) (inr h) = by (bytes_eq e.name d.name) (among_declared d ds h)
  where
    by : (b : Bool) → declares ds d.name ≡ true → (b || declares ds d.name) ≡ true
    by true q = refl
    by false q = q

found : (d : Decl) (ds : List Decl) → DeclaredOnce ds → Among d ds → last_in ds d.name ≡ d.last
found d [] o h = absurd h
found d (e ∷ ds) o (inl q) =
    ap (λ b. if b then e.last else last_in ds d.name) (ap (λ (z : Decl). bytes_eq z.name d.name) q ∙ (bytes_eq-Decides d.name d.name).1 refl) ∙ ap (λ (z : Decl). z.last) q
found d (e ∷ ds) o (inr h) = by (bytes_eq e.name d.name) refl (found d ds o.1 h)
  where
    by : (b : Bool) → bytes_eq e.name d.name ≡ b → last_in ds d.name ≡ d.last → (if b then e.last else last_in ds d.name) ≡ d.last
    by true q r =
        let same : declares ds e.name ≡ declares ds d.name = ap (λ x. declares ds x) ((bytes_eq-Decides e.name d.name).0 q) in
        let no = o.0 in
        let yes = among_declared d ds h in
        absurd (cc)
    by false q r = r

module _ (K : FlatName → Type 0) (types : List TypeDecl) (fill : Place → Value) where
  keeps_lasts : (all ds : List Decl) (here : Prefix) (ck : When) (rs : List Place) → DeclaredOnce all → ((d : Decl) → Among d ds → Among d all) → ((a : FlatName) → OfLasts types fill all here ck rs a → K a) → LastsKept K types ds here ck rs
  keeps_lasts all [] here ck rs o inc f = tt
  keeps_lasts all (d ∷ ds) here ck rs o inc f = (by d.last (found d all o (inc d (inl refl))), keeps_lasts all ds here ck rs o (λ e h. inc e (inr h)) f)
    where
      by : (c : Option Const) → last_in all d.name ≡ c → LastKept K types c d.name here ck rs
      by None q = tt
      by (Some c) q = f (Held (constant_of types c) (here (Named d.name ∷ [])) ck rs) (d.name, c, q, refl)

  by_constant : (o : Option Const) (here : Prefix) (w : When) (rs : List Place) (A G : Type 0) → (o ≡ None → K (IsFirst w rs)) → (o ≡ None → K (Held (fill (here [])) (here (Second ∷ [])) w rs)) → A → G → FbyKeeps K types fill o here w rs A G
  by_constant None here w rs A G f g a b = (f refl, g refl, a, b)
  by_constant (Some c) here w rs A G f g a b = b

  mutual
    keeps_expr : (e : Expr) (clock : Clock) (sc : Scope) (here : Prefix) (ck : When) (rs : List Place) → ((a : FlatName) → OfExpr types fill e clock sc here ck rs a → K a) → ExprKeeps K types fill e clock sc here ck rs
    keeps_expr (constant s c) clock sc here ck rs f = tt
    keeps_expr (variable s x) clock sc here ck rs f = tt
    keeps_expr (last_of s x) clock sc here ck rs f = tt
    keeps_expr (one s o d) clock sc here ck rs f = keeps_expr d clock sc (below First here) ck rs f
    keeps_expr (two s o d e) clock sc here ck rs f = (keeps_expr d clock sc (below First here) ck rs (λ a h. f a (inl h)), keeps_expr e clock sc (below Second here) ck rs (λ a h. f a (inr h)))
    keeps_expr (choose s d e g) clock sc here ck rs f = (
      keeps_expr d clock sc (below First here) ck rs (λ a h. f a (inl h)),
      keeps_expr e clock sc (below Second here) ck rs (λ a h. f a (inr (inl h))),
      keeps_expr g clock sc (below Third here) ck rs (λ a h. f a (inr (inr h))),
    )
    keeps_expr (pre s d) clock sc here ck rs f = keeps_expr d clock sc (below First here) ck rs f
    keeps_expr (fby s d e) clock sc here ck rs f =
        by_constant (constant_in d) here (under types sc clock ck) rs (ExprKeeps K types fill d clock sc (below First here) ck rs) (ExprKeeps K types fill e clock sc (below Second here) ck rs)
        (λ n. f (IsFirst (under types sc clock ck) rs) (inl (n, inl refl)))
        (λ n. f (Held (fill (here [])) (here (Second ∷ [])) (under types sc clock ck) rs) (inl (n, inr refl)))
        (keeps_expr d clock sc (below First here) ck rs (λ a h. f a (inr (inl h))))
        (keeps_expr e clock sc (below Second here) ck rs (λ a h. f a (inr (inr h))))
    keeps_expr (arrow s d e) clock sc here ck rs f = (
      f (IsFirst (under types sc clock ck) rs) (inl refl),
      keeps_expr d clock sc (below First here) ck rs (λ a h. f a (inr (inl h))),
      keeps_expr e clock sc (below Second here) ck rs (λ a h. f a (inr (inr h))),
    )
    keeps_expr (when_is s d c x) clock sc here ck rs f = keeps_expr d (without clock) sc (below First here) ck rs f
    keeps_expr (merge s x ps) clock sc here ck rs f = keeps_parts ps x clock sc (below Args here) ck rs f
    keeps_expr (call s g inlined es) clock sc here ck rs f = keeps_exprs es clock sc (below Args here) ck rs f

    keeps_exprs : (es : Exprs) (clock : Clock) (sc : Scope) (here : Prefix) (ck : When) (rs : List Place) → ((a : FlatName) → OfExprs types fill es clock sc here ck rs a → K a) → ExprsKeep K types fill es clock sc here ck rs
    keeps_exprs no_expr clock sc here ck rs f = tt
    keeps_exprs (more_exprs e es) clock sc here ck rs f = (keeps_expr e clock sc (below Head here) ck rs (λ a h. f a (inl h)), keeps_exprs es clock sc (below Tail here) ck rs (λ a h. f a (inr h)))

    keeps_parts : (ps : Parts) (x : List ℕ) (clock : Clock) (sc : Scope) (here : Prefix) (ck : When) (rs : List Place) → ((a : FlatName) → OfParts types fill ps x clock sc here ck rs a → K a) → PartsKeep K types fill ps x clock sc here ck rs
    keeps_parts no_part x clock sc here ck rs f = tt
    keeps_parts (more_parts c e ps) x clock sc here ck rs f = (keeps_expr e ((c, x) ∷ clock) sc (below Head here) ck rs (λ a h. f a (inl h)), keeps_parts ps x clock sc (below Tail here) ck rs (λ a h. f a (inr h)))

  mutual
    keeps_block : (b : Block) (sc lsc : Scope) (here : Prefix) (ck : When) (rs : List Place) → IsPlain b → ((a : FlatName) → OfBlock types fill b sc lsc here ck rs a → K a) → BlockKeeps K types fill b sc lsc here ck rs
    keeps_block (block ds es) sc lsc here ck rs o f = (
      keeps_lasts ds ds here ck rs o.0 (λ d h. h) (λ a h. f a (inl h)),
      keeps_eqns ds es (inside_at es sc here) (lasts_at types ds lsc here ck rs) (below Equations here) ck rs o.2 (λ a h. f a (inr h)),
    )

    keeps_eqns : (ds : List Decl) (es : Eqns) (sc lsc : Scope) (here : Prefix) (ck : When) (rs : List Place) → ArePlain es → ((a : FlatName) → OfEqns types fill ds es sc lsc here ck rs a → K a) → EqnsKeep K types fill ds es sc lsc here ck rs
    keeps_eqns ds no_eqn sc lsc here ck rs o f = tt
    keeps_eqns ds (more_eqns e es) sc lsc here ck rs o f = (keeps_eqn ds e sc lsc (below Head here) ck rs o.1.0 (λ a h. f a (inl h)), keeps_eqns ds es sc lsc (below Tail here) ck rs o.1.1 (λ a h. f a (inr h)))

    keeps_eqn : (ds : List Decl) (e : Eqn) (sc lsc : Scope) (here : Prefix) (ck : When) (rs : List Place) → OnePlain e → ((a : FlatName) → OfEqn types fill ds e sc lsc here ck rs a → K a) → EqnKeeps K types fill ds e sc lsc here ck rs
    keeps_eqn ds (define s ys e) sc lsc here ck rs o f = keeps_expr e (clock_of ds ys e) sc (below RightOf here) ck rs f
    keeps_eqn ds (switch s e arms) sc lsc here ck rs o f = (
      keeps_expr e [] sc (below Test here) ck rs (λ a h. f a (inl h)),
      keeps_arms arms (At (here (Test ∷ []))) (within_at (switch s e arms) sc lsc) lsc (below ArmsOf here) ck rs o (λ a h. f a (inr h)),
    )
    keeps_eqn ds (reset s b e) sc lsc here ck rs o f = (
      keeps_expr e [] sc (below Test here) ck rs (λ a h. f a (inl h)),
      keeps_block b (within_at (reset s b e) sc lsc) lsc (below Body here) ck (restarts_at e here rs) o (λ a h. f a (inr h)),
    )
    keeps_eqn ds (automaton s ss) sc lsc here ck rs o f = tt

    keeps_arms : (arms : Arms) (test : FlatName) (sc lsc : Scope) (here : Prefix) (ck : When) (rs : List Place) → ArmsPlain arms → ((a : FlatName) → OfArms types fill arms test sc lsc here ck rs a → K a) → ArmsKeep K types fill arms test sc lsc here ck rs
    keeps_arms no_arm test sc lsc here ck rs o f = tt
    keeps_arms (more_arms c b s arms) test sc lsc here ck rs o f = (
      keeps_block b sc lsc (below Head here) (on (cons_of types c) test ck) rs o.0 (λ a h. f a (inl h)),
      keeps_arms arms test sc lsc (below Tail here) ck rs o.1 (λ a h. f a (inr h)),
    )

pub keeps : KeepsLaw
keeps types fill n plain once =
    let K = λ (a : FlatName). IsRemembered types fill n a in (
      keeps_lasts K types fill n.outputs n.outputs in_body always [] once (λ d h. h) (λ a h. inl h),
      keeps_block K types fill n.body (node_scope n) (node_lasts types n) in_body always [] plain (λ a h. inr h),
    )
