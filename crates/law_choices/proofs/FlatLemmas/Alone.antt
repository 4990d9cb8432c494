-- A variable that stands for the place of a comparison, or of an output of a call, is defined by one equation.
use Rattle.std.proofs.Common.{◌≡◌, ◌⊎◌, inl, inr, ℕ, suc, ◌+◌, ◌<◌, ◌≤◌, Bool, true, false, nat_eq, ◌&&◌, ◌||◌, if◌then◌else◌, List, [], ◌∷◌, ◌++◌, length, map, Option, None, Some, refl, sym, ap, subst, ◌∙◌, arith}
use Rattle.std.specs.Prelude.{is_some}
use Rattle.std.specs.List.{AllByRecursion}
use Rattle.std.specs.Str.{bytes_eq}
use Rattle.std.proofs.lemmas.Bool.{eq-eqb}
use Rattle.std.proofs.lemmas.List.{length-append}
use Rattle.std.proofs.lemmas.Slice.Eq.{bytes_eq-Decides}
use Rattle.hp_base.specs.declared.value.Value.{Value}
use Rattle.hp_tree.specs.declared.expr.Op2.{Op2}
use Rattle.hp_tree.specs.Blocks.{Decl, Block, block, Eqns, no_eqn, more_eqns, Eqn, define, switch, reset, automaton, Arms, no_arm, more_arms}
use Rattle.hp_tree.specs.Expressions.{Expr, constant, variable, last_of, one, two, choose, pre, fby, arrow, when_is, merge, call, Exprs, no_expr, more_exprs, Parts, no_part, more_parts}
use Rattle.hp_tree.specs.Operators.{cons_of, is_comparison}
use Rattle.hp_tree.specs.Programs.{TypeDecl, Node}
use Rattle.hp_tree.specs.Instant.{Body as BodyOf, Named, Equations, Head, Tail, Right as RightOf, Test, Arms as ArmsOf, First, Second, Third, Args, Instance, Place, Clock, without}
use Rattle.hp_tree.specs.Meaning.{clock_of}
use Rattle.hp_flat.specs.Equations.{FlatEqn}
use Rattle.hp_flat.specs.Nodes.{FlatNode}
use Rattle.law_equations.specs.Flattened.Flat.{Arg, Call, Row}
use Rattle.law_equations.specs.Flattened.Flatten.{FlatName, At, Nowhere, When, always, Rows, Plan, unless, Prefix, Scope, args_at, ats, below, constant_in, flat_arms, flat_equation, flat_equations, flat_expr, flat_exprs, flat_parts, flat_scope, flatten, inside_at, is_false, lasts_at, node_scope, on, output_row, restarts_at, row, under, within_at}
use Rattle.law_equations.specs.Flattened.Lifted.{in_body}
use Rattle.law_equations.specs.Flattened.Numbered.{AreEquationsFor, AreRows, StandFor, definitions, targets_from}
use Rattle.law_equations.specs.Made.Labels.{AreMadeAt, Label, arms_labels, block_labels, compares_or_calls, comparison, eqn_labels, eqns_labels, events, expr_labels, exprs_labels, output_places, parts_labels, places_of, with_comparison, calling}
use Rattle.law_equations.specs.Meaning.Instants.{Instant, holds}
use Rattle.law_equations.specs.Meaning.Reactions.{has, is_set}
use Rattle.law_choices.specs.Flat.Places.{IsIn, AreAlone, IsOn}

-- ---- rows of places

-- one of some names
abbrev Has : List (List ℕ) → List ℕ → Type 0
Has [] o = ⊥
Has (z ∷ os) o = (z ≡ o) ⊎ Has os o

module _ (types : List TypeDecl) (outputs : List ℕ → List (List ℕ)) (fill : Place → Value) (n : Node) where
  -- one equation is made of a place
  abbrev pub IsSingle : Place → Type 0
  IsSingle p = (r : Row FlatName) × (flatten types outputs fill n (At p) ≡ Some (r ∷ []))

  abbrev pub AreSingle : List Label → Type 0
  AreSingle ls = AllByRecursion (λ (l : Label). AllByRecursion IsSingle (places_of l)) ls

  -- a part stands in the node
  abbrev Planned : Prefix → Plan Rows → Type 0
  Planned here plan = (p : Place) → flatten types outputs fill n (At (here p)) ≡ plan p

  -- an output that a node has
  row-there : (k : ℕ) (os : List (List ℕ)) (w : When) (rs : List Place) (f : List ℕ) (xs : List (Arg FlatName)) (o : List ℕ) → Has os o → (r : Row FlatName) × (output_row types outputs fill k os w rs f xs o ≡ Some (r ∷ []))
  row-there k [] w rs f xs o h = absurd h
  row-there k (z ∷ os) w rs f xs o h = by (bytes_eq z o) refl h (λ m. row-there (suc k) os w rs f xs o m)
    where
      by : (b : Bool) → bytes_eq z o ≡ b → (z ≡ o) ⊎ Has os o → (Has os o → (r : Row FlatName) × (output_row types outputs fill (suc k) os w rs f xs o ≡ Some (r ∷ [])))
          → (r : Row FlatName) × (output_row types outputs fill k (z ∷ os) w rs f xs o ≡ Some (r ∷ []))
      by true e m rest = (row w rs (Call f k xs), ap (λ (b : Bool). if b then Some (row w rs (Call f k xs) ∷ []) else output_row types outputs fill (suc k) os w rs f xs o) e)
      by false e (inl same) rest = absurd (let yes = (bytes_eq-Decides z o).1 same in let no : true ≡ false = sym yes ∙ e in cc)
      by false e (inr m) rest = let r = rest m in (r.0, ap (λ (b : Bool). if b then Some (row w rs (Call f k xs) ∷ []) else output_row types outputs fill (suc k) os w rs f xs o) e ∙ r.1)

  -- the outputs of a call
  outputs-single : (all os : List (List ℕ)) (here : Prefix) (w : When) (rs : List Place) (f : List ℕ) (xs : List (Arg FlatName)) → ((o : List ℕ) → flatten types outputs fill n (At (here (Instance ∷ Named o ∷ []))) ≡ output_row types outputs fill 0 all w rs f xs o)
      → ((o : List ℕ) → Has os o → Has all o) → AllByRecursion IsSingle (output_places os here)
  outputs-single all [] here w rs f xs plan within = tt
  outputs-single all (o ∷ os) here w rs f xs plan within =
      let r = row-there 0 all w rs f xs o (within o (inl refl)) in
      ((r.0, plan o ∙ r.1), outputs-single all os here w rs f xs plan (λ z h. within z (inr h)))

  -- a comparison, or no comparison
  compared-single : (o : Op2) (p : Place) (rest : List Label) → IsSingle p → AreSingle rest → AreSingle (with_comparison o p rest)
  compared-single o p rest s h = by (is_comparison o)
    where
      by : (b : Bool) → AreSingle (if b then comparison o p ∷ rest else rest)
      by true = ((s, tt), h)
      by false = h

  -- a part that is left out where it is a constant
  unless-single : (d : Bool) (here : Prefix) (i : Plan Rows) (xs ys : List Label) → Planned here (unless d i) → (Planned here i → AreSingle xs) → AreSingle ys → AreSingle (if d then ys else xs)
  unless-single true here i xs ys plan f h = h
  unless-single false here i xs ys plan f h = f plan

  mutual
    expr-single : (e : Expr) (clock : Clock) (sc lsc : Scope) (here : Prefix) (ck : When) (rs : List Place) (rest : List Label) → Planned here (flat_expr types outputs fill e clock sc lsc here ck rs) → AreSingle rest → AreSingle (expr_labels outputs e here rest)
    expr-single (constant s c) clock sc lsc here ck rs rest plan h = h
    expr-single (variable s x) clock sc lsc here ck rs rest plan h = h
    expr-single (last_of s x) clock sc lsc here ck rs rest plan h = h
    expr-single (one s o a) clock sc lsc here ck rs rest plan h = expr-single a clock sc lsc (below First here) ck rs rest (λ p. plan (First ∷ p)) h
    expr-single (two s o a b) clock sc lsc here ck rs rest plan h =
        expr-single a clock sc lsc (below First here) ck rs (expr_labels outputs b (below Second here) (with_comparison o (here []) rest)) (λ p. plan (First ∷ p))
        (expr-single b clock sc lsc (below Second here) ck rs (with_comparison o (here []) rest) (λ p. plan (Second ∷ p)) (compared-single o (here []) rest (_, plan []) h))
    expr-single (choose s a b c) clock sc lsc here ck rs rest plan h =
        expr-single a clock sc lsc (below First here) ck rs (expr_labels outputs b (below Second here) (expr_labels outputs c (below Third here) rest)) (λ p. plan (First ∷ p))
        (expr-single b clock sc lsc (below Second here) ck rs (expr_labels outputs c (below Third here) rest) (λ p. plan (Second ∷ p)) (expr-single c clock sc lsc (below Third here) ck rs rest (λ p. plan (Third ∷ p)) h))
    expr-single (pre s a) clock sc lsc here ck rs rest plan h = expr-single a clock sc lsc (below First here) ck rs rest (λ p. plan (First ∷ p)) h
    expr-single (fby s a b) clock sc lsc here ck rs rest plan h =
        let later = expr_labels outputs b (below Second here) rest in
        let second = expr-single b clock sc lsc (below Second here) ck rs rest (λ p. plan (Second ∷ p)) h in
        unless-single (is_some (constant_in a)) (below First here) (flat_expr types outputs fill a clock sc lsc (below First here) ck rs) (expr_labels outputs a (below First here) later) later (λ p. plan (First ∷ p))
        (λ first. expr-single a clock sc lsc (below First here) ck rs later first second) second
    expr-single (arrow s a b) clock sc lsc here ck rs rest plan h =
        expr-single a clock sc lsc (below First here) ck rs (expr_labels outputs b (below Second here) rest) (λ p. plan (First ∷ p)) (expr-single b clock sc lsc (below Second here) ck rs rest (λ p. plan (Second ∷ p)) h)
    expr-single (when_is s a c x) clock sc lsc here ck rs rest plan h = expr-single a (without clock) sc lsc (below First here) ck rs rest (λ p. plan (First ∷ p)) h
    expr-single (merge s x ps) clock sc lsc here ck rs rest plan h = parts-single ps x clock sc lsc (below Args here) ck rs rest (λ p. plan (Args ∷ p)) h
    expr-single (call s f inlined es) clock sc lsc here ck rs rest plan h =
        exprs-single es clock sc lsc (below Args here) ck rs (calling f (here []) (output_places (outputs f) here) ∷ rest) (λ p. plan (Args ∷ p))
        (outputs-single (outputs f) (outputs f) here (under types sc clock ck) rs f (args_at types outputs fill es (below Args here)) (λ o. plan (Instance ∷ Named o ∷ [])) (λ o m. m), h)

    exprs-single : (es : Exprs) (clock : Clock) (sc lsc : Scope) (here : Prefix) (ck : When) (rs : List Place) (rest : List Label) → Planned here (flat_exprs types outputs fill es clock sc lsc here ck rs) → AreSingle rest → AreSingle (exprs_labels outputs es here rest)
    exprs-single no_expr clock sc lsc here ck rs rest plan h = h
    exprs-single (more_exprs e es) clock sc lsc here ck rs rest plan h =
        expr-single e clock sc lsc (below Head here) ck rs (exprs_labels outputs es (below Tail here) rest) (λ p. plan (Head ∷ p)) (exprs-single es clock sc lsc (below Tail here) ck rs rest (λ p. plan (Tail ∷ p)) h)

    parts-single : (ps : Parts) (x : List ℕ) (clock : Clock) (sc lsc : Scope) (here : Prefix) (ck : When) (rs : List Place) (rest : List Label) → Planned here (flat_parts types outputs fill ps x clock sc lsc here ck rs) → AreSingle rest → AreSingle (parts_labels outputs ps here rest)
    parts-single no_part x clock sc lsc here ck rs rest plan h = h
    parts-single (more_parts c e ps) x clock sc lsc here ck rs rest plan h =
        expr-single e ((c, x) ∷ clock) sc lsc (below Head here) ck rs (parts_labels outputs ps (below Tail here) rest) (λ p. plan (Head ∷ p)) (parts-single ps x clock sc lsc (below Tail here) ck rs rest (λ p. plan (Tail ∷ p)) h)

  mutual
    block-single : (b : Block) (sc lsc : Scope) (here : Prefix) (ck : When) (rs : List Place) (rest : List Label) → Planned here (flat_scope types outputs fill b sc lsc here ck rs) → AreSingle rest → AreSingle (block_labels outputs b here rest)
    block-single (block ds es) sc lsc here ck rs rest plan h =
        eqns-single ds es (inside_at es sc here) (lasts_at types ds lsc here ck rs) (below Equations here) ck rs rest (λ p. plan (Equations ∷ p)) h

    eqns-single : (ds : List Decl) (es : Eqns) (sc lsc : Scope) (here : Prefix) (ck : When) (rs : List Place) (rest : List Label) → Planned here (flat_equations types outputs fill ds es sc lsc here ck rs) → AreSingle rest → AreSingle (eqns_labels outputs es here rest)
    eqns-single ds no_eqn sc lsc here ck rs rest plan h = h
    eqns-single ds (more_eqns e es) sc lsc here ck rs rest plan h =
        eqn-single ds e sc lsc (below Head here) ck rs (eqns_labels outputs es (below Tail here) rest) (λ p. plan (Head ∷ p)) (eqns-single ds es sc lsc (below Tail here) ck rs rest (λ p. plan (Tail ∷ p)) h)

    eqn-single : (ds : List Decl) (e : Eqn) (sc lsc : Scope) (here : Prefix) (ck : When) (rs : List Place) (rest : List Label) → Planned here (flat_equation types outputs fill ds e sc lsc here ck rs) → AreSingle rest → AreSingle (eqn_labels outputs e here rest)
    eqn-single ds (define s ys e) sc lsc here ck rs rest plan h = expr-single e (clock_of ds ys e) sc lsc (below RightOf here) ck rs rest (λ p. plan (RightOf ∷ p)) h
    eqn-single ds (switch s e arms) sc lsc here ck rs rest plan h =
        expr-single e [] sc lsc (below Test here) ck rs (arms_labels outputs arms (below ArmsOf here) rest) (λ p. plan (Test ∷ p))
        (arms-single arms (At (here (Test ∷ []))) (within_at (switch s e arms) sc lsc) lsc (below ArmsOf here) ck rs rest (λ p. plan (ArmsOf ∷ p)) h)
    eqn-single ds (reset s b e) sc lsc here ck rs rest plan h =
        let later = block_labels outputs b (below BodyOf here) rest in
        let second = block-single b (within_at (reset s b e) sc lsc) lsc (below BodyOf here) ck (restarts_at e here rs) rest (λ p. plan (BodyOf ∷ p)) h in
        unless-single (is_false e) (below Test here) (flat_expr types outputs fill e [] sc lsc (below Test here) ck rs) (expr_labels outputs e (below Test here) later) later (λ p. plan (Test ∷ p))
        (λ first. expr-single e [] sc lsc (below Test here) ck rs later first second) second
    eqn-single ds (automaton s ss) sc lsc here ck rs rest plan h = h

    arms-single : (arms : Arms) (test : FlatName) (sc lsc : Scope) (here : Prefix) (ck : When) (rs : List Place) (rest : List Label) → Planned here (flat_arms types outputs fill arms test sc lsc here ck rs) → AreSingle rest → AreSingle (arms_labels outputs arms here rest)
    arms-single no_arm test sc lsc here ck rs rest plan h = h
    arms-single (more_arms c b s arms) test sc lsc here ck rs rest plan h =
        block-single b sc lsc (below Head here) (on (cons_of types c) test ck) rs (arms_labels outputs arms (below Tail here) rest) (λ p. plan (Head ∷ p)) (arms-single arms test sc lsc (below Tail here) ck rs rest (λ p. plan (Tail ∷ p)) h)

  -- so it is of all comparisons and calls of the body
  body-single : AreSingle (block_labels outputs n.body in_body [])
  body-single = block-single n.body (node_scope n) (lasts_at types n.outputs (λ x. Nowhere) in_body always []) in_body always [] [] (λ p. refl) tt

-- ---- definitions of a variable

-- a target counts
target-counts : (k : ℕ) (ys : List ℕ) (e : FlatEqn) (x : ℕ) → has ys x ≡ true → 1 ≤ length (targets_from k ys e x)
target-counts k [] e x h = absurd cc
target-counts k (y ∷ ys) e x h = by (nat_eq y x) h (λ m. target-counts (suc k) ys e x m)
  where
    by : (b : Bool) → (b || has ys x) ≡ true → (has ys x ≡ true → 1 ≤ length (targets_from (suc k) ys e x)) → 1 ≤ length (if b then (e, k) ∷ targets_from (suc k) ys e x else targets_from (suc k) ys e x)
    by true h rest = omega arith
    by false h rest = rest h

target-defines : (es : List FlatEqn) (e : FlatEqn) (x : ℕ) → IsIn es e → has e.targets x ≡ true → 1 ≤ length (definitions es x)
target-defines [] e x i h = absurd i
target-defines (d ∷ es) e x (inl same) h =
    let a = target-counts 0 d.targets d x (subst (λ (q : FlatEqn). has q.targets x ≡ true) same h) in
    let l = length-append (targets_from 0 d.targets d x) (definitions es x) in
    omega (arith, a, l)
target-defines (d ∷ es) e x (inr i) h =
    let a = target-defines es e x i h in
    let l = length-append (targets_from 0 d.targets d x) (definitions es x) in
    omega (arith, a, l)

-- what has no definition is no target
none-on : (es : List FlatEqn) (c : List (ℕ × ℕ)) (x : ℕ) → length (definitions es x) ≡ 0 → IsOn x c es
none-on [] c x h = tt
none-on (d ∷ es) c x h =
    let l = length-append (targets_from 0 d.targets d x) (definitions es x) in
    ((λ t. absurd (let a = target-counts 0 d.targets d x t in omega (arith, a, l, h))), none-on es c x (omega (arith, l, h)))

-- what has one is a target on its clock alone
one-on : (es : List FlatEqn) (e : FlatEqn) (x : ℕ) → IsIn es e → has e.targets x ≡ true → length (definitions es x) ≡ 1 → IsOn x e.clock es
one-on [] e x i h l = absurd i
one-on (d ∷ es) e x (inl same) h l =
    let a = target-counts 0 d.targets d x (subst (λ (q : FlatEqn). has q.targets x ≡ true) same h) in
    let m = length-append (targets_from 0 d.targets d x) (definitions es x) in
    ((λ t. ap (λ (q : FlatEqn). q.clock) (sym same)), none-on es e.clock x (omega (arith, a, l, m)))
one-on (d ∷ es) e x (inr i) h l =
    let a = target-defines es e x i h in
    let m = length-append (targets_from 0 d.targets d x) (definitions es x) in
    ((λ t. absurd (let b = target-counts 0 d.targets d x t in omega (arith, a, b, l, m))), one-on es e x i h (omega (arith, a, l, m)))

-- ---- the equations that compare or call

-- one that is among them is one of all
among-events : (es : List FlatEqn) (e : FlatEqn) → IsIn (events es) e → IsIn es e
among-events [] e i = absurd i
among-events (d ∷ es) e i = by (compares_or_calls d.right) i (among-events es e)
  where
    by : (b : Bool) → IsIn (if b then d ∷ events es else events es) e → (IsIn (events es) e → IsIn es e) → IsIn (d ∷ es) e
    by true (inl same) rest = inl same
    by true (inr i) rest = inr (rest i)
    by false i rest = inr (rest i)

module _ (types : List TypeDecl) (outputs : List ℕ → List (List ℕ)) (fill : Place → Value) (n : Node) (means : ℕ → FlatName) (names : List (List ℕ)) (count : List ℕ → ℕ) (f : FlatNode) (eqs : AreEquationsFor means (flatten types outputs fill n) names count f) where
  -- a variable of a place of which one equation is made has one definition
  one-definition : (x : ℕ) (p : Place) → f.inputs ≤ x → means x ≡ At p → IsSingle types outputs fill n p → length (definitions f.eqns x) ≡ 1
  one-definition x p l is single =
      long (definitions f.eqns x) (single.0)
      (subst (λ rows. StandFor means (definitions f.eqns x) (At p) rows) single.1 (subst (λ a. StandFor means (definitions f.eqns x) a (flatten types outputs fill n a)) is (eqs.variables x l)))
    where
      long : (ds : List (FlatEqn × ℕ)) (r : Row FlatName) → AreRows means ds (r ∷ []) → length ds ≡ 1
      long [] r h = absurd h
      long (d ∷ []) r h = refl
      long (d ∷ u ∷ ds) r h = absurd h.1

  -- a target of an equation is no input
  behind-inputs : (es : List FlatEqn) (e : FlatEqn) → AllByRecursion (λ (q : FlatEqn). AllByRecursion (λ x. f.inputs ≤ x) q.targets) es → IsIn es e → AllByRecursion (λ x. f.inputs ≤ x) e.targets
  behind-inputs [] e h i = absurd i
  behind-inputs (d ∷ es) e h (inl same) = subst (λ (q : FlatEqn). AllByRecursion (λ x. f.inputs ≤ x) q.targets) (sym same) h.0
  behind-inputs (d ∷ es) e h (inr i) = behind-inputs es e h.1 i

  abbrev Here : FlatEqn → Type 0
  Here e = AllByRecursion (λ x. IsOn x e.clock f.eqns) e.targets

  targets-alone : (e : FlatEqn) → IsIn f.eqns e → (xs : List ℕ) (ps : List Place) → map means xs ≡ ats ps → ((x : ℕ) → has xs x ≡ true → has e.targets x ≡ true) → AllByRecursion (λ x. f.inputs ≤ x) xs → AllByRecursion (IsSingle types outputs fill n) ps → AllByRecursion (λ x. IsOn x e.clock f.eqns) xs
  targets-alone e i [] ps same within l single = tt
  targets-alone e i (x ∷ xs) [] same within l single = absurd cc
  targets-alone e i (x ∷ xs) (p ∷ ps) same within l single =
      let first : means x ≡ At p = cc in
      let others : map means xs ≡ ats ps = cc in
      (one-on f.eqns e x i (within x (own x xs)) (one-definition x p l.0 first single.0), targets-alone e i xs ps others (λ y h. within y (more x y xs h)) l.1 single.1)
    where
      own : (x : ℕ) (xs : List ℕ) → has (x ∷ xs) x ≡ true
      own x xs = ap (λ b. b || has xs x) (eq-eqb x x refl)

      more : (x y : ℕ) (xs : List ℕ) → has xs y ≡ true → has (x ∷ xs) y ≡ true
      more x y xs h = by (nat_eq x y)
        where
          by : (b : Bool) → (b || has xs y) ≡ true
          by true = refl
          by false = h

  each-alone : (es : List FlatEqn) (ls : List Label) → ((e : FlatEqn) → IsIn es e → IsIn f.eqns e) → AreMadeAt means es ls → AreSingle types outputs fill n ls → AllByRecursion Here es
  each-alone [] ls within made single = tt
  each-alone (e ∷ es) [] within made single = absurd made
  each-alone (e ∷ es) (l ∷ ls) within made single =
      let i = within e (inl refl) in
      (targets-alone e i e.targets (places_of l) (made.0).targets (λ x h. h) (behind-inputs f.eqns e eqs.no_inputs i) single.0, each-alone es ls (λ q j. within q (inr j)) made.1 single.1)

  -- So it is of each equation that compares or calls.
  pub events-alone : AreMadeAt means (events f.eqns) (block_labels outputs n.body in_body []) → AreAlone f
  events-alone labelled = each-alone (events f.eqns) (block_labels outputs n.body in_body []) (λ e i. among-events f.eqns e i) labelled (body-single types outputs fill n)

-- where the clock does not hold, nothing sets it
pub off-unset : (x : ℕ) (c : List (ℕ × ℕ)) (es : List FlatEqn) (now : Instant) → IsOn x c es → holds c now ≡ false → is_set es now x ≡ false
off-unset x c [] now h off = refl
off-unset x c (e ∷ es) now h off = by (holds e.clock now) (has e.targets x) refl refl (off-unset x c es now h.1 off)
  where
    by : (p q : Bool) → holds e.clock now ≡ p → has e.targets x ≡ q → is_set es now x ≡ false → (holds e.clock now && has e.targets x) || is_set es now x ≡ false
    by false q f g rest = ap (λ b. (b && has e.targets x) || is_set es now x) f ∙ rest
    by true false f g rest = ap (λ b. (b && has e.targets x) || is_set es now x) f ∙ ap (λ b. b || is_set es now x) g ∙ rest
    by true true f g rest = absurd (let z : true ≡ false = sym f ∙ ap (λ d. holds d now) (h.0 g) ∙ off in cc)
