-- What is made of a definition stands for the rows of its names.
use Rattle.std.proofs.Common.{◌≡◌, ℕ, ◌+◌, ◌<◌, Bool, true, false, ◌||◌, if◌then◌else◌, List, [], ◌∷◌, ◌++◌, length, map, reverse, Option, None, Some, refl, sym, ap, subst, ◌∙◌, arith}
use Rattle.std.specs.Prelude.{⊤}
use Rattle.std.specs.Str.{bytes_eq}
use Rattle.std.proofs.lemmas.Slice.Eq.{bytes_eq-Decides}
use Rattle.std.proofs.lemmas.List.{length-append}
use Rattle.hp_base.specs.declared.span.Span.{Span}
use Rattle.hp_base.specs.declared.value.Value.{Value}
use Rattle.hp_tree.specs.declared.decl.Cons.{Cons}
use Rattle.hp_tree.specs.Expressions.{Expr, constant, variable, last_of, one, two, choose, pre, fby, arrow, when_is, merge, call, Exprs}
use Rattle.hp_tree.specs.Blocks.{Decl}
use Rattle.hp_tree.specs.Programs.{TypeDecl}
use Rattle.hp_tree.specs.Operators.{cons_of}
use Rattle.hp_tree.specs.Instant.{Named, Right as RightOf, Args, Instance, Place, Clock}
use Rattle.hp_tree.specs.Meaning.{is_among, clock_of}
use Rattle.law_equations.specs.Flattened.Flatten.{FlatName, At, Nowhere, When, on, Rows, copies, Prefix, below, Scope, under, args_at, output_at, right_at, flat_expr}
use Rattle.law_equations.specs.Made.Labels.{expr_labels}
use Rattle.law_equations.specs.Made.Making.{Known, Sketch, Site, Sight, next, tested, on_site, cons_number, outputs_of, called_at, sketch_expr, sketch_exprs, enter_path, path_for, bind, bind_all, bind_outputs, output_left, others, sketch_right, sketch_definition}
use Rattle.law_equations.specs.Made.Keeping.{ExprKeeps, ExprsKeep}
use Rattle.law_equations.specs.Made.Standing.{Knows, Agrees, IsNamed, IsAt, IsFlagged, IsBounded, Steps, IsMade, Promises, Promised, Remembers, Ready, ReadyAll, ReadyRight, EqnsMade, AreApart, AreThere}
use Rattle.law_equations.proofs.MadeLemmas.BindLaws.{Binding, binds, takes, TakesOnce, AllNamed, binds-made}
use Rattle.law_equations.proofs.MadeLemmas.BlockSteps.{steps-first}
use Rattle.law_equations.proofs.MadeLemmas.CallLaws.{output_names}
use Rattle.law_equations.proofs.MadeLemmas.ClockLaws.{clock-path, under-path, path-length}
use Rattle.law_equations.proofs.MadeLemmas.ExpressionLaws.{Owns, Starts, ArgsMade, expr-made, args-made, call_made}
use Rattle.law_equations.proofs.MadeLemmas.LabelLaws.{labelled-both, all-labelled, outputs-labelled}
use Rattle.law_equations.proofs.MadeLemmas.PromiseLaws.{joined, none, on-steps, tested-made}
use Rattle.law_equations.proofs.MadeLemmas.StepLaws.{both, same}

-- ---- names on the left

-- each name once
abbrev pub LeftsOnce : List (List ℕ × Span) → Type 0
LeftsOnce [] = ⊤
LeftsOnce (y ∷ ys) = (is_among ys y.0 ≡ false) × LeftsOnce ys

abbrev all_bindings : List (List ℕ × Span) → ℕ → List Binding
all_bindings [] x = []
all_bindings (y ∷ ys) x = (y.0, Some x) ∷ all_bindings ys x

abbrev output_bindings : List (List ℕ × Span) → ℕ → List Decl → List Binding
output_bindings [] n os = []
output_bindings (y ∷ ys) n os = (y.0, output_left n os) ∷ output_bindings ys (n + 1) (others os)

all_take : (ys : List (List ℕ × Span)) (x : ℕ) (z : List ℕ) → takes (all_bindings ys x) z ≡ is_among ys z
all_take [] x z = refl
all_take (y ∷ ys) x z = ap (λ b. bytes_eq y.0 z || b) (all_take ys x z)

all_once : (ys : List (List ℕ × Span)) (x : ℕ) → LeftsOnce ys → TakesOnce (all_bindings ys x)
all_once [] x o = tt
all_once (y ∷ ys) x o = (all_take ys x y.0 ∙ o.0, all_once ys x o.1)

outputs_take : (ys : List (List ℕ × Span)) (n : ℕ) (os : List Decl) (z : List ℕ) → takes (output_bindings ys n os) z ≡ is_among ys z
outputs_take [] n os z = refl
outputs_take (y ∷ ys) n os z = ap (λ b. bytes_eq y.0 z || b) (outputs_take ys (n + 1) (others os) z)

outputs_once : (ys : List (List ℕ × Span)) (n : ℕ) (os : List Decl) → LeftsOnce ys → TakesOnce (output_bindings ys n os)
outputs_once [] n os o = tt
outputs_once (y ∷ ys) n os o = (outputs_take ys (n + 1) (others os) y.0 ∙ o.0, outputs_once ys (n + 1) (others os) o.1)

bind_all_is : (k : Known) (see : Sight) (at : Site) (ys : List (List ℕ × Span)) (x : ℕ) (d : Sketch) → bind_all see at ys x d ≡ binds k see at (all_bindings ys x) d
bind_all_is k see at [] x d = refl
bind_all_is k see at (y ∷ ys) x d = bind_all_is k see at ys x _

bind_outputs_is : (k : Known) (see : Sight) (at : Site) (ys : List (List ℕ × Span)) (n : ℕ) (os : List Decl) (d : Sketch) → bind_outputs see at ys n os d ≡ binds k see at (output_bindings ys n os) d
bind_outputs_is k see at [] n os d = refl
bind_outputs_is k see at (y ∷ ys) n os d = bind_outputs_is k see at ys (n + 1) (others os) _

module _ (types : List TypeDecl) (outputs : List ℕ → List (List ℕ)) (k : Known) (knows : Knows types outputs k) (fill : Place → Value) (F : FlatName → Option Rows) (memory : Remembers F) where
  all_named : (means : ℕ → FlatName) (target : List ℕ → FlatName) (ys : List (List ℕ × Span)) (x : ℕ) → ((z : List ℕ) → means x ≡ target z) → AllNamed means target (all_bindings ys x)
  all_named means target [] x h = tt
  all_named means target (y ∷ ys) x h = (h y.0, all_named means target ys x h)

  -- outputs stand for names in turn
  named_same : (means : ℕ → FlatName) (a c : List ℕ → FlatName) (bs : List Binding) → ((z : List ℕ) → takes bs z ≡ true → a z ≡ c z) → AllNamed means a bs → AllNamed means c bs
  named_same means a c [] h n = tt
  named_same means a c (b ∷ bs) h n = (
    subst (IsNamed means b.1) (h b.0 (ap (λ d. d || takes bs b.0) ((bytes_eq-Decides b.0 b.0).1 refl))) n.0,
    named_same means a c bs (λ z q. h z (or_right (bytes_eq b.0 z) (takes bs z) q)) n.1,
  )
    where
      or_right : (a b : Bool) → b ≡ true → (a || b) ≡ true
      or_right true b h = refl
      or_right false b h = h

  nowhere_named : (means : ℕ → FlatName) (ys : List (List ℕ × Span)) (n : ℕ) (target : List ℕ → FlatName) → ((z : List ℕ) → target z ≡ Nowhere) → AllNamed means target (output_bindings ys n [])
  nowhere_named means [] n target h = tt
  nowhere_named means (y ∷ ys) n target h = (h y.0, nowhere_named means ys (n + 1) target h)

  no_output_at : (ys : List (List ℕ × Span)) (here : Prefix) (z : List ℕ) → output_at types outputs fill ys [] here z ≡ Nowhere
  no_output_at [] here z = refl
  no_output_at (y ∷ ys) here z = refl

  outputs_named : (means : ℕ → FlatName) (ys : List (List ℕ × Span)) (n : ℕ) (os : List Decl) (here : Prefix) → LeftsOnce ys → Agrees means n (output_names os here)
      → AllNamed means (λ z. output_at types outputs fill ys (map (λ (o : Decl). o.name) os) here z) (output_bindings ys n os)
  outputs_named means [] n os here o a = tt
  outputs_named means (y ∷ ys) n [] here o a = nowhere_named means (y ∷ ys) n (λ z. output_at types outputs fill (y ∷ ys) [] here z) (λ z. refl)
  outputs_named means (y ∷ ys) n (p ∷ os) here o a =
      let target = λ (z : List ℕ). output_at types outputs fill (y ∷ ys) (map (λ (o : Decl). o.name) (p ∷ os)) here z in (
        a.0 ∙ ap (λ b. if b then At (here (Instance ∷ Named p.name ∷ [])) else output_at types outputs fill ys (map (λ (o : Decl). o.name) os) here y.0) (sym ((bytes_eq-Decides y.0 y.0).1 refl)),
        named_same means (λ z. output_at types outputs fill ys (map (λ (o : Decl). o.name) os) here z) target (output_bindings ys (n + 1) os)
            (λ z q. sym (ap (λ b. if b then At (here (Instance ∷ Named p.name ∷ [])) else output_at types outputs fill ys (map (λ (o : Decl). o.name) os) here z) (other z (bytes_eq y.0 z) refl (sym (outputs_take ys (n + 1) os z) ∙ q))))
            (outputs_named means ys (n + 1) os here o.1 a.1),
      )
    where
      other : (z : List ℕ) (d : Bool) → bytes_eq y.0 z ≡ d → is_among ys z ≡ true → bytes_eq y.0 z ≡ false
      other z true e q = let s : y.0 ≡ z = (bytes_eq-Decides y.0 z).0 e in let no : true ≡ false = sym q ∙ ap (is_among ys) (sym s) ∙ o.0 in absurd cc
      other z false e q = e

  -- ---- the clock of a path

  pub record PathMade (means : ℕ → FlatName) (d : Sketch) (p : Site × Sketch) (w ck : When) (rs : List Place) : Type 0 where
    pub steps : Steps F means d p.1
    pub at : IsAt means p.0 w rs
    pub flag : IsFlagged means p.1.flag ck rs

  path_made : (path : List (Cons × List ℕ)) (see : Sight) (sc lsc : Scope) (at : Site) (w ck : When) (rs : List Place) (d : Sketch)
      → Promised memory.keeps d (enter_path k see path at d).1
      (λ means. Starts types outputs k knows fill F memory see sc lsc at w ck rs d means → PathMade means d (enter_path k see path at d) (under types sc (reverse path) w) ck rs)
  path_made [] see sc lsc at w ck rs d = none d _ (λ means st. record { steps = same F means d st.0; at = st.2; flag = st.3 })
  path_made (s ∷ path) see sc lsc at w ck rs d =
      let t = tested (see s.1).value d in
      let n = cons_number k s.0 in
      let at' = on_site at t.1 n in
      let w' = on (cons_of types s.0) (sc s.1) w in
      let p = enter_path k see path at' t.0 in
      joined d t.0 p.1 (λ means. IsBounded d → IsNamed means (see s.1).value (sc s.1) → IsFlagged means d.flag ck rs → IsMade F means d t (sc s.1) ck rs)
      (λ means. Starts types outputs k knows fill F memory see sc lsc at' w' ck rs t.0 means → PathMade means t.0 p (under types sc (reverse path) w') ck rs) _
      (tested-made F memory (see s.1).value d (sc s.1) ck rs)
      (path_made path see sc lsc at' w' ck rs t.0)
      (λ means a g st.
      let i = a st.0 (st.1 s.1).0 st.3 in
      let r = g (i.steps.bounded, st.1, on-steps means at t.1 n (cons_of types s.0) (sc s.1) w rs st.2 i.value (sym (knows.constructors s.0)), i.flag) in
      record {
        steps = both F means d t.0 p.1 i.steps r.steps;
        at = subst (λ v. IsAt means p.0 v rs) (sym (under-path types sc s path w)) r.at;
        flag = r.flag;
      })

  path_owns : (path : List (Cons × List ℕ)) (see : Sight) (at : Site) (d : Sketch) → (length (enter_path k see path at d).0.clock ≡ length at.clock + length path) × ((enter_path k see path at d).0.base ≡ at.base)
  path_owns [] see at d = (omega arith, refl)
  path_owns (s ∷ path) see at d =
      let t = tested (see s.1).value d in
      let r = path_owns path see (on_site at t.1 (cons_number k s.0)) t.0 in
      let l : length (at.clock ++ (t.1, cons_number k s.0) ∷ []) ≡ length at.clock + 1 = length-append at.clock ((t.1, cons_number k s.0) ∷ []) in
      let q = r.0 in
      (omega (arith, l, q), r.1)

  -- ---- right sides

  abbrev pub DefinitionRows : List (List ℕ × Span) → Expr → Prefix → When → List Place → List ℕ → Rows
  DefinitionRows ys e here w rs x = copies w rs (right_at types outputs fill ys e here x) ∷ []

  abbrev pub BodyStarts : Sight → Scope → Scope → Site → When → When → List Place → Sketch → (ℕ → FlatName) → Type 0
  BodyStarts see sc lsc at w ck rs d means = Starts types outputs k knows fill F memory see sc lsc at w ck rs d means

  -- a right side that is no call
  plain_right : (e : Expr) (ys : List (List ℕ × Span)) (clock : Clock) (sc lsc : Scope) (here : Prefix) (ck : When) (rs : List Place) (see : Sight) (at : Site) (d : Sketch) → Owns at clock
      → ((p : Place) → F (At (here p)) ≡ flat_expr types outputs fill e clock sc lsc here ck rs p) → Ready k fill see at e here d → ExprKeeps memory.keeps types fill e clock sc here ck rs → LeftsOnce ys
      → ((x : List ℕ) → right_at types outputs fill ys e here x ≡ At (here []))
      → Promises memory.keeps d (bind_all see at ys (sketch_expr k see at e d).1 (sketch_expr k see at e d).0) (expr_labels outputs e here)
      (λ means. BodyStarts see sc lsc at (under types sc clock ck) ck rs d means → AreApart see (is_among ys) → AreThere see (is_among ys) d
      → EqnsMade F means see (is_among ys) (DefinitionRows ys e here (under types sc clock ck) rs) d (bind_all see at ys (sketch_expr k see at e d).1 (sketch_expr k see at e d).0) ck rs)
  plain_right e ys clock sc lsc here ck rs see at d own cov ready keep once right =
      let w = under types sc clock ck in
      let x = sketch_expr k see at e d in
      let p = expr-made types outputs k knows fill F memory e clock sc lsc here ck rs see at d own cov ready keep in
      let bs = all_bindings ys x.1 in
      let same_takes : takes bs ≡ is_among ys = (λ j z. all_take ys x.1 z j) in
      record {
        names = p.names;
        kept = p.kept;
        grown = all_next ys see at x.1 x.0 ∙ p.grown;
        labelled = λ means a. labelled-both means d.eqns x.0.eqns (bind_all see at ys x.1 x.0).eqns (p.labelled means a) (all-labelled means see at ys x.1 x.0);
        facts = λ means a st apart there.
            let i = p.facts means a st in
            let made = binds-made k F means see ck w rs at (right_at types outputs fill ys e here) bs x.0 i.steps.bounded i.flag st.2 (all_once ys x.1 once)
            (all_named means (right_at types outputs fill ys e here) ys x.1 (λ z. i.value ∙ sym (right z)))
            (subst (AreApart see) (sym same_takes) apart)
            (subst (λ t. AreThere see t x.0) (sym same_takes) (λ z y q v. let l : y < next d = there z y q v in let g = i.steps.grown in omega (arith, l, g))) in
            steps-first k F means see ck rs (is_among ys) (DefinitionRows ys e here w rs) d x.0 (bind_all see at ys x.1 x.0) i.steps
            (subst (λ t. EqnsMade F means see t (DefinitionRows ys e here w rs) x.0 (bind_all see at ys x.1 x.0) ck rs) same_takes
            (subst (λ f. EqnsMade F means see (takes bs) (DefinitionRows ys e here w rs) x.0 f ck rs) (sym (bind_all_is k see at ys x.1 x.0)) made))
            there;
      }
    where
      bind_next : (at : Site) (o s : Option ℕ) (d : Sketch) → next (bind at o s d) ≡ next d
      bind_next at None s d = refl
      bind_next at (Some x) s d = refl

      all_next : (ys : List (List ℕ × Span)) (see : Sight) (at : Site) (x : ℕ) (d : Sketch) → next (bind_all see at ys x d) ≡ next d
      all_next [] see at x d = refl
      all_next (y ∷ ys) see at x d = all_next ys see at x (bind at (see y.0).value (Some x) d) ∙ bind_next at (see y.0).value (Some x) d

  -- a call, whose outputs stand for names in turn
  call_right : (s : Span) (f : List ℕ) (inlined : Bool) (es : Exprs) (ys : List (List ℕ × Span)) (clock : Clock) (sc lsc : Scope) (here : Prefix) (ck : When) (rs : List Place) (see : Sight) (at : Site) (d : Sketch) → Owns at clock
      → ((p : Place) → F (At (here p)) ≡ flat_expr types outputs fill (call s f inlined es) clock sc lsc here ck rs p) → ReadyAll k fill see at es (below Args here) d → ExprsKeep memory.keeps types fill es clock sc (below Args here) ck rs → LeftsOnce ys
      → Promises memory.keeps d (sketch_right k see at ys (call s f inlined es) d) (expr_labels outputs (call s f inlined es) here)
      (λ means. BodyStarts see sc lsc at (under types sc clock ck) ck rs d means → AreApart see (is_among ys) → AreThere see (is_among ys) d
      → EqnsMade F means see (is_among ys) (DefinitionRows ys (call s f inlined es) here (under types sc clock ck) rs) d (sketch_right k see at ys (call s f inlined es) d) ck rs)
  call_right s f inlined es ys clock sc lsc here ck rs see at d own cov ready keep once =
      let w = under types sc clock ck in
      let os = outputs_of (k.nodes f) in
      let xs = args_at types outputs fill es (below Args here) in
      let args = sketch_exprs k see at es d in
      let c = called_at k at f args.1 os args.0 in
      let p = call_made types outputs k knows fill F memory see sc lsc at w ck rs d args.0 f args.1 xs os here
      (λ means. BodyStarts see sc lsc at w ck rs d means → ArgsMade types outputs k knows fill F memory means d args.0 args.1 xs ck rs) (knows.calls f) (λ y. cov (Instance ∷ Named y ∷ []))
      (args-made types outputs k knows fill F memory es clock sc lsc (below Args here) ck rs see at d own (λ p. cov (Args ∷ p)) ready keep) (λ means a st. a st) in
      let bs = output_bindings ys c.1 os in
      let same_takes : takes bs ≡ is_among ys = (λ j z. outputs_take ys c.1 os z j) in
      let target : List ℕ → FlatName = right_at types outputs fill ys (call s f inlined es) here in
      record {
        names = p.names;
        kept = p.kept;
        grown = outputs_next ys see at c.1 os c.0 ∙ p.grown;
        labelled = λ means a. labelled-both means d.eqns c.0.eqns (bind_outputs see at ys c.1 os c.0).eqns (p.labelled means a) (outputs-labelled means see at ys c.1 os c.0);
        facts = λ means a st apart there.
            let r = p.facts means a st in
            let made = binds-made k F means see ck w rs at target bs c.0 r.0.bounded r.1 st.2 (outputs_once ys c.1 os once)
            (subst (λ names. AllNamed means (λ z. output_at types outputs fill ys names here z) bs) (sym (knows.calls f)) (outputs_named means ys c.1 os here once r.2))
            (subst (AreApart see) (sym same_takes) apart)
            (subst (λ t. AreThere see t c.0) (sym same_takes) (λ z y q v. let l : y < next d = there z y q v in let g = r.0.grown in omega (arith, l, g))) in
            steps-first k F means see ck rs (is_among ys) (DefinitionRows ys (call s f inlined es) here w rs) d c.0 (bind_outputs see at ys c.1 os c.0) r.0
            (subst (λ t. EqnsMade F means see t (DefinitionRows ys (call s f inlined es) here w rs) c.0 (bind_outputs see at ys c.1 os c.0) ck rs) same_takes
            (subst (λ f'. EqnsMade F means see (takes bs) (DefinitionRows ys (call s f inlined es) here w rs) c.0 f' ck rs) (sym (bind_outputs_is k see at ys c.1 os c.0)) made))
            there;
      }
    where
      bind_next : (at : Site) (o s : Option ℕ) (d : Sketch) → next (bind at o s d) ≡ next d
      bind_next at None s d = refl
      bind_next at (Some x) s d = refl

      outputs_next : (ys : List (List ℕ × Span)) (see : Sight) (at : Site) (n : ℕ) (os : List Decl) (d : Sketch) → next (bind_outputs see at ys n os d) ≡ next d
      outputs_next [] see at n os d = refl
      outputs_next (y ∷ ys) see at n os d = outputs_next ys see at (n + 1) (others os) (bind at (see y.0).value (output_left n os) d) ∙ bind_next at (see y.0).value (output_left n os) d

  right_made : (e : Expr) (ys : List (List ℕ × Span)) (clock : Clock) (sc lsc : Scope) (here : Prefix) (ck : When) (rs : List Place) (see : Sight) (at : Site) (d : Sketch) → Owns at clock
      → ((p : Place) → F (At (here p)) ≡ flat_expr types outputs fill e clock sc lsc here ck rs p) → ReadyRight k fill see at e here d → ExprKeeps memory.keeps types fill e clock sc here ck rs → LeftsOnce ys
      → Promises memory.keeps d (sketch_right k see at ys e d) (expr_labels outputs e here)
      (λ means. BodyStarts see sc lsc at (under types sc clock ck) ck rs d means → AreApart see (is_among ys) → AreThere see (is_among ys) d
      → EqnsMade F means see (is_among ys) (DefinitionRows ys e here (under types sc clock ck) rs) d (sketch_right k see at ys e d) ck rs)
  right_made (constant s c) ys clock sc lsc here ck rs see at d own cov ready keep once = plain_right (constant s c) ys clock sc lsc here ck rs see at d own cov ready keep once (λ x. refl)
  right_made (variable s x) ys clock sc lsc here ck rs see at d own cov ready keep once = plain_right (variable s x) ys clock sc lsc here ck rs see at d own cov ready keep once (λ x. refl)
  right_made (last_of s x) ys clock sc lsc here ck rs see at d own cov ready keep once = plain_right (last_of s x) ys clock sc lsc here ck rs see at d own cov ready keep once (λ x. refl)
  right_made (one s o a) ys clock sc lsc here ck rs see at d own cov ready keep once = plain_right (one s o a) ys clock sc lsc here ck rs see at d own cov ready keep once (λ x. refl)
  right_made (two s o a b) ys clock sc lsc here ck rs see at d own cov ready keep once = plain_right (two s o a b) ys clock sc lsc here ck rs see at d own cov ready keep once (λ x. refl)
  right_made (choose s a b c) ys clock sc lsc here ck rs see at d own cov ready keep once = plain_right (choose s a b c) ys clock sc lsc here ck rs see at d own cov ready keep once (λ x. refl)
  right_made (pre s a) ys clock sc lsc here ck rs see at d own cov ready keep once = plain_right (pre s a) ys clock sc lsc here ck rs see at d own cov ready keep once (λ x. refl)
  right_made (fby s a b) ys clock sc lsc here ck rs see at d own cov ready keep once = plain_right (fby s a b) ys clock sc lsc here ck rs see at d own cov ready keep once (λ x. refl)
  right_made (arrow s a b) ys clock sc lsc here ck rs see at d own cov ready keep once = plain_right (arrow s a b) ys clock sc lsc here ck rs see at d own cov ready keep once (λ x. refl)
  right_made (when_is s a c x) ys clock sc lsc here ck rs see at d own cov ready keep once = plain_right (when_is s a c x) ys clock sc lsc here ck rs see at d own cov ready keep once (λ x. refl)
  right_made (merge s x ps) ys clock sc lsc here ck rs see at d own cov ready keep once = plain_right (merge s x ps) ys clock sc lsc here ck rs see at d own cov ready keep once (λ x. refl)
  right_made (call s f inlined es) ys clock sc lsc here ck rs see at d own cov ready keep once = call_right s f inlined es ys clock sc lsc here ck rs see at d own cov ready keep once

  -- ---- definitions

  pub definition-made : (s : Span) (ds : List Decl) (ys : List (List ℕ × Span)) (e : Expr) (sc lsc : Scope) (here : Prefix) (ck : When) (rs : List Place) (see : Sight) (at : Site) (d : Sketch) → Owns at []
      → ((p : Place) → F (At (here (RightOf ∷ p))) ≡ flat_expr types outputs fill e (clock_of ds ys e) sc lsc (below RightOf here) ck rs p)
      → ReadyRight k fill see (enter_path k see (path_for ds ys e) at d).0 e (below RightOf here) (enter_path k see (path_for ds ys e) at d).1 → ExprKeeps memory.keeps types fill e (clock_of ds ys e) sc (below RightOf here) ck rs → LeftsOnce ys
      → Promises memory.keeps d (sketch_definition k see at ds ys e d) (expr_labels outputs e (below RightOf here))
      (λ means. BodyStarts see sc lsc at ck ck rs d means → AreApart see (is_among ys) → AreThere see (is_among ys) d
      → EqnsMade F means see (is_among ys) (DefinitionRows ys e (below RightOf here) (under types sc (clock_of ds ys e) ck) rs) d (sketch_definition k see at ds ys e d) ck rs)
  definition-made s ds ys e sc lsc here ck rs see at d own cov ready keep once =
      let path = path_for ds ys e in
      let p = enter_path k see path at d in
      let q = path_owns path see at d in
      let clock = clock_of ds ys e in
      let told : clock ≡ reverse path = clock-path k ds ys e in
      let owns : Owns p.0 clock = (let l = q.0 in let b = q.1 in let n : length clock ≡ length path = ap length told ∙ path-length path in let o = own in omega (arith, l, b, n, o)) in
      joined d p.1 (sketch_right k see p.0 ys e p.1) (λ means. BodyStarts see sc lsc at ck ck rs d means → PathMade means d p (under types sc (reverse path) ck) ck rs)
      (λ means. BodyStarts see sc lsc p.0 (under types sc clock ck) ck rs p.1 means → AreApart see (is_among ys) → AreThere see (is_among ys) p.1
      → EqnsMade F means see (is_among ys) (DefinitionRows ys e (below RightOf here) (under types sc clock ck) rs) p.1 (sketch_right k see p.0 ys e p.1) ck rs) _
      (path_made path see sc lsc at ck ck rs d)
      (right_made e ys clock sc lsc (below RightOf here) ck rs see p.0 p.1 owns cov ready keep once)
      (λ means a g st apart there.
      let i = a st in
      let h = g (i.steps.bounded, st.1, subst (λ c. IsAt means p.0 (under types sc c ck) rs) (sym told) i.at, i.flag) apart (λ z y q v. let l : y < next d = there z y q v in let n = i.steps.grown in omega (arith, l, n)) in
      steps-first k F means see ck rs (is_among ys) (DefinitionRows ys e (below RightOf here) (under types sc clock ck) rs) d p.1 (sketch_right k see p.0 ys e p.1) i.steps h there)
