-- The judgement of types and definitions and that of classes, joined.
use Rattle.std.proofs.Common.{◌≡◌, ℕ, List, [], ◌∷◌, ◌++◌, refl, sym, subst}
use Rattle.std.specs.Prelude.{⊤, Bool, true, false, ◌&&◌, ◌||◌, not, is_some, IsTrue, IsFalse, if◌then◌else◌, Option, None, Some}
use Rattle.std.specs.Str.{bytes_eq}
use Rattle.std.proofs.lemmas.Slice.Eq.{bytes_eq-Decides}
use Rattle.hp_base.specs.declared.span.Span.{Span}
use Rattle.hp_base.specs.declared.ty.Ty.{Ty}
use Rattle.hp_base.specs.declared.ty.Const.{Const}
use Rattle.hp_tree.specs.declared.block.Trans.{Trans}
use Rattle.hp_tree.specs.Expressions.{Expr, constant, variable, last_of, one, two, choose, pre, fby, arrow, when_is, merge, call, Exprs, no_expr, more_exprs, Parts, no_part, more_parts}
use Rattle.hp_tree.specs.Blocks.{Decl, Block, block, Eqns, no_eqn, more_eqns, Eqn, define, switch, reset, automaton, Arms, no_arm, more_arms, States, no_state, more_states}
use Rattle.hp_tree.specs.Programs.{TypeDecl, Contract, Node}
use Rattle.hp_tree.specs.Instant.{Body, Observer, Named, Equations, Head, Tail, Arms as ArmsOf, States as StatesOf}
use Rattle.hp_tree.specs.Meaning.{is_among, declares, defines, some_defines, block_defines}
use Rattle.hp_typing.specs.Scopes.{with_variables, inside, inside_node}
use Rattle.law_judged.specs.Typed.Scopes.{Scope}
use Rattle.hp_init.specs.Classes.{Classes, Assignment, is_second, Known, or_first, with_declared, known_in, known_within, known_outputs, VariableFollows, LeftsFollow as VariablesFollow, BlockFollows, EqnsFollow, EqnFollows, ArmsFollow, StatesFollow, ContractFollows}
use Rattle.hp_init.specs.Wants.{is_met, are_first, parts_first, Wish, of_decls, of_test, of_tests, must_be_first, some_must, definition_met, of_block, of_eqns, of_eqn, of_arms, of_states, of_told, of_contract}
use Rattle.hp_init.specs.Initialised.{first_unmet}
use Rattle.law_values.specs.Valued.Judged.{Lasts, lasts_in, lasts_of, no_lasts, body_scope, ExprSound, ExprsSound, PartsSound, RightSound, TestSound, TestsSound, FirstSound, DeclsSound, OthersKnown, BlockSound, EqnsSound, EqnSound, ArmsSound, StatesSound, HaveEquations as EquationsSound, ToldSound, ContractSound, NodeSound}
use Rattle.law_values.specs.Valued.Classed.{none_second, classes_of, seen_in_block, seen_in_eqns, seen_in_eqn, seen_in_arms, seen_in_states, seen_in_contract, seen_in_node, LastFirst, LastsFirst, OthersFirst as OthersAreFirst, BlockDefinite, EqnsDefinite, EqnDefinite, ArmsDefinite, StatesDefinite, ContractDefinite, NodeDefinite, HasClasses}
use Rattle.law_values.proofs.ValuedLemmas.Both.{LeftsFollow, ExprOk, ExprsOk, PartsOk, RightOk, TestOk, TestsOk, FirstOk, DeclsOk, OthersFirst, BlockOk, EqnsOk, EqnOk, ArmsOk, StatesOk, HaveEquations, ToldOk, ContractOk, NodeOk}
use Rattle.law_values.proofs.ValuedLemmas.Laws.{and_left, and_right, or_left, or_right, or_either}

is_not : (b : Bool) → IsTrue (not b) → IsFalse b
is_not true h = absurd (cc)
is_not false h = refl

-- ---- wishes that are met

pub met_left : (ws vs : List Wish) → first_unmet (ws ++ vs) ≡ None → first_unmet ws ≡ None
met_left [] vs h = refl
met_left (w ∷ ws) vs h = by w.met (met_left ws vs) h
  where
    by : (d : Bool) → (first_unmet (ws ++ vs) ≡ None → first_unmet ws ≡ None) → (if d then first_unmet (ws ++ vs) else Some w.at) ≡ None → (if d then first_unmet ws else Some w.at) ≡ None
    by true f h = f h
    by false f h = absurd (cc)

pub met_right : (ws vs : List Wish) → first_unmet (ws ++ vs) ≡ None → first_unmet vs ≡ None
met_right [] vs h = h
met_right (w ∷ ws) vs h = by w.met (met_right ws vs) h
  where
    by : (d : Bool) → (first_unmet (ws ++ vs) ≡ None → first_unmet vs ≡ None) → (if d then first_unmet (ws ++ vs) else Some w.at) ≡ None → first_unmet vs ≡ None
    by true f h = f h
    by false f h = absurd (cc)

pub met_one : (w : Wish) → first_unmet (w ∷ []) ≡ None → IsTrue w.met
met_one w h = by w.met h
  where
    by : (d : Bool) → (if d then None else Some w.at) ≡ None → IsTrue d
    by true h = refl
    by false h = absurd (cc)

-- a name that need not be First is declared
pub loose_declared : (ds : List Decl) (x : List ℕ) → IsFalse (must_be_first ds x) → IsTrue (declares ds x)
loose_declared [] x h = absurd (cc)
loose_declared (d ∷ ds) x h = by (bytes_eq d.name x) (loose_declared ds x) h
  where
    by : (b : Bool) → (IsFalse (must_be_first ds x) → IsTrue (declares ds x)) → IsFalse (if b then is_some d.last else must_be_first ds x) → IsTrue (b || declares ds x)
    by true f h = refl
    by false f h = f h

-- ---- expressions

module _ (types : List TypeDecl) (among : List ℕ → Option Node) where
  module _ (s : Scope) (second : Classes) (lasts : Lasts) where
    first_met : (a b : Bool) → IsTrue (a && not b) → IsFalse b
    first_met a b h = is_not b (and_right a (not b) h)

    mutual
      pub expr_ok : (e : Expr) → ExprSound types among s lasts e → IsTrue (is_met second e) → ExprOk types among s second lasts e
      expr_ok (constant a c) ok h = ok
      expr_ok (variable a x) ok h = tt
      expr_ok (last_of a x) ok h = ok
      expr_ok (one a o b) ok h = expr_ok b ok h
      expr_ok (two a o b c) ok h = (expr_ok b ok.0 (and_left (is_met second b) (is_met second c) h), expr_ok c ok.1 (and_right (is_met second b) (is_met second c) h))
      expr_ok (choose a b c d) ok h =
          let r = and_right (is_met second b) (is_met second c && is_met second d) h in
          (expr_ok b ok.0 (and_left (is_met second b) (is_met second c && is_met second d) h), (expr_ok c ok.1.0 (and_left (is_met second c) (is_met second d) r), expr_ok d ok.1.1 (and_right (is_met second c) (is_met second d) r)))
      expr_ok (pre a b) ok h = (first_met (is_met second b) (is_second second b) h, expr_ok b ok (and_left (is_met second b) (not (is_second second b)) h))
      expr_ok (fby a b c) ok h =
          let r = and_right (is_met second b) (is_met second c && not (is_second second c)) h in
          (first_met (is_met second c) (is_second second c) r, (expr_ok b ok.0 (and_left (is_met second b) (is_met second c && not (is_second second c)) h), expr_ok c ok.1 (and_left (is_met second c) (not (is_second second c)) r)))
      expr_ok (arrow a b c) ok h = (expr_ok b ok.0 (and_left (is_met second b) (is_met second c) h), expr_ok c ok.1 (and_right (is_met second b) (is_met second c) h))
      expr_ok (when_is a b c x) ok h = (first_met (is_met second b) (second x) h, expr_ok b ok (and_left (is_met second b) (not (second x)) h))
      expr_ok (merge a x ps) ok h = (is_not (second x) (and_left (not (second x)) (parts_first second ps) h), (ok.0, parts_ok ps ok.1 (and_right (not (second x)) (parts_first second ps) h)))
      expr_ok (call a f i es) ok h = (ok.0, exprs_ok es ok.1 h)

      exprs_ok : (es : Exprs) → ExprsSound types among s lasts es → IsTrue (are_first second es) → ExprsOk types among s second lasts es
      exprs_ok no_expr ok h = tt
      exprs_ok (more_exprs e es) ok h =
          let l = and_left (is_met second e && not (is_second second e)) (are_first second es) h in
          (first_met (is_met second e) (is_second second e) l, (expr_ok e ok.0 (and_left (is_met second e) (not (is_second second e)) l), exprs_ok es ok.1 (and_right (is_met second e && not (is_second second e)) (are_first second es) h)))

      parts_ok : (ps : Parts) → PartsSound types among s lasts ps → IsTrue (parts_first second ps) → PartsOk types among s second lasts ps
      parts_ok no_part ok h = tt
      parts_ok (more_parts c e ps) ok h =
          let l = and_left (is_met second e && not (is_second second e)) (parts_first second ps) h in
          (first_met (is_met second e) (is_second second e) l, (expr_ok e ok.0 (and_left (is_met second e) (not (is_second second e)) l), parts_ok ps ok.1 (and_right (is_met second e && not (is_second second e)) (parts_first second ps) h)))

    pub test_ok : (e : Expr) → TestSound types among s lasts e → first_unmet (of_test second e) ≡ None → TestOk types among s second lasts e
    test_ok e ok h =
        let m = met_one _ h in
        (expr_ok e ok.0 (and_left (is_met second e) (not (is_second second e)) m), (first_met (is_met second e) (is_second second e) m, ok.1))

    pub tests_ok : (ts : List Trans) → TestsSound types among s lasts ts → first_unmet (of_tests second ts) ≡ None → TestsOk types among s second lasts ts
    tests_ok [] ok h = tt
    tests_ok (t ∷ ts) ok h = (test_ok t.cond ok.0 (met_left (of_test second t.cond) (of_tests second ts) h), tests_ok ts ok.1 (met_right (of_test second t.cond) (of_tests second ts) h))

    pub right_ok : (ys : List (List ℕ × Span)) (e : Expr) → RightSound types among s lasts ys e → IsTrue (is_met second e) → LeftsFollow second ys (is_second second e) → RightOk types among s second lasts ys e
    right_ok ys (call a f i es) ok h l = (expr_ok (call a f i es) ok.0 h, ok.1)
    right_ok ys (constant a c) ok h l = (expr_ok (constant a c) ok.0 h, (ok.1.0, (ok.1.1.0, (ok.1.1.1, l))))
    right_ok ys (variable a c) ok h l = (expr_ok (variable a c) ok.0 h, (ok.1.0, (ok.1.1.0, (ok.1.1.1, l))))
    right_ok ys (last_of a c) ok h l = (expr_ok (last_of a c) ok.0 h, (ok.1.0, (ok.1.1.0, (ok.1.1.1, l))))
    right_ok ys (one a o b) ok h l = (expr_ok (one a o b) ok.0 h, (ok.1.0, (ok.1.1.0, (ok.1.1.1, l))))
    right_ok ys (two a o b c) ok h l = (expr_ok (two a o b c) ok.0 h, (ok.1.0, (ok.1.1.0, (ok.1.1.1, l))))
    right_ok ys (choose a b c d) ok h l = (expr_ok (choose a b c d) ok.0 h, (ok.1.0, (ok.1.1.0, (ok.1.1.1, l))))
    right_ok ys (pre a b) ok h l = (expr_ok (pre a b) ok.0 h, (ok.1.0, (ok.1.1.0, (ok.1.1.1, l))))
    right_ok ys (fby a b c) ok h l = (expr_ok (fby a b c) ok.0 h, (ok.1.0, (ok.1.1.0, (ok.1.1.1, l))))
    right_ok ys (arrow a b c) ok h l = (expr_ok (arrow a b c) ok.0 h, (ok.1.0, (ok.1.1.0, (ok.1.1.1, l))))
    right_ok ys (when_is a b c x) ok h l = (expr_ok (when_is a b c x) ok.0 h, (ok.1.0, (ok.1.1.0, (ok.1.1.1, l))))
    right_ok ys (merge a x ps) ok h l = (expr_ok (merge a x ps) ok.0 h, (ok.1.0, (ok.1.1.0, (ok.1.1.1, l))))

  -- ---- names on the left, and declarations

  declared_class : (d : Bool) (c : Bool) (o : Option Bool) (r : Bool) → IsTrue d → VariableFollows (if d then Some c else o) r → IsTrue r → IsTrue (or_first (if d then Some c else o))
  declared_class true c o r h f k = f k
  declared_class false c o r h f k = absurd (cc)

  neither : (a b : Bool) → IsFalse (a || b) → IsFalse a
  neither true b h = absurd (cc)
  neither false b h = refl

  nor : (a b : Bool) → IsFalse (a || b) → IsFalse b
  nor true b h = absurd (cc)
  nor false b h = h

  other_false : (a b : Bool) → IsTrue (not (a && b)) → IsTrue b → IsFalse a
  other_false true true h k = absurd (cc)
  other_false true false h k = absurd (cc)
  other_false false b h k = refl

  module _ (ds : List Decl) (all : Eqns) (class : Assignment) (k : Known) where
    abbrev pub inner : Known
    inner = known_in (block ds all) class k

    lefts_follow : (ys : List (List ℕ × Span)) (r : Bool) → ((x : List ℕ) → IsTrue (is_among ys x) → IsTrue (some_defines all x)) → (IsTrue r → IsFalse (some_must ds ys)) → VariablesFollow (with_declared ds class k.variables) ys r → LeftsFollow inner.values ys r
    lefts_follow [] r inc must f = tt
    lefts_follow (y ∷ ys) r inc must f = (
      (λ h. subst (λ b. IsTrue (if b then or_first (with_declared ds class k.variables y.0) else k.values y.0)) (sym (inc y.0 (or_left (bytes_eq y.0 y.0) (is_among ys y.0) ((bytes_eq-Decides y.0 y.0).1 refl))))
          (declared_class (declares ds y.0) (class (Named y.0 ∷ [])) (k.variables y.0) r (loose_declared ds y.0 (neither (must_be_first ds y.0) (some_must ds ys) (must h))) f.0 h)),
      lefts_follow ys r (λ x h. inc x (or_right (bytes_eq y.0 x) (is_among ys x) h)) (λ h. nor (must_be_first ds y.0) (some_must ds ys) (must h)) f.1,
    )

    first_ok : (t : Ty) (o : Option Const) (a : Bool) (c : Bool) (v : Option Bool) (d out : Bool) → IsTrue a → IsTrue d → FirstSound types among t o → LastFirst o c → FirstOk types among t o (if a then or_first (if d then Some c else v) else out)
    first_ok t None a c v d out h k f l = tt
    first_ok t (Some w) true c v true out h k f l = (f, l)
    first_ok t (Some w) true c v false out h k f l = absurd (cc)
    first_ok t (Some w) false c v d out h k f l = absurd (cc)

    decls_ok : (s : Scope) (fs : List Decl) → ((x : List ℕ) → IsTrue (declares fs x) → IsTrue (declares ds x)) → DeclsSound types among s all fs → LastsFirst class fs → DeclsOk types among s inner.values all fs
    decls_ok s [] inc ok l = tt
    decls_ok s (d ∷ fs) inc ok l = (
      (ok.0.0, (ok.0.1.0, first_ok d.ty d.last (some_defines all d.name) (class (Named d.name ∷ [])) (k.variables d.name) (declares ds d.name) (k.values d.name) ok.0.1.0 (inc d.name (or_left (bytes_eq d.name d.name) (declares fs d.name) ((bytes_eq-Decides d.name d.name).1 refl))) ok.0.1.1 l.0)),
      decls_ok s fs (λ x h. inc x (or_right (bytes_eq d.name x) (declares fs x) h)) ok.1 l.1,
    )

    others_by : (c : Bool) (v : Option Bool) (d : Bool) → IsFalse d → IsFalse (or_first v) → IsFalse (or_first (if d then Some c else v))
    others_by c v true h k = absurd (cc)
    others_by c v false h k = k

    others_ok : (s : Scope) → OthersKnown types among (block ds all) s → OthersAreFirst k ds all → OthersFirst types among (block ds all) s (seen_in_block k class (block ds all))
    others_ok s ok f x h g = (others_by (class (Named x ∷ [])) (k.variables x) (declares ds x) g (f x h g), ok x h g)

    definition_ok : (s : Scope) (lasts : Lasts) (ys : List (List ℕ × Span)) (e : Expr) → ((x : List ℕ) → IsTrue (is_among ys x) → IsTrue (some_defines all x)) → RightSound types among s lasts ys e → VariablesFollow (with_declared ds class k.variables) ys (is_second inner.values e) → IsTrue (definition_met inner.values ds ys e) → RightOk types among s inner.values lasts ys e
    definition_ok s lasts ys e inc ok f h =
        right_ok s inner.values lasts ys e ok (and_left (is_met inner.values e) (not (some_must ds ys && is_second inner.values e)) h)
        (lefts_follow ys (is_second inner.values e) inc (λ r. other_false (some_must ds ys) (is_second inner.values e) (and_right (is_met inner.values e) (not (some_must ds ys && is_second inner.values e)) h) r) f)

  -- ---- blocks

  until_ok : (b : Block) (s : Scope) (lasts : Lasts) (class : Assignment) (k : Known) (ts : List Trans) → TestsSound types among (inside s b) (lasts_of b lasts) ts → first_unmet (of_tests (known_in b class k).values ts) ≡ None → TestsOk types among (inside s b) (classes_of b k.values (seen_in_block k class b)) (lasts_of b lasts) ts
  until_ok (block ds es) s lasts class k ts ok h = tests_ok (with_variables s ds) (known_in (block ds es) class k).values (lasts_in ds lasts) ts ok h

  mutual
    pub block_ok : (b : Block) (s : Scope) (lasts : Lasts) (class : Assignment) (k : Known) → BlockSound types among s lasts b → BlockFollows k class b → first_unmet (of_block k class b) ≡ None → BlockDefinite k class b → BlockOk types among s k.values lasts (seen_in_block k class b) b
    block_ok (block ds es) s lasts class k ok f h d = (
      decls_ok ds es class k (with_variables s ds) ds (λ x z. z) ok.0 d.0,
      (
        others_ok ds es class k s ok.1.0 d.1.0,
        eqns_ok es ds es class k (with_variables s ds) (lasts_in ds lasts) (λ q. class (Equations ∷ q)) (λ x z. z) ok.1.1 f (met_right (of_decls (known_in (block ds es) class k).values ds) _ h) d.1.1,
      ),
    )

    eqns_ok : (es : Eqns) (ds : List Decl) (all : Eqns) (class : Assignment) (k : Known) (s : Scope) (lasts : Lasts) (at : Assignment) → ((x : List ℕ) → IsTrue (some_defines es x) → IsTrue (some_defines all x)) → EqnsSound types among s lasts es → EqnsFollow (inner ds all class k) at es → first_unmet (of_eqns (inner ds all class k) ds at es) ≡ None → EqnsDefinite (inner ds all class k) at es → EqnsOk types among s (inner ds all class k).values lasts (seen_in_eqns (inner ds all class k) at es) es
    eqns_ok no_eqn ds all class k s lasts at inc ok f h d = tt
    eqns_ok (more_eqns e es) ds all class k s lasts at inc ok f h d = (
      eqn_ok e ds all class k s lasts (λ q. at (Head ∷ q)) (λ x z. inc x (or_left (defines e x) (some_defines es x) z)) ok.0 f.0 (met_left (of_eqn (inner ds all class k) ds (λ q. at (Head ∷ q)) e) (of_eqns (inner ds all class k) ds (λ q. at (Tail ∷ q)) es) h) d.0,
      eqns_ok es ds all class k s lasts (λ q. at (Tail ∷ q)) (λ x z. inc x (or_right (defines e x) (some_defines es x) z)) ok.1 f.1 (met_right (of_eqn (inner ds all class k) ds (λ q. at (Head ∷ q)) e) (of_eqns (inner ds all class k) ds (λ q. at (Tail ∷ q)) es) h) d.1,
    )

    eqn_ok : (e : Eqn) (ds : List Decl) (all : Eqns) (class : Assignment) (k : Known) (s : Scope) (lasts : Lasts) (at : Assignment) → ((x : List ℕ) → IsTrue (defines e x) → IsTrue (some_defines all x)) → EqnSound types among s lasts e → EqnFollows (inner ds all class k) at e → first_unmet (of_eqn (inner ds all class k) ds at e) ≡ None → EqnDefinite (inner ds all class k) at e → EqnOk types among s (inner ds all class k).values lasts (seen_in_eqn (inner ds all class k) at e) e
    eqn_ok (define a ys e) ds all class k s lasts at inc ok f h d = definition_ok ds all class k s lasts ys e inc ok f (met_one _ h)
    eqn_ok (switch a e arms) ds all class k s lasts at inc ok f h d =
        let K = inner ds all class k in
        let m = met_one _ (met_left (of_test K.values e) (of_arms (known_within (switch a e arms) K) (λ q. at (ArmsOf ∷ q)) arms) h) in (
          expr_ok s K.values lasts e ok.0 (and_left (is_met K.values e) (not (is_second K.values e)) m),
          (
            is_not (is_second K.values e) (and_right (is_met K.values e) (not (is_second K.values e)) m),
            (
              ok.1.0,
              arms_ok arms (switch a e arms) s lasts (λ q. at (ArmsOf ∷ q)) (known_within (switch a e arms) K) ok.1.1 f (met_right (of_test K.values e) (of_arms (known_within (switch a e arms) K) (λ q. at (ArmsOf ∷ q)) arms) h) d,
            ),
          ),
        )
    eqn_ok (reset a b e) ds all class k s lasts at inc ok f h d =
        let K = inner ds all class k in (
          test_ok s K.values lasts e ok.0 (met_right (of_block (known_within (reset a b e) K) (λ q. at (Body ∷ q)) b) (of_test K.values e) h),
          block_ok b s lasts (λ q. at (Body ∷ q)) (known_within (reset a b e) K) ok.1 f (met_left (of_block (known_within (reset a b e) K) (λ q. at (Body ∷ q)) b) (of_test K.values e) h) d,
        )
    eqn_ok (automaton a ss) ds all class k s lasts at inc ok f h d =
        let K = inner ds all class k in
        states_ok ss (automaton a ss) s lasts (λ q. at (StatesOf ∷ q)) K (known_within (automaton a ss) K) ok f h d

    arms_ok : (arms : Arms) (e : Eqn) (s : Scope) (lasts : Lasts) (at : Assignment) (k : Known) → ArmsSound types among e s lasts arms → ArmsFollow k at arms → first_unmet (of_arms k at arms) ≡ None → ArmsDefinite k at arms → ArmsOk types among e s k.values lasts (seen_in_arms k at arms) arms
    arms_ok no_arm e s lasts at k ok f h d = tt
    arms_ok (more_arms c b a arms) e s lasts at k ok f h d = (
      ok.0,
      (
        block_ok b s lasts (λ q. at (Head ∷ q)) k ok.1.0 f.0 (met_left (of_block k (λ q. at (Head ∷ q)) b) (of_arms k (λ q. at (Tail ∷ q)) arms) h) d.0,
        arms_ok arms e s lasts (λ q. at (Tail ∷ q)) k ok.1.1 f.1 (met_right (of_block k (λ q. at (Head ∷ q)) b) (of_arms k (λ q. at (Tail ∷ q)) arms) h) d.1,
      ),
    )

    states_ok : (ss : States) (e : Eqn) (s : Scope) (lasts : Lasts) (at : Assignment) (out k : Known) → StatesSound types among e s lasts ss → StatesFollow k at ss → first_unmet (of_states out k at ss) ≡ None → StatesDefinite k at ss → StatesOk types among e s out.values k.values lasts (seen_in_states k at ss) ss
    states_ok no_state e s lasts at out k ok f h d = tt
    states_ok (more_states x b until unless a ss) e s lasts at out k ok f h d =
        let own = of_block k (λ q. at (Head ∷ Body ∷ q)) b in
        let weak = of_tests (known_in b (λ q. at (Head ∷ Body ∷ q)) k).values until in
        let strong = of_tests out.values unless in
        let more = of_states out k (λ q. at (Tail ∷ q)) ss in
        let h1 = met_right own (weak ++ (strong ++ more)) h in
        let h2 = met_right weak (strong ++ more) h1 in (
          ok.0,
          (
            block_ok b s lasts (λ q. at (Head ∷ Body ∷ q)) k ok.1.0 f.0 (met_left own (weak ++ (strong ++ more)) h) d.0,
            (
              until_ok b s lasts (λ q. at (Head ∷ Body ∷ q)) k until ok.1.1.0 (met_left weak (strong ++ more) h1),
              (
                tests_ok s out.values lasts unless ok.1.1.1.0 (met_left strong more h2),
                states_ok ss e s lasts (λ q. at (Tail ∷ q)) out k ok.1.1.1.1 f.1 (met_right strong more h2) d.1,
              ),
            ),
          ),
        )

  -- ---- nodes

  equations_ok : (b : Block) (ds : List Decl) → EquationsSound types among b ds → HaveEquations types among b ds
  equations_ok b [] ok = tt
  equations_ok b (d ∷ ds) ok = ((ok.0.0, by d.last ok.0.1), equations_ok b ds ok.1)
    where
      by : (o : Option Const) → FirstSound types among d.ty o → FirstOk types among d.ty o false
      by None f = tt
      by (Some c) f = (f, refl)

  told_ok : (b : Block) (s : Scope) (lasts : Lasts) (class : Assignment) (k : Known) (o : Option Expr) → ToldSound types among (inside s b) (lasts_of b lasts) o → first_unmet (of_told (known_in b class k).values o) ≡ None → ToldOk types among (inside s b) (classes_of b k.values (seen_in_block k class b)) (lasts_of b lasts) o
  told_ok b s lasts class k None ok h = tt
  told_ok (block ds es) s lasts class k (Some e) ok h = test_ok (with_variables s ds) (known_in (block ds es) class k).values (lasts_in ds lasts) e ok h

  abbrev ContractHere : Scope → Classes → Lasts → Assignment → Option Contract → Type 0
  ContractHere s second lasts class None = ⊤
  ContractHere s second lasts class (Some c) =
      BlockOk types among s second lasts class c.body
      × (ToldOk types among (inside s c.body) (classes_of c.body second class) (lasts_of c.body lasts) c.assume
      × ToldOk types among (inside s c.body) (classes_of c.body second class) (lasts_of c.body lasts) c.enforce)

  contract_ok : (o : Option Contract) (s : Scope) (lasts : Lasts) (class : Assignment) (k : Known) → ContractSound types among s lasts o → ContractFollows k class o → first_unmet (of_contract k class o) ≡ None → ContractDefinite k class o → ContractHere s k.values lasts (seen_in_contract k class o) o
  contract_ok None s lasts class k ok f h d = tt
  contract_ok (Some c) s lasts class k ok f h d =
      let own = of_block k class c.body in
      let assumed = of_told (known_in c.body class k).values c.assume in
      let enforced = of_told (known_in c.body class k).values c.enforce in
      let h1 = met_right own (assumed ++ enforced) h in (
        block_ok c.body s lasts class k ok.0 f (met_left own (assumed ++ enforced) h) d,
        (told_ok c.body s lasts class k c.assume ok.1.0 (met_left assumed enforced h1), told_ok c.body s lasts class k c.enforce ok.1.1 (met_right assumed enforced h1)),
      )

  contract_as : (o : Option Contract) (s : Scope) (lasts : Lasts) (class : Assignment) (n : Node) → n.contract ≡ o → ContractHere s none_second lasts (seen_in_contract (known_outputs n class) (λ q. class (Observer ∷ q)) o) o → ContractOk types among s lasts (seen_in_node class n) o
  contract_as None s lasts class n e h = tt
  contract_as (Some c) s lasts class n e h =
      let same : (λ q. seen_in_contract (known_outputs n class) (λ q. class (Observer ∷ q)) (Some c) q) ≡ (λ q. seen_in_node class n (Observer ∷ q)) = λ i q. seen_in_contract (known_outputs n class) (λ q. class (Observer ∷ q)) (sym e i) q in
      subst (λ z. BlockOk types among s none_second lasts z c.body × (ToldOk types among (inside s c.body) (classes_of c.body none_second z) (lasts_of c.body lasts) c.assume × ToldOk types among (inside s c.body) (classes_of c.body none_second z) (lasts_of c.body lasts) c.enforce)) same h

  -- the outputs of a node are First, as all that is read outside of its body is
  others_of : (b : Block) (class : Assignment) (k : Known) (x : List ℕ) → BlockDefinite k class b → IsTrue (block_defines b x) → IsFalse (or_first (k.variables x))
  others_of (block ds es) class k x d h = d.1.0 x (and_left (some_defines es x) (not (declares ds x)) h) (is_not (declares ds x) (and_right (some_defines es x) (not (declares ds x)) h))

  declared_defined : (b : Block) (x : List ℕ) (ds : List Decl) → EquationsSound types among b ds → IsTrue (declares ds x) → IsTrue (block_defines b x)
  declared_defined b x [] q h = absurd (cc)
  declared_defined b x (d ∷ ds) q h =
      or_either (bytes_eq d.name x) (declares ds x) h (λ e. subst (λ z. IsTrue (block_defines b z)) ((bytes_eq-Decides d.name x).0 e) q.0.0) (λ e. declared_defined b x ds q.1 e)

  all_first : (n : Node) (class : Assignment) → EquationsSound types among n.body n.outputs → NodeDefinite class n → (known_outputs n class).values ≡ none_second
  all_first n class q d = λ i x. at x i
    where
      by : (x : List ℕ) (b : Bool) → (IsTrue b → IsFalse (or_first (if declares n.outputs x then Some (class (Named x ∷ [])) else None))) → declares n.outputs x ≡ b → or_first (if b then Some (class (Named x ∷ [])) else None) ≡ false
      by x true f e = subst (λ z. IsFalse (or_first (if z then Some (class (Named x ∷ [])) else None))) e (f refl)
      by x false f e = refl

      at : (x : List ℕ) → (known_outputs n class).values x ≡ false
      at x = by x (declares n.outputs x) (λ h. others_of n.body (λ q. class (Body ∷ q)) (known_outputs n class) x d.1 (declared_defined n.body x n.outputs q h)) refl

  pub node_ok : (n : Node) (s : Scope) (class : Assignment) → NodeSound types among s n → HasClasses class n → NodeOk types among s (seen_in_node class n) n
  node_ok n s class ok c =
      let K = known_outputs n class in
      let first = all_first n class ok.1.1.1.0 c.definite in
      let observed = of_contract K (λ q. class (Observer ∷ q)) n.contract in
      let own = of_block K (λ q. class (Body ∷ q)) n.body in (
        ok.0,
        (
          ok.1.0,
          (
            ok.1.1.0,
            (
              equations_ok n.body n.outputs ok.1.1.1.0,
              (
                subst (λ z. BlockOk types among (body_scope s n) z (lasts_in n.outputs no_lasts) (seen_in_block K (λ q. class (Body ∷ q)) n.body) n.body) first
                    (block_ok n.body (body_scope s n) (lasts_in n.outputs no_lasts) (λ q. class (Body ∷ q)) K ok.1.1.1.1.0 c.follow.1 (met_right observed own c.met) c.definite.1),
                contract_as n.contract (inside_node s n) (lasts_in n.outputs no_lasts) class n refl
                    (subst (λ z. ContractHere (inside_node s n) z (lasts_in n.outputs no_lasts) (seen_in_contract K (λ q. class (Observer ∷ q)) n.contract) n.contract) first
                    (contract_ok n.contract (inside_node s n) (lasts_in n.outputs no_lasts) (λ q. class (Observer ∷ q)) K ok.1.1.1.1.1 c.follow.0 (met_left observed own c.met) c.definite.0)),
              ),
            ),
          ),
        ),
      )
