-- Nodes of a judged program are sound.
use Rattle.std.proofs.Common.{◌≡◌, ℕ, length, List, [], ◌∷◌, refl, sym, ap, subst, ◌∙◌, ◌⊎◌, inl, inr, ⊎_elim}
use Rattle.std.specs.Prelude.{⊤, Bool, true, false, ◌&&◌, ◌||◌, not, is_some, IsTrue, IsFalse, if◌then◌else◌, Option, None, Some, IsSome}
use Rattle.std.specs.Option.{IsSomeAnd}
use Rattle.std.specs.List.{Contains}
use Rattle.std.specs.Str.{bytes_eq}
use Rattle.hp_base.specs.declared.span.Span.{Span}
use Rattle.hp_base.specs.declared.ty.Ty.{Ty}
use Rattle.hp_base.specs.declared.ty.Ty.TheVariants as ty
use Rattle.hp_base.specs.declared.ty.Const.{Const}
use Rattle.hp_tree.specs.declared.decl.Cons.{Cons}
use Rattle.hp_tree.specs.declared.decl.Cons.TheVariants as cons
use Rattle.hp_tree.specs.declared.block.Trans.{Trans}
use Rattle.hp_tree.specs.Expressions.{Expr, constant, variable, last_of, one, two, choose, pre, fby, arrow, when_is, merge, call, Exprs, no_expr, more_exprs, Parts, no_part, more_parts}
use Rattle.hp_tree.specs.Blocks.{Decl, Block, block, Eqns, no_eqn, more_eqns, Eqn, define, switch, reset, automaton, Arms, no_arm, more_arms, States, no_state, more_states}
use Rattle.hp_tree.specs.Programs.{TypeDecl, Contract, Node}
use Rattle.hp_tree.specs.Operators.{constant_of}
use Rattle.hp_tree.specs.Values.{IsOf}
use Rattle.hp_tree.specs.Meaning.{is_among, declares, defines, some_defines, arms_define, states_define, block_defines, controls_of}
use Rattle.hp_base.specs.Known.Known.{lookup}
use Rattle.hp_names.specs.Scopes as names
use Rattle.hp_names.specs.Rules.{ExprIsNamed, ExprsAreNamed, PartsAreNamed, TransitionsAreNamed, BlockIsNamed, EqnsAreNamed, EqnIsNamed, ArmsAreNamed, StatesAreNamed, ConditionIsNamed, ContractIsNamed, NodeIsNamed}
use Rattle.hp_typing.specs.Scopes.{with_variables, inside, inside_node}
use Rattle.hp_typing.specs.Types.{type_of, types_in, outputs_in, constant_type, cons_type, enum_of, merge_type, constructors_of as all_constructors}
use Rattle.hp_typing.specs.Rules.{Fits, Chooses, ExprIsTyped, ExprsAreTyped, OperandsAreTyped, PartsAreTyped, FirstIsTyped, DeclsAreTyped, NamesFit, RowFits, SingleFits, RightIsTyped, TestIsTyped, TransitionsAreTyped, BlockIsTyped, EqnsAreTyped, EqnIsTyped, ArmsAreTyped, StatesAreTyped, ConditionIsTyped, ContractIsTyped, NodeIsTyped}
use Rattle.hp_typing.specs.Definitions.{IsOn, Defines, SomeDefines, BlockDefines, SomeArmDefines, SomeStateDefines, EachArmDefines, EachStateDefines, DefineWhole, DefinesWhole, BlockDefinesWhole, ArmsDefineWhole, StatesDefineWhole, EachStandsOnce}
use Rattle.hp_typing.specs.Definedness.{conses_of_parts, conses_of_arms, equations}
use Rattle.hp_typing.specs.DefinitionRules.{VariablesAreDefined, MergesAreWhole, ArgumentsAreWhole, PartsAreWhole, TransitionsAreWhole, BlockIsDefined, EqnsAreDefined, EqnIsDefined, ArmsAreDefined, StatesAreDefined, ConditionIsWhole, ContractIsDefined, NodeIsDefined}
use Rattle.law_judged.specs.Typed.Typed.{HasType, NameHasType, ConsHasType, ExprHasType, ExprsHaveTypes, PartsHaveTypes, FirstHasType, DeclsHaveTypes, LeftHasTypes, RightHasTypes, TransitionsHaveTypes, BlockHasTypes, EqnsHaveTypes, EqnHasTypes, ArmsHaveTypes, StatesHaveTypes, ConditionHasType, ContractHasTypes, NodeHasTypes}
use Rattle.law_judged.proofs.TypedLemmas.ExpressionLaws.{has_type}
use Rattle.law_judged.specs.Named.Scopes.{Scope, NameScope}
use Rattle.law_judged.specs.Named.Scoped.{Names, no_names, also, AreFresh, BlockScoped, EqnsScoped, EqnScoped, ArmsScoped, StatesScoped, ContractScoped, interface, NodeScoped}
use Rattle.law_judged.proofs.NamedLemmas.Sets.{or_cases, or_left, or_right, both_true, first_true, second_false, same_name, name_same, Sees}
use Rattle.law_judged.proofs.NamedLemmas.Judged.{eqns_seen}
use Rattle.law_judged.proofs.NamedLemmas.Declared.{eqn_owned}
use Rattle.hp_meaning.specs.Clocking.Clocking.{AreOnce, AreDefined}
use Rattle.law_values.specs.Valued.Judged.{Lasts, lasts_in, lasts_of, no_lasts, body_scope, of_parts, of_arms, Covers as AreCovered, CoversType, LeftsAre, LeftsHave, HaveOwnTypes, ExprSound, ExprsSound, PartsSound, RightSound, TestSound, TestsSound, FirstSound, DeclsSound, Completes, OthersKnown, BlockSound, EqnsSound, EqnSound, ArmsSound, StatesSound, HaveEquations, ToldSound, ContractSound, NodeSound}
use Rattle.law_values.specs.Accepted.Written.{HasArm, BlockArmed, EqnsArmed, EqnArmed, ArmsArmed, StatesArmed, ContractArmed, NodeArmed}
use Rattle.law_values.proofs.AcceptedLemmas.Views.{some_same, true_false, cases, taken, own_types, declared_type, Grounds, constant_is, covers, last_among, lasts_own, lasts_kept, Views, fresh_unknown, views_more}

-- ---- what is found is what is wanted

fits_some : (t : Ty) (o : Option Ty) → IsSome o → Fits (Some t) o → o ≡ Some t
fits_some t None h f = absurd (cc)
fits_some t (Some u) h f = ap Some (sym f)

fits_known : (t : Ty) (o : Option Ty) → IsSome o → Fits o (Some t) → o ≡ Some t
fits_known t None h f = absurd (cc)
fits_known t (Some u) h f = ap Some f

first_cons : (o : Option Ty) (c : Cons) (s : Scope) → IsSome o → Fits o (cons_type s c) → IsSome (cons_type s c) → cons_type s c ≡ o
first_cons None c s h f k = absurd (cc)
first_cons (Some t) c s h f k = fits_some t (cons_type s c) k f

module _ (types : List TypeDecl) (among : List ℕ → Option Node) where
  enum_known : (s : Scope) → Grounds types among s → (c : Cons) (t : List ℕ) → cons_type s c ≡ Some (ty.Enum t) → IsSome (lookup s.types t)
  enum_known s g cons.False t h = absurd (cc)
  enum_known s g cons.True t h = absurd (cc)
  enum_known s g (cons.Named c) t h = by (lookup s.constructors c) refl h
    where
      by : (o : Option (List ℕ)) → lookup s.constructors c ≡ o → enum_of o ≡ Some (ty.Enum t) → IsSome (lookup s.types t)
      by None e k = absurd (cc)
      by (Some u) e k = subst (λ z. IsSome (lookup s.types z)) (same (some_same (ty.Enum u) (ty.Enum t) k)) (g.known_constructors c u e).1
        where
          same : ty.Enum u ≡ ty.Enum t → u ≡ t
          same q = cc

  -- ---- expressions

  module _ (n : NameScope) (s : Scope) (lasts : Lasts) (g : Grounds types among s) (lasting : (x : List ℕ) → Contains n.lasts x → IsTrue (lasts x)) where
    merge_covers : (o : Option Ty) (ps : Parts) → IsSome o → Chooses o → OperandsAreTyped s o ps → PartsHaveTypes s ps → IsSome (merge_type s o ps) → EachStandsOnce (all_constructors s o) (conses_of_parts ps) → CoversType types o (conses_of_parts ps)
    merge_covers o no_part h c t q m e = absurd (cc)
    merge_covers o (more_parts k a ps) h c t q m e =
        covers types among s g o (conses_of_parts (more_parts k a ps)) h c
        (λ u z. enum_known s g k u (first_cons o k s h t.0 q.0 ∙ z)) e

    parts_same : (ps : Parts) → conses_of_parts ps ≡ of_parts ps
    parts_same no_part = refl
    parts_same (more_parts c e ps) = ap (λ cs. c ∷ cs) (parts_same ps)

    mutual
      pub expr_sound : (e : Expr) → ExprIsNamed n e → ExprIsTyped s e → ExprHasType s e → MergesAreWhole s e → ExprSound types among s lasts e
      expr_sound (constant a c) m t h w = constant_is types among s g c
      expr_sound (variable a x) m t h w = tt
      expr_sound (last_of a x) m t h w = lasting x m
      expr_sound (one a o b) m t h w = expr_sound b m t.0 h.0 w
      expr_sound (two a o b c) m t h w = (expr_sound b m.0 t.0 h.0 w.0, expr_sound c m.1 t.1.0 h.1.0 w.1)
      expr_sound (choose a b c d) m t h w = (expr_sound b m.0 t.0 h.0 w.0, (expr_sound c m.1.0 t.1.0 h.1.0 w.1.0, expr_sound d m.1.1 t.1.1.0 h.1.1.0 w.1.1))
      expr_sound (pre a b) m t h w = expr_sound b m t h.0 w
      expr_sound (fby a b c) m t h w = (expr_sound b m.0 t.0 h.0 w.0, expr_sound c m.1 t.1.0 h.1.0 w.1)
      expr_sound (arrow a b c) m t h w = (expr_sound b m.0 t.0 h.0 w.0, expr_sound c m.1 t.1.0 h.1.0 w.1)
      expr_sound (when_is a b c x) m t h w = expr_sound b m.0 t.0 h.0 w
      expr_sound (merge a x ps) m t h w =
          (subst (λ z. CoversType types (lookup s.variables x) z) (parts_same ps) (merge_covers (lookup s.variables x) ps h.0 t.0 t.1 h.1.0 h.1.1 w.0), operands_sound ps (lookup s.variables x) m.1 t.1 h.1.0 w.1)
      expr_sound (call a f i es) m t h w = (g.known_nodes f, exprs_sound es m.1 t.0.0 h.0 w)

      pub exprs_sound : (es : Exprs) → ExprsAreNamed n es → ExprsAreTyped s es → ExprsHaveTypes s es → ArgumentsAreWhole s es → ExprsSound types among s lasts es
      exprs_sound no_expr m t h w = tt
      exprs_sound (more_exprs e es) m t h w = (expr_sound e m.0 t.0 h.0 w.0, exprs_sound es m.1 t.1 h.1 w.1)

      operands_sound : (ps : Parts) (o : Option Ty) → PartsAreNamed n ps → OperandsAreTyped s o ps → PartsHaveTypes s ps → PartsAreWhole s ps → PartsSound types among s lasts ps
      operands_sound no_part o m t h w = tt
      operands_sound (more_parts c e ps) o m t h w = (expr_sound e m.1.0 t.1.0 h.1.0 w.0, parts_sound ps o (type_of s e) m.1.1 t.1.1 h.1.1 w.1)

      parts_sound : (ps : Parts) (o first : Option Ty) → PartsAreNamed n ps → PartsAreTyped s o first ps → PartsHaveTypes s ps → PartsAreWhole s ps → PartsSound types among s lasts ps
      parts_sound no_part o first m t h w = tt
      parts_sound (more_parts c e ps) o first m t h w = (expr_sound e m.1.0 t.1.0 h.1.0 w.0, parts_sound ps o first m.1.1 t.1.1.1 h.1.1 w.1)

    pub test_sound : (e : Expr) → ExprIsNamed n e → TestIsTyped s e → ExprHasType s e → MergesAreWhole s e → TestSound types among s lasts e
    test_sound e m t h w = (expr_sound e m t.0 h w, fits_some ty.Bool (type_of s e) (has_type s e h) t.1)

    pub tests_sound : (states : List (List ℕ)) (ts : List Trans) → TransitionsAreNamed n states ts → TransitionsAreTyped s ts → TransitionsHaveTypes s ts → TransitionsAreWhole s ts → TestsSound types among s lasts ts
    tests_sound states [] m t h w = tt
    tests_sound states (r ∷ ts) m t h w = (test_sound r.cond m.0 t.0 h.0 w.0, tests_sound states ts m.1.1 t.1 h.1 w.1)

    -- ---- right sides

    lefts_are : (xs : List (List ℕ × Span)) (ds : List Decl) → length xs ≡ length ds → NamesFit s xs ds → LeftHasTypes s xs → LeftsAre s xs ds
    lefts_are [] [] e f h = tt
    lefts_are [] (d ∷ ds) e f h = absurd (cc)
    lefts_are (x ∷ xs) [] e f h = absurd (cc)
    lefts_are (x ∷ xs) (d ∷ ds) e f h = (fits_known d.ty (lookup s.variables x.0) h.0 f.0, lefts_are xs ds (cc) f.1 h.1)

    row_is : (xs : List (List ℕ × Span)) (o : Option (List Decl)) → RowFits s xs o → IsSomeAnd o (λ ds. length xs ≡ length ds) → LeftHasTypes s xs → (outs : List Decl) × ((o ≡ Some outs) × LeftsAre s xs outs)
    row_is xs None r i h = absurd i
    row_is xs (Some ds) r i h = (ds, (refl, lefts_are xs ds i r.1 h))

    single_is : (xs : List (List ℕ × Span)) (o : Option Ty) → IsSome o → SingleFits s xs o → LeftHasTypes s xs → (t : Ty) × ((o ≡ Some t) × LeftsHave s xs t)
    single_is xs None i f h = absurd (cc)
    single_is [] (Some t) i f h = absurd f
    single_is (x ∷ []) (Some t) i f h = (t, (refl, (fits_known t (lookup s.variables x.0) h.0 f, tt)))
    single_is (x ∷ y ∷ xs) (Some t) i f h = absurd f

    right_sound : (xs : List (List ℕ × Span)) (e : Expr) → ExprIsNamed n e → RightIsTyped s xs e → LeftHasTypes s xs → RightHasTypes s xs e → MergesAreWhole s e → RightSound types among s lasts xs e
    right_sound xs (call a f i es) m t l h w = ((g.known_nodes f, exprs_sound es m.1 t.0.0 h.0 w), row_is xs (outputs_in (lookup s.nodes f) (types_in s es)) t.1 h.1 l)
    right_sound xs (constant a c) m t l h w = (expr_sound (constant a c) m t.0 h w, single_is xs (type_of s (constant a c)) (has_type s (constant a c) h) t.1 l)
    right_sound xs (variable a c) m t l h w = (expr_sound (variable a c) m t.0 h w, single_is xs (type_of s (variable a c)) (has_type s (variable a c) h) t.1 l)
    right_sound xs (last_of a c) m t l h w = (expr_sound (last_of a c) m t.0 h w, single_is xs (type_of s (last_of a c)) (has_type s (last_of a c) h) t.1 l)
    right_sound xs (one a o b) m t l h w = (expr_sound (one a o b) m t.0 h w, single_is xs (type_of s (one a o b)) (has_type s (one a o b) h) t.1 l)
    right_sound xs (two a o b c) m t l h w = (expr_sound (two a o b c) m t.0 h w, single_is xs (type_of s (two a o b c)) (has_type s (two a o b c) h) t.1 l)
    right_sound xs (choose a b c d) m t l h w = (expr_sound (choose a b c d) m t.0 h w, single_is xs (type_of s (choose a b c d)) (has_type s (choose a b c d) h) t.1 l)
    right_sound xs (pre a b) m t l h w = (expr_sound (pre a b) m t.0 h w, single_is xs (type_of s (pre a b)) (has_type s (pre a b) h) t.1 l)
    right_sound xs (fby a b c) m t l h w = (expr_sound (fby a b c) m t.0 h w, single_is xs (type_of s (fby a b c)) (has_type s (fby a b c) h) t.1 l)
    right_sound xs (arrow a b c) m t l h w = (expr_sound (arrow a b c) m t.0 h w, single_is xs (type_of s (arrow a b c)) (has_type s (arrow a b c) h) t.1 l)
    right_sound xs (when_is a b c x) m t l h w = (expr_sound (when_is a b c x) m t.0 h w, single_is xs (type_of s (when_is a b c x)) (has_type s (when_is a b c x) h) t.1 l)
    right_sound xs (merge a x ps) m t l h w = (expr_sound (merge a x ps) m t.0 h w, single_is xs (type_of s (merge a x ps)) (has_type s (merge a x ps) h) t.1 l)

    -- ---- declarations

    first_sound : (t : Ty) (o : Option Const) → FirstIsTyped s t o → FirstHasType s o → FirstSound types among t o
    first_sound t None f h = tt
    first_sound t (Some c) f h = constant_is types among s g c t (fits_some t (constant_type s c) h f)

    pub decls_sound : (es : Eqns) (ds : List Decl) → HaveOwnTypes types among s ds → ((x : List ℕ) → IsTrue (declares ds x) → IsTrue (some_defines es x)) → DeclsAreTyped s ds → DeclsHaveTypes s ds → DeclsSound types among s es ds
    decls_sound es [] o d t h = tt
    decls_sound es (k ∷ ds) o d t h = (
      (o.0, (d k.name (or_left (bytes_eq k.name k.name) (declares ds k.name) (name_same k.name k.name refl)), first_sound k.ty k.last t.0.0 h.0.1.0)),
      decls_sound es ds o.1 (λ x l. d x (or_right (bytes_eq k.name x) (declares ds x) l)) t.1 h.1,
    )

    pub equations_sound : (b : Block) (ds : List Decl) → ((x : List ℕ) → IsTrue (declares ds x) → IsTrue (block_defines b x)) → DeclsAreTyped s ds → DeclsHaveTypes s ds → HaveEquations types among b ds
    equations_sound b [] d t h = tt
    equations_sound b (k ∷ ds) d t h = (
      (d k.name (or_left (bytes_eq k.name k.name) (declares ds k.name) (name_same k.name k.name refl)), first_sound k.ty k.last t.0.0 h.0.1.0),
      equations_sound b ds (λ x l. d x (or_right (bytes_eq k.name x) (declares ds x) l)) t.1 h.1,
    )

  -- ---- what equations define

  left_on : (ys : List (List ℕ × Span)) (x : List ℕ) → IsTrue (is_among ys x) → IsOn ys x
  left_on [] x h = absurd (cc h)
  left_on (y ∷ ys) x h = ⊎_elim (λ e. inl (sym (same_name y.0 x e))) (λ k. inr (left_on ys x k)) (or_cases (bytes_eq y.0 x) (is_among ys x) h)

  module _ (x : List ℕ) where
    mutual
      block_by_rule : (b : Block) → IsTrue (block_defines b x) → BlockDefines b x
      block_by_rule (block ds es) h = some_by_rule es (first_true (some_defines es x) (declares ds x) h)

      some_by_rule : (es : Eqns) → IsTrue (some_defines es x) → SomeDefines es x
      some_by_rule no_eqn h = absurd (cc h)
      some_by_rule (more_eqns e es) h = ⊎_elim (λ l. inl (one_by_rule e l)) (λ l. inr (some_by_rule es l)) (or_cases (defines e x) (some_defines es x) h)

      one_by_rule : (e : Eqn) → IsTrue (defines e x) → Defines e x
      one_by_rule (define a ys e) h = left_on ys x h
      one_by_rule (switch a e arms) h = arms_by_rule arms h
      one_by_rule (reset a b e) h = block_by_rule b h
      one_by_rule (automaton a ss) h = states_by_rule ss h

      arms_by_rule : (arms : Arms) → IsTrue (arms_define arms x) → SomeArmDefines arms x
      arms_by_rule no_arm h = absurd (cc h)
      arms_by_rule (more_arms c b a arms) h = ⊎_elim (λ l. inl (block_by_rule b l)) (λ l. inr (arms_by_rule arms l)) (or_cases (block_defines b x) (arms_define arms x) h)

      states_by_rule : (ss : States) → IsTrue (states_define ss x) → SomeStateDefines ss x
      states_by_rule no_state h = absurd (cc h)
      states_by_rule (more_states f b until unless a ss) h =
          ⊎_elim (λ l. inl (block_by_rule b l)) (λ l. inr (states_by_rule ss l)) (or_cases (block_defines b x) (states_define ss x) h)

    pub block_seen : (seen own : Names) (b : Block) → BlockScoped seen own b → IsTrue (seen x) → BlockDefines b x → IsTrue (block_defines b x)
    block_seen seen own (block ds es) sc h d =
        both_true (some_defines es x) (declares ds x) (eqns_seen x (also seen ds) (also own ds) es sc.3 (or_right (declares ds x) (seen x) h) d) (λ k. sc.1 x k h)

    pub eqns_owned : (seen own : Names) (es : Eqns) → EqnsScoped seen own es → IsTrue (some_defines es x) → IsTrue (own x)
    eqns_owned seen own no_eqn sc h = absurd (cc h)
    eqns_owned seen own (more_eqns e es) sc h =
        ⊎_elim (λ l. eqn_owned x seen own e sc.0 l) (λ l. eqns_owned seen own es sc.1 l) (or_cases (defines e x) (some_defines es x) h)

  -- each name that is to be defined here has a last value, or is defined by all blocks of a control equation
  abbrev Whole : Names → Lasts → (List ℕ → Type 0) → Type 0
  Whole own lasts D = (x : List ℕ) → IsTrue (own x) → IsTrue (lasts x) ⊎ D x

  -- ---- blocks

  pub variable_whole : (es : Eqns) (ds all : List Decl) (out : Lasts) → ((x : List ℕ) → IsTrue (last_among ds x) → IsTrue (lasts_in all out x)) → VariablesAreDefined es ds → (x : List ℕ) → IsTrue (declares ds x) → IsTrue (lasts_in all out x) ⊎ DefineWhole es x
  variable_whole es [] all out f v x h = absurd (cc h)
  variable_whole es (d ∷ ds) all out f v x h =
      ⊎_elim
      (λ e. let q = same_name d.name x e in
      ⊎_elim (λ l. inl (f x (or_left (bytes_eq d.name x && is_some d.last) (last_among ds x) (both e l)))) (λ w. inr (subst (λ z. DefineWhole es z) q w)) v.0.1.1)
      (λ k. variable_whole es ds all out (λ y l. f y (or_right (bytes_eq d.name y && is_some d.last) (last_among ds y) l)) v.1 x k)
      (or_cases (bytes_eq d.name x) (declares ds x) h)
    where
      both : IsTrue (bytes_eq d.name x) → is_some d.last ≡ true → IsTrue (bytes_eq d.name x && is_some d.last)
      both e l = cc

  arms_same : (arms : Arms) → conses_of_arms arms ≡ of_arms arms
  arms_same no_arm = refl
  arms_same (more_arms c b a arms) = ap (λ cs. c ∷ cs) (arms_same arms)

  switch_covers : (s : Scope) → Grounds types among s → (o : Option Ty) (arms : Arms) → IsSome o → Chooses o → HasArm arms → ArmsAreTyped s o arms → ArmsHaveTypes s arms → EachStandsOnce (all_constructors s o) (conses_of_arms arms) → CoversType types o (conses_of_arms arms)
  switch_covers s g o no_arm h c a t q e = absurd a
  switch_covers s g o (more_arms k b p arms) h c a t q e =
      covers types among s g o (conses_of_arms (more_arms k b p arms)) h c (λ u z. enum_known s g k u (first_cons o k s h t.0 q.0 ∙ z)) e

  covers_type : (o : Option Ty) (cs : List Cons) → CoversType types o cs → (t : Ty) × ((o ≡ Some t) × AreCovered types t cs)
  covers_type None cs h = absurd h
  covers_type (Some t) cs h = (t, (refl, h))

  abbrev EachArm : Eqn → Lasts → Arms → Type 0
  EachArm e lasts arms = (x : List ℕ) → IsTrue (defines e x) → IsTrue (lasts x) ⊎ EachArmDefines arms x

  abbrev EachState : Eqn → Lasts → States → Type 0
  EachState e lasts ss = (x : List ℕ) → IsTrue (defines e x) → IsTrue (lasts x) ⊎ EachStateDefines ss x

  view_inside : {n : NameScope} {s : Scope} {seen own : Names} {lasts : Lasts} → Views types among n s seen own lasts → (b : Block) → BlockScoped seen own b → (states : List (List ℕ)) (ts : List Trans) → TransitionsAreNamed (names.inside n b) states ts → TransitionsAreTyped (inside s b) ts → TransitionsHaveTypes (inside s b) ts → TransitionsAreWhole (inside s b) ts → TestsSound types among (inside s b) (lasts_of b lasts) ts
  view_inside {n} {s} {seen} {own} {lasts} v (block ds es) sc states ts m t h w =
      let i = views_more v ds sc.0 sc.1 in
      tests_sound (names.with_variables n ds) (with_variables s ds) (lasts_in ds lasts) i.grounds i.lasting states ts m t h w

  mutual
    pub block_sound : (b : Block) (n : NameScope) (s : Scope) (seen own : Names) (lasts : Lasts) → Views types among n s seen own lasts → BlockScoped seen own b → BlockArmed b → BlockIsNamed n b → BlockIsTyped s b → BlockHasTypes s b → BlockIsDefined s b → Whole own lasts (BlockDefinesWhole b) → BlockSound types among s lasts b
    block_sound (block ds es) n s seen own lasts v sc a m t h d w =
        let i = views_more v ds sc.0 sc.1 in (
          decls_sound (names.with_variables n ds) (with_variables s ds) (lasts_in ds lasts) i.grounds i.lasting es ds (own_types types among ds s sc.0 (fresh_unknown v ds sc.1)) sc.2 t.0 h.0,
          (
            (λ x l f. v.known x (v.owned x (⊎_elim (λ k. true_false (declares ds x) k f) (λ k. k) (or_cases (declares ds x) (own x) (eqns_owned x (also seen ds) (also own ds) es sc.3 l))))),
            eqns_sound es (names.with_variables n ds) (with_variables s ds) (also seen ds) (also own ds) (lasts_in ds lasts) i sc.3 a m.1 t.1 h.1 d.0
                (λ x l. ⊎_elim (λ k. variable_whole es ds ds lasts (λ y z. lasts_own ds lasts y sc.0 z) d.1 x k) (λ k. ⊎_elim (λ z. inl (lasts_kept ds lasts x z)) (λ z. inr z) (w x k)) (or_cases (declares ds x) (own x) l)),
          ),
        )

    eqns_sound : (es : Eqns) (n : NameScope) (s : Scope) (seen own : Names) (lasts : Lasts) → Views types among n s seen own lasts → EqnsScoped seen own es → EqnsArmed es → EqnsAreNamed n es → EqnsAreTyped s es → EqnsHaveTypes s es → EqnsAreDefined s es → Whole own lasts (DefineWhole es) → EqnsSound types among s lasts es
    eqns_sound no_eqn n s seen own lasts v sc a m t h d w = tt
    eqns_sound (more_eqns e es) n s seen own lasts v sc a m t h d w = (
      eqn_sound e n s seen own lasts v sc.0 a.0 m.0 t.0 h.0 d.0 (λ x l. ⊎_elim (λ z. inl z) (λ z. inr z.0) (w x l)),
      eqns_sound es n s seen own lasts v sc.1 a.1 m.1 t.1 h.1 d.1 (λ x l. ⊎_elim (λ z. inl z) (λ z. inr z.1) (w x l)),
    )

    eqn_sound : (e : Eqn) (n : NameScope) (s : Scope) (seen own : Names) (lasts : Lasts) → Views types among n s seen own lasts → EqnScoped seen own e → EqnArmed e → EqnIsNamed n e → EqnIsTyped s e → EqnHasTypes s e → EqnIsDefined s e → Whole own lasts (DefinesWhole e) → EqnSound types among s lasts e
    eqn_sound (define p ys e) n s seen own lasts v sc a m t h d w = right_sound n s lasts v.grounds v.lasting ys e m.1 t h.0 h.1 d
    eqn_sound (switch p e arms) n s seen own lasts v sc a m t h d w = (
      expr_sound n s lasts v.grounds v.lasting e m.0 t.0 h.0 d.0,
      (
        covers_type (type_of s e) (of_arms arms) (subst (λ z. CoversType types (type_of s e) z) (arms_same arms) (switch_covers s v.grounds (type_of s e) arms (has_type s e h.0) t.1.0 a.0 t.1.1 h.1 d.1.0)),
        arms_sound arms (switch p e arms) n s seen own lasts (type_of s e) v sc a.1 m.1 t.1.1 h.1 d.1.1 (λ x l. eqn_owned x seen own (switch p e arms) sc l)
            (λ x l. ⊎_elim (λ z. inl z) (λ z. inr (z.0 (arms_by_rule x arms l))) (w x (eqn_owned x seen own (switch p e arms) sc l)))
            (λ x l. ⊎_elim (λ z. inl z) (λ z. inr z.1) (w x l)),
      ),
    )
    eqn_sound (reset p b e) n s seen own lasts v sc a m t h d w =
        (test_sound n s lasts v.grounds v.lasting e m.1 t.1 h.1 d.1, block_sound b n s seen own lasts v sc a m.0 t.0 h.0 d.0 w)
    eqn_sound (automaton p ss) n s seen own lasts v sc a m t h d w =
        states_sound ss (automaton p ss) _ n s seen own lasts v sc a m.1 t h d (λ x l. eqn_owned x seen own (automaton p ss) sc l)
        (λ x l. ⊎_elim (λ z. inl z) (λ z. inr (z.0 (states_by_rule x ss l))) (w x (eqn_owned x seen own (automaton p ss) sc l)))
        (λ x l. ⊎_elim (λ z. inl z) (λ z. inr z.1) (w x l))

    arms_sound : (arms : Arms) (e : Eqn) (n : NameScope) (s : Scope) (seen own : Names) (lasts : Lasts) (o : Option Ty) → Views types among n s seen own lasts → ArmsScoped seen own arms → ArmsArmed arms → ArmsAreNamed n arms → ArmsAreTyped s o arms → ArmsHaveTypes s arms → ArmsAreDefined s arms → ((x : List ℕ) → IsTrue (defines e x) → IsTrue (own x)) → EachArm e lasts arms → Whole own lasts (ArmsDefineWhole arms) → ArmsSound types among e s lasts arms
    arms_sound no_arm e n s seen own lasts o v sc a m t h d q c w = tt
    arms_sound (more_arms k b p arms) e n s seen own lasts o v sc a m t h d q c w = (
      (λ x l. ⊎_elim (λ z. inr z) (λ z. inl (block_seen x seen own b sc.0 (v.owned x (q x l)) z.0)) (c x l)),
      (
        block_sound b n s seen own lasts v sc.0 a.0 m.1.0 t.1.0 h.1.0 d.0 (λ x l. ⊎_elim (λ z. inl z) (λ z. inr z.0) (w x l)),
        arms_sound arms e n s seen own lasts o v sc.1 a.1 m.1.1 t.1.1 h.1.1 d.1 q (λ x l. ⊎_elim (λ z. inl z) (λ z. inr z.1) (c x l)) (λ x l. ⊎_elim (λ z. inl z) (λ z. inr z.1) (w x l)),
      ),
    )

    states_sound : (ss : States) (e : Eqn) (all : List (List ℕ)) (n : NameScope) (s : Scope) (seen own : Names) (lasts : Lasts) → Views types among n s seen own lasts → StatesScoped seen own ss → StatesArmed ss → StatesAreNamed n all ss → StatesAreTyped s ss → StatesHaveTypes s ss → StatesAreDefined s ss → ((x : List ℕ) → IsTrue (defines e x) → IsTrue (own x)) → EachState e lasts ss → Whole own lasts (StatesDefineWhole ss) → StatesSound types among e s lasts ss
    states_sound no_state e all n s seen own lasts v sc a m t h d q c w = tt
    states_sound (more_states f b until unless p ss) e all n s seen own lasts v sc a m t h d q c w = (
      (λ x l. ⊎_elim (λ z. inr z) (λ z. inl (block_seen x seen own b sc.0 (v.owned x (q x l)) z.0)) (c x l)),
      (
        block_sound b n s seen own lasts v sc.0 a.0 m.0 t.0 h.0 d.0 (λ x l. ⊎_elim (λ z. inl z) (λ z. inr z.0) (w x l)),
        (
          view_inside v b sc.0 all until m.1.0 t.1.0 h.1.0 d.1.0,
          (
            tests_sound n s lasts v.grounds v.lasting all unless m.1.1.0 t.1.1.0 h.1.1.0 d.1.1.0,
            states_sound ss e all n s seen own lasts v sc.1 a.1 m.1.1.1 t.1.1.1 h.1.1.1 d.1.1.1 q (λ x l. ⊎_elim (λ z. inl z) (λ z. inr z.1) (c x l)) (λ x l. ⊎_elim (λ z. inl z) (λ z. inr z.1) (w x l)),
          ),
        ),
      ),
    )
