-- Tests fit in a program that is well named, well typed and well defined.
use Rattle.std.proofs.Common.{◌≡◌, ◌⊎◌, inl, inr, ⊎_elim, ℕ, List, [], ◌∷◌, ◌++◌, refl, sym, ap, subst, ◌∙◌}
use Rattle.std.specs.Prelude.{is_some, IsTrue, Option, None, Some, IsSome}
use Rattle.hp_base.specs.declared.span.Span.{Span}
use Rattle.hp_base.specs.declared.ty.Ty.{Ty}
use Rattle.hp_base.specs.declared.ty.Ty.TheVariants as ty
use Rattle.hp_tree.specs.declared.decl.Cons.{Cons}
use Rattle.hp_tree.specs.declared.decl.Cons.TheVariants as cons
use Rattle.hp_tree.specs.declared.block.Trans.{Trans}
use Rattle.hp_tree.specs.declared.program.Item.{Item}
use Rattle.hp_tree.specs.declared.program.Item.TheVariants.{TypeItem, NodeItem}
use Rattle.hp_tree.specs.Expressions.{Expr, constant, variable, last_of, one, two, choose, pre, fby, arrow, when_is, merge, call, Exprs, no_expr, more_exprs, Parts, no_part, more_parts}
use Rattle.hp_tree.specs.Blocks.{Decl, Block, block, Eqns, no_eqn, more_eqns, Eqn, define, switch, reset, automaton, Arms, no_arm, more_arms, States, no_state, more_states}
use Rattle.hp_tree.specs.Programs.{TypeDecl, Contract, Node}
use Rattle.hp_tree.specs.Instant.{Clock}
use Rattle.hp_tree.specs.Meaning.{controls_of, types_of, node_among}
use Rattle.hp_base.specs.Known.Known.{lookup, with_entry}
use Rattle.hp_names.specs.Names.{with_names, state_names}
use Rattle.hp_names.specs.Scopes as names
use Rattle.hp_names.specs.Rules.{ConsIsNamed, PathIsNamed, ClockIsNamed, DeclsAreNamed, BlockIsNamed, EqnsAreNamed, EqnIsNamed, ArmsAreNamed, StatesAreNamed, ContractIsNamed, NodeIsNamed, ItemsAreNamed}
use Rattle.hp_typing.specs.Scopes.{with_variables, inside, inside_node, with_constructors}
use Rattle.hp_typing.specs.Types.{type_of, types_in, cons_type, enum_of, args_fit, constructors_of as all_of_type}
use Rattle.hp_typing.specs.Rules.{Fits, PathIsTyped, ClockIsTyped, DeclsAreTyped, BlockIsTyped, EqnsAreTyped, EqnIsTyped, ArmsAreTyped, StatesAreTyped, ContractIsTyped, NodeIsTyped, ItemsAreTyped}
use Rattle.hp_typing.specs.Definitions.{EachStandsOnce}
use Rattle.hp_typing.specs.Definedness.{conses_of_parts, conses_of_arms}
use Rattle.hp_typing.specs.DefinitionRules.{MergesAreWhole, ArgumentsAreWhole, PartsAreWhole, TransitionsAreWhole, BlockIsDefined, EqnsAreDefined, EqnIsDefined, ArmsAreDefined, StatesAreDefined, ConditionIsWhole, ContractIsDefined, NodeIsDefined, ItemsAreDefined}
use Rattle.law_judged.specs.Typed.Scopes.{Scope, NameScope}
use Rattle.law_judged.specs.Named.Scoped.{EachNode}
use Rattle.law_values.specs.Valued.Judged.{Lasts, lasts_in, lasts_of, no_lasts, of_parts, of_arms, body_scope, RightSound, TestsSound, ToldSound, BlockSound, EqnsSound, EqnSound, ArmsSound, StatesSound, ContractSound, NodeSound}
use Rattle.law_values.specs.Valued.Values.{scope_behind}
use Rattle.law_values.proofs.ValuedLemmas.Typed.{one_typed, two_typed, if_typed, pair_typed, when_typed, call_typed, row_typed, merge_typed, PartsHave, arg_typed}
use Rattle.law_values.proofs.AcceptedLemmas.Views.{entry_cases, entry_kept}
use Rattle.law_values.proofs.AcceptedLemmas.SoundNodes.{AllSound}
use Rattle.law_automata.proofs.LowerableLemmas.Texts.{onto}
use Rattle.law_wellmade.proofs.TimelyLemmas.Covering.{Covers, covers_variables, covers_node, covers_behind}
use Rattle.law_wellmade.proofs.TimelyLemmas.DifferLaws.{Grounds, grounds_more, SoFar, so_far_type, so_far_node, append_more, grounds_of}
use Rattle.law_wellmade.specs.Tested.Apart.{ConditionApart}
use Rattle.law_wellmade.specs.Tested.Fits.{ExprApart, ExprsApart, PartsApart, TestsApart}
use Rattle.law_wellmade.specs.Tested.Around.{Around, nobody, Declares, among, AllConses, PathAround, WrittenAround, DeclsAround, BlockAround, EqnsAround, EqnAround, ArmsAround, StatesAround, interface_of, NodeAround, ContractAround}
use Rattle.law_wellmade.proofs.TestedLemmas.Standing.{taken, fits_some, AllConses as Alike, apart_of, parts_same, arms_same, merge_conses}

-- ---- expressions

module _ (types : List TypeDecl) (s : Scope) (g : Grounds types s) where
  mutual
    expr_apart : (e : Expr) (t : Ty) → type_of s e ≡ Some t → MergesAreWhole s e → ExprApart e
    expr_apart (constant a c) t q w = tt
    expr_apart (variable a x) t q w = tt
    expr_apart (last_of a x) t q w = tt
    expr_apart (one a o d) t q w = expr_apart d _ (one_typed _ (type_of s d) t q).0 w
    expr_apart (two a o d e) t q w = let y = two_typed o (type_of s d) (type_of s e) t q in (expr_apart d y.0 y.2 w.0, expr_apart e y.0 y.3 w.1)
    expr_apart (choose a d e f) t q w = let y = if_typed (type_of s d) (type_of s e) (type_of s f) t q in (expr_apart d ty.Bool y.0 w.0, (expr_apart e t y.1 w.1.0, expr_apart f t y.2 w.1.1))
    expr_apart (pre a d) t q w = expr_apart d t q w
    expr_apart (fby a d e) t q w = let y = pair_typed (type_of s d) (type_of s e) t q in (expr_apart d t y.0 w.0, expr_apart e t y.1 w.1)
    expr_apart (arrow a d e) t q w = let y = pair_typed (type_of s d) (type_of s e) t q in (expr_apart d t y.0 w.0, expr_apart e t y.1 w.1)
    expr_apart (when_is a d c x) t q w = expr_apart d t (when_typed _ _ t q) w
    expr_apart (merge a x ps) t q w =
        let m = merge_conses s (lookup s.variables x) ps t q in
        let all = subst (λ o. Alike s o (of_parts ps)) m.1 m.2 in (
          apart_of types s g m.0 (of_parts ps) all (subst (λ cs. EachStandsOnce (all_of_type s (Some m.0)) cs) (parts_same ps) (subst (λ o. EachStandsOnce (all_of_type s o) (conses_of_parts ps)) m.1 w.0)),
          parts_apart ps t (merge_typed s (lookup s.variables x) ps t q) w.1,
        )
    expr_apart (call a f inlined es) t q w = let y = call_typed (lookup s.nodes f) (types_in s es) t q in exprs_apart es y.0.inputs y.2 w

    exprs_apart : (es : Exprs) (ds : List Decl) → IsTrue (args_fit ds (types_in s es)) → ArgumentsAreWhole s es → ExprsApart es
    exprs_apart no_expr ds q w = tt
    exprs_apart (more_exprs e es) [] q w = absurd (cc)
    exprs_apart (more_exprs e es) (d ∷ ds) q w = let y = arg_typed d ds (type_of s e) (types_in s es) q in (expr_apart e d.ty y.0 w.0, exprs_apart es ds y.1 w.1)

    parts_apart : (ps : Parts) (t : Ty) → PartsHave s t ps → PartsAreWhole s ps → PartsApart ps
    parts_apart no_part t q w = tt
    parts_apart (more_parts c e ps) t q w = (expr_apart e t q.0 w.0, parts_apart ps t q.1 w.1)

  module _ (nodes : List ℕ → Option Node) (lasts : Lasts) where
    right_apart : (ys : List (List ℕ × Span)) (e : Expr) → RightSound types nodes s lasts ys e → MergesAreWhole s e → ExprApart e
    right_apart ys (call a f inlined es) ok w = let y = row_typed (lookup s.nodes f) (types_in s es) ok.1.0 ok.1.1.0 in exprs_apart es y.0.inputs y.2 w
    right_apart ys (constant a c) ok w = tt
    right_apart ys (variable a x) ok w = tt
    right_apart ys (last_of a x) ok w = tt
    right_apart ys (one a o d) ok w = expr_apart (one a o d) ok.1.0 ok.1.1.0 w
    right_apart ys (two a o d e) ok w = expr_apart (two a o d e) ok.1.0 ok.1.1.0 w
    right_apart ys (choose a d e f) ok w = expr_apart (choose a d e f) ok.1.0 ok.1.1.0 w
    right_apart ys (pre a d) ok w = expr_apart (pre a d) ok.1.0 ok.1.1.0 w
    right_apart ys (fby a d e) ok w = expr_apart (fby a d e) ok.1.0 ok.1.1.0 w
    right_apart ys (arrow a d e) ok w = expr_apart (arrow a d e) ok.1.0 ok.1.1.0 w
    right_apart ys (when_is a d c x) ok w = expr_apart (when_is a d c x) ok.1.0 ok.1.1.0 w
    right_apart ys (merge a x ps) ok w = expr_apart (merge a x ps) ok.1.0 ok.1.1.0 w

    tests_apart : (ts : List Trans) → TestsSound types nodes s lasts ts → TransitionsAreWhole s ts → TestsApart ts
    tests_apart [] ok w = tt
    tests_apart (t ∷ ts) ok w = (expr_apart t.cond ty.Bool ok.0.1 w.0, tests_apart ts ok.1 w.1)

    condition_apart : (o : Option Expr) → ToldSound types nodes s lasts o → ConditionIsWhole s o → ConditionApart o
    condition_apart None ok w = tt
    condition_apart (Some e) ok w = expr_apart e ty.Bool ok.1 w

  -- ---- constructors

  cons_known : (n : NameScope) → Covers s n → (c : Cons) → ConsIsNamed n c → IsSome (cons_type s c)
  cons_known n k cons.False m = refl
  cons_known n k cons.True m = refl
  cons_known n k (cons.Named c) m = let q = taken (lookup s.constructors c) (k.of_constructors c m) in ap (λ o. is_some (enum_of o)) q.1

  arms_conses : (n : NameScope) → Covers s n → (t : Ty) (arms : Arms) → ArmsAreNamed n arms → ArmsAreTyped s (Some t) arms → Alike s (Some t) (of_arms arms)
  arms_conses n k t no_arm m h = tt
  arms_conses n k t (more_arms c b a arms) m h = (fits_some t (cons_type s c) (cons_known n k c m.0) h.0, arms_conses n k t arms m.1.1 h.1.1)

-- ---- the names of a scope, and those around

abbrev pub Complete : Around → Scope → Type 0
Complete G s = (x : List ℕ) (t : Ty) → lookup s.variables x ≡ Some t → G x t

pub from_scope : (ds : List Decl) (s : Scope) (x : List ℕ) (t : Ty) → lookup (with_variables s ds).variables x ≡ Some t → Declares ds x t ⊎ (lookup s.variables x ≡ Some t)
from_scope [] s x t h = inr h
from_scope (d ∷ ds) s x t h =
    ⊎_elim (λ k. inl (inr k)) (λ k. entry_cases s.variables d.name d.ty x t k (λ w. inr w) (λ e w z. inl (inl (sym e, w))))
    (from_scope ds (record s { variables = with_entry s.variables d.name d.ty }) x t h)

complete_more : (G : Around) (s : Scope) (ds : List Decl) → Complete G s → Complete (among G ds) (with_variables s ds)
complete_more G s ds c x t h = ⊎_elim (λ k. inl k) (λ k. inr (c x t k)) (from_scope ds s x t h)

module _ (known : Scope) where
  abbrev pub More : Scope → Type 0
  More s = (c t : List ℕ) → lookup s.constructors c ≡ Some t → lookup known.constructors c ≡ Some t

  pub more_variables : (ds : List Decl) (s : Scope) → More s → More (with_variables s ds)
  more_variables [] s m = m
  more_variables (d ∷ ds) s m = more_variables ds (record s { variables = with_entry s.variables d.name d.ty }) m

  pub cons_more : (s : Scope) → More s → (c : Cons) (t : Ty) → cons_type s c ≡ Some t → cons_type known c ≡ Some t
  cons_more s m cons.False t h = h
  cons_more s m cons.True t h = h
  cons_more s m (cons.Named c) t h = by (lookup s.constructors c) refl h
    where
      by : (o : Option (List ℕ)) → lookup s.constructors c ≡ o → enum_of o ≡ Some t → enum_of (lookup known.constructors c) ≡ Some t
      by None e k = absurd (cc)
      by (Some u) e k = ap enum_of (m c u e) ∙ k

  all_more : (s : Scope) → More s → (t : Ty) (cs : List Cons) → Alike s (Some t) cs → AllConses known t cs
  all_more s m t [] h = tt
  all_more s m t (c ∷ cs) h = (cons_more s m c t h.0, all_more s m t cs h.1)

module _ (types : List TypeDecl) (known : Scope) where
  module _ (s : Scope) (g : Grounds types s) (more : More known s) (n : NameScope) (k : Covers s n) (G : Around) (all : Complete G s) where
    path_around : (path : Clock) → PathIsNamed n path → PathIsTyped s path → PathAround known G path
    path_around [] m t = tt
    path_around (step ∷ path) m t =
        let q = taken (lookup s.variables step.1) (k.of_variables step.1 m.1.0) in
        let c = fits_some q.0 (cons_type s step.0) (cons_known types s g n k step.0 m.0) (subst (λ o. Fits o (cons_type s step.0)) q.1 t.0) in
        ((q.0, (all step.1 q.0 q.1, cons_more known s more step.0 q.0 c)), path_around path m.1.1 t.1)

    written_around : (o : Option Clock) → ClockIsNamed n o → ClockIsTyped s o → WrittenAround known G o
    written_around None m t = tt
    written_around (Some path) m t = path_around path m t

    decls_around : (ds : List Decl) → DeclsAreNamed n ds → DeclsAreTyped s ds → DeclsAround known G ds
    decls_around [] m t = tt
    decls_around (d ∷ ds) m t = (written_around d.clock m.0.1.1 t.0.1, decls_around ds m.1 t.1)

  module _ (nodes : List ℕ → Option Node) where
    mutual
      block_around : (b : Block) (s : Scope) (n : NameScope) (lasts : Lasts) (G : Around) → Grounds types s → More known s → Covers s n → Complete G s → BlockIsNamed n b → BlockIsTyped s b → BlockIsDefined s b → BlockSound types nodes s lasts b → BlockAround known G b
      block_around (block ds es) s n lasts G g o k c m t d ok =
          let g' = grounds_more types ds s g in
          let k' = covers_variables s n ds k in
          let o' = more_variables known ds s o in
          let c' = complete_more G s ds c in
          (decls_around (with_variables s ds) g' o' (names.with_variables n ds) k' (among G ds) c' ds m.0.1 t.0, eqns_around es (with_variables s ds) (names.with_variables n ds) (lasts_in ds lasts) (among G ds) g' o' k' c' m.1 t.1 d.0 ok.1.1)

      eqns_around : (es : Eqns) (s : Scope) (n : NameScope) (lasts : Lasts) (G : Around) → Grounds types s → More known s → Covers s n → Complete G s → EqnsAreNamed n es → EqnsAreTyped s es → EqnsAreDefined s es → EqnsSound types nodes s lasts es → EqnsAround known G es
      eqns_around no_eqn s n lasts G g o k c m t d ok = tt
      eqns_around (more_eqns e es) s n lasts G g o k c m t d ok = (eqn_around e s n lasts G g o k c m.0 t.0 d.0 ok.0, eqns_around es s n lasts G g o k c m.1 t.1 d.1 ok.1)

      eqn_around : (e : Eqn) (s : Scope) (n : NameScope) (lasts : Lasts) (G : Around) → Grounds types s → More known s → Covers s n → Complete G s → EqnIsNamed n e → EqnIsTyped s e → EqnIsDefined s e → EqnSound types nodes s lasts e → EqnAround known G e
      eqn_around (define a ys e) s n lasts G g o k c m t d ok = right_apart types s g nodes lasts ys e ok d
      eqn_around (switch a e arms) s n lasts G g o k c m t d ok =
          let u = ok.1.0.0 in
          let q = ok.1.0.1.0 in
          let all = arms_conses types s g n k u arms m.1 (subst (λ z. ArmsAreTyped s z arms) q t.1.1) in (
            expr_apart types s g e u q d.0,
            (
              (u, (all_more known s o u (of_arms arms) all, apart_of types s g u (of_arms arms) all (subst (λ cs. EachStandsOnce (all_of_type s (Some u)) cs) (arms_same arms) (subst (λ z. EachStandsOnce (all_of_type s z) (conses_of_arms arms)) q d.1.0)))),
              arms_around arms (switch a e arms) s n lasts (type_of s e) G g o k c m.1 t.1.1 d.1.1 ok.1.1,
            ),
          )
      eqn_around (reset a b e) s n lasts G g o k c m t d ok = (expr_apart types s g e ty.Bool ok.0.1 d.1, block_around b s n lasts G g o k c m.0 t.0 d.0 ok.1)
      eqn_around (automaton a ss) s n lasts G g o k c m t d ok = states_around ss (automaton a ss) s n (with_names [] (state_names ss)) lasts G g o k c m.1 t d ok

      arms_around : (arms : Arms) (w : Eqn) (s : Scope) (n : NameScope) (lasts : Lasts) (u : Option Ty) (G : Around) → Grounds types s → More known s → Covers s n → Complete G s → ArmsAreNamed n arms → ArmsAreTyped s u arms → ArmsAreDefined s arms → ArmsSound types nodes w s lasts arms → ArmsAround known G arms
      arms_around no_arm w s n lasts u G g o k c m t d ok = tt
      arms_around (more_arms x b a arms) w s n lasts u G g o k c m t d ok = (block_around b s n lasts G g o k c m.1.0 t.1.0 d.0 ok.1.0, arms_around arms w s n lasts u G g o k c m.1.1 t.1.1 d.1 ok.1.1)

      states_around : (ss : States) (w : Eqn) (s : Scope) (n : NameScope) (named : List (List ℕ)) (lasts : Lasts) (G : Around) → Grounds types s → More known s → Covers s n → Complete G s → StatesAreNamed n named ss → StatesAreTyped s ss → StatesAreDefined s ss → StatesSound types nodes w s lasts ss → StatesAround known G ss
      states_around no_state w s n named lasts G g o k c m t d ok = tt
      states_around (more_states f (block ds es) until unless a ss) w s n named lasts G g o k c m t d ok = (
        block_around (block ds es) s n lasts G g o k c m.0 t.0 d.0 ok.1.0,
        (
          tests_apart types (with_variables s ds) (grounds_more types ds s g) nodes (lasts_in ds lasts) until ok.1.1.0 d.1.0,
          (tests_apart types s g nodes lasts unless ok.1.1.1.0 d.1.1.0, states_around ss w s n named lasts G g o k c m.1.1.1 t.1.1.1 d.1.1.1 ok.1.1.1.1),
        ),
      )

  inside_grounds : (b : Block) (s : Scope) → Grounds types s → Grounds types (inside s b)
  inside_grounds (block ds es) s g = grounds_more types ds s g

  contract_around : (nodes : List ℕ → Option Node) (o : Option Contract) (s : Scope) (n : NameScope) (inputs outputs : List Decl) (lasts : Lasts) (G : Around) → Grounds types s → More known s → Covers s n → Complete G s → ContractIsNamed n o → ContractIsTyped s o → ContractIsDefined s inputs outputs o → ContractSound types nodes s lasts o
      → ContractAround known G o
  contract_around nodes None s n inputs outputs lasts G g o k c m t d ok = tt
  contract_around nodes (Some x) s n inputs outputs lasts G g o k c m t d ok =
      let r = inside s x.body in
      let g' = inside_grounds x.body s g in
      let later = lasts_of x.body lasts in (
        block_around nodes x.body s n lasts G g o k c m.0 t.0 d.0 ok.0,
        (condition_apart types r g' nodes later x.assume ok.1.0 d.1.1.1.0, condition_apart types r g' nodes later x.enforce ok.1.1 d.1.1.1.1),
      )

  -- the inputs and outputs of a node are all that its contract sees
  complete_interface : (y : Node) (s : Scope) → ((x : List ℕ) → lookup s.variables x ≡ None) → Complete (interface_of y) (inside_node s y)
  complete_interface y s empty = complete_more (among nobody y.inputs) (with_variables s y.inputs) y.outputs (complete_more nobody s y.inputs (λ x u h. absurd (let q = sym (empty x) ∙ h in cc)))

  node_contract_around : (nodes : List ℕ → Option Node) (y : Node) (s : Scope) (n : NameScope) → Grounds types s → More known s → Covers s n → ((x : List ℕ) → lookup s.variables x ≡ None) → NodeIsNamed n y → NodeIsTyped s y → NodeIsDefined s y → NodeSound types nodes s y → ContractAround known (interface_of y) y.contract
  node_contract_around nodes y s n g o k empty m t d ok =
      let g' = grounds_more types y.outputs (with_variables s y.inputs) (grounds_more types y.inputs s g) in
      let o' = more_variables known y.outputs (with_variables s y.inputs) (more_variables known y.inputs s o) in
      contract_around nodes y.contract (inside_node s y) (names.inside_node n y) y.inputs y.outputs (lasts_in y.outputs no_lasts) (interface_of y) g' o' (covers_node s n y k) (complete_interface y s empty) m.1.1.1.1.0 t.1.1.0 d.0 ok.1.1.1.1.1

  node_around : (nodes : List ℕ → Option Node) (y : Node) (s : Scope) (n : NameScope) → Grounds types s → More known s → Covers s n → ((x : List ℕ) → lookup s.variables x ≡ None) → NodeIsNamed n y → NodeIsTyped s y → NodeIsDefined s y → NodeSound types nodes s y → NodeAround known y
  node_around nodes y s n g o k empty m t d ok =
      let cs = controls_of y.contract in
      let r = inside_node s y in
      let rn = names.inside_node n y in
      let I = interface_of y in
      let g' = grounds_more types y.outputs (with_variables s y.inputs) (grounds_more types y.inputs s g) in
      let o' = more_variables known y.outputs (with_variables s y.inputs) (more_variables known y.inputs s o) in
      let k' = covers_node s n y k in
      let c' : Complete I r = complete_interface y s empty in (
        (decls_around r g' o' rn k' I c' y.inputs m.1.1.0 t.0, decls_around r g' o' rn k' I c' y.outputs m.1.1.1.0 t.1.0),
        block_around nodes y.body (body_scope s y) (names.with_variables rn cs) (lasts_in y.outputs no_lasts) (among I cs) (grounds_more types cs r g') (more_variables known cs r o') (covers_variables r rn cs k') (complete_more I r cs c') m.1.1.1.1.1.1 t.1.1.1.1 d.1.0 ok.1.1.1.1.0,
      )

-- ---- programs

pub constructors_kept : (cs : List (List ℕ)) (es : List (List ℕ × List ℕ)) (u c t : List ℕ) → lookup es c ≡ Some t → lookup (with_constructors es u cs) c ≡ Some t
constructors_kept [] es u c t h = h
constructors_kept (x ∷ cs) es u c t h = constructors_kept cs (with_entry es x u) u c t (entry_kept es x u c t h)

-- all that is known at the end
pub more_behind : (items done : List Item) → More (scope_behind (onto items done)) (scope_behind done)
more_behind [] done c t h = h
more_behind (TypeItem y ∷ items) done c t h = more_behind items (TypeItem y ∷ done) c t (constructors_kept y.cons (scope_behind done).constructors y.name c t h)
more_behind (NodeItem y ∷ items) done c t h = more_behind items (NodeItem y ∷ done) c t h

pub no_variables : (done : List Item) (x : List ℕ) → lookup (scope_behind done).variables x ≡ None
no_variables [] x = refl
no_variables (TypeItem t ∷ done) x = no_variables done x
no_variables (NodeItem n ∷ done) x = no_variables done x

pub items_around : (types before : List TypeDecl) (n : NameScope) (done items : List Item) → types ≡ before ++ types_of items → SoFar before n (scope_behind done) → Covers (scope_behind done) n → ItemsAreNamed n items → ItemsAreTyped (scope_behind done) items → ItemsAreDefined (scope_behind done) items → AllSound types done items
    → EachNode (NodeAround (scope_behind (onto items done))) items
items_around types before n done [] split p k m t d ok = tt
items_around types before n done (TypeItem y ∷ items) split p k m t d ok =
    items_around types (before ++ y ∷ []) (names.behind n (TypeItem y)) (TypeItem y ∷ done) items (split ∙ sym (append_more before y (types_of items))) (so_far_type before n (scope_behind done) y p m.0.0) (covers_behind (scope_behind done) n (TypeItem y) k) m.1 t.1 d.1 ok
items_around types before n done (NodeItem y ∷ items) split p k m t d ok =
    let s = scope_behind done in
    let g = subst (λ (ts : List TypeDecl). Grounds ts s) (sym split) (grounds_of before (types_of items) n s p) in (
      node_around types (scope_behind (onto (NodeItem y ∷ items) done)) (node_among done) y s n g (more_behind (NodeItem y ∷ items) done) k (no_variables done) m.0.1 t.0 d.0 ok.0.1.1,
      items_around types before (names.behind n (NodeItem y)) (NodeItem y ∷ done) items split (so_far_node before n s y p) (covers_behind s n (NodeItem y) k) m.1 t.1 d.1 ok.1,
    )

pub items_contracts_around : (types before : List TypeDecl) (n : NameScope) (done items : List Item) → types ≡ before ++ types_of items → SoFar before n (scope_behind done) → Covers (scope_behind done) n → ItemsAreNamed n items → ItemsAreTyped (scope_behind done) items → ItemsAreDefined (scope_behind done) items → AllSound types done items
    → EachNode (λ (y : Node). ContractAround (scope_behind (onto items done)) (interface_of y) y.contract) items
items_contracts_around types before n done [] split p k m t d ok = tt
items_contracts_around types before n done (TypeItem y ∷ items) split p k m t d ok =
    items_contracts_around types (before ++ y ∷ []) (names.behind n (TypeItem y)) (TypeItem y ∷ done) items (split ∙ sym (append_more before y (types_of items))) (so_far_type before n (scope_behind done) y p m.0.0) (covers_behind (scope_behind done) n (TypeItem y) k) m.1 t.1 d.1 ok
items_contracts_around types before n done (NodeItem y ∷ items) split p k m t d ok =
    let s = scope_behind done in
    let g = subst (λ (ts : List TypeDecl). Grounds ts s) (sym split) (grounds_of before (types_of items) n s p) in (
      node_contract_around types (scope_behind (onto (NodeItem y ∷ items) done)) (node_among done) y s n g (more_behind (NodeItem y ∷ items) done) k (no_variables done) m.0.1 t.0 d.0 ok.0.1.1,
      items_contracts_around types before (names.behind n (NodeItem y)) (NodeItem y ∷ done) items split (so_far_node before n s y p) (covers_behind s n (NodeItem y) k) m.1 t.1 d.1 ok.1,
    )
