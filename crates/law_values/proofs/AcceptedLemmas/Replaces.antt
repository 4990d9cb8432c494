-- Expressions whose inlined calls are replaced keep their types, and the new equations are sound.
use Rattle.std.proofs.Common.{◌≡◌, ℕ, suc, ◌≤◌, List, [], ◌∷◌, ◌++◌, map, refl, sym, ap, ap₂, subst, ◌∙◌, ◌⊎◌, inl, inr, ⊎_elim}
use Rattle.std.specs.Prelude.{⊤, Bool, true, false, ◌&&◌, ◌||◌, is_some, IsTrue, IsFalse, if◌then◌else◌, Option, None, Some}
use Rattle.std.specs.Str.{bytes_eq}
use Rattle.hp_base.specs.declared.span.Span.{Span}
use Rattle.hp_base.specs.declared.ty.Ty.{Ty}
use Rattle.hp_tree.specs.declared.decl.Cons.{Cons}
use Rattle.hp_tree.specs.declared.block.Trans.{Trans}
use Rattle.hp_tree.specs.Expressions.{Expr, constant, variable, last_of, one, two, choose, pre, fby, arrow, when_is, merge, call, Exprs, no_expr, more_exprs, Parts, no_part, more_parts}
use Rattle.hp_tree.specs.Blocks.{Decl, Block, block, Eqns, no_eqn, more_eqns, Eqn, define, switch, reset, automaton, eqns_of, list_of_eqns}
use Rattle.hp_tree.specs.Programs.{TypeDecl, Contract, Node}
use Rattle.hp_tree.specs.Meaning.{declares, controls_of}
use Rattle.hp_base.specs.Known.Known.{lookup}
use Rattle.hp_typing.specs.Scopes.{with_variables, inside_node}
use Rattle.hp_typing.specs.Types.{type_of, types_in, type_of_one, args_fit, single, outputs_in}
use Rattle.law_judged.specs.Named.Scopes.{Scope}
use Rattle.law_judged.specs.Named.Scoped.{Names, no_names, also, AreFresh, BlockScoped, EqnsScoped, interface, NodeScoped}
use Rattle.law_judged.proofs.NamedLemmas.Sets.{or_cases, or_left, or_right, same_name, name_same}
use Rattle.hp_expand.specs.NewNames.{marked}
use Rattle.hp_expand.specs.Renaming.{renamed, renamed_exprs, renamed_parts, renamed_decl, renamed_decls, renamed_left, renamed_transition, renamed_block, renamed_eqns, renamed_eqn, renamed_arms, renamed_states}
use Rattle.hp_expand.specs.Replacing.{given, locals_of, equations_of, names_of, output_at, inlined_call, in_expr, in_exprs, in_parts}
use Rattle.law_judged.proofs.ReplacedLemmas.Good.{same_eqns, declared_cases}
use Rattle.law_values.specs.Valued.Judged.{Lasts, lasts_in, no_lasts, body_scope, of_parts, LeftsAre, LeftsHave, HaveOwnTypes, ExprSound, ExprsSound, PartsSound, RightSound, TestSound, TestsSound, DeclsSound, BlockSound, EqnsSound, NodeSound}
use Rattle.law_values.proofs.ValuedLemmas.Scoped.{still_known, not_declared}
use Rattle.law_values.proofs.ValuedLemmas.Typed.{some_is, agreed, where_is, one_typed, two_typed, if_typed, pair_typed, when_typed, call_typed, row_typed, merge_typed, PartsHave, arg_typed}
use Rattle.law_values.proofs.AcceptedLemmas.Views.{some_same, true_false, cases, declared_type, last_among}
use Rattle.law_values.proofs.AcceptedLemmas.Keeps.{Kept, KeptName, Grows, constant_kept, one_kept, two_kept, if_kept, pair_kept, when_kept, ArgsKept, args_kept, outputs_kept, call_kept, PartsKept, merge_kept, parts_conses, covers_kept}
use Rattle.law_values.proofs.AcceptedLemmas.Moves.{Undeclared, BlockSaid, EqnsSaid, EqnSaid, ArmsSaid, StatesSaid, Place, grows_more, lasts_cases, last_renamed, last_known, names_said, eqns_moved}
use Rattle.hp_tree.specs.Blocks.{Arms, no_arm, more_arms, States, no_state, more_states}

-- ---- all names said otherwise

module _ (to : List ℕ → List ℕ) where
  mutual
    block_said : (b : Block) → BlockSaid to b (renamed_block to b)
    block_said (block ds es) = (to, (renamed_eqns to es, (refl, ((λ x h. refl), eqns_said es))))

    pub eqns_said : (es : Eqns) → EqnsSaid to es (renamed_eqns to es)
    eqns_said no_eqn = refl
    eqns_said (more_eqns e es) = (renamed_eqn to e, (renamed_eqns to es, (refl, (eqn_said e, eqns_said es))))

    eqn_said : (e : Eqn) → EqnSaid to e (renamed_eqn to e)
    eqn_said (define s ys e) = refl
    eqn_said (switch s e arms) = (renamed_arms to arms, (refl, arms_said arms))
    eqn_said (reset s b e) = (renamed_block to b, (refl, block_said b))
    eqn_said (automaton s ss) = (renamed_states to ss, (refl, states_said ss))

    arms_said : (arms : Arms) → ArmsSaid to arms (renamed_arms to arms)
    arms_said no_arm = refl
    arms_said (more_arms c b s arms) = (renamed_block to b, (renamed_arms to arms, (refl, (block_said b, arms_said arms))))

    states_said : (ss : States) → StatesSaid to ss (renamed_states to ss)
    states_said no_state = refl
    states_said (more_states f (block ds es) until unless s ss) = (to, (renamed_eqns to es, (renamed_states to ss, (refl, ((λ x h. refl), (eqns_said es, states_said ss))))))

-- ---- lists one after another

module _ (types : List TypeDecl) (among : List ℕ → Option Node) where
  pub own_first : (r : Scope) (ds es : List Decl) → HaveOwnTypes types among r (ds ++ es) → HaveOwnTypes types among r ds
  own_first r [] es h = tt
  own_first r (d ∷ ds) es h = (h.0, own_first r ds es h.1)

  pub own_then : (r : Scope) (ds es : List Decl) → HaveOwnTypes types among r (ds ++ es) → HaveOwnTypes types among r es
  own_then r [] es h = h
  own_then r (d ∷ ds) es h = own_then r ds es h.1

  pub own_both : (r : Scope) (ds es : List Decl) → HaveOwnTypes types among r ds → HaveOwnTypes types among r es → HaveOwnTypes types among r (ds ++ es)
  own_both r [] es h k = k
  own_both r (d ∷ ds) es h k = (h.0, own_both r ds es h.1 k)

  pub sound_append : (r : Scope) (lasts : Lasts) (a b : List Eqn) → EqnsSound types among r lasts (eqns_of a) → EqnsSound types among r lasts (eqns_of b) → EqnsSound types among r lasts (eqns_of (a ++ b))
  sound_append r lasts [] b h k = k
  sound_append r lasts (e ∷ a) b h k = (h.0, sound_append r lasts a b h.1 k)

pub scoped_first : (after owned : Names) (a b : List Eqn) → EqnsScoped after owned (eqns_of (a ++ b)) → EqnsScoped after owned (eqns_of a)
scoped_first after owned [] b h = tt
scoped_first after owned (e ∷ a) b h = (h.0, scoped_first after owned a b h.1)

pub scoped_then : (after owned : Names) (a b : List Eqn) → EqnsScoped after owned (eqns_of (a ++ b)) → EqnsScoped after owned (eqns_of b)
scoped_then after owned [] b h = h
scoped_then after owned (e ∷ a) b h = scoped_then after owned a b h.1

pub last_first : (ds es : List Decl) (x : List ℕ) → IsTrue (last_among ds x) → IsTrue (last_among (ds ++ es) x)
last_first [] es x h = absurd (cc)
last_first (d ∷ ds) es x h =
    ⊎_elim (λ k. or_left (bytes_eq d.name x && is_some d.last) (last_among (ds ++ es) x) k) (λ k. or_right (bytes_eq d.name x && is_some d.last) (last_among (ds ++ es) x) (last_first ds es x k))
    (or_cases (bytes_eq d.name x && is_some d.last) (last_among ds x) h)

pub last_then : (ds es : List Decl) (x : List ℕ) → IsTrue (last_among es x) → IsTrue (last_among (ds ++ es) x)
last_then [] es x h = h
last_then (d ∷ ds) es x h = or_right (bytes_eq d.name x && is_some d.last) (last_among (ds ++ es) x) (last_then ds es x h)

abbrev pub OwnLasts : Lasts → List Decl → Type 0
OwnLasts lasts ds = (x : List ℕ) → IsTrue (last_among ds x) → IsTrue (lasts x)

pub renamed_append : (to : List ℕ → List ℕ) (ds es : List Decl) → renamed_decls to (ds ++ es) ≡ renamed_decls to ds ++ renamed_decls to es
renamed_append to [] es = refl
renamed_append to (d ∷ ds) es = ap (λ z. renamed_decl to d ∷ z) (renamed_append to ds es)

-- ---- a node that is called, in the new scope

pub record Called (types : List TypeDecl) (among : List ℕ → Option Node) (r : Scope) (m : Node) : Type 0 where
  pub scope : Scope
  pub before : List ℕ → Option Node
  pub sound : NodeSound types before scope m
  pub scoped : NodeScoped m
  pub uncontrolled : controls_of m.contract ≡ []
  pub grows : Grows types among scope r
  pub outside : (x : List ℕ) → lookup scope.variables x ≡ None

and_true : (a b : Bool) → IsFalse (a || b) → IsFalse a × IsFalse b
and_true true b h = absurd (cc)
and_true false b h = (refl, h)

module _ (types : List TypeDecl) (among among' : List ℕ → Option Node) (r : Scope) (lasts' : Lasts) (after owned : Names) (none : (y : List ℕ) → IsFalse (after y) → lookup r.variables y ≡ None) where
  -- the equations of a node, its names marked
  module _ (m : Node) (c : Called types among r m) (ds : List Decl) (es : Eqns) (sound : BlockSound types c.before (with_variables (inside_node c.scope m) (controls_of m.contract)) (lasts_in m.outputs no_lasts) (block ds es)) (scoped : BlockScoped (also (interface m) (controls_of m.contract)) (also no_names m.outputs) (block ds es)) (k : ℕ) (own : HaveOwnTypes types among r (renamed_decls (marked k) (m.inputs ++ (m.outputs ++ ds)))) (lasting : OwnLasts lasts' (renamed_decls (marked k) (m.inputs ++ (m.outputs ++ ds)))) where
    abbrev all : List Decl
    all = m.inputs ++ (m.outputs ++ ds)

    abbrev body : Scope
    body = body_scope c.scope m

    abbrev inner : Scope
    inner = with_variables body ds

    own_kept : (fs : List Decl) → HaveOwnTypes types c.before body fs → HaveOwnTypes types c.before inner fs
    own_kept [] o = tt
    own_kept (d ∷ fs) o = (still_known d.name ds body d.ty o.0, own_kept fs o.1)

    own_decls : (fs : List Decl) → DeclsSound types c.before inner es fs → HaveOwnTypes types c.before inner fs
    own_decls [] o = tt
    own_decls (d ∷ fs) o = (o.0.0, own_decls fs o.1)

    own_all : HaveOwnTypes types c.before inner all
    own_all = own_both types c.before inner m.inputs (m.outputs ++ ds) (own_kept m.inputs c.sound.1.0.0) (own_both types c.before inner m.outputs ds (own_kept m.outputs c.sound.1.0.1) (own_decls ds sound.0))

    abbrev seen : Names
    seen = also (also (interface m) (controls_of m.contract)) ds

    no_control : (x : List ℕ) → IsTrue (declares (controls_of m.contract) x) → ⊥
    no_control x h = absurd (let q : IsTrue (declares [] x) = subst (λ z. IsTrue (declares z x)) c.uncontrolled h in cc)

    declared_here : (x : List ℕ) → IsTrue (seen x) → IsTrue (declares all x)
    declared_here x h =
        ⊎_elim (λ d. later x d)
        (λ a. ⊎_elim (λ q. absurd (no_control x q))
        (λ i. ⊎_elim (λ o. output x o) (λ n. ⊎_elim (λ j. input x j) (λ f. absurd (cc)) (or_cases (declares m.inputs x) false n)) (or_cases (declares m.outputs x) (also no_names m.inputs x) i))
        (or_cases (declares (controls_of m.contract) x) (interface m x) a))
        (or_cases (declares ds x) (also (interface m) (controls_of m.contract) x) h)
      where
        append_then : (a b : List Decl) → IsTrue (declares b x) → IsTrue (declares (a ++ b) x)
        append_then [] b q = q
        append_then (d ∷ a) b q = or_right (bytes_eq d.name x) (declares (a ++ b) x) (append_then a b q)

        append_first : (a b : List Decl) → IsTrue (declares a x) → IsTrue (declares (a ++ b) x)
        append_first [] b q = absurd (cc)
        append_first (d ∷ a) b q = ⊎_elim (λ l. or_left (bytes_eq d.name x) (declares (a ++ b) x) l) (λ l. or_right (bytes_eq d.name x) (declares (a ++ b) x) (append_first a b l)) (or_cases (bytes_eq d.name x) (declares a x) q)

        later : (x' : List ℕ) → IsTrue (declares ds x) → IsTrue (declares all x)
        later x' d = append_then m.inputs (m.outputs ++ ds) (append_then m.outputs ds d)

        output : (x' : List ℕ) → IsTrue (declares m.outputs x) → IsTrue (declares all x)
        output x' d = append_then m.inputs (m.outputs ++ ds) (append_first m.outputs ds d)

        input : (x' : List ℕ) → IsTrue (declares m.inputs x) → IsTrue (declares all x)
        input x' d = append_first m.inputs (m.outputs ++ ds) d

    unseen : (x : List ℕ) → IsFalse (seen x) → lookup inner.variables x ≡ None
    unseen x h =
        let a = and_true (declares ds x) (also (interface m) (controls_of m.contract) x) h in
        let b = and_true (declares (controls_of m.contract) x) (interface m x) a.1 in
        let o = and_true (declares m.outputs x) (also no_names m.inputs x) b.1 in
        let i = and_true (declares m.inputs x) false o.1 in
        not_declared x ds body a.0 ∙ not_declared x (controls_of m.contract) (inside_node c.scope m) b.0 ∙ not_declared x m.outputs (with_variables c.scope m.inputs) o.0 ∙ not_declared x m.inputs c.scope i.0 ∙ c.outside x

    grows_inner : Grows types among inner r
    grows_inner =
        let g1 = grows_more types among m.inputs [] c.scope r c.grows in
        let g2 = grows_more types among m.outputs [] (with_variables c.scope m.inputs) r g1 in
        let g3 = grows_more types among (controls_of m.contract) [] (inside_node c.scope m) r g2 in
        grows_more types among ds [] body r g3

    abbrev lasts : Lasts
    lasts = lasts_in ds (lasts_in m.outputs no_lasts)

    last_all : (x : List ℕ) → IsTrue (lasts x) → IsTrue (last_among all x)
    last_all x h =
        ⊎_elim (λ l. last_then m.inputs (m.outputs ++ ds) x (last_then m.outputs ds x l))
        (λ l. ⊎_elim (λ q. last_then m.inputs (m.outputs ++ ds) x (last_first m.outputs ds x q)) (λ q. absurd (cc)) (lasts_cases m.outputs no_lasts x l))
        (lasts_cases ds (lasts_in m.outputs no_lasts) x h)

    declared_seen : (x : List ℕ) → IsTrue (declares all x) → IsTrue (seen x)
    declared_seen x h =
        let outer = also (interface m) (controls_of m.contract) x in
        ⊎_elim (λ i. or_right (declares ds x) outer (or_right (declares (controls_of m.contract) x) (interface m x) (or_right (declares m.outputs x) (also no_names m.inputs x) (or_left (declares m.inputs x) false i))))
        (λ l. ⊎_elim (λ o. or_right (declares ds x) outer (or_right (declares (controls_of m.contract) x) (interface m x) (or_left (declares m.outputs x) (also no_names m.inputs x) o))) (λ d. or_left (declares ds x) outer d) (declared_cases m.outputs ds x l))
        (declared_cases m.inputs (m.outputs ++ ds) x h)

    name_kept : (x : List ℕ) → KeptName inner r x (marked k x)
    name_kept x t h =
        cases (seen x) (λ l. names_said types among c.before (marked k) inner r all x t own_all own (declared_here x l) h) (λ f. absurd (let e = sym (unseen x f) ∙ h in cc))

    place : Place types among (marked k) inner r lasts lasts' seen (also (also no_names m.outputs) ds) after
    place = record {
      grows = grows_inner;
      names = name_kept;
      lasting = λ x h. lasting (marked k x) (last_renamed (marked k) all x (last_all x h));
      last_seen = λ x h. declared_seen x (last_known all x (last_all x h));
      own_seen = λ x h. ⊎_elim (λ d. or_left (declares ds x) (also (interface m) (controls_of m.contract) x) d)
          (λ o. or_right (declares ds x) (also (interface m) (controls_of m.contract) x) (or_right (declares (controls_of m.contract) x) (interface m x) (or_left (declares m.outputs x) (also no_names m.inputs x) (⊎_elim (λ q. q) (λ q. absurd (cc)) (or_cases (declares m.outputs x) false o)))))
          (or_cases (declares ds x) (also no_names m.outputs x) h);
      known = λ x h. declared_type types c.before inner all x own_all (declared_here x h);
      unknown = unseen;
      none = none;
    }

    pub body_sound : EqnsScoped after owned (renamed_eqns (marked k) es) → EqnsSound types among r lasts' (renamed_eqns (marked k) es)
    body_sound sc = eqns_moved types among c.before owned place es (renamed_eqns (marked k) es) (eqns_said (marked k) es) scoped.3 sc sound.1.1

  -- ---- arguments that become inputs

  sound_right : (y : List ℕ) (at : Span) (e : Expr) (t : Ty) → ExprSound types among r lasts' e → type_of r e ≡ Some t → lookup r.variables y ≡ Some t → RightSound types among r lasts' ((y, at) ∷ []) e
  sound_right y at (call a f i es) t ok h l = (ok, by (outputs_in (lookup r.nodes f) (types_in r es)) refl h)
    where
      by : (o : Option (List Decl)) → outputs_in (lookup r.nodes f) (types_in r es) ≡ o → single o ≡ Some t → (outs : List Decl) × ((outputs_in (lookup r.nodes f) (types_in r es) ≡ Some outs) × LeftsAre r ((y, at) ∷ []) outs)
      by None e k = absurd (cc)
      by (Some []) e k = absurd (cc)
      by (Some (d ∷ [])) e k = (d ∷ [], (e, (l ∙ sym k, tt)))
      by (Some (d ∷ b ∷ ds)) e k = absurd (cc)
  sound_right y at (constant a c) t ok h l = (ok, (t, (h, (l, tt))))
  sound_right y at (variable a c) t ok h l = (ok, (t, (h, (l, tt))))
  sound_right y at (last_of a c) t ok h l = (ok, (t, (h, (l, tt))))
  sound_right y at (one a o b) t ok h l = (ok, (t, (h, (l, tt))))
  sound_right y at (two a o b c) t ok h l = (ok, (t, (h, (l, tt))))
  sound_right y at (choose a b c d) t ok h l = (ok, (t, (h, (l, tt))))
  sound_right y at (pre a b) t ok h l = (ok, (t, (h, (l, tt))))
  sound_right y at (fby a b c) t ok h l = (ok, (t, (h, (l, tt))))
  sound_right y at (arrow a b c) t ok h l = (ok, (t, (h, (l, tt))))
  sound_right y at (when_is a b c x) t ok h l = (ok, (t, (h, (l, tt))))
  sound_right y at (merge a x ps) t ok h l = (ok, (t, (h, (l, tt))))

  given_sound : (k : ℕ) (ds : List Decl) (es : Exprs) → HaveOwnTypes types among r (renamed_decls (marked k) ds) → ExprsSound types among r lasts' es → IsTrue (args_fit ds (types_in r es)) → EqnsSound types among r lasts' (eqns_of (given (renamed_decls (marked k) ds) es))
  given_sound k [] es o ok h = tt
  given_sound k (d ∷ ds) no_expr o ok h = tt
  given_sound k (d ∷ ds) (more_exprs e es) o ok h =
      let q = arg_typed d ds (type_of r e) (types_in r es) h in
      (sound_right (marked k d.name) d.span e d.ty ok.0 q.0 o.0, given_sound k ds es o.1 ok.1 q.1)

  -- ---- expressions

  module _ (s : Scope) (lasts : Lasts) (g : Grows types among s r) (names : (x : List ℕ) → KeptName s r x x) (lasting : (x : List ℕ) → IsTrue (lasts x) → IsTrue (lasts' x)) (nodes : List ℕ → Node) (called : (f : List ℕ) (n : Node) → lookup s.nodes f ≡ Some n → ((nodes f).inputs ≡ n.inputs) × ((nodes f).outputs ≡ n.outputs)) where
    abbrev pub Inlined : List ℕ → Bool → Type 0
    Inlined f false = ⊤
    Inlined f true = Called types among r (nodes f)

    -- each node that is inlined may be
    abbrev mutual
      pub ExprCalls : Expr → Type 0
      ExprCalls (constant a c) = ⊤
      ExprCalls (variable a x) = ⊤
      ExprCalls (last_of a x) = ⊤
      ExprCalls (one a o b) = ExprCalls b
      ExprCalls (two a o b c) = ExprCalls b × ExprCalls c
      ExprCalls (choose a b c d) = ExprCalls b × (ExprCalls c × ExprCalls d)
      ExprCalls (pre a b) = ExprCalls b
      ExprCalls (fby a b c) = ExprCalls b × ExprCalls c
      ExprCalls (arrow a b c) = ExprCalls b × ExprCalls c
      ExprCalls (when_is a b c x) = ExprCalls b
      ExprCalls (merge a x ps) = PartsCall ps
      ExprCalls (call a f i es) = Inlined f i × ExprsCall es

      pub ExprsCall : Exprs → Type 0
      ExprsCall no_expr = ⊤
      ExprsCall (more_exprs e es) = ExprCalls e × ExprsCall es

      pub PartsCall : Parts → Type 0
      PartsCall no_part = ⊤
      PartsCall (more_parts c e ps) = ExprCalls e × PartsCall ps

    -- what is asked of new variables and equations
    abbrev pub Allows : List Decl → List Eqn → Type 0
    Allows ds es = HaveOwnTypes types among r ds × (OwnLasts lasts' ds × EqnsScoped after owned (eqns_of es))

    allows_first : (a b : List Decl) (es fs : List Eqn) → Allows (a ++ b) (es ++ fs) → Allows a es
    allows_first a b es fs h = (own_first types among r a b h.0, ((λ x l. h.1.0 x (last_first a b x l)), scoped_first after owned es fs h.1.1))

    allows_then : (a b : List Decl) (es fs : List Eqn) → Allows (a ++ b) (es ++ fs) → Allows b fs
    allows_then a b es fs h = (own_then types among r a b h.0, ((λ x l. h.1.0 x (last_then a b x l)), scoped_then after owned es fs h.1.1))

    abbrev pub New : List Eqn → Type 0
    New es = EqnsSound types among r lasts' (eqns_of es)

    abbrev pub FineExpr : Expr → Expr → List Eqn → Type 0
    FineExpr e a es = (Kept (type_of s e) (type_of r a) × ExprSound types among r lasts' a) × New es

    made : (m : Node) → Called types among r m → (k : ℕ) (args : List Eqn) (es : Exprs) → HaveOwnTypes types among r (renamed_decls (marked k) (m.inputs ++ (m.outputs ++ locals_of m.body))) → OwnLasts lasts' (renamed_decls (marked k) (m.inputs ++ (m.outputs ++ locals_of m.body))) → EqnsScoped after owned (eqns_of (args ++ (given (renamed_decls (marked k) m.inputs) es ++ list_of_eqns (renamed_eqns (marked k) (equations_of m.body))))) → New args → ExprsSound types among r lasts' es → IsTrue (args_fit m.inputs (types_in r es)) → New (args ++ (given (renamed_decls (marked k) m.inputs) es ++ list_of_eqns (renamed_eqns (marked k) (equations_of m.body))))
    made m c k args es own last sc new ok fit =
        let told = given (renamed_decls (marked k) m.inputs) es in
        let sc1 = scoped_then after owned args (told ++ list_of_eqns (renamed_eqns (marked k) (equations_of m.body))) sc in
        let ins : HaveOwnTypes types among r (renamed_decls (marked k) m.inputs) = own_first types among r (renamed_decls (marked k) m.inputs) (renamed_decls (marked k) (m.outputs ++ locals_of m.body)) (subst (λ z. HaveOwnTypes types among r z) (renamed_append (marked k) m.inputs (m.outputs ++ locals_of m.body)) own) in
        sound_append types among r lasts' args (told ++ list_of_eqns (renamed_eqns (marked k) (equations_of m.body))) new
        (sound_append types among r lasts' told (list_of_eqns (renamed_eqns (marked k) (equations_of m.body)))
        (given_sound k m.inputs es ins ok fit)
        (by m.body c.sound.1.1.1.1.0 c.scoped.body own last (scoped_then after owned told (list_of_eqns (renamed_eqns (marked k) (equations_of m.body))) sc1)))
      where
        by : (b : Block) → BlockSound types c.before (with_variables (inside_node c.scope m) (controls_of m.contract)) (lasts_in m.outputs no_lasts) b → BlockScoped (also (interface m) (controls_of m.contract)) (also no_names m.outputs) b → HaveOwnTypes types among r (renamed_decls (marked k) (m.inputs ++ (m.outputs ++ locals_of b))) → OwnLasts lasts' (renamed_decls (marked k) (m.inputs ++ (m.outputs ++ locals_of b))) → EqnsScoped after owned (eqns_of (list_of_eqns (renamed_eqns (marked k) (equations_of b)))) → New (list_of_eqns (renamed_eqns (marked k) (equations_of b)))
        by (block ds qs) sound scoped o l h =
            subst (λ z. EqnsSound types among r lasts' z) (sym (same_eqns (renamed_eqns (marked k) qs)))
            (body_sound m c ds qs sound scoped k o l (subst (λ z. EqnsScoped after owned z) (same_eqns (renamed_eqns (marked k) qs)) h))

    first_own : (k : ℕ) (ins outs ds : List Decl) → HaveOwnTypes types among r (renamed_decls (marked k) (ins ++ (outs ++ ds))) → HaveOwnTypes types among r (renamed_decls (marked k) outs)
    first_own k ins outs ds o =
        own_first types among r (renamed_decls (marked k) outs) (renamed_decls (marked k) ds)
        (subst (λ z. HaveOwnTypes types among r z) (renamed_append (marked k) outs ds)
        (own_then types among r (renamed_decls (marked k) ins) (renamed_decls (marked k) (outs ++ ds))
        (subst (λ z. HaveOwnTypes types among r z) (renamed_append (marked k) ins (outs ++ ds)) o)))

    output_typed : (k : ℕ) (a : Span) (outs : List Decl) (t : Ty) → HaveOwnTypes types among r (renamed_decls (marked k) outs) → single (Some outs) ≡ Some t → type_of r (output_at a (names_of (renamed_decls (marked k) outs))) ≡ Some t
    output_typed k a [] t o h = absurd (cc)
    output_typed k a (d ∷ []) t o h = o.0 ∙ h
    output_typed k a (d ∷ b ∷ ds) t o h = absurd (cc)

    output_sound : (a : Span) (ys : List (List ℕ)) → ExprSound types among r lasts' (output_at a ys)
    output_sound a [] = tt
    output_sound a (y ∷ ys) = tt

    -- the outputs of a call, by the node that is inlined
    call_outputs : (f : List ℕ) (es : Exprs) (outs : List Decl) → outputs_in (lookup s.nodes f) (types_in s es) ≡ Some outs → (IsTrue (args_fit (nodes f).inputs (types_in s es))) × ((nodes f).outputs ≡ outs)
    call_outputs f es outs h =
        let q = row_typed (lookup s.nodes f) (types_in s es) outs h in
        let c = called f q.0 q.1 in
        (subst (λ z. IsTrue (args_fit z (types_in s es))) (sym c.0) q.2, c.1 ∙ q.3)

    abbrev new_locals : ℕ → List ℕ → Exprs → List Decl
    new_locals k f es = renamed_decls (marked (in_exprs nodes k es).next) ((nodes f).inputs ++ ((nodes f).outputs ++ locals_of (nodes f).body))

    abbrev new_eqns : ℕ → List ℕ → Exprs → List Eqn
    new_eqns k f es =
        given (renamed_decls (marked (in_exprs nodes k es).next) (nodes f).inputs) (in_exprs nodes k es).part
        ++ list_of_eqns (renamed_eqns (marked (in_exprs nodes k es).next) (equations_of (nodes f).body))

    abbrev pub FineArgs : Exprs → Exprs → List Eqn → Type 0
    FineArgs es as' new = (ArgsKept types among s r g es as' × ExprsSound types among r lasts' as') × New new

    -- the new equations of an inlined call
    pub inlined_new : (k : ℕ) (f : List ℕ) (es : Exprs) (outs : List Decl) → outputs_in (lookup s.nodes f) (types_in s es) ≡ Some outs → Called types among r (nodes f) → Allows ((in_exprs nodes k es).locals ++ new_locals k f es) ((in_exprs nodes k es).before ++ new_eqns k f es) → FineArgs es (in_exprs nodes k es).part (in_exprs nodes k es).before → New ((in_exprs nodes k es).before ++ new_eqns k f es) × HaveOwnTypes types among r (renamed_decls (marked (in_exprs nodes k es).next) outs)
    inlined_new k f es outs h c al args =
        let m = nodes f in
        let a = in_exprs nodes k es in
        let o = own_then types among r a.locals (new_locals k f es) al.0 in
        let q = call_outputs f es outs h in (
          made m c a.next a.before a.part o (λ x l. al.1.0 x (last_then a.locals (new_locals k f es) x l)) al.1.1 args.1 args.0.1 (args_kept types among s r g m.inputs es a.part args.0.0 q.0),
          subst (λ z. HaveOwnTypes types among r (renamed_decls (marked a.next) z)) q.1 (first_own a.next m.inputs m.outputs (locals_of m.body) o),
        )

    inlined_fine : (k : ℕ) (a : Span) (f : List ℕ) (es : Exprs) (t : Ty) → single (outputs_in (lookup s.nodes f) (types_in s es)) ≡ Some t → Called types among r (nodes f) → Allows ((in_exprs nodes k es).locals ++ new_locals k f es) ((in_exprs nodes k es).before ++ new_eqns k f es) → (IsTrue (args_fit (nodes f).inputs (types_in s es)) → FineArgs es (in_exprs nodes k es).part (in_exprs nodes k es).before)
        → FineExpr (call a f true es) (output_at a (names_of (renamed_decls (marked (in_exprs nodes k es).next) (nodes f).outputs))) ((in_exprs nodes k es).before ++ new_eqns k f es)
    inlined_fine k a f es t h c al args = by (outputs_in (lookup s.nodes f) (types_in s es)) refl h
      where
        by : (o : Option (List Decl)) → outputs_in (lookup s.nodes f) (types_in s es) ≡ o → single o ≡ Some t → FineExpr (call a f true es) (output_at a (names_of (renamed_decls (marked (in_exprs nodes k es).next) (nodes f).outputs))) ((in_exprs nodes k es).before ++ new_eqns k f es)
        by None e m = absurd (cc)
        by (Some outs) e m =
            let q = call_outputs f es outs e in
            let n = inlined_new k f es outs e c al (args q.0) in (
              (
                (λ u z. subst (λ w. type_of r (output_at a (names_of (renamed_decls (marked (in_exprs nodes k es).next) w))) ≡ Some u) (sym q.1) (output_typed (in_exprs nodes k es).next a outs u n.1 (ap single (sym e) ∙ z))),
                output_sound a (names_of (renamed_decls (marked (in_exprs nodes k es).next) (nodes f).outputs)),
              ),
              n.0,
            )

    mutual
      pub fine_expr : (k : ℕ) (e : Expr) (t : Ty) → type_of s e ≡ Some t → ExprSound types among' s lasts e → ExprCalls e → Allows (in_expr nodes k e).locals (in_expr nodes k e).before → FineExpr e (in_expr nodes k e).part (in_expr nodes k e).before
      fine_expr k (constant a c) t h ok cs al = ((constant_kept types among s r g c, g.constants c), tt)
      fine_expr k (variable a x) t h ok cs al = ((names x, tt), tt)
      fine_expr k (last_of a x) t h ok cs al = ((names x, lasting x ok), tt)
      fine_expr k (one a o b) t h ok cs al =
          let q = one_typed (type_of_one o) (type_of s b) t h in
          let f = fine_expr k b (type_of_one o) q.0 ok cs al in
          ((one_kept types among s r g (type_of_one o) (type_of s b) (type_of r (in_expr nodes k b).part) f.0.0, f.0.1), f.1)
      fine_expr k (two a o b c) t h ok cs al =
          let q = two_typed o (type_of s b) (type_of s c) t h in
          let i = in_expr nodes k b in
          let j = in_expr nodes i.next c in
          let f = fine_expr k b q.0 q.2 ok.0 cs.0 (allows_first i.locals j.locals i.before j.before al) in
          let l = fine_expr i.next c q.0 q.3 ok.1 cs.1 (allows_then i.locals j.locals i.before j.before al) in
          ((two_kept types among s r g o (type_of s b) (type_of s c) (type_of r i.part) (type_of r j.part) f.0.0 l.0.0, (f.0.1, l.0.1)), sound_append types among r lasts' i.before j.before f.1 l.1)
      fine_expr k (choose a b c d) t h ok cs al =
          let q = if_typed (type_of s b) (type_of s c) (type_of s d) t h in
          let i = in_expr nodes k b in
          let j = in_expr nodes i.next c in
          let m = in_expr nodes j.next d in
          let al1 = allows_then i.locals (j.locals ++ m.locals) i.before (j.before ++ m.before) al in
          let f = fine_expr k b _ q.0 ok.0 cs.0 (allows_first i.locals (j.locals ++ m.locals) i.before (j.before ++ m.before) al) in
          let l = fine_expr i.next c t q.1 ok.1.0 cs.1.0 (allows_first j.locals m.locals j.before m.before al1) in
          let n = fine_expr j.next d t q.2 ok.1.1 cs.1.1 (allows_then j.locals m.locals j.before m.before al1) in (
            (if_kept types among s r g (type_of s b) (type_of s c) (type_of s d) (type_of r i.part) (type_of r j.part) (type_of r m.part) f.0.0 l.0.0 n.0.0, (f.0.1, (l.0.1, n.0.1))),
            sound_append types among r lasts' i.before (j.before ++ m.before) f.1 (sound_append types among r lasts' j.before m.before l.1 n.1),
          )
      fine_expr k (pre a b) t h ok cs al = let f = fine_expr k b t h ok cs al in f
      fine_expr k (fby a b c) t h ok cs al =
          let q = pair_typed (type_of s b) (type_of s c) t h in
          let i = in_expr nodes k b in
          let j = in_expr nodes i.next c in
          let f = fine_expr k b t q.0 ok.0 cs.0 (allows_first i.locals j.locals i.before j.before al) in
          let l = fine_expr i.next c t q.1 ok.1 cs.1 (allows_then i.locals j.locals i.before j.before al) in
          ((pair_kept types among s r g (type_of s b) (type_of s c) (type_of r i.part) (type_of r j.part) f.0.0 l.0.0, (f.0.1, l.0.1)), sound_append types among r lasts' i.before j.before f.1 l.1)
      fine_expr k (arrow a b c) t h ok cs al =
          let q = pair_typed (type_of s b) (type_of s c) t h in
          let i = in_expr nodes k b in
          let j = in_expr nodes i.next c in
          let f = fine_expr k b t q.0 ok.0 cs.0 (allows_first i.locals j.locals i.before j.before al) in
          let l = fine_expr i.next c t q.1 ok.1 cs.1 (allows_then i.locals j.locals i.before j.before al) in
          ((pair_kept types among s r g (type_of s b) (type_of s c) (type_of r i.part) (type_of r j.part) f.0.0 l.0.0, (f.0.1, l.0.1)), sound_append types among r lasts' i.before j.before f.1 l.1)
      fine_expr k (when_is a b c x) t h ok cs al =
          let f = fine_expr k b t (when_typed _ (type_of s b) t h) ok cs al in
          ((when_kept types among s r g c x x (type_of s b) (type_of r (in_expr nodes k b).part) (names x) f.0.0, f.0.1), f.1)
      fine_expr k (merge a x ps) t h ok cs al =
          let f = fine_parts k ps t (merge_typed s (lookup s.variables x) ps t h) ok.1 cs al in
          ((merge_kept types among s r g x x ps (in_parts nodes k ps).part (names x) f.0.0, (covers_kept types among s r g x x (of_parts ps) (of_parts (in_parts nodes k ps).part) (names x) (parts_conses types among s r g ps (in_parts nodes k ps).part f.0.0) ok.0, f.0.1)), f.1)
      fine_expr k (call a f false es) t h ok cs al =
          let q = call_typed (lookup s.nodes f) (types_in s es) t h in
          let m = fine_exprs k es q.0.inputs q.2 ok.1 cs.1 al in
          ((call_kept types among s r g f es (in_exprs nodes k es).part m.0.0, (g.known f, m.0.1)), m.1)
      fine_expr k (call a f true es) t h ok cs al =
          inlined_fine k a f es t h cs.0 al
          (λ fit. fine_exprs k es (nodes f).inputs fit ok.1 cs.1 (allows_first (in_exprs nodes k es).locals (new_locals k f es) (in_exprs nodes k es).before (new_eqns k f es) al))

      pub fine_exprs : (k : ℕ) (es : Exprs) (ds : List Decl) → IsTrue (args_fit ds (types_in s es)) → ExprsSound types among' s lasts es → ExprsCall es → Allows (in_exprs nodes k es).locals (in_exprs nodes k es).before → (ArgsKept types among s r g es (in_exprs nodes k es).part × ExprsSound types among r lasts' (in_exprs nodes k es).part) × New (in_exprs nodes k es).before
      fine_exprs k no_expr ds h ok cs al = ((tt, tt), tt)
      fine_exprs k (more_exprs e es) [] h ok cs al = absurd (cc)
      fine_exprs k (more_exprs e es) (d ∷ ds) h ok cs al =
          let q = arg_typed d ds (type_of s e) (types_in s es) h in
          let i = in_expr nodes k e in
          let j = in_exprs nodes i.next es in
          let f = fine_expr k e d.ty q.0 ok.0 cs.0 (allows_first i.locals j.locals i.before j.before al) in
          let l = fine_exprs i.next es ds q.1 ok.1 cs.1 (allows_then i.locals j.locals i.before j.before al) in
          (((f.0.0, l.0.0), (f.0.1, l.0.1)), sound_append types among r lasts' i.before j.before f.1 l.1)

      fine_parts : (k : ℕ) (ps : Parts) (t : Ty) → PartsHave s t ps → PartsSound types among' s lasts ps → PartsCall ps → Allows (in_parts nodes k ps).locals (in_parts nodes k ps).before → (PartsKept types among s r g ps (in_parts nodes k ps).part × PartsSound types among r lasts' (in_parts nodes k ps).part) × New (in_parts nodes k ps).before
      fine_parts k no_part t h ok cs al = ((tt, tt), tt)
      fine_parts k (more_parts c e ps) t h ok cs al =
          let i = in_expr nodes k e in
          let j = in_parts nodes i.next ps in
          let f = fine_expr k e t h.0 ok.0 cs.0 (allows_first i.locals j.locals i.before j.before al) in
          let l = fine_parts i.next ps t h.1 ok.1 cs.1 (allows_then i.locals j.locals i.before j.before al) in
          (((refl, (f.0.0, l.0.0)), (f.0.1, l.0.1)), sound_append types among r lasts' i.before j.before f.1 l.1)
