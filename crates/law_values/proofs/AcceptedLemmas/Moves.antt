-- Blocks whose names are said otherwise are sound, where no two names become one.
use Rattle.std.proofs.Common.{◌≡◌, ℕ, suc, ◌+◌, List, [], ◌∷◌, map, refl, sym, ap, ap₂, subst, ◌∙◌, ◌⊎◌, inl, inr, ⊎_elim}
use Rattle.std.specs.Prelude.{⊤, Bool, true, false, ◌&&◌, ◌||◌, not, is_some, IsTrue, IsFalse, if◌then◌else◌, Option, None, Some}
use Rattle.std.specs.Str.{bytes_eq}
use Rattle.hp_base.specs.declared.ty.Ty.{Ty}
use Rattle.hp_base.specs.declared.ty.Const.{Const}
use Rattle.hp_tree.specs.declared.decl.Cons.{Cons}
use Rattle.hp_tree.specs.declared.block.Trans.{Trans}
use Rattle.hp_tree.specs.Expressions.{Expr}
use Rattle.hp_tree.specs.Blocks.{Decl, Block, block, Eqns, no_eqn, more_eqns, Eqn, define, switch, reset, automaton, Arms, no_arm, more_arms, States, no_state, more_states}
use Rattle.hp_tree.specs.Programs.{TypeDecl, Node}
use Rattle.hp_tree.specs.Meaning.{declares, is_among, defines, some_defines, arms_define, states_define, block_defines}
use Rattle.hp_base.specs.Known.Known.{lookup}
use Rattle.hp_typing.specs.Scopes.{with_variables, inside}
use Rattle.hp_typing.specs.Types.{type_of}
use Rattle.law_judged.specs.Named.Scopes.{Scope}
use Rattle.law_judged.specs.Named.Scoped.{Names, also, AreFresh, BlockScoped, EqnsScoped, EqnScoped, ArmsScoped, StatesScoped}
use Rattle.law_judged.proofs.NamedLemmas.Sets.{or_cases, or_left, or_right, both_true, first_true, second_false, same_name, name_same}
use Rattle.law_judged.proofs.NamedLemmas.Declared.{eqn_owned}
use Rattle.hp_meaning.specs.Clocking.Clocking.{AreOnce, AreDefined}
use Rattle.hp_expand.specs.Renaming.{renamed, renamed_decl, renamed_decls, renamed_left, renamed_transition}
use Rattle.law_judged.proofs.ReplacedLemmas.Renaming.{renamed_there, renamed_back, left_back, left_there}
use Rattle.law_values.specs.Valued.Judged.{Lasts, lasts_in, lasts_of, of_arms, Covers, HaveOwnTypes, TestsSound, FirstSound, DeclsSound, Completes, OthersKnown, BlockSound, EqnsSound, EqnSound, ArmsSound, StatesSound}
use Rattle.law_values.proofs.ValuedLemmas.Scoped.{still_known, not_declared}
use Rattle.law_values.proofs.AcceptedLemmas.Views.{some_same, true_false, cases, own_types, declared_type, last_among, lasts_own, lasts_kept}
use Rattle.law_values.proofs.AcceptedLemmas.Keeps.{Kept, KeptName, Grows, expr_kept, expr_moved, test_moved, tests_moved, right_moved}

-- ---- a part with its names said otherwise; a block may say the names otherwise that it declares

abbrev pub Undeclared : List Decl → (List ℕ → List ℕ) → (List ℕ → List ℕ) → Type 0
Undeclared ds said to = (x : List ℕ) → declares ds x ≡ false → said x ≡ to x

abbrev mutual
  pub BlockSaid : (List ℕ → List ℕ) → Block → Block → Type 0
  BlockSaid to (block ds es) b = (said : List ℕ → List ℕ) × ((r : Eqns) × ((b ≡ block (renamed_decls said ds) r) × (Undeclared ds said to × EqnsSaid said es r)))

  pub EqnsSaid : (List ℕ → List ℕ) → Eqns → Eqns → Type 0
  EqnsSaid to no_eqn r = r ≡ no_eqn
  EqnsSaid to (more_eqns e es) r = (d : Eqn) × ((rs : Eqns) × ((r ≡ more_eqns d rs) × (EqnSaid to e d × EqnsSaid to es rs)))

  pub EqnSaid : (List ℕ → List ℕ) → Eqn → Eqn → Type 0
  EqnSaid to (define s ys e) d = d ≡ define s (renamed_left to ys) (renamed to e)
  EqnSaid to (switch s e arms) d = (r : Arms) × ((d ≡ switch s (renamed to e) r) × ArmsSaid to arms r)
  EqnSaid to (reset s b e) d = (r : Block) × ((d ≡ reset s r (renamed to e)) × BlockSaid to b r)
  EqnSaid to (automaton s ss) d = (r : States) × ((d ≡ automaton s r) × StatesSaid to ss r)

  pub ArmsSaid : (List ℕ → List ℕ) → Arms → Arms → Type 0
  ArmsSaid to no_arm r = r ≡ no_arm
  ArmsSaid to (more_arms c b s arms) r = (d : Block) × ((rs : Arms) × ((r ≡ more_arms c d s rs) × (BlockSaid to b d × ArmsSaid to arms rs)))

  -- the weak conditions of a state see the variables of its body
  pub StatesSaid : (List ℕ → List ℕ) → States → States → Type 0
  StatesSaid to no_state r = r ≡ no_state
  StatesSaid to (more_states f (block ds es) until unless s ss) r =
      (said : List ℕ → List ℕ) × ((qs : Eqns) × ((rs : States)
      × ((r ≡ more_states f (block (renamed_decls said ds) qs) (map (renamed_transition said) until) (map (renamed_transition to) unless) s rs)
      × (Undeclared ds said to × (EqnsSaid said es qs × StatesSaid to ss rs)))))

-- ---- what is defined under other names, was defined

abbrev pub Comes : (List ℕ → List ℕ) → Names → List ℕ → Type 0
Comes to names z = (x : List ℕ) × (IsTrue (names x) × (to x ≡ z))

comes_either : (to : List ℕ → List ℕ) (a b : Names) (z : List ℕ) → Comes to a z ⊎ Comes to b z → Comes to (λ x. a x || b x) z
comes_either to a b z (inl q) = (q.0, (or_left (a q.0) (b q.0) q.1.0, q.1.1))
comes_either to a b z (inr q) = (q.0, (or_right (a q.0) (b q.0) q.1.0, q.1.1))

-- out of a block
comes_out : (to said : List ℕ → List ℕ) (ds : List Decl) (es r : Eqns) (z : List ℕ) → Undeclared ds said to → IsTrue (some_defines r z && not (declares (renamed_decls said ds) z)) → Comes said (some_defines es) z → Comes to (block_defines (block ds es)) z
comes_out to said ds es r z same h q =
    let other : IsTrue (declares ds q.0) → ⊥ = λ d. second_false (some_defines r z) (declares (renamed_decls said ds) z) h (subst (λ w. IsTrue (declares (renamed_decls said ds) w)) q.1.1 (renamed_there said ds q.0 d)) in
    (q.0, (both_true (some_defines es q.0) (declares ds q.0) q.1.0 other, sym (same q.0 (cases (declares ds q.0) (λ d. absurd (other d)) (λ f. f))) ∙ q.1.1))

module _ (z : List ℕ) where
  mutual
    block_back : (to : List ℕ → List ℕ) (b r : Block) → BlockSaid to b r → IsTrue (block_defines r z) → Comes to (block_defines b) z
    block_back to (block ds es) r q h =
        let k : IsTrue (block_defines (block (renamed_decls q.0 ds) q.1.0) z) = subst (λ w. IsTrue (block_defines w z)) q.1.1.0 h in
        comes_out to q.0 ds es q.1.0 z q.1.1.1.0 k (some_back q.0 es q.1.0 q.1.1.1.1 (first_true (some_defines q.1.0 z) (declares (renamed_decls q.0 ds) z) k))

    pub some_back : (to : List ℕ → List ℕ) (es r : Eqns) → EqnsSaid to es r → IsTrue (some_defines r z) → Comes to (some_defines es) z
    some_back to no_eqn r q h = absurd (let k : IsTrue (some_defines no_eqn z) = subst (λ w. IsTrue (some_defines w z)) q h in cc)
    some_back to (more_eqns e es) r q h =
        comes_either to (defines e) (some_defines es) z
        (⊎_elim (λ l. inl (one_back to e q.0 q.1.1.1.0 l)) (λ l. inr (some_back to es q.1.0 q.1.1.1.1 l)) (or_cases (defines q.0 z) (some_defines q.1.0 z) (subst (λ w. IsTrue (some_defines w z)) q.1.1.0 h)))

    pub one_back : (to : List ℕ → List ℕ) (e d : Eqn) → EqnSaid to e d → IsTrue (defines d z) → Comes to (defines e) z
    one_back to (define s ys e) d q h = let l = left_back to ys z (subst (λ w. IsTrue (defines w z)) q h) in (l.0, (l.1, l.2))
    one_back to (switch s e arms) d q h = arms_back to arms q.0 q.1.1 (subst (λ w. IsTrue (defines w z)) q.1.0 h)
    one_back to (reset s b e) d q h = block_back to b q.0 q.1.1 (subst (λ w. IsTrue (defines w z)) q.1.0 h)
    one_back to (automaton s ss) d q h = states_back to ss q.0 q.1.1 (subst (λ w. IsTrue (defines w z)) q.1.0 h)

    arms_back : (to : List ℕ → List ℕ) (arms r : Arms) → ArmsSaid to arms r → IsTrue (arms_define r z) → Comes to (arms_define arms) z
    arms_back to no_arm r q h = absurd (let k : IsTrue (arms_define no_arm z) = subst (λ w. IsTrue (arms_define w z)) q h in cc)
    arms_back to (more_arms c b s arms) r q h =
        comes_either to (block_defines b) (arms_define arms) z
        (⊎_elim (λ l. inl (block_back to b q.0 q.1.1.1.0 l)) (λ l. inr (arms_back to arms q.1.0 q.1.1.1.1 l)) (or_cases (block_defines q.0 z) (arms_define q.1.0 z) (subst (λ w. IsTrue (arms_define w z)) q.1.1.0 h)))

    states_back : (to : List ℕ → List ℕ) (ss r : States) → StatesSaid to ss r → IsTrue (states_define r z) → Comes to (states_define ss) z
    states_back to no_state r q h = absurd (let k : IsTrue (states_define no_state z) = subst (λ w. IsTrue (states_define w z)) q h in cc)
    states_back to (more_states f (block ds es) until unless s ss) r q h =
        comes_either to (block_defines (block ds es)) (states_define ss) z
        (⊎_elim
        (λ l. inl (comes_out to q.0 ds es q.1.0 z q.1.1.1.1.0 l (some_back q.0 es q.1.0 q.1.1.1.1.1.0 (first_true (some_defines q.1.0 z) (declares (renamed_decls q.0 ds) z) l))))
        (λ l. inr (states_back to ss q.1.1.0 q.1.1.1.1.1.1 l))
        (or_cases (block_defines (block (renamed_decls q.0 ds) q.1.0) z) (states_define q.1.1.0 z) (subst (λ w. IsTrue (states_define w z)) q.1.1.1.0 h)))

-- ---- what is defined, is defined under other names

module _ (x : List ℕ) where
  out_by : (to said : List ℕ → List ℕ) (after owned : Names) (ds : List Decl) (es r : Eqns) → Undeclared ds said to → BlockScoped after owned (block (renamed_decls said ds) r) → IsTrue (after (to x)) → IsTrue (block_defines (block ds es) x) → (IsTrue (also after (renamed_decls said ds) (said x)) → IsTrue (some_defines es x) → IsTrue (some_defines r (said x))) → IsTrue (block_defines (block (renamed_decls said ds) r) (to x))
  out_by to said after owned ds es r same sc a h f =
      let e : said x ≡ to x = same x (cases (declares ds x) (λ d. absurd (second_false (some_defines es x) (declares ds x) h d)) (λ f. f)) in
      both_true (some_defines r (to x)) (declares (renamed_decls said ds) (to x))
      (subst (λ w. IsTrue (some_defines r w)) e
      (f (or_right (declares (renamed_decls said ds) (said x)) (after (said x)) (subst (λ w. IsTrue (after w)) (sym e) a)) (first_true (some_defines es x) (declares ds x) h)))
      (λ d. sc.1 (to x) d a)

  mutual
    pub block_there : (to : List ℕ → List ℕ) (after owned : Names) (b r : Block) → BlockSaid to b r → BlockScoped after owned r → IsTrue (after (to x)) → IsTrue (block_defines b x) → IsTrue (block_defines r (to x))
    block_there to after owned (block ds es) r q sc a h =
        subst (λ w. IsTrue (block_defines w (to x))) (sym q.1.1.0)
        (let k : BlockScoped after owned (block (renamed_decls q.0 ds) q.1.0) = subst (λ w. BlockScoped after owned w) q.1.1.0 sc in
        out_by to q.0 after owned ds es q.1.0 q.1.1.1.0 k a h (λ b d. some_there q.0 (also after (renamed_decls q.0 ds)) (also owned (renamed_decls q.0 ds)) es q.1.0 q.1.1.1.1 k.3 b d))

    some_there : (to : List ℕ → List ℕ) (after owned : Names) (es r : Eqns) → EqnsSaid to es r → EqnsScoped after owned r → IsTrue (after (to x)) → IsTrue (some_defines es x) → IsTrue (some_defines r (to x))
    some_there to after owned no_eqn r q sc a h = absurd (cc)
    some_there to after owned (more_eqns e es) r q sc a h =
        let k : EqnsScoped after owned (more_eqns q.0 q.1.0) = subst (λ w. EqnsScoped after owned w) q.1.1.0 sc in
        subst (λ w. IsTrue (some_defines w (to x))) (sym q.1.1.0)
        (⊎_elim (λ l. or_left (defines q.0 (to x)) (some_defines q.1.0 (to x)) (one_there to after owned e q.0 q.1.1.1.0 k.0 a l))
        (λ l. or_right (defines q.0 (to x)) (some_defines q.1.0 (to x)) (some_there to after owned es q.1.0 q.1.1.1.1 k.1 a l)) (or_cases (defines e x) (some_defines es x) h))

    one_there : (to : List ℕ → List ℕ) (after owned : Names) (e d : Eqn) → EqnSaid to e d → EqnScoped after owned d → IsTrue (after (to x)) → IsTrue (defines e x) → IsTrue (defines d (to x))
    one_there to after owned (define s ys e) d q sc a h = subst (λ w. IsTrue (defines w (to x))) (sym q) (left_there to ys x h)
    one_there to after owned (switch s e arms) d q sc a h = subst (λ w. IsTrue (defines w (to x))) (sym q.1.0) (arms_there to after owned arms q.0 q.1.1 (subst (λ w. EqnScoped after owned w) q.1.0 sc) a h)
    one_there to after owned (reset s b e) d q sc a h = subst (λ w. IsTrue (defines w (to x))) (sym q.1.0) (block_there to after owned b q.0 q.1.1 (subst (λ w. EqnScoped after owned w) q.1.0 sc) a h)
    one_there to after owned (automaton s ss) d q sc a h = subst (λ w. IsTrue (defines w (to x))) (sym q.1.0) (states_there to after owned ss q.0 q.1.1 (subst (λ w. EqnScoped after owned w) q.1.0 sc) a h)

    arms_there : (to : List ℕ → List ℕ) (after owned : Names) (arms r : Arms) → ArmsSaid to arms r → ArmsScoped after owned r → IsTrue (after (to x)) → IsTrue (arms_define arms x) → IsTrue (arms_define r (to x))
    arms_there to after owned no_arm r q sc a h = absurd (cc)
    arms_there to after owned (more_arms c b s arms) r q sc a h =
        let k : ArmsScoped after owned (more_arms c q.0 s q.1.0) = subst (λ w. ArmsScoped after owned w) q.1.1.0 sc in
        subst (λ w. IsTrue (arms_define w (to x))) (sym q.1.1.0)
        (⊎_elim (λ l. or_left (block_defines q.0 (to x)) (arms_define q.1.0 (to x)) (block_there to after owned b q.0 q.1.1.1.0 k.0 a l))
        (λ l. or_right (block_defines q.0 (to x)) (arms_define q.1.0 (to x)) (arms_there to after owned arms q.1.0 q.1.1.1.1 k.1 a l)) (or_cases (block_defines b x) (arms_define arms x) h))

    states_there : (to : List ℕ → List ℕ) (after owned : Names) (ss r : States) → StatesSaid to ss r → StatesScoped after owned r → IsTrue (after (to x)) → IsTrue (states_define ss x) → IsTrue (states_define r (to x))
    states_there to after owned no_state r q sc a h = absurd (cc)
    states_there to after owned (more_states f (block ds es) until unless s ss) r q sc a h =
        let k : StatesScoped after owned (more_states f (block (renamed_decls q.0 ds) q.1.0) (map (renamed_transition q.0) until) (map (renamed_transition to) unless) s q.1.1.0) = subst (λ w. StatesScoped after owned w) q.1.1.1.0 sc in
        subst (λ w. IsTrue (states_define w (to x))) (sym q.1.1.1.0)
        (⊎_elim (λ l. or_left (block_defines (block (renamed_decls q.0 ds) q.1.0) (to x)) (states_define q.1.1.0 (to x)) (out_by to q.0 after owned ds es q.1.0 q.1.1.1.1.0 k.0 a l (λ b d. some_there q.0 (also after (renamed_decls q.0 ds)) (also owned (renamed_decls q.0 ds)) es q.1.0 q.1.1.1.1.1.0 k.0.3 b d)))
        (λ l. or_right (block_defines (block (renamed_decls q.0 ds) q.1.0) (to x)) (states_define q.1.1.0 (to x)) (states_there to after owned ss q.1.1.0 q.1.1.1.1.1.1 k.1 a l)) (or_cases (block_defines (block ds es) x) (states_define ss x) h))

-- ---- a place, before and after

pub record Place (types : List TypeDecl) (among : List ℕ → Option Node) (to : List ℕ → List ℕ) (s r : Scope) (lasts lasts' : Lasts) (seen own after : Names) : Type 0 where
  pub grows : Grows types among s r
  pub names : (x : List ℕ) → KeptName s r x (to x)
  pub lasting : (x : List ℕ) → IsTrue (lasts x) → IsTrue (lasts' (to x))
  pub last_seen : (x : List ℕ) → IsTrue (lasts x) → IsTrue (seen x)
  pub own_seen : (x : List ℕ) → IsTrue (own x) → IsTrue (seen x)
  pub known : (x : List ℕ) → IsTrue (seen x) → (t : Ty) × (lookup s.variables x ≡ Some t)
  pub unknown : (x : List ℕ) → IsFalse (seen x) → lookup s.variables x ≡ None
  pub none : (y : List ℕ) → IsFalse (after y) → lookup r.variables y ≡ None

module _ (types : List TypeDecl) (among : List ℕ → Option Node) where
  grows_inner : (ds : List Decl) (s r : Scope) → Grows types among s r → Grows types among s (with_variables r ds)
  grows_inner [] s r g = g
  grows_inner (d ∷ ds) s r g = grows_inner ds s (with_variables r (d ∷ [])) (record { conses = g.conses; nodes = g.nodes; constants = g.constants; known = g.known })

  pub grows_more : (ds es : List Decl) (s r : Scope) → Grows types among s r → Grows types among (with_variables s ds) (with_variables r es)
  grows_more [] es s r g = grows_inner es s r g
  grows_more (d ∷ ds) es s r g = grows_more ds es (with_variables s (d ∷ [])) r (record { conses = g.conses; nodes = g.nodes; constants = g.constants; known = g.known })

pub lasts_cases : (ds : List Decl) (out : Lasts) (x : List ℕ) → IsTrue (lasts_in ds out x) → IsTrue (last_among ds x) ⊎ IsTrue (out x)
lasts_cases [] out x h = inr h
lasts_cases (d ∷ ds) out x h = by (bytes_eq d.name x) d.last h (lasts_cases ds out x)
  where
    by : (b : Bool) (o : Option Const) → IsTrue (if b then (elim o [ None ↦ out x | Some c ↦ true ]) else lasts_in ds out x) → (IsTrue (lasts_in ds out x) → IsTrue (last_among ds x) ⊎ IsTrue (out x)) → IsTrue ((b && is_some o) || last_among ds x) ⊎ IsTrue (out x)
    by true (Some c) h f = inl refl
    by true None h f = inr h
    by false o h f = f h

pub last_renamed : (said : List ℕ → List ℕ) (ds : List Decl) (x : List ℕ) → IsTrue (last_among ds x) → IsTrue (last_among (renamed_decls said ds) (said x))
last_renamed said [] x h = h
last_renamed said (d ∷ ds) x h =
    ⊎_elim (λ l. or_left (bytes_eq (said d.name) (said x) && is_some d.last) (last_among (renamed_decls said ds) (said x)) (here (bytes_eq d.name x) refl (is_some d.last) l))
    (λ l. or_right (bytes_eq (said d.name) (said x) && is_some d.last) (last_among (renamed_decls said ds) (said x)) (last_renamed said ds x l))
    (or_cases (bytes_eq d.name x && is_some d.last) (last_among ds x) h)
  where
    here : (b : Bool) → bytes_eq d.name x ≡ b → (o : Bool) → IsTrue (b && o) → IsTrue (bytes_eq (said d.name) (said x) && o)
    here true e o l = subst (λ z. IsTrue (z && o)) (sym (name_same (said d.name) (said x) (ap said (same_name d.name x e)))) l
    here false e o l = absurd (cc)

pub last_known : (ds : List Decl) (x : List ℕ) → IsTrue (last_among ds x) → IsTrue (declares ds x)
last_known [] x h = h
last_known (d ∷ ds) x h =
    ⊎_elim (λ l. or_left (bytes_eq d.name x) (declares ds x) (first (bytes_eq d.name x) (is_some d.last) l)) (λ l. or_right (bytes_eq d.name x) (declares ds x) (last_known ds x l))
    (or_cases (bytes_eq d.name x && is_some d.last) (last_among ds x) h)
  where
    first : (a b : Bool) → IsTrue (a && b) → IsTrue a
    first true b k = refl
    first false b k = absurd (cc)

nor_left : (a b : Bool) → IsFalse (a || b) → IsFalse a
nor_left true b h = absurd (cc)
nor_left false b h = refl

nor_right : (a b : Bool) → IsFalse (a || b) → IsFalse b
nor_right true b h = absurd (cc)
nor_right false b h = h

fresh_none : (s : Scope) (seen : Names) (ds : List Decl) → ((x : List ℕ) → IsFalse (seen x) → lookup s.variables x ≡ None) → AreFresh seen ds → (x : List ℕ) → IsTrue (declares ds x) → lookup s.variables x ≡ None
fresh_none s seen ds f fresh x h = f x (cases (seen x) (λ k. absurd (fresh x h k)) (λ z. z))

module _ (types : List TypeDecl) (among among' : List ℕ → Option Node) where
  pub names_said : (said : List ℕ → List ℕ) (s r : Scope) (ds : List Decl) (x : List ℕ) (t : Ty) → HaveOwnTypes types among' s ds → HaveOwnTypes types among r (renamed_decls said ds) → IsTrue (declares ds x) → lookup s.variables x ≡ Some t → lookup r.variables (said x) ≡ Some t
  names_said said s r [] x t o p h l = absurd (cc)
  names_said said s r (d ∷ ds) x t o p h l =
      ⊎_elim
      (λ e. let q = same_name d.name x e in
      subst (λ z. lookup r.variables (said x) ≡ Some z) (some_same d.ty t (sym o.0 ∙ ap (λ z. lookup s.variables z) q ∙ l)) (subst (λ z. lookup r.variables (said z) ≡ Some d.ty) q p.0))
      (λ k. names_said said s r ds x t o.1 p.1 k l) (or_cases (bytes_eq d.name x) (declares ds x) h)

  pub place_more : {to : List ℕ → List ℕ} {s r : Scope} {lasts lasts' : Lasts} {seen own after : Names} → Place types among to s r lasts lasts' seen own after → (said : List ℕ → List ℕ) (ds : List Decl) → Undeclared ds said to → AreOnce ds → AreFresh seen ds → AreOnce (renamed_decls said ds) → AreFresh after (renamed_decls said ds) → Place types among said (with_variables s ds) (with_variables r (renamed_decls said ds)) (lasts_in ds lasts) (lasts_in (renamed_decls said ds) lasts') (also seen ds) (also own ds) (also after (renamed_decls said ds))
  place_more {to} {s} {r} {lasts} {lasts'} {seen} {own} {after} p said ds same once fresh once' fresh' = record {
    grows = grows_more types among ds (renamed_decls said ds) s r p.grows;
    names = λ x t l. cases (declares ds x)
        (λ h. names_said said (with_variables s ds) (with_variables r (renamed_decls said ds)) ds x t own_s own_r h l)
        (λ f. subst (λ z. lookup (with_variables r (renamed_decls said ds)).variables z ≡ Some t) (sym (same x f)) (still_known (to x) (renamed_decls said ds) r t (p.names x t (sym (not_declared x ds s f) ∙ l))));
    lasting = λ x l. ⊎_elim (λ k. lasts_own (renamed_decls said ds) lasts' (said x) once' (last_renamed said ds x k))
        (λ k. subst (λ z. IsTrue (lasts_in (renamed_decls said ds) lasts' z)) (sym (same x (cases (declares ds x) (λ d. absurd (fresh x d (p.last_seen x k))) (λ f. f)))) (lasts_kept (renamed_decls said ds) lasts' (to x) (p.lasting x k)))
        (lasts_cases ds lasts x l);
    last_seen = λ x l. ⊎_elim (λ k. or_left (declares ds x) (seen x) (last_known ds x k)) (λ k. or_right (declares ds x) (seen x) (p.last_seen x k)) (lasts_cases ds lasts x l);
    own_seen = λ x l. ⊎_elim (λ k. or_left (declares ds x) (seen x) k) (λ k. or_right (declares ds x) (seen x) (p.own_seen x k)) (or_cases (declares ds x) (own x) l);
    known = λ x l. ⊎_elim (λ k. declared_type types among' (with_variables s ds) ds x own_s k) (λ k. let q = p.known x k in (q.0, still_known x ds s q.0 q.1)) (or_cases (declares ds x) (seen x) l);
    unknown = λ x l. not_declared x ds s (nor_left (declares ds x) (seen x) l) ∙ p.unknown x (nor_right (declares ds x) (seen x) l);
    none = λ y l. not_declared y (renamed_decls said ds) r (nor_left (declares (renamed_decls said ds) y) (after y) l) ∙ p.none y (nor_right (declares (renamed_decls said ds) y) (after y) l);
  }
    where
      own_s : HaveOwnTypes types among' (with_variables s ds) ds
      own_s = own_types types among' ds s once (fresh_none s seen ds p.unknown fresh)

      own_r : HaveOwnTypes types among (with_variables r (renamed_decls said ds)) (renamed_decls said ds)
      own_r = own_types types among (renamed_decls said ds) r once' (fresh_none r after (renamed_decls said ds) p.none fresh')

  -- a name that is seen is seen afterwards
  pub after_seen : {to : List ℕ → List ℕ} {s r : Scope} {lasts lasts' : Lasts} {seen own after : Names} → Place types among to s r lasts lasts' seen own after → (x : List ℕ) → IsTrue (seen x) → IsTrue (after (to x))
  after_seen {to} {s} {r} {lasts} {lasts'} {seen} {own} {after} p x h =
      let q = p.known x h in
      cases (after (to x)) (λ k. k) (λ f. absurd (let e = sym (p.names x q.0 q.1) ∙ p.none (to x) f in cc))

  -- ---- blocks

  decls_moved : (said : List ℕ → List ℕ) (s r : Scope) (es qs : Eqns) (ds : List Decl) → HaveOwnTypes types among r (renamed_decls said ds) → ((y : List ℕ) → IsTrue (declares (renamed_decls said ds) y) → IsTrue (some_defines qs y)) → DeclsSound types among' s es ds → DeclsSound types among r qs (renamed_decls said ds)
  decls_moved said s r es qs [] o f ok = tt
  decls_moved said s r es qs (d ∷ ds) o f ok = (
    (o.0, (f (said d.name) (or_left (bytes_eq (said d.name) (said d.name)) (declares (renamed_decls said ds) (said d.name)) (name_same (said d.name) (said d.name) refl)), ok.0.1.1)),
    decls_moved said s r es qs ds o.1 (λ y h. f y (or_right (bytes_eq (said d.name) y) (declares (renamed_decls said ds) y) h)) ok.1,
  )

  arms_conses : (to : List ℕ → List ℕ) (arms r : Arms) → ArmsSaid to arms r → of_arms arms ≡ of_arms r
  arms_conses to no_arm r q = ap of_arms (sym q)
  arms_conses to (more_arms c b s arms) r q = ap (λ cs. c ∷ cs) (arms_conses to arms q.1.0 q.1.1.1.1) ∙ ap of_arms (sym q.1.1.0)

  -- what a control equation defines, comes from what it defined, which is seen
  pub record Control (to : List ℕ → List ℕ) (e d : Eqn) (seen after : Names) : Type 0 where
    pub comes : (y : List ℕ) → IsTrue (defines d y) → Comes to (defines e) y
    pub there : (x : List ℕ) → IsTrue (defines e x) → IsTrue (after (to x))

  completes_moved : (to : List ℕ → List ℕ) (e d : Eqn) (seen after owned : Names) (lasts lasts' : Lasts) (b r : Block) → Control to e d seen after → ((x : List ℕ) → IsTrue (lasts x) → IsTrue (lasts' (to x))) → BlockSaid to b r → BlockScoped after owned r → Completes types among' e lasts b → Completes types among d lasts' r
  completes_moved to e d seen after owned lasts lasts' b r c f q sc ok y h =
      let k = c.comes y h in
      ⊎_elim (λ l. inl (subst (λ z. IsTrue (block_defines r z)) k.1.1 (block_there k.0 to after owned b r q sc (c.there k.0 k.1.0) l))) (λ l. inr (subst (λ z. IsTrue (lasts' z)) k.1.1 (f k.0 l))) (ok k.0 k.1.0)

  block_by : {to : List ℕ → List ℕ} {s r : Scope} {lasts lasts' : Lasts} {seen own after : Names} (owned : Names) → Place types among to s r lasts lasts' seen own after → (said : List ℕ → List ℕ) (ds : List Decl) (es qs : Eqns) → Undeclared ds said to → EqnsSaid said es qs → BlockScoped seen own (block ds es) → BlockScoped after owned (block (renamed_decls said ds) qs) → BlockSound types among' s lasts (block ds es)
      → (Place types among said (with_variables s ds) (with_variables r (renamed_decls said ds)) (lasts_in ds lasts) (lasts_in (renamed_decls said ds) lasts') (also seen ds) (also own ds) (also after (renamed_decls said ds)) → EqnsSound types among (with_variables r (renamed_decls said ds)) (lasts_in (renamed_decls said ds) lasts') qs)
      → BlockSound types among r lasts' (block (renamed_decls said ds) qs)
  block_by {to} {s} {r} {lasts} {lasts'} {seen} {own} {after} owned p said ds es qs same q sc sc' ok inner =
      let i = place_more p said ds same sc.0 sc.1 sc'.0 sc'.1 in (
        decls_moved said (with_variables s ds) (with_variables r (renamed_decls said ds)) es qs ds (own_types types among (renamed_decls said ds) r sc'.0 (fresh_none r after (renamed_decls said ds) p.none sc'.1)) sc'.2 ok.0,
        (
          (λ y h f.
              let k = some_back y said es qs q h in
              let none : IsFalse (declares ds k.0) = cases (declares ds k.0) (λ d. true_false (declares (renamed_decls said ds) y) (subst (λ z. IsTrue (declares (renamed_decls said ds) z)) k.1.1 (renamed_there said ds k.0 d)) f) (λ z. z) in
              let t = ok.1.0 k.0 k.1.0 none in
              (t.0, subst (λ z. lookup r.variables z ≡ Some t.0) (sym (same k.0 none) ∙ k.1.1) (p.names k.0 t.0 t.1))),
          inner i,
        ),
      )

  mutual
    pub block_moved : {to : List ℕ → List ℕ} {s r : Scope} {lasts lasts' : Lasts} {seen own after : Names} (owned : Names) → Place types among to s r lasts lasts' seen own after → (b c : Block) → BlockSaid to b c → BlockScoped seen own b → BlockScoped after owned c → BlockSound types among' s lasts b → BlockSound types among r lasts' c
    block_moved {to} {s} {r} {lasts} {lasts'} {seen} {own} {after} owned p (block ds es) c q sc sc' ok =
        subst (λ z. BlockSound types among r lasts' z) (sym q.1.1.0) (let k : BlockScoped after owned (block (renamed_decls q.0 ds) q.1.0) = subst (λ z. BlockScoped after owned z) q.1.1.0 sc' in
        block_by owned p q.0 ds es q.1.0 q.1.1.1.0 q.1.1.1.1 sc k ok (λ i. eqns_moved (also owned (renamed_decls q.0 ds)) i es q.1.0 q.1.1.1.1 sc.3 k.3 ok.1.1))

    pub eqns_moved : {to : List ℕ → List ℕ} {s r : Scope} {lasts lasts' : Lasts} {seen own after : Names} (owned : Names) → Place types among to s r lasts lasts' seen own after → (es qs : Eqns) → EqnsSaid to es qs → EqnsScoped seen own es → EqnsScoped after owned qs → EqnsSound types among' s lasts es → EqnsSound types among r lasts' qs
    eqns_moved {to} {s} {r} {lasts} {lasts'} {seen} {own} {after} owned p no_eqn qs q sc sc' ok = subst (λ z. EqnsSound types among r lasts' z) (sym q) tt
    eqns_moved {to} {s} {r} {lasts} {lasts'} {seen} {own} {after} owned p (more_eqns e es) qs q sc sc' ok =
        let k : EqnsScoped after owned (more_eqns q.0 q.1.0) = subst (λ z. EqnsScoped after owned z) q.1.1.0 sc' in
        subst (λ z. EqnsSound types among r lasts' z) (sym q.1.1.0) (eqn_moved owned p e q.0 q.1.1.1.0 sc.0 k.0 ok.0, eqns_moved owned p es q.1.0 q.1.1.1.1 sc.1 k.1 ok.1)

    eqn_moved : {to : List ℕ → List ℕ} {s r : Scope} {lasts lasts' : Lasts} {seen own after : Names} (owned : Names) → Place types among to s r lasts lasts' seen own after → (e d : Eqn) → EqnSaid to e d → EqnScoped seen own e → EqnScoped after owned d → EqnSound types among' s lasts e → EqnSound types among r lasts' d
    eqn_moved {to} {s} {r} {lasts} {lasts'} {seen} {own} {after} owned p (define w ys e) d q sc sc' ok =
        subst (λ z. EqnSound types among r lasts' z) (sym q) (right_moved types among s r p.grows among' to lasts lasts' p.names p.lasting ys e ok)
    eqn_moved {to} {s} {r} {lasts} {lasts'} {seen} {own} {after} owned p (switch w e arms) d q sc sc' ok =
        let k : EqnScoped after owned (switch w (renamed to e) q.0) = subst (λ z. EqnScoped after owned z) q.1.0 sc' in
        subst (λ z. EqnSound types among r lasts' z) (sym q.1.0) (
          expr_moved types among s r p.grows among' to lasts lasts' p.names p.lasting e ok.0,
          (
            (ok.1.0.0, (expr_kept types among s r p.grows among' to lasts lasts' p.names p.lasting e ok.1.0.0 ok.1.0.1.0, subst (λ z. Covers types ok.1.0.0 z) (arms_conses to arms q.0 q.1.1) ok.1.0.1.1)),
            arms_moved owned p (switch w e arms) (switch w (renamed to e) q.0)
                (record { comes = λ y h. one_back y to (switch w e arms) (switch w (renamed to e) q.0) (q.0, (refl, q.1.1)) h; there = λ x h. after_seen p x (p.own_seen x (eqn_owned x seen own (switch w e arms) sc h)) })
                arms q.0 q.1.1 sc k ok.1.1,
          ),
        )
    eqn_moved {to} {s} {r} {lasts} {lasts'} {seen} {own} {after} owned p (reset w b e) d q sc sc' ok =
        let k : EqnScoped after owned (reset w q.0 (renamed to e)) = subst (λ z. EqnScoped after owned z) q.1.0 sc' in
        subst (λ z. EqnSound types among r lasts' z) (sym q.1.0)
        (test_moved types among s r p.grows among' to lasts lasts' p.names p.lasting e ok.0, block_moved owned p b q.0 q.1.1 sc k ok.1)
    eqn_moved {to} {s} {r} {lasts} {lasts'} {seen} {own} {after} owned p (automaton w ss) d q sc sc' ok =
        let k : EqnScoped after owned (automaton w q.0) = subst (λ z. EqnScoped after owned z) q.1.0 sc' in
        subst (λ z. EqnSound types among r lasts' z) (sym q.1.0)
        (states_moved owned p (automaton w ss) (automaton w q.0)
        (record { comes = λ y h. one_back y to (automaton w ss) (automaton w q.0) (q.0, (refl, q.1.1)) h; there = λ x h. after_seen p x (p.own_seen x (eqn_owned x seen own (automaton w ss) sc h)) })
        ss q.0 q.1.1 sc k ok)

    arms_moved : {to : List ℕ → List ℕ} {s r : Scope} {lasts lasts' : Lasts} {seen own after : Names} (owned : Names) → Place types among to s r lasts lasts' seen own after → (e d : Eqn) → Control to e d seen after → (arms rs : Arms) → ArmsSaid to arms rs → ArmsScoped seen own arms → ArmsScoped after owned rs → ArmsSound types among' e s lasts arms → ArmsSound types among d r lasts' rs
    arms_moved {to} {s} {r} {lasts} {lasts'} {seen} {own} {after} owned p e d c no_arm rs q sc sc' ok = subst (λ z. ArmsSound types among d r lasts' z) (sym q) tt
    arms_moved {to} {s} {r} {lasts} {lasts'} {seen} {own} {after} owned p e d c (more_arms k b w arms) rs q sc sc' ok =
        let m : ArmsScoped after owned (more_arms k q.0 w q.1.0) = subst (λ z. ArmsScoped after owned z) q.1.1.0 sc' in
        subst (λ z. ArmsSound types among d r lasts' z) (sym q.1.1.0) (
          completes_moved to e d seen after owned lasts lasts' b q.0 c p.lasting q.1.1.1.0 m.0 ok.0,
          (block_moved owned p b q.0 q.1.1.1.0 sc.0 m.0 ok.1.0, arms_moved owned p e d c arms q.1.0 q.1.1.1.1 sc.1 m.1 ok.1.1),
        )

    states_moved : {to : List ℕ → List ℕ} {s r : Scope} {lasts lasts' : Lasts} {seen own after : Names} (owned : Names) → Place types among to s r lasts lasts' seen own after → (e d : Eqn) → Control to e d seen after → (ss rs : States) → StatesSaid to ss rs → StatesScoped seen own ss → StatesScoped after owned rs → StatesSound types among' e s lasts ss → StatesSound types among d r lasts' rs
    states_moved {to} {s} {r} {lasts} {lasts'} {seen} {own} {after} owned p e d c no_state rs q sc sc' ok = subst (λ z. StatesSound types among d r lasts' z) (sym q) tt
    states_moved {to} {s} {r} {lasts} {lasts'} {seen} {own} {after} owned p e d c (more_states f (block ds es) until unless w ss) rs q sc sc' ok =
        let inner = block (renamed_decls q.0 ds) q.1.0 in
        let m : StatesScoped after owned (more_states f inner (map (renamed_transition q.0) until) (map (renamed_transition to) unless) w q.1.1.0) = subst (λ z. StatesScoped after owned z) q.1.1.1.0 sc' in
        let said : BlockSaid to (block ds es) inner = (q.0, (q.1.0, (refl, (q.1.1.1.1.0, q.1.1.1.1.1.0)))) in
        let i = place_more p q.0 ds q.1.1.1.1.0 sc.0.0 sc.0.1 m.0.0 m.0.1 in
        subst (λ z. StatesSound types among d r lasts' z) (sym q.1.1.1.0) (
          completes_moved to e d seen after owned lasts lasts' (block ds es) inner c p.lasting said m.0 ok.0,
          (
            block_by owned p q.0 ds es q.1.0 q.1.1.1.1.0 q.1.1.1.1.1.0 sc.0 m.0 ok.1.0 (λ i. eqns_moved (also owned (renamed_decls q.0 ds)) i es q.1.0 q.1.1.1.1.1.0 sc.0.3 m.0.3 ok.1.0.1.1),
            (
              tests_moved types among (with_variables s ds) (with_variables r (renamed_decls q.0 ds)) i.grows among' q.0 (lasts_in ds lasts) (lasts_in (renamed_decls q.0 ds) lasts') i.names i.lasting until ok.1.1.0,
              (
                tests_moved types among s r p.grows among' to lasts lasts' p.names p.lasting unless ok.1.1.1.0,
                states_moved owned p e d c ss q.1.1.0 q.1.1.1.1.1.1 sc.1 m.1 ok.1.1.1.1,
              ),
            ),
          ),
        )
