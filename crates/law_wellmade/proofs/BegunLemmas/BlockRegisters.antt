-- What is given at each register of a block is the first value of the type of its variable.
use Rattle.std.proofs.Common.{◌≡◌, ℕ, Bool, true, false, if◌then◌else◌, List, [], ◌∷◌, Option, None, Some, inl, inr, refl, sym, ap, ◌∙◌}
use Rattle.std.specs.Prelude.{⊤, ◌||◌, ◌⊎◌, IsFalse}
use Rattle.std.specs.Str.{bytes_eq}
use Rattle.std.proofs.lemmas.Slice.Eq.{bytes_eq-Decides}
use Rattle.hp_base.specs.declared.value.Value.{Value}
use Rattle.hp_base.specs.declared.ty.Ty.{Ty}
use Rattle.hp_base.specs.declared.ty.Ty.TheVariants as ty
use Rattle.hp_base.specs.declared.ty.Const.{Const}
use Rattle.hp_tree.specs.Blocks.{Decl, Block, block, Eqns, no_eqn, more_eqns, Eqn, define, switch, reset, automaton, Arms, no_arm, more_arms}
use Rattle.hp_tree.specs.Programs.{TypeDecl, Node}
use Rattle.hp_tree.specs.Instant.{Body as BodyOf, Equations, Head, Tail, Right as RightOf, Test, Arms as ArmsOf, Place, Instant}
use Rattle.hp_tree.specs.Meaning.{declares, controls_of}
use Rattle.hp_base.specs.Known.Known.{lookup, with_entry}
use Rattle.hp_typing.specs.Scopes.{with_variables, inside_node}
use Rattle.law_judged.specs.Typed.Scopes.{Scope}
use Rattle.law_values.specs.Valued.Judged.{Lasts, lasts_in, no_lasts, body_scope, DeclsSound, BlockSound, EqnsSound, EqnSound, ArmsSound, HaveOwnTypes, NodeSound}
use Rattle.law_values.proofs.ValuedLemmas.Typed.{some_is}
use Rattle.law_values.proofs.ValuedLemmas.Scoped.{not_declared}
use Rattle.law_equations.specs.Flattened.Flatten.{Prefix, below, is_false}
use Rattle.law_equations.specs.Flattened.Lifted.{in_body}
use Rattle.law_equations.specs.Made.Sights.{Entry}
use Rattle.law_equations.specs.Made.Making.{Known, Sketch, Site, Sight, Layer, Seen, Made, Standing, Body, Inner, next, cons_number, flat_type, on_site, in_block, restart_site, base_site, unknown, with_flag, with_variable, over, or_entry, put, hidden, is_in, names_of_eqns, names_of_arms, names_of_block, each_once, with_own, own_variable, own_name, own_names, type_declared, declared, remember, remember_all, block_layer, link_all, enter_path, path_for, sketch_expr, sketch_block, sketch_eqn, signed, signature, no_entry, nothing_made}
use Rattle.law_equations.specs.Made.Blocks.{Either, ReadyBlock, ReadyEqns, ReadyEqn, ReadyArms}
use Rattle.law_equations.specs.Made.Laws.{around_body}
use Rattle.law_wellmade.specs.Begun.Firsts.{block_firsts, eqns_firsts, eqn_firsts, arms_firsts}
use Rattle.law_wellmade.proofs.BegunLemmas.Typing.{Grounded, SeesTypes}
use Rattle.law_wellmade.proofs.BegunLemmas.RegisterLaws.{Gives, ready, ready_right}

pub same_name : (x y : List ℕ) → bytes_eq x y ≡ true → x ≡ y
same_name x y h = (bytes_eq-Decides x y).0 h

either_way : (b : Bool) (A G : Type 0) → A → G → Either b A G
either_way true A G a g = a
either_way false A G a g = g

-- ---- scopes

nodes_kept : (ds : List Decl) (s : Scope) → (with_variables s ds).nodes ≡ s.nodes
nodes_kept [] s = refl
nodes_kept (d ∷ ds) s = nodes_kept ds (record s { variables = with_entry s.variables d.name d.ty })

constructors_kept : (ds : List Decl) (s : Scope) → (with_variables s ds).constructors ≡ s.constructors
constructors_kept [] s = refl
constructors_kept (d ∷ ds) s = constructors_kept ds (record s { variables = with_entry s.variables d.name d.ty })

pub grounded_more : (k : Known) (ds : List Decl) (s : Scope) → Grounded k s → Grounded k (with_variables s ds)
grounded_more k ds s g =
    record {
      constructors = λ c u h. g.constructors c u (sym (ap (λ z. lookup z c) (constructors_kept ds s)) ∙ h);
      nodes = λ f n h. g.nodes f n (sym (ap (λ z. lookup z f) (nodes_kept ds s)) ∙ h);
    }

-- each name that is declared has its type in the scope
abbrev pub OwnTypes : Scope → List Decl → Type 0
OwnTypes s [] = ⊤
OwnTypes s (d ∷ ds) = (lookup s.variables d.name ≡ Some d.ty) × OwnTypes s ds

pub declared_types : (types : List TypeDecl) (among : List ℕ → Option Node) (s : Scope) (es : Eqns) (ds : List Decl) → DeclsSound types among s es ds → OwnTypes s ds
declared_types types among s es [] ok = tt
declared_types types among s es (d ∷ ds) ok = (ok.0.0, declared_types types among s es ds ok.1)

pub owned : (types : List TypeDecl) (among : List ℕ → Option Node) (s : Scope) (ds : List Decl) → HaveOwnTypes types among s ds → OwnTypes s ds
owned types among s [] ok = tt
owned types among s (d ∷ ds) ok = (ok.0, owned types among s ds ok.1)

-- ---- layers that say the same of types

abbrev SameTypes : Layer → Layer → Sight → Type 0
SameTypes l m out = (y : List ℕ) → (over m out y).ty ≡ (over l out y).ty

put_same : (x : List ℕ) (v : Entry) (own : Layer) (out : Sight) → v.ty ≡ (over own out x).ty → SameTypes own (put x v own) out
put_same x v own out h y = by (bytes_eq x y) refl
  where
    by : (b : Bool) → bytes_eq x y ≡ b → (or_entry (if b then Some v else own y) (out y)).ty ≡ (over own out y).ty
    by true e = h ∙ ap (λ z. (over own out z).ty) (same_name x y e)
    by false e = refl

own_same : (ds : List Decl) (out : Sight) (x : List ℕ) (s : Seen) (m : Made) → SameTypes s.0 (with_own ds x (over s.0 out x) s.0 m).0 out
own_same ds out x s m = put_same x _ s.0 out refl

own_name_same : (standing : Standing) (ds : List Decl) (out : Sight) (x : List ℕ) (s : Seen) → SameTypes s.0 (own_name standing ds out x s).0 out
own_name_same Body ds out x s = by (declares ds x)
  where
    by : (b : Bool) → SameTypes s.0 (if b then with_own ds x (over s.0 out x) s.0 (own_variable Body ds x (over s.0 out x).ty s.1) else s).0 out
    by true = own_same ds out x s (own_variable Body ds x (over s.0 out x).ty s.1)
    by false = λ y. refl
own_name_same Inner ds out x s = own_same ds out x s (own_variable Inner ds x (over s.0 out x).ty s.1)

own_names_same : (standing : Standing) (ds : List Decl) (out : Sight) (xs : List (List ℕ)) (s : Seen) → SameTypes s.0 (own_names standing ds out xs s).0 out
own_names_same standing ds out [] s y = refl
own_names_same standing ds out (x ∷ xs) s y = own_names_same standing ds out xs (own_name standing ds out x s) y ∙ own_name_same standing ds out x s y

hidden_same : (names : List (List ℕ)) (see : Sight) (x : List ℕ) → (over (hidden names see) see x).ty ≡ (see x).ty
hidden_same names see x = by (is_in names x)
  where
    by : (b : Bool) → (or_entry (if b then Some (record { ty = (see x).ty; value = (see x).last; last = (see x).last; is_local = false }) else None) (see x)).ty ≡ (see x).ty
    by true = refl
    by false = refl

module _ (k : Known) where
  remember_same : (at : Site) (out : Sight) (d : Decl) (c : Option Const) (s : Seen) → SameTypes s.0 (remember k at out d c s).0 out
  remember_same at out d None s y = refl
  remember_same at out d (Some c) s y = put_same d.name _ s.0 out refl y

  remember_all_same : (at : Site) (out : Sight) (ds : List Decl) (s : Seen) → SameTypes s.0 (remember_all k at out ds s).0 out
  remember_all_same at out [] s y = refl
  remember_all_same at out (d ∷ ds) s y = remember_all_same at out ds (remember k at out d d.last s) y ∙ remember_same at out d d.last s y

  -- ---- what a block declares

  -- a name that is declared has its type there
  type_declared_is : (s : Scope) (ds : List Decl) (x : List ℕ) (t : Ty) → OwnTypes s ds → lookup s.variables x ≡ Some t → declares ds x ≡ true → type_declared k ds x ≡ flat_type k.types t
  type_declared_is s [] x t o h e = absurd (cc)
  type_declared_is s (d ∷ ds) x t o h e = by (bytes_eq d.name x) refl e (type_declared_is s ds x t o.1 h)
    where
      by : (b : Bool) → bytes_eq d.name x ≡ b → (b || declares ds x) ≡ true → (declares ds x ≡ true → type_declared k ds x ≡ flat_type k.types t) → (if b then flat_type k.types d.ty else type_declared k ds x) ≡ flat_type k.types t
      by true q e f = ap (λ z. flat_type k.types z) (some_is d.ty t (sym o.0 ∙ ap (λ z. lookup s.variables z) (same_name d.name x q) ∙ h))
      by false q e f = f e

  declared_sees : (s : Scope) (ds : List Decl) (out : Sight) → OwnTypes (with_variables s ds) ds → SeesTypes k s out → SeesTypes k (with_variables s ds) (over (declared k ds out) out)
  declared_sees s ds out o see x t h = by (declares ds x) refl
    where
      by : (b : Bool) → declares ds x ≡ b → (or_entry (if b then Some (record { ty = type_declared k ds x; value = (out x).value; last = (out x).last; is_local = true }) else None) (out x)).ty ≡ flat_type k.types t
      by true e = type_declared_is (with_variables s ds) ds x t o h e
      by false e = see x t (sym (not_declared x ds s e) ∙ h)

  pub layer_sees : (standing : Standing) (out : Sight) (at : Site) (ds : List Decl) (names : List (List ℕ)) (d : Sketch) (s : Scope) → OwnTypes (with_variables s ds) ds → SeesTypes k s out
      → SeesTypes k (with_variables s ds) (over (block_layer k standing out at ds names d).0 out)
  layer_sees standing out at ds names d s o see x t h =
      remember_all_same at out ds (own_names standing ds out names (declared k ds out, d)) x ∙ own_names_same standing ds out names (declared k ds out, d) x ∙ declared_sees s ds out o see x t h

  hidden_sees : (s : Scope) (names : List (List ℕ)) (see : Sight) → SeesTypes k s see → SeesTypes k s (over (hidden names see) see)
  hidden_sees s names see h x t e = hidden_same names see x ∙ h x t e

  -- ---- the variables around the body of a node

  put_says : (x : List ℕ) (v : Entry) (own : Layer) (y : List ℕ) (t : Ty) (ds : List Decl) → (bytes_eq x y ≡ true → v.ty ≡ flat_type k.types t) → ((bytes_eq x y || declares ds y) ≡ true) ⊎ ((over own unknown y).ty ≡ flat_type k.types t)
      → (declares ds y ≡ true) ⊎ ((over (put x v own) unknown y).ty ≡ flat_type k.types t)
  put_says x v own y t ds f h = by (bytes_eq x y) f h
    where
      by : (b : Bool) → (b ≡ true → v.ty ≡ flat_type k.types t) → ((b || declares ds y) ≡ true) ⊎ ((over own unknown y).ty ≡ flat_type k.types t) → (declares ds y ≡ true) ⊎ ((or_entry (if b then Some v else own y) (unknown y)).ty ≡ flat_type k.types t)
      by true f h = inr (f refl)
      by false f (inl e) = inl e
      by false f (inr q) = inr q

  signed_says : (s : Scope) (ds : List Decl) (m : Seen) (x : List ℕ) (t : Ty) → OwnTypes s ds → lookup s.variables x ≡ Some t → (declares ds x ≡ true) ⊎ ((over m.0 unknown x).ty ≡ flat_type k.types t) → (over (signed k ds m).0 unknown x).ty ≡ flat_type k.types t
  signed_says s [] m x t o h (inl e) = absurd (cc)
  signed_says s [] m x t o h (inr q) = q
  signed_says s (d ∷ ds) m x t o h c =
      signed_says s ds (put d.name (record { ty = flat_type k.types d.ty; value = Some (next m.1); last = None; is_local = true }) m.0, with_variable d.name (flat_type k.types d.ty) m.1) x t o.1 h
      (put_says d.name _ m.0 x t ds (λ e. ap (λ z. flat_type k.types z) (some_is d.ty t (sym o.0 ∙ ap (λ z. lookup s.variables z) (same_name d.name x e) ∙ h))) c)

  -- a name of the body is an output, a controllable variable or an input
  pub around_sees : (types : List TypeDecl) (among : List ℕ → Option Node) (s : Scope) (n : Node) → s.variables ≡ [] → NodeSound types among s n → SeesTypes k (body_scope s n) (over (around_body k n).0 unknown)
  around_sees types among s n e ok x t h =
      let controls = controls_of n.contract in
      let m = signed k n.inputs (no_entry, nothing_made) in
      let own = body_scope s n in
      remember_all_same base_site unknown n.outputs (signature k n) x
      ∙ signed_says own n.outputs (signed k controls m) x t (owned types among own n.outputs ok.1.0.1) h
      (by_name n.outputs
      (λ a. inr (signed_says own controls m x t (owned types among own controls ok.1.1.0) h
      (by_name controls
      (λ b. inr (signed_says own n.inputs (no_entry, nothing_made) x t (owned types among own n.inputs ok.1.0.0) h
      (by_name n.inputs
      (λ c. absurd (let r : lookup s.variables x ≡ Some t =
      sym (not_declared x n.inputs s c) ∙ sym (not_declared x n.outputs (with_variables s n.inputs) a) ∙ sym (not_declared x controls (inside_node s n) b) ∙ h in
      let z : None ≡ Some t = ap (λ vs. lookup vs x) (sym e) ∙ r in cc)))))))))
    where
      by_name : {X : Type 0} (ds : List Decl) → (IsFalse (declares ds x) → (declares ds x ≡ true) ⊎ X) → (declares ds x ≡ true) ⊎ X
      by_name {X = X} ds f = by (declares ds x) refl
        where
          by : (b : Bool) → declares ds x ≡ b → (declares ds x ≡ true) ⊎ X
          by true q = inl q
          by false q = f q

  -- ---- blocks

  module _ (types : List TypeDecl) (among : List ℕ → Option Node) (callee : List ℕ → Instant) (fill : Place → Value) where
    mutual
      pub block_ready : (b : Block) (standing : Standing) (s : Scope) (lasts : Lasts) (out : Sight) (at : Site) (here : Prefix) (d : Sketch) → Grounded k s → SeesTypes k s out → BlockSound types among s lasts b → Gives fill here (block_firsts k callee s b)
          → ReadyBlock k fill standing out at b here d
      block_ready (block ds es) standing s lasts out at here d ground see ok g =
          let layer = block_layer k standing out at ds (each_once [] (names_of_eqns es)) d in
          eqns_ready es (with_variables s ds) (lasts_in ds lasts) (over layer.0 out) at ds (below Equations here) layer.1 (grounded_more k ds s ground)
          (layer_sees standing out at ds (each_once [] (names_of_eqns es)) d s (declared_types types among (with_variables s ds) es ds ok.0) see) ok.1.1 (λ p. g (Equations ∷ p))

      eqns_ready : (es : Eqns) (s : Scope) (lasts : Lasts) (see : Sight) (at : Site) (ds : List Decl) (here : Prefix) (d : Sketch) → Grounded k s → SeesTypes k s see → EqnsSound types among s lasts es → Gives fill here (eqns_firsts k callee s es)
          → ReadyEqns k fill see at ds es here d
      eqns_ready no_eqn s lasts see at ds here d ground sees ok g = tt
      eqns_ready (more_eqns e es) s lasts see at ds here d ground sees ok g =
          (eqn_ready e s lasts see at ds (below Head here) d ground sees ok.0 (λ p. g (Head ∷ p)), eqns_ready es s lasts see at ds (below Tail here) (sketch_eqn k see at ds e d) ground sees ok.1 (λ p. g (Tail ∷ p)))

      eqn_ready : (e : Eqn) (s : Scope) (lasts : Lasts) (see : Sight) (at : Site) (ds : List Decl) (here : Prefix) (d : Sketch) → Grounded k s → SeesTypes k s see → EqnSound types among s lasts e → Gives fill here (eqn_firsts k callee s e)
          → ReadyEqn k fill see at ds e here d
      eqn_ready (define a ys e) s lasts see at ds here d ground sees ok g =
          let p = enter_path k see (path_for ds ys e) at d in
          ready_right k callee fill s see ground sees types among lasts ys e p.0 (below RightOf here) p.1 ok (λ q. g (RightOf ∷ q))
      eqn_ready (switch a e arms) s lasts see at ds here d ground sees ok g =
          let names = each_once [] (names_of_arms arms) in
          let t = sketch_expr k see at e d in (
            ready k callee fill s see ground sees e ok.1.0.0 at (below Test here) d ok.1.0.1.0 (λ p. g (Test ∷ p)),
            arms_ready arms (switch a e arms) s lasts see (over (hidden names see) see) at names t.1 (below ArmsOf here) t.0 ground (hidden_sees s names see sees) ok.1.1 (λ p. g (ArmsOf ∷ p)),
          )
      eqn_ready (reset a b e) s lasts see at ds here d ground sees ok g =
          let names = each_once [] (names_of_block b) in
          let t = sketch_expr k see at e d in
          let inside = over (hidden names see) see in
          either_way (is_false e) _ _
          (block_ready b Inner s lasts inside at (below BodyOf here) d ground (hidden_sees s names see sees) ok.1 (λ p. g (BodyOf ∷ p))) (
            ready k callee fill s see ground sees e ty.Bool at (below Test here) d ok.0.1 (λ p. g (Test ∷ p)),
            block_ready b Inner s lasts inside (in_block (restart_site at t.1)) (below BodyOf here) (with_flag None t.0) ground (hidden_sees s names see sees) ok.1 (λ p. g (BodyOf ∷ p)),
          )
      eqn_ready (automaton a ss) s lasts see at ds here d ground sees ok g = tt

      arms_ready : (arms : Arms) (e : Eqn) (s : Scope) (lasts : Lasts) (see inside : Sight) (at : Site) (names : List (List ℕ)) (t : ℕ) (here : Prefix) (d : Sketch) → Grounded k s → SeesTypes k s inside → ArmsSound types among e s lasts arms
          → Gives fill here (arms_firsts k callee s arms) → ReadyArms k fill see inside at names t arms here d
      arms_ready no_arm e s lasts see inside at names t here d ground sees ok g = tt
      arms_ready (more_arms c b a arms) e s lasts see inside at names t here d ground sees ok g =
          let on = on_site at t (cons_number k c) in
          let m = sketch_block k Inner inside (in_block on) b (with_flag None d) in (
            block_ready b Inner s lasts inside (in_block on) (below Head here) (with_flag None d) ground sees ok.1.0 (λ p. g (Head ∷ p)),
            arms_ready arms e s lasts see inside at names t (below Tail here) (with_flag d.flag (link_all see on m.0 names m.1)) ground sees ok.1.1 (λ p. g (Tail ∷ p)),
          )

    pub body_ready : (s : Scope) (n : Node) → s.variables ≡ [] → Grounded k s → NodeSound types among s n → Gives fill in_body (block_firsts k callee (body_scope s n) n.body)
        → ReadyBlock k fill Body (over (around_body k n).0 unknown) base_site n.body in_body (around_body k n).1
    body_ready s n e ground ok g =
        block_ready n.body Body (body_scope s n) (lasts_in n.outputs no_lasts) (over (around_body k n).0 unknown) base_site in_body (around_body k n).1
        (grounded_more k (controls_of n.contract) (inside_node s n) (grounded_more k n.outputs (with_variables s n.inputs) (grounded_more k n.inputs s ground)))
        (around_sees types among s n e ok) ok.1.1.1.1.0 g
