-- The equations of a block define new variables and those of the names that the block defines, and are apart.
use Rattle.std.proofs.Common.{◌≡◌, ◌⊎◌, inl, inr, ℕ, ◌+◌, ◌<◌, ◌≤◌, Bool, true, false, ◌||◌, if◌then◌else◌, List, [], ◌∷◌, ◌++◌, Option, None, Some, refl, sym, ap, subst, ◌∙◌}
use Rattle.std.specs.Str.{bytes_eq}
use Rattle.std.proofs.lemmas.Slice.Eq.{bytes_eq-Decides}
use Rattle.hp_base.specs.declared.span.Span.{Span}
use Rattle.hp_tree.specs.Expressions.{Expr, constant, variable, last_of, one, two, choose, pre, fby, arrow, when_is, merge, call}
use Rattle.hp_tree.specs.Blocks.{Decl, Block, block, Eqns, no_eqn, more_eqns, Eqn, define, switch, reset, automaton, Arms, no_arm, more_arms}
use Rattle.hp_tree.specs.Programs.{TypeDecl}
use Rattle.hp_tree.specs.Meaning.{is_among, defines, some_defines, arms_define, block_defines}
use Rattle.hp_typing.specs.Scopes.{with_variables}
use Rattle.hp_typing.specs.Types.{type_of}
use Rattle.law_judged.specs.Typed.Scopes.{Scope}
use Rattle.law_values.specs.Valued.Judged.{of_arms}
use Rattle.hp_flat.specs.Equations.{Clock}
use Rattle.law_equations.specs.Meaning.Reactions.{has}
use Rattle.law_equations.specs.Flattened.Flatten.{is_false}
use Rattle.law_equations.specs.Made.Making.{Known, Sketch, Site, Sight, Layer, Standing, Inner, Seen, next, with_eqn, on_site, restart_site, cons_number, in_block, with_flag, copy_of, atom_of, output_left, others, over, hidden, given_by, bind, bind_all, bind_outputs, link_all, is_in, each_once, names_of_eqns, names_of_arms, names_of_block, own_names, declared, remember_all, outputs_of, called_at, path_for, enter_path, sketch_expr, sketch_exprs, sketch_right, sketch_block, sketch_eqns, sketch_eqn, sketch_arms}
use Rattle.law_equations.specs.Made.Blocks.{LeftsOnce, IsPlain, ArePlain, OnePlain, ArmsPlain}
use Rattle.law_equations.specs.Made.Standing.{Knows}
use Rattle.law_equations.proofs.MadeLemmas.LayerLaws.{in-eqns, in-arms, in-block, Once, once-in, names-once}
use Rattle.law_equations.specs.Shaped.Shaped.{Part}
use Rattle.law_wellmade.specs.Timely.Tested.{ConstructorsDiffer, ExprTested, BlockTested, EqnsTested, EqnTested, ArmsTested}
use Rattle.law_wellmade.proofs.PartedLemmas.Adding.{Nothing, Adds, same, then-adds, behind-bare, wider, new-then, both, flagged, unflagged, target-adds, part-behind}
use Rattle.law_wellmade.proofs.PartedLemmas.Owning.{Owned, owned-later, owned-inside, owning-names, inner-new, owned-declared, remembering}
use Rattle.law_wellmade.proofs.PartedLemmas.Numbers.{NumbersDiffer, numbers, other-number, numbers-differ}
use Rattle.law_wellmade.proofs.PartedLemmas.Expressions.{has-first, has-more, called-adds, expr-adds, exprs-add, path-adds}

-- The variables of names may be defined, on any clock,
abbrev pub Named : Sight → (List ℕ → Bool) → ℕ → Clock → Type 0
Named see P x c = (y : List ℕ) × ((P y ≡ true) × ((see y).value ≡ Some x))

-- or on one clock.
abbrev Bound : Sight → (List ℕ → Bool) → Clock → ℕ → Clock → Type 0
Bound see P clock x c = Named see P x c × (c ≡ clock)

or_left : (a b : Bool) → a ≡ true → (a || b) ≡ true
or_left true b h = refl
or_left false b h = absurd cc

or_right : (a b : Bool) → b ≡ true → (a || b) ≡ true
or_right true b h = refl
or_right false b h = h

named_more : (see : Sight) (P Q : List ℕ → Bool) → ((y : List ℕ) → P y ≡ true → Q y ≡ true) → (x : ℕ) (c : Clock) → Named see P x c → Named see Q x c
named_more see P Q f x c h = (h.0, (f h.0 h.1.0, h.1.1))

named_there : (see : Sight) (P : List ℕ → Bool) (n x : ℕ) (c : Clock) → Owned see n → Named see P x c → x < n
named_there see P n x c o h = o.there h.0 x (inl h.1.1)

-- ---- what is bound

owned_bound : (see : Sight) (at : Site) (o source : Option ℕ) (d : Sketch) → Owned see (next d) → Owned see (next (bind at o source d))
owned_bound see at None source d w = w
owned_bound see at (Some x) source d w = w

-- one name, and then others
bound_then : (see : Sight) (at : Site) (P : List ℕ → Bool) (v : List ℕ) (source : Option ℕ) (d f : Sketch) → Owned see (next d) → P v ≡ false → Adds (Bound see P at.clock) (bind at (see v).value source d) f
    → Adds (Bound see (λ z. bytes_eq v z || P z) at.clock) d f
bound_then see at P v source d f w n rest = by (see v).value refl rest
  where
    more : (x : ℕ) (c : Clock) → Bound see P at.clock x c → Bound see (λ z. bytes_eq v z || P z) at.clock x c
    more x c h = (named_more see P (λ z. bytes_eq v z || P z) (λ y p. or_right (bytes_eq v y) (P y) p) x c h.0, h.1)

    by : (o : Option ℕ) → (see v).value ≡ o → Adds (Bound see P at.clock) (bind at o source d) f → Adds (Bound see (λ z. bytes_eq v z || P z) at.clock) d f
    by None e a = wider (Bound see P at.clock) (Bound see (λ z. bytes_eq v z || P z) at.clock) d f a more
    by (Some y) e a =
        let V : ℕ → Clock → Type 0 = λ x c. (x ≡ y) × (c ≡ at.clock) in
        then-adds V (Bound see P at.clock) (Bound see (λ z. bytes_eq v z || P z) at.clock) d (with_eqn at (y ∷ []) (copy_of (atom_of source)) d) f
        (target-adds V at y (copy_of (atom_of source)) d (refl, refl))
        a
        (λ x c h. (subst (λ z. z < next d) (sym h.0) (w.there v y (inl e)), ((v, (or_left (bytes_eq v v) (P v) ((bytes_eq-Decides v v).1 refl), e ∙ ap Some (sym h.0))), h.1)))
        (λ x c h. (named_there see P (next d) x c w h.0, more x c h))
        (λ x b c h g.
        let is : v ≡ g.0.0 = w.apart v g.0.0 x (inl (e ∙ ap Some (sym h.0))) (inl g.0.1.1) in
        let no : true ≡ false = sym g.0.1.0 ∙ ap P (sym is) ∙ n in
        absurd cc)

all_bound : (see : Sight) (at : Site) (ys : List (List ℕ × Span)) (x : ℕ) (d : Sketch) → Owned see (next d) → LeftsOnce ys → Adds (Bound see (is_among ys) at.clock) d (bind_all see at ys x d)
all_bound see at [] x d w n = same (Bound see (is_among []) at.clock) d
all_bound see at (y ∷ ys) x d w n =
    let e = bind at (see y.0).value (Some x) d in
    bound_then see at (is_among ys) y.0 (Some x) d (bind_all see at ys x e) w n.0 (all_bound see at ys x e (owned_bound see at (see y.0).value (Some x) d w) n.1)

outputs_bound : (see : Sight) (at : Site) (ys : List (List ℕ × Span)) (m : ℕ) (os : List Decl) (d : Sketch) → Owned see (next d) → LeftsOnce ys → Adds (Bound see (is_among ys) at.clock) d (bind_outputs see at ys m os d)
outputs_bound see at [] m os d w n = same (Bound see (is_among []) at.clock) d
outputs_bound see at (y ∷ ys) m os d w n =
    let e = bind at (see y.0).value (output_left m os) d in
    bound_then see at (is_among ys) y.0 (output_left m os) d (bind_outputs see at ys (m + 1) (others os) e) w n.0 (outputs_bound see at ys (m + 1) (others os) e (owned_bound see at (see y.0).value (output_left m os) d w) n.1)

all_linked : (see : Sight) (at : Site) (own : Layer) (xs : List (List ℕ)) (d : Sketch) → Owned see (next d) → Once xs → Adds (Bound see (is_in xs) at.clock) d (link_all see at own xs d)
all_linked see at own [] d w n = same (Bound see (is_in []) at.clock) d
all_linked see at own (x ∷ xs) d w n =
    let e = bind at (see x).value (given_by (own x) (see x)) d in
    bound_then see at (is_in xs) x (given_by (own x) (see x)) d (link_all see at own xs e) w n.0 (all_linked see at own xs e (owned_bound see at (see x).value (given_by (own x) (see x)) d w) n.1)

-- on any clock
any_clock : (see : Sight) (P Q : List ℕ → Bool) (clock : Clock) (d e : Sketch) → ((y : List ℕ) → P y ≡ Q y) → Adds (Bound see P clock) d e → Adds (Named see Q) d e
any_clock see P Q clock d e alike a = wider (Bound see P clock) (Named see Q) d e a (λ x c h. named_more see P Q (λ y p. sym (alike y) ∙ p) x c h.0)

-- new variables, and then those of names
new_named : (see : Sight) (P : List ℕ → Bool) (d e f : Sketch) → Owned see (next d) → Adds Nothing d e → Adds (Named see P) e f → Adds (Named see P) d f
new_named see P d e f w a b = new-then (Named see P) d e f a b (λ x c h. named_there see P (next d) x c w h)

-- ---- the arms of a control equation

-- The variables of names may be defined on the clocks of arms.
abbrev OnArm : Sight → (List ℕ → Bool) → Clock → ℕ → List ℕ → ℕ → Clock → Type 0
OnArm see P clock t js x c = Named see P x c × ((j : ℕ) × ((has js j ≡ true) × (c ≡ clock ++ (t, j) ∷ [])))

arm_then : (see : Sight) (P : List ℕ → Bool) (clock : Clock) (t i : ℕ) (js : List ℕ) (d e f : Sketch) → Owned see (next d) → has js i ≡ false
    → Adds (Bound see P (clock ++ (t, i) ∷ [])) d e → Adds (OnArm see P clock t js) e f → Adds (OnArm see P clock t (i ∷ js)) d f
arm_then see P clock t i js d e f w n a b =
    then-adds (Bound see P (clock ++ (t, i) ∷ [])) (OnArm see P clock t js) (OnArm see P clock t (i ∷ js)) d e f a b
    (λ x c h. (named_there see P (next d) x c w h.0, (h.0, (i, (has-first i js, h.1)))))
    (λ x c h. (named_there see P (next d) x c w h.0, (h.0, (h.1.0, (has-more i h.1.0 js h.1.1.0, h.1.1.1)))))
    (λ x b c h g. subst (λ b. Part b c) (sym h.1) (subst (λ c. Part (clock ++ (t, i) ∷ []) c) (sym g.1.1.1) (part-behind clock t i g.1.0 (other-number js i g.1.0 n g.1.1.0))))

either_adds : (May : ℕ → Clock → Type 0) (b : Bool) (d e f : Sketch) → Adds May d e → Adds May d f → Adds May d (if b then e else f)
either_adds May true d e f h g = h
either_adds May false d e f h g = g

module _ (types : List TypeDecl) (differ : ConstructorsDiffer types) (outputs : List ℕ → List (List ℕ)) (k : Known) (knows : Knows types outputs k) where
  -- ---- definitions

  bound_adds : (s : Scope) (e : Expr) (ys : List (List ℕ × Span)) (see : Sight) (at : Site) (d : Sketch) → ExprTested types s e → LeftsOnce ys → Owned see (next d)
      → Adds (Named see (is_among ys)) d (let x = sketch_expr k see at e d in bind_all see at ys x.1 x.0)
  bound_adds s e ys see at d h n w =
      let x = sketch_expr k see at e d in
      let a = expr-adds types differ outputs k knows s e see at d h in
      new_named see (is_among ys) d x.0 (bind_all see at ys x.1 x.0) w a
      (any_clock see (is_among ys) (is_among ys) at.clock x.0 (bind_all see at ys x.1 x.0) (λ y. refl) (all_bound see at ys x.1 x.0 (owned-later see (next d) (next x.0) a.grown w) n))

  right_adds : (s : Scope) (e : Expr) (ys : List (List ℕ × Span)) (see : Sight) (at : Site) (d : Sketch) → ExprTested types s e → LeftsOnce ys → Owned see (next d) → Adds (Named see (is_among ys)) d (sketch_right k see at ys e d)
  right_adds s (constant a c) ys see at d h n w = bound_adds s (constant a c) ys see at d h n w
  right_adds s (variable a x) ys see at d h n w = bound_adds s (variable a x) ys see at d h n w
  right_adds s (last_of a x) ys see at d h n w = bound_adds s (last_of a x) ys see at d h n w
  right_adds s (one a o e) ys see at d h n w = bound_adds s (one a o e) ys see at d h n w
  right_adds s (two a o e f) ys see at d h n w = bound_adds s (two a o e f) ys see at d h n w
  right_adds s (choose a e f g) ys see at d h n w = bound_adds s (choose a e f g) ys see at d h n w
  right_adds s (pre a e) ys see at d h n w = bound_adds s (pre a e) ys see at d h n w
  right_adds s (fby a e f) ys see at d h n w = bound_adds s (fby a e f) ys see at d h n w
  right_adds s (arrow a e f) ys see at d h n w = bound_adds s (arrow a e f) ys see at d h n w
  right_adds s (when_is a e c x) ys see at d h n w = bound_adds s (when_is a e c x) ys see at d h n w
  right_adds s (merge a x ps) ys see at d h n w = bound_adds s (merge a x ps) ys see at d h n w
  right_adds s (call a f inlined es) ys see at d h n w =
      let os = outputs_of (k.nodes f) in
      let args = sketch_exprs k see at es d in
      let c = called_at k at f args.1 os args.0 in
      let x = both d args.0 c.0 (exprs-add types differ outputs k knows s es see at d h) (called-adds types differ outputs k knows at f args.1 os args.0) in
      new_named see (is_among ys) d c.0 (bind_outputs see at ys c.1 os c.0) w x
      (any_clock see (is_among ys) (is_among ys) at.clock c.0 (bind_outputs see at ys c.1 os c.0) (λ y. refl) (outputs_bound see at ys c.1 os c.0 (owned-later see (next d) (next c.0) x.grown w) n))

  -- ---- the layer of a block

  -- Equations that define the variables of a block's names define new ones, or those that its names have from outside.
  pub layered : (standing : Standing) (ds : List Decl) (names : List (List ℕ)) (P : List ℕ → Bool) (out : Sight) (at : Site) (d f : Sketch) (U : ℕ → Clock → Type 0) → Owned out (next d)
      → (let r = own_names standing ds out names (declared k ds out, d) in let m = remember_all k at out ds r in
      (Owned (over m.0 out) (next m.1) → Adds (Named (over m.0 out) P) m.1 f)
      → ((y : List ℕ) (x : ℕ) (c : Clock) → P y ≡ true → (over r.0 out y).value ≡ Some x → (next d ≤ x) ⊎ U x c)
      → Adds U d f)
  layered standing ds names P out at d f U w made from =
      let s : Seen = (declared k ds out, d) in
      let r = own_names standing ds out names s in
      let m = remember_all k at out ds r in
      let own = owning-names standing ds out names s in
      let lasts = remembering k at out ds r in
      let first = own.owned (owned-declared k ds out (next d) w) in
      let W = Named (over m.0 out) P in
      behind-bare W U d r.1 f own.grown own.eqns
      (new-then W r.1 m.1 f lasts.adds (made (lasts.owned first)) (λ x c h. first.there h.0 x (inl (sym (lasts.values h.0) ∙ h.1.1))))
      (λ x c h. by x c (first.there h.0 x (inl (sym (lasts.values h.0) ∙ h.1.1))) (from h.0 x c h.1.0 (sym (lasts.values h.0) ∙ h.1.1)))
    where
      by : (x : ℕ) (c : Clock) → x < next (own_names standing ds out names (declared k ds out, d)).1 → (next d ≤ x) ⊎ U x c → ((next d ≤ x) × (x < next (own_names standing ds out names (declared k ds out, d)).1)) ⊎ U x c
      by x c l (inl g) = inl (g, l)
      by x c l (inr u) = inr u

  -- ---- blocks

  mutual
    block_adds : (s : Scope) (b : Block) (out : Sight) (at : Site) (d : Sketch) → IsPlain b → BlockTested types s b → Owned out (next d) → Adds Nothing d (sketch_block k Inner out at b d).1
    block_adds s (block ds es) out at d p h w =
        let names = each_once [] (names_of_eqns es) in
        let r = own_names Inner ds out names (declared k ds out, d) in
        let m = remember_all k at out ds r in
        layered Inner ds names (some_defines es) out at d (sketch_eqns k (over m.0 out) at ds es m.1) Nothing w
        (λ o. eqns-add (with_variables s ds) es ds (over m.0 out) at m.1 p.2 h o)
        (λ y x c q v. inl (inner-new ds out names (declared k ds out, d) y x (once-in (names_of_eqns es) y ∙ in-eqns es p.2 y ∙ q) v))

    pub eqns-add : (s : Scope) (es : Eqns) (ds : List Decl) (see : Sight) (at : Site) (d : Sketch) → ArePlain es → EqnsTested types s ds es → Owned see (next d) → Adds (Named see (some_defines es)) d (sketch_eqns k see at ds es d)
    eqns-add s no_eqn ds see at d p h w = same (Named see (some_defines no_eqn)) d
    eqns-add s (more_eqns e es) ds see at d p h w =
        let m = sketch_eqn k see at ds e d in
        let a = eqn_adds s e ds see at d p.1.0 h.0 w in
        let V = Named see (defines e) in
        let W = Named see (some_defines es) in
        let U = Named see (some_defines (more_eqns e es)) in
        then-adds V W U d m (sketch_eqns k see at ds es m) a (eqns-add s es ds see at m p.1.1 h.1 (owned-later see (next d) (next m) a.grown w))
        (λ x c g. (named_there see (defines e) (next d) x c w g, named_more see (defines e) (some_defines (more_eqns e es)) (λ y q. or_left (defines e y) (some_defines es y) q) x c g))
        (λ x c g. (named_there see (some_defines es) (next d) x c w g, named_more see (some_defines es) (some_defines (more_eqns e es)) (λ y q. or_right (defines e y) (some_defines es y) q) x c g))
        (λ x b c g j.
        let is : g.0 ≡ j.0 = w.apart g.0 j.0 x (inl g.1.1) (inl j.1.1) in
        let no : true ≡ false = sym j.1.0 ∙ ap (some_defines es) (sym is) ∙ p.0 g.0 g.1.0 in
        absurd cc)

    eqn_adds : (s : Scope) (e : Eqn) (ds : List Decl) (see : Sight) (at : Site) (d : Sketch) → OnePlain e → EqnTested types s ds e → Owned see (next d) → Adds (Named see (defines e)) d (sketch_eqn k see at ds e d)
    eqn_adds s (define a ys e) ds see at d p h w =
        let q = enter_path k see (path_for ds ys e) at d in
        let x = path-adds types differ outputs k knows see (path_for ds ys e) at d in
        new_named see (is_among ys) d q.1 (sketch_right k see q.0 ys e q.1) w x (right_adds s e ys see q.0 q.1 h.1 p (owned-later see (next d) (next q.1) x.grown w))
    eqn_adds s (switch a e arms) ds see at d p h w =
        let names = each_once [] (names_of_arms arms) in
        let t = sketch_expr k see at e d in
        let x = expr-adds types differ outputs k knows s e see at d h.0 in
        let f = sketch_arms k see (over (hidden names see) see) at names t.1 arms t.0 in
        let o = owned-later see (next d) (next t.0) x.grown w in
        let js = numbers k (of_arms arms) in
        let made = arms_add s arms see (over (hidden names see) see) at names t.1 t.0 p h.1.1.1
        (numbers-differ types differ outputs k knows (type_of s e) (of_arms arms) h.1.0 h.1.1.0) (names-once (names_of_arms arms)) o (owned-inside names see (next t.0) o) in
        new_named see (arms_define arms) d t.0 f w x
        (wider (OnArm see (is_in names) at.clock t.1 js) (Named see (arms_define arms)) t.0 f made
        (λ x c g. named_more see (is_in names) (arms_define arms) (λ y q. sym (once-in (names_of_arms arms) y ∙ in-arms arms p y) ∙ q) x c g.0))
    eqn_adds s (reset a b e) ds see at d p h w =
        let names = each_once [] (names_of_block b) in
        let inside = over (hidden names see) see in
        let alike : (y : List ℕ) → is_in names y ≡ block_defines b y = λ y. once-in (names_of_block b) y ∙ in-block b p y in
        let m = sketch_block k Inner inside at b d in
        let never = block_adds s b inside at d p h.1 (owned-inside names see (next d) w) in
        let t = sketch_expr k see at e d in
        let x = expr-adds types differ outputs k knows s e see at d h.0 in
        let o = owned-later see (next d) (next t.0) x.grown w in
        let r = sketch_block k Inner inside (in_block (restart_site at t.1)) b (with_flag None t.0) in
        let q = with_flag t.0.flag r.1 in
        let within = block_adds s b inside (in_block (restart_site at t.1)) (with_flag None t.0) p h.1 (owned-inside names see (next t.0) o) in
        let once = names-once (names_of_block b) in
        either_adds (Named see (block_defines b)) (is_false e) d (link_all see at m.0 names m.1) (link_all see at r.0 names q)
        (new_named see (block_defines b) d m.1 (link_all see at m.0 names m.1) w never
        (any_clock see (is_in names) (block_defines b) at.clock m.1 (link_all see at m.0 names m.1) alike (all_linked see at m.0 names m.1 (owned-later see (next d) (next m.1) never.grown w) once)))
        (new_named see (block_defines b) d q (link_all see at r.0 names q) w (both d t.0 q x (flagged Nothing t.0 r.1 t.0.flag (unflagged Nothing t.0 r.1 None within)))
        (any_clock see (is_in names) (block_defines b) at.clock q (link_all see at r.0 names q) alike (all_linked see at r.0 names q (owned-later see (next t.0) (next q) within.grown o) once)))
    eqn_adds s (automaton a ss) ds see at d p h w = absurd p

    arms_add : (s : Scope) (arms : Arms) (see inside : Sight) (at : Site) (names : List (List ℕ)) (t : ℕ) (d : Sketch) → ArmsPlain arms → ArmsTested types s arms → NumbersDiffer (numbers k (of_arms arms)) → Once names
        → Owned see (next d) → Owned inside (next d) → Adds (OnArm see (is_in names) at.clock t (numbers k (of_arms arms))) d (sketch_arms k see inside at names t arms d)
    arms_add s no_arm see inside at names t d p h n once w v = same (OnArm see (is_in names) at.clock t []) d
    arms_add s (more_arms c b a arms) see inside at names t d p h n once w v =
        let on = on_site at t (cons_number k c) in
        let m = sketch_block k Inner inside (in_block on) b (with_flag None d) in
        let linked = link_all see on m.0 names m.1 in
        let e = with_flag d.flag linked in
        let x = unflagged Nothing d m.1 None (block_adds s b inside (in_block on) (with_flag None d) p.0 h.0 v) in
        let links = all_linked see on m.0 names m.1 (owned-later see (next d) (next m.1) x.grown w) once in
        let May = Bound see (is_in names) on.clock in
        let first = flagged May d linked d.flag (new-then May d m.1 linked x links (λ y c g. named_there see (is_in names) (next d) y c w g.0)) in
        arm_then see (is_in names) at.clock t (cons_number k c) (numbers k (of_arms arms)) d e (sketch_arms k see inside at names t arms e) w n.0 first
        (arms_add s arms see inside at names t e p.1 h.1 n.1 once (owned-later see (next d) (next e) first.grown w) (owned-later inside (next d) (next e) first.grown v))
