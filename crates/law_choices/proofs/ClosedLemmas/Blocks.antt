-- What is made of a block defines each variable that it makes.
use Rattle.std.proofs.Common.{◌≡◌, ◌⊎◌, inl, inr, ℕ, ◌<◌, ◌≤◌, Bool, true, false, if◌then◌else◌, List, [], Option, None, Some, refl, sym, ap, subst, ◌∙◌, arith}
use Rattle.std.specs.Prelude.{◌||◌, ◌&&◌, not, IsTrue}
use Rattle.std.proofs.lemmas.Bool.{cases_lt}
use Rattle.hp_base.specs.declared.ty.Ty.{Ty}
use Rattle.hp_base.specs.declared.ty.Ty.TheVariants as ty
use Rattle.hp_tree.specs.Blocks.{Decl, Block, block, Eqns, no_eqn, more_eqns, Eqn, define, switch, reset, automaton, Arms, no_arm, more_arms}
use Rattle.hp_tree.specs.Programs.{TypeDecl, Node}
use Rattle.hp_tree.specs.Meaning.{declares, defines, some_defines, block_defines, arms_define}
use Rattle.hp_base.specs.Known.Known.{lookup}
use Rattle.hp_typing.specs.Scopes.{with_variables}
use Rattle.law_judged.specs.Typed.Scopes.{Scope}
use Rattle.law_values.specs.Valued.Judged.{Lasts, lasts_in, Completes, BlockSound, EqnsSound, EqnSound, ArmsSound}
use Rattle.law_values.proofs.ValuedLemmas.Laws.{and_left, and_right}
use Rattle.law_values.proofs.ValuedLemmas.Scoped.{not_declared}
use Rattle.law_equations.specs.Flattened.Flatten.{is_false}
use Rattle.law_wellmade.specs.Timely.Tested.{BlockTested, EqnsTested, EqnTested, ArmsTested}
use Rattle.law_equations.specs.Made.Sights.{Entry}
use Rattle.law_equations.specs.Made.Blocks.{IsPlain, ArePlain, OnePlain, ArmsPlain}
use Rattle.law_equations.specs.Made.Making.{Known, Sketch, Site, Sight, Seen, Standing, Body, Inner, next, cons_number, on_site, in_block, restart_site, with_flag, over, or_entry, hidden, is_in, names_of_eqns, names_of_arms, names_of_block, each_once, own_names, declared, block_layer, link_all, sketch_expr, sketch_block, sketch_eqns, sketch_eqn, sketch_arms}
use Rattle.law_equations.proofs.MadeLemmas.LayerLaws.{in-eqns, in-arms, in-block, once-in, names-once, is_owned}
use Rattle.law_wellmade.proofs.BegunLemmas.Typing.{Grounded}
use Rattle.law_wellmade.proofs.BegunLemmas.BlockRegisters.{grounded_more}
use Rattle.law_wellmade.proofs.RegularLemmas.Layers.{names_last}
use Rattle.law_wellmade.proofs.RegularLemmas.Entering.{hides}
use Rattle.law_choices.proofs.ClosedLemmas.Filling.{is_target, Fills, same, both, flagged, unflagged}
use Rattle.law_choices.proofs.ClosedLemmas.Expressions.{HasVariable, expr_fills}
use Rattle.law_choices.proofs.ClosedLemmas.Rights.{Binds, then_binds, links_bind, definition_binds}
use Rattle.law_choices.proofs.ClosedLemmas.Layers.{declared_says, names_unowned, names_have, names_new, all_remembered, last_has}

-- the names that are seen, and their last values, have variables
pub record Sees (s : Scope) (lasts : Lasts) (see : Sight) : Type 0 where
  pub values : (x : List ℕ) (t : Ty) → lookup s.variables x ≡ Some t → HasVariable (see x).value
  pub remembered : (x : List ℕ) → IsTrue (lasts x) → HasVariable (see x).last

-- what is seen around a block
pub record SeesAround (standing : Standing) (b : Block) (s : Scope) (lasts : Lasts) (out : Sight) : Type 0 where
  pub values : (x : List ℕ) (t : Ty) → lookup s.variables x ≡ Some t → hides standing b x ≡ false → HasVariable (out x).value
  pub remembered : (x : List ℕ) → IsTrue (lasts x) → HasVariable (out x).last

-- ---- in a control equation

abbrev shown : Bool → Entry → Entry
shown true e = record { ty = e.ty; value = e.last; last = e.last; is_local = false }
shown false e = e

hidden_is : (names : List (List ℕ)) (see : Sight) (x : List ℕ) (b : Bool) → is_in names x ≡ b → over (hidden names see) see x ≡ shown b (see x)
hidden_is names see x b e = ap (λ c. or_entry (if c then Some (record { ty = (see x).ty; value = (see x).last; last = (see x).last; is_local = false }) else None) (see x)) e ∙ by b
  where
    by : (c : Bool) → or_entry (if c then Some (record { ty = (see x).ty; value = (see x).last; last = (see x).last; is_local = false }) else None) (see x) ≡ shown c (see x)
    by true = refl
    by false = refl

-- A name of a control equation that a block of it does not define has a last value.
abbrev Completed : List (List ℕ) → Block → Lasts → Type 0
Completed names b lasts = (x : List ℕ) → is_in names x ≡ true → block_defines b x ≡ false → IsTrue (lasts x)

around_inner : (b : Block) (names : List (List ℕ)) (s : Scope) (lasts : Lasts) (see : Sight) → Completed names b lasts → Sees s lasts see → SeesAround Inner b s lasts (over (hidden names see) see)
around_inner b names s lasts see complete v = record { values = λ x t h n. by x t h n (is_in names x) refl; remembered = λ x l. last x l (is_in names x) refl }
  where
    by : (x : List ℕ) (t : Ty) → lookup s.variables x ≡ Some t → block_defines b x ≡ false → (c : Bool) → is_in names x ≡ c → HasVariable (over (hidden names see) see x).value
    by x t h n true e = subst (λ (q : Entry). HasVariable q.value) (sym (hidden_is names see x true e)) (v.remembered x (complete x e n))
    by x t h n false e = subst (λ (q : Entry). HasVariable q.value) (sym (hidden_is names see x false e)) (v.values x t h)

    last : (x : List ℕ) → IsTrue (lasts x) → (c : Bool) → is_in names x ≡ c → HasVariable (over (hidden names see) see x).last
    last x l true e = subst (λ (q : Entry). HasVariable q.last) (sym (hidden_is names see x true e)) (v.remembered x l)
    last x l false e = subst (λ (q : Entry). HasVariable q.last) (sym (hidden_is names see x false e)) (v.remembered x l)

-- ---- the layer of a block

module _ (k : Known) where
  abbrev layer : Standing → Sight → Site → List Decl → Eqns → Sketch → Seen
  layer standing out at ds es d = block_layer k standing out at ds (each_once [] (names_of_eqns es)) d

  layer_values : (standing : Standing) (ds : List Decl) (es : Eqns) (s : Scope) (lasts : Lasts) (out : Sight) (at : Site) (d : Sketch) → ((x : List ℕ) → declares ds x ≡ true → some_defines es x ≡ true) → ArePlain es → SeesAround standing (block ds es) s lasts out
      → (x : List ℕ) (t : Ty) → lookup (with_variables s ds).variables x ≡ Some t → HasVariable (over (layer standing out at ds es d).0 out x).value
  layer_values standing ds es s lasts out at d all plain around x t h =
      subst HasVariable (sym ((all_remembered k at out ds (own_names standing ds out names (declared k ds out, d))).value x)) (names_have standing ds out names (declared k ds out, d) x (by (declares ds x) refl))
    where
      names : List (List ℕ)
      names = each_once [] (names_of_eqns es)

      in_names : some_defines es x ≡ true → is_in names x ≡ true
      in_names e = once-in (names_of_eqns es) x ∙ in-eqns es plain x ∙ e

      owned : (st : Standing) → declares ds x ≡ true → is_owned st ds x ≡ true
      owned Body e = e
      owned Inner e = refl

      around_is : HasVariable (out x).value → HasVariable (over (declared k ds out) out x).value
      around_is q = subst HasVariable (sym (declared_says k ds out x).0) q

      outside : declares ds x ≡ false → (st : Standing) → (hides st (block ds es) x ≡ false → HasVariable (out x).value) → ((is_in names x ≡ true) × (is_owned st ds x ≡ true)) ⊎ HasVariable (over (declared k ds out) out x).value
      outside e Body f = inr (around_is (f refl))
      outside e Inner f = within (some_defines es x) refl
        where
          within : (b : Bool) → some_defines es x ≡ b → ((is_in names x ≡ true) × (is_owned Inner ds x ≡ true)) ⊎ HasVariable (over (declared k ds out) out x).value
          within true q = inl (in_names q, refl)
          within false q = inr (around_is (f (ap (λ c. c && not (declares ds x)) q)))

      by : (b : Bool) → declares ds x ≡ b → ((is_in names x ≡ true) × (is_owned standing ds x ≡ true)) ⊎ HasVariable (over (declared k ds out) out x).value
      by true e = inl (in_names (all x e), owned standing e)
      by false e = outside e standing (around.values x t (sym (not_declared x ds s e) ∙ h))

  layer_lasts : (standing : Standing) (ds : List Decl) (es : Eqns) (s : Scope) (lasts : Lasts) (out : Sight) (at : Site) (d : Sketch) → SeesAround standing (block ds es) s lasts out → (x : List ℕ) → IsTrue (lasts_in ds lasts x)
      → HasVariable (over (layer standing out at ds es d).0 out x).last
  layer_lasts standing ds es s lasts out at d around x l =
      let names = each_once [] (names_of_eqns es) in
      let m = own_names standing ds out names (declared k ds out, d) in
      last_has k at out ds lasts m x l (λ i. subst HasVariable (sym (names_last standing ds out names (declared k ds out, d) x ∙ (declared_says k ds out x).1)) (around.remembered x i))

  -- Where the names that a block defines get their values, each new variable is defined.
  layer_fills : (standing : Standing) (ds : List Decl) (es : Eqns) (out : Sight) (at : Site) (d e : Sketch) → ArePlain es → Binds (over (layer standing out at ds es d).0 out) (some_defines es) (layer standing out at ds es d).1 e → Fills d e
  layer_fills standing ds es out at d e plain b =
      let names = each_once [] (names_of_eqns es) in
      let m = own_names standing ds out names (declared k ds out, d) in
      let z = layer standing out at ds es d in
      let new = names_new standing ds out names (declared k ds out, d) (names-once (names_of_eqns es)) in
      let r = all_remembered k at out ds m in
      let rest = both m.1 z.1 e r.fills b.fills in
      let l = new.0 in
      record {
        grown = let u = rest.grown in omega (arith, l, u);
        kept = λ x h. rest.kept x (subst (λ q. is_target q x ≡ true) (sym new.1) h);
        fresh = λ x v u. by x v u (cases_lt x (next m.1)) (new.2 x v) (rest.fresh x);
      }
    where
      names : List (List ℕ)
      names = each_once [] (names_of_eqns es)

      m : Seen
      m = own_names standing ds out names (declared k ds out, d)

      by : (x : ℕ) → next d ≤ x → x < next e → (x < next m.1) ⊎ (next m.1 ≤ x) → (x < next m.1 → (y : List ℕ) × (is_in names y ≡ true) × ((over m.0 out y).value ≡ Some x)) → (next m.1 ≤ x → x < next e → is_target e.eqns x ≡ true) → is_target e.eqns x ≡ true
      by x v u (inl w) f g =
          let q = f w in
          b.bound q.0 x (sym (once-in (names_of_eqns es) q.0 ∙ in-eqns es plain q.0) ∙ q.1) ((all_remembered k at out ds m).value q.0 ∙ q.2)
      by x v u (inr w) f g = g w u

  -- a name of the body that it does not declare keeps its variable
  layer_outer : (ds : List Decl) (es : Eqns) (out : Sight) (at : Site) (d : Sketch) (y : List ℕ) → declares ds y ≡ false → (over (layer Body out at ds es d).0 out y).value ≡ (out y).value
  layer_outer ds es out at d y n =
      let names = each_once [] (names_of_eqns es) in
      let m = own_names Body ds out names (declared k ds out, d) in
      (all_remembered k at out ds m).value y ∙ names_unowned Body ds out names (declared k ds out, d) y n ∙ (declared_says k ds out y).0

-- ---- equations

not_true : (b : Bool) → IsTrue (not b) → b ≡ false
not_true true h = absurd cc
not_true false h = refl

either_binds : (see : Sight) (d e f : Sketch) (p q : List ℕ → Bool) → Binds see p d e → Binds see q e f → Binds see (λ x. p x || q x) d f
either_binds see d e f p q a b = record { fills = both d e f a.fills b.fills; bound = λ y v h r. by y v (p y) refl h r }
  where
    by : (y : List ℕ) (v : ℕ) (c : Bool) → p y ≡ c → (c || q y) ≡ true → (see y).value ≡ Some v → is_target f.eqns v ≡ true
    by y v true e h r = b.fills.kept v (a.bound y v e r)
    by y v false e h r = b.bound y v h r

-- the same names
renamed : (see : Sight) (d e : Sketch) (p q : List ℕ → Bool) → ((x : List ℕ) → q x ≡ true → p x ≡ true) → Binds see p d e → Binds see q d e
renamed see d e p q f b = record { fills = b.fills; bound = λ y v h r. b.bound y v (f y h) r }

one_binds : (see : Sight) (p : List ℕ → Bool) (c : Bool) (d e f : Sketch) → Binds see p d e → Binds see p d f → Binds see p d (if c then e else f)
one_binds see p true d e f g h = g
one_binds see p false d e f g h = h

completes : (types : List TypeDecl) (among : List ℕ → Option Node) (e : Eqn) (lasts : Lasts) (b : Block) (names : List (List ℕ)) → Completes types among e lasts b → ((x : List ℕ) → is_in names x ≡ true → defines e x ≡ true) → Completed names b lasts
completes types among e lasts b names h named x i n = by (h x (named x i))
  where
    by : IsTrue (block_defines b x) ⊎ IsTrue (lasts x) → IsTrue (lasts x)
    by (inl q) = absurd (let r = sym n ∙ q in cc)
    by (inr q) = q

either_right : (a b : Bool) → b ≡ true → (a || b) ≡ true
either_right true b h = refl
either_right false b h = h

module _ (k : Known) (types : List TypeDecl) (among : List ℕ → Option Node) where
  mutual
    pub block_fills : (b : Block) (standing : Standing) (s : Scope) (lasts : Lasts) (out : Sight) (at : Site) (d : Sketch) → Grounded k s → BlockSound types among s lasts b → BlockTested types s b → IsPlain b → SeesAround standing b s lasts out
        → Fills d (sketch_block k standing out at b d).1
    block_fills (block ds es) standing s lasts out at d ground ok w plain around =
        let m = layer k standing out at ds es d in
        layer_fills k standing ds es out at d (sketch_eqns k (over m.0 out) at ds es m.1) plain.2
        (eqns_bind es (with_variables s ds) (lasts_in ds lasts) (over m.0 out) at ds m.1 (grounded_more k ds s ground) ok.1.1 w plain.2
        (record { values = layer_values k standing ds es s lasts out at d plain.1 plain.2 around; remembered = layer_lasts k standing ds es s lasts out at d around }))

    pub eqns_bind : (es : Eqns) (s : Scope) (lasts : Lasts) (see : Sight) (at : Site) (ds : List Decl) (d : Sketch) → Grounded k s → EqnsSound types among s lasts es → EqnsTested types s ds es → ArePlain es → Sees s lasts see
        → Binds see (some_defines es) d (sketch_eqns k see at ds es d)
    eqns_bind no_eqn s lasts see at ds d ground ok w plain v = record { fills = same d; bound = λ y x h r. absurd cc }
    eqns_bind (more_eqns e es) s lasts see at ds d ground ok w plain v =
        let n = sketch_eqn k see at ds e d in
        either_binds see d n (sketch_eqns k see at ds es n) (defines e) (some_defines es) (eqn_binds e s lasts see at ds d ground ok.0 w.0 plain.1.0 v) (eqns_bind es s lasts see at ds n ground ok.1 w.1 plain.1.1 v)

    eqn_binds : (e : Eqn) (s : Scope) (lasts : Lasts) (see : Sight) (at : Site) (ds : List Decl) (d : Sketch) → Grounded k s → EqnSound types among s lasts e → EqnTested types s ds e → OnePlain e → Sees s lasts see
        → Binds see (defines e) d (sketch_eqn k see at ds e d)
    eqn_binds (define a ys e) s lasts see at ds d ground ok w plain v = definition_binds k types among s lasts see ground v.values ds ys e at d ok w.0
    eqn_binds (switch a e arms) s lasts see at ds d ground ok w plain v =
        let names = each_once [] (names_of_arms arms) in
        let t = sketch_expr k see at e d in
        let named : (x : List ℕ) → is_in names x ≡ true → arms_define arms x ≡ true = λ x i. sym (once-in (names_of_arms arms) x ∙ in-arms arms plain x) ∙ i in
        let back : (x : List ℕ) → arms_define arms x ≡ true → is_in names x ≡ true = λ x i. once-in (names_of_arms arms) x ∙ in-arms arms plain x ∙ i in
        then_binds see (arms_define arms) d t.0 _ (expr_fills k types among s lasts see ground v.values e ok.1.0.0 at d ok.1.0.1.0 ok.0)
        (arms_bind arms (switch a e arms) s lasts see at names t.1 t.0 ground ok.1.1 w.1.1.1 plain named back v)
    eqn_binds (reset a b e) s lasts see at ds d ground ok w plain v =
        let names = each_once [] (names_of_block b) in
        let inside = over (hidden names see) see in
        let named : (x : List ℕ) → is_in names x ≡ true → block_defines b x ≡ true = λ x i. sym (once-in (names_of_block b) x ∙ in-block b plain x) ∙ i in
        let back : (x : List ℕ) → block_defines b x ≡ true → is_in names x ≡ true = λ x i. once-in (names_of_block b) x ∙ in-block b plain x ∙ i in
        let complete : Completed names b lasts = λ x i n. absurd (let r = sym n ∙ named x i in cc) in
        let around = around_inner b names s lasts see complete v in
        -- never begun anew
        let one = sketch_block k Inner inside at b d in
        let first = block_fills b Inner s lasts inside at d ground ok.1 w.1 plain around in
        -- begun anew
        let t = sketch_expr k see at e d in
        let start = with_flag None t.0 in
        let anew = in_block (restart_site at t.1) in
        let two = sketch_block k Inner inside anew b start in
        let f = with_flag t.0.flag two.1 in
        let second = unflagged t.0 two.1 None (block_fills b Inner s lasts inside anew start ground ok.1 w.1 plain around) in
        let test = expr_fills k types among s lasts see ground v.values e ty.Bool at d ok.0.1 ok.0.0 in
        renamed see d _ (is_in names) (block_defines b) back
        (one_binds see (is_in names) (is_false e) d (link_all see at one.0 names one.1) (link_all see at two.0 names f)
        (then_binds see (is_in names) d one.1 _ first (links_bind see at one.0 names one.1))
        (then_binds see (is_in names) d f _ (flagged d two.1 t.0.flag (both d t.0 two.1 test second)) (links_bind see at two.0 names f)))
    eqn_binds (automaton a ss) s lasts see at ds d ground ok w plain v = absurd plain

    arms_bind : (arms : Arms) (e : Eqn) (s : Scope) (lasts : Lasts) (see : Sight) (at : Site) (names : List (List ℕ)) (x : ℕ) (d : Sketch) → Grounded k s → ArmsSound types among e s lasts arms → ArmsTested types s arms → ArmsPlain arms
        → ((y : List ℕ) → is_in names y ≡ true → defines e y ≡ true) → ((y : List ℕ) → arms_define arms y ≡ true → is_in names y ≡ true) → Sees s lasts see → Binds see (arms_define arms) d (sketch_arms k see (over (hidden names see) see) at names x arms d)
    arms_bind no_arm e s lasts see at names x d ground ok w plain named back v = record { fills = same d; bound = λ y z h r. absurd cc }
    arms_bind (more_arms c b a arms) e s lasts see at names x d ground ok w plain named back v =
        let on = on_site at x (cons_number k c) in
        let inside = over (hidden names see) see in
        let start = with_flag None d in
        let m = sketch_block k Inner inside (in_block on) b start in
        let made = unflagged d m.1 None (block_fills b Inner s lasts inside (in_block on) start ground ok.1.0 w.0 plain.0 (around_inner b names s lasts see (completes types among e lasts b names ok.0 named) v)) in
        let l = link_all see on m.0 names m.1 in
        let n = with_flag d.flag l in
        let link = links_bind see on m.0 names m.1 in
        let first : Binds see (is_in names) d n = record { fills = flagged d l d.flag (both d m.1 l made link.fills); bound = link.bound } in
        let rest = arms_bind arms e s lasts see at names x n ground ok.1.1 w.1 plain.1 named (λ y h. back y (either_right (block_defines b y) (arms_define arms y) h)) v in
        let all = sketch_arms k see inside at names x arms n in
        record { fills = both d n all first.fills rest.fills; bound = λ y z h r. rest.fills.kept z (first.bound y z (back y h) r) }

  -- What the body of a node defines outside of it is defined.
  pub body_binds : (b : Block) (s : Scope) (lasts : Lasts) (out : Sight) (at : Site) (d : Sketch) → Grounded k s → BlockSound types among s lasts b → BlockTested types s b → IsPlain b → SeesAround Body b s lasts out
      → Binds out (block_defines b) d (sketch_block k Body out at b d).1
  body_binds (block ds es) s lasts out at d ground ok w plain around =
      let m = layer k Body out at ds es d in
      let inner =
      eqns_bind es (with_variables s ds) (lasts_in ds lasts) (over m.0 out) at ds m.1 (grounded_more k ds s ground) ok.1.1 w plain.2
      (record { values = layer_values k Body ds es s lasts out at d plain.1 plain.2 around; remembered = layer_lasts k Body ds es s lasts out at d around }) in
      record {
        fills = layer_fills k Body ds es out at d (sketch_eqns k (over m.0 out) at ds es m.1) plain.2 inner;
        bound = λ y v h q. inner.bound y v (and_left (some_defines es y) (not (declares ds y)) h) (layer_outer k ds es out at d y (not_true (declares ds y) (and_right (some_defines es y) (not (declares ds y)) h)) ∙ q);
      }
