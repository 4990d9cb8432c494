-- What is made of a block has clocks.
use Rattle.std.proofs.Common.{◌≡◌, ◌⊎◌, inl, inr, ℕ, Bool, true, false, ◌||◌, if◌then◌else◌, List, [], ◌∷◌, ◌++◌, length, Option, None, Some, refl, sym, ap, subst, ◌∙◌}
use Rattle.std.specs.Prelude.{⊤, IsTrue}
use Rattle.hp_base.specs.declared.ty.Ty.{Ty}
use Rattle.hp_base.specs.declared.ty.Ty.TheVariants as ty
use Rattle.hp_obc.specs.Machines.{ObcType}
use Rattle.hp_tree.specs.declared.decl.Cons.{Cons}
use Rattle.hp_tree.specs.Blocks.{Decl, Block, block, Eqns, no_eqn, more_eqns, Eqn, define, switch, reset, automaton, Arms, no_arm, more_arms}
use Rattle.hp_tree.specs.Programs.{TypeDecl, Node}
use Rattle.hp_tree.specs.Operators.{cons_of}
use Rattle.hp_tree.specs.Values.{IsOf}
use Rattle.hp_tree.specs.Meaning.{declares, defines, some_defines, block_defines, arms_define, clock_in}
use Rattle.hp_meaning.specs.Causal.Clocked.{Standing as ClocksRead, standing_in, BlockRight, AllRight, OneRight, ArmsRight}
use Rattle.hp_typing.specs.Scopes.{with_variables}
use Rattle.law_judged.specs.Typed.Scopes.{Scope}
use Rattle.law_values.specs.Valued.Judged.{Lasts, lasts_in, is_named, of_arms, Completes, BlockSound, EqnsSound, EqnSound, ArmsSound}
use Rattle.law_values.specs.Filled.Firsts.{DeclsHaveFirsts, BlockHasFirsts, EqnsHaveFirsts, EqnHasFirsts, ArmsHaveFirsts}
use Rattle.hp_flat.specs.declared.node.FlatTy.TheVariants as flat
use Rattle.hp_flat.specs.Equations.{Clock}
use Rattle.hp_flat.specs.Nodes.{FlatNode}
use Rattle.law_equations.specs.Flattened.Flatten.{is_false}
use Rattle.law_wellmade.specs.Timely.Tested.{ConsAre, BlockTested, EqnsTested, EqnTested, ArmsTested}
use Rattle.law_equations.specs.Made.Sights.{Entry}
use Rattle.law_equations.specs.Made.Blocks.{IsPlain, ArePlain, OnePlain, ArmsPlain, locals_of}
use Rattle.law_equations.specs.Made.Making.{Known, Sketch, Site, Sight, Layer, Seen, Standing, Inner, flat_type, cons_number, on_site, in_block, restart_site, with_flag, over, or_entry, hidden, is_in, names_of_eqns, names_of_arms, names_of_block, each_once, block_layer, given_by, link_all, sketch_expr, sketch_block, sketch_eqns, sketch_eqn, sketch_arms}
use Rattle.law_equations.proofs.MadeLemmas.LayerLaws.{in-arms, in-block, once-in}
use Rattle.law_wellmade.proofs.BegunLemmas.Keeping.{HasType, Keeps, moved}
use Rattle.law_wellmade.proofs.BegunLemmas.Typing.{Grounded, SeesTypes, typed}
use Rattle.law_wellmade.proofs.BegunLemmas.BlockRegisters.{declared_types, grounded_more}
use Rattle.law_wellmade.proofs.RegularLemmas.Good.{SiteGood, site_moved, on_good, restart_good}
use Rattle.law_wellmade.proofs.RegularLemmas.Expressions.{TypeFacts, HaveFirsts, sees_moved}
use Rattle.law_wellmade.proofs.RegularLemmas.Layers.{SaysLocal}
use Rattle.law_wellmade.proofs.RegularLemmas.Entering.{firsts_inside, Sees, SeesAround, layer_made}
use Rattle.law_wellmade.proofs.RegularLemmas.Links.{hidden_sees, Completed, around_inner}
use Rattle.law_choices.specs.Closed.Clocking.{IsFrontOf, StepsStand, IsSplit}
use Rattle.law_choices.proofs.OnClocksLemmas.Steps.{front_itself, front_further, DefinedOn, Step, then_step, weaker, no_step, enclosed}
use Rattle.law_choices.proofs.OnClocksLemmas.Sites.{stand_more, resolved, SeesTimed}
use Rattle.law_choices.proofs.OnClocksLemmas.Arms.{ArmFacts, split_by}
use Rattle.law_choices.proofs.OnClocksLemmas.Expressions.{finish, There, Ready, named_one, expr_step}
use Rattle.law_choices.proofs.OnClocksLemmas.Rights.{MayDefine, GivesAll, EachName, LinkReady, links_step, definition_step}
use Rattle.law_choices.proofs.OnClocksLemmas.Layers.{undeclared_base, OutReady, LayerTimed, seen_around, layer_step}

-- ---- in a control equation

abbrev shown : Bool → Entry → Entry
shown true e = record { ty = e.ty; value = e.last; last = e.last; is_local = false }
shown false e = e

hidden_is : (names : List (List ℕ)) (see : Sight) (x : List ℕ) (b : Bool) → is_in names x ≡ b → over (hidden names see) see x ≡ shown b (see x)
hidden_is names see x b e = ap (λ c. or_entry (if c then Some (record { ty = (see x).ty; value = (see x).last; last = (see x).last; is_local = false }) else None) (see x)) e ∙ by b
  where
    by : (c : Bool) → or_entry (if c then Some (record { ty = (see x).ty; value = (see x).last; last = (see x).last; is_local = false }) else None) (see x) ≡ shown c (see x)
    by true = refl
    by false = refl

-- what is seen there is there
module _ (k : Known) (names : List (List ℕ)) (see : Sight) (b c : Clock) (st : ClocksRead) (front : IsFrontOf b c) (g : ℕ → Clock) (t : SeesTimed k see b st g) where
  inside_value : (x : List ℕ) (v : ℕ) → st x ≡ Some [] → (over (hidden names see) see x).value ≡ Some v → IsFrontOf (g v) c
  inside_value x v i e = by (is_in names x) refl
    where
      by : (q : Bool) → is_in names x ≡ q → IsFrontOf (g v) c
      by true q = front_further (g v) b c (t.lasts x v (sym (ap (λ (z : Entry). z.value) (hidden_is names see x true q)) ∙ e)) front
      by false q = front_further (g v) b c (t.values x [] v i (sym (ap (λ (z : Entry). z.value) (hidden_is names see x false q)) ∙ e)) front

  inside_last : (x : List ℕ) (v : ℕ) → (over (hidden names see) see x).last ≡ Some v → IsFrontOf (g v) c
  inside_last x v e = by (is_in names x) refl
    where
      by : (q : Bool) → is_in names x ≡ q → IsFrontOf (g v) c
      by true q = front_further (g v) b c (t.lasts x v (sym (ap (λ (z : Entry). z.last) (hidden_is names see x true q)) ∙ e)) front
      by false q = front_further (g v) b c (t.lasts x v (sym (ap (λ (z : Entry). z.last) (hidden_is names see x false q)) ∙ e)) front

  last_there : (x : List ℕ) (v : ℕ) → (see x).last ≡ Some v → IsFrontOf (g v) c
  last_there x v e = front_further (g v) b c (t.lasts x v e) front

  hidden_value : (x : List ℕ) → is_in names x ≡ true → (v : ℕ) → (over (hidden names see) see x).value ≡ Some v → IsFrontOf (g v) c
  hidden_value x q v e = last_there x v (sym (ap (λ (z : Entry). z.value) (hidden_is names see x true q)) ∙ e)

  -- what a block gives to a name
  given_there : (own : Layer) (x : List ℕ) (declared : Bool) (v : ℕ) → is_in names x ≡ true → SaysLocal declared (own x) → (declared ≡ false → (over own (over (hidden names see) see) x).value ≡ Some v → IsFrontOf (g v) c) → given_by (own x) (see x) ≡ Some v → IsFrontOf (g v) c
  given_there own x declared v q l f e = by (own x) l f e
    where
      by_local : (entry : Entry) (local : Bool) → local ≡ declared → (declared ≡ false → entry.value ≡ Some v → IsFrontOf (g v) c) → (if local then (see x).last else entry.value) ≡ Some v → IsFrontOf (g v) c
      by_local entry true i f e = last_there x v e
      by_local entry false i f e = f (sym i) e

      by : (o : Option Entry) → SaysLocal declared o → (declared ≡ false → (or_entry o (over (hidden names see) see x)).value ≡ Some v → IsFrontOf (g v) c) → given_by o (see x) ≡ Some v → IsFrontOf (g v) c
      by None i f e = last_there x v e
      by (Some entry) i f e = by_local entry entry.is_local i f e

either_one : {X : Type 0} (a b : Bool) → (a || b) ≡ true → (a ≡ true → X) → (b ≡ true → X) → X
either_one true b h f g = f refl
either_one false b h f g = g h

or_right : (a b : Bool) → b ≡ true → (a || b) ≡ true
or_right true b h = refl
or_right false b h = h

or_left : (a b : Bool) → a ≡ true → (a || b) ≡ true
or_left true b h = refl
or_left false b h = absurd cc

-- an arm that defines a name is tested
first_tested : (decls : List TypeDecl) (u : Ty) (arms : Arms) (y : List ℕ) → arms_define arms y ≡ true → ConsAre decls (Some u) (of_arms arms) → (c : Cons) × IsOf decls u (cons_of decls c)
first_tested decls u no_arm y h t = absurd cc
first_tested decls u (more_arms c b s arms) y h t = (c, t.0)

module _ (obc : List ObcType) (n : FlatNode) (k : Known) (decls : List TypeDecl) (arms_known : ArmFacts obc k decls) (facts : TypeFacts obc k decls) (among : List ℕ → Option Node) (callees : (f : List ℕ) (m : Node) → among f ≡ Some m → DeclsHaveFirsts decls m.outputs) where
  completes : (e : Eqn) (lasts : Lasts) (b : Block) (names : List (List ℕ)) → Completes decls among e lasts b → ((x : List ℕ) → is_in names x ≡ true → defines e x ≡ true) → Completed obc k decls facts among callees names b lasts
  completes e lasts b names h named x i m = by (h x (named x i))
    where
      by : IsTrue (block_defines b x) ⊎ IsTrue (lasts x) → IsTrue (lasts x)
      by (inl q) = absurd (let r = sym m ∙ q in cc)
      by (inr q) = q

  -- what is asked where a block is made, and what its layer then says
  abbrev pub BlockReady : Block → Standing → ClocksRead → Sight → Site → (ℕ → Clock) → Type 0
  BlockReady (block ds es) standing st out at g = OutReady obc n k standing ds es st out at g

  abbrev pub BlockGives : Block → Sight → Clock → Seen → (ℕ → Clock) → Type 0
  BlockGives b out c m g = (x : List ℕ) (v : ℕ) → declares (locals_of b) x ≡ false → ((u : ℕ) → (out x).value ≡ Some u → IsFrontOf (g u) c) → (over m.0 out x).value ≡ Some v → IsFrontOf (g v) c

  abbrev Around : Scope → Lasts → Sight → Sketch → Type 0
  Around s lasts see d = Sees obc k decls facts among callees s lasts see d

  abbrev EqnsReady : Sight → ClocksRead → Site → List Decl → (List ℕ → Bool) → (ℕ → Clock) → Type 0
  EqnsReady see st at ds named g = (StepsStand n obc g [] at.clock × SeesTimed k see at.clock st g) × ((y : List ℕ) (v : ℕ) → named y ≡ true → (see y).value ≡ Some v → g v ≡ resolved k see at.clock (clock_in ds y))

  abbrev AreSplit : Sight → List (List ℕ) → (ℕ → Clock) → Type 0
  AreSplit see names g = (y : List ℕ) (v : ℕ) → is_in names y ≡ true → (see y).value ≡ Some v → IsSplit n obc g v

  abbrev ArmsReady : Sight → ClocksRead → Site → List (List ℕ) → ℕ → (ℕ → Clock) → Type 0
  ArmsReady see st at names t g = (StepsStand n obc g [] at.clock × SeesTimed k see at.clock st g) × (IsFrontOf (g t) at.clock × AreSplit see names g)

  -- each name has an equation for each arm
  abbrev EachArm : List Cons → Sight → List (List ℕ) → Site → ℕ → Sketch → Type 0
  EachArm cs see names at t d = (c : Cons) → IsTrue (is_named cs c) → EachName obc n at.clock see names (at.clock ++ (t, cons_number k c) ∷ []) d

  either_step : (b : Clock) (c : Bool) (d e f : Sketch) (A R : (ℕ → Clock) → Type 0) → Step obc n b d e A R → Step obc n b d f A R → Step obc n b d (if c then e else f) A R
  either_step b true d e f A R p q = p
  either_step b false d e f A R p q = q

  -- a block within, at a site on a clock that goes further: it is ready, and what it gives to the names of the control equation is there
  module _ (b : Block) (names : List (List ℕ)) (see : Sight) (st : ClocksRead) (c : Clock) (inner : Site) (front : IsFrontOf c inner.clock) where
    inner_ready : (g : ℕ → Clock) → StepsStand n obc g [] inner.clock → SeesTimed k see c st g → BlockReady b Inner st (over (hidden names see) see) inner g
    inner_ready g s t = by b
      where
        by : (b : Block) → BlockReady b Inner st (over (hidden names see) see) inner g
        by (block ds es) =
            (s, record { values = λ x v i e. inside_value k names see c inner.clock st front g t x v i e; lasts = λ x v e. inside_last k names see c inner.clock st front g t x v e; own = λ x v i o e. absurd cc })

    gives_all : (m : Seen) → ((x : List ℕ) → SaysLocal (declares (locals_of b) x) (m.0 x)) → (g : ℕ → Clock) → SeesTimed k see c st g → BlockGives b (over (hidden names see) see) inner.clock m g → GivesAll obc n c inner see m.0 names g
    gives_all m local g t f y v i e =
        given_there k names see c inner.clock st front g t m.0 y (declares (locals_of b) y) v i (local y) (λ o q. f y v o (λ u r. hidden_value k names see c inner.clock st front g t y i u r) q) e

  mutual
    pub block_step : (b : Block) (standing : Standing) (s : Scope) (lasts : Lasts) (st : ClocksRead) (out : Sight) (at : Site) (d : Sketch) → Grounded k s → SeesTypes k s out → HaveFirsts decls s → BlockSound decls among s lasts b → BlockTested decls s b → BlockHasFirsts decls b
        → IsPlain b → SeesAround obc k decls facts among callees standing b s lasts out d → SiteGood obc d at → BlockRight st b → at.base ≡ length at.clock
        → let m = sketch_block k standing out at b d in Step obc n at.clock d m.1 (BlockReady b standing st out at) (BlockGives b out at.clock m) × ((x : List ℕ) → SaysLocal (declares (locals_of b) x) (m.0 x))
    block_step (block ds es) standing s lasts st out at d ground sees known ok w firsts plain around good right base =
        let m = block_layer k standing out at ds (each_once [] (names_of_eqns es)) d in
        let see = over m.0 out in
        let inside = with_variables s ds in
        let known_inside = firsts_inside decls s ds (declared_types decls among inside es ds ok.0) firsts.0 known in
        let l = layer_made obc k decls facts among callees standing ds es s lasts out at d ok.0 ok.1.0 plain.1 plain.2 sees known_inside around good in
        let e = sketch_eqns k see at ds es m.1 in
        let p = layer_step obc n k standing ds es st out at d plain.0 plain.1 plain.2 right.0 in
        let q =
        eqns_step es inside (lasts_in ds lasts) (standing_in ds es st) see at ds m.1 (grounded_more k ds s ground) l.types_seen known_inside ok.1.1 w firsts.1 plain.2 l.seen (site_moved obc d m.1 at l.moves.keeps good) right.1 base in (
          then_step obc n at.clock d m.1 e (OutReady obc n k standing ds es st out at) (LayerTimed obc n k standing ds es st out at d) (EqnsReady see (standing_in ds es st) at ds (some_defines es)) (λ g. ⊤) (BlockGives (block ds es) out at.clock (m.0, e)) p q
              (λ g i h r. ((h.0, r.sees), r.owns))
              (λ g i h r z x v o f a. by g x v o (some_defines es x) refl (r.owns x v) (λ j. f v (sym (seen_around obc n k standing ds es st out at d plain.2 x j) ∙ a)) a),
          l.is_local,
        )
      where
        by : (g : ℕ → Clock) (x : List ℕ) (v : ℕ) → declares ds x ≡ false → (c : Bool) → some_defines es x ≡ c
            → let see = over (block_layer k standing out at ds (each_once [] (names_of_eqns es)) d).0 out in
            (some_defines es x ≡ true → (see x).value ≡ Some v → g v ≡ resolved k see at.clock (clock_in ds x)) → (some_defines es x ≡ false → IsFrontOf (g v) at.clock) → (see x).value ≡ Some v → IsFrontOf (g v) at.clock
        by g x v o true i own f a = let see = over (block_layer k standing out at ds (each_once [] (names_of_eqns es)) d).0 out in front_itself (g v) at.clock (own i a ∙ ap (resolved k see at.clock) (undeclared_base ds x o))
        by g x v o false i own f a = f i

    eqns_step : (es : Eqns) (s : Scope) (lasts : Lasts) (st : ClocksRead) (see : Sight) (at : Site) (ds : List Decl) (d : Sketch) → Grounded k s → SeesTypes k s see → HaveFirsts decls s → EqnsSound decls among s lasts es → EqnsTested decls s ds es → EqnsHaveFirsts decls es
        → ArePlain es → Around s lasts see d → SiteGood obc d at → AllRight st ds es → at.base ≡ length at.clock → Step obc n at.clock d (sketch_eqns k see at ds es d) (EqnsReady see st at ds (some_defines es)) (λ g. ⊤)
    eqns_step no_eqn s lasts st see at ds d ground sees known ok w firsts plain v good right base = weaker obc n at.clock d d (λ g. ⊤) (λ g. ⊤) (EqnsReady see st at ds (λ x. false)) (λ g. ⊤) (no_step obc n at.clock d (λ g. ⊤)) (λ g i h. tt) (λ g i h r. tt)
    eqns_step (more_eqns e es) s lasts st see at ds d ground sees known ok w firsts plain v good right base =
        let m = sketch_eqn k see at ds e d in
        let p = eqn_step e s lasts st see at ds d ground sees known ok.0 w.0 firsts.0 plain.1.0 v good right.0 base in
        let q =
        eqns_step es s lasts st see at ds m ground sees known ok.1 w.1 firsts.1 plain.1.1 (sees_moved obc k decls facts among callees s lasts see d m p.grows.types v) (site_moved obc d m at p.grows.types good) right.1 base in
        let Before : (ℕ → Clock) → Type 0 = EqnsReady see st at ds (λ x. defines e x || some_defines es x) in
        then_step obc n at.clock d m (sketch_eqns k see at ds es m) Before (λ g. ⊤) (EqnsReady see st at ds (some_defines es)) (λ g. ⊤) (λ g. ⊤)
        (weaker obc n at.clock d m (EqnsReady see st at ds (defines e)) (λ g. ⊤) Before (λ g. ⊤) p (λ g i h. (h.0, λ y u a r. h.1 y u (or_left (defines e y) (some_defines es y) a) r)) (λ g i h r. tt))
        q (λ g i h r. (h.0, λ y u a z. h.1 y u (or_right (defines e y) (some_defines es y) a) z)) (λ g i h r z. tt)

    eqn_step : (e : Eqn) (s : Scope) (lasts : Lasts) (st : ClocksRead) (see : Sight) (at : Site) (ds : List Decl) (d : Sketch) → Grounded k s → SeesTypes k s see → HaveFirsts decls s → EqnSound decls among s lasts e → EqnTested decls s ds e → EqnHasFirsts decls e
        → OnePlain e → Around s lasts see d → SiteGood obc d at → OneRight st ds e → at.base ≡ length at.clock → Step obc n at.clock d (sketch_eqn k see at ds e d) (EqnsReady see st at ds (defines e)) (λ g. ⊤)
    eqn_step (define a ys e) s lasts st see at ds d ground sees known ok w firsts plain v good right base =
        definition_step obc n k decls arms_known among s lasts see at.clock st ds ys e at d right.0 right.1 right.2 (record { clock = refl; base = base }) ok w.0 w.1 v.values
    eqn_step (switch a e arms) s lasts st see at ds d ground sees known ok w firsts plain v good right base =
        let names = each_once [] (names_of_arms arms) in
        let t = sketch_expr k see at e d in
        let z = sketch_arms k see (over (hidden names see) see) at names t.1 arms t.0 in
        let u = ok.1.0.0 in
        let tested : ConsAre decls (Some u) (of_arms arms) = subst (λ o. ConsAre decls o (of_arms arms)) ok.1.0.1.0 w.1.0 in
        let named : (x : List ℕ) → is_in names x ≡ true → arms_define arms x ≡ true = λ x i. sym (once-in (names_of_arms arms) x ∙ in-arms arms plain x) ∙ i in
        let p = expr_step obc n k decls arms_known among s lasts see at.clock st e [] at d right.1 (record { clock = refl; base = base }) ok.0 w.0 v.values in
        let test_typed : HasType t.0 t.1 (flat_type k.types u) = typed k s see ground sees e u at d ok.1.0.1.0 in
        let q =
        arms_step arms (switch a e arms) u s lasts st see at names t.1 t.0 ground sees known ok.1.1 w.1.1.1 firsts plain tested test_typed named (sees_moved obc k decls facts among callees s lasts see d t.0 p.grows.types v) (site_moved obc d t.0 at p.grows.types good) right.2 base in
        let end : HasType z t.1 (flat_type k.types u) = moved t.0 z t.1 (flat_type k.types u) q.0.grows.types test_typed in
        finish obc n at.clock d t.0 z (EqnsReady see st at ds (arms_define arms)) (There obc n at.clock at t.1) (ArmsReady see st at names t.1) (λ g. ⊤)
        (weaker obc n at.clock d t.0 (Ready obc n k decls arms_known among s lasts see at.clock st at) (There obc n at.clock at t.1) (EqnsReady see st at ds (arms_define arms)) (There obc n at.clock at t.1) p (λ g i h. h.0) (λ g i h r. r))
        q.0
        (λ g i h r. (
          h.0,
          (
            r,
            λ y x j o.
                let one = first_tested decls u arms y (named y j) tested in
                split_by obc n k decls arms_known g z x t.1 u (of_arms arms) one.0 at.clock i end ok.1.0.1.1 one.1 (h.1 y x (named y j) o ∙ ap (resolved k see at.clock) (right.0 y (named y j))) r (λ c m. q.1 c m y x j o),
          ),
        ))
    eqn_step (reset a b e) s lasts st see at ds d ground sees known ok w firsts plain v good right base =
        let names = each_once [] (names_of_block b) in
        let inside = over (hidden names see) see in
        let seen_there = hidden_sees k s names see sees in
        let named : (x : List ℕ) → is_in names x ≡ true → block_defines b x ≡ true = λ x i. sym (once-in (names_of_block b) x ∙ in-block b plain x) ∙ i in
        let complete : Completed obc k decls facts among callees names b lasts = λ x i m. absurd (let r = sym m ∙ named x i in cc) in
        let Before : (ℕ → Clock) → Type 0 = EqnsReady see st at ds (block_defines b) in
        let own : (g : ℕ → Clock) → Before g → MayDefine obc n at.clock at see (is_in names) g = λ g h y x i o. inl (h.1 y x (named y i) o ∙ ap (resolved k see at.clock) (right.0 y (named y i))) in
        -- never begun anew
        let one = sketch_block k Inner inside at b d in
        let made = block_step b Inner s lasts st inside at d ground seen_there known ok.1 w.1 firsts plain (around_inner obc k decls facts among callees b names s lasts see d complete v) good right.2 base in
        let link = links_step obc n at.clock see at one.0 names one.1 in
        let first : Step obc n at.clock d (link_all see at one.0 names one.1) Before (λ g. ⊤) =
        then_step obc n at.clock d one.1 _ Before (BlockGives b inside at.clock one) (LinkReady obc n at.clock at see one.0 names) (λ g. ⊤) (λ g. ⊤)
        (weaker obc n at.clock d one.1 (BlockReady b Inner st inside at) (BlockGives b inside at.clock one) Before (BlockGives b inside at.clock one) made.0 (λ g i h. inner_ready b names see st at.clock at (front_itself at.clock at.clock refl) g h.0.0 h.0.1) (λ g i h r. r))
        link.0 (λ g i h r. (h.0.0, (own g h, gives_all b names see st at.clock at (front_itself at.clock at.clock refl) one made.1 g h.0.1 r))) (λ g i h r z. tt) in
        -- begun anew
        let t = sketch_expr k see at e d in
        let p = expr_step obc n k decls arms_known among s lasts see at.clock st e [] at d right.1 (record { clock = refl; base = base }) ok.0.0 w.0 v.values in
        let c = with_flag None t.0 in
        let to_c : Keeps d c = record { kept = λ x u h. p.grows.types.kept x u h } in
        let test : HasType c t.1 flat.Bool = typed k s see ground sees e ty.Bool at d ok.0.1 in
        let anew = in_block (restart_site at t.1) in
        let two = sketch_block k Inner inside anew b c in
        let f = with_flag t.0.flag two.1 in
        let made_anew =
        block_step b Inner s lasts st inside anew c ground seen_there known ok.1 w.1 firsts plain (around_inner obc k decls facts among callees b names s lasts see c complete (sees_moved obc k decls facts among callees s lasts see d c to_c v))
        (restart_good obc c at t.1 (site_moved obc d c at to_c good) test) right.2 refl in
        let link_anew = links_step obc n at.clock see at two.0 names f in
        let within : Step obc n at.clock t.0 f Before (BlockGives b inside at.clock two) =
        weaker obc n at.clock t.0 f (BlockReady b Inner st inside anew) (BlockGives b inside at.clock two) Before (BlockGives b inside at.clock two) (enclosed obc n at.clock at.clock t.0 two.1 (BlockReady b Inner st inside anew) (BlockGives b inside at.clock two) made_anew.0)
        (λ g i h. inner_ready b names see st at.clock anew (front_itself at.clock at.clock refl) g h.0.0 h.0.1) (λ g i h r. r) in
        let begun : Step obc n at.clock d f Before (BlockGives b inside at.clock two) =
        then_step obc n at.clock d t.0 f Before (There obc n at.clock at t.1) Before (BlockGives b inside at.clock two) (BlockGives b inside at.clock two)
        (weaker obc n at.clock d t.0 (Ready obc n k decls arms_known among s lasts see at.clock st at) (There obc n at.clock at t.1) Before (There obc n at.clock at t.1) p (λ g i h. h.0) (λ g i h r. r)) within (λ g i h r. h) (λ g i h r z. z) in
        let second : Step obc n at.clock d (link_all see at two.0 names f) Before (λ g. ⊤) =
        then_step obc n at.clock d f _ Before (BlockGives b inside at.clock two) (LinkReady obc n at.clock at see two.0 names) (λ g. ⊤) (λ g. ⊤) begun link_anew.0
        (λ g i h r. (h.0.0, (own g h, gives_all b names see st at.clock at (front_itself at.clock at.clock refl) two made_anew.1 g h.0.1 r))) (λ g i h r z. tt) in
        either_step at.clock (is_false e) d (link_all see at one.0 names one.1) (link_all see at two.0 names f) Before (λ g. ⊤) first second
    eqn_step (automaton a ss) s lasts st see at ds d ground sees known ok w firsts plain v good right base = absurd plain

    arms_step : (arms : Arms) (e : Eqn) (u : Ty) (s : Scope) (lasts : Lasts) (st : ClocksRead) (see : Sight) (at : Site) (names : List (List ℕ)) (x : ℕ) (d : Sketch) → Grounded k s → SeesTypes k s see → HaveFirsts decls s → ArmsSound decls among e s lasts arms → ArmsTested decls s arms
        → ArmsHaveFirsts decls arms → ArmsPlain arms → ConsAre decls (Some u) (of_arms arms) → HasType d x (flat_type k.types u) → ((y : List ℕ) → is_in names y ≡ true → defines e y ≡ true) → Around s lasts see d → SiteGood obc d at → ArmsRight st arms → at.base ≡ length at.clock
        → let z = sketch_arms k see (over (hidden names see) see) at names x arms d in Step obc n at.clock d z (ArmsReady see st at names x) (λ g. ⊤) × EachArm (of_arms arms) see names at x z
    arms_step no_arm e u s lasts st see at names x d ground sees known ok w firsts plain cs xt named v good right base =
        (weaker obc n at.clock d d (λ g. ⊤) (λ g. ⊤) (ArmsReady see st at names x) (λ g. ⊤) (no_step obc n at.clock d (λ g. ⊤)) (λ g i h. tt) (λ g i h r. tt), λ c i. absurd cc)
    arms_step (more_arms c b a arms) e u s lasts st see at names x d ground sees known ok w firsts plain cs xt named v good right base =
        let arm_site = on_site at x (cons_number k c) in
        let inside = over (hidden names see) see in
        let start = with_flag None d in
        let to_start : Keeps d start = record { kept = λ y u h. h } in
        let complete = completes e lasts b names ok.0 named in
        let go : SiteGood obc start arm_site = site_moved obc d start arm_site to_start (on_good obc d at x (cons_number k c) (flat_type k.types u) good xt (facts.wide u c cs.0)) in
        let m = sketch_block k Inner inside (in_block arm_site) b start in
        let made =
        block_step b Inner s lasts st inside (in_block arm_site) start ground (hidden_sees k s names see sees) known ok.1.0 w.0 firsts.0 plain.0
        (around_inner obc k decls facts among callees b names s lasts see start complete (sees_moved obc k decls facts among callees s lasts see d start to_start v)) go right.0 refl in
        let link = links_step obc n arm_site.clock see arm_site m.0 names m.1 in
        let l = link_all see arm_site m.0 names m.1 in
        let f = with_flag d.flag l in
        let front : IsFrontOf at.clock arm_site.clock = ((x, cons_number k c) ∷ [], refl) in
        let stands : (g : ℕ → Clock) → ArmsReady see st at names x g → StepsStand n obc g [] arm_site.clock = λ g h. stand_more obc n g [] at.clock x (cons_number k c) h.0.0 h.1.0 in
        let inner : Step obc n arm_site.clock start l (ArmsReady see st at names x) (λ g. ⊤) =
        then_step obc n arm_site.clock start m.1 l (ArmsReady see st at names x) (BlockGives b inside arm_site.clock m) (LinkReady obc n arm_site.clock arm_site see m.0 names) (λ g. ⊤) (λ g. ⊤)
        (weaker obc n arm_site.clock start m.1 (BlockReady b Inner st inside (in_block arm_site)) (BlockGives b inside arm_site.clock m) (ArmsReady see st at names x) (BlockGives b inside arm_site.clock m) made.0
        (λ g i h. inner_ready b names see st at.clock (in_block arm_site) front g (stands g h) h.0.1) (λ g i h r. r))
        link.0 (λ g i h r. (stands g h, ((λ y z j o. inr (h.1.1 y z j o)), gives_all b names see st at.clock (in_block arm_site) front m made.1 g h.0.1 r))) (λ g i h r z. tt) in
        let first = enclosed obc n at.clock arm_site.clock d l (ArmsReady see st at names x) (λ g. ⊤) inner in
        let rest =
        arms_step arms e u s lasts st see at names x f ground sees known ok.1.1 w.1 firsts.1 plain.1 cs.1 (moved d f x (flat_type k.types u) first.grows.types xt) named (sees_moved obc k decls facts among callees s lasts see d f first.grows.types v)
        (site_moved obc d f at first.grows.types good) right.1 base in
        let all = sketch_arms k see inside at names x arms f in (
          then_step obc n at.clock d f all (ArmsReady see st at names x) (λ g. ⊤) (ArmsReady see st at names x) (λ g. ⊤) (λ g. ⊤) first rest.0 (λ g i h r. h) (λ g i h r z. tt),
          λ e i y z j o. named_one k c (of_arms arms) e (λ q. DefinedOn all.eqns z (at.clock ++ (x, q) ∷ [])) i (rest.0.grows.eqns z arm_site.clock (link.1 y z j o)) (λ q. rest.1 e q y z j o),
        )
