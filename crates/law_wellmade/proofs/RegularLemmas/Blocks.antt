-- The equations that are made of a block are good.
use Rattle.std.proofs.Common.{◌≡◌, ℕ, Bool, true, false, if◌then◌else◌, List, [], Option, None, Some, inl, inr, refl, sym, subst, ◌∙◌}
use Rattle.std.specs.Prelude.{◌||◌, not, ◌⊎◌, IsTrue, IsFalse}
use Rattle.hp_base.specs.declared.ty.Ty.{Ty}
use Rattle.hp_base.specs.declared.ty.Ty.TheVariants as ty
use Rattle.hp_obc.specs.Machines.{ObcType}
use Rattle.hp_tree.specs.Blocks.{Decl, Block, block, Eqns, no_eqn, more_eqns, Eqn, define, switch, reset, automaton, Arms, no_arm, more_arms}
use Rattle.hp_tree.specs.Programs.{TypeDecl, Node}
use Rattle.hp_tree.specs.Meaning.{declares, defines, some_defines, block_defines, arms_define}
use Rattle.hp_base.specs.Known.Known.{lookup}
use Rattle.hp_typing.specs.Scopes.{with_variables}
use Rattle.law_judged.specs.Typed.Scopes.{Scope}
use Rattle.law_values.specs.Valued.Judged.{Lasts, lasts_in, of_arms, Completes, BlockSound, EqnsSound, EqnSound, ArmsSound}
use Rattle.law_values.proofs.ValuedLemmas.Laws.{and_left, and_right}
use Rattle.law_values.proofs.ValuedLemmas.Scoped.{still_known}
use Rattle.hp_flat.specs.declared.node.FlatTy.TheVariants as flat
use Rattle.law_values.specs.Filled.Firsts.{DeclsHaveFirsts, BlockHasFirsts, EqnsHaveFirsts, EqnHasFirsts, ArmsHaveFirsts}
use Rattle.law_equations.specs.Flattened.Flatten.{is_false}
use Rattle.law_wellmade.specs.Timely.Tested.{ConsAre, BlockTested, EqnsTested, EqnTested, ArmsTested}
use Rattle.law_equations.specs.Made.Blocks.{IsPlain, ArePlain, OnePlain, ArmsPlain}
use Rattle.law_equations.specs.Made.Making.{Known, Sketch, Site, Sight, Standing, Inner, flat_type, cons_number, on_site, in_block, restart_site, with_flag, over, hidden, is_in, names_of_eqns, names_of_arms, names_of_block, each_once, block_layer, link_all, sketch_expr, sketch_block, sketch_eqns, sketch_eqn, sketch_arms}
use Rattle.law_equations.proofs.MadeLemmas.LayerLaws.{in-arms, in-block, once-in}
use Rattle.law_wellmade.proofs.BegunLemmas.Keeping.{HasType, Keeps, moved}
use Rattle.law_wellmade.proofs.BegunLemmas.Typing.{Grounded, SeesTypes, typed}
use Rattle.law_wellmade.proofs.BegunLemmas.BlockRegisters.{declared_types, grounded_more}
use Rattle.law_wellmade.proofs.RegularLemmas.Good.{seen_moved, SiteGood, site_moved, on_good, restart_good, Moves, still, then_moves, flag_moves, flag_back}
use Rattle.law_wellmade.proofs.RegularLemmas.Expressions.{TypeFacts, HaveFirsts, sees_moved, expr_moves}
use Rattle.law_wellmade.proofs.RegularLemmas.Rights.{definition_moves}
use Rattle.law_wellmade.proofs.RegularLemmas.Entering.{firsts_inside, Sees, SeesAround, BlockMade, layer_made}
use Rattle.law_wellmade.proofs.RegularLemmas.Links.{hidden_sees, Completed, around_inner, linked}

-- ---- names that a control equation defines have types

not_true : (b : Bool) → IsTrue (not b) → IsFalse b
not_true true h = absurd (cc)
not_true false h = refl

block_typed : (types : List TypeDecl) (among : List ℕ → Option Node) (b : Block) (s : Scope) (lasts : Lasts) (x : List ℕ) → BlockSound types among s lasts b → block_defines b x ≡ true → (t : Ty) × (lookup s.variables x ≡ Some t)
block_typed types among (block ds es) s lasts x ok h = ok.1.0 x (and_left (some_defines es x) (not (declares ds x)) h) (not_true (declares ds x) (and_right (some_defines es x) (not (declares ds x)) h))

either_one : {X : Type 0} (a b : Bool) → (a || b) ≡ true → (a ≡ true → X) → (b ≡ true → X) → X
either_one true b h f g = f refl
either_one false b h f g = g h

arms_typed : (types : List TypeDecl) (among : List ℕ → Option Node) (arms : Arms) (e : Eqn) (s : Scope) (lasts : Lasts) (x : List ℕ) → ArmsSound types among e s lasts arms → arms_define arms x ≡ true → (t : Ty) × (lookup s.variables x ≡ Some t)
arms_typed types among no_arm e s lasts x ok h = absurd (cc)
arms_typed types among (more_arms c b a arms) e s lasts x ok h = either_one (block_defines b x) (arms_define arms x) h (λ q. block_typed types among b s lasts x ok.1.0 q) (λ q. arms_typed types among arms e s lasts x ok.1.1 q)

module _ (obc : List ObcType) (k : Known) (types : List TypeDecl) (facts : TypeFacts obc k types) (among : List ℕ → Option Node) (callees : (f : List ℕ) (n : Node) → among f ≡ Some n → DeclsHaveFirsts types n.outputs) where
  abbrev Seen_in : Scope → Lasts → Sight → Sketch → Type 0
  Seen_in s lasts see d = Sees obc k types facts among callees s lasts see d

  kept_seen : (s : Scope) (lasts : Lasts) (see : Sight) (d e : Sketch) → Keeps d e → Seen_in s lasts see d → Seen_in s lasts see e
  kept_seen s lasts see d e h v = sees_moved obc k types facts among callees s lasts see d e h v

  completes : (e : Eqn) (lasts : Lasts) (b : Block) (names : List (List ℕ)) → Completes types among e lasts b → ((x : List ℕ) → is_in names x ≡ true → defines e x ≡ true) → Completed obc k types facts among callees names b lasts
  completes e lasts b names h named x i n = by (h x (named x i))
    where
      by : IsTrue (block_defines b x) ⊎ IsTrue (lasts x) → IsTrue (lasts x)
      by (inl q) = absurd (let r = sym n ∙ q in cc)
      by (inr q) = q

  reset_one : (c : Bool) (d e f : Sketch) → Moves obc k d e → Moves obc k d f → Moves obc k d (if c then e else f)
  reset_one true d e f g h = g
  reset_one false d e f g h = h

  mutual
    pub block_moves : (b : Block) (standing : Standing) (s : Scope) (lasts : Lasts) (out : Sight) (at : Site) (d : Sketch) → Grounded k s → SeesTypes k s out → HaveFirsts types s → BlockSound types among s lasts b → BlockTested types s b → BlockHasFirsts types b
        → IsPlain b → SeesAround obc k types facts among callees standing b s lasts out d → SiteGood obc d at → BlockMade obc k types facts among callees b s out d (sketch_block k standing out at b d)
    block_moves (block ds es) standing s lasts out at d ground sees known ok w firsts plain around g =
        let m = block_layer k standing out at ds (each_once [] (names_of_eqns es)) d in
        let inside = with_variables s ds in
        let known_inside = firsts_inside types s ds (declared_types types among inside es ds ok.0) firsts.0 known in
        let l = layer_made obc k types facts among callees standing ds es s lasts out at d ok.0 ok.1.0 plain.1 plain.2 sees known_inside around g in
        let e = sketch_eqns k (over m.0 out) at ds es m.1 in
        let n =
        eqns_move es inside (lasts_in ds lasts) (over m.0 out) at ds m.1 (grounded_more k ds s ground) l.types_seen known_inside ok.1.1 w firsts.1 plain.2 l.seen
        (site_moved obc d m.1 at l.moves.keeps g) in
        record {
          moves = then_moves obc k d m.1 e l.moves n;
          given = λ x t h. seen_moved m.1 e (over m.0 out x).value (flat_type k.types t) n.keeps (l.seen.values x t (still_known x ds s t h));
          is_local = l.is_local;
        }

    eqns_move : (es : Eqns) (s : Scope) (lasts : Lasts) (see : Sight) (at : Site) (ds : List Decl) (d : Sketch) → Grounded k s → SeesTypes k s see → HaveFirsts types s → EqnsSound types among s lasts es → EqnsTested types s ds es → EqnsHaveFirsts types es
        → ArePlain es → Seen_in s lasts see d → SiteGood obc d at → Moves obc k d (sketch_eqns k see at ds es d)
    eqns_move no_eqn s lasts see at ds d ground sees known ok w firsts plain v g = still obc k d
    eqns_move (more_eqns e es) s lasts see at ds d ground sees known ok w firsts plain v g =
        let n = sketch_eqn k see at ds e d in
        let m = eqn_moves e s lasts see at ds d ground sees known ok.0 w.0 firsts.0 plain.1.0 v g in
        then_moves obc k d n (sketch_eqns k see at ds es n) m
        (eqns_move es s lasts see at ds n ground sees known ok.1 w.1 firsts.1 plain.1.1 (kept_seen s lasts see d n m.keeps v) (site_moved obc d n at m.keeps g))

    eqn_moves : (e : Eqn) (s : Scope) (lasts : Lasts) (see : Sight) (at : Site) (ds : List Decl) (d : Sketch) → Grounded k s → SeesTypes k s see → HaveFirsts types s → EqnSound types among s lasts e → EqnTested types s ds e → EqnHasFirsts types e
        → OnePlain e → Seen_in s lasts see d → SiteGood obc d at → Moves obc k d (sketch_eqn k see at ds e d)
    eqn_moves (define a ys e) s lasts see at ds d ground sees known ok w firsts plain v g = definition_moves obc k types facts among callees s lasts see ground sees known ds ys e at d ok w.0 w.1 v g
    eqn_moves (switch a e arms) s lasts see at ds d ground sees known ok w firsts plain v g =
        let names = each_once [] (names_of_arms arms) in
        let t = sketch_expr k see at e d in
        let u = ok.1.0.0 in
        let tested : ConsAre types (Some u) (of_arms arms) = subst (λ o. ConsAre types o (of_arms arms)) ok.1.0.1.0 w.1.0 in
        let m = expr_moves obc k types facts among callees s lasts see ground sees known e u at d ok.1.0.1.0 ok.0 w.0 v g in
        let named : (x : List ℕ) → is_in names x ≡ true → arms_define arms x ≡ true = λ x i. sym (once-in (names_of_arms arms) x ∙ in-arms arms plain x) ∙ i in
        then_moves obc k d t.0 (sketch_arms k see (over (hidden names see) see) at names t.1 arms t.0) m
        (arms_move arms (switch a e arms) u s lasts see at names t.1 t.0 ground sees known ok.1.1 w.1.1.1 firsts plain tested (typed k s see ground sees e u at d ok.1.0.1.0) named
        (λ x i. arms_typed types among arms (switch a e arms) s lasts x ok.1.1 (named x i)) (kept_seen s lasts see d t.0 m.keeps v) (site_moved obc d t.0 at m.keeps g))
    eqn_moves (reset a b e) s lasts see at ds d ground sees known ok w firsts plain v g =
        let names = each_once [] (names_of_block b) in
        let inside = over (hidden names see) see in
        let seen_there = hidden_sees k s names see sees in
        let named : (x : List ℕ) → is_in names x ≡ true → block_defines b x ≡ true = λ x i. sym (once-in (names_of_block b) x ∙ in-block b plain x) ∙ i in
        let complete : Completed obc k types facts among callees names b lasts = λ x i n. absurd (let r = sym n ∙ named x i in cc) in
        let typed_names : (x : List ℕ) → is_in names x ≡ true → (t : Ty) × (lookup s.variables x ≡ Some t) = λ x i. block_typed types among b s lasts x ok.1 (named x i) in
        -- never begun anew
        let one = sketch_block k Inner inside at b d in
        let made = block_moves b Inner s lasts inside at d ground seen_there known ok.1 w.1 firsts plain (around_inner obc k types facts among callees b names s lasts see d complete v) g in
        let link = linked obc k types facts among callees b names s lasts see at d d one one.1 v (still obc k d).keeps made (still obc k one.1).keeps typed_names complete (site_moved obc d one.1 at made.moves.keeps g) in
        -- begun anew
        let t = sketch_expr k see at e d in
        let m = expr_moves obc k types facts among callees s lasts see ground sees known e ty.Bool at d ok.0.1 ok.0.0 w.0 v g in
        let c = with_flag None t.0 in
        let no_flag = flag_moves obc k None t.0 tt in
        let to_c = then_moves obc k d t.0 c m no_flag in
        let test : HasType c t.1 flat.Bool = moved t.0 c t.1 flat.Bool no_flag.keeps (typed k s see ground sees e ty.Bool at d ok.0.1) in
        let gc = site_moved obc d c at to_c.keeps g in
        let anew = in_block (restart_site at t.1) in
        let two = sketch_block k Inner inside anew b c in
        let made2 = block_moves b Inner s lasts inside anew c ground seen_there known ok.1 w.1 firsts plain (around_inner obc k types facts among callees b names s lasts see c complete (kept_seen s lasts see d c to_c.keeps v)) (restart_good obc c at t.1 gc test) in
        let f = with_flag t.0.flag two.1 in
        let to_f = flag_back obc k t.0 two.1 (then_moves obc k t.0 c two.1 no_flag made2.moves) in
        let all = then_moves obc k d t.0 f m to_f in
        let link2 = linked obc k types facts among callees b names s lasts see at d c two f v to_c.keeps made2 (record { kept = λ x u h. h }) typed_names complete (site_moved obc d f at all.keeps g) in
        reset_one (is_false e) d (link_all see at one.0 names one.1) (link_all see at two.0 names f)
        (then_moves obc k d one.1 (link_all see at one.0 names one.1) made.moves link)
        (then_moves obc k d f (link_all see at two.0 names f) all link2)
    eqn_moves (automaton a ss) s lasts see at ds d ground sees known ok w firsts plain v g = absurd plain

    arms_move : (arms : Arms) (e : Eqn) (u : Ty) (s : Scope) (lasts : Lasts) (see : Sight) (at : Site) (names : List (List ℕ)) (x : ℕ) (d : Sketch) → Grounded k s → SeesTypes k s see → HaveFirsts types s → ArmsSound types among e s lasts arms → ArmsTested types s arms
        → ArmsHaveFirsts types arms → ArmsPlain arms → ConsAre types (Some u) (of_arms arms) → HasType d x (flat_type k.types u) → ((y : List ℕ) → is_in names y ≡ true → defines e y ≡ true) → ((y : List ℕ) → is_in names y ≡ true → (t : Ty) × (lookup s.variables y ≡ Some t))
        → Seen_in s lasts see d → SiteGood obc d at → Moves obc k d (sketch_arms k see (over (hidden names see) see) at names x arms d)
    arms_move no_arm e u s lasts see at names x d ground sees known ok w firsts plain cs xt named typed_names v g = still obc k d
    arms_move (more_arms c b a arms) e u s lasts see at names x d ground sees known ok w firsts plain cs xt named typed_names v g =
        let on = on_site at x (cons_number k c) in
        let inside = over (hidden names see) see in
        let start = with_flag None d in
        let to_start = flag_moves obc k None d tt in
        let complete = completes e lasts b names ok.0 named in
        let go : SiteGood obc start on = site_moved obc d start on to_start.keeps (on_good obc d at x (cons_number k c) (flat_type k.types u) g xt (facts.wide u c cs.0)) in
        let m = sketch_block k Inner inside (in_block on) b start in
        let made =
        block_moves b Inner s lasts inside (in_block on) start ground (hidden_sees k s names see sees) known ok.1.0 w.0 firsts.0 plain.0
        (around_inner obc k types facts among callees b names s lasts see start complete (kept_seen s lasts see d start to_start.keeps v)) go in
        let link = linked obc k types facts among callees b names s lasts see on d start m m.1 v to_start.keeps made (still obc k m.1).keeps typed_names complete (site_moved obc start m.1 on made.moves.keeps go) in
        let l = link_all see on m.0 names m.1 in
        let n = with_flag d.flag l in
        let all = flag_back obc k d l (then_moves obc k d start l to_start (then_moves obc k start m.1 l made.moves link)) in
        then_moves obc k d n (sketch_arms k see inside at names x arms n) all
        (arms_move arms e u s lasts see at names x n ground sees known ok.1.1 w.1 firsts.1 plain.1 cs.1 (moved d n x (flat_type k.types u) all.keeps xt) named typed_names (kept_seen s lasts see d n all.keeps v) (site_moved obc d n at all.keeps g))
