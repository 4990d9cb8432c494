-- A walk over a block finds what its comparisons and calls bring without automata, in the order of slots.
use Rattle.std.proofs.Common.{◌≡◌, ◌⊎◌, ℕ, ◌+◌, ◌<◌, ◌≤◌, Bool, true, false, List, [], ◌∷◌, ◌++◌, length, Option, None, Some, refl, sym, ap, ◌∙◌, arith}
use Rattle.std.specs.Prelude.{IsTrue, drop}
use Rattle.std.proofs.lemmas.List.{append-nil}
use Rattle.hp_base.specs.declared.span.Span.{Span}
use Rattle.hp_base.specs.declared.ty.Const.{Const}
use Rattle.hp_base.specs.declared.ty.Ty.{Ty}
use Rattle.hp_base.specs.declared.ty.Ty.TheVariants as ty
use Rattle.hp_base.specs.Known.Known.{lookup, with_entry}
use Rattle.hp_tree.specs.declared.block.Trans.{Trans}
use Rattle.hp_tree.specs.Blocks.{Decl, Block, block, Eqns, no_eqn, more_eqns, Eqn, define, switch, reset, automaton, Arms, no_arm, more_arms, States, no_state, more_states}
use Rattle.hp_tree.specs.Expressions.{Expr, constant, variable, last_of, one, two, choose, pre, fby, arrow, when_is, merge, call}
use Rattle.hp_tree.specs.ExpressionTypes as tree
use Rattle.hp_tree.specs.ExpressionTypes.{typed_in}
use Rattle.hp_tree.specs.Instant.{Arms as ArmsOf, Body, Equations, Head, Instance, Right, States as StatesOf, Tail, Test, Unless, Until}
use Rattle.hp_tree.specs.Meaning.{block_defines, declares, defines, states_define}
use Rattle.hp_tree.specs.Programs.{Node, TypeDecl}
use Rattle.hp_typing.specs.Scopes.{with_variables}
use Rattle.hp_typing.specs.Types.{type_of, types_in}
use Rattle.hp_tables.specs.Defining.Names.{names_of_arms}
use Rattle.hp_meaning.specs.Contract.Slots.{FreePlace, Slot}
use Rattle.law_judged.specs.Named.Scoped.{Names, ArmsScoped, BlockScoped, EqnScoped, EqnsScoped, StatesScoped}
use Rattle.law_judged.specs.Typed.Scopes.{Scope}
use Rattle.law_judged.proofs.NamedLemmas.Declared.{eqn_owned}
use Rattle.law_values.specs.Valued.Judged.{Lasts, ArmsSound, BlockSound, EqnSound, EqnsSound, ExprSound, HaveOwnTypes, RightSound, StatesSound, TestsSound, lasts_in}
use Rattle.law_values.proofs.AcceptedLemmas.Keeps.{Grows, KeptName}
use Rattle.law_values.proofs.AcceptedLemmas.Moves.{grows_more}
use Rattle.law_values.proofs.ValuedLemmas.Scoped.{not_declared}
use Rattle.law_values.proofs.ValuedLemmas.Typed.{row_typed}
use Rattle.hp_automata.specs.Lowering.{Enumerations, Frame, Types, all_kept, choices, chosen, declaring, frame, frame_eqns, frame_locals, idle, inner, lowered_arms, lowered_block, lowered_body, lowered_eqn, lowered_eqns, lowered_states, own_next, pending_of, stays, transition_locals, count_of}
use Rattle.hp_automata.specs.Names.{is_name, once}
use Rattle.hp_automata.specs.Renaming.{renamed, renamed_decls}
use Rattle.hp_automata.specs.declared.new_names.Word.{Word}
use Rattle.hp_automata.specs.declared.new_names.Word.TheVariants.{Strong, Weak}
use Rattle.law_automata.specs.Lowered.Removable.{Known, ArmsOk, BlockOk, EqnOk, EqnsOk, StatesOk, and_defined}
use Rattle.law_automata.specs.Readied.Constants.{ArmsTypes, BlockTypes, EqnTypes, EqnsTypes, HasConstant, StatesTypes}
use Rattle.law_automata.proofs.LoweredLemmas.Lookups.{names_of_frame, names_of_switch}
use Rattle.law_automata.proofs.LoweredLemmas.Renaming.{Renames, within_renames}
use Rattle.law_automata.proofs.LoweredLemmas.Tests.{or_left, or_right}
use Rattle.law_automata.proofs.ReadiedLemmas.Places.{Place, both_types, scope_append, scope_renamed}
use Rattle.law_automata.proofs.ReadiedLemmas.SoundBodies.{around, in_state, state_renames}
use Rattle.law_automata.proofs.ReadiedLemmas.SoundSteps.{within_block}
use Rattle.law_drawing.proofs.InshapeLemmas.TypesRead.{Agrees, agrees_inside, own_types}
use Rattle.law_equations.specs.Flattened.Flatten.{Prefix, below}
use Rattle.law_wellmade.proofs.BegunLemmas.Typing.{args_have}
use Rattle.hp_watch.specs.Walk.{Walked, behind, walk, walk_arms, walk_block, walk_conditions, walk_eqn, walk_eqns, walk_states}
use Rattle.law_choices.specs.Places.Groups.{groups, groups_of_arms, groups_of_block, groups_of_conditions, groups_of_equation, groups_of_equations, groups_of_states}
use Rattle.law_choices.proofs.BroughtLemmas.Apiece.{Apiece, apiece-as, apiece-at, apiece-before, apiece-nothing, apiece-two, both-apiece}
use Rattle.law_choices.proofs.BroughtLemmas.Brought.{brought, brought_in_arms, brought_in_block, brought_in_eqn, free_types}
use Rattle.law_choices.proofs.BroughtLemmas.Rows.{R, body-rows, chosen-none, frame-none, idle-none, kept-none, rows-append, state-rows}
use Rattle.law_choices.proofs.BroughtLemmas.Seen.{Knows, Reading, Sees, call-sees, expr-sees, free-append, sees-at}
use Rattle.law_choices.proofs.PlacesLemmas.Slots.{lasts_slots, outputs_slots}
use Rattle.law_choices.proofs.PlacesLemmas.Walks.{state-takes}

-- registers are no free places
pub lasts-none : (types : List TypeDecl) (ds : List Decl) (w : Prefix) → free_types (lasts_slots types ds w) ≡ []
lasts-none types [] w = refl
lasts-none types (d ∷ ds) w = by d.last (lasts-none types ds w)
  where
    by : (o : Option Const) → free_types (lasts_slots types ds w) ≡ [] → free_types (lasts_slots types (record d { last = o } ∷ ds) w) ≡ []
    by None h = h
    by (Some c) h = h

module _ (types : List TypeDecl) (among : List ℕ → Option Node) (given : List ℕ → List Ty) (outs : List ℕ → List Decl) (callee : List ℕ → Prefix → List Slot)
    (calls : (f : List ℕ) (w : Prefix) → given f ≡ free_types (outputs_slots (outs f) (below Instance w) ++ callee f (below Instance w))) where
  abbrev Reads : Scope → Scope → (List ℕ → List ℕ) → tree.Scope → Type 0
  Reads q r to names = Reading types among given outs callee calls q r to names

  -- ---- scopes

  -- A scope in which names are judged, within another one whose names stand for names in a third.
  pub record Judging (q s r : Scope) (names : tree.Scope) : Type 0 where
    pub grows : Grows types among q r
    pub within : (x : List ℕ) → KeptName q s x x
    pub agrees : Agrees q names
    pub knows : Knows types among given outs callee calls q

  knows-more : (ds : List Decl) (q : Scope) → Knows types among given outs callee calls q → Knows types among given outs callee calls (with_variables q ds)
  knows-more [] q h = h
  knows-more (d ∷ ds) q h = knows-more ds (record q { variables = with_entry q.variables d.name d.ty }) h

  -- where the third has more names
  judging-more : (q s r : Scope) (names : tree.Scope) (ds : List Decl) → Judging q s r names → Judging q s (with_variables r ds) names
  judging-more q s r names ds j = record { grows = grows_more types among [] ds q r j.grows; within = j.within; agrees = j.agrees; knows = j.knows }

  -- under declarations
  pub judging-inside : (q s r : Scope) (names : tree.Scope) (ds : List Decl) → HaveOwnTypes types among (with_variables q ds) ds → HaveOwnTypes types among (with_variables s ds) ds → Judging q s r names
      → Judging (with_variables q ds) (with_variables s ds) (with_variables r ds) (typed_in ds names)
  judging-inside q s r names ds own there j = record {
    grows = grows_more types among ds ds q r j.grows;
    within = λ x t h. by x t h (declares ds x) refl;
    agrees = agrees_inside types among q ds names own j.agrees;
    knows = knows-more ds q j.knows;
  }
    where
      by : (x : List ℕ) (t : Ty) → lookup (with_variables q ds).variables x ≡ Some t → (b : Bool) → declares ds x ≡ b → lookup (with_variables s ds).variables x ≡ Some t
      by x t h true e = both_types types among (with_variables q ds) (with_variables s ds) ds x t own there e h
      by x t h false e = not_declared x ds s e ∙ j.within x t (sym (not_declared x ds q e) ∙ h)

  -- ---- conditions and right sides

  module _ (q r : Scope) (to : List ℕ → List ℕ) (names : tree.Scope) (lasts : Lasts) (reading : Reads q r to names) where
    conditions-see : (f : Frame) (word : Word) (k n : ℕ) (end : Expr) (j : ℕ) → brought given r end ≡ [] → (ts : List Trans) → TestsSound types among q lasts ts
        → Apiece (walk_conditions ts) (R given r (choices to f word k n end j ts)) (λ w. groups_of_conditions types outs callee ts names w)
    conditions-see f word k n end j none [] ok = apiece-nothing (walk_conditions []) (λ rest. refl)
    conditions-see f word k n end j none (t ∷ ts) ok =
        let es = brought given r (renamed to t.cond) in
        let more = R given r (choices to f word k n end (j + 1) ts) in
        apiece-as (walk_conditions (t ∷ ts)) (es ++ more) ((es ++ brought given r (chosen f word k n end (j + 1))) ++ more) (λ w. groups_of_conditions types outs callee (t ∷ ts) names w)
        (ap (λ ys. (es ++ ys) ++ more) (chosen-none given r f word k n end (j + 1) none) ∙ ap (λ ys. ys ++ more) (append-nil es))
        (apiece-two (walk t.cond) (walk_conditions ts) es more (λ w. groups types outs callee t.cond names w) (λ w. groups_of_conditions types outs callee ts names w) (below Head) (below Tail)
        (expr-sees types among given outs callee calls q r to names lasts reading t.cond ty.Bool ok.0.1 ok.0.0) (conditions-see f word k n end (j + 1) none ts ok.1))

    abbrev AtExpr : Expr → Type 0
    AtExpr e = Apiece (walk e) (brought given r (renamed to e)) (λ w. groups types outs callee e names w)

    sees-it : (e : Expr) (t : Ty) → type_of q e ≡ Some t → ExprSound types among q lasts e → AtExpr e
    sees-it e t h ok = expr-sees types among given outs callee calls q r to names lasts reading e t h ok

    right-sees : (e : Expr) (ys : List (List ℕ × Span)) → RightSound types among q lasts ys e → AtExpr e
    right-sees (constant a c) ys ok = sees-it (constant a c) ok.1.0 ok.1.1.0 ok.0
    right-sees (variable a x) ys ok = sees-it (variable a x) ok.1.0 ok.1.1.0 ok.0
    right-sees (last_of a x) ys ok = sees-it (last_of a x) ok.1.0 ok.1.1.0 ok.0
    right-sees (one a o b) ys ok = sees-it (one a o b) ok.1.0 ok.1.1.0 ok.0
    right-sees (two a o b c) ys ok = sees-it (two a o b c) ok.1.0 ok.1.1.0 ok.0
    right-sees (choose a b c d) ys ok = sees-it (choose a b c d) ok.1.0 ok.1.1.0 ok.0
    right-sees (pre a b) ys ok = sees-it (pre a b) ok.1.0 ok.1.1.0 ok.0
    right-sees (fby a b c) ys ok = sees-it (fby a b c) ok.1.0 ok.1.1.0 ok.0
    right-sees (arrow a b c) ys ok = sees-it (arrow a b c) ok.1.0 ok.1.1.0 ok.0
    right-sees (when_is a b c x) ys ok = sees-it (when_is a b c x) ok.1.0 ok.1.1.0 ok.0
    right-sees (merge a x ps) ys ok = sees-it (merge a x ps) ok.1.0 ok.1.1.0 ok.0
    right-sees (call a f i es) ys ok =
        let o = row_typed (lookup q.nodes f) (types_in q es) ok.1.0 ok.1.1.0 in
        call-sees types among given outs callee calls q r to names lasts reading a f i es (args_have q o.0.inputs es o.2) ok.0.1

  -- the conditions, the body and the states behind a state
  state-sees : (strong weak body rest : List (List Ty) → Walked (List Ty)) (S W B M : List (List Ty)) (five : List Ty × List Ty × List Ty × List Ty × List Ty) (s w b m : Prefix → List (List FreePlace)) (at_body at_weak at_strong at_rest : Prefix → Prefix)
      → Apiece strong S s → Apiece weak W w → Apiece body B b → Apiece rest M m
      → Apiece (λ es. let s = strong es in let w = weak (drop 5 s.1) in let b = body w.1 in behind (b.0 ++ w.0 ++ s.0) (rest b.1)) (S ++ (five.0 ∷ five.1 ∷ five.2 ∷ five.3 ∷ five.4 ∷ ((W ++ B) ++ M)))
      (λ v. b (at_body v) ++ (w (at_weak v) ++ (s (at_strong v) ++ m (at_rest v))))
  state-sees strong weak body rest S W B M five s w b m at_body at_weak at_strong at_rest hs hw hb hm = (
    hb.0 ++ (hw.0 ++ (hs.0 ++ hm.0)),
    state-takes strong weak body rest S W B M hb.0 hw.0 hs.0 hm.0 five hs.1 hw.1 hb.1 hm.1,
    λ v. both-apiece hb.0 (hw.0 ++ (hs.0 ++ hm.0)) (b (at_body v)) (w (at_weak v) ++ (s (at_strong v) ++ m (at_rest v))) (hb.2 (at_body v))
        (both-apiece hw.0 (hs.0 ++ hm.0) (w (at_weak v)) (s (at_strong v) ++ m (at_rest v)) (hw.2 (at_weak v))
        (both-apiece hs.0 hm.0 (s (at_strong v)) (m (at_rest v)) (hs.2 (at_strong v)) (hm.2 (at_rest v)))),
  )

  -- where they stand in a part
  below-it : (v : List (List Ty) → Walked (List Ty)) (A : List (List Ty)) (gs : Prefix → List (List FreePlace)) (m : Prefix → Prefix) → Apiece v A gs → Apiece v A (λ w. gs (m w))
  below-it v A gs m h = apiece-at v A gs (λ w. gs (m w)) m (λ w. refl) h

  -- a block, whose registers are no free places
  pub behind-lasts : (v : List (List Ty) → Walked (List Ty)) (A : List (List Ty)) (ds : List Decl) (ss : Prefix → List Slot) (m : Prefix → Prefix) → Sees v A ss → Sees v A (λ w. lasts_slots types ds w ++ ss (m w))
  behind-lasts v A ds ss m h = sees-at v A ss (λ w. lasts_slots types ds w ++ ss (m w)) m (λ w. sym (free-append (lasts_slots types ds w) (ss (m w)) ∙ ap (λ xs. xs ++ free_types (ss (m w))) (lasts-none types ds w))) h

  -- ---- blocks

  module _ (enums : Enumerations) (base : Scope) where
    abbrev At : ℕ → (List ℕ → List ℕ) → Types → Scope → Scope → Lasts → Lasts → Names → Names → Type 0
    At d to tys s r lasts lasts' seen own = Place types among enums base d to tys s r lasts lasts' seen own

    pub reading-at : {d : ℕ} {to : List ℕ → List ℕ} {tys : Types} {s r : Scope} {lasts lasts' : Lasts} {seen own : Names} → At d to tys s r lasts lasts' seen own → (q : Scope) (names : tree.Scope) → Judging q s r names → Reads q r to names
    reading-at p q names j = record { grows = j.grows; renames = λ x t h. p.names x t (j.within x t h); itself = λ x t h. p.itself x t (j.within x t h); agrees = j.agrees; knows = j.knows }

    mutual
      pub block-sees : {outer : Known} {d : ℕ} {to : List ℕ → List ℕ} → Renames outer d to → {tys : Types} {s r : Scope} {lasts lasts' : Lasts} {seen own : Names} → At d to tys s r lasts lasts' seen own → (sp : Span) (xs : List (List ℕ)) (b : Block)
          → BlockOk outer d b → BlockScoped seen own b → BlockTypes (HasConstant enums base) b → BlockSound types among s lasts b → ((x : List ℕ) → is_name xs x ≡ true → IsTrue (own x)) → ((x : List ℕ) → is_name xs x ≡ true → (block_defines b x ≡ true) ⊎ IsTrue (lasts x))
          → (q : Scope) (names : tree.Scope) (last : Lasts) → Judging q s r names → BlockSound types among q last b → Apiece (walk_block b) (brought_in_block given r (lowered_block enums to tys d sp xs b)) (λ w. groups_of_block types outs callee b names w)
      block-sees {outer} {d} {to} rn {tys} {s} {r} p sp xs (block ds es) ok sc has sound mine completes q names last j judged =
          let within = within_block types among enums base rn p sp xs ds es ok sc has.0 sound mine completes in
          let made = lowered_eqns enums to (declaring tys ds) d es in
          let left = all_kept to sp xs (block ds es) in
          let more = judging-inside q s r names ds (own_types types among (with_variables q ds) es ds judged.0) (own_types types among (with_variables s ds) es ds sound.0) j in
          let r1 = with_variables r ds in
          let all = eqns-see rn within es ok.1 sc.3 has.1 sound.1.1 (with_variables q ds) (typed_in ds names) (lasts_in ds last) more judged.1.1 in
          apiece-as (walk_eqns es) (R given r1 made) (brought_in_block given r (lowered_block enums to tys d sp xs (block ds es))) (λ w. groups_of_block types outs callee (block ds es) names w)
          (ap (λ z. R given z (made ++ left)) (scope_renamed to ds r) ∙ rows-append given r1 made left ∙ ap (λ ys. R given r1 made ++ ys) (kept-none given r1 to sp xs (block ds es)) ∙ append-nil (R given r1 made))
          (below-it (walk_eqns es) (R given r1 made) (λ w. groups_of_equations types outs callee es (typed_in ds names) w) (below Equations) all)

      pub eqns-see : {outer : Known} {d : ℕ} {to : List ℕ → List ℕ} → Renames outer d to → {tys : Types} {s r : Scope} {lasts lasts' : Lasts} {seen own : Names} → At d to tys s r lasts lasts' seen own → (es : Eqns)
          → EqnsOk outer d es → EqnsScoped seen own es → EqnsTypes (HasConstant enums base) es → EqnsSound types among s lasts es
          → (q : Scope) (names : tree.Scope) (last : Lasts) → Judging q s r names → EqnsSound types among q last es → Apiece (walk_eqns es) (R given r (lowered_eqns enums to tys d es)) (λ w. groups_of_equations types outs callee es names w)
      eqns-see rn p no_eqn ok sc has sound q names last j judged = apiece-nothing (walk_eqns no_eqn) (λ rest. refl)
      eqns-see {outer} {d} {to} rn {tys} {s} {r} p (more_eqns e es) ok sc has sound q names last j judged =
          apiece-two (walk_eqn e) (walk_eqns es) (brought_in_eqn given r (lowered_eqn enums to tys d e)) (R given r (lowered_eqns enums to tys d es)) (λ w. groups_of_equation types outs callee e names w) (λ w. groups_of_equations types outs callee es names w) (below Head) (below Tail)
          (eqn-sees rn p e ok.1 sc.0 has.0 sound.0 q names last j judged.0) (eqns-see rn p es ok.2 sc.1 has.1 sound.1 q names last j judged.1)

      eqn-sees : {outer : Known} {d : ℕ} {to : List ℕ → List ℕ} → Renames outer d to → {tys : Types} {s r : Scope} {lasts lasts' : Lasts} {seen own : Names} → At d to tys s r lasts lasts' seen own → (e : Eqn)
          → EqnOk outer d e → EqnScoped seen own e → EqnTypes (HasConstant enums base) e → EqnSound types among s lasts e
          → (q : Scope) (names : tree.Scope) (last : Lasts) → Judging q s r names → EqnSound types among q last e → Apiece (walk_eqn e) (brought_in_eqn given r (lowered_eqn enums to tys d e)) (λ w. groups_of_equation types outs callee e names w)
      eqn-sees {outer} {d} {to} rn {tys} {s} {r} p (define at ys e) ok sc has sound q names last j judged =
          apiece-at (walk e) (brought given r (renamed to e)) (λ w. groups types outs callee e names w) (λ w. groups types outs callee e names (below Right w)) (below Right) (λ w. refl) (right-sees q r to names last (reading-at p q names j) e ys judged)
      eqn-sees {outer} {d} {to} rn {tys} {s} {r} {lasts} {lasts'} {seen} {own} p (switch at e arms) ok sc has sound q names last j judged =
          let xs = once (names_of_arms arms) in
          apiece-two (walk e) (walk_arms arms) (brought given r (renamed to e)) (brought_in_arms given r (lowered_arms enums to tys d xs arms)) (λ w. groups types outs callee e names w) (λ w. groups_of_arms types outs callee arms names w) (below Test) (below ArmsOf)
          (sees-it q r to names last (reading-at p q names j) e judged.1.0.0 judged.1.0.1.0 judged.0)
          (arms-see (within_renames (switch at e arms) rn) p (switch at e arms) xs arms ok.1 sc has sound.1.1 (λ x h. eqn_owned x seen own (switch at e arms) sc (sym (names_of_switch enums arms x) ∙ h)) (λ x h. sym (names_of_switch enums arms x) ∙ h) q names last j judged.1.1)
      eqn-sees {outer} {d} {to} rn {tys} {s} {r} p (reset at b e) ok sc has sound q names last j judged =
          apiece-before (walk e) (walk_block b) (brought given r (renamed to e)) (brought_in_block given r (lowered_block enums to tys d at [] b)) (λ w. groups types outs callee e names w) (λ w. groups_of_block types outs callee b names w) (below Test) (below Body)
          (sees-it q r to names last (reading-at p q names j) e ty.Bool judged.0.1 judged.0.0)
          (block-sees (within_renames (reset at b e) rn) p at [] b ok.1 sc has sound.1 (λ x h. absurd cc) (λ x h. absurd cc) q names last j judged.1)
      eqn-sees {outer} {d} {to} rn {tys} {s} {r} p (automaton at ss) ok sc has sound q names last j judged =
          let f = frame at d ss in
          let r1 = with_variables r (frame_locals tys f ss) in
          let F = frame_eqns enums to tys f in
          let states = lowered_states enums to tys f 0 ss in
          apiece-as (walk_states ss) (R given r1 states) (brought_in_eqn given r (lowered_eqn enums to tys d (automaton at ss))) (λ w. groups_of_equation types outs callee (automaton at ss) names w)
          (rows-append given r1 F states ∙ ap (λ ys. ys ++ R given r1 states) (frame-none given r1 enums to tys f))
          (apiece-at (walk_states ss) (R given r1 states) (λ w. groups_of_states types outs callee ss names w) (λ w. groups_of_equation types outs callee (automaton at ss) names w) (below StatesOf) (λ w. refl)
          (states-see rn p at ss ok sc 0 ss ok.3 sc has sound (λ x h. names_of_frame enums at d ss x ∙ h) (omega arith) q names last j judged))

      arms-see : {outer : Known} {d : ℕ} {to : List ℕ → List ℕ} → Renames outer d to → {tys : Types} {s r : Scope} {lasts lasts' : Lasts} {seen own : Names} → At d to tys s r lasts lasts' seen own → (e : Eqn) (xs : List (List ℕ)) (arms : Arms)
          → ArmsOk outer d arms → ArmsScoped seen own arms → ArmsTypes (HasConstant enums base) arms → ArmsSound types among e s lasts arms → ((x : List ℕ) → is_name xs x ≡ true → IsTrue (own x)) → ((x : List ℕ) → is_name xs x ≡ true → defines e x ≡ true)
          → (q : Scope) (names : tree.Scope) (last : Lasts) → Judging q s r names → ArmsSound types among e q last arms → Apiece (walk_arms arms) (brought_in_arms given r (lowered_arms enums to tys d xs arms)) (λ w. groups_of_arms types outs callee arms names w)
      arms-see rn p e xs no_arm ok sc has sound mine of q names last j judged = apiece-nothing (walk_arms no_arm) (λ rest. refl)
      arms-see {outer} {d} {to} rn {tys} {s} {r} p e xs (more_arms c b at arms) ok sc has sound mine of q names last j judged =
          apiece-two (walk_block b) (walk_arms arms) (brought_in_block given r (lowered_block enums to tys d at xs b)) (brought_in_arms given r (lowered_arms enums to tys d xs arms)) (λ w. groups_of_block types outs callee b names w) (λ w. groups_of_arms types outs callee arms names w) (below Head) (below Tail)
          (block-sees rn p at xs b ok.0 sc.0 has.0 sound.1.0 mine (λ x h. sound.0 x (of x h)) q names last j judged.1.0) (arms-see rn p e xs arms ok.1 sc.1 has.1 sound.1.1 mine of q names last j judged.1.1)

      states-see : {outer : Known} {d : ℕ} {to : List ℕ → List ℕ} (rn : Renames outer d to) {tys : Types} {s r : Scope} {lasts lasts' : Lasts} {seen own : Names} (p : At d to tys s r lasts lasts' seen own) (sp : Span) (all : States) (ok : EqnOk outer d (automaton sp all))
          (sc : StatesScoped seen own all) (k : ℕ) (ss : States) → StatesOk all (and_defined (automaton sp all) outer) (d + 1) ss → StatesScoped seen own ss → StatesTypes (HasConstant enums base) ss → StatesSound types among (automaton sp all) s lasts ss
          → ((x : List ℕ) → states_define ss x ≡ true → is_name (frame sp d all).names x ≡ true) → k + count_of ss ≤ count_of all
          → (q : Scope) (names : tree.Scope) (last : Lasts) → Judging q s r names → StatesSound types among (automaton sp all) q last ss
          → Apiece (walk_states ss) (R given (with_variables r (frame_locals tys (frame sp d all) all)) (lowered_states enums to tys (frame sp d all) k ss)) (λ w. groups_of_states types outs callee ss names w)
      states-see rn p sp all ok sc k no_state oks scs has sound sub room q names last j judged = apiece-nothing (walk_states no_state) (λ rest. refl)
      states-see {outer} {d} {to} rn {tys} {s} {r} {lasts} {lasts'} p sp all ok sc k (more_states x (block ds es) until unless at ss) oks scs has sound sub room q names last j judged =
          let f = frame sp d all in
          let words = frame_locals tys f all in
          let r1 = with_variables r words in
          let here : k < count_of all = omega (arith, room) in
          let mine : (x : List ℕ) → block_defines (block ds es) x ≡ true → is_name f.names x ≡ true = λ x t. sub x (or_left (block_defines (block ds es) x) (states_define ss x) t) in
          let more : (x : List ℕ) → states_define ss x ≡ true → is_name f.names x ≡ true = λ x t. sub x (or_right (block_defines (block ds es) x) (states_define ss x) t) in
          let outside = around types among enums base rn p sp all ok sc in
          let body = lowered_body enums to tys f k (block ds es) until in
          let inside = in_state types among enums base rn p sp all ok sc k here ds es until oks.0.0 oks.0.1.0 oks.0.1.1 scs.0 has.0.0 mine sound.0 sound.1.0 sound.1.1.0 in
          let renames = state_renames types among enums base rn p sp all ok sc k here ds es until oks.0.0 oks.0.1.0 oks.0.1.1 scs.0 has.0.0 mine sound.0 sound.1.0 sound.1.1.0 in
          let within = inner to f k in
          let weak = transition_locals f Weak k 0 until in
          let r2 = with_variables (with_variables r1 ds) weak in
          let j1 = judging-more q s r names words j in
          let j2 = judging-more (with_variables q ds) (with_variables s ds) (with_variables r1 ds) (typed_in ds names) weak
          (judging-inside q s r1 names ds (own_types types among (with_variables q ds) es ds judged.1.0.0) (own_types types among (with_variables s ds) es ds sound.1.0.0) j1) in
          let made = lowered_eqns enums within (declaring tys ds) (d + 1) es in
          let left = all_kept within sp f.names (block ds es) in
          let states = lowered_states enums to tys f (k + 1) ss in
          let C = R given r1 (choices to f Strong k (length unless) (pending_of f) 0 unless) in
          let W = R given r2 (choices within f Weak k (length until) (stays f k) 0 until) in
          let B = R given r2 made in
          let M = R given r1 states in
          let scope_is : with_variables r1 (renamed_decls within ds ++ weak) ≡ r2 = scope_append (renamed_decls within ds) weak r1 ∙ ap (λ z. with_variables z weak) (scope_renamed within ds r1) in
          let rows = state-rows given r1 to f k unless body (idle enums tys f k) states (idle-none given r1 enums tys f k) in
          let of_body : brought_in_block given r1 body ≡ W ++ B = ap (λ z. R given z ((choices within f Weak k (length until) (stays f k) 0 until ++ own_next f k Weak (length until) (stays f k) ∷ []) ++ (made ++ left))) scope_is
          ∙ body-rows given r2 within f k until made left (kept-none given r2 within sp f.names (block ds es)) in
          let five = rows.0 in
          apiece-as (walk_states (more_states x (block ds es) until unless at ss)) (C ++ (five.0 ∷ five.1 ∷ five.2 ∷ five.3 ∷ five.4 ∷ ((W ++ B) ++ M))) (R given r1 (lowered_states enums to tys f k (more_states x (block ds es) until unless at ss)))
          (λ w. groups_of_states types outs callee (more_states x (block ds es) until unless at ss) names w)
          (rows.1 ∙ ap (λ ys. C ++ (five.0 ∷ five.1 ∷ five.2 ∷ five.3 ∷ five.4 ∷ (ys ++ M))) of_body)
          (state-sees (walk_conditions unless) (walk_conditions until) (walk_eqns es) (walk_states ss) C W B M five (λ w. groups_of_conditions types outs callee unless names w) (λ w. groups_of_conditions types outs callee until (typed_in ds names) w) (λ w. groups_of_block types outs callee (block ds es) names w)
          (λ w. groups_of_states types outs callee ss names w) (λ w. below Body (below Head w)) (λ w. below Until (below Head w)) (λ w. below Unless (below Head w)) (below Tail)
          (conditions-see q r1 to names last (reading-at outside q names j1) f Strong k (length unless) (pending_of f) 0 refl unless judged.1.1.1.0)
          (conditions-see (with_variables q ds) r2 within (typed_in ds names) (lasts_in ds last) (reading-at inside (with_variables q ds) (typed_in ds names) j2) f Weak k (length until) (stays f k) 0 refl until judged.1.1.0)
          (below-it (walk_eqns es) B (λ w. groups_of_equations types outs callee es (typed_in ds names) w) (below Equations)
          (eqns-see renames inside es oks.0.0.1 scs.0.3 has.0.1 sound.1.0.1.1 (with_variables q ds) (typed_in ds names) (lasts_in ds last) j2 judged.1.0.1.1))
          (states-see rn p sp all ok sc (k + 1) ss oks.1 scs.1 has.1 sound.1.1.1.1 more (omega (arith, room)) q names last j judged.1.1.1.1))
