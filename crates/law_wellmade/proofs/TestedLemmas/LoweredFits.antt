-- Removing automata keeps tests fitting, by one induction.
use Rattle.std.proofs.Common.{◌≡◌, ℕ, ◌+◌, ◌<◌, ◌≤◌, ◌⊎◌, Bool, true, false, if◌then◌else◌, List, [], ◌∷◌, ◌++◌, length, map, refl, sym, ap, ◌∙◌, subst, arith}
use Rattle.std.specs.Prelude.{⊤, nat_lt, IsTrue, Option, None, Some, option_map}
use Rattle.hp_base.specs.declared.span.Span.{Span}
use Rattle.hp_base.specs.declared.ty.Ty.{Ty}
use Rattle.hp_base.specs.declared.ty.Ty.TheVariants as ty
use Rattle.hp_tree.specs.declared.decl.Cons.{Cons}
use Rattle.hp_tree.specs.declared.block.Trans.{Trans}
use Rattle.hp_tree.specs.Expressions.{Expr, constant, variable, last_of, one, two, choose, pre, fby, arrow, when_is, merge, call, Exprs, no_expr, more_exprs, Parts, no_part, more_parts}
use Rattle.hp_tree.specs.Blocks.{Decl, Block, block, Eqns, no_eqn, more_eqns, Eqn, define, switch, reset, automaton, Arms, no_arm, more_arms, States, no_state, more_states, eqns_of}
use Rattle.hp_tree.specs.Programs.{TypeDecl, Node}
use Rattle.hp_tree.specs.Instant.{Clock}
use Rattle.hp_tree.specs.Meaning.{defines, block_defines, states_define}
use Rattle.hp_base.specs.Known.Known.{lookup}
use Rattle.hp_typing.specs.Scopes.{with_variables}
use Rattle.law_judged.specs.Named.Scopes.{Scope}
use Rattle.law_judged.specs.Named.Scoped.{Names, BlockScoped, EqnsScoped, EqnScoped, ArmsScoped, StatesScoped}
use Rattle.law_judged.proofs.NamedLemmas.Declared.{eqn_owned}
use Rattle.law_values.specs.Valued.Judged.{Lasts, of_parts, BlockSound, EqnsSound, EqnSound, ArmsSound, StatesSound}
use Rattle.hp_automata.specs.declared.new_names.Word.{Word}
use Rattle.hp_automata.specs.declared.new_names.Word.TheVariants.{Strong, Weak, From, Next, On}
use Rattle.hp_automata.specs.NewNames.{state_word, transition_word, value_name}
use Rattle.hp_tables.specs.Defining.Names.{names_of_arms, outer_names}
use Rattle.hp_automata.specs.Names.{is_name, once, missing}
use Rattle.hp_automata.specs.Renaming.{renamed, renamed_exprs, renamed_parts, renamed_path, renamed_decls}
use Rattle.hp_automata.specs.Lowering.{Types, Enumerations, Frame, frame, inner, declaring, link, number, chosen, choices, choosing_eqns, strong_eqns, pending_of, kept, all_kept, transition_locals, value_local, state_locals, locals_from, frame_locals, idle, idle_value, joined, frame_eqns, weak_eqns, stays, state_switch, state_eqns, lowered_block, lowered_eqns, lowered_eqn, lowered_arms, lowered_states, lowered_body, count_of}
use Rattle.law_automata.specs.Lowered.Removable.{Known, and_defined, BlockOk, EqnsOk, EqnOk, ArmsOk, StatesOk}
use Rattle.law_automata.proofs.LoweredLemmas.Lookups.{names_of_frame, names_of_switch}
use Rattle.law_automata.proofs.LoweredLemmas.Renaming.{Renames, within_renames}
use Rattle.law_automata.proofs.LoweredLemmas.Tests.{or_left, or_right}
use Rattle.law_automata.specs.Readied.Constants.{HasConstant, BlockTypes, EqnsTypes, EqnTypes, ArmsTypes, StatesTypes}
use Rattle.law_automata.proofs.ReadiedLemmas.Places.{scope_renamed, scope_append, Place}
use Rattle.law_automata.proofs.ReadiedLemmas.SoundExpressions.{expr_typed}
use Rattle.law_automata.proofs.ReadiedLemmas.SoundSteps.{arms_conses, within_block}
use Rattle.law_automata.proofs.ReadiedLemmas.SoundBodies.{frame_typed, state_renames, in_state}
use Rattle.law_values.proofs.AcceptedLemmas.Keeps.{KeptName}
use Rattle.law_wellmade.specs.Timely.Tested.{AreApart, ConsIs, ConsAre, ClockTested}
use Rattle.law_wellmade.specs.Tested.Fits.{ExprApart, ExprsApart, PartsApart, TestsApart, WrittenFits, DeclsFit, BlockFits, EqnsFit, EqnFits, ArmsFit, StatesFit}

-- ---- expressions in which names stand for names

parts_same : (to : List ℕ → List ℕ) (ps : Parts) → of_parts (renamed_parts to ps) ≡ of_parts ps
parts_same to no_part = refl
parts_same to (more_parts c e ps) = ap (λ cs. c ∷ cs) (parts_same to ps)

mutual
  pub apart_renamed : (to : List ℕ → List ℕ) (e : Expr) → ExprApart e → ExprApart (renamed to e)
  apart_renamed to (constant a c) h = tt
  apart_renamed to (variable a x) h = tt
  apart_renamed to (last_of a x) h = tt
  apart_renamed to (one a o d) h = apart_renamed to d h
  apart_renamed to (two a o d e) h = (apart_renamed to d h.0, apart_renamed to e h.1)
  apart_renamed to (choose a d e f) h = (apart_renamed to d h.0, (apart_renamed to e h.1.0, apart_renamed to f h.1.1))
  apart_renamed to (pre a d) h = apart_renamed to d h
  apart_renamed to (fby a d e) h = (apart_renamed to d h.0, apart_renamed to e h.1)
  apart_renamed to (arrow a d e) h = (apart_renamed to d h.0, apart_renamed to e h.1)
  apart_renamed to (when_is a d c x) h = apart_renamed to d h
  apart_renamed to (merge a x ps) h = (subst AreApart (sym (parts_same to ps)) h.0, parts_renamed to ps h.1)
  apart_renamed to (call a f i es) h = exprs_renamed to es h

  exprs_renamed : (to : List ℕ → List ℕ) (es : Exprs) → ExprsApart es → ExprsApart (renamed_exprs to es)
  exprs_renamed to no_expr h = tt
  exprs_renamed to (more_exprs e es) h = (apart_renamed to e h.0, exprs_renamed to es h.1)

  parts_renamed : (to : List ℕ → List ℕ) (ps : Parts) → PartsApart ps → PartsApart (renamed_parts to ps)
  parts_renamed to no_part h = tt
  parts_renamed to (more_parts c e ps) h = (apart_renamed to e h.0, parts_renamed to ps h.1)

link_apart : (s : Span) (n : ℕ) (named : ℕ → List ℕ) (end : Expr) (k : ℕ) → ExprApart end → ExprApart (link s n named end k)
link_apart s n named end k h = by (nat_lt k n)
  where
    by : (b : Bool) → ExprApart (if b then variable s (named k) else end)
    by true = tt
    by false = h

module _ (types : List TypeDecl) where
  -- ---- clocks that are written

  cons_moved : (o p : Option Ty) (c : Cons) → ((t : Ty) → o ≡ Some t → p ≡ Some t) → ConsIs types o c → ConsIs types p c
  cons_moved None p c f h = absurd h
  cons_moved (Some t) p c f h = subst (λ z. ConsIs types z c) (sym (f t refl)) h

  module _ (s r : Scope) (to : List ℕ → List ℕ) (names : (x : List ℕ) → KeptName s r x (to x)) where
    path_moved : (path : Clock) → ClockTested types s path → ClockTested types r (renamed_path to path)
    path_moved [] h = tt
    path_moved (step ∷ path) h = (cons_moved (lookup s.variables step.1) (lookup r.variables (to step.1)) step.0 (names step.1) h.0, path_moved path h.1)

    written_moved : (o : Option Clock) → WrittenFits types s o → WrittenFits types r (option_map (renamed_path to) o)
    written_moved None h = tt
    written_moved (Some path) h = path_moved path h

    decls_moved : (ds : List Decl) → DeclsFit types s ds → DeclsFit types r (renamed_decls to ds)
    decls_moved [] h = tt
    decls_moved (d ∷ ds) h = (written_moved d.clock h.0, decls_moved ds h.1)

  module _ (r : Scope) where
    decls_both : (ds es : List Decl) → DeclsFit types r ds → DeclsFit types r es → DeclsFit types r (ds ++ es)
    decls_both [] es h k = k
    decls_both (d ∷ ds) es h k = (h.0, decls_both ds es h.1 k)

    transitions_fit : (f : Frame) (w : Word) (k j : ℕ) (ts : List Trans) → DeclsFit types r (transition_locals f w k j ts)
    transitions_fit f w k j [] = tt
    transitions_fit f w k j (t ∷ ts) = (tt, transitions_fit f w k (j + 1) ts)

    values_fit : (tys : Types) (f : Frame) (k : ℕ) (xs : List (List ℕ)) → DeclsFit types r (map (value_local tys f k) xs)
    values_fit tys f k [] = tt
    values_fit tys f k (x ∷ xs) = (tt, values_fit tys f k xs)

    locals_fit : (tys : Types) (f : Frame) (k : ℕ) (ss : States) → DeclsFit types r (locals_from tys f k ss)
    locals_fit tys f k no_state = tt
    locals_fit tys f k (more_states q b until unless at ss) =
        decls_both (state_locals tys f k unless) (locals_from tys f (k + 1) ss)
        (tt, (tt, (tt, decls_both (transition_locals f Strong k 0 unless) (map (value_local tys f k) f.names) (transitions_fit f Strong k 0 unless) (values_fit tys f k f.names)))) (locals_fit tys f (k + 1) ss)

    -- ---- equations in a list

    abbrev pub ListFit : List Eqn → Type 0
    ListFit [] = ⊤
    ListFit (e ∷ es) = EqnFits types r e × ListFit es

    row_fit : (es : List Eqn) → ListFit es → EqnsFit types r (eqns_of es)
    row_fit [] h = tt
    row_fit (e ∷ es) h = (h.0, row_fit es h.1)

    both_fit : (es fs : List Eqn) → ListFit es → ListFit fs → ListFit (es ++ fs)
    both_fit [] fs h k = k
    both_fit (e ∷ es) fs h k = (h.0, both_fit es fs h.1 k)

    kept_fit : (to : List ℕ → List ℕ) (sp : Span) (xs : List (List ℕ)) → ListFit (map (kept to sp) xs)
    kept_fit to sp [] = tt
    kept_fit to sp (x ∷ xs) = (tt, kept_fit to sp xs)

    chosen_apart : (f : Frame) (w : Word) (k n : ℕ) (end : Expr) (j : ℕ) → ExprApart end → ExprApart (chosen f w k n end j)
    chosen_apart f w k n end j h = link_apart f.at n (transition_word w f.depth k) end j h

    choices_fit : (to : List ℕ → List ℕ) (f : Frame) (w : Word) (k n : ℕ) (end : Expr) → ExprApart end → (j : ℕ) (ts : List Trans) → TestsApart ts → ListFit (choices to f w k n end j ts)
    choices_fit to f w k n end e j [] h = tt
    choices_fit to f w k n end e j (t ∷ ts) h = ((apart_renamed to t.cond h.0, (tt, chosen_apart f w k n end (j + 1) e)), choices_fit to f w k n end e (j + 1) ts h.1)

    module _ (enums : Enumerations) (tys : Types) (f : Frame) where
      joined_fit : (to : List ℕ → List ℕ) (xs : List (List ℕ)) → ListFit (map (joined enums to tys f) xs)
      joined_fit to [] = tt
      joined_fit to (x ∷ xs) = (link_apart f.at f.count (λ m. value_name f.depth m x) _ 0 tt, joined_fit to xs)

      idle_values_fit : (k : ℕ) (xs : List (List ℕ)) → ListFit (map (idle_value enums tys f k) xs)
      idle_values_fit k [] = tt
      idle_values_fit k (x ∷ xs) = (link_apart f.at f.count (λ m. value_name f.depth m x) _ (k + 1) tt, idle_values_fit k xs)

      frame_fit : (to : List ℕ → List ℕ) → ListFit (frame_eqns enums to tys f)
      frame_fit to = (link_apart f.at f.count (state_word From f.depth) (pending_of f) 0 tt, (link_apart f.at f.count (state_word Next f.depth) (number f.at 0) 0 tt, joined_fit to f.names))

      idle_fit : (k : ℕ) → BlockFits types r (idle enums tys f k)
      idle_fit k = (tt, (link_apart f.at f.count (state_word Next f.depth) (number f.at 0) (k + 1) tt, row_fit (map (idle_value enums tys f k) f.names) (idle_values_fit k f.names)))

      weak_fit : (to : List ℕ → List ℕ) (k : ℕ) (until : List Trans) → TestsApart until → ListFit (weak_eqns to f k until)
      weak_fit to k until h =
          both_fit (choices to f Weak k (length until) (stays f k) 0 until) _ (choices_fit to f Weak k (length until) (stays f k) tt 0 until h) (chosen_apart f Weak k (length until) (stays f k) 0 tt, tt)

      strong_fit : (to : List ℕ → List ℕ) (k : ℕ) (unless : List Trans) → TestsApart unless → ListFit (strong_eqns to f k unless)
      strong_fit to k unless h =
          both_fit (choices to f Strong k (length unless) (pending_of f) 0 unless) _ (choices_fit to f Strong k (length unless) (pending_of f) tt 0 unless h)
          ((((tt, tt), (tt, tt)), (chosen_apart f Strong k (length unless) (pending_of f) 0 tt, link_apart f.at f.count (state_word From f.depth) (pending_of f) (k + 1) tt)), tt)

      switch_fit : (k : ℕ) (body other : Block) → lookup r.variables (state_word On f.depth k) ≡ Some ty.Bool → BlockFits types r body → BlockFits types r other → EqnFits types r (state_switch f k body other)
      switch_fit k body other on b o = (tt, ((ty.Bool, (on, ((tt, (tt, tt)), (refl, (refl, tt))))), ((tt, (((tt, tt), b), tt)), (o, tt))))

      state_fit : (to : List ℕ → List ℕ) (k : ℕ) (unless : List Trans) (body : Block) → TestsApart unless → lookup r.variables (state_word On f.depth k) ≡ Some ty.Bool → BlockFits types r body → ListFit (state_eqns to f k unless body (idle enums tys f k))
      state_fit to k unless body h on b =
          both_fit (choosing_eqns to f k unless) (state_switch f k body (idle enums tys f k) ∷ [])
          (both_fit (strong_eqns to f k unless) _ (strong_fit to k unless h) (((tt, tt), (tt, tt)), tt))
          (switch_fit k body (idle enums tys f k) on b (idle_fit k), tt)

-- ---- by one induction

module _ (types : List TypeDecl) (among : List ℕ → Option Node) (enums : Enumerations) (base : Scope) where
  mutual
    pub block_fits : {outer : Known} {d : ℕ} {to : List ℕ → List ℕ} → Renames outer d to → {tys : Types} {s r : Scope} {lasts lasts' : Lasts} {seen own : Names} → Place types among enums base d to tys s r lasts lasts' seen own → (sp : Span) (xs : List (List ℕ)) (b : Block)
        → BlockOk outer d b → BlockScoped seen own b → BlockTypes (HasConstant enums base) b → BlockSound types among s lasts b → ((x : List ℕ) → is_name xs x ≡ true → IsTrue (own x)) → ((x : List ℕ) → is_name xs x ≡ true → (block_defines b x ≡ true) ⊎ IsTrue (lasts x))
        → BlockFits types s b → BlockFits types r (lowered_block enums to tys d sp xs b)
    block_fits {outer} {d} {to} rn {tys} {s} {r} {lasts} {lasts'} p sp xs (block ds es) ok sc has sound mine completes fits =
        let inside = within_block types among enums base rn p sp xs ds es ok sc has.0 sound mine completes in
        let made = lowered_eqns enums to (declaring tys ds) d es in
        let left = all_kept to sp xs (block ds es) in
        subst (λ z. DeclsFit types z (renamed_decls to ds) × EqnsFit types z (eqns_of (made ++ left))) (sym (scope_renamed to ds r)) (
          decls_moved types (with_variables s ds) (with_variables r ds) to inside.names ds fits.0,
          row_fit types (with_variables r ds) (made ++ left)
              (both_fit types (with_variables r ds) made left (eqns_fit rn inside es ok.1 sc.3 has.1 sound.1.1 fits.1) (kept_fit types (with_variables r ds) to sp (missing (is_name (outer_names (block ds es))) xs))),
        )

    eqns_fit : {outer : Known} {d : ℕ} {to : List ℕ → List ℕ} → Renames outer d to → {tys : Types} {s r : Scope} {lasts lasts' : Lasts} {seen own : Names} → Place types among enums base d to tys s r lasts lasts' seen own → (es : Eqns)
        → EqnsOk outer d es → EqnsScoped seen own es → EqnsTypes (HasConstant enums base) es → EqnsSound types among s lasts es → EqnsFit types s es → ListFit types r (lowered_eqns enums to tys d es)
    eqns_fit rn p no_eqn ok sc has sound fits = tt
    eqns_fit rn p (more_eqns e es) ok sc has sound fits = (eqn_fits rn p e ok.1 sc.0 has.0 sound.0 fits.0, eqns_fit rn p es ok.2 sc.1 has.1 sound.1 fits.1)

    eqn_fits : {outer : Known} {d : ℕ} {to : List ℕ → List ℕ} → Renames outer d to → {tys : Types} {s r : Scope} {lasts lasts' : Lasts} {seen own : Names} → Place types among enums base d to tys s r lasts lasts' seen own → (e : Eqn)
        → EqnOk outer d e → EqnScoped seen own e → EqnTypes (HasConstant enums base) e → EqnSound types among s lasts e → EqnFits types s e → EqnFits types r (lowered_eqn enums to tys d e)
    eqn_fits {outer} {d} {to} rn p (define at ys e) ok sc has sound fits = apart_renamed to e fits
    eqn_fits {outer} {d} {to} rn {tys} {s} {r} {lasts} {lasts'} {seen} {own} p (switch at e arms) ok sc has sound fits =
        let t = fits.1.0.0 in
        let xs = once (names_of_arms arms) in (
          apart_renamed to e fits.0,
          (
            (t, (expr_typed types among s r p.grows to lasts lasts' p.names p.itself p.lasting e t fits.1.0.1.0, subst (λ cs. ConsAre types (Some t) cs × AreApart cs) (sym (arms_conses types among enums base to tys d xs arms)) fits.1.0.1.1)),
            arms_fit (within_renames (switch at e arms) rn) p (switch at e arms) xs arms ok.1 sc has sound.1.1
                (λ x q. eqn_owned x seen own (switch at e arms) sc (sym (names_of_switch enums arms x) ∙ q)) (λ x q. sym (names_of_switch enums arms x) ∙ q) fits.1.1,
          ),
        )
    eqn_fits {outer} {d} {to} rn p (reset at b e) ok sc has sound fits =
        (apart_renamed to e fits.0, block_fits (within_renames (reset at b e) rn) p at [] b ok.1 sc has sound.1 (λ x q. absurd cc) (λ x q. absurd cc) fits.1)
    eqn_fits {outer} {d} {to} rn {tys} {s} {r} p (automaton at ss) ok sc has sound fits =
        let f = frame at d ss in
        let words = frame_locals tys f ss in
        let inside = with_variables r words in (
          tt,
          (
            (tt, (tt, locals_fit types inside tys f 0 ss)),
            row_fit types inside (frame_eqns enums to tys f ++ lowered_states enums to tys f 0 ss)
                (both_fit types inside (frame_eqns enums to tys f) (lowered_states enums to tys f 0 ss) (frame_fit types inside enums tys f to)
                (states_fit rn p at ss ok sc 0 ss ok.3 sc has sound (λ x q. names_of_frame enums at d ss x ∙ q) (omega arith) fits)),
          ),
        )

    arms_fit : {outer : Known} {d : ℕ} {to : List ℕ → List ℕ} → Renames outer d to → {tys : Types} {s r : Scope} {lasts lasts' : Lasts} {seen own : Names} → Place types among enums base d to tys s r lasts lasts' seen own → (e : Eqn) (xs : List (List ℕ)) (arms : Arms)
        → ArmsOk outer d arms → ArmsScoped seen own arms → ArmsTypes (HasConstant enums base) arms → ArmsSound types among e s lasts arms → ((x : List ℕ) → is_name xs x ≡ true → IsTrue (own x)) → ((x : List ℕ) → is_name xs x ≡ true → defines e x ≡ true)
        → ArmsFit types s arms → ArmsFit types r (lowered_arms enums to tys d xs arms)
    arms_fit rn p e xs no_arm ok sc has sound mine of fits = tt
    arms_fit rn p e xs (more_arms c b at arms) ok sc has sound mine of fits =
        (block_fits rn p at xs b ok.0 sc.0 has.0 sound.1.0 mine (λ x q. sound.0 x (of x q)) fits.0, arms_fit rn p e xs arms ok.1 sc.1 has.1 sound.1.1 mine of fits.1)

    states_fit : {outer : Known} {d : ℕ} {to : List ℕ → List ℕ} (rn : Renames outer d to) {tys : Types} {s r : Scope} {lasts lasts' : Lasts} {seen own : Names} (p : Place types among enums base d to tys s r lasts lasts' seen own) (sp : Span) (all : States) (ok : EqnOk outer d (automaton sp all))
        (sc : StatesScoped seen own all) (k : ℕ) (ss : States) → StatesOk all (and_defined (automaton sp all) outer) (d + 1) ss → StatesScoped seen own ss → StatesTypes (HasConstant enums base) ss → StatesSound types among (automaton sp all) s lasts ss
        → ((x : List ℕ) → states_define ss x ≡ true → is_name (frame sp d all).names x ≡ true) → k + count_of ss ≤ count_of all → StatesFit types s ss
        → ListFit types (with_variables r (frame_locals tys (frame sp d all) all)) (lowered_states enums to tys (frame sp d all) k ss)
    states_fit rn p sp all ok sc k no_state oks scs has sound sub room fits = tt
    states_fit {outer} {d} {to} rn {tys} {s} {r} {lasts} {lasts'} p sp all ok sc k (more_states q (block ds es) until unless at ss) oks scs has sound sub room fits =
        let f = frame sp d all in
        let r1 = with_variables r (frame_locals tys f all) in
        let here : k < count_of all = omega (arith, room) in
        let mine : (x : List ℕ) → block_defines (block ds es) x ≡ true → is_name f.names x ≡ true = λ x t. sub x (or_left (block_defines (block ds es) x) (states_define ss x) t) in
        let more : (x : List ℕ) → states_define ss x ≡ true → is_name f.names x ≡ true = λ x t. sub x (or_right (block_defines (block ds es) x) (states_define ss x) t) in
        let body = lowered_body enums to tys f k (block ds es) until in
        let into = inner to f k in
        let weak = transition_locals f Weak k 0 until in
        let inside = in_state types among enums base rn p sp all ok sc k here ds es until oks.0.0 oks.0.1.0 oks.0.1.1 scs.0 has.0.0 mine sound.0 sound.1.0 sound.1.1.0 in
        let renames = state_renames types among enums base rn p sp all ok sc k here ds es until oks.0.0 oks.0.1.0 oks.0.1.1 scs.0 has.0.0 mine sound.0 sound.1.0 sound.1.1.0 in
        let made = lowered_eqns enums into (declaring tys ds) (d + 1) es in
        let left = all_kept into sp f.names (block ds es) in
        let within = with_variables (with_variables r1 ds) weak in
        let scope_is : with_variables r1 (renamed_decls into ds ++ weak) ≡ within = scope_append (renamed_decls into ds) weak r1 ∙ ap (λ z. with_variables z weak) (scope_renamed into ds r1) in
        let body_fits : BlockFits types r1 body =
        subst (λ z. DeclsFit types z (renamed_decls into ds ++ weak) × EqnsFit types z (eqns_of (weak_eqns into f k until ++ (made ++ left)))) (sym scope_is) (
          decls_both types within (renamed_decls into ds) weak (decls_moved types (with_variables s ds) within into inside.names ds fits.0.0) (transitions_fit types within f Weak k 0 until),
          row_fit types within (weak_eqns into f k until ++ (made ++ left))
              (both_fit types within (weak_eqns into f k until) (made ++ left) (weak_fit types within enums tys f into k until fits.1.0)
              (both_fit types within made left (eqns_fit renames inside es oks.0.0.1 scs.0.3 has.0.1 sound.1.0.1.1 fits.0.1) (kept_fit types within into sp (missing (is_name (outer_names (block ds es))) f.names)))),
        ) in
        both_fit types r1 (state_eqns to f k unless body (idle enums tys f k)) (lowered_states enums to tys f (k + 1) ss)
        (state_fit types r1 enums tys f to k unless body fits.1.1.0 ((frame_typed types among enums base rn p sp all ok sc).states k here).on body_fits)
        (states_fit rn p sp all ok sc (k + 1) ss oks.1 scs.1 has.1 sound.1.1.1.1 more (omega (arith, room)) fits.1.1.1)
