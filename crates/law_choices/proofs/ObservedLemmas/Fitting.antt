-- Tests of a block that can be drawn and calls nothing fit, also where more names are known.
use Rattle.std.proofs.Common.{◌≡◌, ◌⊎◌, inl, inr, ⊎_elim, ℕ, List, [], ◌∷◌, ◌++◌, refl, sym, ap, subst, ◌∙◌}
use Rattle.std.specs.Prelude.{IsTrue, Option, None, Some}
use Rattle.hp_base.specs.declared.ty.Ty.{Ty}
use Rattle.hp_base.specs.Known.Known.{lookup}
use Rattle.hp_tree.specs.declared.decl.Cons.{Cons}
use Rattle.hp_tree.specs.Expressions.{Expr}
use Rattle.hp_tree.specs.Blocks.{Decl, Block, block, Eqns, no_eqn, more_eqns, Eqn, define, switch, reset, automaton, Arms, no_arm, more_arms, States, no_state, more_states}
use Rattle.hp_tree.specs.Instant.{Clock}
use Rattle.hp_tree.specs.Programs.{TypeDecl, Node}
use Rattle.hp_expand.specs.Numbering.{same_name}
use Rattle.hp_typing.specs.Scopes.{with_variables}
use Rattle.hp_typing.specs.Types.{agrees, cons_type, type_of}
use Rattle.law_judged.specs.Named.Scopes.{Scope}
use Rattle.law_values.specs.Valued.Judged.{Lasts, no_lasts, lasts_in, of_arms, DeclsSound, BlockSound, EqnsSound, EqnSound, ArmsSound, StatesSound}
use Rattle.law_values.proofs.ValuedLemmas.Scoped.{still_known}
use Rattle.law_values.proofs.ValuedLemmas.Typed.{agreed}
use Rattle.law_values.proofs.AcceptedLemmas.Keeps.{KeptName, Grows, cons_kept, expr_kept}
use Rattle.law_values.proofs.AcceptedLemmas.Moves.{grows_more}
use Rattle.law_automata.proofs.LoweredLemmas.Nodes.{itself}
use Rattle.law_wellmade.specs.Timely.Tested.{ConsIs, ConsAre, ClockTested}
use Rattle.law_wellmade.specs.Tested.Apart.{BlockApart, EqnsApart, EqnApart, ArmsApart, StatesApart}
use Rattle.law_wellmade.specs.Tested.Around.{Declares}
use Rattle.law_wellmade.specs.Tested.Fits.{WrittenFits, DeclsFit, TestFits, BlockFits, EqnsFit, EqnFits, ArmsFit, StatesFit}
use Rattle.law_wellmade.proofs.TimelyLemmas.DifferLaws.{Grounds, grounds_more, cons_is}
use Rattle.law_wellmade.proofs.TestedLemmas.JudgedAround.{from_scope}
use Rattle.law_drawing.specs.Carrying.Drawable as drawable
use Rattle.law_drawing.specs.Carrying.Drawable.{PathsFit, BlockDrawable, EqnsDrawable, EqnDrawable, ArmsDrawable, StatesDrawable}
use Rattle.law_drawing.specs.Carrying.Typing.{PathFits}
use Rattle.law_drawing.proofs.SteeredLemmas.Uncalled.{BlockCallsNothing, EqnsCallNothing, EqnCallsNothing, ArmsCallNothing, StatesCallNothing}
use Rattle.law_choices.proofs.ObservedLemmas.Swapped.{to, to_more, type_same}

-- no node is known
abbrev pub none : List ℕ → Option Node
none f = None

module _ (types : List TypeDecl) (among before : List ℕ → Option Node) where
  abbrev bare : Scope → Scope
  bare s = to types among none [] s

  -- What is known of names, constructors and types in the one scope is so in the other, which knows the types of constructors.
  pub record Wider (s r : Scope) : Type 0 where
    pub grows : Grows types before (bare s) r
    pub names : (x : List ℕ) → KeptName s r x x
    pub ground : Grounds types r

  told : (es : Eqns) (r : Scope) (ds : List Decl) → DeclsSound types before r es ds → (x : List ℕ) (t : Ty) → Declares ds x t → lookup r.variables x ≡ Some t
  told es r [] h x t d = absurd d
  told es r (d ∷ ds) h x t (inl k) = subst (λ z. lookup r.variables z ≡ Some t) k.0 (h.0.0 ∙ ap Some k.1)
  told es r (d ∷ ds) h x t (inr k) = told es r ds h.1 x t k

  -- under more declarations
  wider_more : (es : Eqns) (ds : List Decl) (s r : Scope) → DeclsSound types before (with_variables r ds) es ds → Wider s r → Wider (with_variables s ds) (with_variables r ds)
  wider_more es ds s r own w = record {
    grows = subst (λ z. Grows types before z (with_variables r ds)) (to_more types among none [] ds s) (grows_more types before ds ds (bare s) r w.grows);
    names = λ x t h. ⊎_elim (λ d. told es (with_variables r ds) ds own x t d) (λ k. still_known x ds r t (w.names x t k)) (from_scope ds s x t h);
    ground = grounds_more types ds r w.ground;
  }

  module _ (s r : Scope) (w : Wider s r) where
    path_fits : (path : Clock) → PathFits s path → ClockTested types r path
    path_fits [] h = tt
    path_fits (step ∷ path) h =
        let a = agreed (lookup s.variables step.1) (cons_type s step.0) h.0 in (
          subst (λ o. ConsIs types o step.0) (sym (w.names step.1 a.0 a.1)) (cons_is types r w.ground step.0 a.0 (cons_kept types before (bare s) r w.grows step.0 a.0 a.2)),
          path_fits path h.1,
        )

    written_fits : (d : Decl) (o : Option Clock) → PathsFit s (record d { clock = o } ∷ []) → WrittenFits types r o
    written_fits d None h = tt
    written_fits d (Some path) h = path_fits path h.0

    pub decls_fit : (ds : List Decl) → PathsFit s ds → DeclsFit types r ds
    decls_fit [] h = tt
    decls_fit (d ∷ ds) h = (written_fits d d.clock (h.0, tt), decls_fit ds h.1)

    conses_are : (t : Ty) (arms : Arms) → drawable.ArmsFit s (Some t) arms → ConsAre types (Some t) (of_arms arms)
    conses_are t no_arm h = tt
    conses_are t (more_arms c b at arms) h =
        let a = agreed (Some t) (cons_type s c) h.0 in
        (cons_is types r w.ground c t (cons_kept types before (bare s) r w.grows c t (a.2 ∙ sym a.1)), conses_are t arms h.1)

    type_kept : (e : Expr) (t : Ty) → type_of (bare s) e ≡ Some t → type_of r e ≡ Some t
    type_kept e t h = subst (λ z. type_of r z ≡ Some t) (itself e) (expr_kept types before (bare s) r w.grows none same_name no_lasts no_lasts w.names (λ x k. k) e t h)

  -- ---- blocks

  mutual
    pub block_fits : (b : Block) (s r : Scope) (lasts lasts' : Lasts) → Wider s r → BlockCallsNothing b → BlockDrawable s b → BlockApart b → BlockSound types among s lasts b → BlockSound types before r lasts' b → BlockFits types r b
    block_fits (block ds es) s r lasts lasts' w a d p h k =
        let w' = wider_more es ds s r k.0 w in
        (decls_fit (with_variables s ds) (with_variables r ds) w' ds d.1.0, eqns_fit es (with_variables s ds) (with_variables r ds) (lasts_in ds lasts) (lasts_in ds lasts') w' a d.1.1 p h.1.1 k.1.1)

    pub eqns_fit : (es : Eqns) (s r : Scope) (lasts lasts' : Lasts) → Wider s r → EqnsCallNothing es → EqnsDrawable s es → EqnsApart es → EqnsSound types among s lasts es → EqnsSound types before r lasts' es → EqnsFit types r es
    eqns_fit no_eqn s r lasts lasts' w a d p h k = tt
    eqns_fit (more_eqns e es) s r lasts lasts' w a d p h k = (eqn_fits e s r lasts lasts' w a.0 d.1.0 p.0 h.0 k.0, eqns_fit es s r lasts lasts' w a.1 d.1.1 p.1 h.1 k.1)

    eqn_fits : (e : Eqn) (s r : Scope) (lasts lasts' : Lasts) → Wider s r → EqnCallsNothing e → EqnDrawable s e → EqnApart e → EqnSound types among s lasts e → EqnSound types before r lasts' e → EqnFits types r e
    eqn_fits (define q ys e) s r lasts lasts' w a d p h k = p
    eqn_fits (switch q e arms) s r lasts lasts' w a d p h k =
        let t = h.1.0.0 in
        let typed = h.1.0.1.0 in (
          p.0,
          (
            (t, (type_kept s r w e t (type_same types among none [] s e a.0 ∙ typed), (conses_are s r w t arms (subst (λ o. drawable.ArmsFit s o arms) typed d.0), p.1.0))),
            arms_fit arms (switch q e arms) s r lasts lasts' w a.1 d.1 p.1.1 h.1.1 k.1.1,
          ),
        )
    eqn_fits (reset q b e) s r lasts lasts' w a d p h k = (p.0, block_fits b s r lasts lasts' w a.0 d p.1 h.1 k.1)
    eqn_fits (automaton q ss) s r lasts lasts' w a d p h k = states_fit ss (automaton q ss) s r lasts lasts' w a d.1 p h k

    arms_fit : (arms : Arms) (o : Eqn) (s r : Scope) (lasts lasts' : Lasts) → Wider s r → ArmsCallNothing arms → ArmsDrawable s arms → ArmsApart arms → ArmsSound types among o s lasts arms → ArmsSound types before o r lasts' arms → ArmsFit types r arms
    arms_fit no_arm o s r lasts lasts' w a d p h k = tt
    arms_fit (more_arms c b q arms) o s r lasts lasts' w a d p h k =
        (block_fits b s r lasts lasts' w a.0 d.0 p.0 h.1.0 k.1.0, arms_fit arms o s r lasts lasts' w a.1 d.1 p.1 h.1.1 k.1.1)

    states_fit : (ss : States) (o : Eqn) (s r : Scope) (lasts lasts' : Lasts) → Wider s r → StatesCallNothing ss → StatesDrawable s ss → StatesApart ss → StatesSound types among o s lasts ss → StatesSound types before o r lasts' ss → StatesFit types r ss
    states_fit no_state o s r lasts lasts' w a d p h k = tt
    states_fit (more_states f b until unless q ss) o s r lasts lasts' w a d p h k =
        (block_fits b s r lasts lasts' w a.0 d.0 p.0 h.1.0 k.1.0, (p.1.0, (p.1.1.0, states_fit ss o s r lasts lasts' w a.3 d.1 p.1.1.1 h.1.1.1.1 k.1.1.1.1)))
