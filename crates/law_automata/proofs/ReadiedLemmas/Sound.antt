-- What replaces equations is sound, by one induction.
use Rattle.std.proofs.Common.{◌≡◌, ℕ, ◌+◌, ◌<◌, ◌≤◌, ◌⊎◌, inl, true, List, [], sym, ◌∙◌, subst, arith}
use Rattle.std.specs.Prelude.{IsTrue, Option}
use Rattle.hp_base.specs.declared.span.Span.{Span}
use Rattle.hp_tree.specs.Blocks.{Block, block, Eqns, no_eqn, more_eqns, Eqn, define, switch, reset, automaton, Arms, no_arm, more_arms, States, no_state, more_states}
use Rattle.hp_tree.specs.Programs.{TypeDecl, Node}
use Rattle.hp_tree.specs.Meaning.{defines, block_defines, arms_define, states_define}
use Rattle.hp_typing.specs.Scopes.{with_variables}
use Rattle.law_judged.specs.Named.Scopes.{Scope}
use Rattle.law_judged.specs.Named.Scoped.{Names, BlockScoped, EqnsScoped, EqnScoped, ArmsScoped, StatesScoped}
use Rattle.law_judged.proofs.NamedLemmas.Declared.{eqn_owned}
use Rattle.law_values.specs.Valued.Judged.{Lasts, lasts_in, Covers, HaveOwnTypes, BlockSound, EqnsSound, EqnSound, ArmsSound, StatesSound}
use Rattle.hp_tables.specs.Defining.Names.{names_of_arms}
use Rattle.hp_automata.specs.Names.{is_name, once}
use Rattle.hp_automata.specs.Lowering.{Types, Enumerations, frame, state_locals, locals_from, frame_locals, idle, state_eqns, lowered_block, lowered_eqns, lowered_eqn, lowered_arms, lowered_states, lowered_body, count_of}
use Rattle.law_automata.specs.Lowered.OldNames.{IsOld}
use Rattle.law_automata.specs.Lowered.Removable.{Known, and_defined, BlockOk, EqnsOk, EqnOk, ArmsOk, StatesOk, most}
use Rattle.law_automata.proofs.LoweredLemmas.Defined.{block_complete, body_complete}
use Rattle.law_automata.proofs.LoweredLemmas.Lookups.{Stood, eqn_old, names_of_frame, names_of_switch, eqn_sound as defined_by, body_sound as defined_in_body}
use Rattle.law_automata.proofs.LoweredLemmas.Renaming.{Renames, within_renames}
use Rattle.law_automata.proofs.LoweredLemmas.Tests.{or_left, or_right}
use Rattle.law_automata.specs.Readied.Constants.{HasConstant, BlockTypes, EqnsTypes, EqnTypes, ArmsTypes, StatesTypes}
use Rattle.law_automata.proofs.ReadiedLemmas.Places.{Place}
use Rattle.law_automata.proofs.ReadiedLemmas.SoundExpressions.{expr_typed, expr_sound, test_sound, right_sound}
use Rattle.law_automata.proofs.ReadiedLemmas.SoundStates.{own_last, ListSound, both_sound, state_sound, strong_typed}
use Rattle.law_automata.proofs.ReadiedLemmas.SoundSteps.{tests_give, arms_conses, within_block, block_by}
use Rattle.law_automata.proofs.ReadiedLemmas.SoundBodies.{around, frame_typed, own_states, automaton_by, state_renames, in_state, body_by}

module _ (types : List TypeDecl) (among : List ℕ → Option Node) (enums : Enumerations) (base : Scope) where
  mutual
    pub block_sound : {outer : Known} {d : ℕ} {to : List ℕ → List ℕ} → Renames outer d to → {tys : Types} {s r : Scope} {lasts lasts' : Lasts} {seen own : Names} → Place types among enums base d to tys s r lasts lasts' seen own → (sp : Span) (xs : List (List ℕ)) (b : Block)
        → BlockOk outer d b → BlockScoped seen own b → BlockTypes (HasConstant enums base) b → BlockSound types among s lasts b → ((x : List ℕ) → is_name xs x ≡ true → IsTrue (own x)) → ((x : List ℕ) → is_name xs x ≡ true → (block_defines b x ≡ true) ⊎ IsTrue (lasts x))
        → BlockSound types among r lasts' (lowered_block enums to tys d sp xs b)
    block_sound rn p sp xs (block ds es) ok sc has sound mine completes =
        block_by types among enums base rn p sp xs ds es ok sc has.0 sound mine completes (eqns_sound rn (within_block types among enums base rn p sp xs ds es ok sc has.0 sound mine completes) es ok.1 sc.3 has.1 sound.1.1)

    pub eqns_sound : {outer : Known} {d : ℕ} {to : List ℕ → List ℕ} → Renames outer d to → {tys : Types} {s r : Scope} {lasts lasts' : Lasts} {seen own : Names} → Place types among enums base d to tys s r lasts lasts' seen own → (es : Eqns)
        → EqnsOk outer d es → EqnsScoped seen own es → EqnsTypes (HasConstant enums base) es → EqnsSound types among s lasts es → ListSound types among r lasts' (lowered_eqns enums to tys d es)
    eqns_sound rn p no_eqn ok sc has sound = tt
    eqns_sound rn p (more_eqns e es) ok sc has sound = (eqn_sound rn p e ok.1 sc.0 has.0 sound.0, eqns_sound rn p es ok.2 sc.1 has.1 sound.1)

    eqn_sound : {outer : Known} {d : ℕ} {to : List ℕ → List ℕ} → Renames outer d to → {tys : Types} {s r : Scope} {lasts lasts' : Lasts} {seen own : Names} → Place types among enums base d to tys s r lasts lasts' seen own → (e : Eqn)
        → EqnOk outer d e → EqnScoped seen own e → EqnTypes (HasConstant enums base) e → EqnSound types among s lasts e → EqnSound types among r lasts' (lowered_eqn enums to tys d e)
    eqn_sound {outer} {d} {to} rn {tys} {s} {r} {lasts} {lasts'} p (define at ys e) ok sc has sound = right_sound types among s r p.grows to lasts lasts' p.names p.itself p.lasting ys e sound
    eqn_sound {outer} {d} {to} rn {tys} {s} {r} {lasts} {lasts'} {seen} {own} p (switch at e arms) ok sc has sound =
        let t = sound.1.0.0 in
        let xs = once (names_of_arms arms) in (
          expr_sound types among s r p.grows to lasts lasts' p.names p.itself p.lasting e sound.0,
          (
            (t, (expr_typed types among s r p.grows to lasts lasts' p.names p.itself p.lasting e t sound.1.0.1.0, subst (Covers types t) (sym (arms_conses types among enums base to tys d xs arms)) sound.1.0.1.1)),
            arms_sound (within_renames (switch at e arms) rn) p (switch at e arms) (lowered_eqn enums to tys d (switch at e arms)) xs arms ok.1 sc has sound.1.1
                (λ x q. eqn_owned x seen own (switch at e arms) sc (sym (names_of_switch enums arms x) ∙ q)) (λ x q. sym (names_of_switch enums arms x) ∙ q)
                (λ y h. let stood = defined_by enums rn tys (switch at e arms) ok y h in record { name = stood.name; old = stood.old; own = names_of_switch enums arms stood.name ∙ stood.own; is = stood.is })
                (λ x q. or_left (arms_define arms x) (outer x) (sym (names_of_switch enums arms x) ∙ q)),
          ),
        )
    eqn_sound {outer} {d} {to} rn {tys} {s} {r} {lasts} {lasts'} p (reset at b e) ok sc has sound =
        (test_sound types among s r p.grows to lasts lasts' p.names p.itself p.lasting e sound.0, block_sound (within_renames (reset at b e) rn) p at [] b ok.1 sc has sound.1 (λ x q. absurd cc) (λ x q. absurd cc))
    eqn_sound {outer} {d} {to} rn {tys} p (automaton at ss) ok sc has sound =
        automaton_by types among enums base rn p at ss ok sc
        (states_sound rn p at ss ok sc 0 ss ok.3 sc has sound (λ x q. names_of_frame enums at d ss x ∙ q) (omega arith) (own_states types among enums base rn p at ss ok sc).1.1)

    arms_sound : {outer : Known} {d : ℕ} {to : List ℕ → List ℕ} → Renames outer d to → {tys : Types} {s r : Scope} {lasts lasts' : Lasts} {seen own : Names} → Place types among enums base d to tys s r lasts lasts' seen own → (e lowered : Eqn) (xs : List (List ℕ)) (arms : Arms)
        → ArmsOk outer d arms → ArmsScoped seen own arms → ArmsTypes (HasConstant enums base) arms → ArmsSound types among e s lasts arms → ((x : List ℕ) → is_name xs x ≡ true → IsTrue (own x)) → ((x : List ℕ) → is_name xs x ≡ true → defines e x ≡ true)
        → ((y : List ℕ) → defines lowered y ≡ true → Stood to (is_name xs) y) → ((x : List ℕ) → is_name xs x ≡ true → outer x ≡ true) → ArmsSound types among lowered r lasts' (lowered_arms enums to tys d xs arms)
    arms_sound rn p e lowered xs no_arm ok sc has sound mine of stood out = tt
    arms_sound {outer} {d} {to} rn {tys} p e lowered xs (more_arms c b at arms) ok sc has sound mine of stood out = (
      (λ y h.
          let n = stood y h in
          inl (subst (λ z. block_defines (lowered_block enums to tys d at xs b) z ≡ true) (sym n.is) (block_complete enums rn tys at xs b ok.0 out n.name n.old (or_right (block_defines b n.name) (is_name xs n.name) n.own)))),
      (block_sound rn p at xs b ok.0 sc.0 has.0 sound.1.0 mine (λ x q. sound.0 x (of x q)), arms_sound rn p e lowered xs arms ok.1 sc.1 has.1 sound.1.1 mine of stood out),
    )

    states_sound : {outer : Known} {d : ℕ} {to : List ℕ → List ℕ} (rn : Renames outer d to) {tys : Types} {s r : Scope} {lasts lasts' : Lasts} {seen own : Names} (p : Place types among enums base d to tys s r lasts lasts' seen own) (sp : Span) (all : States) (ok : EqnOk outer d (automaton sp all))
        (sc : StatesScoped seen own all) (k : ℕ) (ss : States) → StatesOk all (and_defined (automaton sp all) outer) (d + 1) ss → StatesScoped seen own ss → StatesTypes (HasConstant enums base) ss → StatesSound types among (automaton sp all) s lasts ss
        → ((x : List ℕ) → states_define ss x ≡ true → is_name (frame sp d all).names x ≡ true) → k + count_of ss ≤ count_of all → HaveOwnTypes types among (with_variables r (frame_locals tys (frame sp d all) all)) (locals_from tys (frame sp d all) k ss)
        → ListSound types among (with_variables r (frame_locals tys (frame sp d all) all)) (lasts_in (frame_locals tys (frame sp d all) all) lasts') (lowered_states enums to tys (frame sp d all) k ss)
    states_sound rn p sp all ok sc k no_state oks scs has sound sub room typed = tt
    states_sound {outer} {d} {to} rn {tys} {s} {r} {lasts} {lasts'} p sp all ok sc k (more_states q (block ds es) until unless at ss) oks scs has sound sub room typed =
        let f = frame sp d all in
        let r1 = with_variables r (frame_locals tys f all) in
        let lasts1 = lasts_in (frame_locals tys f all) lasts' in
        let here : k < count_of all = omega (arith, room) in
        let bounded : k < most = (let l : count_of all < most = ok.2 in omega (arith, here, l)) in
        let names : (x : List ℕ) → is_name f.names x ≡ defines (automaton sp all) x = names_of_frame enums sp d all in
        let old : (x : List ℕ) → is_name f.names x ≡ true → IsOld x = λ x t. eqn_old outer d (automaton sp all) ok x (sym (names x) ∙ t) in
        let mine : (x : List ℕ) → block_defines (block ds es) x ≡ true → is_name f.names x ≡ true = λ x t. sub x (or_left (block_defines (block ds es) x) (states_define ss x) t) in
        let more : (x : List ℕ) → states_define ss x ≡ true → is_name f.names x ≡ true = λ x t. sub x (or_right (block_defines (block ds es) x) (states_define ss x) t) in
        let outside = around types among enums base rn p sp all ok sc in
        let body = lowered_body enums to tys f k (block ds es) until in
        let inside = in_state types among enums base rn p sp all ok sc k here ds es until oks.0.0 oks.0.1.0 oks.0.1.1 scs.0 has.0.0 mine sound.0 sound.1.0 sound.1.1.0 in
        let renames = state_renames types among enums base rn p sp all ok sc k here ds es until oks.0.0 oks.0.1.0 oks.0.1.1 scs.0 has.0.0 mine sound.0 sound.1.0 sound.1.1.0 in
        let within = eqns_sound renames inside es oks.0.0.1 scs.0.3 has.0.1 sound.1.0.1.1 in
        both_sound types among r1 lasts1 (state_eqns to f k unless body (idle enums tys f k)) (lowered_states enums to tys f (k + 1) ss)
        (state_sound types among r1 lasts1 outside.same.constants enums tys f (frame_typed types among enums base rn p sp all ok sc) to k here unless (tests_give types among enums base outside all unless oks.0.2.0 sound.1.1.1.0)
        (strong_typed types among f r1 tys k q (block ds es) until unless at ss typed) body
        (body_by types among enums base rn p sp all ok sc k here ds es until oks.0.0 oks.0.1.0 oks.0.1.1 scs.0 has.0.0 mine sound.0 sound.1.0 sound.1.1.0 within)
        (λ y t. defined_in_body enums tys f rn (automaton sp all) names old ok.0 k bounded (block ds es) until oks.0.0 mine y t) (λ y t. body_complete enums tys f rn (automaton sp all) names old ok.0 k bounded (block ds es) until oks.0.0 oks.0.1.1 y t))
        (states_sound rn p sp all ok sc (k + 1) ss oks.1 scs.1 has.1 sound.1.1.1.1 more (omega (arith, room)) (own_last types among r1 (state_locals tys f k unless) (locals_from tys f (k + 1) ss) typed))
