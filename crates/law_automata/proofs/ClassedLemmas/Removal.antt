-- What replaces equations has right classes, by one induction.
use Rattle.std.proofs.Common.{◌≡◌, ℕ, ◌+◌, ◌<◌, ◌≤◌, ⊎_elim, true, not, List, [], ◌∷◌, sym, ◌∙◌, arith}
use Rattle.std.specs.Prelude.{IsFalse}
use Rattle.hp_base.specs.declared.span.Span.{Span}
use Rattle.hp_tree.specs.Blocks.{Decl, Block, block, Eqns, no_eqn, more_eqns, Eqn, define, switch, reset, automaton, Arms, no_arm, more_arms, States, no_state, more_states}
use Rattle.hp_tree.specs.Instant.{Body, Equations, Head, Tail, Arms as ArmsOf, States as StatesOf}
use Rattle.hp_tree.specs.Meaning.{declares, defines, some_defines, block_defines, arms_define, states_define}
use Rattle.hp_init.specs.Classes.{Assignment, Known, or_first, known_in, known_within}
use Rattle.hp_tables.specs.Defining.Names.{names_of_arms}
use Rattle.hp_automata.specs.Names.{is_name, once}
use Rattle.hp_automata.specs.Lowering.{Types, Enumerations, declaring, frame, idle, state_eqns, lowered_block, lowered_eqns, lowered_eqn, lowered_arms, lowered_states, lowered_body, count_of}
use Rattle.law_automata.specs.Lowered.OldNames.{IsOld}
use Rattle.law_automata.specs.Lowered.Removable.{Known as Names, and_defined, BlockOk, EqnsOk, EqnOk, ArmsOk, StatesOk, most}
use Rattle.law_automata.proofs.LoweredLemmas.Defined.{eqn_complete}
use Rattle.law_automata.proofs.LoweredLemmas.Lookups.{eqn_old, names_of_frame, names_of_switch}
use Rattle.law_automata.proofs.LoweredLemmas.Renaming.{Renames, within_renames}
use Rattle.law_automata.proofs.LoweredLemmas.Tests.{or_left, or_right, or_cases, and_first, and_second, not_true}
use Rattle.law_automata.specs.Classed.Good.{BlockGood, EqnsGood, EqnGood, ArmsGood, StatesGood, no_class, in_block, in_row, in_body, in_arms, own_classes}
use Rattle.law_automata.specs.Classed.Relates.{Relates}
use Rattle.law_automata.proofs.ClassedLemmas.Automata.{few_here, in_frame, words, relates_frame, frame_new, relates_state, automaton_by}
use Rattle.law_automata.proofs.ClassedLemmas.Blocks.{known_there, relates_there, musts_there, block_by, locals_there, body_there, state_renames, relates_body, musts_body, body_hands, body_by}
use Rattle.law_automata.proofs.ClassedLemmas.Expressions.{test_kept, tests_kept}
use Rattle.law_automata.proofs.ClassedLemmas.Places.{relates_within}
use Rattle.law_automata.proofs.ClassedLemmas.Rows.{Musts, definition_kept, Gives, AllGive, both_give}
use Rattle.law_automata.proofs.ClassedLemmas.States.{in_state, state_gives}

-- ---- names that a control equation defines are First

block_first : (k : Known) (class : Assignment) (b : Block) → BlockGood k class b → (x : List ℕ) → block_defines b x ≡ true → IsFalse (or_first (k.variables x))
block_first k class (block ds es) g x h = g.1.0 x (and_first (some_defines es x) (not (declares ds x)) h) (not_true (declares ds x) (and_second (some_defines es x) (not (declares ds x)) h))

arms_first : (k : Known) (class : Assignment) (arms : Arms) → ArmsGood k class arms → (x : List ℕ) → arms_define arms x ≡ true → IsFalse (or_first (k.variables x))
arms_first k class no_arm g x h = absurd cc
arms_first k class (more_arms c b at arms) g x h =
    ⊎_elim (λ q. block_first k (λ p. class (Head ∷ p)) b g.0 x q) (λ q. arms_first k (λ p. class (Tail ∷ p)) arms g.1 x q) (or_cases (block_defines b x) (arms_define arms x) h)

states_first : (out k : Known) (class : Assignment) (ss : States) → StatesGood out k class ss → (x : List ℕ) → states_define ss x ≡ true → IsFalse (or_first (k.variables x))
states_first out k class no_state g x h = absurd cc
states_first out k class (more_states q b until unless at ss) g x h =
    ⊎_elim (λ p. block_first k (λ w. class (Head ∷ Body ∷ w)) b g.0 x p) (λ p. states_first out k (λ w. class (Tail ∷ w)) ss g.1.1.1 x p) (or_cases (block_defines b x) (states_define ss x) h)

module _ (enums : Enumerations) where
  mutual
    pub block_good : {outer : Names} {d : ℕ} {to : List ℕ → List ℕ} → Renames outer d to → (tys : Types) (sp : Span) (xs : List (List ℕ)) (b : Block) → BlockOk outer d b → (class : Assignment) (k l : Known) → Relates to k l
        → ((x : List ℕ) → is_name xs x ≡ true → IsOld x) → ((x : List ℕ) → is_name xs x ≡ true → IsFalse (or_first (k.variables x))) → BlockGood k class b → (other : Assignment) × BlockGood l other (lowered_block enums to tys d sp xs b)
    block_good rn tys sp xs (block ds es) ok class k l r old first good =
        let b = block_by enums rn tys sp xs ds es ok class k l r old first good
        (eqns_good rn (declaring tys ds) es ok.1 (λ p. class (Equations ∷ p)) (known_in (block ds es) class k) (known_there enums rn tys sp xs ds es ok class k l r old first good) (relates_there enums rn tys sp xs ds es ok class k l r old first good) ds _
        (musts_there enums rn tys sp xs ds es ok class k l r old first good) good.1.1.1) in
        (in_block (own_classes ds class) b.0, b.1)

    pub eqns_good : {outer : Names} {d : ℕ} {to : List ℕ → List ℕ} → Renames outer d to → (tys : Types) (es : Eqns) → EqnsOk outer d es → (class : Assignment) (k l : Known) → Relates to k l → (ds fs : List Decl) → Musts to k ds fs → EqnsGood k ds class es
        → AllGive l fs (lowered_eqns enums to tys d es)
    eqns_good rn tys no_eqn ok class k l r ds fs m good = tt
    eqns_good rn tys (more_eqns e es) ok class k l r ds fs m good = (eqn_good rn tys e ok.1 (λ p. class (Head ∷ p)) k l r ds fs m good.0, eqns_good rn tys es ok.2 (λ p. class (Tail ∷ p)) k l r ds fs m good.1)

    eqn_good : {outer : Names} {d : ℕ} {to : List ℕ → List ℕ} → Renames outer d to → (tys : Types) (e : Eqn) → EqnOk outer d e → (class : Assignment) (k l : Known) → Relates to k l → (ds fs : List Decl) → Musts to k ds fs → EqnGood k ds class e
        → Gives l fs (lowered_eqn enums to tys d e)
    eqn_good {outer} {d} {to} rn tys (define at ys e) ok class k l r ds fs m good = (no_class, definition_kept to k l r ds fs m ys e ok.0 ok.1 good.0 good.1)
    eqn_good {outer} {d} {to} rn tys (switch at e arms) ok class k l r ds fs m good =
        let a = arms_good (within_renames (switch at e arms) rn) tys (once (names_of_arms arms)) arms ok.1 (λ p. class (ArmsOf ∷ p)) (known_within (switch at e arms) k) (known_within (lowered_eqn enums to tys d (switch at e arms)) l)
        (relates_within to k l (switch at e arms) (lowered_eqn enums to tys d (switch at e arms)) (λ x o q. eqn_complete enums rn tys (switch at e arms) ok x o q) r)
        (λ x q. eqn_old outer d (switch at e arms) ok x (sym (names_of_switch enums arms x) ∙ q))
        (λ x q. arms_first (known_within (switch at e arms) k) (λ p. class (ArmsOf ∷ p)) arms good.1 x (sym (names_of_switch enums arms x) ∙ q)) good.1 in
        (in_arms a.0, (test_kept to k.values l.values r.values e ok.0 good.0, a.1))
    eqn_good {outer} {d} {to} rn tys (reset at b e) ok class k l r ds fs m good =
        let a = block_good (within_renames (reset at b e) rn) tys at [] b ok.1 (λ p. class (Body ∷ p)) (known_within (reset at b e) k) (known_within (lowered_eqn enums to tys d (reset at b e)) l)
        (relates_within to k l (reset at b e) (lowered_eqn enums to tys d (reset at b e)) (λ x o q. eqn_complete enums rn tys (reset at b e) ok x o q) r) (λ x q. absurd cc) (λ x q. absurd cc) good.1 in
        (in_body a.0, (test_kept to k.values l.values r.values e ok.0 good.0, a.1))
    eqn_good {outer} {d} {to} rn tys (automaton at ss) ok class k l r ds fs m good =
        let first = states_first k (known_within (automaton at ss) k) (λ p. class (StatesOf ∷ p)) ss good in
        automaton_by enums rn tys at ss ok k l r first fs
        (states_good rn tys at ss ok k l r first 0 ss ok.3 (λ p. class (StatesOf ∷ p)) good (λ x q. names_of_frame enums at d ss x ∙ q) (omega arith))

    arms_good : {outer : Names} {d : ℕ} {to : List ℕ → List ℕ} → Renames outer d to → (tys : Types) (xs : List (List ℕ)) (arms : Arms) → ArmsOk outer d arms → (class : Assignment) (k l : Known) → Relates to k l
        → ((x : List ℕ) → is_name xs x ≡ true → IsOld x) → ((x : List ℕ) → is_name xs x ≡ true → IsFalse (or_first (k.variables x))) → ArmsGood k class arms → (other : Assignment) × ArmsGood l other (lowered_arms enums to tys d xs arms)
    arms_good rn tys xs no_arm ok class k l r old first good = (no_class, tt)
    arms_good rn tys xs (more_arms c b at arms) ok class k l r old first good =
        let a = block_good rn tys at xs b ok.0 (λ p. class (Head ∷ p)) k l r old first good.0 in
        let others = arms_good rn tys xs arms ok.1 (λ p. class (Tail ∷ p)) k l r old first good.1 in
        (in_row a.0 others.0, (a.1, others.1))

    states_good : {outer : Names} {d : ℕ} {to : List ℕ → List ℕ} (rn : Renames outer d to) (tys : Types) (sp : Span) (all : States) (ok : EqnOk outer d (automaton sp all)) (k l : Known) (r : Relates to k l)
        (first : (x : List ℕ) → defines (automaton sp all) x ≡ true → IsFalse (or_first (k.variables x))) (i : ℕ) (ss : States) → StatesOk all (and_defined (automaton sp all) outer) (d + 1) ss → (class : Assignment) → StatesGood k (known_within (automaton sp all) k) class ss
        → ((x : List ℕ) → states_define ss x ≡ true → is_name (frame sp d all).names x ≡ true) → i + count_of ss ≤ count_of all
        → AllGive (in_frame enums rn tys sp all ok k l r first) (words enums rn tys sp all ok k l r first) (lowered_states enums to tys (frame sp d all) i ss)
    states_good rn tys sp all ok k l r first i no_state oks class good sub room = tt
    states_good {outer} {d} {to} rn tys sp all ok k l r first i (more_states q (block ds es) until unless at ss) oks class good sub room =
        let f = frame sp d all in
        let here : i < most = (let m : count_of all < most = ok.2 in omega (arith, room, m)) in
        let names : (x : List ℕ) → is_name f.names x ≡ defines (automaton sp all) x = names_of_frame enums sp d all in
        let old : (x : List ℕ) → is_name f.names x ≡ true → IsOld x = λ x p. eqn_old outer d (automaton sp all) ok x (sym (names x) ∙ p) in
        let mine : (x : List ℕ) → block_defines (block ds es) x ≡ true → is_name f.names x ≡ true = λ x p. sub x (or_left (block_defines (block ds es) x) (states_define ss x) p) in
        let more : (x : List ℕ) → states_define ss x ≡ true → is_name f.names x ≡ true = λ x p. sub x (or_right (block_defines (block ds es) x) (states_define ss x) p) in
        let named_first : (x : List ℕ) → is_name f.names x ≡ true → IsFalse (or_first (k.variables x)) = λ x p. first x (sym (names x) ∙ p) in
        let own : Assignment = λ p. class (Head ∷ Body ∷ p) in
        let kw = known_within (automaton sp all) k in
        let outside = in_frame enums rn tys sp all ok k l r first in
        let body = lowered_body enums to tys f i (block ds es) until in
        let other = idle enums tys f i in
        let lw = in_state f i body other outside in
        let rw = relates_state enums rn tys sp all ok k l r first i here body other in
        let renames = state_renames enums rn tys sp all ok i here ds es until oks.0.0 oks.0.1.0 oks.0.1.1 mine own kw lw rw named_first good.0 good.1.0 in
        let inside = body_there enums rn tys sp all ok i here ds es until oks.0.0 oks.0.1.0 oks.0.1.1 mine own kw lw rw named_first good.0 good.1.0 in
        let locals = locals_there enums rn tys sp all ok i here ds es until oks.0.0 oks.0.1.0 oks.0.1.1 mine own kw lw rw named_first good.0 good.1.0 in
        let relates = relates_body enums rn tys sp all ok i here ds es until oks.0.0 oks.0.1.0 oks.0.1.1 mine own kw lw rw named_first good.0 good.1.0 in
        let musts = musts_body enums rn tys sp all ok i here ds es until oks.0.0 oks.0.1.0 oks.0.1.1 mine own kw lw rw named_first good.0 good.1.0 in
        let given = eqns_good renames (declaring tys ds) es oks.0.0.1 (λ p. own (Equations ∷ p)) (known_in (block ds es) own kw) inside relates ds locals musts good.0.1.1.1 in
        both_give outside (words enums rn tys sp all ok k l r first) (state_eqns to f i unless body other) (lowered_states enums to tys f (i + 1) ss)
        (state_gives enums tys f (few_here enums rn tys sp all ok k l r first) old outside (frame_new enums rn tys sp all ok k l r first) (words enums rn tys sp all ok k l r first) i here body
        (body_hands enums rn tys sp all ok i here ds es until oks.0.0 oks.0.1.0 oks.0.1.1 mine own kw lw rw named_first good.0 good.1.0)
        (body_by enums rn tys sp all ok i here ds es until oks.0.0 oks.0.1.0 oks.0.1.1 mine own kw lw rw named_first good.0 good.1.0 given) to unless oks.0.2.1
        (tests_kept to k.values outside.values (relates_frame enums rn tys sp all ok k l r first).values all unless oks.0.2.0 good.1.1.0))
        (states_good rn tys sp all ok k l r first (i + 1) ss oks.1 (λ p. class (Tail ∷ p)) good.1.1.1 more (omega (arith, room)))
