-- Under other names each name has one equation in its block, where no two names become one.
use Rattle.std.proofs.Common.{◌≡◌, ℕ, ⊎_elim, Bool, true, false, ◌||◌, List, refl, sym, ◌∙◌, subst}
use Rattle.std.specs.Prelude.{IsTrue, ◌&&◌, not}
use Rattle.hp_tree.specs.Blocks.{Decl, Block, block, Eqns, no_eqn, more_eqns, Eqn, define, switch, reset, automaton, Arms, no_arm, more_arms, States, no_state, more_states}
use Rattle.hp_tree.specs.Meaning.{declares, defines, some_defines, arms_define, states_define, block_defines}
use Rattle.law_judged.specs.Named.Scoped.{Names, also, BlockScoped, EqnsScoped, EqnScoped, ArmsScoped, StatesScoped}
use Rattle.law_judged.proofs.NamedLemmas.Sets.{or_cases, or_left, or_right, false_if, both_true, first_true, second_false}
use Rattle.law_judged.proofs.NamedLemmas.Declared.{eqn_owned}
use Rattle.hp_expand.specs.Renaming.{renamed_decls, renamed_block, renamed_eqns, renamed_eqn, renamed_arms, renamed_states}
use Rattle.law_judged.specs.Replaced.Fitting.{DeclNames, BlockNames, EqnsNames, EqnNames, ArmsNames, StatesNames}
use Rattle.law_judged.proofs.ReplacedLemmas.Renaming.{renamed_there, left_back}
use Rattle.law_judged.specs.Once.Once.{BlockOnce, AllOnce, OneOnce, ArmsOnce, StatesOnce}

pub or_none : (b : Bool) → IsTrue (b || false) → IsTrue b
or_none true h = refl
or_none false h = h

pub some_owned : (x : List ℕ) (seen own : Names) (es : Eqns) → EqnsScoped seen own es → IsTrue (some_defines es x) → IsTrue (own x)
some_owned x seen own no_eqn s h = absurd (cc h)
some_owned x seen own (more_eqns e es) s h =
    ⊎_elim (λ l. eqn_owned x seen own e s.0 l) (λ l. some_owned x seen own es s.1 l) (or_cases (defines e x) (some_defines es x) h)

-- ---- a name that is defined comes from one that was

abbrev pub Comes : (List ℕ → List ℕ) → Names → List ℕ → Type 0
Comes to names z = (x : List ℕ) × IsTrue (names x) × (to x ≡ z)

pub comes_left : (to : List ℕ → List ℕ) (a b : Names) (z : List ℕ) → Comes to a z → Comes to (λ x. a x || b x) z
comes_left to a b z (x, h, e) = (x, or_left (a x) (b x) h, e)

pub comes_right : (to : List ℕ → List ℕ) (a b : Names) (z : List ℕ) → Comes to b z → Comes to (λ x. a x || b x) z
comes_right to a b z (x, h, e) = (x, or_right (a x) (b x) h, e)

-- out of a block, whose own variables are not seen outside
pub comes_out : (to said : List ℕ → List ℕ) (ds : List Decl) (es r : Eqns) (z : List ℕ) → ((x : List ℕ) → declares ds x ≡ false → said x ≡ to x) → IsTrue (some_defines r z && not (declares (renamed_decls said ds) z)) → Comes said (some_defines es) z → Comes to (block_defines (block ds es)) z
comes_out to said ds es r z same h (x, l, e) =
    let other : IsTrue (declares ds x) → ⊥ =
    λ d. second_false (some_defines r z) (declares (renamed_decls said ds) z) h (subst (λ w. IsTrue (declares (renamed_decls said ds) w)) e (renamed_there said ds x d)) in
    (x, both_true (some_defines es x) (declares ds x) l other, sym (same x (false_if (declares ds x) other)) ∙ e)

-- Where two parts define no name both, they define none both under other names.
pub apart_said : (to : List ℕ → List ℕ) (a b own : Names) → ((x y : List ℕ) → IsTrue (own x) → IsTrue (own y) → to x ≡ to y → x ≡ y) → ((x : List ℕ) → IsTrue (a x) → IsTrue (own x)) → ((x : List ℕ) → IsTrue (b x) → IsTrue (own x)) → ((x : List ℕ) → a x ≡ true → b x ≡ false) → (z : List ℕ) → Comes to a z → Comes to b z → ⊥
apart_said to a b own inj p q o z (x, h, e) (y, l, f) =
    let same : x ≡ y = inj x y (p x h) (q y l) (e ∙ sym f) in
    absurd (cc (sym (o x h), subst (λ w. IsTrue (b w)) (sym same) l))

module _ (to : List ℕ → List ℕ) (z : List ℕ) where
  mutual
    block_back : (b : Block) → IsTrue (block_defines (renamed_block to b) z) → Comes to (block_defines b) z
    block_back (block ds es) h =
        comes_out to to ds es (renamed_eqns to es) z (λ x d. refl) h (some_back es (first_true (some_defines (renamed_eqns to es) z) (declares (renamed_decls to ds) z) h))

    pub some_back : (es : Eqns) → IsTrue (some_defines (renamed_eqns to es) z) → Comes to (some_defines es) z
    some_back no_eqn h = absurd (cc h)
    some_back (more_eqns e es) h =
        ⊎_elim (λ l. comes_left to (defines e) (some_defines es) z (one_back e l)) (λ l. comes_right to (defines e) (some_defines es) z (some_back es l))
        (or_cases (defines (renamed_eqn to e) z) (some_defines (renamed_eqns to es) z) h)

    one_back : (e : Eqn) → IsTrue (defines (renamed_eqn to e) z) → Comes to (defines e) z
    one_back (define s ys e) h = left_back to ys z h
    one_back (switch s e arms) h = arms_back arms h
    one_back (reset s b e) h = block_back b h
    one_back (automaton s ss) h = states_back ss h

    arms_back : (arms : Arms) → IsTrue (arms_define (renamed_arms to arms) z) → Comes to (arms_define arms) z
    arms_back no_arm h = absurd (cc h)
    arms_back (more_arms c b s arms) h =
        ⊎_elim (λ l. comes_left to (block_defines b) (arms_define arms) z (block_back b l)) (λ l. comes_right to (block_defines b) (arms_define arms) z (arms_back arms l))
        (or_cases (block_defines (renamed_block to b) z) (arms_define (renamed_arms to arms) z) h)

    states_back : (ss : States) → IsTrue (states_define (renamed_states to ss) z) → Comes to (states_define ss) z
    states_back no_state h = absurd (cc h)
    states_back (more_states f b until unless s ss) h =
        ⊎_elim (λ l. comes_left to (block_defines b) (states_define ss) z (block_back b l)) (λ l. comes_right to (block_defines b) (states_define ss) z (states_back ss l))
        (or_cases (block_defines (renamed_block to b) z) (states_define (renamed_states to ss) z) h)

-- ---- and so no name is defined twice

module _ (to : List ℕ → List ℕ) (P : List ℕ → Type 0) (inj : (x y : List ℕ) → P x → P y → to x ≡ to y → x ≡ y) where
  abbrev Known : Names → Type 0
  Known own = (x : List ℕ) → IsTrue (own x) → P x

  known_more : (own : Names) (ds : List Decl) → DeclNames P ds → Known own → Known (also own ds)
  known_more own ds n p x h = ⊎_elim (λ l. n x l) (λ l. p x l) (or_cases (declares ds x) (own x) h)

  mutual
    block_renamed : (seen own : Names) (b : Block) → Known own → BlockNames P b → BlockScoped seen own b → BlockOnce b → BlockOnce (renamed_block to b)
    block_renamed seen own (block ds es) p n s o = all_renamed (also seen ds) (also own ds) es (known_more own ds n.0 p) n.1 s.3 o

    pub all_renamed : (seen own : Names) (es : Eqns) → ((x : List ℕ) → IsTrue (own x) → P x) → EqnsNames P es → EqnsScoped seen own es → AllOnce es → AllOnce (renamed_eqns to es)
    all_renamed seen own no_eqn p n s o = tt
    all_renamed seen own (more_eqns e es) p n s o = (
      (λ z h. false_if (some_defines (renamed_eqns to es) z)
          (λ l. apart_said to (defines e) (some_defines es) own (λ x y q r d. inj x y (p x q) (p y r) d) (λ x q. eqn_owned x seen own e s.0 q) (λ x q. some_owned x seen own es s.1 q) o.0 z
          (one_back to z e h) (some_back to z es l))),
      (one_renamed seen own e p n.0 s.0 o.1.0, all_renamed seen own es p n.1 s.1 o.1.1),
    )

    one_renamed : (seen own : Names) (e : Eqn) → Known own → EqnNames P e → EqnScoped seen own e → OneOnce e → OneOnce (renamed_eqn to e)
    one_renamed seen own (define w ys e) p n s o = tt
    one_renamed seen own (switch w e arms) p n s o = arms_renamed seen own arms p n s o
    one_renamed seen own (reset w b e) p n s o = block_renamed seen own b p n s o
    one_renamed seen own (automaton w ss) p n s o = states_renamed seen own ss p n s o

    arms_renamed : (seen own : Names) (arms : Arms) → Known own → ArmsNames P arms → ArmsScoped seen own arms → ArmsOnce arms → ArmsOnce (renamed_arms to arms)
    arms_renamed seen own no_arm p n s o = tt
    arms_renamed seen own (more_arms c b w arms) p n s o = (block_renamed seen own b p n.0 s.0 o.0, arms_renamed seen own arms p n.1 s.1 o.1)

    states_renamed : (seen own : Names) (ss : States) → Known own → StatesNames P ss → StatesScoped seen own ss → StatesOnce ss → StatesOnce (renamed_states to ss)
    states_renamed seen own no_state p n s o = tt
    states_renamed seen own (more_states f b until unless w ss) p n s o = (block_renamed seen own b p n.0 s.0 o.0, states_renamed seen own ss p n.1 s.1 o.1)
