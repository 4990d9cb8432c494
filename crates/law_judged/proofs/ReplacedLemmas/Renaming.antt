-- Names that are said otherwise stay in their scopes, where no two names become one.
use Rattle.std.proofs.Common.{◌≡◌, ℕ, ⊎_elim, List, [], ◌∷◌, refl, sym, ap, subst}
use Rattle.std.specs.Prelude.{IsTrue}
use Rattle.std.specs.Str.{bytes_eq}
use Rattle.hp_base.specs.declared.span.Span.{Span}
use Rattle.hp_tree.specs.Blocks.{Decl, Block, block, Eqns, no_eqn, more_eqns, Eqn, define, switch, reset, automaton, Arms, no_arm, more_arms, States, no_state, more_states}
use Rattle.hp_tree.specs.Meaning.{declares, is_among, defines, some_defines, arms_define, states_define, block_defines}
use Rattle.hp_meaning.specs.Clocking.Clocking.{AreOnce, AreDefined}
use Rattle.law_judged.specs.Named.Scoped.{Names, also, AreFresh, AreOwn, BlockScoped, EqnsScoped, EqnScoped, ArmsScoped, StatesScoped}
use Rattle.law_judged.proofs.NamedLemmas.Sets.{or_cases, or_left, or_right, false_if, both_true, first_true, second_false, same_name, name_same}
use Rattle.law_judged.specs.Replaced.Fitting.{DeclNames, BlockNames, EqnsNames, EqnNames, ArmsNames, StatesNames}
use Rattle.hp_expand.specs.Renaming.{renamed_decls, renamed_left, renamed_block, renamed_eqns, renamed_eqn, renamed_arms, renamed_states}

-- ---- declarations under other names

module _ (to : List ℕ → List ℕ) where
  pub renamed_there : (ds : List Decl) (x : List ℕ) → IsTrue (declares ds x) → IsTrue (declares (renamed_decls to ds) (to x))
  renamed_there [] x h = h
  renamed_there (d ∷ ds) x h =
      ⊎_elim (λ e. or_left (bytes_eq (to d.name) (to x)) (declares (renamed_decls to ds) (to x)) (name_same (to d.name) (to x) (ap to (same_name d.name x e))))
      (λ l. or_right (bytes_eq (to d.name) (to x)) (declares (renamed_decls to ds) (to x)) (renamed_there ds x l))
      (or_cases (bytes_eq d.name x) (declares ds x) h)

  abbrev pub Comes : List Decl → List ℕ → Type 0
  Comes ds y = (x : List ℕ) × IsTrue (declares ds x) × (to x ≡ y)

  pub renamed_back : (ds : List Decl) (y : List ℕ) → IsTrue (declares (renamed_decls to ds) y) → Comes ds y
  renamed_back [] y h = absurd (cc h)
  renamed_back (d ∷ ds) y h =
      ⊎_elim (λ e. here (same_name (to d.name) y e)) (λ l. there (renamed_back ds y l)) (or_cases (bytes_eq (to d.name) y) (declares (renamed_decls to ds) y) h)
    where
      here : to d.name ≡ y → Comes (d ∷ ds) y
      here e = (d.name, or_left (bytes_eq d.name d.name) (declares ds d.name) (name_same d.name d.name refl), e)

      there : Comes ds y → Comes (d ∷ ds) y
      there (x, l, e) = (x, or_right (bytes_eq d.name x) (declares ds x) l, e)

  -- No two of these names become one.
  pub once_renamed : (ds : List Decl) → ((x y : List ℕ) → IsTrue (declares ds x) → IsTrue (declares ds y) → to x ≡ to y → x ≡ y) → AreOnce ds → AreOnce (renamed_decls to ds)
  once_renamed [] inj o = tt
  once_renamed (d ∷ ds) inj o = (
    false_if (declares (renamed_decls to ds) (to d.name)) (λ h. twice (renamed_back ds (to d.name) h)),
    once_renamed ds (λ x y h l e. inj x y (or_right (bytes_eq d.name x) (declares ds x) h) (or_right (bytes_eq d.name y) (declares ds y) l) e) o.1,
  )
    where
      twice : Comes ds (to d.name) → ⊥
      twice (x, l, e) =
          let same : x ≡ d.name =
          inj x d.name (or_right (bytes_eq d.name x) (declares ds x) l) (or_left (bytes_eq d.name d.name) (declares ds d.name) (name_same d.name d.name refl)) e in
          absurd (cc (sym o.0, subst (λ z. IsTrue (declares ds z)) same l))

  abbrev pub LeftFrom : List (List ℕ × Span) → List ℕ → Type 0
  LeftFrom ys y = (x : List ℕ) × IsTrue (is_among ys x) × (to x ≡ y)

  pub left_back : (ys : List (List ℕ × Span)) (y : List ℕ) → IsTrue (is_among (renamed_left to ys) y) → LeftFrom ys y
  left_back [] y h = absurd (cc h)
  left_back (k ∷ ys) y h =
      ⊎_elim (λ e. here (same_name (to k.0) y e)) (λ l. there (left_back ys y l)) (or_cases (bytes_eq (to k.0) y) (is_among (renamed_left to ys) y) h)
    where
      here : to k.0 ≡ y → LeftFrom (k ∷ ys) y
      here e = (k.0, or_left (bytes_eq k.0 k.0) (is_among ys k.0) (name_same k.0 k.0 refl), e)

      there : LeftFrom ys y → LeftFrom (k ∷ ys) y
      there (x, l, e) = (x, or_right (bytes_eq k.0 x) (is_among ys x) l, e)

  pub left_there : (ys : List (List ℕ × Span)) (x : List ℕ) → IsTrue (is_among ys x) → IsTrue (is_among (renamed_left to ys) (to x))
  left_there [] x h = h
  left_there (k ∷ ys) x h =
      ⊎_elim (λ e. or_left (bytes_eq (to k.0) (to x)) (is_among (renamed_left to ys) (to x)) (name_same (to k.0) (to x) (ap to (same_name k.0 x e))))
      (λ l. or_right (bytes_eq (to k.0) (to x)) (is_among (renamed_left to ys) (to x)) (left_there ys x l))
      (or_cases (bytes_eq k.0 x) (is_among ys x) h)

  pub left_owned : (own more : Names) (ys : List (List ℕ × Span)) → ((x : List ℕ) → IsTrue (own x) → IsTrue (more (to x))) → AreOwn own ys → AreOwn more (renamed_left to ys)
  left_owned own more ys f o y h = by (left_back ys y h)
    where
      by : LeftFrom ys y → IsTrue (more y)
      by (x, l, e) = subst (λ z. IsTrue (more z)) e (f x (o x l))

-- ---- where the names that are said otherwise are such that no two become one

module _ (to : List ℕ → List ℕ) (P : List ℕ → Type 0) (inj : (x y : List ℕ) → P x → P y → to x ≡ to y → x ≡ y) where
  pub back_declared : (ds : List Decl) → DeclNames P ds → (x : List ℕ) → P x → IsTrue (declares (renamed_decls to ds) (to x)) → IsTrue (declares ds x)
  back_declared ds p x q h = by (renamed_back to ds (to x) h)
    where
      by : Comes to ds (to x) → IsTrue (declares ds x)
      by (y, l, e) = subst (λ z. IsTrue (declares ds z)) (inj y x (p y l) q e) l

  module _ (x : List ℕ) (q : P x) where
    mutual
      block_defines_renamed : (b : Block) → BlockNames P b → IsTrue (block_defines b x) → IsTrue (block_defines (renamed_block to b) (to x))
      block_defines_renamed (block ds es) p h =
          both_true (some_defines (renamed_eqns to es) (to x)) (declares (renamed_decls to ds) (to x)) (some_renamed es p.1 (first_true (some_defines es x) (declares ds x) h))
          (λ l. second_false (some_defines es x) (declares ds x) h (back_declared ds p.0 x q l))

      pub some_renamed : (es : Eqns) → EqnsNames P es → IsTrue (some_defines es x) → IsTrue (some_defines (renamed_eqns to es) (to x))
      some_renamed no_eqn p h = h
      some_renamed (more_eqns e es) p h =
          ⊎_elim (λ l. or_left (defines (renamed_eqn to e) (to x)) (some_defines (renamed_eqns to es) (to x)) (one_renamed e p.0 l))
          (λ l. or_right (defines (renamed_eqn to e) (to x)) (some_defines (renamed_eqns to es) (to x)) (some_renamed es p.1 l))
          (or_cases (defines e x) (some_defines es x) h)

      one_renamed : (e : Eqn) → EqnNames P e → IsTrue (defines e x) → IsTrue (defines (renamed_eqn to e) (to x))
      one_renamed (define s ys e) p h = left_there to ys x h
      one_renamed (switch s e arms) p h = arms_renamed arms p h
      one_renamed (reset s b e) p h = block_defines_renamed b p h
      one_renamed (automaton s ss) p h = states_renamed ss p h

      arms_renamed : (arms : Arms) → ArmsNames P arms → IsTrue (arms_define arms x) → IsTrue (arms_define (renamed_arms to arms) (to x))
      arms_renamed no_arm p h = h
      arms_renamed (more_arms c b s arms) p h =
          ⊎_elim (λ l. or_left (block_defines (renamed_block to b) (to x)) (arms_define (renamed_arms to arms) (to x)) (block_defines_renamed b p.0 l))
          (λ l. or_right (block_defines (renamed_block to b) (to x)) (arms_define (renamed_arms to arms) (to x)) (arms_renamed arms p.1 l))
          (or_cases (block_defines b x) (arms_define arms x) h)

      states_renamed : (ss : States) → StatesNames P ss → IsTrue (states_define ss x) → IsTrue (states_define (renamed_states to ss) (to x))
      states_renamed no_state p h = h
      states_renamed (more_states f b until unless s ss) p h =
          ⊎_elim (λ l. or_left (block_defines (renamed_block to b) (to x)) (states_define (renamed_states to ss) (to x)) (block_defines_renamed b p.0 l))
          (λ l. or_right (block_defines (renamed_block to b) (to x)) (states_define (renamed_states to ss) (to x)) (states_renamed ss p.1 l))
          (or_cases (block_defines b x) (states_define ss x) h)

  -- what is seen and to be defined, before and after
  pub record Says (seen own after owned : Names) : Type 0 where
    pub known : (x : List ℕ) → IsTrue (seen x) → P x
    pub back : (x : List ℕ) → P x → IsTrue (after (to x)) → IsTrue (seen x)
    pub owns : (x : List ℕ) → IsTrue (own x) → IsTrue (owned (to x))

  pub says_more : (seen own after owned : Names) (ds : List Decl) → DeclNames P ds → Says seen own after owned → Says (also seen ds) (also own ds) (also after (renamed_decls to ds)) (also owned (renamed_decls to ds))
  says_more seen own after owned ds p s = record {
    known = λ x h. ⊎_elim (λ l. p x l) (λ l. s.known x l) (or_cases (declares ds x) (seen x) h);
    back = λ x q h. ⊎_elim (λ l. or_left (declares ds x) (seen x) (back_declared ds p x q l)) (λ l. or_right (declares ds x) (seen x) (s.back x q l))
        (or_cases (declares (renamed_decls to ds) (to x)) (after (to x)) h);
    owns = λ x h. ⊎_elim (λ l. or_left (declares (renamed_decls to ds) (to x)) (owned (to x)) (renamed_there to ds x l))
        (λ l. or_right (declares (renamed_decls to ds) (to x)) (owned (to x)) (s.owns x l)) (or_cases (declares ds x) (own x) h);
  }

  pub fresh_renamed : (seen own after owned : Names) (ds : List Decl) → DeclNames P ds → Says seen own after owned → AreFresh seen ds → AreFresh after (renamed_decls to ds)
  fresh_renamed seen own after owned ds p s f y h l = by (renamed_back to ds y h)
    where
      by : Comes to ds y → ⊥
      by (x, k, e) = f x k (s.back x (p x k) (subst (λ z. IsTrue (after z)) (sym e) l))

  pub defined_renamed : (ds : List Decl) (es : Eqns) → DeclNames P ds → EqnsNames P es → AreDefined ds es → AreDefined (renamed_decls to ds) (renamed_eqns to es)
  defined_renamed ds es p q f y h = by (renamed_back to ds y h)
    where
      by : Comes to ds y → IsTrue (some_defines (renamed_eqns to es) y)
      by (x, k, e) = subst (λ z. IsTrue (some_defines (renamed_eqns to es) z)) e (some_renamed x (p x k) es q (f x k))

  mutual
    block_says : (seen own after owned : Names) (b : Block) → Says seen own after owned → BlockNames P b → BlockScoped seen own b → BlockScoped after owned (renamed_block to b)
    block_says seen own after owned (block ds es) k p s = (
      once_renamed to ds (λ x y h l e. inj x y (p.0 x h) (p.0 y l) e) s.0,
      fresh_renamed seen own after owned ds p.0 k s.1,
      defined_renamed ds es p.0 p.1 s.2,
      eqns_say (also seen ds) (also own ds) (also after (renamed_decls to ds)) (also owned (renamed_decls to ds)) es (says_more seen own after owned ds p.0 k) p.1 s.3,
    )

    pub eqns_say : (seen own after owned : Names) (es : Eqns) → Says seen own after owned → EqnsNames P es → EqnsScoped seen own es → EqnsScoped after owned (renamed_eqns to es)
    eqns_say seen own after owned no_eqn k p s = tt
    eqns_say seen own after owned (more_eqns e es) k p s = (eqn_says seen own after owned e k p.0 s.0, eqns_say seen own after owned es k p.1 s.1)

    eqn_says : (seen own after owned : Names) (e : Eqn) → Says seen own after owned → EqnNames P e → EqnScoped seen own e → EqnScoped after owned (renamed_eqn to e)
    eqn_says seen own after owned (define w ys e) k p s = left_owned to own owned ys k.owns s
    eqn_says seen own after owned (switch w e arms) k p s = arms_say seen own after owned arms k p s
    eqn_says seen own after owned (reset w b e) k p s = block_says seen own after owned b k p s
    eqn_says seen own after owned (automaton w ss) k p s = states_say seen own after owned ss k p s

    arms_say : (seen own after owned : Names) (arms : Arms) → Says seen own after owned → ArmsNames P arms → ArmsScoped seen own arms → ArmsScoped after owned (renamed_arms to arms)
    arms_say seen own after owned no_arm k p s = tt
    arms_say seen own after owned (more_arms c b w arms) k p s = (block_says seen own after owned b k p.0 s.0, arms_say seen own after owned arms k p.1 s.1)

    states_say : (seen own after owned : Names) (ss : States) → Says seen own after owned → StatesNames P ss → StatesScoped seen own ss → StatesScoped after owned (renamed_states to ss)
    states_say seen own after owned no_state k p s = tt
    states_say seen own after owned (more_states f b until unless w ss) k p s =
        (block_says seen own after owned b k p.0 s.0, states_say seen own after owned ss k p.1 s.1)

-- ---- each name is said otherwise

module _ (to : List ℕ → List ℕ) (P : List ℕ → Type 0) (f : (x : List ℕ) → P (to x)) where
  decls_named : (ds : List Decl) → DeclNames P (renamed_decls to ds)
  decls_named ds y h = by (renamed_back to ds y h)
    where
      by : Comes to ds y → P y
      by (x, l, e) = subst P e (f x)

  mutual
    block_named : (b : Block) → BlockNames P (renamed_block to b)
    block_named (block ds es) = (decls_named ds, all_named es)

    pub all_named : (es : Eqns) → EqnsNames P (renamed_eqns to es)
    all_named no_eqn = tt
    all_named (more_eqns e es) = (one_named e, all_named es)

    one_named : (e : Eqn) → EqnNames P (renamed_eqn to e)
    one_named (define s ys e) = tt
    one_named (switch s e arms) = arms_named arms
    one_named (reset s b e) = block_named b
    one_named (automaton s ss) = states_named ss

    arms_named : (arms : Arms) → ArmsNames P (renamed_arms to arms)
    arms_named no_arm = tt
    arms_named (more_arms c b s arms) = (block_named b, arms_named arms)

    states_named : (ss : States) → StatesNames P (renamed_states to ss)
    states_named no_state = tt
    states_named (more_states q b until unless s ss) = (block_named b, states_named ss)
