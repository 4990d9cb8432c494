-- The equations over the words of an automaton are First, where its conditions are.
use Rattle.std.proofs.Common.{◌≡◌, ℕ, ◌+◌, ◌<◌, ◌≤◌, ◌⊎◌, inl, inr, nat_lt, Bool, true, false, ◌&&◌, ◌||◌, not, if◌then◌else◌, List, [], ◌∷◌, map, length, refl, sym, ◌∙◌, subst, arith}
use Rattle.std.proofs.lemmas.Bool.Decides.{nat_tests}
use Rattle.std.specs.Prelude.{IsTrue, IsFalse}
use Rattle.std.specs.Str.{bytes_eq}
use Rattle.hp_base.specs.declared.span.Span.{Span}
use Rattle.hp_tree.specs.declared.block.Trans.{Trans}
use Rattle.hp_tree.specs.declared.expr.Op2.{Op2}
use Rattle.hp_tree.specs.declared.expr.Op2.TheVariants.{Or, Eq}
use Rattle.hp_tree.specs.Expressions.{Expr, constant, variable, two, choose}
use Rattle.hp_tree.specs.Blocks.{Decl, Block, no_eqn, more_eqns, eqns_of}
use Rattle.hp_tree.specs.Meaning.{some_defines, block_defines}
use Rattle.hp_init.specs.Classes.{Assignment, is_second, Known, known_within}
use Rattle.hp_init.specs.Wants.{is_met, is_first}
use Rattle.law_values.specs.Valued.Classed.{none_second, OthersFirst}
use Rattle.hp_automata.specs.declared.new_names.Word.{Word}
use Rattle.hp_automata.specs.declared.new_names.Word.TheVariants.{Jump, Next, From, On, Strong, Weak}
use Rattle.hp_automata.specs.NewNames.{word_name, state_word, transition_word, value_name}
use Rattle.hp_automata.specs.Names.{is_name}
use Rattle.hp_automata.specs.Renaming.{renamed}
use Rattle.hp_automata.specs.Lowering.{Types, Enumerations, some_constant, type_of, Frame, number, code, goes_to, link, jump_of, pending_of, chosen, choices, handed, idle_next, value_handed, joined, idle_value, idle, from_eqn, on_word, afresh, state_switch, strong_eqns, choosing_eqns, state_eqns, own_next, stays, weak_eqns, frame_eqns}
use Rattle.law_automata.specs.Lowered.OldNames.{IsOld}
use Rattle.law_automata.specs.Lowered.Removable.{most}
use Rattle.law_automata.proofs.LoweredLemmas.Apart.{same_bytes, bytes_same, new_is_new}
use Rattle.law_automata.proofs.LoweredLemmas.Lookups.{hands, idle_hands, mapped}
use Rattle.law_automata.proofs.LoweredLemmas.Spelling.{word, of_state, of_transition, value}
use Rattle.law_automata.proofs.LoweredLemmas.Tests.{or_left, or_right, or_none, or_cases, and_first, and_both, name_first}
use Rattle.law_automata.specs.Classed.Good.{BlockGood, known_of, no_class, in_block, in_row, in_body, in_arms}
use Rattle.law_automata.specs.Classed.Relates.{NewFirst}
use Rattle.law_automata.proofs.ClassedLemmas.Expressions.{TestsGive}
use Rattle.law_automata.proofs.ClassedLemmas.Places.{new_within, new_in}
use Rattle.law_automata.proofs.ClassedLemmas.Rows.{Gives, AllGive, both_give, first_gives, block_gives}

less_back : (k n : ℕ) → nat_lt k n ≡ true → k < n
less_back k n h = grind (arith, nat_tests)

no_more : (b : Bool) → (b || false) ≡ true → b ≡ true
no_more true h = refl
no_more false h = h

not_of : (b : Bool) → IsFalse b → IsTrue (not b)
not_of true h = absurd cc
not_of false h = refl

first_part : (a b : Bool) → IsTrue (a && not b) → IsFalse b
first_part true true h = absurd cc
first_part true false h = refl
first_part false b h = absurd cc

-- ---- expressions that are First

module _ (k : Known) (n : NewFirst k) where
  -- what an expression wants is First, and so is it
  abbrev pub First : Expr → Type 0
  First e = IsTrue (is_met k.values e) × IsFalse (is_second k.values e)

  word_first : (s : Span) (y : List ℕ) → (IsOld y → ⊥) → First (variable s y)
  word_first s y h = (refl, n.values y h)

  two_first : (s : Span) (o : Op2) (a b : Expr) → First a → First b → First (two s o a b)
  two_first s o a b g h = (and_both (is_met k.values a) (is_met k.values b) g.0 h.0, or_none (is_second k.values a) (is_second k.values b) g.1 h.1)

  choose_first : (s : Span) (a b c : Expr) → First a → First b → First c → First (choose s a b c)
  choose_first s a b c g h i = (
    and_both (is_met k.values a) (is_met k.values b && is_met k.values c) g.0 (and_both (is_met k.values b) (is_met k.values c) h.0 i.0),
    or_none (is_second k.values a) (is_second k.values b || is_second k.values c) g.1 (or_none (is_second k.values b) (is_second k.values c) h.1 i.1),
  )

  test_first : (e : Expr) → IsTrue (is_first k.values e) → First e
  test_first e h = (and_first (is_met k.values e) (not (is_second k.values e)) h, first_part (is_met k.values e) (is_second k.values e) h)

  pub first_test : (e : Expr) → First e → IsTrue (is_first k.values e)
  first_test e h = and_both (is_met k.values e) (not (is_second k.values e)) h.0 (not_of (is_second k.values e) h.1)

  link_first : (s : Span) (m : ℕ) (named : ℕ → List ℕ) (end : Expr) (j : ℕ) → (j < m → IsOld (named j) → ⊥) → First end → First (link s m named end j)
  link_first s m named end j h g = by (nat_lt j m) (λ q. h (less_back j m q))
    where
      by : (b : Bool) → (b ≡ true → IsOld (named j) → ⊥) → First (if b then variable s (named j) else end)
      by true p = word_first s (named j) (p refl)
      by false p = g

  goes_first : (s : Span) (e : Expr) (j : ℕ) → First e → First (goes_to s e j)
  goes_first s e j h =
      two_first s Or (two s Eq e (number s (code j false))) (two s Eq e (number s (code j true))) (two_first s Eq e (number s (code j false)) h (refl, refl)) (two_first s Eq e (number s (code j true)) h (refl, refl))

  module _ (ds : List Decl) (f : Frame) where
    -- ---- transitions

    module _ (to : List ℕ → List ℕ) (w : Word) (i : ℕ) (room : i < most) (m : ℕ) (few : m ≤ most) (end : Expr) (last : First end) where
      chosen_first : (j : ℕ) → First (chosen f w i m end j)
      chosen_first j = link_first f.at m (transition_word w f.depth i) end j (λ l. new_is_new f.depth (of_transition w i j) (room, omega (arith, l, few))) last

      choices_give : (j : ℕ) (ts : List Trans) → TestsGive k.values to ts → AllGive k ds (choices to f w i m end j ts)
      choices_give j [] h = tt
      choices_give j (t ∷ ts) h =
          let e = first_choice j t h.0 in
          (first_gives k ds f.at ((transition_word w f.depth i j, f.at) ∷ []) (choose f.at (renamed to t.cond) (number f.at (code (f.target t.target) t.restart)) (chosen f w i m end (j + 1))) e.0 e.1, choices_give (j + 1) ts h.1)
        where
          first_choice : (j : ℕ) (t : Trans) → IsTrue (is_first k.values (renamed to t.cond)) → First (choose f.at (renamed to t.cond) (number f.at (code (f.target t.target) t.restart)) (chosen f w i m end (j + 1)))
          first_choice j t q =
              choose_first f.at (renamed to t.cond) (number f.at (code (f.target t.target) t.restart)) (chosen f w i m end (j + 1)) (test_first (renamed to t.cond) q) (refl, refl) (chosen_first (j + 1))

    pub weak_give : (to : List ℕ → List ℕ) (i : ℕ) → i < most → (until : List Trans) → length until < most → TestsGive k.values to until → AllGive k ds (weak_eqns to f i until)
    weak_give to i room until few h =
        let next = chosen_first to Weak i room (length until) (omega (arith, few)) (stays f i) (refl, refl) 0 in
        both_give k ds (choices to f Weak i (length until) (stays f i) 0 until) (own_next f i Weak (length until) (stays f i) ∷ []) (choices_give to Weak i room (length until) (omega (arith, few)) (stays f i) (refl, refl) 0 until h)
        (first_gives k ds f.at ((state_word Next f.depth i, f.at) ∷ []) (chosen f Weak i (length until) (stays f i) 0) next.0 next.1, tt)

    -- ---- what states hand on

    module _ (enums : Enumerations) (tys : Types) (few : f.count ≤ most) (old : (x : List ℕ) → is_name f.names x ≡ true → IsOld x) where
      handed_first : (w : Word) (end : Expr) (j : ℕ) → First end → First (handed f w end j)
      handed_first w end j h = link_first f.at f.count (state_word w f.depth) end j (λ l. new_is_new f.depth (of_state w j) (omega (arith, l, few))) h

      value_first : (x : List ℕ) → is_name f.names x ≡ true → (j : ℕ) → First (value_handed enums tys f j x)
      value_first x q j =
          link_first f.at f.count (λ m. value_name f.depth m x) (constant f.at (some_constant enums (type_of tys x))) j (λ l. new_is_new f.depth (value j x) (omega (arith, l, few), old x q)) (refl, refl)

      joined_give : (to : List ℕ → List ℕ) (xs : List (List ℕ)) → ((x : List ℕ) → is_name xs x ≡ true → is_name f.names x ≡ true) → AllGive k ds (map (joined enums to tys f) xs)
      joined_give to [] sub = tt
      joined_give to (x ∷ xs) sub =
          let e = value_first x (sub x (name_first x xs x ∙ or_left (bytes_eq x x) (is_name xs x) (bytes_same x))) 0 in
          (first_gives k ds f.at ((to x, f.at) ∷ []) (value_handed enums tys f 0 x) e.0 e.1, joined_give to xs (λ z q. sub z (name_first x xs z ∙ or_right (bytes_eq x z) (is_name xs z) q)))

      pub frame_give : (to : List ℕ → List ℕ) → AllGive k ds (frame_eqns enums to tys f)
      frame_give to =
          let jump = handed_first From (pending_of f) 0 (refl, refl) in
          let next = handed_first Next (number f.at 0) 0 (refl, refl) in (
            first_gives k ds f.at ((word_name Jump f.depth, f.at) ∷ []) (handed f From (pending_of f) 0) jump.0 jump.1,
            (first_gives k ds f.at ((word_name Next f.depth, f.at) ∷ []) (handed f Next (number f.at 0) 0) next.0 next.1, joined_give to f.names (λ x q. q)),
          )

      idle_values : (i : ℕ) (xs : List (List ℕ)) → ((x : List ℕ) → is_name xs x ≡ true → is_name f.names x ≡ true) → AllGive k ds (map (idle_value enums tys f i) xs)
      idle_values i [] sub = tt
      idle_values i (x ∷ xs) sub =
          let e = value_first x (sub x (name_first x xs x ∙ or_left (bytes_eq x x) (is_name xs x) (bytes_same x))) (i + 1) in
          (first_gives k ds f.at ((value_name f.depth i x, f.at) ∷ []) (value_handed enums tys f (i + 1) x) e.0 e.1, idle_values i xs (λ z q. sub z (name_first x xs z ∙ or_right (bytes_eq x z) (is_name xs z) q)))

      pub idle_give : (i : ℕ) → AllGive k ds (idle_next f i ∷ map (idle_value enums tys f i) f.names)
      idle_give i =
          let next = handed_first Next (number f.at 0) (i + 1) (refl, refl) in
          (first_gives k ds f.at ((state_word Next f.depth i, f.at) ∷ []) (handed f Next (number f.at 0) (i + 1)) next.0 next.1, idle_values i f.names (λ x q. q))

      -- the words of one state
      pub choosing_give : (to : List ℕ → List ℕ) (i : ℕ) → i < most → (unless : List Trans) → length unless < most → TestsGive k.values to unless → AllGive k ds (choosing_eqns to f i unless)
      choosing_give to i room unless short h =
          let from = choose_first f.at (goes_to f.at (pending_of f) i) (chosen f Strong i (length unless) (pending_of f) 0) (handed f From (pending_of f) (i + 1)) (goes_first f.at (pending_of f) i (refl, refl))
          (chosen_first to Strong i room (length unless) (omega (arith, short)) (pending_of f) (refl, refl) 0) (handed_first From (pending_of f) (i + 1) (refl, refl)) in
          let on = goes_first f.at (jump_of f) i (word_first f.at (word_name Jump f.depth) (new_is_new f.depth (word Jump) tt)) in
          both_give k ds (strong_eqns to f i unless) (on_word f i ∷ [])
          (both_give k ds (choices to f Strong i (length unless) (pending_of f) 0 unless) (from_eqn f i Strong (length unless) (pending_of f) ∷ [])
          (choices_give to Strong i room (length unless) (omega (arith, short)) (pending_of f) (refl, refl) 0 unless h) (
            first_gives k ds f.at ((state_word From f.depth i, f.at) ∷ []) (choose f.at (goes_to f.at (pending_of f) i) (chosen f Strong i (length unless) (pending_of f) 0) (handed f From (pending_of f) (i + 1))) from.0 from.1,
            tt,
          ))
          (first_gives k ds f.at ((state_word On f.depth i, f.at) ∷ []) (goes_to f.at (jump_of f) i) on.0 on.1, tt)

-- ---- a state, whose body has right classes

-- what a state hands on is new
pub hands_new : (f : Frame) → ((x : List ℕ) → is_name f.names x ≡ true → IsOld x) → (i : ℕ) → i < most → (y : List ℕ) → hands f i y ≡ true → IsOld y → ⊥
hands_new f old i room y h = by (or_cases (bytes_eq (state_word Next f.depth i) y) (is_name (map (value_name f.depth i) f.names) y) h)
  where
    by : (bytes_eq (state_word Next f.depth i) y ≡ true) ⊎ (is_name (map (value_name f.depth i) f.names) y ≡ true) → IsOld y → ⊥
    by (inl q) o = new_is_new f.depth (of_state Next i) room (subst IsOld (sym (same_bytes (state_word Next f.depth i) y q)) o)
    by (inr q) o = let m = mapped (value_name f.depth i) f.names y q in new_is_new f.depth (value i m.0) (room, old m.0 m.1) (subst IsOld m.2 o)

-- where the body of a state stands: inside the switch over the states, and afresh
abbrev pub in_arm : Frame → ℕ → Block → Block → Known → Known
in_arm f i body other k = known_of [] (more_eqns (afresh f i body) no_eqn) none_second (known_within (state_switch f i body other) k)

abbrev pub in_state : Frame → ℕ → Block → Block → Known → Known
in_state f i body other k = known_within (afresh f i body) (in_arm f i body other k)

pub arm_new : (f : Frame) (i : ℕ) (body other : Block) (k : Known) → NewFirst k → NewFirst (in_arm f i body other k)
arm_new f i body other k n = new_in [] (more_eqns (afresh f i body) no_eqn) none_second (known_within (state_switch f i body other) k) (λ y q. refl) (new_within (state_switch f i body other) k n)

module _ (enums : Enumerations) (tys : Types) (f : Frame) (few : f.count ≤ most) (old : (x : List ℕ) → is_name f.names x ≡ true → IsOld x) (k : Known) (n : NewFirst k) (ds : List Decl) (i : ℕ) (room : i < most) (body : Block)
    (known : (y : List ℕ) → block_defines body y ≡ true → hands f i y ≡ true) (good : (class : Assignment) × BlockGood (in_state f i body (idle enums tys f i) k) class body) where
  abbrev other : Block
  other = idle enums tys f i

  abbrev arm : Known
  arm = known_within (state_switch f i body other) k

  arm_first : NewFirst arm
  arm_first = new_within (state_switch f i body other) k n

  active_first : OthersFirst arm [] (more_eqns (afresh f i body) no_eqn)
  active_first y h q = arm_first.variables y (hands_new f old i room y (known y (no_more (block_defines body y) h)))

  idle_first : OthersFirst arm [] (eqns_of (idle_next f i ∷ map (idle_value enums tys f i) f.names))
  idle_first y h q = arm_first.variables y (hands_new f old i room y (sym (idle_hands enums tys f i y) ∙ with_true (some_defines (eqns_of (idle_next f i ∷ map (idle_value enums tys f i) f.names)) y) h))
    where
      with_true : (b : Bool) → b ≡ true → (b && true) ≡ true
      with_true true e = refl
      with_true false e = absurd cc

  fresh_first : IsTrue (is_first (in_arm f i body other k).values (two f.at Eq (jump_of f) (number f.at (code i true))))
  fresh_first =
      let w = arm_new f i body other k n in
      first_test (in_arm f i body other k) w (two f.at Eq (jump_of f) (number f.at (code i true)))
      (two_first (in_arm f i body other k) w f.at Eq (jump_of f) (number f.at (code i true)) (word_first (in_arm f i body other k) w f.at (word_name Jump f.depth) (new_is_new f.depth (word Jump) tt)) (refl, refl))

  pub switch_gives : Gives k ds (state_switch f i body other)
  switch_gives =
      let active = block_gives arm [] (afresh f i body ∷ []) none_second (λ c. tt) active_first tt ((in_body good.0, (fresh_first, good.1)), tt) in
      let waiting = known_of [] (eqns_of (idle_next f i ∷ map (idle_value enums tys f i) f.names)) none_second arm in
      let waits = block_gives arm [] (idle_next f i ∷ map (idle_value enums tys f i) f.names) none_second (λ c. tt) idle_first tt
      (idle_give waiting (new_in [] (eqns_of (idle_next f i ∷ map (idle_value enums tys f i) f.names)) none_second arm (λ y q. refl) arm_first) [] f enums tys few old i) in (
        in_arms (in_row (in_block none_second active.0) (in_row (in_block none_second waits.0) no_class)),
        (first_test k n (variable f.at (state_word On f.depth i)) (word_first k n f.at (state_word On f.depth i) (new_is_new f.depth (of_state On i) room)), (active.1, (waits.1, tt))),
      )

  pub state_gives : (to : List ℕ → List ℕ) (unless : List Trans) → length unless < most → TestsGive k.values to unless → AllGive k ds (state_eqns to f i unless body other)
  state_gives to unless short tests =
      both_give k ds (choosing_eqns to f i unless) (state_switch f i body other ∷ []) (choosing_give k n ds f enums tys few old to i room unless short tests) (switch_gives, tt)
