-- The equations of the states of an automaton are sound, where its words have their types.
use Rattle.std.proofs.Common.{◌≡◌, ℕ, ◌+◌, ◌<◌, ◌≤◌, ◌⊎◌, inl, inr, ⊎_elim, Bool, true, false, ◌||◌, ◌&&◌, nat_eq, nat_lt, if◌then◌else◌, List, [], ◌∷◌, ◌++◌, map, length, refl, sym, ap, ◌∙◌, subst, arith}
use Rattle.std.proofs.lemmas.Bool.Decides.{nat_tests}
use Rattle.std.specs.Prelude.{⊤, pos, IsTrue, Option, Some}
use Rattle.std.specs.Str.{bytes_eq}
use Rattle.hp_base.specs.declared.span.Span.{Span}
use Rattle.hp_base.specs.declared.ty.Ty.{Ty}
use Rattle.hp_base.specs.declared.ty.Ty.TheVariants as ty
use Rattle.hp_base.specs.declared.ty.Const.{Const}
use Rattle.hp_base.specs.declared.ty.Const.TheVariants as const
use Rattle.hp_tree.specs.declared.block.Trans.{Trans}
use Rattle.hp_tree.specs.declared.expr.Op2.TheVariants.{Or, Eq}
use Rattle.hp_tree.specs.Expressions.{Expr, constant, variable, last_of, one, two, choose, pre, fby, arrow, when_is, merge, call}
use Rattle.hp_tree.specs.Blocks.{Decl, Block, Eqns, Eqn, States, no_state, more_states, eqns_of}
use Rattle.hp_tree.specs.Programs.{TypeDecl, Node}
use Rattle.hp_tree.specs.Meaning.{declares, defines, some_defines, block_defines}
use Rattle.hp_base.specs.Known.Known.{lookup}
use Rattle.hp_typing.specs.Types.{type_of as typed_as, two_type, if_type, constant_type}
use Rattle.law_judged.specs.Named.Scopes.{Scope}
use Rattle.law_judged.proofs.NamedLemmas.Sets.{or_cases, or_left, or_right, same_name, name_same}
use Rattle.law_values.specs.Valued.Judged.{Lasts, ConstantIs, HaveOwnTypes, FirstSound, DeclsSound, ExprSound, RightSound, BlockSound, EqnsSound, EqnSound}
use Rattle.hp_automata.specs.declared.new_names.Word.{Word}
use Rattle.hp_automata.specs.declared.new_names.Word.TheVariants.{Jump, Next, From, On, Strong, Weak}
use Rattle.hp_automata.specs.NewNames.{word_name, state_word, transition_word, value_name}
use Rattle.hp_automata.specs.Names.{is_name}
use Rattle.hp_automata.specs.Renaming.{renamed}
use Rattle.hp_automata.specs.Lowering.{Types, Enumerations, some_constant, type_of, Frame, number, code, goes_to, link, jump_of, pending_of, transition_locals, chosen, choices, value_local, state_locals, locals_from, frame_locals, handed, idle_next, value_handed, joined, idle_value, idle, from_eqn, on_word, afresh, state_switch, strong_eqns, choosing_eqns, state_eqns, own_next, stays, weak_eqns, frame_eqns, count_of}
use Rattle.law_automata.specs.Lowered.Removable.{Plain}
use Rattle.law_automata.proofs.LoweredLemmas.Apart.{bytes_same}
use Rattle.law_automata.proofs.LoweredLemmas.Chains.{plain_link}
use Rattle.law_automata.proofs.LoweredLemmas.Lookups.{hands, idle_hands, mapped}
use Rattle.law_automata.proofs.LoweredLemmas.Plain.{plain_renamed}
use Rattle.law_automata.proofs.LoweredLemmas.Tests.{name_first, and_first, or_cases as either}

less_back : (k n : ℕ) → nat_lt k n ≡ true → k < n
less_back k n h = grind (arith, nat_tests)

equal_back : (k n : ℕ) → nat_eq k n ≡ true → k ≡ n
equal_back k n h = grind (arith, nat_tests)

more_back : (k n : ℕ) → nat_eq k n ≡ false → k ≤ n → k + 1 ≤ n
more_back k n h l = grind (arith, nat_tests)

no_more : (b : Bool) → (b || false) ≡ true → b ≡ true
no_more true h = refl
no_more false h = h

module _ (types : List TypeDecl) (among : List ℕ → Option Node) where
  -- ---- declarations that have their types

  own_first : (r : Scope) (ds es : List Decl) → HaveOwnTypes types among r (ds ++ es) → HaveOwnTypes types among r ds
  own_first r [] es h = tt
  own_first r (d ∷ ds) es h = (h.0, own_first r ds es h.1)

  pub own_last : (r : Scope) (ds es : List Decl) → HaveOwnTypes types among r (ds ++ es) → HaveOwnTypes types among r es
  own_last r [] es h = h
  own_last r (d ∷ ds) es h = own_last r ds es h.1

  -- first values of declarations
  abbrev pub Firsts : List Decl → Type 0
  Firsts [] = ⊤
  Firsts (d ∷ ds) = FirstSound types among d.ty d.last × Firsts ds

  pub firsts_both : (ds es : List Decl) → Firsts ds → Firsts es → Firsts (ds ++ es)
  firsts_both [] es h k = k
  firsts_both (d ∷ ds) es h k = (h.0, firsts_both ds es h.1 k)

  pub decls_sound : (r : Scope) (es : Eqns) (ds : List Decl) → HaveOwnTypes types among r ds → ((y : List ℕ) → declares ds y ≡ true → some_defines es y ≡ true) → Firsts ds → DeclsSound types among r es ds
  decls_sound r es [] o f h = tt
  decls_sound r es (d ∷ ds) o f h = (
    (o.0, (f d.name (or_left (bytes_eq d.name d.name) (declares ds d.name) (name_same d.name d.name refl)), h.0)),
    decls_sound r es ds o.1 (λ y q. f y (or_right (bytes_eq d.name y) (declares ds y) q)) h.1,
  )

  module _ (f : Frame) where
    transitions_first : (w : Word) (k j : ℕ) (ts : List Trans) → Firsts (transition_locals f w k j ts)
    transitions_first w k j [] = tt
    transitions_first w k j (t ∷ ts) = (tt, transitions_first w k (j + 1) ts)

    pub weak_first : (k : ℕ) (ts : List Trans) → Firsts (transition_locals f Weak k 0 ts)
    weak_first k ts = transitions_first Weak k 0 ts

    values_first : (tys : Types) (k : ℕ) (xs : List (List ℕ)) → Firsts (map (value_local tys f k) xs)
    values_first tys k [] = tt
    values_first tys k (x ∷ xs) = (tt, values_first tys k xs)

    locals_first : (tys : Types) (k : ℕ) (ss : States) → Firsts (locals_from tys f k ss)
    locals_first tys k no_state = tt
    locals_first tys k (more_states q b until unless at ss) =
        firsts_both (state_locals tys f k unless) (locals_from tys f (k + 1) ss)
        (tt, (tt, (tt, firsts_both (transition_locals f Strong k 0 unless) (map (value_local tys f k) f.names) (transitions_first Strong k 0 unless) (values_first tys k f.names)))) (locals_first tys (k + 1) ss)

    pub frame_first : (tys : Types) (ss : States) → Firsts (frame_locals tys f ss)
    frame_first tys ss = (tt, (tt, locals_first tys 0 ss))

    pub transition_typed : (r : Scope) (w : Word) (k j : ℕ) (ts : List Trans) → HaveOwnTypes types among r (transition_locals f w k j ts) → (i : ℕ) → j ≤ i → i < j + length ts → lookup r.variables (transition_word w f.depth k i) ≡ Some ty.Int
    transition_typed r w k j [] o i l m = absurd (omega (arith, l, m))
    transition_typed r w k j (t ∷ ts) o i l m = by (nat_eq j i) refl (λ g. transition_typed r w k (j + 1) ts o.1 i g (omega (arith, m)))
      where
        by : (b : Bool) → nat_eq j i ≡ b → (j + 1 ≤ i → lookup r.variables (transition_word w f.depth k i) ≡ Some ty.Int) → lookup r.variables (transition_word w f.depth k i) ≡ Some ty.Int
        by true e rest = subst (λ n. lookup r.variables (transition_word w f.depth k n) ≡ Some ty.Int) (equal_back j i e) o.0
        by false e rest = rest (more_back j i e l)

    value_typed : (r : Scope) (tys : Types) (k : ℕ) (xs : List (List ℕ)) → HaveOwnTypes types among r (map (value_local tys f k) xs) → (x : List ℕ) → is_name xs x ≡ true → lookup r.variables (value_name f.depth k x) ≡ Some (type_of tys x)
    value_typed r tys k [] o x h = absurd cc
    value_typed r tys k (z ∷ xs) o x h =
        ⊎_elim (λ e. subst (λ w. lookup r.variables (value_name f.depth k w) ≡ Some (type_of tys w)) (same_name z x e) o.0) (λ e. value_typed r tys k xs o.1 x e)
        (or_cases (bytes_eq z x) (is_name xs x) (sym (name_first z xs x) ∙ h))

    -- the words of one state
    pub record StateTyped (r : Scope) (tys : Types) (m : ℕ) : Type 0 where
      pub from : lookup r.variables (state_word From f.depth m) ≡ Some ty.Int
      pub on : lookup r.variables (state_word On f.depth m) ≡ Some ty.Bool
      pub next : lookup r.variables (state_word Next f.depth m) ≡ Some ty.Int
      pub values : (x : List ℕ) → is_name f.names x ≡ true → lookup r.variables (value_name f.depth m x) ≡ Some (type_of tys x)

    pub states_typed : (r : Scope) (tys : Types) (k : ℕ) (ss : States) → HaveOwnTypes types among r (locals_from tys f k ss) → (m : ℕ) → k ≤ m → m < k + count_of ss → StateTyped r tys m
    states_typed r tys k no_state o m l g = absurd (omega (arith, l, g))
    states_typed r tys k (more_states q b until unless at ss) o m l g = by (nat_eq k m) refl (λ p. states_typed r tys (k + 1) ss (own_last r (state_locals tys f k unless) (locals_from tys f (k + 1) ss) o) m p (omega (arith, g)))
      where
        first : HaveOwnTypes types among r (state_locals tys f k unless)
        first = own_first r (state_locals tys f k unless) (locals_from tys f (k + 1) ss) o

        here : StateTyped r tys k
        here = record {
          from = first.0;
          on = first.1.0;
          next = first.1.1.0;
          values = value_typed r tys k f.names (own_last r (transition_locals f Strong k 0 unless) (map (value_local tys f k) f.names) first.1.1.1);
        }

        by : (c : Bool) → nat_eq k m ≡ c → (k + 1 ≤ m → StateTyped r tys m) → StateTyped r tys m
        by true e rest = subst (StateTyped r tys) (equal_back k m e) here
        by false e rest = rest (more_back k m e l)

    pub strong_typed : (r : Scope) (tys : Types) (k : ℕ) (q : List ℕ) (b : Block) (until unless : List Trans) (at : Span) (ss : States) → HaveOwnTypes types among r (locals_from tys f k (more_states q b until unless at ss)) → HaveOwnTypes types among r (transition_locals f Strong k 0 unless)
    strong_typed r tys k q b until unless at ss o =
        own_first r (transition_locals f Strong k 0 unless) (map (value_local tys f k) f.names) (own_first r (state_locals tys f k unless) (locals_from tys f (k + 1) ss) o).1.1.1

  -- ---- equations in a list

  module _ (r : Scope) (lasts : Lasts) where
    abbrev pub Gives : Expr → Ty → Type 0
    Gives e t = ExprSound types among r lasts e × (typed_as r e ≡ Some t)

    abbrev pub ListSound : List Eqn → Type 0
    ListSound [] = ⊤
    ListSound (e ∷ es) = EqnSound types among r lasts e × ListSound es

    pub row_sound : (es : List Eqn) → ListSound es → EqnsSound types among r lasts (eqns_of es)
    row_sound [] h = tt
    row_sound (e ∷ es) h = (h.0, row_sound es h.1)

    pub both_sound : (es fs : List Eqn) → ListSound es → ListSound fs → ListSound (es ++ fs)
    both_sound [] fs h k = k
    both_sound (e ∷ es) fs h k = (h.0, both_sound es fs h.1 k)

    -- conditions under other names
    abbrev pub TestsGive : (List ℕ → List ℕ) → List Trans → Type 0
    TestsGive to [] = ⊤
    TestsGive to (t ∷ ts) = (Gives (renamed to t.cond) ty.Bool × Plain t.cond) × TestsGive to ts

    -- what is known of the words of an automaton
    module _ (enums : Enumerations) (tys : Types) (f : Frame) where
      pub record FrameTyped : Type 0 where
        pub next : lookup r.variables (word_name Next f.depth) ≡ Some ty.Int
        pub jump : lookup r.variables (word_name Jump f.depth) ≡ Some ty.Int
        pub last : IsTrue (lasts (word_name Next f.depth))
        pub states : (m : ℕ) → m < f.count → StateTyped f r tys m
        pub constants_of : (x : List ℕ) → is_name f.names x ≡ true → constant_type r (some_constant enums (type_of tys x)) ≡ Some (type_of tys x)

  -- ---- expressions of a type

  module _ (r : Scope) (lasts : Lasts) (constants : (c : Const) → ConstantIs types r c) where
    pub right_plain : (y : List ℕ) (s : Span) (e : Expr) (t : Ty) → Plain e → Gives r lasts e t → lookup r.variables y ≡ Some t → RightSound types among r lasts ((y, s) ∷ []) e
    right_plain y s (constant a c) t p h l = (h.0, (t, (h.1, (l, tt))))
    right_plain y s (variable a x) t p h l = (h.0, (t, (h.1, (l, tt))))
    right_plain y s (last_of a x) t p h l = (h.0, (t, (h.1, (l, tt))))
    right_plain y s (one a o b) t p h l = (h.0, (t, (h.1, (l, tt))))
    right_plain y s (two a o b c) t p h l = (h.0, (t, (h.1, (l, tt))))
    right_plain y s (choose a b c d) t p h l = (h.0, (t, (h.1, (l, tt))))
    right_plain y s (pre a b) t p h l = absurd p
    right_plain y s (fby a b c) t p h l = absurd p
    right_plain y s (arrow a b c) t p h l = absurd p
    right_plain y s (when_is a b c x) t p h l = absurd p
    right_plain y s (merge a x ps) t p h l = absurd p
    right_plain y s (call a f i es) t p h l = absurd p

    number_gives : (s : Span) (n : ℕ) → Gives r lasts (number s n) ty.Int
    number_gives s n = (constants (const.I (pos n)), refl)

    link_gives : (s : Span) (n : ℕ) (named : ℕ → List ℕ) (end : Expr) (k : ℕ) (t : Ty) → (k < n → lookup r.variables (named k) ≡ Some t) → Gives r lasts end t → Gives r lasts (link s n named end k) t
    link_gives s n named end k t h g = by (nat_lt k n) (λ q. h (less_back k n q))
      where
        by : (b : Bool) → (b ≡ true → lookup r.variables (named k) ≡ Some t) → Gives r lasts (if b then variable s (named k) else end) t
        by true p = (tt, p refl)
        by false p = g

    goes_gives : (s : Span) (e : Expr) (k : ℕ) → Gives r lasts e ty.Int → Gives r lasts (goes_to s e k) ty.Bool
    goes_gives s e k g =
        (((g.0, constants (const.I (pos (code k false)))), (g.0, constants (const.I (pos (code k true))))), ap (λ o. two_type Or (two_type Eq o (Some ty.Int)) (two_type Eq o (Some ty.Int))) g.1)

    choose_gives : (s : Span) (a b c : Expr) → Gives r lasts a ty.Bool → Gives r lasts b ty.Int → Gives r lasts c ty.Int → Gives r lasts (choose s a b c) ty.Int
    choose_gives s a b c g h i =
        ((g.0, (h.0, i.0)), ap (λ o. if_type o (typed_as r b) (typed_as r c)) g.1 ∙ (ap (λ o. if_type (Some ty.Bool) o (typed_as r c)) h.1 ∙ ap (λ o. if_type (Some ty.Bool) (Some ty.Int) o) i.1))

    choices_sound : (to : List ℕ → List ℕ) (f : Frame) (w : Word) (k n : ℕ) (end : Expr) (j : ℕ) (ts : List Trans) → n ≡ j + length ts → TestsGive r lasts to ts → Gives r lasts end ty.Int → Plain end
        → ((i : ℕ) → i < n → lookup r.variables (transition_word w f.depth k i) ≡ Some ty.Int) → ListSound r lasts (choices to f w k n end j ts)
    choices_sound to f w k n end j [] e g h p words = tt
    choices_sound to f w k n end j (t ∷ ts) e g h p words = (
      right_plain (transition_word w f.depth k j) f.at (choose f.at (renamed to t.cond) (number f.at (code (f.target t.target) t.restart)) (chosen f w k n end (j + 1))) ty.Int
          (plain_renamed to t.cond g.0.1, tt, plain_link f.at n (transition_word w f.depth k) end (j + 1) p)
          (choose_gives f.at (renamed to t.cond) (number f.at (code (f.target t.target) t.restart)) (chosen f w k n end (j + 1)) g.0.0 (number_gives f.at (code (f.target t.target) t.restart))
          (link_gives f.at n (transition_word w f.depth k) end (j + 1) ty.Int (words (j + 1)) h))
          (words j (omega (arith, e))),
      choices_sound to f w k n end (j + 1) ts (omega (arith, e)) g.1 h p words,
    )

    -- ---- the words of an automaton

    module _ (enums : Enumerations) (tys : Types) (f : Frame) where
      module _ (w : FrameTyped r lasts enums tys f) where
        pending_gives : Gives r lasts (pending_of f) ty.Int
        pending_gives = (w.last, w.next)

        handed_from : (k : ℕ) → Gives r lasts (handed f From (pending_of f) k) ty.Int
        handed_from k = link_gives f.at f.count (state_word From f.depth) (pending_of f) k ty.Int (λ l. (w.states k l).from) pending_gives

        handed_next : (k : ℕ) → Gives r lasts (handed f Next (number f.at 0) k) ty.Int
        handed_next k = link_gives f.at f.count (state_word Next f.depth) (number f.at 0) k ty.Int (λ l. (w.states k l).next) (number_gives f.at 0)

        value_gives : (k : ℕ) (x : List ℕ) → is_name f.names x ≡ true → Gives r lasts (value_handed enums tys f k x) (type_of tys x)
        value_gives k x h =
            link_gives f.at f.count (λ m. value_name f.depth m x) (constant f.at (some_constant enums (type_of tys x))) k (type_of tys x) (λ l. (w.states k l).values x h)
            (constants (some_constant enums (type_of tys x)), w.constants_of x h)

        value_plain : (k : ℕ) (x : List ℕ) → Plain (value_handed enums tys f k x)
        value_plain k x = plain_link f.at f.count (λ m. value_name f.depth m x) (constant f.at (some_constant enums (type_of tys x))) k tt

        -- what a state hands on has a type
        pub hands_known : (k : ℕ) → k < f.count → (y : List ℕ) → hands f k y ≡ true → (t : Ty) × (lookup r.variables y ≡ Some t)
        hands_known k l y h = by (either (bytes_eq (state_word Next f.depth k) y) (is_name (map (value_name f.depth k) f.names) y) h)
          where
            named : (xs : List (List ℕ)) → ((x : List ℕ) → is_name xs x ≡ true → is_name f.names x ≡ true) → is_name (map (value_name f.depth k) xs) y ≡ true → (t : Ty) × (lookup r.variables y ≡ Some t)
            named xs sub q = let m = mapped (value_name f.depth k) xs y q in (type_of tys m.0, subst (λ z. lookup r.variables z ≡ Some (type_of tys m.0)) (sym m.2) ((w.states k l).values m.0 (sub m.0 m.1)))

            by : (bytes_eq (state_word Next f.depth k) y ≡ true) ⊎ (is_name (map (value_name f.depth k) f.names) y ≡ true) → (t : Ty) × (lookup r.variables y ≡ Some t)
            by (inl q) = (ty.Int, subst (λ z. lookup r.variables z ≡ Some ty.Int) (same_name (state_word Next f.depth k) y q) (w.states k l).next)
            by (inr q) = named f.names (λ x p. p) q

        -- the equations of the automaton itself
        joined_sound : (to : List ℕ → List ℕ) → ((x : List ℕ) → is_name f.names x ≡ true → lookup r.variables (to x) ≡ Some (type_of tys x)) → (xs : List (List ℕ)) → ((x : List ℕ) → is_name xs x ≡ true → is_name f.names x ≡ true) → ListSound r lasts (map (joined enums to tys f) xs)
        joined_sound to own [] sub = tt
        joined_sound to own (x ∷ xs) sub =
            let mine : is_name f.names x ≡ true = sub x (name_first x xs x ∙ or_left (bytes_eq x x) (is_name xs x) (bytes_same x)) in
            (right_plain (to x) f.at (value_handed enums tys f 0 x) (type_of tys x) (value_plain 0 x) (value_gives 0 x mine) (own x mine), joined_sound to own xs (λ z q. sub z (name_first x xs z ∙ or_right (bytes_eq x z) (is_name xs z) q)))

        pub frame_sound : (to : List ℕ → List ℕ) → ((x : List ℕ) → is_name f.names x ≡ true → lookup r.variables (to x) ≡ Some (type_of tys x)) → ListSound r lasts (frame_eqns enums to tys f)
        frame_sound to own = (
          right_plain (word_name Jump f.depth) f.at (handed f From (pending_of f) 0) ty.Int (plain_link f.at f.count (state_word From f.depth) (pending_of f) 0 tt) (handed_from 0) w.jump,
          (
            right_plain (word_name Next f.depth) f.at (handed f Next (number f.at 0) 0) ty.Int (plain_link f.at f.count (state_word Next f.depth) (number f.at 0) 0 tt) (handed_next 0) w.next,
            joined_sound to own f.names (λ x q. q),
          ),
        )

        -- ---- one state

        idle_values : (k : ℕ) → k < f.count → (xs : List (List ℕ)) → ((x : List ℕ) → is_name xs x ≡ true → is_name f.names x ≡ true) → ListSound r lasts (map (idle_value enums tys f k) xs)
        idle_values k l [] sub = tt
        idle_values k l (x ∷ xs) sub =
            let mine : is_name f.names x ≡ true = sub x (name_first x xs x ∙ or_left (bytes_eq x x) (is_name xs x) (bytes_same x)) in (
              right_plain (value_name f.depth k x) f.at (value_handed enums tys f (k + 1) x) (type_of tys x) (value_plain (k + 1) x) (value_gives (k + 1) x mine) ((w.states k l).values x mine),
              idle_values k l xs (λ z q. sub z (name_first x xs z ∙ or_right (bytes_eq x z) (is_name xs z) q)),
            )

        idle_list : (k : ℕ) → k < f.count → ListSound r lasts (idle_next f k ∷ map (idle_value enums tys f k) f.names)
        idle_list k l = (
          right_plain (state_word Next f.depth k) f.at (handed f Next (number f.at 0) (k + 1)) ty.Int (plain_link f.at f.count (state_word Next f.depth) (number f.at 0) (k + 1) tt) (handed_next (k + 1)) (w.states k l).next,
          idle_values k l f.names (λ x q. q),
        )

        all_of : (b : Bool) → b ≡ true → (b && true) ≡ true
        all_of true h = refl
        all_of false h = absurd cc

        idle_sound : (k : ℕ) → k < f.count → BlockSound types among r lasts (idle enums tys f k)
        idle_sound k l =
            (tt, ((λ y h n. hands_known k l y (sym (idle_hands enums tys f k y) ∙ all_of (some_defines (eqns_of (idle_next f k ∷ map (idle_value enums tys f k) f.names)) y) h)), row_sound r lasts (idle_next f k ∷ map (idle_value enums tys f k) f.names) (idle_list k l)))

        module _ (to : List ℕ → List ℕ) (k : ℕ) (l : k < f.count) (unless : List Trans) (tests : TestsGive r lasts to unless) (strong : HaveOwnTypes types among r (transition_locals f Strong k 0 unless)) (body : Block) (sound : BlockSound types among r lasts body)
            (known : (y : List ℕ) → block_defines body y ≡ true → hands f k y ≡ true) (complete : (y : List ℕ) → hands f k y ≡ true → block_defines body y ≡ true) where
          words : (i : ℕ) → i < length unless → lookup r.variables (transition_word Strong f.depth k i) ≡ Some ty.Int
          words i m = transition_typed f r Strong k 0 unless strong i (omega arith) (omega (arith, m))

          from_sound : EqnSound types among r lasts (from_eqn f k Strong (length unless) (pending_of f))
          from_sound =
              right_plain (state_word From f.depth k) f.at (choose f.at (goes_to f.at (pending_of f) k) (chosen f Strong k (length unless) (pending_of f) 0) (handed f From (pending_of f) (k + 1))) ty.Int
              (((tt, tt), (tt, tt)), plain_link f.at (length unless) (transition_word Strong f.depth k) (pending_of f) 0 tt, plain_link f.at f.count (state_word From f.depth) (pending_of f) (k + 1) tt)
              (choose_gives f.at (goes_to f.at (pending_of f) k) (chosen f Strong k (length unless) (pending_of f) 0) (handed f From (pending_of f) (k + 1)) (goes_gives f.at (pending_of f) k pending_gives)
              (link_gives f.at (length unless) (transition_word Strong f.depth k) (pending_of f) 0 ty.Int (words 0) pending_gives) (handed_from (k + 1))) (w.states k l).from

          jump_gives : Gives r lasts (jump_of f) ty.Int
          jump_gives = (tt, w.jump)

          on_sound : EqnSound types among r lasts (on_word f k)
          on_sound = right_plain (state_word On f.depth k) f.at (goes_to f.at (jump_of f) k) ty.Bool ((tt, tt), (tt, tt)) (goes_gives f.at (jump_of f) k jump_gives) (w.states k l).on

          afresh_sound : EqnSound types among r lasts (afresh f k body)
          afresh_sound = (((tt, constants (const.I (pos (code k true)))), ap (λ o. two_type Eq o (Some ty.Int)) w.jump), sound)

          active_known : (y : List ℕ) → (block_defines body y || false) ≡ true → hands f k y ≡ true
          active_known y h = known y (no_more (block_defines body y) h)

          switch_hands : (y : List ℕ) → defines (state_switch f k body (idle enums tys f k)) y ≡ true → hands f k y ≡ true
          switch_hands y h = by (either ((block_defines body y || false) && true) (block_defines (idle enums tys f k) y || false) h)
            where
              by : (((block_defines body y || false) && true) ≡ true) ⊎ ((block_defines (idle enums tys f k) y || false) ≡ true) → hands f k y ≡ true
              by (inl q) = active_known y (and_first (block_defines body y || false) true q)
              by (inr q) = sym (idle_hands enums tys f k y) ∙ no_more (block_defines (idle enums tys f k) y) q

          active_defines : (y : List ℕ) → hands f k y ≡ true → ((block_defines body y || false) && true) ≡ true
          active_defines y h = by (block_defines body y) (complete y h)
            where
              by : (b : Bool) → b ≡ true → ((b || false) && true) ≡ true
              by true e = refl
              by false e = absurd cc

          switch_sound : EqnSound types among r lasts (state_switch f k body (idle enums tys f k))
          switch_sound = (
            tt,
            (
              (ty.Bool, ((w.states k l).on, (refl, refl))),
              (
                (λ y h. inl (active_defines y (switch_hands y h))),
                (
                  (tt, ((λ y h n. hands_known k l y (active_known y h)), (afresh_sound, tt))),
                  ((λ y h. inl (idle_hands enums tys f k y ∙ switch_hands y h)), (idle_sound k l, tt)),
                ),
              ),
            ),
          )

          pub state_sound : ListSound r lasts (state_eqns to f k unless body (idle enums tys f k))
          state_sound =
              both_sound r lasts (choosing_eqns to f k unless) (state_switch f k body (idle enums tys f k) ∷ [])
              (both_sound r lasts (strong_eqns to f k unless) (on_word f k ∷ [])
              (both_sound r lasts (choices to f Strong k (length unless) (pending_of f) 0 unless) (from_eqn f k Strong (length unless) (pending_of f) ∷ [])
              (choices_sound to f Strong k (length unless) (pending_of f) 0 unless (omega arith) tests pending_gives tt words) (from_sound, tt)) (on_sound, tt)) (switch_sound, tt)

    -- ---- the weak transitions of a state, in its body

    pub weak_sound : (to : List ℕ → List ℕ) (f : Frame) (k : ℕ) (until : List Trans) → TestsGive r lasts to until → HaveOwnTypes types among r (transition_locals f Weak k 0 until) → lookup r.variables (state_word Next f.depth k) ≡ Some ty.Int → ListSound r lasts (weak_eqns to f k until)
    weak_sound to f k until tests own next =
        let words : (i : ℕ) → i < length until → lookup r.variables (transition_word Weak f.depth k i) ≡ Some ty.Int = λ i m. transition_typed f r Weak k 0 until own i (omega arith) (omega (arith, m)) in
        let stay = number_gives f.at (code k false) in
        both_sound r lasts (choices to f Weak k (length until) (stays f k) 0 until) (own_next f k Weak (length until) (stays f k) ∷ [])
        (choices_sound to f Weak k (length until) (stays f k) 0 until (omega arith) tests stay tt words) (
          right_plain (state_word Next f.depth k) f.at (chosen f Weak k (length until) (stays f k) 0) ty.Int (plain_link f.at (length until) (transition_word Weak f.depth k) (stays f k) 0 tt)
              (link_gives f.at (length until) (transition_word Weak f.depth k) (stays f k) 0 ty.Int (words 0) stay) next,
          tt,
        )
