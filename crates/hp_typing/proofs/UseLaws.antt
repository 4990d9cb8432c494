-- How equations define a name, as it is computed and as the rules have it.
use Rattle.std.proofs.Common.{◌≡◌, ℕ, Bool, true, false, if◌then◌else◌, ◌⊎◌, inl, inr, List, [], ◌∷◌, refl, sym, ap, ◌∙◌}
use Rattle.std.specs.Str.{bytes_eq}
use Rattle.std.specs.Cmp.Lexicographic.{same_text, nat_list_eq_equiv}
use Rattle.hp_base.specs.declared.span.Span.{Span}
use Rattle.hp_tree.specs.declared.decl.Cons.{Cons}
use Rattle.hp_tree.specs.declared.block.Trans.{Trans}
use Rattle.hp_tree.specs.Blocks.{Block, block, Eqns, no_eqn, more_eqns, Eqn, define, switch, reset, automaton, Arms, no_arm, more_arms, States, no_state, more_states}
use Rattle.hp_typing.specs.declared.uses.Use.{Use}
use Rattle.hp_typing.specs.declared.uses.Use.TheVariants.{Never, Once, Partly, Twice}
use Rattle.hp_typing.specs.Definitions.{IsOn, IsAtMostOnceOn, Defines, SomeDefines, BlockDefines, SomeArmDefines, SomeStateDefines, EachArmDefines, EachStateDefines, DefineAtMostOnce, DefinesAtMostOnce, BlockDefinesAtMostOnce, ArmsDefineAtMostOnce, StatesDefineAtMostOnce, DefineWhole, DefinesWhole, BlockDefinesWhole, ArmsDefineWhole, StatesDefineWhole}
use Rattle.hp_typing.specs.Uses.{beside, between, only, among, use_on, use_in_eqns, use_in_eqn, use_in_block, uses_in_arms, uses_in_states}

-- A use says whether the name is defined (D), at most once in each block (O) and in each block of a control equation (W).
abbrev pub Says : Use → Type 0 → Type 0 → Type 0 → Type 0
Says Never D O W = (D → ⊥) × (O × W)
Says Once D O W = D × (O × W)
Says Partly D O W = D × (O × (W → ⊥))
Says Twice D O W = D × (O → ⊥)

-- of an equation and of those behind it
says_beside : (u v : Use) (D O W D' O' W' : Type 0) → Says u D O W → Says v D' O' W' → Says (beside u v) (D ⊎ D') (O × ((D → D' → ⊥) × O')) (W × W')
says_beside Never Never D O W D' O' W' a b = (λ h. elim h [ inl d ↦ a.0 d | inr d ↦ b.0 d ], ((a.1.0, (λ d e. b.0 e, b.1.0)), (a.1.1, b.1.1)))
says_beside Never Once D O W D' O' W' a b = (inr b.0, ((a.1.0, (λ d e. a.0 d, b.1.0)), (a.1.1, b.1.1)))
says_beside Never Partly D O W D' O' W' a b = (inr b.0, ((a.1.0, (λ d e. a.0 d, b.1.0)), λ h. b.1.1 h.1))
says_beside Never Twice D O W D' O' W' a b = (inr b.0, λ h. b.1 h.1.1)
says_beside Once Never D O W D' O' W' a b = (inl a.0, ((a.1.0, (λ d e. b.0 e, b.1.0)), (a.1.1, b.1.1)))
says_beside Once Once D O W D' O' W' a b = (inl a.0, λ h. h.1.0 a.0 b.0)
says_beside Once Partly D O W D' O' W' a b = (inl a.0, λ h. h.1.0 a.0 b.0)
says_beside Once Twice D O W D' O' W' a b = (inl a.0, λ h. h.1.0 a.0 b.0)
says_beside Partly Never D O W D' O' W' a b = (inl a.0, ((a.1.0, (λ d e. b.0 e, b.1.0)), λ h. a.1.1 h.0))
says_beside Partly Once D O W D' O' W' a b = (inl a.0, λ h. h.1.0 a.0 b.0)
says_beside Partly Partly D O W D' O' W' a b = (inl a.0, λ h. h.1.0 a.0 b.0)
says_beside Partly Twice D O W D' O' W' a b = (inl a.0, λ h. h.1.0 a.0 b.0)
says_beside Twice Never D O W D' O' W' a b = (inl a.0, λ h. a.1 h.0)
says_beside Twice Once D O W D' O' W' a b = (inl a.0, λ h. a.1 h.0)
says_beside Twice Partly D O W D' O' W' a b = (inl a.0, λ h. a.1 h.0)
says_beside Twice Twice D O W D' O' W' a b = (inl a.0, λ h. a.1 h.0)

-- The same of some blocks, one at least, where E says that each of them defines the name.
abbrev SaysAll : Use → Type 0 → Type 0 → Type 0 → Type 0 → Type 0
SaysAll Never D E O W = (D → ⊥) × ((E → ⊥) × (O × W))
SaysAll Once D E O W = D × (E × (O × W))
SaysAll Partly D E O W = D × (O × (E × W → ⊥))
SaysAll Twice D E O W = D × (O → ⊥)

says_one : (u : Use) (D O W : Type 0) → Says u D O W → SaysAll u (D ⊎ ⊥) (D × Unit {0}) (O × Unit {0}) (W × Unit {0})
says_one Never D O W a = (λ h. elim h [ inl d ↦ a.0 d | inr d ↦ d ], (λ h. a.0 h.0, ((a.1.0, tt), (a.1.1, tt))))
says_one Once D O W a = (inl a.0, ((a.0, tt), ((a.1.0, tt), (a.1.1, tt))))
says_one Partly D O W a = (inl a.0, ((a.1.0, tt), λ h. a.1.1 h.1.0))
says_one Twice D O W a = (inl a.0, λ h. a.1 h.0)

says_between : (u v : Use) (D O W D' E' O' W' : Type 0) → Says u D O W → SaysAll v D' E' O' W' → SaysAll (between u v) (D ⊎ D') (D × E') (O × O') (W × W')
says_between Never Never D O W D' E' O' W' a b =
    (λ h. elim h [ inl d ↦ a.0 d | inr d ↦ b.0 d ], (λ h. a.0 h.0, ((a.1.0, b.1.1.0), (a.1.1, b.1.1.1))))
says_between Never Once D O W D' E' O' W' a b = (inr b.0, ((a.1.0, b.1.1.0), λ h. a.0 h.0.0))
says_between Never Partly D O W D' E' O' W' a b = (inr b.0, ((a.1.0, b.1.0), λ h. a.0 h.0.0))
says_between Never Twice D O W D' E' O' W' a b = (inr b.0, λ h. b.1 h.1)
says_between Once Never D O W D' E' O' W' a b = (inl a.0, ((a.1.0, b.1.1.0), λ h. b.1.0 h.0.1))
says_between Once Once D O W D' E' O' W' a b = (inl a.0, ((a.0, b.1.0), ((a.1.0, b.1.1.0), (a.1.1, b.1.1.1))))
says_between Once Partly D O W D' E' O' W' a b = (inl a.0, ((a.1.0, b.1.0), λ h. b.1.1 (h.0.1, h.1.1)))
says_between Once Twice D O W D' E' O' W' a b = (inl a.0, λ h. b.1 h.1)
says_between Partly Never D O W D' E' O' W' a b = (inl a.0, ((a.1.0, b.1.1.0), λ h. a.1.1 h.1.0))
says_between Partly Once D O W D' E' O' W' a b = (inl a.0, ((a.1.0, b.1.1.0), λ h. a.1.1 h.1.0))
says_between Partly Partly D O W D' E' O' W' a b = (inl a.0, ((a.1.0, b.1.0), λ h. a.1.1 h.1.0))
says_between Partly Twice D O W D' E' O' W' a b = (inl a.0, λ h. b.1 h.1)
says_between Twice v D O W D' E' O' W' a b = (inl a.0, λ h. a.1 h.0)

says_whole : (u : Use) (D E O W : Type 0) → SaysAll u D E O W → Says u D O ((D → E) × W)
says_whole Never D E O W a = (a.0, (a.1.1.0, (λ d. absurd (a.0 d), a.1.1.1)))
says_whole Once D E O W a = (a.0, (a.1.1.0, (λ d. a.1.0, a.1.1.1)))
says_whole Partly D E O W a = (a.0, (a.1.0, λ h. a.1.1 (h.0 a.0, h.1)))
says_whole Twice D E O W a = a

-- ---- of a left side

says_name : (x : List ℕ) (y : List ℕ × Span) → Says (only y.0 x) (x ≡ y.0) (Unit {0}) (Unit {0})
says_name x y = by (bytes_eq y.0 x) refl
  where
    by : (d : Bool) → bytes_eq y.0 x ≡ d → Says (if d then Once else Never) (x ≡ y.0) (Unit {0}) (Unit {0})
    by true p = (sym (same_text y.0 x (sym p)), (tt, tt))
    by false p = (λ e. let r : bytes_eq y.0 y.0 ≡ true = nat_list_eq_equiv.refl y.0 in let s : bytes_eq y.0 y.0 ≡ false = ap (bytes_eq y.0) (sym e) ∙ p in cc, (tt, tt))

without_unit : (u : Use) (D O : Type 0) → Says u D (Unit {0} × O) (Unit {0} × Unit {0}) → Says u D O (Unit {0})
without_unit Never D O a = (a.0, (a.1.0.1, tt))
without_unit Once D O a = (a.0, (a.1.0.1, tt))
without_unit Partly D O a = absurd (a.1.1 (tt, tt))
without_unit Twice D O a = (a.0, λ h. a.1 (tt, h))

says_names : (x : List ℕ) (xs : List (List ℕ × Span)) → Says (use_on xs x) (IsOn xs x) (IsAtMostOnceOn xs x) (Unit {0})
says_names x [] = (λ h. h, (tt, tt))
says_names x (y ∷ ys) =
    without_unit (beside (only y.0 x) (use_on ys x)) (IsOn (y ∷ ys) x) (IsAtMostOnceOn (y ∷ ys) x)
    (says_beside (only y.0 x) (use_on ys x) (x ≡ y.0) (Unit {0}) (Unit {0}) (IsOn ys x) (IsAtMostOnceOn ys x) (Unit {0}) (says_name x y) (says_names x ys))

-- ---- of the blocks of a control equation

abbrev OfArms : Arms → List ℕ → Type 0
OfArms no_arm x = Unit {0}
OfArms (more_arms c b at arms) x =
    SaysAll (among (uses_in_arms (more_arms c b at arms)) x) (SomeArmDefines (more_arms c b at arms) x) (EachArmDefines (more_arms c b at arms) x)
    (ArmsDefineAtMostOnce (more_arms c b at arms) x) (ArmsDefineWhole (more_arms c b at arms) x)

abbrev OfStates : States → List ℕ → Type 0
OfStates no_state x = Unit {0}
OfStates (more_states y b until unless at qs) x =
    SaysAll (among (uses_in_states (more_states y b until unless at qs)) x) (SomeStateDefines (more_states y b until unless at qs) x)
    (EachStateDefines (more_states y b until unless at qs) x) (StatesDefineAtMostOnce (more_states y b until unless at qs) x) (StatesDefineWhole (more_states y b until unless at qs) x)

module _ (b : Block) (x : List ℕ) (head : Says (use_in_block b x) (BlockDefines b x) (BlockDefinesAtMostOnce b x) (BlockDefinesWhole b x)) where
  one_arm : (c : Cons) (at : Span) (arms : Arms) → OfArms arms x → OfArms (more_arms c b at arms) x
  one_arm c at no_arm a = says_one (use_in_block b x) (BlockDefines b x) (BlockDefinesAtMostOnce b x) (BlockDefinesWhole b x) head
  one_arm c at (more_arms d b' place arms) a =
      let more = more_arms d b' place arms in
      says_between (use_in_block b x) (among (uses_in_arms more) x) (BlockDefines b x) (BlockDefinesAtMostOnce b x) (BlockDefinesWhole b x)
      (SomeArmDefines more x) (EachArmDefines more x) (ArmsDefineAtMostOnce more x) (ArmsDefineWhole more x) head a

  one_state : (y : List ℕ) (until unless : List Trans) (at : Span) (qs : States) → OfStates qs x → OfStates (more_states y b until unless at qs) x
  one_state y until unless at no_state a = says_one (use_in_block b x) (BlockDefines b x) (BlockDefinesAtMostOnce b x) (BlockDefinesWhole b x) head
  one_state y until unless at (more_states z b' u v place qs) a =
      let more = more_states z b' u v place qs in
      says_between (use_in_block b x) (among (uses_in_states more) x) (BlockDefines b x) (BlockDefinesAtMostOnce b x) (BlockDefinesWhole b x)
      (SomeStateDefines more x) (EachStateDefines more x) (StatesDefineAtMostOnce more x) (StatesDefineWhole more x) head a

whole_arms : (arms : Arms) (x : List ℕ) → OfArms arms x
    → Says (among (uses_in_arms arms) x) (SomeArmDefines arms x) (ArmsDefineAtMostOnce arms x) ((SomeArmDefines arms x → EachArmDefines arms x) × ArmsDefineWhole arms x)
whole_arms no_arm x a = (λ h. h, (tt, (λ h. tt, tt)))
whole_arms (more_arms c b at arms) x a =
    let all = more_arms c b at arms in
    says_whole (among (uses_in_arms all) x) (SomeArmDefines all x) (EachArmDefines all x) (ArmsDefineAtMostOnce all x) (ArmsDefineWhole all x) a

whole_states : (qs : States) (x : List ℕ) → OfStates qs x
    → Says (among (uses_in_states qs) x) (SomeStateDefines qs x) (StatesDefineAtMostOnce qs x) ((SomeStateDefines qs x → EachStateDefines qs x) × StatesDefineWhole qs x)
whole_states no_state x a = (λ h. h, (tt, (λ h. tt, tt)))
whole_states (more_states y b until unless at qs) x a =
    let all = more_states y b until unless at qs in
    says_whole (among (uses_in_states all) x) (SomeStateDefines all x) (EachStateDefines all x) (StatesDefineAtMostOnce all x) (StatesDefineWhole all x) a

-- ---- of equations

mutual
  pub says_eqns : (es : Eqns) (x : List ℕ) → Says (use_in_eqns es x) (SomeDefines es x) (DefineAtMostOnce es x) (DefineWhole es x)
  says_eqns no_eqn x = (λ h. h, (tt, tt))
  says_eqns (more_eqns e es) x =
      says_beside (use_in_eqn e x) (use_in_eqns es x) (Defines e x) (DefinesAtMostOnce e x) (DefinesWhole e x) (SomeDefines es x) (DefineAtMostOnce es x) (DefineWhole es x)
      (says_eqn e x) (says_eqns es x)

  says_eqn : (e : Eqn) (x : List ℕ) → Says (use_in_eqn e x) (Defines e x) (DefinesAtMostOnce e x) (DefinesWhole e x)
  says_eqn (define at xs e) x = says_names x xs
  says_eqn (switch at e arms) x = whole_arms arms x (says_arms arms x)
  says_eqn (reset at b e) x = says_block b x
  says_eqn (automaton at qs) x = whole_states qs x (says_states qs x)

  says_block : (b : Block) (x : List ℕ) → Says (use_in_block b x) (BlockDefines b x) (BlockDefinesAtMostOnce b x) (BlockDefinesWhole b x)
  says_block (block ds es) x = says_eqns es x

  says_arms : (arms : Arms) (x : List ℕ) → OfArms arms x
  says_arms no_arm x = tt
  says_arms (more_arms c b at arms) x = one_arm b x (says_block b x) c at arms (says_arms arms x)

  says_states : (qs : States) (x : List ℕ) → OfStates qs x
  says_states no_state x = tt
  says_states (more_states y b until unless at qs) x = one_state b x (says_block b x) y until unless at qs (says_states qs x)
