-- Which equations define a name, and which constructors a `switch` or a `merge` names.
use Rattle.std.specs.Prelude.{◌≡◌, ℕ, Bool, true, false, ◌⊎◌, List, [], ◌∷◌, count_by}
use Rattle.std.specs.Str.{bytes_eq}
use Rattle.hp_base.specs.declared.span.Span.{Span}
use Rattle.hp_tree.specs.declared.decl.Cons.{Cons}
use Rattle.hp_tree.specs.declared.decl.Cons.TheVariants as cons
use Rattle.hp_tree.specs.Blocks.{Block, block, Eqns, no_eqn, more_eqns, Eqn, define, switch, reset, automaton, Arms, no_arm, more_arms, States, no_state, more_states}

-- The name stands on a left side.
abbrev pub IsOn : List (List ℕ × Span) → List ℕ → Type 0
IsOn [] x = ⊥
IsOn (y ∷ ys) x = (x ≡ y.0) ⊎ IsOn ys x

-- It does not stand there twice.
abbrev pub IsAtMostOnceOn : List (List ℕ × Span) → List ℕ → Type 0
IsAtMostOnceOn [] x = Unit {0}
IsAtMostOnceOn (y ∷ ys) x = (x ≡ y.0 → IsOn ys x → ⊥) × IsAtMostOnceOn ys x

abbrev mutual
  -- An equation defines the name: it has it on its left side, or one of its blocks defines it.
  pub Defines : Eqn → List ℕ → Type 0
  Defines (define at xs e) x = IsOn xs x
  Defines (switch at e arms) x = SomeArmDefines arms x
  Defines (reset at b e) x = BlockDefines b x
  Defines (automaton at qs) x = SomeStateDefines qs x

  -- One of the equations does.
  pub SomeDefines : Eqns → List ℕ → Type 0
  SomeDefines no_eqn x = ⊥
  SomeDefines (more_eqns e es) x = Defines e x ⊎ SomeDefines es x

  pub BlockDefines : Block → List ℕ → Type 0
  BlockDefines (block ds es) x = SomeDefines es x

  pub SomeArmDefines : Arms → List ℕ → Type 0
  SomeArmDefines no_arm x = ⊥
  SomeArmDefines (more_arms c b at arms) x = BlockDefines b x ⊎ SomeArmDefines arms x

  pub SomeStateDefines : States → List ℕ → Type 0
  SomeStateDefines no_state x = ⊥
  SomeStateDefines (more_states y b until unless at qs) x = BlockDefines b x ⊎ SomeStateDefines qs x

-- Each block of a `switch` or of an automaton defines the name.
abbrev pub EachArmDefines : Arms → List ℕ → Type 0
EachArmDefines no_arm x = Unit {0}
EachArmDefines (more_arms c b at arms) x = BlockDefines b x × EachArmDefines arms x

abbrev pub EachStateDefines : States → List ℕ → Type 0
EachStateDefines no_state x = Unit {0}
EachStateDefines (more_states y b until unless at qs) x = BlockDefines b x × EachStateDefines qs x

abbrev mutual
  -- Neither the block of these equations nor one inside defines the name twice.
  pub DefineAtMostOnce : Eqns → List ℕ → Type 0
  DefineAtMostOnce no_eqn x = Unit {0}
  DefineAtMostOnce (more_eqns e es) x = DefinesAtMostOnce e x × ((Defines e x → SomeDefines es x → ⊥) × DefineAtMostOnce es x)

  pub DefinesAtMostOnce : Eqn → List ℕ → Type 0
  DefinesAtMostOnce (define at xs e) x = IsAtMostOnceOn xs x
  DefinesAtMostOnce (switch at e arms) x = ArmsDefineAtMostOnce arms x
  DefinesAtMostOnce (reset at b e) x = BlockDefinesAtMostOnce b x
  DefinesAtMostOnce (automaton at qs) x = StatesDefineAtMostOnce qs x

  pub BlockDefinesAtMostOnce : Block → List ℕ → Type 0
  BlockDefinesAtMostOnce (block ds es) x = DefineAtMostOnce es x

  pub ArmsDefineAtMostOnce : Arms → List ℕ → Type 0
  ArmsDefineAtMostOnce no_arm x = Unit {0}
  ArmsDefineAtMostOnce (more_arms c b at arms) x = BlockDefinesAtMostOnce b x × ArmsDefineAtMostOnce arms x

  pub StatesDefineAtMostOnce : States → List ℕ → Type 0
  StatesDefineAtMostOnce no_state x = Unit {0}
  StatesDefineAtMostOnce (more_states y b until unless at qs) x = BlockDefinesAtMostOnce b x × StatesDefineAtMostOnce qs x

abbrev mutual
  -- Where a control equation, here or inside, defines the name, each of its blocks does.
  pub DefineWhole : Eqns → List ℕ → Type 0
  DefineWhole no_eqn x = Unit {0}
  DefineWhole (more_eqns e es) x = DefinesWhole e x × DefineWhole es x

  pub DefinesWhole : Eqn → List ℕ → Type 0
  DefinesWhole (define at xs e) x = Unit {0}
  DefinesWhole (switch at e arms) x = (SomeArmDefines arms x → EachArmDefines arms x) × ArmsDefineWhole arms x
  DefinesWhole (reset at b e) x = BlockDefinesWhole b x
  DefinesWhole (automaton at qs) x = (SomeStateDefines qs x → EachStateDefines qs x) × StatesDefineWhole qs x

  pub BlockDefinesWhole : Block → List ℕ → Type 0
  BlockDefinesWhole (block ds es) x = DefineWhole es x

  pub ArmsDefineWhole : Arms → List ℕ → Type 0
  ArmsDefineWhole no_arm x = Unit {0}
  ArmsDefineWhole (more_arms c b at arms) x = BlockDefinesWhole b x × ArmsDefineWhole arms x

  pub StatesDefineWhole : States → List ℕ → Type 0
  StatesDefineWhole no_state x = Unit {0}
  StatesDefineWhole (more_states y b until unless at qs) x = BlockDefinesWhole b x × StatesDefineWhole qs x

-- ---- constructors

abbrev pub same_cons : Cons → Cons → Bool
same_cons cons.False cons.False = true
same_cons cons.True cons.True = true
same_cons (cons.Named c) (cons.Named d) = bytes_eq c d
same_cons c d = false

-- A constructor stands once among those that are named.
abbrev pub StandsOnce : Cons → List Cons → Type 0
StandsOnce c given = count_by (same_cons c) given ≡ 1

abbrev pub EachStandsOnce : List Cons → List Cons → Type 0
EachStandsOnce [] given = Unit {0}
EachStandsOnce (c ∷ cs) given = StandsOnce c given × EachStandsOnce cs given
