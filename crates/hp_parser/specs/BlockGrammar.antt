-- The grammar of declarations, equations and blocks.
use Rattle.std.specs.Prelude.{ℕ, List, [], ◌∷◌, map, ◌++◌, ◌||◌, Option, None, Some}
use Rattle.hp_base.specs.declared.limit.What.{What}
use Rattle.hp_base.specs.declared.limit.What.TheVariants.{Nest}
use Rattle.hp_base.specs.declared.span.Span.{Span}
use Rattle.hp_lexer.specs.declared.token.Keyword.TheVariants as word
use Rattle.hp_lexer.specs.declared.token.Sign.TheVariants as sign
use Rattle.hp_base.specs.declared.ty.Ty.{Ty}
use Rattle.hp_base.specs.declared.ty.Const.{Const}
use Rattle.hp_tree.specs.declared.decl.Cons.{Cons}
use Rattle.hp_tree.specs.declared.decl.Cons.TheVariants.{True, False}
use Rattle.hp_tree.specs.declared.block.Trans.{Trans}
use Rattle.hp_tree.specs.Blocks.{Decl, Block, block, Eqn, define, switch, reset, automaton, eqns_of, arms_of, states_of, Arm, State}
use Rattle.hp_parser.specs.Lexemes.{Lexeme, Kinds}
use Rattle.hp_parser.specs.Notation.{Notation, Measured, Entry, alone, together}
use Rattle.hp_parser.specs.declared.mode.Mode.{Mode}
use Rattle.hp_parser.specs.declared.mode.Mode.TheVariants.{Whole, Plain}
use Rattle.hp_parser.specs.Tokens.{keyword, sign_of, small, capital, number, constructor, type_name, begins_equation, begins_control, begins_declaration, constructor_of, constant_of, type_of, positive, negative}
use Rattle.hp_parser.specs.Grammar.{behind, before, optional, either, many}

-- ---- what phrases stand for

abbrev pub Path : Type 0
Path = List (Cons × List ℕ)

-- the declarations of some names, which have one type and one clock
abbrev pub declared : Ty → Option Path → Lexeme → Decl
declared ty clock name = record { name = name.bytes; ty = ty; last = None; clock = clock; span = name.span }

abbrev pub declared_last : Lexeme → Ty → Const → Decl
declared_last name ty first = record { name = name.bytes; ty = ty; last = Some first; clock = None; span = name.span }

-- a clock that is written
abbrev pub clock_of : Path → Option Path
clock_of [] = None
clock_of (c ∷ path) = Some (c ∷ path)

abbrev pub flat : {A : Type 0} → List (List A) → List A
flat [] = []
flat (xs ∷ xss) = xs ++ flat xss

abbrev pub entry_declarations : Entry Decl Lexeme Ty → List Decl
entry_declarations (alone d) = d ∷ []
entry_declarations (together names ty) = map (declared ty None) names

-- the names on the left of an equation: the first token, and each name with its place
pub record Left : Type 0 where
  pub first : Span
  pub names : List (List ℕ × Span)

abbrev pub placed : Lexeme → List ℕ × Span
placed t = (t.bytes, t.span)

abbrev pub all_or_none : {A : Type 0} → Option (List A) → List A
all_or_none None = []
all_or_none (Some xs) = xs

abbrev pub block_of : Option (List Decl) → List Eqn → Block
block_of locals eqns = block (all_or_none locals) (eqns_of eqns)

-- the transitions of a state, weak and strong, whichever stand first
pub record Transitions : Type 0 where
  pub until : List Trans
  pub unless : List Trans

module _ {ℓ} {F : Type 0 → Type ℓ} (N : Notation F) where
  -- ---- declarations

  abbrev pub type : F Ty
  type = N.convert type_of (N.token type_name)

  -- names with commas between them
  abbrev pub names : F (List Lexeme)
  names = N.convert (λ r. r.0 ∷ r.1) (N.both (N.token small) (many N (sign_of sign.Comma) (behind N (sign_of sign.Comma) (N.token small))))

  -- the type behind names
  abbrev pub typed : F Ty
  typed = behind N (sign_of sign.Colon) type

  abbrev pub constant : F Const
  constant = either N constructor (N.convert (λ t. constant_of (constructor_of t)) (N.token constructor))
      (either N (sign_of sign.Minus) (N.convert negative (behind N (sign_of sign.Minus) (N.token number))) (N.convert positive (N.token number)))

  -- `last x : ty = c`
  abbrev pub last_declaration : F Decl
  last_declaration = N.convert (λ r. declared_last r.0 r.1.0 r.1.1)
      (behind N (keyword word.Last) (N.both (N.token small) (N.both (behind N (sign_of sign.Colon) type) (behind N (sign_of sign.Equal) constant))))

  -- declarations with semicolons between them, where a number is left; one that is `last` stands by itself
  abbrev pub declarations : What → N.Count → Kinds → F (List Decl)
  declarations what left begins = N.convert (λ entries. flat (map entry_declarations entries)) (N.entries what left begins last_declaration (N.token small) typed)

  -- `on c ( x )`
  abbrev pub step : F (Cons × List ℕ)
  step = N.convert (λ r. (constructor_of r.0, r.1.bytes))
      (behind N (keyword word.On) (N.both (N.token constructor) (behind N (sign_of sign.Open) (before N (N.token small) (sign_of sign.Close)))))

  abbrev pub local : F (List Decl)
  local = either N (keyword word.Last) (N.convert (λ d. d ∷ []) last_declaration)
      (N.convert (λ r. map (declared r.0.1 (clock_of r.1)) r.0.0) (N.both (N.both names typed) (many N (keyword word.On) step)))

  abbrev pub locals : F (List Decl)
  locals = N.convert flat (N.separated (sign_of sign.Semicolon) begins_declaration local)

  -- `var` and declarations, or nothing
  abbrev pub variables : F (Option (List Decl))
  variables = optional N (keyword word.Var) (behind N (keyword word.Var) locals)

  module _ (expression : Mode → F Measured) where
    -- ---- transitions

    -- a condition, and whether its target begins anew
    abbrev pub transition : F Trans
    transition = N.convert (λ r. record { cond = r.0.expr; restart = keyword word.Then r.1.0.kind; target = r.1.1.bytes; span = r.0.first })
        (N.both (expression Plain) (N.both (N.token (λ k. keyword word.Then k || keyword word.Continue k)) (N.token capital)))

    abbrev pub transitions : F (List Trans)
    transitions = N.convert (λ r. r.0 ∷ r.1) (N.both
        (either N (sign_of sign.Bar) (behind N (sign_of sign.Bar) transition) transition)
        (many N (sign_of sign.Bar) (behind N (sign_of sign.Bar) transition)))

    abbrev pub all_transitions : F Transitions
    all_transitions =
        either N (keyword word.Until)
        (N.convert (λ r. record { until = r.0; unless = all_or_none r.1 })
        (N.both (behind N (keyword word.Until) transitions) (optional N (keyword word.Unless) (behind N (keyword word.Unless) transitions))))
        (either N (keyword word.Unless)
        (N.convert (λ r. record { until = all_or_none r.1; unless = r.0 })
        (N.both (behind N (keyword word.Unless) transitions) (optional N (keyword word.Until) (behind N (keyword word.Until) transitions))))
        (N.give (record { until = []; unless = [] })))

    -- ---- equations, whose blocks are one deeper in each other than they

    abbrev pub left : F Left
    left = either N small (N.convert (λ t. record { first = t.span; names = placed t ∷ [] }) (N.token small))
        (N.convert (λ r. record { first = r.0.span; names = r.1 }) (N.both (N.token (sign_of sign.Open))
        (before N (either N small
        (N.convert (λ r. placed r.0 ∷ map placed r.1) (N.both (N.token small) (many N (sign_of sign.Comma) (behind N (sign_of sign.Comma) (N.token small)))))
        (N.give [])) (sign_of sign.Close))))

    abbrev pub definition : F Eqn
    definition = N.convert (λ r. define r.0.first r.0.names r.1.expr) (N.both left (behind N (sign_of sign.Equal) (expression Whole)))

    module _ (nest : N.Depth) (lower : F (List Eqn)) where
      -- a block behind `do`, and one of an `if` or a `reset`
      abbrev pub body : F Block
      body = N.convert (λ r. block_of r.0 r.1) (N.both variables (behind N (keyword word.Do) lower))

      abbrev pub inner : F Block
      inner = N.convert (λ r. block_of r.0 r.1) (N.both (optional N (keyword word.Var) (before N (behind N (keyword word.Var) locals) (keyword word.In))) lower)

      abbrev pub arm : F Arm
      arm = N.convert (λ r. record { cons = constructor_of r.0; body = r.1; span = r.0.span }) (behind N (sign_of sign.Bar) (N.both (N.token constructor) body))

      abbrev pub switched : F Eqn
      switched = N.convert (λ r. switch r.0.span r.1.0.expr (arms_of (r.1.1.0 ∷ r.1.1.1)))
          (N.both (N.token (keyword word.Switch)) (N.both (expression Whole)
          (before N (N.both arm (many N (sign_of sign.Bar) arm)) (keyword word.End))))

      -- an `if` is a `switch` whose arms have the places of `then` and `else`
      abbrev pub arm_behind : Cons → Kinds → F Arm
      arm_behind cons kinds = N.convert (λ r. record { cons = cons; body = r.1; span = r.0.span }) (N.both (N.token kinds) inner)

      abbrev pub branched : F Eqn
      branched = N.convert (λ r. switch r.0.span r.1.0.expr (arms_of (r.1.1.0 ∷ r.1.1.1 ∷ [])))
          (N.both (N.token (keyword word.If)) (N.both (expression Whole)
          (before N (N.both (arm_behind True (keyword word.Then)) (arm_behind False (keyword word.Else))) (keyword word.End))))

      abbrev pub restarted : F Eqn
      restarted = N.convert (λ r. reset r.0.span r.1.0 r.1.1.expr)
          (N.both (N.token (keyword word.Reset)) (N.both inner (behind N (keyword word.Every) (expression Whole))))

      abbrev pub state : F State
      state = N.convert (λ r. record { name = r.0.bytes; body = r.1.0; until = r.1.1.until; unless = r.1.1.unless; span = r.0.span })
          (behind N (keyword word.State) (N.both (N.token capital) (N.both body all_transitions)))

      abbrev pub moded : F Eqn
      moded = N.convert (λ r. automaton r.0.span (states_of (r.1.0 ∷ r.1.1)))
          (N.both (N.token (keyword word.Automaton)) (before N (N.both state (many N (keyword word.State) state)) (keyword word.End)))

      abbrev pub control : F Eqn
      control = either N (keyword word.Switch) switched (either N (keyword word.If) branched (either N (keyword word.Reset) restarted moded))

      abbrev pub equation : F Eqn
      equation = N.either_within Nest (N.deeper nest) begins_control control definition

      abbrev pub equations : F (List Eqn)
      equations = either N begins_equation (N.separated (sign_of sign.Semicolon) begins_equation equation) (N.give [])
