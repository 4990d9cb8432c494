-- How equations define a name: never, once, once but not in each block of a control equation, or twice in one block.
use Rattle.std.specs.Prelude.{ℕ, Bool, if◌then◌else◌, is_some, unwrap_or, List, [], ◌∷◌}
use Rattle.std.specs.Str.{bytes_eq}
use Rattle.indexmap.specs.IndexMap.{get_by}
use Rattle.hp_base.specs.declared.span.Span.{Span}
use Rattle.hp_tree.specs.Blocks.{Block, block, Eqns, no_eqn, more_eqns, Eqn, define, switch, reset, automaton, Arms, no_arm, more_arms, States, no_state, more_states}
use Rattle.hp_typing.specs.declared.uses.Use.{Use}
use Rattle.hp_typing.specs.declared.uses.Use.TheVariants.{Never, Once, Partly, Twice}
use Rattle.hp_typing.specs.declared.uses.Uses.{Uses}

-- how a name is defined by an equation and by others beside it in its block
abbrev pub beside : Use → Use → Use
beside Never v = v
beside u Never = u
beside u v = Twice

-- how it is by two blocks of a control equation
abbrev pub between : Use → Use → Use
between Twice v = Twice
between u Twice = Twice
between Never Never = Never
between Once Once = Once
between u v = Partly

-- the worse of two
abbrev pub worse : Use → Use → Use
worse Twice v = Twice
worse u Twice = Twice
worse Partly v = Partly
worse u Partly = Partly
worse Never v = v
worse Once v = Once

-- the same of all names
abbrev pub nowhere : List ℕ → Use
nowhere x = Never

abbrev pub only : List ℕ → List ℕ → Use
only y x = if bytes_eq y x then Once else Never

abbrev pub both : (List ℕ → Use) → (List ℕ → Use) → List ℕ → Use
both f g x = beside (f x) (g x)

abbrev pub worst : (List ℕ → Use) → (List ℕ → Use) → List ℕ → Use
worst f g x = worse (f x) (g x)

abbrev pub pairwise : (List ℕ → Use) → (List ℕ → Use) → List ℕ → Use
pairwise f g x = between (f x) (g x)

-- by all blocks of a control equation
abbrev pub among : List (List ℕ → Use) → List ℕ → Use
among [] x = Never
among (f ∷ []) x = f x
among (f ∷ g ∷ fs) x = between (f x) (among (g ∷ fs) x)

abbrev pub use_on : List (List ℕ × Span) → List ℕ → Use
use_on [] = nowhere
use_on (y ∷ ys) = both (only y.0) (use_on ys)

abbrev mutual
  pub use_in_eqns : Eqns → List ℕ → Use
  use_in_eqns no_eqn = nowhere
  use_in_eqns (more_eqns e es) = both (use_in_eqn e) (use_in_eqns es)

  pub use_in_eqn : Eqn → List ℕ → Use
  use_in_eqn (define at xs e) = use_on xs
  use_in_eqn (switch at e arms) = among (uses_in_arms arms)
  use_in_eqn (reset at b e) = use_in_block b
  use_in_eqn (automaton at qs) = among (uses_in_states qs)

  pub use_in_block : Block → List ℕ → Use
  use_in_block (block ds es) = use_in_eqns es

  pub uses_in_arms : Arms → List (List ℕ → Use)
  uses_in_arms no_arm = []
  uses_in_arms (more_arms c b at arms) = use_in_block b ∷ uses_in_arms arms

  pub uses_in_states : States → List (List ℕ → Use)
  uses_in_states no_state = []
  uses_in_states (more_states y b until unless at qs) = use_in_block b ∷ uses_in_states qs

-- how a map of names says that each is defined, and whether it has a name
abbrev pub how : Uses → List ℕ → Use
how uses x = unwrap_or (get_by (λ k. bytes_eq x k.now) uses.names) Never

abbrev pub knows : Uses → List ℕ → Bool
knows uses x = is_some (get_by (λ k. bytes_eq x k.now) uses.names)

-- the names that a map has are made worse, and others stay
abbrev pub worsened : Uses → (List ℕ → Use) → (List ℕ → Use) → List ℕ → Use
worsened names f g x = if knows names x then worse (f x) (g x) else f x

-- the same with another entry
abbrev pub put_at : (List ℕ → Use) → List ℕ → Use → List ℕ → Use
put_at f y u x = if bytes_eq y x then u else f x
