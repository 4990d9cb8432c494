-- The clock of each expression in a right side: it is determined by that of the whole.
use Rattle.std.specs.Prelude.{ℕ, ◌≡◌, List, [], ◌∷◌, Some, ⊤}
use Rattle.hp_tree.specs.Expressions.{Expr, constant, variable, last_of, one, two, choose, pre, fby, arrow, when_is, merge, call, Exprs, no_expr, more_exprs, Parts, no_part, more_parts}
use Rattle.hp_tree.specs.Instant.{Place, Head, Tail, First, Second, Third, Args, Clock, without}
use Rattle.hp_meaning.specs.Causal.Sources.{below}
use Rattle.hp_meaning.specs.Causal.Clocked.{Standing, IsOn}
use Rattle.hp_meaning.specs.Clocking.Terms.{IsPart}

-- a clock for each expression, at its place
abbrev pub Clocks : Type 0
Clocks = Place → Clock

-- The rules at each operator, where each expression has a clock of its own.
abbrev mutual
  pub EachOn : Standing → Expr → Clocks → Type 0
  EachOn names (constant s c) i = ⊤
  EachOn names (variable s x) i = names x ≡ Some (i [])
  EachOn names (last_of s x) i = i [] ≡ []
  EachOn names (one s o a) i = (i (First ∷ []) ≡ i []) × EachOn names a (below First i)
  EachOn names (two s o a b) i =
      (i (First ∷ []) ≡ i []) × (i (Second ∷ []) ≡ i []) × EachOn names a (below First i) × EachOn names b (below Second i)
  EachOn names (choose s a b c) i =
      (i (First ∷ []) ≡ i []) × (i (Second ∷ []) ≡ i []) × (i (Third ∷ []) ≡ i []) × EachOn names a (below First i) × EachOn names b (below Second i) × EachOn names c (below Third i)
  EachOn names (pre s a) i = (i (First ∷ []) ≡ i []) × EachOn names a (below First i)
  EachOn names (fby s a b) i =
      (i (First ∷ []) ≡ i []) × (i (Second ∷ []) ≡ i []) × EachOn names a (below First i) × EachOn names b (below Second i)
  EachOn names (arrow s a b) i =
      (i (First ∷ []) ≡ i []) × (i (Second ∷ []) ≡ i []) × EachOn names a (below First i) × EachOn names b (below Second i)
  EachOn names (when_is s a c x) i =
      (i [] ≡ (c, x) ∷ i (First ∷ [])) × (names x ≡ Some (i (First ∷ []))) × EachOn names a (below First i)
  EachOn names (merge s x ps) i = (names x ≡ Some (i [])) × EachPart names x ps (i []) (below Args i)
  EachOn names (call s f inlined es) i = EachArg names es (i []) (below Args i)

  pub EachArg : Standing → Exprs → Clock → Clocks → Type 0
  EachArg names no_expr clock i = ⊤
  EachArg names (more_exprs e es) clock i = (i (Head ∷ []) ≡ clock) × EachOn names e (below Head i) × EachArg names es clock (below Tail i)

  pub EachPart : Standing → List ℕ → Parts → Clock → Clocks → Type 0
  EachPart names x no_part clock i = ⊤
  EachPart names x (more_parts c e ps) clock i =
      (i (Head ∷ []) ≡ (c, x) ∷ clock) × EachOn names e (below Head i) × EachPart names x ps clock (below Tail i)

-- the clocks that are passed down, as in the meaning of an expression
abbrev mutual
  pub passed : Expr → Clock → Clocks
  passed (one s o a) clock (First ∷ p) = passed a clock p
  passed (two s o a b) clock (First ∷ p) = passed a clock p
  passed (two s o a b) clock (Second ∷ p) = passed b clock p
  passed (choose s a b c) clock (First ∷ p) = passed a clock p
  passed (choose s a b c) clock (Second ∷ p) = passed b clock p
  passed (choose s a b c) clock (Third ∷ p) = passed c clock p
  passed (pre s a) clock (First ∷ p) = passed a clock p
  passed (fby s a b) clock (First ∷ p) = passed a clock p
  passed (fby s a b) clock (Second ∷ p) = passed b clock p
  passed (arrow s a b) clock (First ∷ p) = passed a clock p
  passed (arrow s a b) clock (Second ∷ p) = passed b clock p
  passed (when_is s a c x) clock (First ∷ p) = passed a (without clock) p
  passed (merge s x ps) clock (Args ∷ p) = passed_parts x ps clock p
  passed (call s f inlined es) clock (Args ∷ p) = passed_all es clock p
  passed e clock p = clock

  pub passed_all : Exprs → Clock → Clocks
  passed_all (more_exprs e es) clock (Head ∷ p) = passed e clock p
  passed_all (more_exprs e es) clock (Tail ∷ p) = passed_all es clock p
  passed_all es clock p = clock

  pub passed_parts : List ℕ → Parts → Clock → Clocks
  passed_parts x (more_parts c e ps) clock (Head ∷ p) = passed e ((c, x) ∷ clock) p
  passed_parts x (more_parts c e ps) clock (Tail ∷ p) = passed_parts x ps clock p
  passed_parts x ps clock p = clock

-- at each expression
abbrev mutual
  pub AtEach : (Clock → Clock → Type 0) → Expr → Clocks → Clocks → Type 0
  AtEach R (constant s c) i j = R (i []) (j [])
  AtEach R (variable s x) i j = R (i []) (j [])
  AtEach R (last_of s x) i j = R (i []) (j [])
  AtEach R (one s o a) i j = R (i []) (j []) × AtEach R a (below First i) (below First j)
  AtEach R (two s o a b) i j = R (i []) (j []) × AtEach R a (below First i) (below First j) × AtEach R b (below Second i) (below Second j)
  AtEach R (choose s a b c) i j =
      R (i []) (j []) × AtEach R a (below First i) (below First j) × AtEach R b (below Second i) (below Second j) × AtEach R c (below Third i) (below Third j)
  AtEach R (pre s a) i j = R (i []) (j []) × AtEach R a (below First i) (below First j)
  AtEach R (fby s a b) i j = R (i []) (j []) × AtEach R a (below First i) (below First j) × AtEach R b (below Second i) (below Second j)
  AtEach R (arrow s a b) i j = R (i []) (j []) × AtEach R a (below First i) (below First j) × AtEach R b (below Second i) (below Second j)
  AtEach R (when_is s a c x) i j = R (i []) (j []) × AtEach R a (below First i) (below First j)
  AtEach R (merge s x ps) i j = R (i []) (j []) × AtEachPart R ps (below Args i) (below Args j)
  AtEach R (call s f inlined es) i j = R (i []) (j []) × AtEachArg R es (below Args i) (below Args j)

  pub AtEachArg : (Clock → Clock → Type 0) → Exprs → Clocks → Clocks → Type 0
  AtEachArg R no_expr i j = ⊤
  AtEachArg R (more_exprs e es) i j = AtEach R e (below Head i) (below Head j) × AtEachArg R es (below Tail i) (below Tail j)

  pub AtEachPart : (Clock → Clock → Type 0) → Parts → Clocks → Clocks → Type 0
  AtEachPart R no_part i j = ⊤
  AtEachPart R (more_parts c e ps) i j = AtEach R e (below Head i) (below Head j) × AtEachPart R ps (below Tail i) (below Tail j)

-- A right side may stand on a clock exactly where its expressions have clocks by the rules, and these are the clocks that are passed down.
abbrev pub EachLaw : Type 0
EachLaw = (names : Standing) (e : Expr) → ((c : Clock) → IsOn names e c → EachOn names e (passed e c)) × ((i : Clocks) → EachOn names e i → IsOn names e (i []) × AtEach (λ c d. c ≡ d) e i (passed e (i [])))

-- Where a right side stands on the shorter clock, each of its expressions does.
abbrev pub EachShorterLaw : Type 0
EachShorterLaw = (names other : Standing) (e : Expr) (c : Clock) (i : Clocks) → IsOn names e c → EachOn other e i → IsPart c (i []) → AtEach IsPart e (passed e c) i
