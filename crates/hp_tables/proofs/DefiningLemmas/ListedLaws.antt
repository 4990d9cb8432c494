-- The names that are listed of equations are those that the equations define.
use Rattle.std.proofs.Common.{◌≡◌, ℕ, map, Bool, true, false, ◌||◌, ◌&&◌, not, if◌then◌else◌, List, [], ◌∷◌, ◌++◌, refl, ap, ◌∙◌}
use Rattle.std.specs.Str.{bytes_eq}
use Rattle.hp_base.specs.declared.span.Span.{Span}
use Rattle.hp_tree.specs.Blocks.{Decl, Block, block, Eqns, no_eqn, more_eqns, Eqn, define, switch, reset, automaton, Arms, no_arm, more_arms, States, no_state, more_states}
use Rattle.hp_tree.specs.Meaning.{declares, is_among, defines, some_defines, arms_define, states_define, block_defines}
use Rattle.hp_tables.specs.Defining.Names.{listed, undeclared, names_in, names_of, names_of_arms, names_of_states, outer_names}
use Rattle.hp_tables.proofs.DefiningLemmas.LayerLaws.{one_name}

or_or : (a b c : Bool) → (a || (b || c)) ≡ ((a || b) || c)
or_or true b c = refl
or_or false b c = refl

and_false : (c : Bool) → (c && false) ≡ false
and_false true = refl
and_false false = refl

module _ (x : List ℕ) where
  listed_both : (xs ys : List (List ℕ)) → listed (xs ++ ys) x ≡ (listed xs x || listed ys x)
  listed_both [] ys = refl
  listed_both (y ∷ xs) ys = ap (λ r. bytes_eq y x || r) (listed_both xs ys) ∙ or_or (bytes_eq y x) (listed xs x) (listed ys x)

  pub joined : (xs ys : List (List ℕ)) (a b : Bool) → listed xs x ≡ a → listed ys x ≡ b → listed (xs ++ ys) x ≡ (a || b)
  joined xs ys a b h k = listed_both xs ys ∙ ap (λ c. c || listed ys x) h ∙ ap (λ c. a || c) k

  listed_left : (ys : List (List ℕ × Span)) → listed (map (λ y. y.0) ys) x ≡ is_among ys x
  listed_left [] = refl
  listed_left (y ∷ ys) = ap (λ r. bytes_eq y.0 x || r) (listed_left ys)

  kept_by : (d b c m r : Bool) → (b ≡ true → d ≡ m) → r ≡ (c && not m) → (if d then r else b || r) ≡ ((b || c) && not m)
  kept_by true true c true r s e = e ∙ and_false c
  kept_by true true c false r s e = let h : true ≡ false = s refl in absurd cc
  kept_by false true c true r s e = let h : false ≡ true = s refl in absurd cc
  kept_by false true c false r s e = refl
  kept_by true false c m r s e = e
  kept_by false false c m r s e = e

  listed_if : (d : Bool) (y : List ℕ) (ys : List (List ℕ)) → listed (if d then ys else y ∷ ys) x ≡ (if d then listed ys x else bytes_eq y x || listed ys x)
  listed_if true y ys = refl
  listed_if false y ys = refl

  listed_undeclared : (ds : List Decl) (ys : List (List ℕ)) → listed (undeclared ds ys) x ≡ (listed ys x && not (declares ds x))
  listed_undeclared ds [] = refl
  listed_undeclared ds (y ∷ ys) =
      listed_if (declares ds y) y (undeclared ds ys)
      ∙ kept_by (declares ds y) (bytes_eq y x) (listed ys x) (declares ds x) (listed (undeclared ds ys) x) (λ e. ap (declares ds) (one_name y x e)) (listed_undeclared ds ys)

  mutual
    pub listed_in : (es : Eqns) → listed (names_in es) x ≡ some_defines es x
    listed_in no_eqn = refl
    listed_in (more_eqns e es) = joined (names_of e) (names_in es) (defines e x) (some_defines es x) (listed_of e) (listed_in es)

    pub listed_of : (e : Eqn) → listed (names_of e) x ≡ defines e x
    listed_of (define at ys e) = listed_left ys
    listed_of (switch at e arms) = listed_arms arms
    listed_of (reset at b e) = listed_outer b
    listed_of (automaton at ss) = listed_states ss

    listed_arms : (arms : Arms) → listed (names_of_arms arms) x ≡ arms_define arms x
    listed_arms no_arm = refl
    listed_arms (more_arms c b at arms) = joined (outer_names b) (names_of_arms arms) (block_defines b x) (arms_define arms x) (listed_outer b) (listed_arms arms)

    listed_states : (ss : States) → listed (names_of_states ss) x ≡ states_define ss x
    listed_states no_state = refl
    listed_states (more_states f b until unless at ss) = joined (outer_names b) (names_of_states ss) (block_defines b x) (states_define ss x) (listed_outer b) (listed_states ss)

    pub listed_outer : (b : Block) → listed (outer_names b) x ≡ block_defines b x
    listed_outer (block ds es) = listed_undeclared ds (names_in es) ∙ ap (λ d. d && not (declares ds x)) (listed_in es)
