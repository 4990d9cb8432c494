-- Names that control equations define are declared around them where each block defines names of further out alone.
use Rattle.std.proofs.Common.{◌≡◌, ℕ, Bool, true, false, ◌||◌, not, ◌&&◌, List, [], ◌∷◌, ◌++◌, refl, sym, ap, ◌∙◌, subst}
use Rattle.std.specs.Prelude.{IsTrue, Option, None, Some, option_map}
use Rattle.std.specs.Str.{bytes_eq}
use Rattle.hp_tree.specs.Expressions.{variable}
use Rattle.hp_tree.specs.Blocks.{Decl, Block, block, Eqns, no_eqn, more_eqns, Eqn, define, switch, reset, automaton, Arms, no_arm, more_arms, States, no_state, more_states}
use Rattle.hp_tree.specs.Programs.{Contract}
use Rattle.hp_tree.specs.Meaning.{declares, defines, some_defines, block_defines, arms_define, states_define, names_of}
use Rattle.hp_meaning.specs.Causal.Points.{is_one_of, Declared, DeclaredInAll, DeclaredInOne, DeclaredInArms, DeclaredInStates, DeclaredInContract}
use Rattle.law_judged.specs.Named.Scoped.{Names, no_names, ContractScoped, interface}
use Rattle.law_judged.proofs.NamedLemmas.Sets.{or_left, or_right}
use Rattle.law_judged.proofs.NamedLemmas.Declared.{eqn_owned}
use Rattle.hp_automata.specs.Lowering.{Types, Enumerations, lowered_body_of, lowered_contract, lowered_node, types_of}
use Rattle.law_automata.specs.Lowered.Removable.{ContractOk}
use Rattle.law_automata.proofs.LoweredLemmas.Lookups.{block_sound}
use Rattle.law_automata.proofs.LoweredLemmas.Nodes.{itself_renames}
use Rattle.law_automata.specs.Readied.Laws.{OutputsLaw}
use Rattle.law_choices.specs.Ordered.Ordered.{DeclaredLaw}

-- ---- names of declarations

one_of_declared : (names : List (List ℕ)) (ds : List Decl) (x : List ℕ) → (is_one_of names x || declares ds x) ≡ is_one_of (names ++ names_of ds) x
one_of_declared [] ds x = declared ds
  where
    declared : (ds : List Decl) → declares ds x ≡ is_one_of (names_of ds) x
    declared [] = refl
    declared (d ∷ ds) = ap (λ t. bytes_eq d.name x || t) (declared ds)
one_of_declared (y ∷ names) ds x = or_assoc (bytes_eq y x) (is_one_of names x) (declares ds x) ∙ ap (λ t. bytes_eq y x || t) (one_of_declared names ds x)
  where
    or_assoc : (a b c : Bool) → ((a || b) || c) ≡ (a || (b || c))
    or_assoc true b c = refl
    or_assoc false b c = refl

-- ---- blocks

-- what something defines is declared around it
abbrev Outer : List (List ℕ) → (List ℕ → Bool) → Type 0
Outer names defined = (x : List ℕ) → IsTrue (defined x) → IsTrue (is_one_of names x)

inside_block : (names : List (List ℕ)) (ds : List Decl) (es : Eqns) → Outer names (block_defines (block ds es)) → Outer (names ++ names_of ds) (some_defines es)
inside_block names ds es h x d = subst IsTrue (one_of_declared names ds x) (by (declares ds x) refl)
  where
    by : (t : Bool) → declares ds x ≡ t → IsTrue (is_one_of names x || declares ds x)
    by true e = or_right (is_one_of names x) (declares ds x) e
    by false e = or_left (is_one_of names x) (declares ds x) (h x (subst (λ t. IsTrue (some_defines es x && not t)) (sym e) (both d)))
      where
        both : IsTrue (some_defines es x) → IsTrue (some_defines es x && not false)
        both g = subst (λ t. IsTrue (t && not false)) (sym g) refl

mutual
  block_declared : (names : List (List ℕ)) (b : Block) → Outer names (block_defines b) → Declared names b
  block_declared names (block ds es) h = all_declared (names ++ names_of ds) es (inside_block names ds es h)

  all_declared : (names : List (List ℕ)) (es : Eqns) → Outer names (some_defines es) → DeclaredInAll names es
  all_declared names no_eqn h = tt
  all_declared names (more_eqns e es) h =
      (one_declared names e (λ x d. h x (or_left (defines e x) (some_defines es x) d)), all_declared names es (λ x d. h x (or_right (defines e x) (some_defines es x) d)))

  one_declared : (names : List (List ℕ)) (e : Eqn) → Outer names (defines e) → DeclaredInOne names e
  one_declared names (define s ys e) h = tt
  one_declared names (switch s e arms) h = (h, arms_declared names arms h)
  one_declared names (reset s b e) h = (h, block_declared names b h)
  one_declared names (automaton s ss) h = (h, states_declared names ss h)

  arms_declared : (names : List (List ℕ)) (arms : Arms) → Outer names (arms_define arms) → DeclaredInArms names arms
  arms_declared names no_arm h = tt
  arms_declared names (more_arms c b s arms) h =
      (block_declared names b (λ x d. h x (or_left (block_defines b x) (arms_define arms x) d)), arms_declared names arms (λ x d. h x (or_right (block_defines b x) (arms_define arms x) d)))

  states_declared : (names : List (List ℕ)) (ss : States) → Outer names (states_define ss) → DeclaredInStates names ss
  states_declared names no_state h = tt
  states_declared names (more_states f b until unless s ss) h =
      (block_declared names b (λ x d. h x (or_left (block_defines b x) (states_define ss x) d)), states_declared names ss (λ x d. h x (or_right (block_defines b x) (states_define ss x) d)))

-- ---- nodes without automata

is_declared : (ds : List Decl) (x : List ℕ) → IsTrue (declares ds x) → IsTrue (is_one_of (names_of ds) x)
is_declared ds x h = subst IsTrue (one_of_declared [] ds x) h

no_more : (b : Bool) → (b || false) ≡ true → b ≡ true
no_more true h = h
no_more false h = h

module _ (enums : Enumerations) where
  -- the block of a contract defines nothing further out
  contract_declared : (types : Types) (seen : Names) (o : Option Contract) → ContractScoped seen o → ContractOk o → DeclaredInContract (option_map (lowered_contract enums types) o)
  contract_declared types seen None s ok = tt
  contract_declared types seen (Some c) s ok = block_declared [] (lowered_body_of enums types c.span c.body) (λ x h. absurd (nothing x h))
    where
      nothing : (x : List ℕ) → IsTrue (block_defines (lowered_body_of enums types c.span c.body) x) → ⊥
      nothing x h =
          let stood = block_sound enums itself_renames types c.span [] c.body ok.0 (λ y q. absurd cc) x h in
          let mine : block_defines c.body x ≡ true = no_more (block_defines c.body x) (subst (λ z. (block_defines c.body z || false) ≡ true) (sym stood.is) stood.own) in
          let own : IsTrue (no_names x) = eqn_owned x seen no_names (reset c.span c.body (variable c.span [])) s mine in
          absurd (cc own)

pub declared_law : OutputsLaw → DeclaredLaw
declared_law outputs enums n s ok = (
  contract_declared enums (types_of n) (interface n) n.contract s.contract ok.contract,
  block_declared (names_of n.outputs) (lowered_node enums n).body (λ x h. is_declared n.outputs x ((outputs enums n s ok).1 x h)),
)
