-- Of the comparisons and calls that a walk over a node finds: what stands for an early one depends on no controllable variable.
use Rattle.std.proofs.Common.{◌≡◌, ℕ, suc, Bool, true, false, ◌||◌, if◌then◌else◌, List, [], ◌∷◌, refl, sym, ap, ◌∙◌, subst, arith}
use Rattle.std.specs.Prelude.{Option, None, Some}
use Rattle.std.specs.Str.{bytes_eq}
use Rattle.hp_base.specs.declared.value.Value.{Value}
use Rattle.hp_tree.specs.Blocks.{Decl, Block, block, Eqns, no_eqn, more_eqns, Eqn, define, switch, reset, automaton}
use Rattle.hp_tree.specs.Programs.{TypeDecl, Node}
use Rattle.hp_tree.specs.Instant.{Body, Named, Equations, Head, Tail, Right, Test, Arms as ArmsOf, States as StatesOf, Place}
use Rattle.hp_tree.specs.Meaning.{defines, some_defines, states_define}
use Rattle.hp_meaning.specs.Causal.Causality.{Ranked, OrderLaw}
use Rattle.hp_meaning.specs.Causal.Clocked.{ClocksRight}
use Rattle.hp_meaning.specs.Causal.InputDependence.{sources_with_inputs}
use Rattle.hp_meaning.specs.Causal.Points.{NamesDeclared}
use Rattle.hp_meaning.specs.Causal.Sources.{only, NameSources, below}
use Rattle.hp_meaning.specs.Causal.WhatIsRead.{in_equations, names_in}
use Rattle.hp_meaning.specs.Contract.FreePlaces.{free_in_equations, IsEarly, own_free}
use Rattle.hp_automata.specs.Lowering.{declaring, Enumerations, lowered_eqn, lowered_node, same_name, Types, types_of}
use Rattle.law_automata.specs.Lowered.OldNames.{IsOld}
use Rattle.law_automata.specs.Lowered.Laws.{ClocksLaw, NodeRanksLaw}
use Rattle.law_automata.specs.Lowered.Removable.{EqnsOk, NodeOk, none_known}
use Rattle.law_automata.specs.Lowered.Standing.{Along}
use Rattle.law_automata.proofs.LoweredLemmas.Defined.{eqn_same}
use Rattle.law_automata.proofs.LoweredLemmas.Lookups.{eqns_old}
use Rattle.law_automata.proofs.LoweredLemmas.Nodes.{itself_renames}
use Rattle.law_equations.specs.Flattened.Flatten.{always, At, copies, flat_defined, flat_gives, flatten, inside_at, lasts_at, node_scope, Nowhere, Prefix, Rows, Scope}
use Rattle.law_wellmade.specs.Acyclic.Reading.{Ends}
use Rattle.law_choices.specs.Independent.Dependence.{given_in}
use Rattle.law_choices.specs.Independent.Laws.{IsApart}
use Rattle.law_choices.specs.Depending.Found.{FoundEarlyLaw, FoundPlaceLaw, StaysFree, WaitsNot}
use Rattle.law_choices.specs.Depending.Looping.{looped}
use Rattle.law_choices.specs.Depending.Places.{in_own_equations, PlaceDependsOnGiven}
use Rattle.law_choices.specs.Places.Found.{Both, found, found_in_arms, found_in_block, found_in_eqn, found_in_eqns, found_in_node}
use Rattle.law_choices.specs.Places.Laws.{places_of}
use Rattle.law_choices.proofs.IndependentLemmas.FedLowered.{low_eqns, low_locals, made}
use Rattle.law_choices.proofs.IndependentLemmas.Given.{stands_somewhere}
use Rattle.law_choices.proofs.IndependentLemmas.Ours.{with_body}
use Rattle.law_choices.proofs.PlacesLemmas.Related.{All, all-both, arms-hidden, block-hidden, expr-related}
use Rattle.law_choices.proofs.DependingLemmas.FlatLaw.{no_chain}
use Rattle.law_choices.proofs.DependingLemmas.Outermost.{defined_same, low_sources}
use Rattle.law_choices.proofs.DependingLemmas.PlaceLaws.{none_given, outermost_ends}
use Rattle.law_choices.proofs.DependingLemmas.StrongLaws.{automaton_found, EndsSo}

-- ---- relations

module _ {A B : Type 0} (P Q S : A → B → Type 0) (joined : (a : A) (b : B) → P a b → Q a b → S a b) where
  along-joined : (xs : List A) (ys : List B) → Along P xs ys → Along Q xs ys → Along S xs ys
  along-joined [] [] h k = tt
  along-joined [] (y ∷ ys) h k = absurd h
  along-joined (x ∷ xs) [] h k = absurd h
  along-joined (x ∷ xs) (y ∷ ys) h k = (joined x y h.0 k.0, along-joined xs ys h.1 k.1)

module _ (names : List ℕ → List (List ℕ)) (P Q S : Place → Place → Type 0) (joined : (p q : Place) → P p q → Q p q → S p q) where
  all-joined : (fs : Both) → All names P fs → All names Q fs → All names S fs
  all-joined [] h k = tt
  all-joined (f ∷ fs) h k = (along-joined P Q S joined (places_of f.0) (places_of f.1) h.0 k.0, all-joined fs h.1 k.1)

module _ {A B : Type 0} (P S : A → B → Type 0) (more : (a : A) (b : B) → P a b → S a b) where
  along-more : (xs : List A) (ys : List B) → Along P xs ys → Along S xs ys
  along-more [] [] h = tt
  along-more [] (y ∷ ys) h = absurd h
  along-more (x ∷ xs) [] h = absurd h
  along-more (x ∷ xs) (y ∷ ys) h = (more x y h.0, along-more xs ys h.1)

module _ (names : List ℕ → List (List ℕ)) (P S : Place → Place → Type 0) (more : (p q : Place) → P p q → S p q) where
  all-more : (fs : Both) → All names P fs → All names S fs
  all-more [] h = tt
  all-more (f ∷ fs) h = (along-more P S more (places_of f.0) (places_of f.1) h.0, all-more fs h.1)

-- ---- tests

or_first : (a b : Bool) → a ≡ true → (a || b) ≡ true
or_first true b h = refl
or_first false b h = absurd cc

or_second : (a b : Bool) → b ≡ true → (a || b) ≡ true
or_second true b h = refl
or_second false b h = h

module _ (order : OrderLaw) (ranks : NodeRanksLaw) (kept : ClocksLaw) (types : List TypeDecl) (outputs : List ℕ → List (List ℕ)) (fill : Place → Value) (enums : Enumerations) (n : Node) (ds : List Decl) (es : Eqns) (x : List ℕ) (px : Place)
    (ok : NodeOk (with_body n ds es)) (declared : NamesDeclared (with_body n ds es)) (right : ClocksRight (with_body n ds es)) (r : Ranked (with_body n ds es)) (old : IsOld x) (apart : IsApart (with_body n ds es) x) (at : given_in (with_body n ds es) x ≡ only px)
    (outs : List ℕ → List (List ℕ)) where
  abbrev N : Node
  N = with_body n ds es

  abbrev M : Node
  M = lowered_node enums N

  abbrev tys : Types
  tys = declaring (types_of n) ds

  abbrev names : NameSources
  names = names_in es (given_in N) (below Body only)

  abbrev R : Place → Place → Type 0
  R p q = EndsSo order ranks kept types outputs fill enums n ds es x px ok declared right r old apart at p q

  -- what the body of the node without automata reads
  abbrev sc : Scope
  sc = inside_at (low_eqns enums n ds es) (node_scope M) (λ q. Body ∷ q)

  abbrev lsc : Scope
  lsc = lasts_at types (low_locals enums ds) (lasts_at types n.outputs (λ z. Nowhere) (λ q. Body ∷ q) always []) (λ q. Body ∷ q) always []

  abbrev defining : Eqns → Prefix → List ℕ → Rows
  defining rest v z = flat_defined types outputs fill (low_locals enums ds) rest sc lsc (λ q. Body ∷ Equations ∷ v q) always [] z

  -- the equations of the body from some place on, before and behind
  record Stage (rest : Eqns) (v : Prefix) : Type 0 where
    fits : EqnsOk none_known 0 rest
    own : (p : Place) → in_own_equations es (v p) ≡ in_own_equations rest p
    free : (p : Place) → own_free N (Body ∷ Equations ∷ v p) ≡ free_in_equations ds rest p
    high : (p : Place) → sources_with_inputs N (Body ∷ Equations ∷ v p) ≡ in_equations ds rest names (λ q. only (Body ∷ Equations ∷ v q)) p
    low : (p : Place) → sources_with_inputs M (Body ∷ Equations ∷ v p) ≡ in_equations ds (made enums tys rest) names (λ q. only (Body ∷ Equations ∷ v q)) p
    defined : (z : List ℕ) → some_defines rest z ≡ true → some_defines es z ≡ true
    rows : (z : List ℕ) → some_defines rest z ≡ true → flatten types outputs fill M (At (Body ∷ Named z ∷ [])) ≡ Some (defining (made enums tys rest) v z)

  first : Stage es (λ p. p)
  first =
      record {
        fits = ok.body.1;
        own = λ p. refl;
        free = λ p. refl;
        high = λ p. refl;
        low = low_sources enums n ds es ok.body;
        defined = λ z h. h;
        rows = λ z h. ap (λ t. if t then Some (defining (low_eqns enums n ds es) (λ p. p) z) else None) (defined_same enums n ds es ok.body z ∙ h);
      }

  eqn_defines : (e : Eqn) (rest : Eqns) → EqnsOk none_known 0 (more_eqns e rest) → (z : List ℕ) → IsOld z → defines (lowered_eqn enums same_name tys 0 e) z ≡ defines e z
  eqn_defines e rest fits z o = eqn_same enums itself_renames tys e fits.1 z o

  next : (e : Eqn) (rest : Eqns) (v : Prefix) → Stage (more_eqns e rest) v → Stage rest (λ p. v (Tail ∷ p))
  next e rest v s =
      record {
        fits = s.fits.2;
        own = λ p. s.own (Tail ∷ p);
        free = λ p. s.free (Tail ∷ p);
        high = λ p. s.high (Tail ∷ p);
        low = λ p. s.low (Tail ∷ p);
        defined = λ z h. s.defined z (or_second (defines e z) (some_defines rest z) h);
        rows = later;
      }
    where
      none_before : (z : List ℕ) → some_defines rest z ≡ true → (t : Bool) → defines e z ≡ t → t ≡ false
      none_before z h true q = let no : true ≡ false = sym h ∙ s.fits.0 z q in absurd cc
      none_before z h false q = refl

      later : (z : List ℕ) → some_defines rest z ≡ true → flatten types outputs fill M (At (Body ∷ Named z ∷ [])) ≡ Some (defining (made enums tys rest) (λ p. v (Tail ∷ p)) z)
      later z h =
          let whole = or_second (defines e z) (some_defines rest z) h in
          let o : IsOld z = eqns_old none_known 0 (more_eqns e rest) s.fits z whole in
          s.rows z whole
          ∙ ap (λ t. Some (if t then flat_gives types outputs fill (low_locals enums ds) (lowered_eqn enums same_name tys 0 e) sc lsc (λ q. Body ∷ Equations ∷ v (Head ∷ q)) always [] z else defining (made enums tys rest) (λ p. v (Tail ∷ p)) z))
          (eqn_defines e rest s.fits z o ∙ none_before z h (defines e z) refl)

  -- a place that stands in an expression of the outermost block
  itself : (p : Place) → in_own_equations es p ≡ true → R (Body ∷ Equations ∷ p) (Body ∷ Equations ∷ p)
  itself p own free clear = outermost_ends order ranks kept types outputs fill enums n ds es x px ok declared right r old apart at (suc (r.rank (Body ∷ Equations ∷ p))) p own clear (omega arith)

  none_free : (p q : Place) → own_free N p ≡ None → R p q
  none_free p q e free clear = absurd (none_some (own_free N p) e free)
    where
      none_some : {A : Type 0} (o : Option (List A)) → o ≡ None → o ≡ Some [] → ⊥
      none_some o a b = absurd cc

  eqn_found : (e : Eqn) (rest : Eqns) (v : Prefix) → Stage (more_eqns e rest) v → All outs R (found_in_eqn outs e (λ p. Body ∷ Equations ∷ v (Head ∷ p)) (λ p. Body ∷ Equations ∷ v (Head ∷ p)))
  eqn_found (define s ys e) rest v g = expr-related outs R e (λ p. Body ∷ Equations ∷ v (Head ∷ Right ∷ p)) (λ p. Body ∷ Equations ∷ v (Head ∷ Right ∷ p)) (λ p. itself (v (Head ∷ Right ∷ p)) (g.own (Head ∷ Right ∷ p)))
  eqn_found (switch s e arms) rest v g =
      let w : Prefix = λ p. Body ∷ Equations ∷ v (Head ∷ p) in
      all-both outs R (found outs e (λ p. w (Test ∷ p)) (λ p. w (Test ∷ p))) (found_in_arms outs arms (λ p. w (ArmsOf ∷ p)) (λ p. w (ArmsOf ∷ p)))
      (expr-related outs R e (λ p. w (Test ∷ p)) (λ p. w (Test ∷ p)) (λ p. itself (v (Head ∷ Test ∷ p)) (g.own (Head ∷ Test ∷ p))))
      (arms-hidden outs R arms (λ p. w (ArmsOf ∷ p)) (λ p. w (ArmsOf ∷ p)) (λ p q. none_free (w (ArmsOf ∷ p)) q (g.free (Head ∷ ArmsOf ∷ p))))
  eqn_found (reset s b e) rest v g =
      let w : Prefix = λ p. Body ∷ Equations ∷ v (Head ∷ p) in
      all-both outs R (found_in_block outs b (λ p. w (Body ∷ p)) (λ p. w (Body ∷ p))) (found outs e (λ p. w (Test ∷ p)) (λ p. w (Test ∷ p)))
      (block-hidden outs R b (λ p. w (Body ∷ p)) (λ p. w (Body ∷ p)) (λ p q. none_free (w (Body ∷ p)) q (g.free (Head ∷ Body ∷ p))))
      (expr-related outs R e (λ p. w (Test ∷ p)) (λ p. w (Test ∷ p)) (λ p. itself (v (Head ∷ Test ∷ p)) (g.own (Head ∷ Test ∷ p))))
  eqn_found (automaton s ss) rest v g =
      automaton_found order ranks kept types outputs fill enums n ds es x px ok declared right r old apart at s ss (λ p. v (Head ∷ p)) g.fits.1 (λ z h. g.defined z (or_first (states_define ss z) (some_defines rest z) h)) (λ p. g.high (Head ∷ p))
      (λ p. g.low (Head ∷ p)) rows outs (λ p. g.free (Head ∷ StatesOf ∷ p))
    where
      rows : (z : List ℕ) → states_define ss z ≡ true → flatten types outputs fill M (At (Body ∷ Named z ∷ [])) ≡ Some (copies always [] (At (Body ∷ Equations ∷ v (Head ∷ Body ∷ Named z ∷ []))) ∷ [])
      rows z h =
          let whole = or_first (states_define ss z) (some_defines rest z) h in
          let o : IsOld z = eqns_old none_known 0 (more_eqns (automaton s ss) rest) g.fits z whole in
          g.rows z whole
          ∙ ap (λ t. Some (if t then copies always [] (At (Body ∷ Equations ∷ v (Head ∷ Body ∷ Named z ∷ []))) ∷ [] else defining (made enums tys rest) (λ p. v (Tail ∷ p)) z)) (eqn_defines (automaton s ss) rest g.fits z o ∙ h)

  eqns_found : (rest : Eqns) (v : Prefix) → Stage rest v → All outs R (found_in_eqns outs rest (λ p. Body ∷ Equations ∷ v p) (λ p. Body ∷ Equations ∷ v p))
  eqns_found no_eqn v g = tt
  eqns_found (more_eqns e rest) v g =
      all-both outs R (found_in_eqn outs e (λ p. Body ∷ Equations ∷ v (Head ∷ p)) (λ p. Body ∷ Equations ∷ v (Head ∷ p))) (found_in_eqns outs rest (λ p. Body ∷ Equations ∷ v (Tail ∷ p)) (λ p. Body ∷ Equations ∷ v (Tail ∷ p)))
      (eqn_found e rest v g) (eqns_found rest (λ p. v (Tail ∷ p)) (next e rest v g))

  pub body_found : All outs R (found_in_node outs N)
  body_found = eqns_found es (λ p. p) first

-- ---- the laws

module _ (order : OrderLaw) (ranks : NodeRanksLaw) (kept : ClocksLaw) (types : List TypeDecl) (outputs : List ℕ → List (List ℕ)) (fill : Place → Value) (enums : Enumerations) (outs : List ℕ → List (List ℕ)) where
  abbrev Stays : Node → List ℕ → Place → Place → Type 0
  Stays n x p q = own_free n p ≡ Some [] → (PlaceDependsOnGiven n p x → ⊥) → Ends (looped types outputs fill (lowered_node enums n) (λ z. bytes_eq x z)) (At q)

  by_body : (n : Node) (b : Block) (x : List ℕ) → NodeOk (record n { body = b }) → NamesDeclared (record n { body = b }) → ClocksRight (record n { body = b }) → Ranked (record n { body = b }) → IsOld x → IsApart (record n { body = b }) x
      → All outs (Stays (record n { body = b }) x) (found_in_node outs (record n { body = b }))
  by_body n (block ds es) x ok declared right r old apart =
      let N : Node = with_body n ds es in
      let at = stands_somewhere N x apart.given in
      all-more outs (EndsSo order ranks kept types outputs fill enums n ds es x at.0 ok declared right r old apart at.1) (Stays N x) (λ p q ends free independent. ends free (λ between d. independent (at.0, at.1, between, d))) (found_in_node outs N)
      (body_found order ranks kept types outputs fill enums n ds es x at.0 ok declared right r old apart at.1 outs)

pub found_place_law : OrderLaw → NodeRanksLaw → ClocksLaw → FoundPlaceLaw
found_place_law order ranks kept outs types outputs k fill enums n f s x ok declared right r old apart w ew =
    all-more outs (Stays order ranks kept types outputs fill enums outs n x) (StaysFree n x f s.means w)
    (λ p q ends free independent v ev d. no_chain types outputs fill (lowered_node enums n) x k f s v d.0 w (subst (Ends (looped types outputs fill (lowered_node enums n) (λ z. bytes_eq x z))) (sym ev) (ends free independent)) ew d.1)
    (found_in_node outs n) (by_body order ranks kept types outputs fill enums outs n n.body x ok declared right r old apart)

-- a place of the body
abbrev InBody : Place → Place → Type 0
InBody p q = (s : Place) × (p ≡ Body ∷ s)

pub found_early_law : FoundPlaceLaw → FoundEarlyLaw
found_early_law law outs types outputs k fill enums program n f s x ok declared right r old apart control w ew =
    all-joined outs (StaysFree n x f s.means w) InBody (WaitsNot program n f s.means w)
    (λ p q free inside early. let there : IsEarly program n (Body ∷ inside.0) = subst (IsEarly program n) inside.1 early in
    free early.on_base (λ d. none_given program n n.body inside.0 x right control there (subst (λ z. PlaceDependsOnGiven n z x) inside.1 d)))
    (found_in_node outs n) (law outs types outputs k fill enums n f s x ok declared right r old apart w ew)
    (block-hidden outs InBody n.body (λ p. Body ∷ p) (λ p. Body ∷ p) (λ p q. (p, refl)))
