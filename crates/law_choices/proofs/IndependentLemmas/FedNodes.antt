-- What is asked of a node that its automata may be removed, and that it has ranks, is kept where it is fed.
use Rattle.std.proofs.Common.{◌≡◌, ℕ, Bool, true, false, ◌||◌, List, [], ◌∷◌, ◌++◌, refl, sym, ap, ◌∙◌, subst}
use Rattle.std.specs.Prelude.{if◌then◌else◌, Option, None, Some, option_map}
use Rattle.std.proofs.Math.Path.{fun_ext}
use Rattle.std.specs.Str.{bytes_eq}
use Rattle.hp_tree.specs.Blocks.{Decl, block, Eqns, no_eqn, more_eqns, Eqn}
use Rattle.hp_tree.specs.Programs.{Contract, Node}
use Rattle.hp_tree.specs.Meaning.{declares, defines, some_defines, clock_in, controls_of, names_of}
use Rattle.hp_meaning.specs.Causal.Clocked.{Standing, ClockRight, base_alone, standing_in, DeclarationsRight, AllRight, OneRight, BlockRight, ContractRight, on_base, ClocksRight}
use Rattle.hp_meaning.specs.Causal.Points.{DeclaredInAll, DeclaredInContract, NamesDeclared}
use Rattle.law_automata.specs.Lowered.OldNames.{IsOld}
use Rattle.law_automata.specs.Lowered.Removable.{Known, none_known, DeclsOk, EqnsOk, ContractOk, NodeOk}
use Rattle.law_choices.specs.Independent.Dependence.{IsGiven}
use Rattle.law_choices.proofs.IndependentLemmas.Feeding.{with_eqn, feed, defines_with}
use Rattle.law_choices.proofs.IndependentLemmas.Given.{same_name}
use Rattle.law_choices.proofs.IndependentLemmas.Ours.{with_body}
use Rattle.law_choices.proofs.IndependentLemmas.Fed.{bare, controls_bare, fed}

or_first : (a b : Bool) → a ≡ true → (a || b) ≡ true
or_first true b h = refl
or_first false b h = absurd cc

left_false : (a b : Bool) → (a || b) ≡ false → a ≡ false
left_false true b h = absurd cc
left_false false b h = refl

right_false : (a b : Bool) → (a || b) ≡ false → b ≡ false
right_false true b h = absurd cc
right_false false b h = h

-- ---- automata may be removed

module _ (n : Node) (x y : List ℕ) where
  decls_ok : (outer : Known) (es : Eqns) (ds : List Decl) → DeclsOk outer es ds → DeclsOk outer (with_eqn es (feed n.span x y)) ds
  decls_ok outer es [] ok = tt
  decls_ok outer es (d ∷ ds) ok =
      ((ok.0.0, ok.0.1, defines_with es (feed n.span x y) d.name ∙ or_first (some_defines es d.name) (defines (feed n.span x y) d.name) ok.0.2, ok.0.3), decls_ok outer es ds ok.1)

  -- a name that an equation defines is not x
  not_x : (e : Eqn) (z : List ℕ) → defines e x ≡ false → defines e z ≡ true → (bytes_eq x z || false) ≡ false
  not_x e z h g = by (bytes_eq x z) refl
    where
      by : (t : Bool) → bytes_eq x z ≡ t → (t || false) ≡ false
      by true q = let no : true ≡ false = sym g ∙ ap (defines e) (sym (same_name x z q)) ∙ h in absurd cc
      by false q = refl

  neither : (a b : Bool) → a ≡ false → b ≡ false → (a || b) ≡ false
  neither true b h g = absurd cc
  neither false b h g = g

  eqns_ok : (outer : Known) (k : ℕ) (es : Eqns) → some_defines es x ≡ false → IsOld x → IsOld y → EqnsOk outer k es → EqnsOk outer k (with_eqn es (feed n.span x y))
  eqns_ok outer k no_eqn un old_x old_y ok = ((λ z h. refl), ((old_x, tt), old_y), tt)
  eqns_ok outer k (more_eqns e es) un old_x old_y ok = (
    (λ z h. defines_with es (feed n.span x y) z ∙ neither (some_defines es z) (bytes_eq x z || false) (ok.0 z h) (not_x e z (left_false (defines e x) (some_defines es x) un) h)),
    ok.1,
    eqns_ok outer k es (right_false (defines e x) (some_defines es x) un) old_x old_y ok.2,
  )

  contract_ok : (c : Option Contract) → ContractOk (option_map bare c)
  contract_ok None = tt
  contract_ok (Some c) = ((tt, tt), tt, tt)

  pub fed_ok : (ds : List Decl) (es : Eqns) → some_defines es x ≡ false → IsOld x → IsOld y → NodeOk (with_body n ds es) → NodeOk (fed n ds es x y)
  fed_ok ds es un old_x old_y ok =
      record { outputs = ok.outputs; contract = contract_ok n.contract; body = (decls_ok none_known es ds ok.body.0, eqns_ok none_known 0 es un old_x old_y ok.body.1) }

  -- ---- names are declared

  all_declared : (declared : List (List ℕ)) (es : Eqns) → DeclaredInAll declared es → DeclaredInAll declared (with_eqn es (feed n.span x y))
  all_declared declared no_eqn h = (tt, tt)
  all_declared declared (more_eqns e es) h = (h.0, all_declared declared es h.1)

  contract_declared : (c : Option Contract) → DeclaredInContract (option_map bare c)
  contract_declared None = tt
  contract_declared (Some c) = tt

  pub fed_declared : (ds : List Decl) (es : Eqns) → NamesDeclared (with_body n ds es) → NamesDeclared (fed n ds es x y)
  fed_declared ds es h = (contract_declared n.contract, all_declared (names_of n.outputs ++ names_of ds) es h.1)

  -- ---- clocks

  module _ (ds : List Decl) (es : Eqns) (given : IsGiven (with_body n ds es) x) (base_x : clock_in ds x ≡ []) (base_y : clock_in ds y ≡ []) (defined : some_defines es y ≡ true) where
    abbrev around : Option Contract → Standing
    around c z = on_base (declares n.inputs z || (declares n.outputs z || declares (controls_of c) z))

    x_around : (a b c : Bool) → (a || c) ≡ true → base_alone (on_base (a || (b || c))) ≡ Some []
    x_around true b c h = refl
    x_around false true c h = refl
    x_around false false true h = refl
    x_around false false false h = absurd cc

    same_standing : (z : List ℕ) → standing_in ds (with_eqn es (feed n.span x y)) (around n.contract) z ≡ standing_in ds es (around n.contract) z
    same_standing z = ap (λ t. if t then Some (clock_in ds z) else base_alone (around n.contract z)) (defines_with es (feed n.span x y) z) ∙ by (some_defines es z) (bytes_eq x z) refl
      where
        there : x ≡ z → Some (clock_in ds z) ≡ base_alone (around n.contract z)
        there e =
            subst (λ w. Some (clock_in ds w) ≡ base_alone (around n.contract w)) e
            (ap Some base_x ∙ sym (x_around (declares n.inputs x) (declares n.outputs x) (declares (controls_of n.contract) x) given))

        by : (t u : Bool) → bytes_eq x z ≡ u → (if t || (u || false) then Some (clock_in ds z) else base_alone (around n.contract z)) ≡ (if t then Some (clock_in ds z) else base_alone (around n.contract z))
        by true u q = refl
        by false true q = there (same_name x z q)
        by false false q = refl

    abbrev names : Standing
    names = standing_in ds es (around n.contract)

    new_right : OneRight names ds (feed n.span x y)
    new_right = (
      subst (ClockRight names) (sym base_x) tt,
      (refl, tt),
      ap (λ t. if t then Some (clock_in ds y) else base_alone (around n.contract y)) defined ∙ ap Some (base_y ∙ sym base_x),
    )

    all_right : (rest : Eqns) → AllRight names ds rest → AllRight names ds (with_eqn rest (feed n.span x y))
    all_right no_eqn h = (new_right, tt)
    all_right (more_eqns e rest) h = (h.0, all_right rest h.1)

    contract_right : (out : Standing) (c : Option Contract) → ContractRight out (option_map bare c)
    contract_right out None = tt
    contract_right out (Some c) = ((tt, tt), tt, tt)

    same_around : around n.contract ≡ around (option_map bare n.contract)
    same_around = fun_ext (λ z. ap (λ cs. on_base (declares n.inputs z || (declares n.outputs z || declares cs z))) (sym (controls_bare n.contract)))

    pub fed_right : ClocksRight (with_body n ds es) → ClocksRight (fed n ds es x y)
    fed_right h =
        record {
          outputs = h.outputs;
          body = subst (λ out. BlockRight out (block ds (with_eqn es (feed n.span x y)))) same_around
              (subst (λ st. DeclarationsRight st ds × AllRight st ds (with_eqn es (feed n.span x y))) (sym (fun_ext same_standing)) (h.body.0, all_right es h.body.1));
          contract = contract_right (λ z. on_base (declares n.inputs z || declares n.outputs z)) n.contract;
        }
