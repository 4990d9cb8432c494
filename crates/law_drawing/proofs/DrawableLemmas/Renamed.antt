-- Blocks stay tidy where names stand for names, and where more constructors are known.
use Rattle.std.proofs.Common.{◌≡◌, ℕ, List, [], ◌∷◌, ◌++◌, refl, sym, ap, ap₂, subst}
use Rattle.std.specs.Prelude.{⊤, Bool, ◌||◌, IsFalse, Option, None, Some}
use Rattle.std.specs.Str.{bytes_eq}
use Rattle.hp_base.specs.declared.ty.Ty.{Ty}
use Rattle.hp_tree.specs.declared.decl.Cons.{Cons}
use Rattle.hp_tree.specs.Blocks.{Decl, Block, block, Eqns, no_eqn, more_eqns, Eqn, define, switch, reset, automaton, Arms, no_arm, more_arms, States, no_state, more_states, eqns_of, list_of_eqns}
use Rattle.hp_tree.specs.Programs.{Contract, Node}
use Rattle.hp_tree.specs.Instant.{Clock}
use Rattle.hp_tree.specs.Meaning.{controls_of}
use Rattle.law_judged.specs.Typed.Scopes.{Scope}
use Rattle.law_values.specs.Valued.Judged.{of_arms}
use Rattle.hp_expand.specs.Renaming.{renamed_decls, renamed_block, renamed_eqns, renamed_eqn, renamed_arms, renamed_states}
use Rattle.law_wellmade.specs.Tested.Around.{Around, among, AllConses, PathAround, WrittenAround, DeclsAround, interface_of}
use Rattle.law_wellmade.proofs.TestedLemmas.Renamed.{Becomes, becomes_more, decls_renamed}
use Rattle.law_wellmade.proofs.TestedLemmas.JudgedAround.{More, cons_more}
use Rattle.law_drawing.specs.Carrying.Drawable.{is_state, StatesApart}
use Rattle.law_drawing.specs.Drawable.Tidy.{ArmsAlike, BlockTidy, EqnsTidy, EqnTidy, ArmsTidy, StatesTidy, ContractTidy, NodeTidy}

-- ---- other blocks, with the constructors and states of these

arms_renamed_same : (to : List ℕ → List ℕ) (arms : Arms) → of_arms (renamed_arms to arms) ≡ of_arms arms
arms_renamed_same to no_arm = refl
arms_renamed_same to (more_arms c b a arms) = ap (λ cs. c ∷ cs) (arms_renamed_same to arms)

-- the states of an automaton have the names of those of another
abbrev pub SameStates : States → States → Type 0
SameStates no_state no_state = ⊤
SameStates (more_states f b until unless at ss) (more_states g c u v w ts) = (g ≡ f) × SameStates ss ts
SameStates ss ts = ⊥

state_same : (ss ts : States) → SameStates ss ts → (x : List ℕ) → is_state ts x ≡ is_state ss x
state_same no_state no_state h x = refl
state_same (more_states f b until unless at ss) (more_states g c u v w ts) h x = ap₂ (λ (y : List ℕ) (q : Bool). bytes_eq y x || q) h.0 (state_same ss ts h.1 x)
state_same no_state (more_states g c u v w ts) h x = absurd h
state_same (more_states f b until unless at ss) no_state h x = absurd h

pub states_same : (ss ts : States) → SameStates ss ts → StatesApart ss → StatesApart ts
states_same no_state no_state h a = tt
states_same (more_states f b until unless at ss) (more_states g c u v w ts) h a =
    (subst (λ z. IsFalse (is_state ts z)) (sym h.0) (subst IsFalse (sym (state_same ss ts h.1 f)) a.0), states_same ss ts h.1 a.1)
states_same no_state (more_states g c u v w ts) h a = absurd h
states_same (more_states f b until unless at ss) no_state h a = absurd h

states_renamed_same : (to : List ℕ → List ℕ) (ss : States) → SameStates ss (renamed_states to ss)
states_renamed_same to no_state = tt
states_renamed_same to (more_states f b until unless at ss) = (refl, states_renamed_same to ss)

pub arms_alike : (known : Scope) (arms others : Arms) → of_arms others ≡ of_arms arms → ArmsAlike known arms → ArmsAlike known others
arms_alike known arms others e h = (h.0, subst (λ cs. AllConses known h.0 cs) (sym e) h.1)

module _ (known : Scope) where
  -- ---- names that stand for names

  module _ (to : List ℕ → List ℕ) where
    mutual
      block_renamed : (b : Block) (G H : Around) → Becomes to G H → BlockTidy known G b → BlockTidy known H (renamed_block to b)
      block_renamed (block ds es) G H b h =
          let m = becomes_more to G H ds b in
          (decls_renamed known to (among G ds) (among H (renamed_decls to ds)) m ds h.0, eqns_renamed es (among G ds) (among H (renamed_decls to ds)) m h.1)

      pub eqns_renamed : (es : Eqns) (G H : Around) → Becomes to G H → EqnsTidy known G es → EqnsTidy known H (renamed_eqns to es)
      eqns_renamed no_eqn G H b h = tt
      eqns_renamed (more_eqns e es) G H b h = (eqn_renamed e G H b h.0, eqns_renamed es G H b h.1)

      eqn_renamed : (e : Eqn) (G H : Around) → Becomes to G H → EqnTidy known G e → EqnTidy known H (renamed_eqn to e)
      eqn_renamed (define s ys e) G H b h = tt
      eqn_renamed (switch s e arms) G H b h = (arms_alike known arms (renamed_arms to arms) (arms_renamed_same to arms) h.0, arms_renamed arms G H b h.1)
      eqn_renamed (reset s c e) G H b h = block_renamed c G H b h
      eqn_renamed (automaton s ss) G H b h = (states_same ss (renamed_states to ss) (states_renamed_same to ss) h.0, states_renamed ss G H b h.1)

      arms_renamed : (arms : Arms) (G H : Around) → Becomes to G H → ArmsTidy known G arms → ArmsTidy known H (renamed_arms to arms)
      arms_renamed no_arm G H b h = tt
      arms_renamed (more_arms c d a arms) G H b h = (block_renamed d G H b h.0, arms_renamed arms G H b h.1)

      states_renamed : (ss : States) (G H : Around) → Becomes to G H → StatesTidy known G ss → StatesTidy known H (renamed_states to ss)
      states_renamed no_state G H b h = tt
      states_renamed (more_states f d until unless a ss) G H b h = (block_renamed d G H b h.0, states_renamed ss G H b h.1)

  -- ---- equations in a list

  abbrev pub ListTidy : Around → List Eqn → Type 0
  ListTidy G [] = ⊤
  ListTidy G (e ∷ es) = EqnTidy known G e × ListTidy G es

  pub list_tidy : (G : Around) (es : Eqns) → EqnsTidy known G es → ListTidy G (list_of_eqns es)
  list_tidy G no_eqn h = tt
  list_tidy G (more_eqns e es) h = (h.0, list_tidy G es h.1)

  pub row_tidy : (G : Around) (es : List Eqn) → ListTidy G es → EqnsTidy known G (eqns_of es)
  row_tidy G [] h = tt
  row_tidy G (e ∷ es) h = (h.0, row_tidy G es h.1)

  pub both_tidy : (G : Around) (es fs : List Eqn) → ListTidy G es → ListTidy G fs → ListTidy G (es ++ fs)
  both_tidy G [] fs h k = k
  both_tidy G (e ∷ es) fs h k = (h.0, both_tidy G es fs h.1 k)

-- ---- more constructors are known

module _ (known more : Scope) (m : More more known) where
  conses_more : (t : Ty) (cs : List Cons) → AllConses known t cs → AllConses more t cs
  conses_more t [] h = tt
  conses_more t (c ∷ cs) h = (cons_more more known m c t h.0, conses_more t cs h.1)

  path_more : (G : Around) (path : Clock) → PathAround known G path → PathAround more G path
  path_more G [] h = tt
  path_more G (step ∷ path) h = ((h.0.0, (h.0.1.0, cons_more more known m step.0 h.0.0 h.0.1.1)), path_more G path h.1)

  written_more : (G : Around) (o : Option Clock) → WrittenAround known G o → WrittenAround more G o
  written_more G None h = tt
  written_more G (Some path) h = path_more G path h

  decls_more : (G : Around) (ds : List Decl) → DeclsAround known G ds → DeclsAround more G ds
  decls_more G [] h = tt
  decls_more G (d ∷ ds) h = (written_more G d.clock h.0, decls_more G ds h.1)

  mutual
    block_more : (G : Around) (b : Block) → BlockTidy known G b → BlockTidy more G b
    block_more G (block ds es) h = (decls_more (among G ds) ds h.0, eqns_more (among G ds) es h.1)

    eqns_more : (G : Around) (es : Eqns) → EqnsTidy known G es → EqnsTidy more G es
    eqns_more G no_eqn h = tt
    eqns_more G (more_eqns e es) h = (eqn_more G e h.0, eqns_more G es h.1)

    eqn_more : (G : Around) (e : Eqn) → EqnTidy known G e → EqnTidy more G e
    eqn_more G (define s ys e) h = tt
    eqn_more G (switch s e arms) h = ((h.0.0, conses_more h.0.0 (of_arms arms) h.0.1), arms_more G arms h.1)
    eqn_more G (reset s b e) h = block_more G b h
    eqn_more G (automaton s ss) h = (h.0, states_more G ss h.1)

    arms_more : (G : Around) (arms : Arms) → ArmsTidy known G arms → ArmsTidy more G arms
    arms_more G no_arm h = tt
    arms_more G (more_arms c b s arms) h = (block_more G b h.0, arms_more G arms h.1)

    states_more : (G : Around) (ss : States) → StatesTidy known G ss → StatesTidy more G ss
    states_more G no_state h = tt
    states_more G (more_states f b until unless s ss) h = (block_more G b h.0, states_more G ss h.1)

  contract_more : (G : Around) (o : Option Contract) → ContractTidy known G o → ContractTidy more G o
  contract_more G None h = tt
  contract_more G (Some c) h = block_more G c.body h

  pub node_more : (n : Node) → NodeTidy known n → NodeTidy more n
  node_more n h =
      let I = interface_of n in
      ((decls_more I n.inputs h.0.0, decls_more I n.outputs h.0.1), (block_more (among I (controls_of n.contract)) n.body h.1.0, contract_more I n.contract h.1.1))
