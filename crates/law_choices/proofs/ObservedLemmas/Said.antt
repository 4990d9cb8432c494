-- A part says its own names as they are.
use Rattle.std.proofs.Common.{◌≡◌, List, [], ◌∷◌, map, refl, sym, ap, ap₂}
use Rattle.std.specs.Prelude.{ℕ, Option, None, Some, option_map}
use Rattle.hp_base.specs.declared.span.Span.{Span}
use Rattle.hp_tree.specs.declared.block.Trans.{Trans}
use Rattle.hp_tree.specs.declared.decl.Cons.{Cons}
use Rattle.hp_tree.specs.Blocks.{Decl, Block, block, Eqns, no_eqn, more_eqns, Eqn, define, switch, reset, automaton, Arms, no_arm, more_arms, States, no_state, more_states}
use Rattle.hp_expand.specs.Numbering.{same_name}
use Rattle.hp_expand.specs.Renaming.{renamed_path, renamed_decl, renamed_decls, renamed_left, renamed_transition}
use Rattle.law_automata.proofs.LoweredLemmas.Nodes.{itself}
use Rattle.law_values.proofs.AcceptedLemmas.Moves.{BlockSaid, EqnsSaid, EqnSaid, ArmsSaid, StatesSaid}

map_same : {A : Type 0} (f : A → A) (same : (x : A) → f x ≡ x) (xs : List A) → map f xs ≡ xs
map_same f same [] = refl
map_same f same (x ∷ xs) = λ j. same x j ∷ map_same f same xs j

path_same : (o : Option (List (Cons × List ℕ))) → option_map (renamed_path same_name) o ≡ o
path_same None = refl
path_same (Some path) = ap Some (map_same (λ (s : Cons × List ℕ). (s.0, same_name s.1)) (λ s. refl) path)

decl_same : (d : Decl) → renamed_decl same_name d ≡ d
decl_same d = λ j. record d { clock = path_same d.clock j }

pub decls_same : (ds : List Decl) → renamed_decls same_name ds ≡ ds
decls_same ds = map_same (renamed_decl same_name) decl_same ds

left_same : (ys : List (List ℕ × Span)) → renamed_left same_name ys ≡ ys
left_same ys = map_same (λ (y : List ℕ × Span). (same_name y.0, y.1)) (λ y. refl) ys

tests_same : (ts : List Trans) → map (renamed_transition same_name) ts ≡ ts
tests_same ts = map_same (renamed_transition same_name) (λ (t : Trans). λ j. record t { cond = itself t.cond j }) ts

mutual
  block_said : (b : Block) → BlockSaid same_name b b
  block_said (block ds es) = (same_name, (es, (ap (λ z. block z es) (sym (decls_same ds)), ((λ x h. refl), eqns_said es))))

  pub eqns_said : (es : Eqns) → EqnsSaid same_name es es
  eqns_said no_eqn = refl
  eqns_said (more_eqns e es) = (e, (es, (refl, (eqn_said e, eqns_said es))))

  eqn_said : (e : Eqn) → EqnSaid same_name e e
  eqn_said (define s ys e) = ap₂ (λ y z. define s y z) (sym (left_same ys)) (sym (itself e))
  eqn_said (switch s e arms) = (arms, (ap (λ z. switch s z arms) (sym (itself e)), arms_said arms))
  eqn_said (reset s b e) = (b, (ap (λ z. reset s b z) (sym (itself e)), block_said b))
  eqn_said (automaton s ss) = (ss, (refl, states_said ss))

  arms_said : (arms : Arms) → ArmsSaid same_name arms arms
  arms_said no_arm = refl
  arms_said (more_arms c b s arms) = (b, (arms, (refl, (block_said b, arms_said arms))))

  states_said : (ss : States) → StatesSaid same_name ss ss
  states_said no_state = refl
  states_said (more_states f (block ds es) until unless s ss) = (
    same_name,
    (
      es,
      (
        ss,
        (
          λ j. more_states f (block (sym (decls_same ds) j) es) (sym (tests_same until) j) (sym (tests_same unless) j) s ss,
          ((λ x h. refl), (eqns_said es, states_said ss)),
        ),
      ),
    ),
  )
