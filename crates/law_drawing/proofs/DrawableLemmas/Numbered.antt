-- Numbering new names keeps nodes tidy.
use Rattle.std.proofs.Common.{◌≡◌, inl, inr, ℕ, ◌+◌, Bool, true, false, ◌&&◌, ◌||◌, if◌then◌else◌, List, [], ◌∷◌, refl, sym, ap, ◌∙◌, subst}
use Rattle.std.specs.Prelude.{IsTrue, IsFalse, Option, None, Some, option_map}
use Rattle.std.specs.Str.{bytes_eq}
use Rattle.hp_tree.specs.Blocks.{Decl, Block, block, Eqns, no_eqn, more_eqns, Eqn, define, switch, reset, automaton, Arms, no_arm, more_arms, States, no_state, more_states}
use Rattle.hp_tree.specs.Programs.{Contract}
use Rattle.hp_tree.specs.Meaning.{declares}
use Rattle.law_judged.specs.Typed.Scopes.{Scope}
use Rattle.law_values.specs.Valued.Judged.{of_arms}
use Rattle.law_judged.specs.Named.Scoped.{Names, no_names, also, BlockScoped, EqnsScoped, EqnScoped, ArmsScoped, StatesScoped, ContractScoped}
use Rattle.hp_expand.specs.NewNames.{is_new, numbered_name}
use Rattle.hp_expand.specs.Renaming.{renamed_decls}
use Rattle.hp_expand.specs.Numbering.{one_if_new, declaring_one, declaring, new_in_decls, new_in_block, new_in_eqn, same_name, in_block, in_eqns, in_eqn, in_arms, in_states, in_contract}
use Rattle.law_wellmade.specs.Tested.Around.{Around, among}
use Rattle.law_wellmade.proofs.TestedLemmas.Renamed.{declares_renamed, Becomes, decls_renamed}
use Rattle.law_wellmade.proofs.TestedLemmas.Numbered.{Seen, seen_more}
use Rattle.law_drawing.specs.Drawable.Tidy.{BlockTidy, EqnsTidy, EqnTidy, ArmsTidy, StatesTidy, ContractTidy}
use Rattle.law_drawing.proofs.DrawableLemmas.Renamed.{SameStates, states_same, arms_alike}

-- a name that is not declared is said as before
said_as_before : (to : List ℕ → List ℕ) (k : ℕ) (ds : List Decl) (x : List ℕ) → IsFalse (declares ds x) → declaring to k ds x ≡ to x
said_as_before to k [] x f = refl
said_as_before to k (d ∷ ds) x f =
    let q = neither (bytes_eq d.name x) (declares ds x) f in
    said_as_before (declaring_one to k d.name) (k + one_if_new d.name) ds x q.1 ∙ one (is_new d.name) (bytes_eq d.name x) q.0
  where
    neither : (a b : Bool) → IsFalse (a || b) → IsFalse a × IsFalse b
    neither true b h = absurd (cc)
    neither false b h = (refl, h)

    one : (a b : Bool) → IsFalse b → (if a && b then numbered_name x k else to x) ≡ to x
    one true true h = absurd (cc)
    one false true h = absurd (cc)
    one true false h = refl
    one false false h = refl

module _ (known : Scope) where
  arms_same : (to : List ℕ → List ℕ) (k : ℕ) (arms : Arms) → of_arms (in_arms to k arms) ≡ of_arms arms
  arms_same to k no_arm = refl
  arms_same to k (more_arms c b s arms) = ap (λ cs. c ∷ cs) (arms_same to (k + new_in_block b) arms)

  same_states : (to : List ℕ → List ℕ) (k : ℕ) (ss : States) → SameStates ss (in_states to k ss)
  same_states to k no_state = tt
  same_states to k (more_states f (block ds es) until unless s ss) = (refl, same_states to (k + new_in_block (block ds es)) ss)

  -- in a block that declares these names
  becomes_in : (seen : Names) (to : List ℕ → List ℕ) (k : ℕ) (G H : Around) (ds : List Decl) → ((x : List ℕ) → IsTrue (declares ds x) → IsTrue (seen x) → ⊥) → Seen seen G → Becomes to G H → Becomes (declaring to k ds) (among G ds) (among H (renamed_decls (declaring to k ds) ds))
  becomes_in seen to k G H ds fresh s b x t (inl h) = inl (declares_renamed (declaring to k ds) ds x t h)
  becomes_in seen to k G H ds fresh s b x t (inr h) = inr (subst (λ z. H z t) (sym (said_as_before to k ds x (not_declared (declares ds x) refl))) (b x t h))
    where
      not_declared : (q : Bool) → declares ds x ≡ q → q ≡ false
      not_declared true e = absurd (fresh x e (s x t h))
      not_declared false e = refl

  mutual
    pub block_numbered : (seen own : Names) (to : List ℕ → List ℕ) (k : ℕ) (G H : Around) (b : Block) → BlockScoped seen own b → Seen seen G → Becomes to G H → BlockTidy known G b → BlockTidy known H (in_block to k b)
    block_numbered seen own to k G H (block ds es) sc s b h =
        let to' = declaring to k ds in
        let m = becomes_in seen to k G H ds sc.1 s b in
        (decls_renamed known to' (among G ds) (among H (renamed_decls to' ds)) m ds h.0, eqns_numbered (also seen ds) (also own ds) to' (k + new_in_decls ds) (among G ds) (among H (renamed_decls to' ds)) es sc.3 (seen_more seen G ds s) m h.1)

    eqns_numbered : (seen own : Names) (to : List ℕ → List ℕ) (k : ℕ) (G H : Around) (es : Eqns) → EqnsScoped seen own es → Seen seen G → Becomes to G H → EqnsTidy known G es → EqnsTidy known H (in_eqns to k es)
    eqns_numbered seen own to k G H no_eqn sc s b h = tt
    eqns_numbered seen own to k G H (more_eqns e es) sc s b h = (eqn_numbered seen own to k G H e sc.0 s b h.0, eqns_numbered seen own to (k + new_in_eqn e) G H es sc.1 s b h.1)

    eqn_numbered : (seen own : Names) (to : List ℕ → List ℕ) (k : ℕ) (G H : Around) (e : Eqn) → EqnScoped seen own e → Seen seen G → Becomes to G H → EqnTidy known G e → EqnTidy known H (in_eqn to k e)
    eqn_numbered seen own to k G H (define a ys e) sc s b h = tt
    eqn_numbered seen own to k G H (switch a e arms) sc s b h = (arms_alike known arms (in_arms to k arms) (arms_same to k arms) h.0, arms_numbered seen own to k G H arms sc s b h.1)
    eqn_numbered seen own to k G H (reset a c e) sc s b h = block_numbered seen own to k G H c sc s b h
    eqn_numbered seen own to k G H (automaton a ss) sc s b h = (states_same ss (in_states to k ss) (same_states to k ss) h.0, states_numbered seen own to k G H ss sc s b h.1)

    arms_numbered : (seen own : Names) (to : List ℕ → List ℕ) (k : ℕ) (G H : Around) (arms : Arms) → ArmsScoped seen own arms → Seen seen G → Becomes to G H → ArmsTidy known G arms → ArmsTidy known H (in_arms to k arms)
    arms_numbered seen own to k G H no_arm sc s b h = tt
    arms_numbered seen own to k G H (more_arms c d a arms) sc s b h = (block_numbered seen own to k G H d sc.0 s b h.0, arms_numbered seen own to (k + new_in_block d) G H arms sc.1 s b h.1)

    states_numbered : (seen own : Names) (to : List ℕ → List ℕ) (k : ℕ) (G H : Around) (ss : States) → StatesScoped seen own ss → Seen seen G → Becomes to G H → StatesTidy known G ss → StatesTidy known H (in_states to k ss)
    states_numbered seen own to k G H no_state sc s b h = tt
    states_numbered seen own to k G H (more_states f (block ds es) until unless a ss) sc s b h =
        (block_numbered seen own to k G H (block ds es) sc.0 s b h.0, states_numbered seen own to (k + new_in_block (block ds es)) G H ss sc.1 s b h.1)

  pub contract_numbered : (seen : Names) (G : Around) (o : Option Contract) → ContractScoped seen o → Seen seen G → ContractTidy known G o → ContractTidy known G (option_map in_contract o)
  contract_numbered seen G None sc s h = tt
  contract_numbered seen G (Some c) sc s h = block_numbered seen no_names same_name 1 G G c.body sc s (λ x t g. g) h
