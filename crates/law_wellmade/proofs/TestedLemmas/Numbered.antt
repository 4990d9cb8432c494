-- Numbering new names keeps tests fitting.
use Rattle.std.proofs.Common.{◌≡◌, inl, inr, ℕ, ◌+◌, Bool, true, false, ◌&&◌, ◌||◌, if◌then◌else◌, List, [], ◌∷◌, refl, sym, ap, ◌∙◌, subst}
use Rattle.std.specs.Prelude.{IsTrue, IsFalse, Option, None, Some, option_map}
use Rattle.std.specs.Str.{bytes_eq}
use Rattle.hp_base.specs.declared.ty.Ty.{Ty}
use Rattle.hp_tree.specs.Expressions.{Expr}
use Rattle.hp_tree.specs.Blocks.{Decl, Block, block, Eqns, no_eqn, more_eqns, Eqn, define, switch, reset, automaton, Arms, no_arm, more_arms, States, no_state, more_states}
use Rattle.hp_tree.specs.Programs.{Contract}
use Rattle.hp_tree.specs.Meaning.{declares}
use Rattle.law_judged.specs.Typed.Scopes.{Scope}
use Rattle.law_values.specs.Valued.Judged.{of_arms}
use Rattle.law_judged.specs.Named.Scoped.{Names, no_names, also, BlockScoped, EqnsScoped, EqnScoped, ArmsScoped, StatesScoped, ContractScoped}
use Rattle.law_judged.proofs.NamedLemmas.Sets.{or_left, or_right, name_same}
use Rattle.hp_expand.specs.NewNames.{is_new, numbered_name}
use Rattle.hp_expand.specs.Renaming.{renamed, renamed_decls}
use Rattle.hp_expand.specs.Numbering.{one_if_new, declaring_one, declaring, new_in_decls, new_in_block, new_in_eqn, same_name, in_block, in_eqns, in_eqn, in_arms, in_states, declaring_in, in_contract}
use Rattle.law_wellmade.specs.Tested.Apart.{ConditionApart}
use Rattle.law_wellmade.specs.Tested.Around.{Around, Declares, among, BlockAround, EqnsAround, EqnAround, ArmsAround, StatesAround, ContractAround}
use Rattle.law_wellmade.proofs.TestedLemmas.Renamed.{apart_renamed, tests_renamed, declares_renamed, Becomes, decls_renamed, one_type}

-- a name that is not declared is said as before
said_as_before : (to : List ℕ → List ℕ) (k : ℕ) (ds : List Decl) (x : List ℕ) → IsFalse (declares ds x) → declaring to k ds x ≡ to x
said_as_before to k [] x f = refl
said_as_before to k (d ∷ ds) x f =
    let q = neither (bytes_eq d.name x) (declares ds x) f in
    said_as_before (declaring_one to k d.name) (k + one_if_new d.name) ds x q.1 ∙ one (is_new d.name) (bytes_eq d.name x) q.0
  where
    neither : (a b : Bool) → IsFalse (a || b) → IsFalse a × IsFalse b
    neither true b h = absurd (cc)
    neither false b h = (refl, h)

    one : (a b : Bool) → IsFalse b → (if a && b then numbered_name x k else to x) ≡ to x
    one true true h = absurd (cc)
    one false true h = absurd (cc)
    one true false h = refl
    one false false h = refl

declared : (ds : List Decl) (x : List ℕ) (t : Ty) → Declares ds x t → IsTrue (declares ds x)
declared [] x t h = absurd h
declared (d ∷ ds) x t (inl h) = or_left (bytes_eq d.name x) (declares ds x) (name_same d.name x h.0)
declared (d ∷ ds) x t (inr h) = or_right (bytes_eq d.name x) (declares ds x) (declared ds x t h)

-- each name around is seen
abbrev pub Seen : Names → Around → Type 0
Seen seen G = (x : List ℕ) (t : Ty) → G x t → IsTrue (seen x)

pub seen_more : (seen : Names) (G : Around) (ds : List Decl) → Seen seen G → Seen (also seen ds) (among G ds)
seen_more seen G ds s x t (inl h) = or_left (declares ds x) (seen x) (declared ds x t h)
seen_more seen G ds s x t (inr h) = or_right (declares ds x) (seen x) (s x t h)

module _ (known : Scope) where
  arms_same : (to : List ℕ → List ℕ) (k : ℕ) (arms : Arms) → of_arms (in_arms to k arms) ≡ of_arms arms
  arms_same to k no_arm = refl
  arms_same to k (more_arms c b s arms) = ap (λ cs. c ∷ cs) (arms_same to (k + new_in_block b) arms)

  -- in a block that declares these names
  becomes_in : (seen : Names) (to : List ℕ → List ℕ) (k : ℕ) (G H : Around) (ds : List Decl) → ((x : List ℕ) → IsTrue (declares ds x) → IsTrue (seen x) → ⊥) → Seen seen G → Becomes to G H → Becomes (declaring to k ds) (among G ds) (among H (renamed_decls (declaring to k ds) ds))
  becomes_in seen to k G H ds fresh s b x t (inl h) = inl (declares_renamed (declaring to k ds) ds x t h)
  becomes_in seen to k G H ds fresh s b x t (inr h) = inr (subst (λ z. H z t) (sym (said_as_before to k ds x (not_declared (declares ds x) refl))) (b x t h))
    where
      not_declared : (q : Bool) → declares ds x ≡ q → q ≡ false
      not_declared true e = absurd (fresh x e (s x t h))
      not_declared false e = refl

  mutual
    pub block_numbered : (seen own : Names) (to : List ℕ → List ℕ) (k : ℕ) (G H : Around) (b : Block) → BlockScoped seen own b → Seen seen G → Becomes to G H → BlockAround known G b → BlockAround known H (in_block to k b)
    block_numbered seen own to k G H (block ds es) sc s b h =
        let to' = declaring to k ds in
        let m = becomes_in seen to k G H ds sc.1 s b in
        (decls_renamed known to' (among G ds) (among H (renamed_decls to' ds)) m ds h.0, eqns_numbered (also seen ds) (also own ds) to' (k + new_in_decls ds) (among G ds) (among H (renamed_decls to' ds)) es sc.3 (seen_more seen G ds s) m h.1)

    eqns_numbered : (seen own : Names) (to : List ℕ → List ℕ) (k : ℕ) (G H : Around) (es : Eqns) → EqnsScoped seen own es → Seen seen G → Becomes to G H → EqnsAround known G es → EqnsAround known H (in_eqns to k es)
    eqns_numbered seen own to k G H no_eqn sc s b h = tt
    eqns_numbered seen own to k G H (more_eqns e es) sc s b h = (eqn_numbered seen own to k G H e sc.0 s b h.0, eqns_numbered seen own to (k + new_in_eqn e) G H es sc.1 s b h.1)

    eqn_numbered : (seen own : Names) (to : List ℕ → List ℕ) (k : ℕ) (G H : Around) (e : Eqn) → EqnScoped seen own e → Seen seen G → Becomes to G H → EqnAround known G e → EqnAround known H (in_eqn to k e)
    eqn_numbered seen own to k G H (define a ys e) sc s b h = apart_renamed to e h
    eqn_numbered seen own to k G H (switch a e arms) sc s b h = (apart_renamed to e h.0, (one_type known arms (in_arms to k arms) (arms_same to k arms) h.1.0, arms_numbered seen own to k G H arms sc s b h.1.1))
    eqn_numbered seen own to k G H (reset a c e) sc s b h = (apart_renamed to e h.0, block_numbered seen own to k G H c sc s b h.1)
    eqn_numbered seen own to k G H (automaton a ss) sc s b h = states_numbered seen own to k G H ss sc s b h

    arms_numbered : (seen own : Names) (to : List ℕ → List ℕ) (k : ℕ) (G H : Around) (arms : Arms) → ArmsScoped seen own arms → Seen seen G → Becomes to G H → ArmsAround known G arms → ArmsAround known H (in_arms to k arms)
    arms_numbered seen own to k G H no_arm sc s b h = tt
    arms_numbered seen own to k G H (more_arms c d a arms) sc s b h = (block_numbered seen own to k G H d sc.0 s b h.0, arms_numbered seen own to (k + new_in_block d) G H arms sc.1 s b h.1)

    states_numbered : (seen own : Names) (to : List ℕ → List ℕ) (k : ℕ) (G H : Around) (ss : States) → StatesScoped seen own ss → Seen seen G → Becomes to G H → StatesAround known G ss → StatesAround known H (in_states to k ss)
    states_numbered seen own to k G H no_state sc s b h = tt
    states_numbered seen own to k G H (more_states f (block ds es) until unless a ss) sc s b h =
        (block_numbered seen own to k G H (block ds es) sc.0 s b h.0, (tests_renamed (declaring to k ds) until h.1.0, (tests_renamed to unless h.1.1.0, states_numbered seen own to (k + new_in_block (block ds es)) G H ss sc.1 s b h.1.1.1)))

  pub contract_numbered : (seen : Names) (G : Around) (o : Option Contract) → ContractScoped seen o → Seen seen G → ContractAround known G o → ContractAround known G (option_map in_contract o)
  contract_numbered seen G None sc s h = tt
  contract_numbered seen G (Some c) sc s h =
      let to = declaring_in c.body in
      (block_numbered seen no_names same_name 1 G G c.body sc s (λ x t g. g) h.0, (condition_renamed to c.assume h.1.0, condition_renamed to c.enforce h.1.1))
    where
      condition_renamed : (to : List ℕ → List ℕ) (o : Option Expr) → ConditionApart o → ConditionApart (option_map (renamed to) o)
      condition_renamed to None k = tt
      condition_renamed to (Some e) k = apart_renamed to e k
