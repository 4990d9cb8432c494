-- The nodes of a program that is well named and well typed are tidy.
use Rattle.std.proofs.Common.{◌≡◌, ◌⊎◌, inl, inr, ⊎_elim, ℕ, List, [], ◌∷◌, refl, sym, ap, subst, ◌∙◌}
use Rattle.std.specs.Prelude.{Bool, true, false, ◌||◌, IsFalse, Contains, Option, None, Some}
use Rattle.std.specs.Str.{bytes_eq}
use Rattle.hp_base.specs.declared.ty.Ty.{Ty}
use Rattle.hp_tree.specs.declared.decl.Cons.{Cons}
use Rattle.hp_tree.specs.declared.decl.Cons.TheVariants as cons
use Rattle.hp_tree.specs.Blocks.{Decl, Block, block, Eqns, no_eqn, more_eqns, Eqn, define, switch, reset, automaton, Arms, no_arm, more_arms, States, no_state, more_states}
use Rattle.hp_tree.specs.Programs.{Contract, Node}
use Rattle.hp_tree.specs.Instant.{Clock}
use Rattle.hp_tree.specs.Meaning.{controls_of}
use Rattle.hp_base.specs.Known.Known.{lookup, with_entry}
use Rattle.hp_names.specs.Names.{with_name, with_names, state_names}
use Rattle.hp_names.specs.Scopes as names
use Rattle.hp_names.specs.Rules.{AreNew, BlockIsNamed, EqnsAreNamed, EqnIsNamed, ArmsAreNamed, StatesAreNamed, ContractIsNamed, NodeIsNamed}
use Rattle.hp_typing.specs.Scopes.{with_variables, inside_node}
use Rattle.hp_typing.specs.Types.{type_of, enum_of, cons_type}
use Rattle.hp_typing.specs.Rules.{Fits, PathIsTyped, ClockIsTyped, DeclsAreTyped, BlockIsTyped, EqnsAreTyped, EqnIsTyped, ArmsAreTyped, StatesAreTyped, ContractIsTyped, NodeIsTyped}
use Rattle.law_judged.specs.Typed.Scopes.{Scope, NameScope}
use Rattle.law_judged.specs.Typed.Typed.{PathHasTypes, ClockHasTypes, DeclsHaveTypes, BlockHasTypes, EqnsHaveTypes, EqnHasTypes, ArmsHaveTypes, StatesHaveTypes, ContractHasTypes, NodeHasTypes}
use Rattle.law_judged.proofs.TypedLemmas.ExpressionLaws.{has_type}
use Rattle.law_judged.proofs.NamedLemmas.Sets.{same_name, kept_name, new_name}
use Rattle.law_values.specs.Valued.Judged.{of_arms, body_scope}
use Rattle.law_values.proofs.AcceptedLemmas.Views.{taken, entry_cases}
use Rattle.law_wellmade.specs.Tested.Around.{Around, nobody, Declares, among, AllConses, PathAround, WrittenAround, DeclsAround, interface_of}
use Rattle.law_drawing.specs.Carrying.Drawable.{is_state, StatesApart}
use Rattle.law_drawing.specs.Drawable.Tidy.{BlockTidy, EqnsTidy, EqnTidy, ArmsTidy, StatesTidy, ContractTidy, NodeTidy}

-- ---- states

no_state_known : (ss : States) (ns : List (List ℕ)) (x : List ℕ) → AreNew ns (state_names ss) → Contains ns x → IsFalse (is_state ss x)
no_state_known no_state ns x n k = refl
no_state_known (more_states f b until unless at ss) ns x n k = by (bytes_eq f x) refl (no_state_known ss (with_name ns f) x n.1 (kept_name ns f x k))
  where
    by : (q : Bool) → bytes_eq f x ≡ q → IsFalse (is_state ss x) → IsFalse (q || is_state ss x)
    by true e h = absurd (n.0 (subst (λ z. Contains ns z) (sym (same_name f x e)) k))
    by false e h = h

states_apart : (ss : States) (ns : List (List ℕ)) → AreNew ns (state_names ss) → StatesApart ss
states_apart no_state ns n = tt
states_apart (more_states f b until unless at ss) ns n = (no_state_known ss (with_name ns f) f n.1 (new_name ns f), states_apart ss (with_name ns f) n.1)

-- ---- the names of a scope, and those around

abbrev Complete : Around → Scope → Type 0
Complete G s = (x : List ℕ) (t : Ty) → lookup s.variables x ≡ Some t → G x t

from_scope : (ds : List Decl) (s : Scope) (x : List ℕ) (t : Ty) → lookup (with_variables s ds).variables x ≡ Some t → Declares ds x t ⊎ (lookup s.variables x ≡ Some t)
from_scope [] s x t h = inr h
from_scope (d ∷ ds) s x t h =
    ⊎_elim (λ k. inl (inr k)) (λ k. entry_cases s.variables d.name d.ty x t k (λ w. inr w) (λ e w z. inl (inl (sym e, w))))
    (from_scope ds (record s { variables = with_entry s.variables d.name d.ty }) x t h)

complete_more : (G : Around) (s : Scope) (ds : List Decl) → Complete G s → Complete (among G ds) (with_variables s ds)
complete_more G s ds c x t h = ⊎_elim (λ k. inl k) (λ k. inr (c x t k)) (from_scope ds s x t h)

fits_same : (t : Ty) (o : Option Ty) (u : Ty) → o ≡ Some u → Fits (Some t) o → o ≡ Some t
fits_same t o u e h = by o e h
  where
    by : (p : Option Ty) → p ≡ Some u → Fits (Some t) p → p ≡ Some t
    by None e h = absurd (cc)
    by (Some v) e h = ap Some (sym h)

-- ---- constructors that are known in a scope, as they are in another

pub constructors_in : (ds : List Decl) (s : Scope) → (with_variables s ds).constructors ≡ s.constructors
constructors_in [] s = refl
constructors_in (d ∷ ds) s = constructors_in ds (record s { variables = with_entry s.variables d.name d.ty })

abbrev pub Same : Scope → Scope → Type 0
Same known s = s.constructors ≡ known.constructors

pub same_more : (known s : Scope) (ds : List Decl) → Same known s → Same known (with_variables s ds)
same_more known s ds e = constructors_in ds s ∙ e

pub cons_same : (known s : Scope) → Same known s → (c : Cons) → cons_type s c ≡ cons_type known c
cons_same known s e cons.False = refl
cons_same known s e cons.True = refl
cons_same known s e (cons.Named x) = ap (λ z. enum_of (lookup z x)) e

module _ (known : Scope) where
  module _ (s : Scope) (same : Same known s) (G : Around) (all : Complete G s) where
    path_around : (path : Clock) → PathIsTyped s path → PathHasTypes s path → PathAround known G path
    path_around [] t h = tt
    path_around (step ∷ path) t h =
        let q = taken (lookup s.variables step.1) h.1.0 in
        let u = taken (cons_type s step.0) h.0 in
        let c = fits_same q.0 (cons_type s step.0) u.0 u.1 (subst (λ o. Fits o (cons_type s step.0)) q.1 t.0) in
        ((q.0, (all step.1 q.0 q.1, sym (cons_same known s same step.0) ∙ c)), path_around path t.1 h.1.1)

    written_around : (o : Option Clock) → ClockIsTyped s o → ClockHasTypes s o → WrittenAround known G o
    written_around None t h = tt
    written_around (Some path) t h = path_around path t h

    decls_around : (ds : List Decl) → DeclsAreTyped s ds → DeclsHaveTypes s ds → DeclsAround known G ds
    decls_around [] t h = tt
    decls_around (d ∷ ds) t h = (written_around d.clock t.0.1 h.0.1.1, decls_around ds t.1 h.1)

  arms_conses : (s : Scope) → Same known s → (t : Ty) (arms : Arms) → ArmsAreTyped s (Some t) arms → ArmsHaveTypes s arms → AllConses known t (of_arms arms)
  arms_conses s same t no_arm m h = tt
  arms_conses s same t (more_arms c b a arms) m h =
      let u = taken (cons_type s c) h.0 in
      (sym (cons_same known s same c) ∙ fits_same t (cons_type s c) u.0 u.1 m.0, arms_conses s same t arms m.1.1 h.1.1)

  mutual
    block_tidy : (b : Block) (n : NameScope) (s : Scope) (G : Around) → Same known s → Complete G s → BlockIsNamed n b → BlockIsTyped s b → BlockHasTypes s b → BlockTidy known G b
    block_tidy (block ds es) n s G e c m t h =
        let s' = with_variables s ds in
        let e' = same_more known s ds e in
        let c' = complete_more G s ds c in
        (decls_around s' e' (among G ds) c' ds t.0 h.0, eqns_tidy es (names.with_variables n ds) s' (among G ds) e' c' m.1 t.1 h.1)

    eqns_tidy : (es : Eqns) (n : NameScope) (s : Scope) (G : Around) → Same known s → Complete G s → EqnsAreNamed n es → EqnsAreTyped s es → EqnsHaveTypes s es → EqnsTidy known G es
    eqns_tidy no_eqn n s G e c m t h = tt
    eqns_tidy (more_eqns d es) n s G e c m t h = (eqn_tidy d n s G e c m.0 t.0 h.0, eqns_tidy es n s G e c m.1 t.1 h.1)

    eqn_tidy : (d : Eqn) (n : NameScope) (s : Scope) (G : Around) → Same known s → Complete G s → EqnIsNamed n d → EqnIsTyped s d → EqnHasTypes s d → EqnTidy known G d
    eqn_tidy (define a ys d) n s G e c m t h = tt
    eqn_tidy (switch a d arms) n s G e c m t h =
        let u = taken (type_of s d) (has_type s d h.0) in
        ((u.0, arms_conses s e u.0 arms (subst (λ o. ArmsAreTyped s o arms) u.1 t.1.1) h.1), arms_tidy arms (type_of s d) n s G e c m.1 t.1.1 h.1)
    eqn_tidy (reset a b d) n s G e c m t h = block_tidy b n s G e c m.0 t.0 h.0
    eqn_tidy (automaton a ss) n s G e c m t h = (states_apart ss [] m.0, states_tidy ss (with_names [] (state_names ss)) n s G e c m.1 t h)

    arms_tidy : (arms : Arms) (o : Option Ty) (n : NameScope) (s : Scope) (G : Around) → Same known s → Complete G s → ArmsAreNamed n arms → ArmsAreTyped s o arms → ArmsHaveTypes s arms → ArmsTidy known G arms
    arms_tidy no_arm o n s G e c m t h = tt
    arms_tidy (more_arms k b a arms) o n s G e c m t h = (block_tidy b n s G e c m.1.0 t.1.0 h.1.0, arms_tidy arms o n s G e c m.1.1 t.1.1 h.1.1)

    states_tidy : (ss : States) (all : List (List ℕ)) (n : NameScope) (s : Scope) (G : Around) → Same known s → Complete G s → StatesAreNamed n all ss → StatesAreTyped s ss → StatesHaveTypes s ss → StatesTidy known G ss
    states_tidy no_state all n s G e c m t h = tt
    states_tidy (more_states f b until unless a ss) all n s G e c m t h = (block_tidy b n s G e c m.0 t.0 h.0, states_tidy ss all n s G e c m.1.1.1 t.1.1.1 h.1.1.1)

  contract_tidy : (o : Option Contract) (n : NameScope) (s : Scope) (G : Around) → Same known s → Complete G s → ContractIsNamed n o → ContractIsTyped s o → ContractHasTypes s o → ContractTidy known G o
  contract_tidy None n s G e c m t h = tt
  contract_tidy (Some k) n s G e c m t h = block_tidy k.body n s G e c m.0 t.0 h.0

-- in the scope in which a node stands
pub node_tidy : (s : Scope) (n : NameScope) (y : Node) → ((x : List ℕ) → lookup s.variables x ≡ None) → NodeIsNamed n y → NodeIsTyped s y → NodeHasTypes s y → NodeTidy s y
node_tidy s n y empty m t h =
    let cs = controls_of y.contract in
    let r = inside_node s y in
    let I = interface_of y in
    let e : Same s r = same_more s (with_variables s y.inputs) y.outputs (same_more s s y.inputs refl) in
    let c : Complete I r = complete_more (among nobody y.inputs) (with_variables s y.inputs) y.outputs (complete_more nobody s y.inputs (λ x u l. none x u l)) in (
      (decls_around s r e I c y.inputs t.0 h.0, decls_around s r e I c y.outputs t.1.0 h.1.0),
      (
        block_tidy s y.body (names.with_variables (names.inside_node n y) cs) (body_scope s y) (among I cs) (same_more s r cs e) (complete_more I r cs c) m.1.1.1.1.1.1 t.1.1.1.1 h.1.1.1.1,
        contract_tidy s y.contract (names.inside_node n y) r I e c m.1.1.1.1.0 t.1.1.0 h.1.1.0,
      ),
    )
  where
    none : (x : List ℕ) (u : Ty) → lookup s.variables x ≡ Some u → ⊥
    none x u l = absurd (let q = sym (empty x) ∙ l in cc)
