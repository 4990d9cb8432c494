-- The types of the variables of a ready program have constants.
use Rattle.std.proofs.Common.{◌≡◌, ℕ, ◌⊎◌, inl, inr, List, [], ◌∷◌, refl, sym, ap, ◌∙◌, subst, arith}
use Rattle.std.specs.Prelude.{Contains, Option, None, Some}
use Rattle.hp_base.specs.declared.span.Span.{Span}
use Rattle.hp_base.specs.declared.ty.Ty.{Ty}
use Rattle.hp_base.specs.declared.ty.Ty.TheVariants as ty
use Rattle.hp_base.specs.declared.ty.Const.{Const}
use Rattle.hp_base.specs.declared.ty.Const.TheVariants as const
use Rattle.hp_tree.specs.declared.program.Item.{Item}
use Rattle.hp_tree.specs.declared.program.Item.TheVariants.{TypeItem, NodeItem}
use Rattle.hp_tree.specs.Blocks.{Decl, Block, block, Eqns, no_eqn, more_eqns, Eqn, define, switch, reset, automaton, Arms, no_arm, more_arms, States, no_state, more_states}
use Rattle.hp_tree.specs.Programs.{TypeDecl, Contract, Node}
use Rattle.hp_tree.specs.Meaning.{controls_of}
use Rattle.hp_base.specs.Known.Known.{lookup, with_entry}
use Rattle.hp_names.specs.Names.{with_name, with_names, names_at, state_names}
use Rattle.hp_names.specs.Scopes as names
use Rattle.hp_names.specs.Rules.{TyIsNamed, DeclsAreNamed, BlockIsNamed, EqnsAreNamed, EqnIsNamed, ArmsAreNamed, StatesAreNamed, ContractIsNamed, NodeIsNamed, AreNew, ItemsAreNamed}
use Rattle.hp_typing.specs.Scopes.{nothing, with_type, with_constructors}
use Rattle.hp_typing.specs.Types.{enum_of, constant_type}
use Rattle.law_judged.specs.Named.Scopes.{Scope, NameScope}
use Rattle.law_judged.proofs.NamedLemmas.Sets.{kept_name, new_name}
use Rattle.hp_expand.specs.Numbering.{no_node, with_node, replaced_node, replaced_items, replaced}
use Rattle.hp_meaning.specs.Clocking.Clocking.{node_with_clocks}
use Rattle.law_values.specs.Valued.Values.{scope_behind}
use Rattle.law_values.specs.Accepted.Written.{AreClocked}
use Rattle.law_values.proofs.AcceptedLemmas.Views.{entry_new, entry_cases, entry_kept}
use Rattle.hp_automata.specs.Lowering.{Enumerations, enumerations, first_of, first_constructor}
use Rattle.law_automata.proofs.LowerableLemmas.NeatTexts.{name_cases}
use Rattle.law_automata.proofs.LowerableLemmas.Texts.{clocked_of, onto}
use Rattle.law_automata.specs.Readied.Constants.{HasConstant, DeclTypes, BlockTypes, EqnsTypes, EqnTypes, ArmsTypes, StatesTypes, ContractTypes}
use Rattle.law_automata.specs.Readied.Sound.{ConstantsBehind, HasOne, HaveConstructors, ReadyConstantsLaw}
use Rattle.law_automata.proofs.ReadiedLemmas.TypesKept.{AllTypes, node_weaker, all_weaker, node_replaced, with_types, node_clocked}

-- ---- the types of declarations

types_of_variables : (s : NameScope) (ds : List Decl) → (names.with_variables s ds).types ≡ s.types
types_of_variables s [] = refl
types_of_variables s (d ∷ ds) = types_of_variables (names.with_variable s d d.last) ds ∙ one d.last
  where
    one : (o : Option Const) → (names.with_variable s d o).types ≡ s.types
    one None = refl
    one (Some c) = refl

module _ (Q : Ty → Type 0) (bool : Q ty.Bool) (int : Q ty.Int) where
  abbrev Fine : NameScope → Type 0
  Fine s = (t : List ℕ) → Contains s.types t → Q (ty.Enum t)

  fine_more : (s : NameScope) (ds : List Decl) → Fine s → Fine (names.with_variables s ds)
  fine_more s ds f t h = f t (subst (λ z. Contains z t) (types_of_variables s ds) h)

  type_fine : (s : NameScope) → Fine s → (t : Ty) → TyIsNamed s t → Q t
  type_fine s f ty.Bool h = bool
  type_fine s f ty.Int h = int
  type_fine s f (ty.Enum t) h = f t h

  decls_fine : (s : NameScope) → Fine s → (ds : List Decl) → DeclsAreNamed s ds → DeclTypes Q ds
  decls_fine s f [] h = tt
  decls_fine s f (d ∷ ds) h = (type_fine s f d.ty h.0.0, decls_fine s f ds h.1)

  mutual
    block_fine : (s : NameScope) → Fine s → (b : Block) → BlockIsNamed s b → BlockTypes Q b
    block_fine s f (block ds es) h = (decls_fine (names.with_variables s ds) (fine_more s ds f) ds h.0.1, eqns_fine (names.with_variables s ds) (fine_more s ds f) es h.1)

    eqns_fine : (s : NameScope) → Fine s → (es : Eqns) → EqnsAreNamed s es → EqnsTypes Q es
    eqns_fine s f no_eqn h = tt
    eqns_fine s f (more_eqns e es) h = (eqn_fine s f e h.0, eqns_fine s f es h.1)

    eqn_fine : (s : NameScope) → Fine s → (e : Eqn) → EqnIsNamed s e → EqnTypes Q e
    eqn_fine s f (define w ys e) h = tt
    eqn_fine s f (switch w e arms) h = arms_fine s f arms h.1
    eqn_fine s f (reset w b e) h = block_fine s f b h.0
    eqn_fine s f (automaton w ss) h = states_fine s f (with_names [] (state_names ss)) ss h.1

    arms_fine : (s : NameScope) → Fine s → (arms : Arms) → ArmsAreNamed s arms → ArmsTypes Q arms
    arms_fine s f no_arm h = tt
    arms_fine s f (more_arms c b w arms) h = (block_fine s f b h.1.0, arms_fine s f arms h.1.1)

    states_fine : (s : NameScope) → Fine s → (states : List (List ℕ)) (ss : States) → StatesAreNamed s states ss → StatesTypes Q ss
    states_fine s f states no_state h = tt
    states_fine s f states (more_states q b until unless w ss) h = (block_fine s f b h.0, states_fine s f states ss h.1.1.1)

  contract_fine : (s : NameScope) → Fine s → (o : Option Contract) → ContractIsNamed s o → ContractTypes Q o
  contract_fine s f None h = tt
  contract_fine s f (Some c) h = block_fine s f c.body h.0

  node_fine : (s : NameScope) → Fine s → (n : Node) → NodeIsNamed s n → AllTypes Q n
  node_fine s f n h =
      let in_inputs = names.with_variables s n.inputs in
      let in_node = names.inside_node s n in
      let g : Fine in_node = fine_more in_inputs n.outputs (fine_more s n.inputs f) in (
        decls_fine in_node g n.inputs h.1.1.0,
        (
          decls_fine in_node g n.outputs h.1.1.1.0,
          (
            contract_fine in_node g n.contract h.1.1.1.1.0,
            block_fine (names.with_variables in_node (controls_of n.contract)) (fine_more in_node (controls_of n.contract) g) n.body h.1.1.1.1.1.1,
          ),
        ),
      )

-- ---- constructors

constructors_kept : (cs : List (List ℕ)) (known : List (List ℕ × List ℕ)) (u c t : List ℕ) → lookup known c ≡ Some t → lookup (with_constructors known u cs) c ≡ Some t
constructors_kept [] known u c t h = h
constructors_kept (x ∷ cs) known u c t h = constructors_kept cs (with_entry known x u) u c t (entry_kept known x u c t h)

abbrev Among : List (List ℕ × List ℕ) → List (List ℕ) → Type 0
Among known names = (c u : List ℕ) → lookup known c ≡ Some u → Contains names c

among_more : (cs : List (List ℕ)) (at : Span) (known : List (List ℕ × List ℕ)) (names : List (List ℕ)) (t : List ℕ) → Among known names → Among (with_constructors known t cs) (with_names names (names_at at cs))
among_more [] at known names t f = f
among_more (c ∷ cs) at known names t f =
    among_more cs at (with_entry known c t) (with_name names c) t
    (λ x u h. entry_cases known c t x u h (λ k. kept_name names c x (f x u k)) (λ e w z. subst (λ r. Contains (with_name names c) r) (sym e) (new_name names c)))

none_among : {A : Type 0} (known : List (List ℕ × A)) (names : List (List ℕ)) (c : List ℕ) → ((u : A) → lookup known c ≡ Some u → Contains names c) → (Contains names c → ⊥) → lookup known c ≡ None
none_among {A} known names c f n = by (lookup known c) refl
  where
    by : (o : Option A) → lookup known c ≡ o → lookup known c ≡ None
    by None e = e
    by (Some u) e = absurd (n (f u e))

-- ---- enumerations that are known have a constructor that is known

record HasFirst (s : Scope) (t : List ℕ) : Type 0 where
  declared : TypeDecl
  found : lookup s.types t ≡ Some declared
  first : List ℕ
  others : List (List ℕ)
  are : declared.cons ≡ first ∷ others
  known : lookup s.constructors first ≡ Some t

record Sure (n : NameScope) (s : Scope) : Type 0 where
  firsts : (t : List ℕ) → Contains n.types t → HasFirst s t
  types : (t : List ℕ) (d : TypeDecl) → lookup s.types t ≡ Some d → Contains n.types t
  constructors : Among s.constructors n.constructors

sure_type : (n : NameScope) (s : Scope) (t : TypeDecl) → Sure n s → (Contains n.types t.name → ⊥) → AreNew n.constructors (names_at t.span t.cons) → HasOne t.cons → Sure (names.behind n (TypeItem t)) (with_type s t)
sure_type n s t p new apart one =
    record {
      firsts = λ x h. cases x (name_cases n.types t.name x h);
      types = λ x d h. entry_cases s.types t.name t x d h (λ k. kept_name n.types t.name x (p.types x d k)) (λ e w z. subst (λ r. Contains (with_name n.types t.name) r) (sym e) (new_name n.types t.name));
      constructors = among_more t.cons t.span s.constructors n.constructors t.name p.constructors;
    }
  where
    fresh : lookup s.types t.name ≡ None
    fresh = none_among s.types n.types t.name (λ d h. p.types t.name d h) new

    this : (cs : List (List ℕ)) → t.cons ≡ cs → HasOne cs → AreNew n.constructors (names_at t.span cs) → HasFirst (with_type s t) t.name
    this [] e h a = absurd h
    this (c ∷ cs) e h a = record {
      declared = t;
      found = entry_new s.types t.name t fresh;
      first = c;
      others = cs;
      are = e;
      known = ap (λ z. lookup (with_constructors s.constructors t.name z) c) e
          ∙ constructors_kept cs (with_entry s.constructors c t.name) t.name c t.name (entry_new s.constructors c t.name (none_among s.constructors n.constructors c (λ u k. p.constructors c u k) a.0));
    }

    cases : (x : List ℕ) → (t.name ≡ x) ⊎ Contains n.types x → HasFirst (with_type s t) x
    cases x (inl e) = subst (HasFirst (with_type s t)) e (this t.cons refl one apart)
    cases x (inr k) =
        let f = p.firsts x k in
        record {
          declared = f.declared;
          found = entry_kept s.types t.name t x f.declared f.found;
          first = f.first;
          others = f.others;
          are = f.are;
          known = constructors_kept t.cons s.constructors t.name f.first x f.known;
        }

-- ---- constants

enumerations_kept : (known : Enumerations) (items : List Item) (x : List ℕ) (d : TypeDecl) → lookup known x ≡ Some d → lookup (enumerations known items) x ≡ Some d
enumerations_kept known [] x d h = h
enumerations_kept known (TypeItem t ∷ items) x d h = enumerations_kept (with_entry known t.name t) items x d (entry_kept known t.name t x d h)
enumerations_kept known (NodeItem n ∷ items) x d h = enumerations_kept known items x d h

first_constant : (enums : Enumerations) (s : Scope) (items : List Item) → enums ≡ enumerations s.types items → (t : List ℕ) → HasFirst s t → HasConstant enums s (ty.Enum t)
first_constant enums s items e t f =
    ap (λ o. constant_type s (const.E (first_constructor o))) (ap (λ z. lookup z t) e ∙ enumerations_kept s.types items t f.declared f.found) ∙ ap (λ cs. constant_type s (const.E (first_of cs))) f.are ∙ ap enum_of f.known

constant_more : (enums : Enumerations) (s : Scope) (t : TypeDecl) (u : Ty) → HasConstant enums s u → HasConstant enums (with_type s t) u
constant_more enums s t ty.Bool h = refl
constant_more enums s t ty.Int h = refl
constant_more enums s t (ty.Enum x) h = by (lookup s.constructors (first_constructor (lookup enums x))) refl h
  where
    by : (o : Option (List ℕ)) → lookup s.constructors (first_constructor (lookup enums x)) ≡ o → enum_of o ≡ Some (ty.Enum x) → enum_of (lookup (with_constructors s.constructors t.name t.cons) (first_constructor (lookup enums x))) ≡ Some (ty.Enum x)
    by None e k = absurd (cc)
    by (Some v) e k = ap enum_of (constructors_kept t.cons s.constructors t.name (first_constructor (lookup enums x)) v e) ∙ k

constant_there : (enums : Enumerations) (s r : Scope) → r.constructors ≡ s.constructors → (u : Ty) → HasConstant enums s u → HasConstant enums r u
constant_there enums s r e ty.Bool h = refl
constant_there enums s r e ty.Int h = refl
constant_there enums s r e (ty.Enum x) h = ap (λ z. enum_of (lookup z (first_constructor (lookup enums x)))) e ∙ h

-- ---- items

along : (enums : Enumerations) (n : NameScope) (s : Scope) (nodes : List ℕ → Node) → ((f : List ℕ) → AllTypes (HasConstant enums s) (nodes f)) → Sure n s → (xs : List Item) → enums ≡ enumerations s.types xs → ItemsAreNamed n xs → HaveConstructors xs → (ys done : List Item)
    → AreClocked (replaced_items nodes xs) ys → (scope_behind done).constructors ≡ s.constructors → ConstantsBehind enums done → ConstantsBehind enums (onto ys done)
along enums n s nodes known p [] e h o [] done c q a = a
along enums n s nodes known p [] e h o (y ∷ ys) done c q a = absurd c
along enums n s nodes known p (TypeItem t ∷ xs) e h o [] done c q a = absurd c
along enums n s nodes known p (TypeItem t ∷ xs) e h o (y ∷ ys) done c q a =
    subst (λ z. ConstantsBehind enums (onto ys (z ∷ done))) (sym c.0)
    (along enums (names.behind n (TypeItem t)) (with_type s t) nodes (λ f. all_weaker (HasConstant enums s) (HasConstant enums (with_type s t)) (constant_more enums s t) (nodes f) (known f)) (sure_type n s t p h.0.0 h.0.1 o.0) xs e h.1 o.1 ys
    (TypeItem t ∷ done) c.1 (ap (λ z. with_constructors z t.name t.cons) q) a)
along enums n s nodes known p (NodeItem m ∷ xs) e h o [] done c q a = absurd c
along enums n s nodes known p (NodeItem m ∷ xs) e h o (y ∷ ys) done c q a =
    let P = HasConstant enums s in
    let own : AllTypes P m = node_fine P refl refl n (λ t k. first_constant enums s (NodeItem m ∷ xs) e t (p.firsts t k)) m h.0.1 in
    let made : AllTypes P (replaced_node nodes m) = node_replaced P nodes known m own in
    let here = node_with_clocks c.0.0 (replaced_node nodes m) in
    let written : AllTypes P here = node_clocked P c.0.0 (replaced_node nodes m) made in
    subst (λ z. ConstantsBehind enums (onto ys (z ∷ done))) (sym c.0.1.1)
    (along enums (names.behind n (NodeItem m)) s (with_node nodes (replaced_node nodes m)) (with_types P nodes known (replaced_node nodes m) made) (record { firsts = p.firsts; types = p.types; constructors = p.constructors }) xs e h.1 o ys
    (NodeItem here ∷ done) c.1 q (node_weaker P (HasConstant enums (scope_behind done)) (constant_there enums s (scope_behind done) q) here written.1, a))

enumerations_same : (known : Enumerations) (nodes : List ℕ → Node) (xs ys : List Item) → AreClocked (replaced_items nodes xs) ys → enumerations known ys ≡ enumerations known xs
enumerations_same known nodes [] [] c = refl
enumerations_same known nodes [] (y ∷ ys) c = absurd c
enumerations_same known nodes (TypeItem t ∷ xs) [] c = absurd c
enumerations_same known nodes (TypeItem t ∷ xs) (y ∷ ys) c = ap (λ z. enumerations known (z ∷ ys)) c.0 ∙ enumerations_same (with_entry known t.name t) nodes xs ys c.1
enumerations_same known nodes (NodeItem m ∷ xs) [] c = absurd c
enumerations_same known nodes (NodeItem m ∷ xs) (y ∷ ys) c = ap (λ z. enumerations known (z ∷ ys)) c.0.1.1 ∙ enumerations_same known (with_node nodes (replaced_node nodes m)) xs ys c.1

pub ready_constants_law : ReadyConstantsLaw
ready_constants_law program after r o =
    let clocked = clocked_of (replaced program) after r.clocks in
    along (enumerations [] after) names.nothing nothing no_node (λ f. (tt, (tt, (tt, (tt, tt)))))
    (record { firsts = λ t h. absurd (none t h); types = λ t d h. absurd (cc); constructors = λ c u h. absurd (cc) })
    program (enumerations_same [] no_node program after clocked) r.named o after [] clocked refl tt
  where
    none : (t : List ℕ) → Contains [] t → ⊥
    none t (k, h, e) = omega (arith, h)
