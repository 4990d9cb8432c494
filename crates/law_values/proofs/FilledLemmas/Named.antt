-- In a program whose names are declared, and whose enumerations have constructors, each declaration has a type with a first value.
use Rattle.std.proofs.Common.{◌≡◌, ℕ, zero, suc, List, [], ◌∷◌, ◌++◌, refl, sym, ap, subst, ◌∙◌, arith, ◌⊎◌, ⊎_elim}
use Rattle.std.specs.Prelude.{Bool, true, false, if◌then◌else◌, Option, None, Some}
use Rattle.std.specs.List.{Contains}
use Rattle.std.proofs.lemmas.List.Elements.{Contains-append_cases}
use Rattle.std.specs.Str.{bytes_eq}
use Rattle.hp_base.specs.declared.ty.Ty.{Ty}
use Rattle.hp_base.specs.declared.ty.Ty.TheVariants as ty
use Rattle.hp_base.specs.declared.ty.Const.{Const}
use Rattle.hp_tree.specs.declared.program.Item.{Item}
use Rattle.hp_tree.specs.declared.program.Item.TheVariants.{TypeItem, NodeItem}
use Rattle.hp_tree.specs.Blocks.{Decl, Block, block, Eqns, no_eqn, more_eqns, Eqn, define, switch, reset, automaton, Arms, no_arm, more_arms, States, no_state, more_states}
use Rattle.hp_tree.specs.Programs.{TypeDecl, Contract, Node}
use Rattle.hp_tree.specs.Meaning.{types_of, controls_of}
use Rattle.hp_tree.specs.Values.{constructors_of}
use Rattle.law_judged.specs.Named.Scopes.{NameScope}
use Rattle.law_judged.specs.Named.Scoped.{EachNode}
use Rattle.law_judged.proofs.NamedLemmas.Sets.{name_same}
use Rattle.hp_names.specs.Names.{has, with_name}
use Rattle.hp_names.specs.Scopes.{nothing, with_variable, with_variables, inside_node, behind}
use Rattle.hp_names.specs.Rules.{TyIsNamed, DeclsAreNamed, BlockIsNamed, EqnsAreNamed, EqnIsNamed, ArmsAreNamed, StatesAreNamed, ContractIsNamed, NodeIsNamed, ItemsAreNamed, WellNamed}
use Rattle.law_values.specs.Filled.Firsts.{HasFirst, DeclsHaveFirsts, BlockHasFirsts, EqnsHaveFirsts, EqnHasFirsts, ArmsHaveFirsts, StatesHaveFirsts, ContractHasFirsts, NodeHasFirsts, TypesHaveConstructors}
use Rattle.law_values.proofs.FilledLemmas.Values.{first_is}
use Rattle.law_values.proofs.FilledLemmas.Constructors.{behind_one}

module _ (types : List TypeDecl) where
  -- Each type that is in scope has a first value.
  abbrev Known : NameScope → Type 0
  Known s = (t : List ℕ) → Contains s.types t → HasFirst types (ty.Enum t)

  known_one : (s : NameScope) (d : Decl) (o : Option Const) → Known s → Known (with_variable s d o)
  known_one s d None k = k
  known_one s d (Some c) k = k

  known_inside : (ds : List Decl) (s : NameScope) → Known s → Known (with_variables s ds)
  known_inside [] s k = k
  known_inside (d ∷ ds) s k = known_inside ds (with_variable s d d.last) (known_one s d d.last k)

  type_first : (s : NameScope) → Known s → (t : Ty) → TyIsNamed s t → HasFirst types t
  type_first s k ty.Bool h = tt
  type_first s k ty.Int h = tt
  type_first s k (ty.Enum t) h = k t h

  decls_first : (s : NameScope) → Known s → (ds : List Decl) → DeclsAreNamed s ds → DeclsHaveFirsts types ds
  decls_first s k [] h = tt
  decls_first s k (d ∷ ds) h = (type_first s k d.ty h.0.0, decls_first s k ds h.1)

  mutual
    block_first : (b : Block) (s : NameScope) → Known s → BlockIsNamed s b → BlockHasFirsts types b
    block_first (block ds es) s k h = (decls_first (with_variables s ds) (known_inside ds s k) ds h.0.1, eqns_first es (with_variables s ds) (known_inside ds s k) h.1)

    eqns_first : (es : Eqns) (s : NameScope) → Known s → EqnsAreNamed s es → EqnsHaveFirsts types es
    eqns_first no_eqn s k h = tt
    eqns_first (more_eqns e es) s k h = (eqn_first e s k h.0, eqns_first es s k h.1)

    eqn_first : (e : Eqn) (s : NameScope) → Known s → EqnIsNamed s e → EqnHasFirsts types e
    eqn_first (define a ys e) s k h = tt
    eqn_first (switch a e arms) s k h = arms_first arms s k h.1
    eqn_first (reset a b e) s k h = block_first b s k h.0
    eqn_first (automaton a ss) s k h = states_first ss s _ k h.1

    arms_first : (arms : Arms) (s : NameScope) → Known s → ArmsAreNamed s arms → ArmsHaveFirsts types arms
    arms_first no_arm s k h = tt
    arms_first (more_arms c b a arms) s k h = (block_first b s k h.1.0, arms_first arms s k h.1.1)

    states_first : (ss : States) (s : NameScope) (names : List (List ℕ)) → Known s → StatesAreNamed s names ss → StatesHaveFirsts types ss
    states_first no_state s names k h = tt
    states_first (more_states f b until unless a ss) s names k h = (block_first b s k h.0, states_first ss s names k h.1.1.1)

  contract_first : (o : Option Contract) (s : NameScope) → Known s → ContractIsNamed s o → ContractHasFirsts types o
  contract_first None s k h = tt
  contract_first (Some c) s k h = block_first c.body s k h.0

  node_first : (n : Node) (s : NameScope) → Known s → NodeIsNamed s n → NodeHasFirsts types n
  node_first n s k h =
      let inner : Known (inside_node s n) = known_inside n.outputs (with_variables s n.inputs) (known_inside n.inputs s k) in
      let own : Known (with_variables (inside_node s n) (controls_of n.contract)) = known_inside (controls_of n.contract) (inside_node s n) inner in
      record {
        inputs = decls_first (inside_node s n) inner n.inputs h.1.1.0;
        outputs = decls_first (inside_node s n) inner n.outputs h.1.1.1.0;
        controls = decls_first (with_variables (inside_node s n) (controls_of n.contract)) own (controls_of n.contract) h.1.1.1.1.1.0.1;
        contract = contract_first n.contract (inside_node s n) inner h.1.1.1.1.0;
        body = block_first n.body (with_variables (inside_node s n) (controls_of n.contract)) own h.1.1.1.1.1.1;
      }

-- ---- programs

-- a type of a list in which each has a constructor
at_front : (before : List TypeDecl) (t : TypeDecl) (rest : List TypeDecl) → TypesHaveConstructors (before ++ t ∷ rest) → constructors_of (before ++ t ∷ rest) t.name ≡ [] → ⊥
at_front [] t rest h z = h.0 (ap (λ b. if b then t.cons else constructors_of rest t.name) (sym (name_same t.name t.name refl)) ∙ z)
at_front (x ∷ before) t rest h z = by (bytes_eq x.name t.name) (at_front before t rest h.1) z
  where
    by : (b : Bool) → (constructors_of (before ++ t ∷ rest) t.name ≡ [] → ⊥) → (if b then x.cons else constructors_of (before ++ t ∷ rest) t.name) ≡ [] → ⊥
    by true f k = h.0 k
    by false f k = f k

name_cases : {X : Type 0} (names : List (List ℕ)) (y x : List ℕ) → Contains (with_name names y) x → (y ≡ x → X) → (Contains names x → X) → X
name_cases {X} names y x h f g = by (has names y) h
  where
    one : Contains (y ∷ []) x → y ≡ x
    one (zero, l, e) = e
    one (suc i, l, e) = absurd (omega (arith, l))

    by : (b : Bool) → Contains (if b then names else names ++ y ∷ []) x → X
    by true k = g k
    by false k = ⊎_elim g (λ q. f (one q)) (Contains-append_cases names (y ∷ []) x k)

items_first : (types : List TypeDecl) (items : List Item) (before : List TypeDecl) (s : NameScope) → types ≡ before ++ types_of items → TypesHaveConstructors types → Known types s → ItemsAreNamed s items → EachNode (NodeHasFirsts types) items
items_first types [] before s e full k h = tt
items_first types (TypeItem t ∷ items) before s e full k h =
    items_first types items (before ++ t ∷ []) (behind s (TypeItem t)) (e ∙ sym (behind_one before t (types_of items))) full
    (λ x c. name_cases s.types t.name x c
    (λ q. subst (λ z. HasFirst types (ty.Enum z)) q
    (first_is types t.name (λ z. at_front before t (types_of items) (subst TypesHaveConstructors e full) (sym (ap (λ r. constructors_of r t.name) e) ∙ z))))
    (λ q. k x q))
    h.1
items_first types (NodeItem n ∷ items) before s e full k h = (node_first types n s k h.0.1, items_first types items before (behind s (NodeItem n)) e full k h.1)

pub program_first : (program : List Item) → WellNamed program → TypesHaveConstructors (types_of program) → EachNode (NodeHasFirsts (types_of program)) program
program_first program h full = items_first (types_of program) program [] nothing refl full (λ t c. absurd (none t c)) h
  where
    none : (t : List ℕ) → Contains nothing.types t → ⊥
    none t c = let l = c.1 in absurd (omega arith)
