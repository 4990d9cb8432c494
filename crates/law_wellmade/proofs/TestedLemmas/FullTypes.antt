-- The types of all variables of a judged program have constructors.
use Rattle.std.proofs.Common.{◌≡◌, ◌⊎◌, inl, inr, ℕ, List, [], ◌∷◌, ◌++◌, refl, sym, ap, ◌∙◌, subst, arith}
use Rattle.std.specs.Prelude.{⊤, Bool, true, false, if◌then◌else◌, Contains, Option, None, Some}
use Rattle.std.specs.List.{AllByRecursion, IsDistinct}
use Rattle.std.specs.Str.{bytes_eq}
use Rattle.std.proofs.lemmas.Slice.Eq.{bytes_eq-Decides}
use Rattle.hp_base.specs.declared.ty.Ty.{Ty}
use Rattle.hp_base.specs.declared.ty.Ty.TheVariants as ty
use Rattle.hp_base.specs.declared.ty.Const.{Const}
use Rattle.hp_tree.specs.declared.program.Item.{Item}
use Rattle.hp_tree.specs.declared.program.Item.TheVariants.{TypeItem, NodeItem}
use Rattle.hp_tree.specs.Blocks.{Decl, Block, block, Eqns, no_eqn, more_eqns, Eqn, define, switch, reset, automaton, Arms, no_arm, more_arms, States, no_state, more_states}
use Rattle.hp_tree.specs.Programs.{TypeDecl, Contract, Node}
use Rattle.hp_tree.specs.Meaning.{controls_of, types_of}
use Rattle.hp_tree.specs.Values.{constructors_of}
use Rattle.hp_names.specs.Names.{with_names, state_names}
use Rattle.hp_names.specs.Scopes as names
use Rattle.hp_names.specs.Rules.{TyIsNamed, DeclsAreNamed, BlockIsNamed, EqnsAreNamed, EqnIsNamed, ArmsAreNamed, StatesAreNamed, ContractIsNamed, NodeIsNamed, ItemsAreNamed}
use Rattle.law_judged.specs.Named.Scopes.{NameScope}
use Rattle.law_judged.specs.Named.Scoped.{EachNode}
use Rattle.law_automata.proofs.LowerableLemmas.NeatTexts.{name_cases}
use Rattle.law_automata.specs.Readied.Constants.{DeclTypes, BlockTypes, EqnsTypes, EqnTypes, ArmsTypes, StatesTypes, ContractTypes}
use Rattle.law_automata.specs.Readied.Sound.{HasOne, HaveConstructors}
use Rattle.law_automata.proofs.ReadiedLemmas.TypesKept.{AllTypes}
use Rattle.law_wellmade.specs.Timely.Tested.{all_constructors}
use Rattle.law_wellmade.proofs.TimelyLemmas.KindLaws.{In, in_all, in_right}

-- ---- the types of declarations

types_of_variables : (s : NameScope) (ds : List Decl) → (names.with_variables s ds).types ≡ s.types
types_of_variables s [] = refl
types_of_variables s (d ∷ ds) = types_of_variables (names.with_variable s d d.last) ds ∙ one d.last
  where
    one : (o : Option Const) → (names.with_variable s d o).types ≡ s.types
    one None = refl
    one (Some c) = refl

module _ (Q : Ty → Type 0) (bool : Q ty.Bool) (int : Q ty.Int) where
  abbrev pub Fine : NameScope → Type 0
  Fine s = (t : List ℕ) → Contains s.types t → Q (ty.Enum t)

  pub fine_more : (s : NameScope) (ds : List Decl) → Fine s → Fine (names.with_variables s ds)
  fine_more s ds f t h = f t (subst (λ z. Contains z t) (types_of_variables s ds) h)

  type_fine : (s : NameScope) → Fine s → (t : Ty) → TyIsNamed s t → Q t
  type_fine s f ty.Bool h = bool
  type_fine s f ty.Int h = int
  type_fine s f (ty.Enum t) h = f t h

  pub decls_fine : (s : NameScope) → Fine s → (ds : List Decl) → DeclsAreNamed s ds → DeclTypes Q ds
  decls_fine s f [] h = tt
  decls_fine s f (d ∷ ds) h = (type_fine s f d.ty h.0.0, decls_fine s f ds h.1)

  mutual
    block_fine : (s : NameScope) → Fine s → (b : Block) → BlockIsNamed s b → BlockTypes Q b
    block_fine s f (block ds es) h = (decls_fine (names.with_variables s ds) (fine_more s ds f) ds h.0.1, eqns_fine (names.with_variables s ds) (fine_more s ds f) es h.1)

    eqns_fine : (s : NameScope) → Fine s → (es : Eqns) → EqnsAreNamed s es → EqnsTypes Q es
    eqns_fine s f no_eqn h = tt
    eqns_fine s f (more_eqns e es) h = (eqn_fine s f e h.0, eqns_fine s f es h.1)

    eqn_fine : (s : NameScope) → Fine s → (e : Eqn) → EqnIsNamed s e → EqnTypes Q e
    eqn_fine s f (define w ys e) h = tt
    eqn_fine s f (switch w e arms) h = arms_fine s f arms h.1
    eqn_fine s f (reset w b e) h = block_fine s f b h.0
    eqn_fine s f (automaton w ss) h = states_fine s f (with_names [] (state_names ss)) ss h.1

    arms_fine : (s : NameScope) → Fine s → (arms : Arms) → ArmsAreNamed s arms → ArmsTypes Q arms
    arms_fine s f no_arm h = tt
    arms_fine s f (more_arms c b w arms) h = (block_fine s f b h.1.0, arms_fine s f arms h.1.1)

    states_fine : (s : NameScope) → Fine s → (states : List (List ℕ)) (ss : States) → StatesAreNamed s states ss → StatesTypes Q ss
    states_fine s f states no_state h = tt
    states_fine s f states (more_states q b until unless w ss) h = (block_fine s f b h.0, states_fine s f states ss h.1.1.1)

  contract_fine : (s : NameScope) → Fine s → (o : Option Contract) → ContractIsNamed s o → ContractTypes Q o
  contract_fine s f None h = tt
  contract_fine s f (Some c) h = block_fine s f c.body h.0

  pub node_fine : (s : NameScope) → Fine s → (n : Node) → NodeIsNamed s n → AllTypes Q n
  node_fine s f n h =
      let in_inputs = names.with_variables s n.inputs in
      let in_node = names.inside_node s n in
      let g : Fine in_node = fine_more in_inputs n.outputs (fine_more s n.inputs f) in (
        decls_fine in_node g n.inputs h.1.1.0,
        (
          decls_fine in_node g n.outputs h.1.1.1.0,
          (
            contract_fine in_node g n.contract h.1.1.1.1.0,
            block_fine (names.with_variables in_node (controls_of n.contract)) (fine_more in_node (controls_of n.contract) g) n.body h.1.1.1.1.1.1,
          ),
        ),
      )

-- ---- types that have a constructor

abbrev pub Full : List TypeDecl → Ty → Type 0
Full types ty.Bool = ⊤
Full types ty.Int = ⊤
Full types (ty.Enum t) = HasOne (constructors_of types t)

abbrev AllFull : List TypeDecl → Type 0
AllFull [] = ⊤
AllFull (d ∷ ds) = HasOne d.cons × AllFull ds

all_full : (items : List Item) → HaveConstructors items → AllFull (types_of items)
all_full [] h = tt
all_full (TypeItem t ∷ items) h = (h.0, all_full items h.1)
all_full (NodeItem n ∷ items) h = all_full items h

abbrev Named : List TypeDecl → List ℕ → Type 0
Named [] x = ⊥
Named (d ∷ ds) x = (d.name ≡ x) ⊎ Named ds x

named_full : (ds : List TypeDecl) (x : List ℕ) → AllFull ds → Named ds x → HasOne (constructors_of ds x)
named_full [] x h n = absurd n
named_full (d ∷ ds) x h n = by (bytes_eq d.name x) refl n (λ q. named_full ds x h.1 q)
  where
    by : (b : Bool) → bytes_eq d.name x ≡ b → (d.name ≡ x) ⊎ Named ds x → (Named ds x → HasOne (constructors_of ds x)) → HasOne (if b then d.cons else constructors_of ds x)
    by true e n f = h.0
    by false e (inl q) f = absurd (let r = (bytes_eq-Decides d.name x).1 q in cc)
    by false e (inr q) f = f q

named_there : (before : List TypeDecl) (t : TypeDecl) (more : List TypeDecl) → Named (before ++ t ∷ more) t.name
named_there [] t more = inl refl
named_there (d ∷ before) t more = inr (named_there before t more)

append_more : {A : Type 0} (xs : List A) (y : A) (zs : List A) → (xs ++ y ∷ []) ++ zs ≡ xs ++ y ∷ zs
append_more {A} [] y zs = refl
append_more {A} (x ∷ xs) y zs = ap (λ r. x ∷ r) (append_more xs y zs)

abbrev pub NodeFull : List TypeDecl → Node → Type 0
NodeFull types n = AllTypes (Full types) n × DeclTypes (Full types) (controls_of n.contract)

items_full : (types before : List TypeDecl) (n : NameScope) (items : List Item) → types ≡ before ++ types_of items → AllFull types → ((t : List ℕ) → Contains n.types t → HasOne (constructors_of types t)) → ItemsAreNamed n items → EachNode (NodeFull types) items
items_full types before n [] split all f m = tt
items_full types before n (TypeItem t ∷ items) split all f m =
    items_full types (before ++ t ∷ []) (names.behind n (TypeItem t)) items (split ∙ sym (append_more before t (types_of items))) all (λ x h. cases x (name_cases n.types t.name x h)) m.1
  where
    cases : (x : List ℕ) → (t.name ≡ x) ⊎ Contains n.types x → HasOne (constructors_of types x)
    cases x (inl e) = named_full types x all (subst (λ z. Named types z) e (subst (λ (z : List TypeDecl). Named z t.name) (sym split) (named_there before t (types_of items))))
    cases x (inr k) = f x k
items_full types before n (NodeItem y ∷ items) split all f m =
    let in_node = names.inside_node n y in
    let cs = controls_of y.contract in
    let P = Full types in
    let g = fine_more P tt tt (names.with_variables n y.inputs) y.outputs (fine_more P tt tt n y.inputs f) in (
      (node_fine P tt tt n f y m.0.1, decls_fine P tt tt (names.with_variables in_node cs) (fine_more P tt tt in_node cs g) cs m.0.1.1.1.1.1.1.0.1),
      items_full types before (names.behind n (NodeItem y)) items split all f m.1,
    )

pub program_full : (program : List Item) → ItemsAreNamed names.nothing program → HaveConstructors program → EachNode (NodeFull (types_of program)) program
program_full program m h = items_full (types_of program) [] names.nothing program refl (all_full program h) (λ t k. absurd (none t k)) m
  where
    none : (t : List ℕ) → Contains [] t → ⊥
    none t (k, h, e) = omega (arith, h)

-- ---- a constructor is of one type

all_in : (P : List ℕ → Type 0) (xs : List (List ℕ)) (x : List ℕ) → AllByRecursion P xs → In xs x → P x
all_in P [] x a h = absurd h
all_in P (y ∷ ys) x a (inl e) = subst P e a.0
all_in P (y ∷ ys) x a (inr h) = all_in P ys x a.1 h

apart : (xs ys : List (List ℕ)) (x : List ℕ) → IsDistinct bytes_eq (xs ++ ys) → In xs x → In ys x → ⊥
unfolding IsDistinct
apart [] ys x d h k = h
apart (z ∷ xs) ys x d (inl e) k =
    let same : bytes_eq z x ≡ true = (bytes_eq-Decides z x).1 e in
    let other : bytes_eq z x ≡ false = all_in (λ y. bytes_eq z y ≡ false) (xs ++ ys) x d.0 (in_right xs ys x k) in
    absurd (cc)
apart (z ∷ xs) ys x d (inr h) k = apart xs ys x d.1 h k

distinct_back : (xs ys : List (List ℕ)) → IsDistinct bytes_eq (xs ++ ys) → IsDistinct bytes_eq ys
unfolding IsDistinct
distinct_back [] ys d = d
distinct_back (x ∷ xs) ys d = distinct_back xs ys d.1

pub one_home : (ds : List TypeDecl) (w v c : List ℕ) → IsDistinct bytes_eq (all_constructors ds) → In (constructors_of ds w) c → In (constructors_of ds v) c → w ≡ v
one_home [] w v c d h k = absurd h
one_home (t ∷ ds) w v c d h k = by (λ i j. one_home ds w v c (distinct_back t.cons (all_constructors ds) d) i j) (bytes_eq t.name w) (bytes_eq t.name v) refl refl h k
  where
    by : (In (constructors_of ds w) c → In (constructors_of ds v) c → w ≡ v) → (a b : Bool) → bytes_eq t.name w ≡ a → bytes_eq t.name v ≡ b → In (if a then t.cons else constructors_of ds w) c → In (if b then t.cons else constructors_of ds v) c → w ≡ v
    by r true true e f h k = sym ((bytes_eq-Decides t.name w).0 e) ∙ (bytes_eq-Decides t.name v).0 f
    by r true false e f h k = absurd (apart t.cons (all_constructors ds) c d h (in_all ds v c k))
    by r false true e f h k = absurd (apart t.cons (all_constructors ds) c d k (in_all ds w c h))
    by r false false e f h k = r h k
