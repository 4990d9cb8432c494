-- The equations of a node define apart, and so do those that stand in their places.
use Rattle.std.proofs.Common.{◌≡◌, ◌⊎◌, inl, inr, ℕ, ◌<◌, ◌≤◌, true, List, [], ◌∷◌, ◌++◌, map, reverse, None, Some, refl, sym, subst, ◌∙◌, arith}
use Rattle.std.specs.List.{AllByRecursion}
use Rattle.std.proofs.lemmas.List.{reverse-append, reverse-reverse}
use Rattle.hp_tree.specs.declared.program.Item.{Item}
use Rattle.hp_tree.specs.declared.program.Item.TheVariants.{TypeItem, NodeItem}
use Rattle.hp_tree.specs.Blocks.{Decl, Block, block}
use Rattle.hp_tree.specs.Programs.{TypeDecl, Node}
use Rattle.hp_tree.specs.Meaning.{controls_of, some_defines}
use Rattle.hp_typing.specs.Scopes.{with_variables}
use Rattle.law_judged.specs.Typed.Scopes.{Scope}
use Rattle.law_judged.specs.Named.Scoped.{EachNode}
use Rattle.law_values.specs.Valued.Judged.{body_scope}
use Rattle.law_values.specs.Valued.Values.{scope_behind}
use Rattle.hp_flat.specs.Equations.{Clock, FlatEqn}
use Rattle.hp_flat.specs.Nodes.{FlatNode}
use Rattle.law_equations.specs.Made.Making.{Known, Sketch, Sight, Seen, Body, next, no_entry, nothing_made, unknown, base_site, over, with_variable, put, flat_type, signed, signature, declared, own_names, names_of_eqns, each_once, remember_all, sketch_block, sketch_eqns, sketch_node}
use Rattle.law_equations.specs.Made.Blocks.{IsPlain}
use Rattle.law_equations.specs.Made.Standing.{Knows}
use Rattle.hp_complete.specs.Ordering.{unplaced}
use Rattle.hp_complete.specs.Made.{AreMadeOf}
use Rattle.law_equations.specs.Shaped.Shaped.{AreApart, DefineApart}
use Rattle.law_wellmade.specs.Timely.Tested.{ConstructorsDiffer, BlockTested, NodeTested, AreTested}
use Rattle.law_wellmade.specs.Parted.Laws.{NodeLaw, ProgramLaw}
use Rattle.law_wellmade.proofs.PartedLemmas.Adding.{Differ, Parted, each-other, Nothing, Adds, behind-bare, new-then, part-other}
use Rattle.law_wellmade.proofs.PartedLemmas.Owning.{Owned, owning-names, declared-value, remembering, owned-signed, nothing-owned}
use Rattle.law_wellmade.proofs.PartedLemmas.Blocks.{layered, eqns-add}

-- ---- equations that are apart define apart

each_two : (P Q : FlatEqn → Type 0) (es : List FlatEqn) → AllByRecursion P es → AllByRecursion Q es → AllByRecursion (λ q. P q × Q q) es
each_two P Q [] a b = tt
each_two P Q (e ∷ es) a b = ((a.0, b.0), each_two P Q es a.1 b.1)

differ_apart : (d e : FlatEqn) → Differ d e → AreApart d e
differ_apart d e h x t s = inr (h x t s)

differ_other : (d e : FlatEqn) → Differ e d → AreApart d e
differ_other d e h x t s = inr (part-other e.clock d.clock (h x s t))

pub define-apart : (es : List FlatEqn) → Parted es → DefineApart es
define-apart [] p = tt
define-apart (e ∷ es) p = (
  ((λ x t s. inl refl), each-other (Differ e) (AreApart e) (λ d h. differ_apart e d h) es p.0),
  each_two (λ d. AreApart d e) (λ d. AllByRecursion (AreApart d) es) es (each-other (Differ e) (λ d. AreApart d e) (λ d h. differ_other d e h) es p.0) (define-apart es p.1),
)

-- where equations stand does not matter
differ_up : (e : FlatEqn) (es : List FlatEqn) → AllByRecursion (Differ e) es → AllByRecursion (Differ (unplaced e)) (map unplaced es)
differ_up e [] h = tt
differ_up e (d ∷ es) h = (h.0, differ_up e es h.1)

differ_down : (e : FlatEqn) (es : List FlatEqn) → AllByRecursion (Differ (unplaced e)) (map unplaced es) → AllByRecursion (Differ e) es
differ_down e [] h = tt
differ_down e (d ∷ es) h = (h.0, differ_down e es h.1)

parted_up : (es : List FlatEqn) → Parted es → Parted (map unplaced es)
parted_up [] h = tt
parted_up (e ∷ es) h = (differ_up e es h.0, parted_up es h.1)

parted_down : (es : List FlatEqn) → Parted (map unplaced es) → Parted es
parted_down [] h = tt
parted_down (e ∷ es) h = (differ_down e es h.0, parted_down es h.1)

pub parted-alike : (es fs : List FlatEqn) → map unplaced fs ≡ map unplaced es → Parted es → Parted fs
parted-alike es fs same h = parted_down fs (subst Parted (sym same) (parted_up es h))

-- ---- nodes

module _ (k : Known) where
  eqns_signed : (ds : List Decl) (s : Seen) → (signed k ds s).1.eqns ≡ s.1.eqns
  eqns_signed [] s = refl
  eqns_signed (d ∷ ds) s = eqns_signed ds (put d.name (record { ty = flat_type k.types d.ty; value = Some (next s.1); last = None; is_local = true }) s.0, with_variable d.name (flat_type k.types d.ty) s.1)

  signature_bare : (n : Node) → (signature k n).1.eqns ≡ []
  signature_bare n =
      let none : Seen = (no_entry, nothing_made) in
      let ins = signed k n.inputs none in
      let mids = signed k (controls_of n.contract) ins in
      eqns_signed n.outputs mids ∙ eqns_signed (controls_of n.contract) ins ∙ eqns_signed n.inputs none

  signature_owned : (n : Node) → Owned (over (signature k n).0 unknown) (next (signature k n).1)
  signature_owned n =
      let none : Seen = (no_entry, nothing_made) in
      let ins = signed k n.inputs none in
      let mids = signed k (controls_of n.contract) ins in
      owned-signed k n.outputs mids (owned-signed k (controls_of n.contract) ins (owned-signed k n.inputs none (nothing-owned k)))

-- a name has the variable
abbrev IsSeen : Sight → ℕ → Clock → Type 0
IsSeen see x c = (y : List ℕ) × ((see y).value ≡ Some x)

module _ (types : List TypeDecl) (differ : ConstructorsDiffer types) (outputs : List ℕ → List (List ℕ)) (k : Known) (knows : Knows types outputs k) where
  body_adds : (s : Scope) (n : Node) (b : Block) → IsPlain b → BlockTested types s b
      → (let r = remember_all k base_site unknown n.outputs (signature k n) in Adds Nothing nothing_made (sketch_block k Body (over r.0 unknown) base_site b r.1).1)
  body_adds s n (block ds es) p h =
      let sig = signature k n in
      let r = remember_all k base_site unknown n.outputs sig in
      let out = over r.0 unknown in
      let lasts = remembering k base_site unknown n.outputs sig in
      let owned = signature_owned k n in
      let names = each_once [] (names_of_eqns es) in
      let o = own_names Body ds out names (declared k ds out, r.1) in
      let m = remember_all k base_site out ds o in
      let f = sketch_eqns k (over m.0 out) base_site ds es m.1 in
      let U = IsSeen out in
      let inner = layered types differ outputs k knows Body ds names (some_defines es) out base_site r.1 f U (lasts.owned owned)
      (λ w. eqns-add types differ outputs k knows (with_variables s ds) es ds (over m.0 out) base_site m.1 p.2 h w)
      (λ y x c q v. by out r.1 ds y x c ((owning-names Body ds out names (declared k ds out, r.1)).values y x v)) in
      let there : (x : ℕ) (c : Clock) → U x c → x < next sig.1 = λ x c g. owned.there g.0 x (inl (sym (lasts.values g.0) ∙ g.1)) in
      behind-bare U Nothing nothing_made sig.1 f (omega arith) (signature_bare k n) (new-then U sig.1 r.1 f lasts.adds inner there) (λ x c g. inl (omega arith, there x c g))
    where
      by : (out : Sight) (d : Sketch) (ds : List Decl) (y : List ℕ) (x : ℕ) (c : Clock) → ((over (declared k ds out) out y).value ≡ Some x) ⊎ (next d ≤ x) → (next d ≤ x) ⊎ IsSeen out x c
      by out d ds y x c (inl v) = inr (y, sym (declared-value k ds out y) ∙ v)
      by out d ds y x c (inr l) = inl l

  pub node-parted : (s : Scope) (n : Node) → IsPlain n.body → NodeTested types s n → Parted (sketch_node k n).eqns
  node-parted s n p h = let a = body_adds (body_scope s n) n n.body p h in subst Parted (sym a.eqns) a.parted

pub node-law : NodeLaw
node-law types outputs k s n knows differ p h =
    let parted = node-parted types differ outputs k knows s n p h in
    (define-apart (sketch_node k n).eqns parted, (λ f made. define-apart f.eqns (parted-alike (sketch_node k n).eqns f.eqns made.eqns parted)))

-- ---- programs

-- the tests of a node are typed in some scope
abbrev HasTested : List TypeDecl → Node → Type 0
HasTested types n = (s : Scope) × NodeTested types s n

each_tested : (types : List TypeDecl) (items : List Item) → AreTested types items → EachNode (HasTested types) items
each_tested types [] h = tt
each_tested types (TypeItem t ∷ items) h = each_tested types items h
each_tested types (NodeItem n ∷ items) h = ((scope_behind items, h.0), each_tested types items h.1)

each_behind : (P : Node → Type 0) (xs ys : List Item) → EachNode P xs → EachNode P ys → EachNode P (xs ++ ys)
each_behind P [] ys a b = b
each_behind P (TypeItem t ∷ xs) ys a b = each_behind P xs ys a b
each_behind P (NodeItem n ∷ xs) ys a b = (a.0, each_behind P xs ys a.1 b)

each_turned : (P : Node → Type 0) (items : List Item) → EachNode P (reverse items) → EachNode P items
each_turned P items h = subst (EachNode P) (reverse-reverse items) (turned (reverse items) h)
  where
    turned : (xs : List Item) → EachNode P xs → EachNode P (reverse xs)
    turned [] a = tt
    turned (TypeItem t ∷ xs) a = subst (EachNode P) (sym (reverse-append (TypeItem t ∷ []) xs)) (each_behind P (reverse xs) (TypeItem t ∷ []) (turned xs a) tt)
    turned (NodeItem n ∷ xs) a = subst (EachNode P) (sym (reverse-append (NodeItem n ∷ []) xs)) (each_behind P (reverse xs) (NodeItem n ∷ []) (turned xs a.1) (a.0, tt))

all_nodes : (types : List TypeDecl) (outputs : List ℕ → List (List ℕ)) (k : Known) → Knows types outputs k → ConstructorsDiffer types → (program : List Item) (fs : List FlatNode)
    → EachNode (λ (n : Node). IsPlain n.body) program → EachNode (HasTested types) program → AreMadeOf k program fs → AllByRecursion (λ (f : FlatNode). DefineApart f.eqns) fs
all_nodes types outputs k knows differ [] [] p h made = tt
all_nodes types outputs k knows differ [] (f ∷ fs) p h made = absurd made
all_nodes types outputs k knows differ (TypeItem t ∷ items) fs p h made = all_nodes types outputs k knows differ items fs p h made
all_nodes types outputs k knows differ (NodeItem n ∷ items) [] p h made = absurd made
all_nodes types outputs k knows differ (NodeItem n ∷ items) (f ∷ fs) p h made = ((node-law types outputs k h.0.0 n knows differ p.0 h.0.1).1 f made.0, all_nodes types outputs k knows differ items fs p.1 h.1 made.1)

pub program-law : ProgramLaw
program-law types outputs k program fs knows differ plain tested made = all_nodes types outputs k knows differ program fs plain (each_turned (HasTested types) program (each_tested types (reverse program) tested)) made
