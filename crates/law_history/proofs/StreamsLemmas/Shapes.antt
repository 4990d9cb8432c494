-- The clocked equations of a program without automata have the shape of those whose machines have form.
use Rattle.std.proofs.Common.{◌≡◌, ℕ, zero, suc, ◌+◌, ◌<◌, ◌≤◌, ◌^◌, false, List, [], ◌∷◌, ◌++◌, length, get_or, map, take, reverse, refl, sym, ap, subst, ◌∙◌, arith}
use Rattle.std.specs.Prelude.{⊤, IsTrue, IsFalse, Some, nat_eq, slice_get}
use Rattle.std.specs.List.{AllByRecursion, IsDistinct, range_with_len}
use Rattle.std.proofs.lemmas.Bool.Decides.{nat_tests}
use Rattle.std.proofs.lemmas.Option.{get_or_from_slice_get}
use Rattle.hp_base.specs.Kinds.{KindData}
use Rattle.hp_base.specs.declared.value.Value.{Value}
use Rattle.hp_obc.specs.Form.{TypesForm, is_name, has_name}
use Rattle.hp_obc.specs.Machines.{ObcType}
use Rattle.hp_tree.specs.Blocks.{Decl}
use Rattle.hp_tree.specs.Instant.{Place}
use Rattle.hp_tree.specs.Meaning.{types_of, nodes, node_among, controls_of}
use Rattle.hp_tree.specs.Operators.{filled}
use Rattle.hp_tree.specs.Programs.{TypeDecl, Node}
use Rattle.hp_tree.specs.declared.program.Item.{Item}
use Rattle.hp_tree.specs.declared.program.Item.TheVariants.{TypeItem, NodeItem}
use Rattle.law_judged.specs.Named.Scoped.{EachNode}
use Rattle.hp_flat.specs.declared.node.FlatTy.TheVariants.{Int as FlatInt}
use Rattle.hp_flat.specs.declared.node.Variable.{Variable}
use Rattle.hp_flat.specs.Equations.{FlatEqn}
use Rattle.hp_flat.specs.Nodes.{FlatNode}
use Rattle.law_equations.specs.Meaning.Kinding.{kind_of_type, HasValue, EqnKinds}
use Rattle.law_equations.specs.Followed.Premises.{names}
use Rattle.law_equations.specs.Followed.Programs.{CallsAmong}
use Rattle.law_equations.specs.Made.Making.{Known, flat_type, outputs_of, numbers_from, sketch_node}
use Rattle.law_equations.specs.Made.Standing.{Knows}
use Rattle.law_equations.specs.Made.Types.{obc_types_of}
use Rattle.hp_complete.specs.Declaring.{known_of}
use Rattle.hp_complete.specs.KnownLaw.{KnownLaw}
use Rattle.hp_complete.specs.Made.{IsMadeOf, AreMadeOf}
use Rattle.hp_complete.specs.Signatures.{IsSigned, AreFlat, variables_of, places_of}
use Rattle.hp_complete.proofs.KnownLaws.{nodes-known}
use Rattle.hp_form.specs.Regular.Regular.{IsRegular}
use Rattle.law_wellmade.specs.Suited.Suited.{HasFew, SuitedLaw, IsAsked, AreAsked}
use Rattle.law_equations.specs.Answered.Answering.{has_node, AreApart}
use Rattle.law_equations.specs.Shaped.Shaped.{DefineApart, NodeShape, IsHeaded, AreShaped}
use Rattle.law_equations.specs.Shaped.Laws.{KeptLaw}
use Rattle.law_wellmade.specs.Lettered.Laws.{NodeLettered}
use Rattle.law_wellmade.specs.Regular.Kinds.{taken_by, kinds_of_decls, program_callees}
use Rattle.hp_machines.specs.Making.{defines_some, giving}
use Rattle.law_history.proofs.StreamsLemmas.Asked.{names_behind, names_have, Splits, split_next, split_first, are_asked}
use Rattle.law_history.proofs.StreamsLemmas.ProgramTypes.{program_known}
use Rattle.law_history.proofs.StreamsLemmas.NodeRuns.{Prepared}
use Rattle.law_history.proofs.StreamsLemmas.NamesApart.{own_found}
use Rattle.law_history.proofs.StreamsLemmas.Giving.{kept_all}

-- ---- kinds of the first variables, and of some

module _ {A : Type 0} (g : Variable → A) (d : Variable) where
  shifted : (v : Variable) (vs : List Variable) (a b k : ℕ) → b ≡ suc a → map (λ x. g (get_or (v ∷ vs) x d)) (range_with_len b k) ≡ map (λ x. g (get_or vs x d)) (range_with_len a k)
  shifted v vs a b zero e = refl
  shifted v vs a b (suc k) e =
      let first : g (get_or (v ∷ vs) b d) ≡ g (get_or vs a d) = ap (λ x. g (get_or (v ∷ vs) x d)) e in
      (λ i. first i ∷ shifted v vs (a + 1) (b + 1) k (omega (arith, e)) i)

  first_ones : (n : ℕ) (vs : List Variable) → n ≤ length vs → map (λ x. g (get_or vs x d)) (range_with_len 0 n) ≡ map g (take n vs)
  first_ones zero vs h = refl
  first_ones (suc n) [] h = absurd (omega (arith, h))
  first_ones (suc n) (v ∷ vs) h = ap (λ zs. g v ∷ zs) (shifted v vs 0 (0 + 1) n refl ∙ first_ones n vs (omega (arith, h)))

  these_ones : (vs : List Variable) (xs : List ℕ) (ws : List Variable) → map (slice_get vs) xs ≡ map Some ws → map (λ x. g (get_or vs x d)) xs ≡ map g ws
  these_ones vs [] [] h = refl
  these_ones vs [] (w ∷ ws) h = absurd cc
  these_ones vs (x ∷ xs) [] h = absurd cc
  these_ones vs (x ∷ xs) (w ∷ ws) h =
      let first : slice_get vs x ≡ Some w = cc in
      let rest : map (slice_get vs) xs ≡ map Some ws = cc in
      let one = get_or_from_slice_get vs x w d first in
      (λ i. g (one i) ∷ these_ones vs xs ws rest i)

-- ---- outputs

not_same : (m n : ℕ) → m < n → nat_eq m n ≡ false
not_same m n h = grind (arith, nat_tests)

numbers_above : (m n : ℕ) (os : List Decl) → m < n → AllByRecursion (λ y. nat_eq m y ≡ false) (numbers_from n os)
numbers_above m n [] h = tt
numbers_above m n (o ∷ os) h = (not_same m n h, numbers_above m (n + 1) os (omega (arith, h)))

numbers_differ : (n : ℕ) (os : List Decl) → IsDistinct nat_eq (numbers_from n os)
unfolding IsDistinct
numbers_differ n [] = tt
numbers_differ n (o ∷ os) = (numbers_above n (n + 1) os (omega arith), numbers_differ (n + 1) os)

numbers_behind : (m n : ℕ) (os : List Decl) → m ≤ n → AllByRecursion (λ x. m ≤ x) (numbers_from n os)
numbers_behind m n [] h = tt
numbers_behind m n (o ∷ os) h = (h, numbers_behind m (n + 1) os (omega (arith, h)))

-- ---- names

-- each node has another name than those before, and is what is known by its name
abbrev pub Fresh : Known → List (List ℕ) → List Item → Type 0
Fresh k earlier [] = ⊤
Fresh k earlier (TypeItem t ∷ items) = Fresh k earlier items
Fresh k earlier (NodeItem n ∷ items) = (has_name earlier n.name ≡ false) × (k.nodes n.name ≡ Some n) × Fresh k (n.name ∷ earlier) items

here_apart : (later earlier : List Item) (n : Node) → AreApart (later ++ NodeItem n ∷ earlier) → IsFalse (has_node earlier n.name)
here_apart [] earlier n a = a.0
here_apart (TypeItem t ∷ later) earlier n a = here_apart later earlier n a
here_apart (NodeItem m ∷ later) earlier n a = here_apart later earlier n a.1

module _ (program : List Item) (apart : AreApart (reverse program)) where
  fresh : (before rest : List Item) → Splits (reverse program) before rest → Fresh (known_of program) (names_behind before) rest
  fresh before [] e = tt
  fresh before (TypeItem t ∷ rest) e = fresh (TypeItem t ∷ before) rest (split_next (reverse program) before rest (TypeItem t) e)
  fresh before (NodeItem n ∷ rest) e =
      let next = split_next (reverse program) before rest (NodeItem n) e in
      let there = subst AreApart next apart in (
        names_have before n.name ∙ here_apart (reverse rest) before n there,
        nodes-known program n.name ∙ subst (λ xs. node_among xs n.name ≡ Some n) (sym next) (own_found (reverse rest) before n there),
        fresh (NodeItem n ∷ before) rest next,
      )

  pub all_fresh : Fresh (known_of program) [] program
  all_fresh = fresh [] program (split_first program)

-- ---- nodes

-- What is shown of the clocked equations of each node.
pub record AreKnown (types : List ObcType) (k : Known) (fs : List FlatNode) : Type 0 where
  pub regular : AllByRecursion (IsRegular types) fs
  pub few : AllByRecursion HasFew fs
  pub kinds : AllByRecursion (λ (f : FlatNode). AllByRecursion (EqnKinds types (program_callees types k) f.variables) f.eqns) fs
  pub values : AllByRecursion (λ (f : FlatNode). AllByRecursion (λ (v : Variable). HasValue types v.ty) f.variables) fs
  pub apart : AllByRecursion (λ (f : FlatNode). DefineApart f.eqns) fs
  pub short : AllByRecursion (λ (f : FlatNode). AllByRecursion (λ (e : FlatEqn). length e.clock ≤ 128) f.eqns) fs

all_short : (es : List FlatEqn) → AllByRecursion (λ (e : FlatEqn). length e.clock ≤ 128) es → AllByRecursion (λ (e : FlatEqn). length e.clock ≤ 300) es
all_short [] h = tt
all_short (e ∷ es) h = let first = h.0 in (omega (arith, first), all_short es h.1)

module _ (law : SuitedLaw) (kept : KeptLaw) (types : List TypeDecl) (kinds : List ObcType) (outputs : List ℕ → List (List ℕ)) (k : Known) (fills : List ℕ → Place → Value) (knows : Knows types outputs k) (form : TypesForm kinds) where
  module _ (earlier : List (List ℕ)) (n : Node) (f : FlatNode) (asked : IsAsked k (fills n.name) earlier n) (made : IsMadeOf k n f) (signed : IsSigned k.types n f) where
    -- what is said of it is what it takes and gives
    headed : k.nodes n.name ≡ Some n → f.inputs ≤ length f.variables → IsHeaded kinds (program_callees kinds k) f
    headed known within =
        let own : k.nodes f.name ≡ Some n = ap k.nodes made.name ∙ known in
        let kind : Variable → KindData = λ v. kind_of_type kinds v.ty in
        let none : Variable = record { name = []; ty = FlatInt } in
        record {
          takes = ap (λ o. kinds_of_decls kinds k (taken_by o)) own ∙ variables (n.inputs ++ controls_of n.contract) ∙ ap (map kind) (sym signed.first) ∙ sym (first_ones kind none f.inputs f.variables within);
          gives = ap (λ o. kinds_of_decls kinds k (outputs_of o)) own ∙ variables n.outputs ∙ sym (these_ones kind none f.variables f.outputs (variables_of k.types n.outputs) signed.outputs);
        }
      where
        variables : (ds : List Decl) → kinds_of_decls kinds k ds ≡ map (λ (v : Variable). kind_of_type kinds v.ty) (variables_of k.types ds)
        variables [] = refl
        variables (d ∷ ds) = ap (λ zs. kind_of_type kinds (flat_type k.types d.ty) ∷ zs) (variables ds)

  shapes : (earlier : List (List ℕ)) (items : List Item) (fs : List FlatNode) → AreAsked k fills earlier items → Fresh k earlier items → EachNode (NodeLettered k) items → AreMadeOf k items fs → AreFlat k.types items fs
      → AllByRecursion (IsRegular kinds) fs → AllByRecursion HasFew fs → AllByRecursion (λ (f : FlatNode). AllByRecursion (EqnKinds kinds (program_callees kinds k) f.variables) f.eqns) fs
      → AllByRecursion (λ (f : FlatNode). AllByRecursion (λ (v : Variable). HasValue kinds v.ty) f.variables) fs → AllByRecursion (λ (f : FlatNode). DefineApart f.eqns) fs
      → AllByRecursion (λ (f : FlatNode). AllByRecursion (λ (e : FlatEqn). length e.clock ≤ 128) f.eqns) fs → AreShaped kinds (program_callees kinds k) earlier (map giving fs)
  shapes earlier [] [] a w l m s r b kd v ap' c = tt
  shapes earlier [] (f ∷ fs) a w l m s r b kd v ap' c = absurd m
  shapes earlier (TypeItem t ∷ items) fs a w l m s r b kd v ap' c = shapes earlier items fs a w l m s r b kd v ap' c
  shapes earlier (NodeItem n ∷ items) [] a w l m s r b kd v ap' c = absurd m
  shapes earlier (NodeItem n ∷ items) (f ∷ fs) a w l m s r b kd v ap' c =
      let made = m.0 in
      let flat = s.0 in
      let signed = flat.signed in
      let suited = law types kinds outputs k (fills n.name) earlier n f knows form a.0 made flat.in_range b.0 r.0 in
      let form = suited.form in
      let within = form.within in
      let regular = r.0 in
      let lettered = l.0 in
      let no_more = regular.few_variables in
      let few : length (sketch_node k n).variables ≤ 2 ^ 64 = subst (λ vs. length vs ≤ 2 ^ 64) made.variables (omega (arith, no_more)) in
      let many : f.inputs ≡ length n.inputs + length (controls_of n.contract) = made.inputs in
      let shape : NodeShape kinds (program_callees kinds k) f = record {
        name = subst (λ x. IsTrue (is_name x)) (sym made.name) lettered.0;
        within = within;
        no_inputs = form.no_inputs;
        outputs_behind = subst (AllByRecursion (λ x. f.inputs ≤ x)) (sym made.outputs) (numbers_behind f.inputs (length n.inputs + length (controls_of n.contract)) n.outputs (omega (arith, many)));
        outputs_differ = subst (IsDistinct nat_eq) (sym made.outputs) (numbers_differ (length n.inputs + length (controls_of n.contract)) n.outputs);
        kinds = kd.0;
        values = v.0;
        targets_differ = suited.targets;
        apart = ap'.0;
        short = all_short f.eqns c.0;
        names_good = subst (λ vs. AllByRecursion (λ x. IsTrue (is_name x)) (names vs)) (sym made.variables) (lettered.1 few);
        names_differ = form.names_differ;
        names_own = form.names_own;
        few = form.few;
      } in
      let left = kept kinds (program_callees kinds k) f defines_some shape form.ranked in
      let head = headed earlier n f a.0 made signed w.1 within.inputs in
      let name = sym made.name in
      let rest = shapes (n.name ∷ earlier) items fs a.1 w.2 l.1 m.1 s.1 r.1 b.1 kd.1 v.1 ap'.1 c.1 in (
        left.0,
        left.1,
        record { takes = head.takes; gives = head.gives },
        subst (λ x. has_name earlier x ≡ false) name w.0,
        kept_all (λ (e : FlatEqn). CallsAmong earlier e.right) f.eqns suited.calls,
        subst (λ x. AreShaped kinds (program_callees kinds k) (x ∷ earlier) (map giving fs)) name rest,
      )

-- The nodes of a prepared program, without the equations that define nothing, have shape.
pub have_shape : SuitedLaw → KeptLaw → KnownLaw → (program : List Item) → Prepared program → TypesForm (obc_types_of program) → EachNode (NodeLettered (known_of program)) program → (fs : List FlatNode)
    → AreMadeOf (known_of program) program fs → AreFlat (places_of program) program fs → AreKnown (obc_types_of program) (known_of program) fs
    → AreShaped (obc_types_of program) (program_callees (obc_types_of program) (known_of program)) [] (map giving fs)
have_shape law kept known program p form lettered fs made flat facts =
    let types = types_of program in
    let k = known_of program in
    let begins = p.begins in
    shapes law kept types (obc_types_of program) (nodes types filled (reverse program)).outputs k p.fills (program_known program form known p.named) form [] program fs
    (are_asked types k p.fills (reverse program) p.sound begins.ready [] program (split_first program) p.whole p.named) (all_fresh program p.apart) lettered made flat
    facts.regular facts.few facts.kinds facts.values facts.apart facts.short
