-- Each node of a ready program is one whose inlined calls are replaced, with its shortest clocks, and is tidy where it stands.
use Rattle.std.proofs.Common.{◌≡◌, ℕ, List, [], ◌∷◌, ◌++◌, refl, sym, ap, subst, ◌∙◌}
use Rattle.std.specs.Prelude.{⊤, Bool, true, false, is_some, if◌then◌else◌, Contains, Option, None, Some, option_map}
use Rattle.std.specs.Str.{bytes_eq}
use Rattle.hp_tree.specs.declared.program.Item.{Item}
use Rattle.hp_tree.specs.declared.program.Item.TheVariants.{TypeItem, NodeItem}
use Rattle.hp_tree.specs.Programs.{TypeDecl, Contract, Node}
use Rattle.hp_tree.specs.Meaning.{types_of, controls_of}
use Rattle.hp_tree.specs.Values.{constructors_of}
use Rattle.hp_base.specs.Known.Known.{lookup}
use Rattle.hp_names.specs.Scopes as names
use Rattle.hp_names.specs.Rules.{ItemsAreNamed}
use Rattle.hp_typing.specs.Rules.{ItemsAreTyped}
use Rattle.hp_typing.specs.Scopes.{with_constructors}
use Rattle.law_judged.specs.Typed.Scopes.{Scope, NameScope}
use Rattle.law_judged.specs.Typed.Typed.{ItemsHaveTypes}
use Rattle.hp_meaning.specs.Clocking.Terms.{IsShortest}
use Rattle.hp_meaning.specs.Clocking.Clocking.{Assignment, IsAllowed, node_with_clocks}
use Rattle.law_judged.specs.Named.Scoped.{no_names, also, interface, NodeScoped}
use Rattle.hp_expand.specs.Shapes as shapes
use Rattle.hp_expand.specs.Formed.{AreShaped}
use Rattle.hp_expand.specs.Replacing.{in_contract, in_node}
use Rattle.hp_expand.specs.Numbering.{behind, same_name, in_contract as number_contract, replaced_node, with_node, replaced_items}
use Rattle.law_judged.specs.Replaced.Fitting.{IsReady}
use Rattle.law_judged.specs.Replaced.Laws.{CanBeReplaced, AllCanBeReplaced}
use Rattle.law_judged.proofs.ReplacedLemmas.ReplacedNodes.{in_node_scoped, node_replaced, with_ready}
use Rattle.law_values.specs.Valued.Values.{scope_behind}
use Rattle.law_values.specs.Accepted.Written.{AreClocked}
use Rattle.law_values.proofs.AcceptedLemmas.ReplacesEqns.{BlockInlines}
use Rattle.law_automata.proofs.LowerableLemmas.Texts.{onto}
use Rattle.law_wellmade.proofs.TimelyLemmas.KindLaws.{In, to_contains}
use Rattle.law_wellmade.proofs.TimelyLemmas.DifferLaws.{SoFar, so_far_type, so_far_node, append_more}
use Rattle.law_wellmade.specs.Tested.Around.{nobody, among, interface_of}
use Rattle.law_wellmade.proofs.TestedLemmas.Numbered.{Seen, seen_more}
use Rattle.law_wellmade.proofs.TestedLemmas.JudgedAround.{constructors_kept, no_variables}
use Rattle.law_drawing.specs.Drawable.Tidy.{BlockTidy, ContractTidy, NodeTidy}
use Rattle.law_drawing.proofs.DrawableLemmas.Renamed.{node_more}
use Rattle.law_drawing.proofs.DrawableLemmas.Replaced.{Free, ContractFree, block_tidy, contract_tidy}
use Rattle.law_drawing.proofs.DrawableLemmas.Inlines.{Form, block_inlines, contract_inlines}
use Rattle.law_drawing.proofs.DrawableLemmas.Numbered.{block_numbered, contract_numbered}
use Rattle.law_drawing.proofs.DrawableLemmas.Judged.{node_tidy}
use Rattle.law_drawing.proofs.DrawableLemmas.Members.{Owned}

-- ---- a node whose inlined calls are replaced

controls_in : (nodes : List ℕ → Node) (o : Option Contract) → controls_of (in_contract nodes 1 o).part ≡ controls_of o
controls_in nodes None = refl
controls_in nodes (Some c) = refl

controls_numbered : (o : Option Contract) → controls_of (option_map number_contract o) ≡ controls_of o
controls_numbered None = refl
controls_numbered (Some c) = refl

contract_there : (nodes : List ℕ → Node) (o : Option Contract) → is_some (option_map number_contract (in_contract nodes 1 o).part) ≡ is_some o
contract_there nodes None = refl
contract_there nodes (Some c) = refl

seen_interface : (n : Node) → Seen (interface n) (interface_of n)
seen_interface n = seen_more (also no_names n.inputs) (among nobody n.inputs) n.outputs (seen_more no_names nobody n.inputs (λ x t h. absurd h))

replaced_tidy : (known : Scope) (nodes : List ℕ → Node) → ((f : List ℕ) → NodeTidy known (nodes f)) → ((f : List ℕ) → IsReady (nodes f)) → (n : Node) → CanBeReplaced nodes n → BlockInlines (Free nodes) n.body → ContractFree (Free nodes) n.contract → NodeTidy known n → NodeTidy known (replaced_node nodes n)
replaced_tidy known nodes bodies ready n can ib ic h =
    let k = (in_contract nodes 1 n.contract).next in
    let I = interface_of n in
    let G = among I (controls_of n.contract) in
    let m = in_node nodes n in
    let sc = in_node_scoped nodes ready n can.scoped can.plain can.fits can.few_calls in
    let body : BlockTidy known G m.body = block_tidy known nodes bodies G G (λ x t g. g) k n.body ib h.1.0 in
    let observer : ContractTidy known I m.contract = contract_tidy known nodes bodies I n.contract ic h.1.1 in
    let cs : controls_of m.contract ≡ controls_of n.contract = controls_in nodes n.contract in
    let all : controls_of (replaced_node nodes n).contract ≡ controls_of n.contract = controls_numbered m.contract ∙ cs in
    let s_I : Seen (interface m) I = seen_interface n in (
      h.0,
      (
        subst (λ z. BlockTidy known (among I z) (replaced_node nodes n).body) (sym all)
            (block_numbered known (also (interface m) (controls_of m.contract)) (also no_names m.outputs) same_name (behind m.contract) G G m.body sc.body
            (subst (λ z. Seen (also (interface m) z) G) (sym cs) (seen_more (interface n) I (controls_of n.contract) s_I)) (λ x t g. g) body),
        contract_numbered known (interface m) I m.contract sc.contract s_I observer,
      ),
    )

with_tidy : (known : Scope) (nodes : List ℕ → Node) → ((f : List ℕ) → NodeTidy known (nodes f)) → (n : Node) → NodeTidy known n → (f : List ℕ) → NodeTidy known (with_node nodes n f)
with_tidy known nodes bodies n h f = by (bytes_eq n.name f)
  where
    by : (b : Bool) → NodeTidy known (if b then n else nodes f)
    by true = h
    by false = bodies f

-- ---- items, the last one first

-- a node of a ready program in the scope in which it stands
abbrev pub Made : List TypeDecl → Scope → Node → Type 0
Made types s y = (m : Node) × ((at : Assignment) × ((y ≡ node_with_clocks at m) × (IsShortest (IsAllowed m) at × (NodeTidy s m × (NodeScoped m × Owned types s)))))

abbrev pub AllMade : List TypeDecl → List Item → Type 0
AllMade types [] = ⊤
AllMade types (TypeItem t ∷ earlier) = AllMade types earlier
AllMade types (NodeItem y ∷ earlier) = Made types (scope_behind earlier) y × AllMade types earlier

owned_of : (types before more : List TypeDecl) (n : NameScope) (s : Scope) → types ≡ before ++ more → SoFar before n s → Owned types s
owned_of types before more n s split p c u h =
    let q = p.placed c u h in
    subst (λ (ts : List TypeDecl). Contains (constructors_of ts u) c) (sym split) (to_contains (constructors_of (before ++ more) u) c (subst (λ cs. In cs c) (sym (p.found u q.0 q.1 more)) q.2))

abbrev SameConstructors : List Item → List Item → Type 0
SameConstructors there done = (scope_behind there).constructors ≡ (scope_behind done).constructors

made_there : (types : List TypeDecl) (done there : List Item) → SameConstructors there done → (m : Node) → Owned types (scope_behind done) → NodeTidy (scope_behind done) m → Owned types (scope_behind there) × NodeTidy (scope_behind there) m
made_there types done there e m own h = (
  (λ c u l. own c u (ap (λ z. lookup z c) (sym e) ∙ l)),
  node_more (scope_behind done) (scope_behind there) (λ c t l. ap (λ z. lookup z c) e ∙ l) m h,
)

pub all_made : (types before : List TypeDecl) (n : NameScope) (done there : List Item) (nodes : List ℕ → Node) (forms : List ℕ → Form) (xs ys : List Item) → types ≡ before ++ types_of xs → SoFar before n (scope_behind done) → SameConstructors there done
    → ItemsAreNamed n xs → ItemsAreTyped (scope_behind done) xs → ItemsHaveTypes (scope_behind done) xs → ((f : List ℕ) → NodeTidy (scope_behind done) (nodes f)) → ((f : List ℕ) → IsReady (nodes f)) → ((f : List ℕ) → (forms f).has_contract ≡ is_some (nodes f).contract)
    → AllCanBeReplaced nodes xs → AreShaped forms xs → AreClocked (replaced_items nodes xs) ys → AllMade types there → AllMade types (onto ys there)
all_made types before n done there nodes forms [] [] split p e m t h bodies ready alike can shape c made = made
all_made types before n done there nodes forms [] (y ∷ ys) split p e m t h bodies ready alike can shape c made = absurd c
all_made types before n done there nodes forms (TypeItem d ∷ xs) [] split p e m t h bodies ready alike can shape c made = absurd c
all_made types before n done there nodes forms (NodeItem x ∷ xs) [] split p e m t h bodies ready alike can shape c made = absurd c
all_made types before n done there nodes forms (TypeItem d ∷ xs) (y ∷ ys) split p e m t h bodies ready alike can shape c made =
    let s = scope_behind done in
    let more : (f : List ℕ) → NodeTidy (scope_behind (TypeItem d ∷ done)) (nodes f) =
    λ f. node_more s (scope_behind (TypeItem d ∷ done)) (λ k u l. constructors_kept d.cons s.constructors d.name k u l) (nodes f) (bodies f) in
    subst (λ z. AllMade types (onto ys (z ∷ there))) (sym c.0)
    (all_made types (before ++ d ∷ []) (names.behind n (TypeItem d)) (TypeItem d ∷ done) (TypeItem d ∷ there) nodes forms xs ys (split ∙ sym (append_more before d (types_of xs))) (so_far_type before n s d p m.0.0)
    (ap (λ z. with_constructors z d.name d.cons) e) m.1 t.1 h.1 more ready alike can shape c.1 made)
all_made types before n done there nodes forms (NodeItem x ∷ xs) (y ∷ ys) split p e m t h bodies ready alike can shape c made =
    let s = scope_behind done in
    let r = replaced_node nodes x in
    let at = c.0.0 in
    let w = node_with_clocks at r in
    let ib = block_inlines nodes forms alike x.body shape.0.body_inlines_no_contract in
    let ic = contract_inlines nodes forms alike x.contract shape.0.contract_inlines_no_contract in
    let tidy = replaced_tidy s nodes bodies ready x can.0 ib ic (node_tidy s n x (no_variables done) m.0.1 t.0 h.0) in
    let is_ready = node_replaced nodes ready x can.0 in
    let q = made_there types done there e r (owned_of types before (types_of xs) n s split p) tidy in
    let bodies' : (f : List ℕ) → NodeTidy s (with_node nodes r f) = with_tidy s nodes bodies r tidy in
    let more : (f : List ℕ) → NodeTidy (scope_behind (NodeItem x ∷ done)) (with_node nodes r f) = λ f. node_more s (scope_behind (NodeItem x ∷ done)) (λ k u l. l) (with_node nodes r f) (bodies' f) in
    subst (λ z. AllMade types (onto ys (z ∷ there))) (sym c.0.1.1)
    (all_made types before (names.behind n (NodeItem x)) (NodeItem x ∷ done) (NodeItem w ∷ there) (with_node nodes r) (shapes.with_form forms x.name (shapes.form_of forms x)) xs ys split (so_far_node before n s x p) e m.1 t.1 h.1 more
    (with_ready nodes ready r is_ready) (λ f. form f (bytes_eq x.name f)) can.1 shape.1 c.1 ((r, (at, (refl, (c.0.1.0, (q.1, (is_ready.scoped, q.0)))))), made))
  where
    form : (f : List ℕ) (b : Bool) → (if b then shapes.form_of forms x else forms f).has_contract ≡ is_some (if b then replaced_node nodes x else nodes f).contract
    form f true = sym (contract_there nodes x.contract)
    form f false = alike f
