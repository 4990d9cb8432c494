-- Contracts have their shapes by the walk exactly where they have them once inlined calls are replaced.
use Rattle.std.proofs.Common.{◌≡◌, ◌↔◌, ℕ, suc, Bool, true, false, if◌then◌else◌, List, [], ◌∷◌, Option, refl, sym, ap, ◌∙◌, subst, arith}
use Rattle.std.specs.Prelude.{is_some}
use Rattle.std.specs.Str.{bytes_eq}
use Rattle.hp_tree.specs.declared.program.Item.{Item}
use Rattle.hp_tree.specs.declared.program.Item.TheVariants.{TypeItem, NodeItem}
use Rattle.hp_tree.specs.Blocks.{block, no_eqn}
use Rattle.hp_tree.specs.Programs.{Contract, Node}
use Rattle.law_judged.specs.Named.Scoped.{EachNode}
use Rattle.hp_expand.specs.Sizes as sizes
use Rattle.hp_expand.specs.Sizes.{places, join}
use Rattle.hp_expand.specs.Shapes as shapes
use Rattle.hp_expand.specs.Formed.{IsShaped, AreShaped}
use Rattle.hp_expand.specs.Fitting.{NodeFits}
use Rattle.hp_expand.specs.Plain.{NodeIsPlain, ItemsArePlain}
use Rattle.hp_expand.specs.Numbering.{replaced_node, with_node, replaced_items}
use Rattle.hp_expand.proofs.ReplacedSizes.{counted_law}
use Rattle.hp_compile.specs.Counts as plain
use Rattle.hp_compile.specs.Counts.{Inside, Call, total}
use Rattle.hp_compile.specs.Shapes.{AllInlineFree, CallsNothing, ControlsNoInteger}
use Rattle.hp_compile.proofs.CountLemmas.Types.{Size, Form}
use Rattle.hp_compile.proofs.CountLemmas.Fits.{InlinesNone}
use Rattle.hp_compile.proofs.CountLemmas.Same.{AllInlineNone, AllFit}
use Rattle.hp_compile.proofs.CountLemmas.Tests.{NodeTests, ItemsTests}
use Rattle.hp_compile.proofs.CountLemmas.Plain.{size_of, contract_same}
use Rattle.hp_compile.proofs.CountLemmas.Marks.{has, inlines_same, integers_same}
use Rattle.hp_compile.proofs.CountLemmas.Quiet.{Tied, contract_quiet, tied_more}

-- ---- no node with a contract is inlined

table_more : (forms : List ℕ → Form) (n : Node) → (λ (f : List ℕ). if bytes_eq n.name f then is_some n.contract else (forms f).has_contract) ≡ has (shapes.with_form forms n.name (shapes.form_of forms n))
table_more forms n = λ i f. by f (bytes_eq n.name f) i
  where
    by : (f : List ℕ) (b : Bool) → (if b then is_some n.contract else (forms f).has_contract) ≡ (if b then shapes.form_of forms n else forms f).has_contract
    by f true = refl
    by f false = refl

pub inline_same : (forms : List ℕ → Form) (items : List Item) → AllInlineFree (has forms) items ↔ AllInlineNone forms items
inline_same forms [] = (λ h. tt, λ h. tt)
inline_same forms (TypeItem t ∷ items) = inline_same forms items
inline_same forms (NodeItem n ∷ items) =
    let more = shapes.with_form forms n.name (shapes.form_of forms n) in
    let p = inlines_same forms n in
    let q = subst (λ z. AllInlineFree z items ↔ AllInlineNone more items) (sym (table_more forms n)) (inline_same more items) in
    (λ h. (p.1 h.0, q.0 h.1), λ h. (p.0 h.0, q.1 h.1))

-- ---- a contract that calls nothing

none_called : (known : List ℕ → Size) (a : Inside) → ((size_of known a).instances ≡ 0) ↔ (a.calls ≡ [])
unfolding size_of
none_called known a = by a.calls
  where
    by : (fs : List Call) → (total (λ f. suc (known f).instances) fs ≡ 0) ↔ (fs ≡ [])
    by [] = (λ h. refl, λ h. refl)
    by (f ∷ fs) = (λ h. absurd (omega (arith, h)), λ h. absurd cc)

-- a node with the contract alone
abbrev alone : Node → Node
alone n = record n { inputs = []; outputs = []; body = block [] no_eqn }

alone_size : (known : List ℕ → Size) (c : Option Contract) → (join (join (places 0) (places 0)) (join (sizes.in_contract known c) (join (places 0) sizes.none))).instances ≡ (sizes.in_contract known c).instances
unfolding join places
alone_size known c = omega arith

module _ (known : List ℕ → Size) (forms : List ℕ → Form) (nodes : List ℕ → Node) (n : Node) (fits : NodeFits known nodes n) where
  abbrev r : Node
  r = replaced_node nodes n

  same_instances : (sizes.in_contract known r.contract).instances ≡ (sizes.in_contract known n.contract).instances
  same_instances =
      sym (alone_size known r.contract) ∙ ap (λ (s : Size). s.instances) (counted_law known nodes (alone n) (fits.0, tt)) ∙ alone_size known n.contract

  shaped_node : Tied known forms → InlinesNone forms n → NodeIsPlain r → NodeTests r → IsShaped forms n ↔ (CallsNothing r × ControlsNoInteger n)
  shaped_node tied i plain_now tests =
      let size = contract_same known r.contract plain_now.0 tests.0 in
      let called = none_called known (plain.in_contract r.contract) in
      let quiet = contract_quiet known forms tied n.contract i.0 in
      let integers = integers_same forms n.contract in (
        λ s. (
          called.0 (ap (λ (z : Size). z.instances) (sym size) ∙ same_instances ∙ quiet.1 s.contract_calls_nothing),
          integers.0 s.controls_are_no_integers,
        ),
        λ h. record {
          contract_calls_nothing = quiet.0 (sym same_instances ∙ ap (λ (z : Size). z.instances) size ∙ called.1 h.0);
          contract_inlines_no_contract = i.0;
          body_inlines_no_contract = i.1;
          controls_are_no_integers = integers.1 h.1;
        },
      )

pub all_shaped : (known : List ℕ → Size) (forms : List ℕ → Form) (nodes : List ℕ → Node) → Tied known forms → (items : List Item) → AllInlineNone forms items → AllFit known nodes items → ItemsArePlain (replaced_items nodes items)
    → ItemsTests (replaced_items nodes items) → AreShaped forms items ↔ (EachNode CallsNothing (replaced_items nodes items) × EachNode ControlsNoInteger items)
all_shaped known forms nodes tied [] i f p t = (λ h. (tt, tt), λ h. tt)
all_shaped known forms nodes tied (TypeItem y ∷ items) i f p t = all_shaped known forms nodes tied items i f p t
all_shaped known forms nodes tied (NodeItem n ∷ items) i f p t =
    let here = shaped_node known forms nodes n f.0 tied i.0 p.0 t.0 in
    let more = shapes.with_form forms n.name (shapes.form_of forms n) in
    let behind = all_shaped (sizes.with_node known n.name (sizes.in_node known n)) more (with_node nodes (replaced_node nodes n)) (tied_more known forms tied n i.0) items i.1 f.1 p.1 t.1 in (
      λ h.
          let a = here.0 h.0 in
          let b = behind.0 h.1 in
          ((a.0, b.0), (a.1, b.1)),
      λ h. (here.1 (h.0.0, h.1.0), behind.1 (h.0.1, h.1.1)),
    )
