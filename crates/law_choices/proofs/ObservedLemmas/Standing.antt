-- The observers of a ready program are sound where they stand, without automata.
use Rattle.std.proofs.Common.{◌≡◌, ◌⊎◌, inl, inr, ⊎_elim, ℕ, ◌+◌, ◌<◌, Bool, true, false, if◌then◌else◌, ◌||◌, List, [], ◌∷◌, ◌++◌, length, map, reverse, refl, sym, ap, subst, ◌∙◌, arith}
use Rattle.std.specs.Prelude.{⊤, IsTrue, IsFalse, Option, None, Some}
use Rattle.std.specs.Str.{bytes_eq}
use Rattle.hp_base.specs.declared.ty.Ty.{Ty}
use Rattle.hp_base.specs.declared.ty.Ty.TheVariants as ty
use Rattle.hp_base.specs.declared.ty.Const.{Const}
use Rattle.hp_base.specs.declared.ty.Const.TheVariants as const
use Rattle.hp_base.specs.Known.Known.{lookup, with_entry}
use Rattle.hp_tree.specs.Blocks.{Decl, Block, block, Eqns, no_eqn, more_eqns, Eqn, eqns_of, list_of_eqns}
use Rattle.hp_tree.specs.declared.program.Item.{Item}
use Rattle.hp_tree.specs.declared.program.Item.TheVariants.{TypeItem, NodeItem}
use Rattle.hp_tree.specs.Meaning.{declares, node_among, controls_of}
use Rattle.hp_tree.specs.Programs.{TypeDecl, Contract, Node}
use Rattle.hp_typing.specs.Scopes.{with_constructors, with_variables, inside_node}
use Rattle.hp_typing.specs.Types.{enum_of}
use Rattle.law_judged.specs.Named.Scopes.{Scope}
use Rattle.law_judged.specs.Named.Scoped.{EachNode, also, no_names, interface}
use Rattle.law_judged.specs.Replaced.Fitting.{NodeNames}
use Rattle.law_judged.proofs.NamedLemmas.Sets.{or_cases, or_left, or_right, declares_append}
use Rattle.law_judged.proofs.OnceLemmas.Renamed.{or_none}
use Rattle.hp_expand.specs.Numbering.{with_node, replaced_node, replaced_items}
use Rattle.law_values.specs.Accepted.Written.{AreClocked}
use Rattle.law_values.specs.Valued.Judged.{no_lasts, lasts_in, body_scope, ConstantIs, NodeSound}
use Rattle.law_values.specs.Valued.Values.{scope_behind, Classing, class_behind, AreAccepted}
use Rattle.law_values.proofs.AcceptedLemmas.SoundNodes.{node_more, AllSound}
use Rattle.law_values.proofs.AcceptedLemmas.Views.{constant_is}
use Rattle.hp_automata.specs.Lowering.{Enumerations, enumerations, lowered_node, lowered_item, first_constructor}
use Rattle.law_automata.specs.Lowered.OldNames.{IsOld}
use Rattle.law_automata.specs.Readied.Constants.{HasConstant, DeclTypes, BlockTypes, EqnsTypes, ContractTypes, NodeTypes}
use Rattle.law_automata.specs.Readied.Sound.{AroundOld, SoundBehind, ConstantsBehind}
use Rattle.law_automata.proofs.LoweredLemmas.Apart.{same_bytes}
use Rattle.law_automata.proofs.LowerableLemmas.Texts.{onto}
use Rattle.law_automata.proofs.ReadiedLemmas.SoundNodes.{sound_law}
use Rattle.law_automata.proofs.ReadiedLemmas.TypesKept.{node_weaker}
use Rattle.law_equations.specs.Answered.Answering.{has_node, AreApart}
use Rattle.law_wellmade.specs.Timely.Tested.{NodeTested, AreTested}
use Rattle.law_wellmade.specs.Tested.Apart.{ContractApart}
use Rattle.law_wellmade.specs.Tested.Fits.{NodeFits}
use Rattle.law_wellmade.proofs.TimelyLemmas.DifferLaws.{Grounds, grounds_more}
use Rattle.law_wellmade.proofs.TestedLemmas.Fitted.{block_tested}
use Rattle.law_wellmade.proofs.TestedLemmas.FittedPrograms.{grounds_there, GroundBehind, node_fits}
use Rattle.law_drawing.specs.Carrying.Drawable.{ContractDrawable, NodeDrawable}
use Rattle.hp_watch.specs.Observing.{assumed, enforced, outputs_at, inputs_for, all_handed_on, with_lines, lines_of, observer_of, observer_if, observers}
use Rattle.law_choices.proofs.ObservedLemmas.Known.{IsKnown}
use Rattle.law_choices.proofs.ObservedLemmas.Removable.{assumed_old, enforced_old, input_old, observer_ok}
use Rattle.law_choices.proofs.ObservedLemmas.Scoped.{input_from, observer_scoped}
use Rattle.law_choices.proofs.ObservedLemmas.Sound.{observer_sound, observer_fits}

-- ---- constants are of their types where nodes stand

abbrev pub ConstantsAre : List TypeDecl → List Item → Type 0
ConstantsAre types [] = ⊤
ConstantsAre types (TypeItem t ∷ earlier) = ConstantsAre types earlier
ConstantsAre types (NodeItem n ∷ earlier) = ((c : Const) → ConstantIs types (scope_behind earlier) c) × ConstantsAre types earlier

pub constant_there : (types : List TypeDecl) (s r : Scope) → r.constructors ≡ s.constructors → (c : Const) → ConstantIs types s c → ConstantIs types r c
constant_there types s r e (const.B b) f = f
constant_there types s r e (const.I n) f = f
constant_there types s r e (const.E c) f = λ t h. f t (ap (λ z. enum_of (lookup z c)) (sym e) ∙ h)

-- items with the same types
abbrev SameTypes : List Item → List Item → Type 0
SameTypes [] [] = ⊤
SameTypes (TypeItem t ∷ xs) (TypeItem u ∷ ys) = (u ≡ t) × SameTypes xs ys
SameTypes (NodeItem n ∷ xs) (NodeItem m ∷ ys) = SameTypes xs ys
SameTypes xs ys = ⊥

same_written : (nodes : List ℕ → Node) (xs zs : List Item) → AreClocked (replaced_items nodes xs) zs → SameTypes xs zs
same_written nodes [] [] c = tt
same_written nodes [] (z ∷ zs) c = absurd c
same_written nodes (TypeItem t ∷ xs) [] c = absurd c
same_written nodes (TypeItem t ∷ xs) (z ∷ zs) c = subst (λ w. SameTypes (TypeItem t ∷ xs) (w ∷ zs)) (sym c.0) (refl, same_written nodes xs zs c.1)
same_written nodes (NodeItem n ∷ xs) [] c = absurd c
same_written nodes (NodeItem n ∷ xs) (z ∷ zs) c = subst (λ w. SameTypes (NodeItem n ∷ xs) (w ∷ zs)) (sym c.0.1.1) (same_written (with_node nodes (replaced_node nodes n)) xs zs c.1)

constants_onto : (types : List TypeDecl) (done there xs ys : List Item) → (scope_behind there).constructors ≡ (scope_behind done).constructors → AllSound types done xs → SameTypes xs ys → ConstantsAre types there → ConstantsAre types (onto ys there)
constants_onto types done there [] [] e h s g = g
constants_onto types done there (TypeItem t ∷ xs) (TypeItem u ∷ ys) e h s g =
    constants_onto types (TypeItem t ∷ done) (TypeItem u ∷ there) xs ys (ap (λ (z : TypeDecl). with_constructors (scope_behind there).constructors z.name z.cons) s.0 ∙ ap (λ z. with_constructors z t.name t.cons) e) h s.1 g
constants_onto types done there (NodeItem n ∷ xs) (NodeItem m ∷ ys) e h s g =
    constants_onto types (NodeItem n ∷ done) (NodeItem m ∷ there) xs ys e h.1 s ((λ c. constant_there types (scope_behind done) (scope_behind there) e c (constant_is types (node_among done) (scope_behind done) h.0.0 c)), g)
constants_onto types done there [] (y ∷ ys) e h s g = absurd s
constants_onto types done there (TypeItem t ∷ xs) [] e h s g = absurd s
constants_onto types done there (NodeItem n ∷ xs) [] e h s g = absurd s
constants_onto types done there (TypeItem t ∷ xs) (NodeItem m ∷ ys) e h s g = absurd s
constants_onto types done there (NodeItem n ∷ xs) (TypeItem u ∷ ys) e h s g = absurd s

pub constants_are : (types : List TypeDecl) (nodes : List ℕ → Node) (program after : List Item) → AreClocked (replaced_items nodes program) after → AllSound types [] program → ConstantsAre types (reverse after)
constants_are types nodes program after clocked sound = constants_onto types [] [] program after refl sound (same_written nodes program after clocked) tt

-- ---- what is known where observers stand

pub no_variables : (items : List Item) (x : List ℕ) → lookup (scope_behind items).variables x ≡ None
no_variables [] x = refl
no_variables (TypeItem t ∷ items) x = no_variables items x
no_variables (NodeItem n ∷ items) x = no_variables items x

none_named : (items : List Item) (f : List ℕ) → IsFalse (has_node items f) → node_among items f ≡ None
none_named [] f h = refl
none_named (TypeItem t ∷ items) f h = none_named items f h
none_named (NodeItem n ∷ items) f h = by (bytes_eq n.name f) h (none_named items f)
  where
    by : (b : Bool) → IsFalse (b || has_node items f) → (IsFalse (has_node items f) → node_among items f ≡ None) → (if b then Some n else node_among items f) ≡ None
    by true k r = absurd cc
    by false k r = r k

pub nodes_known : (items : List Item) → AreApart items → (f : List ℕ) → lookup (scope_behind items).nodes f ≡ node_among items f
nodes_known [] a f = refl
nodes_known (TypeItem t ∷ items) a f = nodes_known items a f
nodes_known (NodeItem n ∷ items) a f = node_more (scope_behind items) n (node_among items) (nodes_known items a.1 n.name ∙ none_named items n.name a.0) (nodes_known items a.1) f

-- ---- the observers, the last one first

module _ (types : List TypeDecl) (enums : Enumerations) where
  abbrev low : List Item → List Item
  low items = map (lowered_item enums) items

  pub conses_same : (items : List Item) → (scope_behind (low (observers items))).constructors ≡ (scope_behind items).constructors
  conses_same [] = refl
  conses_same (TypeItem t ∷ items) = ap (λ z. with_constructors z t.name t.cons) (conses_same items)
  conses_same (NodeItem n ∷ items) = by n.contract (conses_same items)
    where
      by : (o : Option Contract) → (scope_behind (low (observers items))).constructors ≡ (scope_behind items).constructors → (scope_behind (low (observer_if n o ++ observers items))).constructors ≡ (scope_behind items).constructors
      by None e = e
      by (Some c) e = e

  pub has_constant : (s r : Scope) → r.constructors ≡ s.constructors → (u : Ty) → HasConstant enums s u → HasConstant enums r u
  has_constant s r e ty.Bool h = refl
  has_constant s r e ty.Int h = refl
  has_constant s r e (ty.Enum x) h = ap (λ z. enum_of (lookup z (first_constructor (lookup enums x)))) e ∙ h

  module _ (P : Ty → Type 0) where
    both_types : (ds es : List Decl) → DeclTypes P ds → DeclTypes P es → DeclTypes P (ds ++ es)
    both_types [] es h k = k
    both_types (d ∷ ds) es h k = (h.0, both_types ds es h.1 k)

    handed_types : (i : ℕ) (ds : List Decl) → EqnsTypes P (eqns_of (all_handed_on i ds))
    handed_types i [] = tt
    handed_types i (d ∷ ds) = (tt, handed_types (i + 1) ds)

    types_behind : (es : Eqns) (more : List Eqn) → EqnsTypes P es → EqnsTypes P (eqns_of more) → EqnsTypes P (eqns_of (list_of_eqns es ++ more))
    types_behind no_eqn more h k = k
    types_behind (more_eqns e es) more h k = (h.0, types_behind es more h.1 k)

    body_types : (b : Block) (more : List Decl) (lines : List Eqn) → BlockTypes P b → DeclTypes P more → EqnsTypes P (eqns_of lines) → BlockTypes P (with_lines b more lines)
    body_types (block ds es) more lines h d k = (both_types ds more h.0 d, types_behind es lines h.1 k)

    pub observer_types : (n : Node) (c : Contract) → n.contract ≡ Some c → P ty.Bool → NodeTypes P n → NodeTypes P (observer_of n c)
    observer_types n c e bool h = ((bool, (bool, tt)), (tt, body_types c.body n.outputs (lines_of n c) (subst (ContractTypes P) e h.1.0) h.0 (tt, (tt, handed_types 0 n.outputs))))

  pub around_old : (n : Node) (c : Contract) → NodeNames IsOld n → length n.outputs < 1000000 → AroundOld (observer_of n c)
  around_old n c old few x h = told (or_cases (declares (outputs_at c.span) x) (declares (n.inputs ++ inputs_for 0 n.outputs) x || false) h)
    where
      mine : IsTrue (declares n.inputs x) ⊎ IsTrue (declares (inputs_for 0 n.outputs) x) → IsOld x
      mine (inl k) =
          old.interface x (or_right (declares (controls_of n.contract) x) (interface n x) (or_right (declares n.outputs x) (also no_names n.inputs x) (or_left (declares n.inputs x) false k)))
      mine (inr k) = let q = input_from 0 n.outputs x k in let u = q.2 in subst IsOld q.3 (input_old q.0 (omega (arith, u, few)))

      told : IsTrue (declares (outputs_at c.span) x) ⊎ IsTrue (declares (n.inputs ++ inputs_for 0 n.outputs) x || false) → IsOld x
      told (inl k) = ⊎_elim (λ q. subst IsOld (same_bytes assumed x q) assumed_old) (λ q. subst IsOld (same_bytes enforced x (or_none (bytes_eq enforced x) q)) enforced_old) (or_cases (bytes_eq assumed x) (bytes_eq enforced x || false) k)
      told (inr k) = mine (or_cases (declares n.inputs x) (declares (inputs_for 0 n.outputs) x) (sym (declares_append n.inputs (inputs_for 0 n.outputs) x) ∙ or_none (declares (n.inputs ++ inputs_for 0 n.outputs) x) k))

  pub one_sound : (n : Node) (c : Contract) (earlier : List Item) → n.contract ≡ Some c → IsKnown types n → NodeNames IsOld n → NodeSound types (node_among earlier) (scope_behind earlier) n → ((k : Const) → ConstantIs types (scope_behind earlier) k)
      → NodeTypes (HasConstant enums (scope_behind earlier)) n → AreApart (low (observers earlier)) → NodeSound types (node_among (low (observers earlier))) (scope_behind (low (observers earlier))) (lowered_node enums (observer_of n c))
  one_sound n c earlier e k old h constants has apart =
      let o = k.observable in
      let there = low (observers earlier) in
      let s = scope_behind earlier in
      let r = scope_behind there in
      let same : r.constructors ≡ s.constructors = conses_same earlier in
      let here : (q : Const) → ConstantIs types r q = λ q. constant_there types s r same q (constants q) in
      let known = nodes_known there apart in
      let scoped = observer_scoped n c e k.scoped o in
      let sound = observer_sound types (node_among earlier) (node_among there) s r (no_variables earlier) (no_variables there) same here known n c k.scoped scoped o.interface e o.contract k.alone h in
      let typed = observer_types (HasConstant enums r) n c e refl (node_weaker (HasConstant enums s) (HasConstant enums r) (has_constant s r same) n has) in
      sound_law types (node_among there) enums r (observer_of n c) (here, known) (no_variables there) typed (around_old n c old o.few) scoped (observer_ok n c e k.ok k.scoped k.base o) sound

  kinds_same : (items : List Item) → (scope_behind (low (observers items))).types ≡ (scope_behind items).types
  kinds_same [] = refl
  kinds_same (TypeItem t ∷ items) = ap (λ z. with_entry z t.name t) (kinds_same items)
  kinds_same (NodeItem n ∷ items) = by n.contract (kinds_same items)
    where
      by : (o : Option Contract) → (scope_behind (low (observers items))).types ≡ (scope_behind items).types → (scope_behind (low (observer_if n o ++ observers items))).types ≡ (scope_behind items).types
      by None e = e
      by (Some c) e = e

  one_tested : (n : Node) (c : Contract) (earlier : List Item) → n.contract ≡ Some c → IsKnown types n → NodeNames IsOld n → NodeSound types (node_among earlier) (scope_behind earlier) n → ((k : Const) → ConstantIs types (scope_behind earlier) k)
      → NodeTypes (HasConstant enums (scope_behind earlier)) n → AreApart (low (observers earlier)) → Grounds types (scope_behind earlier) → ContractDrawable (inside_node (scope_behind earlier) n) n.contract → ContractApart n.contract → NodeTested types (scope_behind (low (observers earlier))) (lowered_node enums (observer_of n c))
  one_tested n c earlier e k old h constants has apart ground drawn p =
      let o = k.observable in
      let there = low (observers earlier) in
      let s = scope_behind earlier in
      let r = scope_behind there in
      let same : r.constructors ≡ s.constructors = conses_same earlier in
      let here : (q : Const) → ConstantIs types r q = λ q. constant_there types s r same q (constants q) in
      let known = nodes_known there apart in
      let scoped = observer_scoped n c e k.scoped o in
      let g = grounds_there types s r same (kinds_same earlier) ground in
      let sound = observer_sound types (node_among earlier) (node_among there) s r (no_variables earlier) (no_variables there) same here known n c k.scoped scoped o.interface e o.contract k.alone h in
      let fits = observer_fits types (node_among earlier) (node_among there) s r (no_variables earlier) (no_variables there) same here known n c k.scoped scoped o.interface e o.contract k.alone k.base g drawn p h in
      let typed = observer_types (HasConstant enums r) n c e refl (node_weaker (HasConstant enums s) (HasConstant enums r) (has_constant s r same) n has) in
      let m = lowered_node enums (observer_of n c) in
      let low_fits : NodeFits types r m = node_fits types (node_among there) enums r (observer_of n c) (here, known) (no_variables there) typed (around_old n c old o.few) scoped (observer_ok n c e k.ok k.scoped k.base o) sound fits in
      let low_sound = one_sound n c earlier e k old h constants has apart in
      block_tested types (node_among there) m.body (body_scope r m) (lasts_in m.outputs no_lasts) (grounds_more types (controls_of m.contract) (inside_node r m) (grounds_more types m.outputs (with_variables r m.inputs) (grounds_more types m.inputs r g))) low_fits low_sound.1.1.1.1.0

  -- each node can be drawn where it stands
  abbrev pub DrawableBehind : List Item → Type 0
  DrawableBehind [] = ⊤
  DrawableBehind (TypeItem t ∷ earlier) = DrawableBehind earlier
  DrawableBehind (NodeItem n ∷ earlier) = NodeDrawable (scope_behind earlier) n × DrawableBehind earlier

  pub all_tested : (items : List Item) → EachNode (IsKnown types) items → EachNode (NodeNames IsOld) items → SoundBehind types items → ConstantsAre types items → ConstantsBehind enums items → GroundBehind types items → DrawableBehind items → EachNode (λ (n : Node). ContractApart n.contract) items
      → AreApart (low (observers items)) → AreTested types (low (observers items))
  all_tested [] k old h g has ground drawn p apart = tt
  all_tested (TypeItem t ∷ items) k old h g has ground drawn p apart = all_tested items k old h g has ground drawn p apart
  all_tested (NodeItem n ∷ items) k old h g has ground drawn p apart = by n.contract refl apart (all_tested items k.1 old.1 h.1 g.1 has.1 ground.1 drawn.1 p.1)
    where
      by : (o : Option Contract) → n.contract ≡ o → AreApart (low (observer_if n o ++ observers items)) → (AreApart (low (observers items)) → AreTested types (low (observers items))) → AreTested types (low (observer_if n o ++ observers items))
      by None e a rest = rest a
      by (Some c) e a rest = (one_tested n c items e k.0 old.0 h.0 g.0 has.0 a.1 ground.0.1.1 drawn.0.contract p.0, rest a.1)

  pub all_sound : (items : List Item) → EachNode (IsKnown types) items → EachNode (NodeNames IsOld) items → SoundBehind types items → ConstantsAre types items → ConstantsBehind enums items → AreApart (low (observers items)) → SoundBehind types (low (observers items))
  all_sound [] k old h g has apart = tt
  all_sound (TypeItem t ∷ items) k old h g has apart = all_sound items k old h g has apart
  all_sound (NodeItem n ∷ items) k old h g has apart = by n.contract refl apart (all_sound items k.1 old.1 h.1 g.1 has.1)
    where
      by : (o : Option Contract) → n.contract ≡ o → AreApart (low (observer_if n o ++ observers items)) → (AreApart (low (observers items)) → SoundBehind types (low (observers items))) → SoundBehind types (low (observer_if n o ++ observers items))
      by None e a rest = rest a
      by (Some c) e a rest = (one_sound n c items e k.0 old.0 h.0 g.0 has.0 a.1, rest a.1)

  -- ---- in their order

  moved : (n : Node) (o : Option Contract) (xs ys : List Item) → onto (low (observer_if n o ++ xs)) (low ys) ≡ onto (low xs) (low (observer_if n o ++ ys))
  moved n None xs ys = refl
  moved n (Some c) xs ys = refl

  pub observers_onto : (xs ys : List Item) → onto (low (observers xs)) (low (observers ys)) ≡ low (observers (onto xs ys))
  observers_onto [] ys = refl
  observers_onto (TypeItem t ∷ xs) ys = observers_onto xs (TypeItem t ∷ ys)
  observers_onto (NodeItem n ∷ xs) ys = moved n n.contract (observers xs) (observers ys) ∙ observers_onto xs (NodeItem n ∷ ys)

pub accepted_sound : (types : List TypeDecl) (class : Classing) (items : List Item) → AreAccepted types class items → SoundBehind types items
accepted_sound types class [] a = tt
accepted_sound types class (TypeItem t ∷ items) a = accepted_sound types class items a
accepted_sound types class (NodeItem n ∷ items) a = (a.0.sound, accepted_sound types (class_behind class) items a.1)

enums_if : (known : Enumerations) (n : Node) (o : Option Contract) (items : List Item) → enumerations known (observer_if n o ++ items) ≡ enumerations known items
enums_if known n None items = refl
enums_if known n (Some c) items = refl

pub enums_same : (known : Enumerations) (items : List Item) → enumerations known (observers items) ≡ enumerations known items
enums_same known [] = refl
enums_same known (TypeItem t ∷ items) = enums_same (with_entry known t.name t) items
enums_same known (NodeItem n ∷ items) = enums_if known n n.contract (observers items) ∙ enums_same known items
