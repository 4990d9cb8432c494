-- A ready program without its automata is prepared for its machines.
use Rattle.std.proofs.Common.{◌≡◌, ℕ, List, [], ◌∷◌, map, reverse, refl, sym, ap, subst, ◌∙◌}
use Rattle.std.specs.Prelude.{Option, None, Some, option_map}
use Rattle.hp_tree.specs.Meaning.{types_of, controls_of}
use Rattle.hp_tree.specs.Programs.{Contract}
use Rattle.hp_tree.specs.declared.program.Item.{Item}
use Rattle.hp_tree.specs.declared.program.Item.TheVariants.{TypeItem, NodeItem}
use Rattle.hp_meaning.specs.Causal.RanksOfPoints.{AllFall, AllRanksLaw}
use Rattle.hp_meaning.specs.Causal.Runs.{NoControls}
use Rattle.law_judged.specs.Named.Scoped.{EachNode}
use Rattle.law_values.specs.Accepted.Laws.{IsReady}
use Rattle.hp_automata.specs.Lowering as lowering
use Rattle.hp_automata.specs.Lowering.{Types, Enumerations, enumerations, lowered_contract, lowered_item, lowered_program}
use Rattle.law_automata.specs.Lowered.Removable.{IsRemovable}
use Rattle.law_automata.specs.Lowered.Laws.{RanksLaw}
use Rattle.law_values.specs.Filled.Firsts.{TypesHaveConstructors, NodeHasFirsts}
use Rattle.law_values.specs.Filled.Laws.{ReadyFirstsLaw}
use Rattle.law_automata.specs.Readied.Laws.{WholeLaw}
use Rattle.law_automata.specs.Readied.Sound.{HasOne, HaveConstructors, SoundBehind, ReadySoundLaw}
use Rattle.law_automata.specs.Readied.Accepted.{AcceptedLaw}
use Rattle.law_wellmade.specs.Apart.Apart.{ScopedLaw, LoweredLaw}
use Rattle.law_automata.specs.Classed.Laws.{ClassesLaw}
use Rattle.law_wellmade.specs.Begun.Laws.{HasFewTypes, BegunLaw}
use Rattle.law_wellmade.specs.Timely.Tested.{AreTested}
use Rattle.law_wellmade.specs.Tested.Laws.{DifferLaw, TestedLaw}
use Rattle.law_history.proofs.StreamsLemmas.Asked.{ready_named}
use Rattle.law_wellmade.proofs.BegunLemmas.LoweredFirsts.{lowered_firsts}
use Rattle.law_history.proofs.StreamsLemmas.NamesApart.{ready_apart}
use Rattle.law_history.proofs.StreamsLemmas.NodeRuns.{Prepared}

-- the laws that are joined here
pub record ReadyLaws : Type 0 where
  pub classes : ClassesLaw
  pub accepted : AcceptedLaw
  pub all_ranks : AllRanksLaw
  pub ranks : RanksLaw
  pub firsts : ReadyFirstsLaw
  pub sound : ReadySoundLaw
  pub whole : WholeLaw
  pub scoped : ScopedLaw
  pub lowered : LoweredLaw
  pub begun : BegunLaw
  pub differ : DifferLaw
  pub tested : TestedLaw

has_one : (cs : List (List ℕ)) → (cs ≡ [] → ⊥) → HasOne cs
has_one [] h = h refl
has_one (c ∷ cs) h = tt

have_constructors : (items : List Item) → TypesHaveConstructors (types_of items) → HaveConstructors items
have_constructors [] h = tt
have_constructors (TypeItem t ∷ items) h = (has_one t.cons h.0, have_constructors items h.1)
have_constructors (NodeItem n ∷ items) h = have_constructors items h

-- ---- what removing automata leaves as it was

module _ (enums : Enumerations) where
  pub types_lowered : (items : List Item) → types_of (map (lowered_item enums) items) ≡ types_of items
  types_lowered [] = refl
  types_lowered (TypeItem t ∷ items) = ap (λ ts. t ∷ ts) (types_lowered items)
  types_lowered (NodeItem n ∷ items) = types_lowered items

  controls_lowered : (tys : Types) (o : Option Contract) → controls_of (option_map (lowered_contract enums tys) o) ≡ controls_of o
  controls_lowered tys None = refl
  controls_lowered tys (Some c) = refl

  none_lowered : (items : List Item) → NoControls items → NoControls (map (lowered_item enums) items)
  none_lowered [] h = tt
  none_lowered (TypeItem t ∷ items) h = none_lowered items h
  none_lowered (NodeItem n ∷ items) h = (controls_lowered (lowering.types_of n) n.contract ∙ h.0, none_lowered items h.1)

pub prepared : ReadyLaws → (program after : List Item) (ranks : List (List ℕ)) → IsReady program after → IsRemovable after → AllFall after ranks → NoControls after → TypesHaveConstructors (types_of program)
    → HasFewTypes program → Prepared (lowered_program after)
prepared laws program after ranks r ok fall none full few =
    let enums = enumerations [] after in
    let low = lowered_program after in
    let types : types_of low ≡ types_of after = types_lowered enums after in
    let cons = have_constructors program full in
    let c = laws.classes program after r ok in
    let b = laws.begun program after r ok full few in
    record {
      class = c.0;
      accepted = laws.accepted program after c.0 r ok cons c.1;
      ranked = laws.ranks after ok (laws.all_ranks after ranks fall);
      uncontrolled = none_lowered enums after none;
      apart = ready_apart program after r;
      firsts = subst (λ ts. EachNode (NodeHasFirsts ts) low) (sym types) (lowered_firsts (types_of after) enums after (laws.firsts program after r full));
      sound = subst (λ ts. SoundBehind ts (reverse low)) (sym types) (laws.sound program after r ok cons);
      whole = laws.whole program after r ok;
      named = ready_named laws.scoped laws.lowered program after r none;
      distinct = laws.differ program after r;
      tested = subst (λ ts. AreTested ts (reverse low)) (sym types) (laws.tested program after r ok cons);
      fills = b.0;
      begins = b.1;
    }
