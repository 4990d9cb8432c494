-- Abstract instants of accepted programs fit: of the nodes that are called, and of a node after a history of such instants.
use Rattle.std.proofs.Common.{◌≡◌, ℕ, List, [], ◌∷◌, sym, ap, subst}
use Rattle.std.specs.Prelude.{Bool, true, false, if◌then◌else◌, Some}
use Rattle.std.specs.Str.{bytes_eq}
use Rattle.hp_base.specs.declared.value.Value.{Value}
use Rattle.hp_base.specs.declared.value.Value.TheVariants.{Nil}
use Rattle.hp_tree.specs.declared.program.Item.{Item}
use Rattle.hp_tree.specs.declared.program.Item.TheVariants.{TypeItem, NodeItem}
use Rattle.hp_tree.specs.Programs.{TypeDecl, Node}
use Rattle.hp_tree.specs.Instant.{Place, Instant, Given}
use Rattle.hp_tree.specs.Meaning.{names_of, node, node_among}
use Rattle.hp_tree.specs.Operators.{abstraction}
use Rattle.hp_tree.specs.Reaction.{Each}
use Rattle.hp_meaning.specs.Causal.Abstract.{contract_alone, callees}
use Rattle.hp_meaning.specs.Causal.Causality.{Ranked, IsRanked}
use Rattle.hp_meaning.specs.Contract.Forgetting.{ContractsCallNothing}
use Rattle.law_games.proofs.SettledLemmas.NoCalls.{contract_none}
use Rattle.law_values.specs.Valued.Classed.{seen_in_node}
use Rattle.law_values.specs.Valued.Values.{scope_behind, either_of, Classing, class_here, class_behind, AreAccepted}
use Rattle.law_values.proofs.ValuedLemmas.Joined.{node_ok}
use Rattle.law_values.proofs.ValuedLemmas.Typed.{some_is}
use Rattle.law_games.specs.Wiretyped.Typed.{AreWires}
use Rattle.law_games.specs.Abstracted.Fitting.{OutputsFit}
use Rattle.law_games.specs.Abstracted.Given.{reading}
use Rattle.law_games.specs.Abstracted.Instances.{InstanceFits, CalledFits, AbstractFits, InstanceGiven, CalledGiven, AbstractGiven}
use Rattle.law_games.proofs.AbstractedLemmas.ExprTops.{Callees}
use Rattle.law_games.proofs.AbstractedLemmas.NodeWhole.{node_whole}
use Rattle.law_games.proofs.AbstractedLemmas.Alone.{instance_fits}

abbrev nil : Value → Value
nil given = Nil

module _ (types : List TypeDecl) where
  abbrev Known : Classing → List Item → Type 0
  Known class items = Callees types true (reading nil) (callees types items) (node_among items) (CalledFits types true class items) (CalledGiven types true nil items)

  module _ (class : Classing) (n : Node) (items : List Item) (known : Known (class_behind class) items) (ok : AreAccepted types class (NodeItem n ∷ items)) (calls : ContractsCallNothing (NodeItem n ∷ items)) (o : Ranked n) (f : List ℕ) where
    abbrev Here : Instant → Type 0
    Here i = InstanceFits types true (scope_behind items) (seen_in_node (class_here class) n) n i

    outputs_by : (d : Bool) (m : Node) → (if d then Some n else node_among items f) ≡ Some m → (if d then names_of n.outputs else (callees types items).outputs f) ≡ names_of m.outputs
    outputs_by true m e = ap (λ (z : Node). names_of z.outputs) (some_is n m e)
    outputs_by false m e = known.outputs f m e

    gives_by : (d : Bool) (m : Node) (i : Instant) → (if d then Some n else node_among items f) ≡ Some m → either_of d (Here i) (CalledFits types true (class_behind class) items f i) → OutputsFit types m.outputs i
    gives_by true m i e h = subst (λ (z : Node). OutputsFit types z.outputs i) (some_is n m e) h.0
    gives_by false m i e h = known.gives f m i e h

    fit_by : (d : Bool) (m : Node) (inputs : List Value) (g : Given) (i : Instant) → (if d then Some n else node_among items f) ≡ Some m → AreWires types m.inputs inputs
        → Each (λ j. either_of d (Here j) (CalledFits types true (class_behind class) items f j)) g.past
        → either_of d (InstanceGiven types true nil (scope_behind items) n g.free) (CalledGiven types true nil items f g.free)
        → ((p : Place) → i p ≡ (if d then contract_alone types n inputs g i else (callees types items).instant f inputs g i) p) → either_of d (Here i) (CalledFits types true (class_behind class) items f i)
    fit_by true m inputs g i e v a gv h =
        instance_fits types (node_among items) (scope_behind items) (seen_in_node (class_here class) n) n o ok.0.clocks ok.0.plain_contract
        (node_ok types (node_among items) n (scope_behind items) (class_here class) ok.0.sound ok.0.classes) (contract_none n.contract (λ p. p) calls.0)
        inputs g i (subst (λ (z : Node). AreWires types z.inputs inputs) (sym (some_is n m e)) v) gv a h
    fit_by false m inputs g i e v a gv h = known.fit f m inputs g i e v a gv h

  pub called_fit : (class : Classing) (items : List Item) → AreAccepted types class items → ContractsCallNothing items → IsRanked items → Known class items
  called_fit class [] ok calls r = record { outputs = λ f n e. absurd (cc); fit = λ f n inputs g i e v a gv h. tt; gives = λ f n i e h. absurd (cc) }
  called_fit class (TypeItem t ∷ items) ok calls r = called_fit class items ok calls r
  called_fit class (NodeItem n ∷ items) ok calls r =
      let known = called_fit (class_behind class) items ok.1 calls.1 r.1 in
      record {
        outputs = λ f m e. outputs_by class n items known ok calls r.0 f (bytes_eq n.name f) m e;
        fit = λ f m inputs g i e v a gv h. fit_by class n items known ok calls r.0 f (bytes_eq n.name f) m inputs g i e v a gv h;
        gives = λ f m i e h. gives_by class n items known ok calls r.0 f (bytes_eq n.name f) m i e h;
      }

  -- of a node behind some items
  pub abstract_fits : (class : Classing) (earlier : List Item) (n : Node) → AreAccepted types class (NodeItem n ∷ earlier) → ContractsCallNothing earlier → Ranked n → IsRanked earlier
      → (inputs : List Value) (g : Given) (i : Instant) → AreWires types n.inputs inputs → AbstractGiven types true nil earlier n g.free → Each (AbstractFits types true class earlier n) g.past
      → ((p : Place) → i p ≡ node types abstraction (callees types earlier) n inputs g i p) → AbstractFits types true class earlier n i
  abstract_fits class earlier n ok calls o r inputs g i v gv past m =
      node_whole types true nil (callees types earlier) (node_among earlier) (CalledFits types true (class_behind class) earlier) (CalledGiven types true nil earlier)
      (called_fit (class_behind class) earlier ok.1 calls r) (scope_behind earlier) (seen_in_node (class_here class) n) n o ok.0.clocks ok.0.plain ok.0.plain_contract
      (node_ok types (node_among earlier) n (scope_behind earlier) (class_here class) ok.0.sound ok.0.classes) inputs g i v gv past m
