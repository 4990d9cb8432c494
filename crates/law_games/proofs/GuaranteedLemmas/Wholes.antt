-- Each instant of a reaction fits, is solid, and holds inputs of its types, and so does each instance that is there, at every depth.
use Rattle.std.proofs.Common.{◌≡◌, ℕ, List, [], ◌∷◌, map, sym, ap, subst}
use Rattle.std.specs.Prelude.{Bool, true, false, if◌then◌else◌, Some, reverse}
use Rattle.std.specs.Str.{bytes_eq}
use Rattle.hp_base.specs.declared.value.Value.{Value}
use Rattle.hp_tree.specs.declared.program.Item.{Item}
use Rattle.hp_tree.specs.declared.program.Item.TheVariants.{TypeItem, NodeItem}
use Rattle.hp_tree.specs.Programs.{TypeDecl, Node}
use Rattle.hp_tree.specs.Values.{AreOf}
use Rattle.hp_tree.specs.Instant.{Inputs, Controls, Place, Instant, Past, Given, alone, in_row, part}
use Rattle.hp_tree.specs.Meaning.{names_of, node, nodes, meaning, types_of, node_among, controls_of}
use Rattle.hp_tree.specs.Reaction.{Each}
use Rattle.hp_meaning.specs.Causal.Causality.{Ranked, IsRanked}
use Rattle.hp_meaning.specs.Causal.OneReaction.{ReactionOf}
use Rattle.hp_meaning.proofs.CausalLemmas.Unique.{ranked_reverse}
use Rattle.law_values.specs.Valued.Classed.{seen_in_node}
use Rattle.law_values.specs.Valued.Fitting.{OutputsFit, NodeFits}
use Rattle.law_values.specs.Valued.Given.{reading, NodeGiven}
use Rattle.law_values.specs.Valued.Values.{scope_behind, either_of, Classing, class_here, class_behind, AreAccepted, GivenFits}
use Rattle.law_values.proofs.ValuedLemmas.ExprTops.{Callees}
use Rattle.law_values.proofs.ValuedLemmas.Joined.{node_ok}
use Rattle.law_values.proofs.ValuedLemmas.Loosen.{node_loose}
use Rattle.law_values.proofs.ValuedLemmas.Loose.{NodeLoose}
use Rattle.law_values.proofs.ValuedLemmas.NodeBody.{controls_fit}
use Rattle.law_values.proofs.ValuedLemmas.NodeContract.{each_as}
use Rattle.law_values.proofs.ValuedLemmas.NodeWhole.{node_whole}
use Rattle.law_values.proofs.ValuedLemmas.Typed.{some_is}
use Rattle.law_games.proofs.GuaranteedLemmas.Solid.{Solid}
use Rattle.law_games.proofs.GuaranteedLemmas.SolidNodes.{whole_solid}

-- An instant holds inputs of the types of the node's.
abbrev pub HasInputs : List TypeDecl → Node → Instant → Type 0
HasInputs types n i = (inputs : List Value) × (AreOf types n.inputs inputs × ((p : Place) → i (Inputs ∷ p) ≡ in_row (map alone inputs) p))

-- An instant of the node of a name, where the nodes are given the last one first.
abbrev pub WholeFits : List TypeDecl → Classing → List Item → List ℕ → Instant → Type 0
WholeFits types class [] f i = ⊥
WholeFits types class (TypeItem t ∷ earlier) f i = WholeFits types class earlier f i
WholeFits types class (NodeItem n ∷ earlier) f i =
    either_of (bytes_eq n.name f) (NodeFits types true (WholeFits types (class_behind class) earlier) (scope_behind earlier) (seen_in_node (class_here class) n) n i × (Solid i × HasInputs types n i)) (WholeFits types (class_behind class) earlier f i)

module _ (types : List TypeDecl) (u : Value → Value) where
  pub wholes_solid : (class : Classing) (items : List Item) (f : List ℕ) (i : Instant) → WholeFits types class items f i → Solid i
  wholes_solid class [] f i h = absurd h
  wholes_solid class (TypeItem t ∷ items) f i h = wholes_solid class items f i h
  wholes_solid class (NodeItem n ∷ items) f i h = by (bytes_eq n.name f) h (wholes_solid (class_behind class) items f i)
    where
      by : (d : Bool) → either_of d (NodeFits types true (WholeFits types (class_behind class) items) (scope_behind items) (seen_in_node (class_here class) n) n i × (Solid i × HasInputs types n i)) (WholeFits types (class_behind class) items f i) → (WholeFits types (class_behind class) items f i → Solid i) → Solid i
      by true h k = h.1.0
      by false h k = k h

  abbrev Known : Classing → List Item → Type 0
  Known class items = Callees types true (reading u) (nodes types (reading u) items) (node_among items) (WholeFits types class items) (GivenFits types true u items)

  abbrev Here : Classing → Node → List Item → Instant → Type 0
  Here class n items i = NodeFits types true (WholeFits types (class_behind class) items) (scope_behind items) (seen_in_node (class_here class) n) n i × (Solid i × HasInputs types n i)

  abbrev GivenHere : Node → List Item → Instant → Type 0
  GivenHere n items i = NodeGiven types true u (GivenFits types true u items) (scope_behind items) n i

  module _ (class : Classing) (n : Node) (items : List Item) (known : Known (class_behind class) items) (ok : AreAccepted types class (NodeItem n ∷ items)) (o : Ranked n) where
    here_fits : (inputs : List Value) (g : Given) (i : Instant) → AreOf types n.inputs inputs → Each (Here class n items) g.past → GivenHere n items g.free → ((p : Place) → i p ≡ node types (reading u) (nodes types (reading u) items) n inputs g i p) → Here class n items i
    here_fits inputs g i v a gv h =
        let F = WholeFits types (class_behind class) items in
        let s = scope_behind items in
        let k = seen_in_node (class_here class) n in
        let fine = node_ok types (node_among items) n s (class_here class) ok.0.sound ok.0.classes in
        let before : Each (NodeFits types true F s k n) g.past = each_as (Here class n items) (NodeFits types true F s k n) g.past (λ j z. z.0) a in
        let now : NodeFits types true F s k n i = node_whole types true u (nodes types (reading u) items) (node_among items) F (GivenFits types true u items) known s k n o ok.0.clocks ok.0.plain ok.0.plain_contract fine inputs g i v gv before h in (
          now,
          (
            whole_solid types u (nodes types (reading u) items) (node_among items) F (wholes_solid (class_behind class) items) s k n fine inputs g i v
                (controls_fit types true u (nodes types (reading u) items) (node_among items) F (GivenFits types true u items) known (controls_of n.contract) (part Controls g.free) gv.0.0)
                (node_loose types true F s k n i now) (each_as (NodeFits types true F s k n) (NodeLoose types true F s k n) g.past (λ j z. node_loose types true F s k n j z) before) h,
            (inputs, (v, λ p. h (Inputs ∷ p))),
          ),
        )

    module _ (f : List ℕ) where
      outputs_by : (d : Bool) (m : Node) → (if d then Some n else node_among items f) ≡ Some m → (if d then names_of n.outputs else (nodes types (reading u) items).outputs f) ≡ names_of m.outputs
      outputs_by true m e = ap (λ (z : Node). names_of z.outputs) (some_is n m e)
      outputs_by false m e = known.outputs f m e

      gives_by : (d : Bool) (m : Node) (i : Instant) → (if d then Some n else node_among items f) ≡ Some m → either_of d (Here class n items i) (WholeFits types (class_behind class) items f i) → OutputsFit types m.outputs i
      gives_by true m i e h = subst (λ (z : Node). OutputsFit types z.outputs i) (some_is n m e) h.0.0.0
      gives_by false m i e h = known.gives f m i e h

      fit_by : (d : Bool) (m : Node) (inputs : List Value) (g : Given) (i : Instant) → (if d then Some n else node_among items f) ≡ Some m → AreOf types m.inputs inputs → Each (λ j. either_of d (Here class n items j) (WholeFits types (class_behind class) items f j)) g.past → either_of d (GivenHere n items g.free) (GivenFits types true u items f g.free)
          → ((p : Place) → i p ≡ (if d then node types (reading u) (nodes types (reading u) items) n inputs g i else (nodes types (reading u) items).instant f inputs g i) p) → either_of d (Here class n items i) (WholeFits types (class_behind class) items f i)
      fit_by true m inputs g i e v a gv h = here_fits inputs g i (subst (λ (z : Node). AreOf types z.inputs inputs) (sym (some_is n m e)) v) a gv h
      fit_by false m inputs g i e v a gv h = known.fit f m inputs g i e v a gv h

  pub callees : (class : Classing) (items : List Item) → AreAccepted types class items → IsRanked items → Known class items
  callees class [] ok r = record { outputs = λ f n e. absurd (cc); fit = λ f n inputs g i e v a gv h. absurd (cc); gives = λ f n i e h. absurd (cc) }
  callees class (TypeItem t ∷ items) ok r = callees class items ok r
  callees class (NodeItem n ∷ items) ok r =
      let known = callees (class_behind class) items ok.1 r.1 in
      record {
        outputs = λ f m e. outputs_by class n items known ok r.0 f (bytes_eq n.name f) m e;
        fit = λ f m inputs g i e v a gv h. fit_by class n items known ok r.0 f (bytes_eq n.name f) m inputs g i e v a gv h;
        gives = λ f m i e h. gives_by class n items known ok r.0 f (bytes_eq n.name f) m i e h;
      }

-- So in each reaction.
pub wholes : (u : Value → Value) (program : List Item) (class : Classing) (f : List ℕ) (n : Node) (inputs : List (List Value)) (frees : List Instant) (past : Past) → AreAccepted (types_of program) class (reverse program) → IsRanked program → node_among (reverse program) f ≡ Some n
    → Each (AreOf (types_of program) n.inputs) inputs → Each (GivenFits (types_of program) true u (reverse program) f) frees → ReactionOf (meaning (reading u) program f) inputs frees past → Each (WholeFits (types_of program) class (reverse program) f) past
wholes u program class f n [] [] [] ok r e v gv h = tt
wholes u program class f n (vs ∷ inputs) (free ∷ frees) (now ∷ past) ok r e v gv h =
    let before = wholes u program class f n inputs frees past ok r e v.1 gv.1 h.0 in
    ((callees (types_of program) u class (reverse program) ok (ranked_reverse program r)).fit f n vs (record { past = past; free = free }) now e v.0 before gv.0 h.1, before)
wholes u program class f n [] [] (now ∷ past) ok r e v gv h = absurd h
wholes u program class f n [] (free ∷ frees) past ok r e v gv h = absurd h
wholes u program class f n (vs ∷ inputs) [] past ok r e v gv h = absurd h
wholes u program class f n (vs ∷ inputs) (free ∷ frees) [] ok r e v gv h = absurd h
