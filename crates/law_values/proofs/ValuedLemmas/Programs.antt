-- The values of a program: induction over its nodes, and over instants.
use Rattle.std.proofs.Common.{◌≡◌, ℕ, List, [], ◌∷◌, sym, ap, subst}
use Rattle.std.specs.Prelude.{Bool, true, false, if◌then◌else◌, Some, reverse}
use Rattle.std.specs.Str.{bytes_eq}
use Rattle.hp_base.specs.declared.value.Value.{Value}
use Rattle.hp_base.specs.declared.value.Value.TheVariants.{Nil}
use Rattle.hp_tree.specs.declared.program.Item.{Item}
use Rattle.hp_tree.specs.declared.program.Item.TheVariants.{TypeItem, NodeItem}
use Rattle.hp_tree.specs.Programs.{TypeDecl, Node}
use Rattle.hp_tree.specs.Values.{AreOf}
use Rattle.hp_tree.specs.Instant.{Place, Instant, Past, Given}
use Rattle.hp_tree.specs.Meaning.{names_of, node, nodes, meaning, types_of, node_among}
use Rattle.hp_tree.specs.Reaction.{Reaction, Each}
use Rattle.hp_meaning.specs.Causal.Causality.{Ranked, IsRanked}
use Rattle.hp_meaning.specs.Causal.OneReaction.{ReactionOf}
use Rattle.hp_meaning.proofs.CausalLemmas.Unique.{ranked_reverse}
use Rattle.law_values.specs.Valued.Classed.{seen_in_node}
use Rattle.law_values.specs.Valued.Fitting.{OutputsFit, NodeFits}
use Rattle.law_values.specs.Valued.Given.{reading, NodeGiven}
use Rattle.law_values.specs.Valued.Values.{scope_behind, either_of, Classing, class_here, class_behind, AreAccepted, InstantFits, GivenFits, ValuesLaw, RealLaw, FilledLaw}
use Rattle.law_values.proofs.ValuedLemmas.ExprTops.{Callees}
use Rattle.law_values.proofs.ValuedLemmas.Joined.{node_ok}
use Rattle.law_values.proofs.ValuedLemmas.NodeWhole.{node_whole}

some_node : (a b : Node) → Some a ≡ Some b → a ≡ b
some_node a b h = cc

module _ (types : List TypeDecl) (nils : Bool) (u : Value → Value) where
  abbrev Known : Classing → List Item → Type 0
  Known class items = Callees types nils (reading u) (nodes types (reading u) items) (node_among items) (InstantFits types nils class items) (GivenFits types nils u items)

  abbrev Here : Classing → Node → List Item → Instant → Type 0
  Here class n items i = NodeFits types nils (InstantFits types nils (class_behind class) items) (scope_behind items) (seen_in_node (class_here class) n) n i

  abbrev GivenHere : Node → List Item → Instant → Type 0
  GivenHere n items i = NodeGiven types nils u (GivenFits types nils u items) (scope_behind items) n i

  module _ (class : Classing) (n : Node) (items : List Item) (known : Known (class_behind class) items) (ok : AreAccepted types class (NodeItem n ∷ items)) (o : Ranked n) (f : List ℕ) where
    outputs_by : (d : Bool) (m : Node) → (if d then Some n else node_among items f) ≡ Some m → (if d then names_of n.outputs else (nodes types (reading u) items).outputs f) ≡ names_of m.outputs
    outputs_by true m e = ap (λ (z : Node). names_of z.outputs) (some_node n m e)
    outputs_by false m e = known.outputs f m e

    gives_by : (d : Bool) (m : Node) (i : Instant) → (if d then Some n else node_among items f) ≡ Some m → either_of d (Here class n items i) (InstantFits types nils (class_behind class) items f i) → OutputsFit types m.outputs i
    gives_by true m i e h = subst (λ (z : Node). OutputsFit types z.outputs i) (some_node n m e) h.0.0
    gives_by false m i e h = known.gives f m i e h

    fit_by : (d : Bool) (m : Node) (inputs : List Value) (g : Given) (i : Instant) → (if d then Some n else node_among items f) ≡ Some m → AreOf types m.inputs inputs → Each (λ j. either_of d (Here class n items j) (InstantFits types nils (class_behind class) items f j)) g.past → either_of d (GivenHere n items g.free) (GivenFits types nils u items f g.free) → ((p : Place) → i p ≡ (if d then node types (reading u) (nodes types (reading u) items) n inputs g i else (nodes types (reading u) items).instant f inputs g i) p) → either_of d (Here class n items i) (InstantFits types nils (class_behind class) items f i)
    fit_by true m inputs g i e v a gv h =
        node_whole types nils u (nodes types (reading u) items) (node_among items) (InstantFits types nils (class_behind class) items) (GivenFits types nils u items) known (scope_behind items) (seen_in_node (class_here class) n) n o ok.0.clocks ok.0.plain ok.0.plain_contract (node_ok types (node_among items) n (scope_behind items) (class_here class) ok.0.sound ok.0.classes) inputs g i
        (subst (λ (z : Node). AreOf types z.inputs inputs) (sym (some_node n m e)) v) gv a h
    fit_by false m inputs g i e v a gv h = known.fit f m inputs g i e v a gv h

  pub callees : (class : Classing) (items : List Item) → AreAccepted types class items → IsRanked items → Known class items
  callees class [] ok r = record { outputs = λ f n e. absurd (cc); fit = λ f n inputs g i e v a gv h. tt; gives = λ f n i e h. absurd (cc) }
  callees class (TypeItem t ∷ items) ok r = callees class items ok r
  callees class (NodeItem n ∷ items) ok r =
      let known = callees (class_behind class) items ok.1 r.1 in
      record {
        outputs = λ f m e. outputs_by class n items known ok r.0 f (bytes_eq n.name f) m e;
        fit = λ f m inputs g i e v a gv h. fit_by class n items known ok r.0 f (bytes_eq n.name f) m inputs g i e v a gv h;
        gives = λ f m i e h. gives_by class n items known ok r.0 f (bytes_eq n.name f) m i e h;
      }

pub values : ValuesLaw
values nils u program class f n [] [] [] ok r e v gv h = tt
values nils u program class f n (vs ∷ inputs) (free ∷ frees) (now ∷ past) ok r e v gv h =
    let before = values nils u program class f n inputs frees past ok r e v.1 gv.1 h.0 in
    ((callees (types_of program) nils u class (reverse program) ok (ranked_reverse program r)).fit f n vs (record { past = past; free = free }) now e v.0 before gv.0 h.1, before)
values nils u program class f n [] [] (now ∷ past) ok r e v gv h = absurd h
values nils u program class f n [] (free ∷ frees) past ok r e v gv h = absurd h
values nils u program class f n (vs ∷ inputs) [] past ok r e v gv h = absurd h
values nils u program class f n (vs ∷ inputs) (free ∷ frees) [] ok r e v gv h = absurd h

pub as_read : (program : List Item) (f : List ℕ) (inputs : List (List Value)) (frees : List Instant) (past : Past) → Reaction program f inputs frees past → ReactionOf (meaning (reading (λ given. Nil)) program f) inputs frees past
as_read program f [] [] [] h = tt
as_read program f (vs ∷ inputs) (free ∷ frees) (now ∷ past) h = (as_read program f inputs frees past h.0, h.1)
as_read program f [] [] (now ∷ past) h = absurd h
as_read program f [] (free ∷ frees) past h = absurd h
as_read program f (vs ∷ inputs) [] past h = absurd h
as_read program f (vs ∷ inputs) (free ∷ frees) [] h = absurd h

pub real_values : RealLaw
real_values program class f n inputs frees past ok r e v gv h = values true (λ given. Nil) program class f n inputs frees past ok r e v gv (as_read program f inputs frees past h)

pub filled_values : FilledLaw
filled_values program class f n inputs frees past ok r e v gv h = values false (λ given. given) program class f n inputs frees past ok r e v gv h
