-- The outputs of a node at the instants of a reaction, in the equations that choose.
use Rattle.std.proofs.Common.{◌≡◌, ℕ, Bool, true, false, List, [], ◌∷◌, length, map, reverse, Some, refl, sym, ap, ap₂, ◌∙◌, arith, if◌then◌else◌}
use Rattle.std.proofs.Math.Path.{fun_ext}
use Rattle.std.specs.List.{range_with_len}
use Rattle.std.specs.Str.{bytes_eq}
use Rattle.hp_base.specs.declared.value.Value.{Value}
use Rattle.hp_obc.specs.Machines.{ObcType}
use Rattle.hp_tree.specs.declared.program.Item.{Item}
use Rattle.hp_tree.specs.declared.program.Item.TheVariants.{NodeItem, TypeItem}
use Rattle.hp_tree.specs.Blocks.{Decl}
use Rattle.hp_tree.specs.Instant.{Instant, Named, Past}
use Rattle.hp_tree.specs.Meaning.{names_of, node_among, nodes, types_of}
use Rattle.hp_tree.specs.Operators.{real}
use Rattle.hp_tree.specs.Programs.{Node, TypeDecl}
use Rattle.hp_tree.specs.Reaction.{outputs_at}
use Rattle.hp_meaning.specs.Causal.OneReaction.{SamePasts}
use Rattle.law_equations.specs.Meaning.Instants as flows
use Rattle.law_equations.specs.Meaning.Kinding.{Callees}
use Rattle.law_equations.specs.Meaning.Reactions as flat
use Rattle.law_equations.specs.Meaning.Scheduling.{AreBelow}
use Rattle.hp_watch.specs.Watching.{Observing}
use Rattle.law_choices.specs.Embedded.Observed.{outputs_of_instant}
use Rattle.law_choices.specs.InTurn.Nodes.{Contracted}
use Rattle.law_choices.proofs.EmbeddedLemmas.SiteRows.{HaveInputs}
use Rattle.law_choices.proofs.InTurnLemmas.Contracted.{Ground, NodeLaws, chooses}
use Rattle.law_choices.proofs.SeeingLemmas.PlantRuns.{first-same, first_of, in_first}

-- the same of instants that agree
pub outputs-same : (q : Instant → List Value) (past other : Past) → SamePasts past other → map q past ≡ map q other
outputs-same q [] [] h = refl
outputs-same q [] (j ∷ other) h = absurd h
outputs-same q (i ∷ past) [] h = absurd h
outputs-same q (i ∷ past) (j ∷ other) h = ap₂ (λ v vs. v ∷ vs) (ap q (fun_ext (λ p. h.0 p))) (outputs-same q past other h.1)

-- the names of the outputs of a node
names-known : (types : List TypeDecl) (items : List Item) (f : List ℕ) (n : Node) → node_among items f ≡ Some n → (nodes types real items).outputs f ≡ names_of n.outputs
names-known types [] f n e = absurd cc
names-known types (TypeItem t ∷ items) f n e = names-known types items f n e
names-known types (NodeItem m ∷ items) f n e = by (bytes_eq m.name f) e (names-known types items f n)
  where
    by : (b : Bool) → (if b then Some m else node_among items f) ≡ Some n → (node_among items f ≡ Some n → (nodes types real items).outputs f ≡ names_of n.outputs) → (if b then names_of m.outputs else (nodes types real items).outputs f) ≡ names_of n.outputs
    by true e rest = let same : m ≡ n = cc in ap (λ (z : Node). names_of z.outputs) same
    by false e rest = rest e

named-values : (ds : List Decl) (now : Instant) → outputs_of_instant ds now ≡ map (λ x. now (Named x ∷ [])) (names_of ds)
named-values [] now = refl
named-values (d ∷ ds) now = ap (λ vs. now (Named d.name ∷ []) ∷ vs) (named-values ds now)

pub outputs-of-instant : (program : List Item) (f : List ℕ) (n : Node) → node_among (reverse program) f ≡ Some n → (now : Instant) → outputs_of_instant n.outputs now ≡ outputs_at program f now
outputs-of-instant program f n e now = named-values n.outputs now ∙ ap (λ (xs : List (List ℕ)). map (λ x. now (Named x ∷ [])) xs) (sym (names-known (types_of program) (reverse program) f n e))

-- ---- in the equations

module _ (laws : NodeLaws) (types : List ObcType) (all : Callees) (observers : Observing) (n : Node) (c : Contracted) (g : Ground types all observers n c) where
  same-values : (xs : List ℕ) (i : flows.Instant) → AreBelow (length c.plant.variables) xs → map (first_of laws types all observers n c g i) xs ≡ map i xs
  same-values [] i h = refl
  same-values (x ∷ xs) i h = ap₂ (λ v vs. v ∷ vs) (first-same laws types all observers n c g i x h.0) (same-values xs i h.1)

  pub first-outputs : AreBelow (length c.plant.variables) c.plant.outputs → (instants : List flows.Instant) → map (flat.outputs_at c.plant) (in_first laws types all observers n c g instants) ≡ map (λ i. map i c.plant.outputs) instants
  first-outputs h [] = refl
  first-outputs h (i ∷ instants) = ap₂ (λ v vs. v ∷ vs) (same-values c.plant.outputs i h) (first-outputs h instants)

  pub chosen-inputs : c.chosen.node.inputs ≡ length n.inputs
  chosen-inputs =
      let q = (chooses laws types all observers n c g).2 (λ f args earlier. []) in
      let l = q.loop in
      let i = l.inputs in
      let e = g.inputs in
      let m = (g.is).count in
      omega (arith, i, e, m)

  pub have-inputs : (answers : flat.Answers) (rows : List (List Value)) (instants : List flows.Instant) → flat.Reaction answers c.chosen.node rows instants → HaveInputs (length n.inputs) rows instants
  have-inputs answers [] [] r = tt
  have-inputs answers [] (i ∷ instants) r = absurd r
  have-inputs answers (row ∷ rows) [] r = absurd r
  have-inputs answers (row ∷ rows) (i ∷ instants) r = (have-inputs answers rows instants r.0, ap (λ m. map i (range_with_len 0 m)) (sym chosen-inputs) ∙ (r.1).inputs_are)
