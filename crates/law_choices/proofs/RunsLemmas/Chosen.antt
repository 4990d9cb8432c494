-- There is one reaction in which each instance has the chosen values, and it is a reaction of the program.
use Rattle.std.proofs.Common.{◌≡◌, ℕ, suc, List, [], ◌∷◌, map, length, reverse, refl, sym, ap, ap₂, ◌∙◌}
use Rattle.std.proofs.Math.Path.{fun_ext}
use Rattle.std.specs.Prelude.{Bool, true, false, if◌then◌else◌}
use Rattle.std.specs.Str.{bytes_eq}
use Rattle.hp_base.specs.declared.value.Value.{Value}
use Rattle.hp_tree.specs.declared.program.Item.{Item}
use Rattle.hp_tree.specs.declared.program.Item.TheVariants.{TypeItem, NodeItem}
use Rattle.hp_tree.specs.Blocks.{Decl}
use Rattle.hp_tree.specs.Programs.{TypeDecl, Node}
use Rattle.hp_tree.specs.Operators.{Reading, real}
use Rattle.hp_tree.specs.Instant.{Controls, Head, Tail, Instance, Place, Instant, Past, part, nothing, alone, in_row}
use Rattle.hp_tree.specs.Meaning.{Nodes, names_of, types_of, controls_of, given_to, node, nodes}
use Rattle.hp_tree.specs.Reaction.{Reaction}
use Rattle.hp_meaning.specs.Causal.Causality.{IsRanked}
use Rattle.hp_meaning.proofs.CausalLemmas.Fix.{Fixed}
use Rattle.hp_meaning.proofs.CausalLemmas.Swap.{given, with_instances, OfParts, AgreeWhere, node_swap_given}
use Rattle.hp_meaning.proofs.CausalLemmas.Unique.{AllOne, none_one, one_of, node_one, ranked_reverse, reaction_one}
use Rattle.law_choices.specs.Choosing.Choices.{Choices}
use Rattle.law_choices.specs.Runs.Chosen.{chosen_given, chosen_nodes, chosen_meaning, ChosenReaction}
use Rattle.law_choices.specs.Runs.Laws.{OneLaw, OfProgramLaw}

-- ---- exactly one

module _ (choices : Choices) (types : List TypeDecl) (R : Reading) where
  pub all_one : (items : List Item) → IsRanked items → AllOne (chosen_nodes choices types R items).instant
  all_one [] r f inputs g = none_one
  all_one (TypeItem t ∷ items) r f inputs g = all_one items r f inputs g
  all_one (NodeItem n ∷ items) r f inputs g =
      one_of (bytes_eq n.name f) (node types R (chosen_nodes choices types R items) n inputs (chosen_given (choices n.name) n inputs g)) ((chosen_nodes choices types R items).instant f inputs g)
      (node_one types R (chosen_nodes choices types R items) (all_one items r.1) n r.0 inputs (chosen_given (choices n.name) n inputs g)) (all_one items r.1 f inputs g)

many : (inputs : List (List Value)) → length (map (λ (vs : List Value). nothing) inputs) ≡ length inputs
many [] = refl
many (vs ∷ inputs) = ap suc (many inputs)

pub one_law : OneLaw
one_law choices program f inputs r =
    reaction_one (chosen_meaning choices real program f) (λ vs g. all_one choices (types_of program) real (reverse program) (ranked_reverse program r) f vs g) inputs (map (λ (vs : List Value). nothing) inputs) (many inputs)

-- ---- it is a reaction of the program

-- what is given is what the instant holds
abbrev pub Own : Instant → Instant → Instant → Type 0
Own free other now = (p : Place) → other p ≡ now p

own_parts : OfParts Own
own_parts t free other now h p = h (t ∷ p)

pick : (d : Bool) (F F' G G' : Instant → Instant) (now : Instant) → (Fixed F now → (p : Place) → F now p ≡ F' now p) → (Fixed G now → (p : Place) → G now p ≡ G' now p) → Fixed (λ i. if d then F i else G i) now → (p : Place) → (if d then F now else G now) p ≡ (if d then F' now else G' now) p
pick true F F' G G' now f g met p = f met p
pick false F F' G G' now f g met p = g met p

pub outputs_alike : (choices : Choices) (types : List TypeDecl) (R : Reading) (items : List Item) (f : List ℕ) → (chosen_nodes choices types R items).outputs f ≡ (nodes types R items).outputs f
outputs_alike choices types R [] f = refl
outputs_alike choices types R (TypeItem t ∷ items) f = outputs_alike choices types R items f
outputs_alike choices types R (NodeItem n ∷ items) f = ap (λ os. if bytes_eq n.name f then names_of n.outputs else os) (outputs_alike choices types R items f)

module _ (types : List TypeDecl) (N : Nodes) where
  -- what is given for declarations is what a row of it gives
  row_given : (ds : List Decl) (i : Instant) → given_to types real N ds (in_row (map alone (given_to types real N ds i))) ≡ given_to types real N ds i
  row_given [] i = refl
  row_given (d ∷ ds) i = ap (λ vs. i (Head ∷ []) ∷ vs) (row_given ds (part Tail i))

  same_given : (ds : List Decl) (i j : Instant) → ((p : Place) → i p ≡ j p) → given_to types real N ds i ≡ given_to types real N ds j
  same_given [] i j h = refl
  same_given (d ∷ ds) i j h = ap₂ (λ v vs. v ∷ vs) (h (Head ∷ [])) (same_given ds (part Tail i) (part Tail j) (λ p. h (Tail ∷ p)))

  -- a node is given the chosen values, and holds them
  held : (n : Node) (vs : List Value) (past : Past) (free other now : Instant) → Fixed (node types real N n vs (given past free)) now → Own free other now
      → given_to types real N (controls_of n.contract) (part Controls free) ≡ given_to types real N (controls_of n.contract) (part Controls other)
  held n vs past free other now met own =
      let cs = controls_of n.contract in
      sym (same_given cs (part Controls other) (in_row (map alone (given_to types real N cs (part Controls free)))) (λ p. own (Controls ∷ p) ∙ met (Controls ∷ p)) ∙ row_given cs (part Controls free))

module _ (choices : Choices) (program : List Item) where
  abbrev types : List TypeDecl
  types = types_of program

  pub chosen_real : (items : List Item) → AgreeWhere Own (chosen_nodes choices types real items).instant (nodes types real items).instant
  chosen_real [] f vs past free other now h met p = refl
  chosen_real (TypeItem t ∷ items) f vs past free other now h met p = chosen_real items f vs past free other now h met p
  chosen_real (NodeItem n ∷ items) f vs past free other now h met p =
      let N = chosen_nodes choices types real items in
      let M = nodes types real items in
      let g = chosen_given (choices n.name) n vs (given past free) in
      pick (bytes_eq n.name f) (node types real N n vs g) (node types real M n vs (given past other)) (N.instant f vs (given past free)) (M.instant f vs (given past other)) now
      (λ met p.
      node_swap_given types real N.outputs Own own_parts (λ o free other now v w q a b c. refl) (λ free other now q. refl) Own (λ free other now q. own_parts Instance free other now q)
      N.instant M.instant (chosen_real items) n vs past g.free other now h (held types N n vs past g.free other now met h) met p
      ∙ ap (λ os. node types real (with_instances os M.instant) n vs (given past other) now p) (fun_ext (outputs_alike choices types real items)))
      (chosen_real items f vs past free other now h) met p

  real_reaction : (f : List ℕ) (inputs : List (List Value)) (past : Past) → ChosenReaction choices program f inputs past → Reaction program f inputs past past
  real_reaction f [] [] r = tt
  real_reaction f [] (now ∷ past) r = absurd r
  real_reaction f (vs ∷ inputs) [] r = absurd r
  real_reaction f (vs ∷ inputs) (now ∷ past) r =
      (real_reaction f inputs past r.0, λ p. r.1 p ∙ chosen_real (reverse program) f vs past nothing now now (λ p. refl) r.1 p)

pub of_program : OfProgramLaw
of_program choices program f inputs past r = real_reaction choices program f inputs past r
