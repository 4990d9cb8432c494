-- In the language nothing that is given is looked at, where controllable variables have chosen values.
use Rattle.std.proofs.Common.{◌≡◌, ℕ, List, [], ◌∷◌, length, arith, reverse, refl, ◌∙◌}
use Rattle.std.specs.Prelude.{⊤, Bool, true, false, if◌then◌else◌}
use Rattle.std.specs.Str.{bytes_eq}
use Rattle.hp_base.specs.declared.value.Value.{Value}
use Rattle.hp_tree.specs.declared.program.Item.{Item}
use Rattle.hp_tree.specs.declared.program.Item.TheVariants.{TypeItem, NodeItem}
use Rattle.hp_tree.specs.Programs.{TypeDecl}
use Rattle.hp_tree.specs.Operators.{real}
use Rattle.hp_tree.specs.Instant.{Place, Instant, Past}
use Rattle.hp_tree.specs.Meaning.{node, types_of}
use Rattle.hp_meaning.specs.Causal.OneReaction.{ReactionOf}
use Rattle.hp_meaning.proofs.CausalLemmas.Fix.{Fixed}
use Rattle.hp_meaning.proofs.CausalLemmas.Swap.{given, OfParts, AgreeWhere, node_swap_given}
use Rattle.law_choices.specs.Choosing.Choices.{Choices}
use Rattle.law_choices.specs.Runs.Chosen.{chosen_given, chosen_nodes, chosen_meaning}

abbrev Any : Instant → Instant → Instant → Type 0
Any free other now = ⊤

any_parts : OfParts Any
any_parts s free other now h = tt

pick : (d : Bool) (F F' G G' : Instant → Instant) (now : Instant) → (Fixed F now → (p : Place) → F now p ≡ F' now p) → (Fixed G now → (p : Place) → G now p ≡ G' now p) → Fixed (λ i. if d then F i else G i) now → (p : Place) → (if d then F now else G now) p ≡ (if d then F' now else G' now) p
pick true F F' G G' now f g met p = f met p
pick false F F' G G' now f g met p = g met p

module _ (choices : Choices) (types : List TypeDecl) where
  still : (items : List Item) → AgreeWhere Any (chosen_nodes choices types real items).instant (chosen_nodes choices types real items).instant
  still [] f vs past free other now h met p = refl
  still (TypeItem t ∷ items) f vs past free other now h met p = still items f vs past free other now h met p
  still (NodeItem n ∷ items) f vs past free other now h met p =
      let N = chosen_nodes choices types real items in
      let g = chosen_given (choices n.name) n vs (given past free) in
      let g' = chosen_given (choices n.name) n vs (given past other) in
      pick (bytes_eq n.name f) (node types real N n vs g) (node types real N n vs g') (N.instant f vs (given past free)) (N.instant f vs (given past other)) now
      (λ met p.
      node_swap_given types real N.outputs Any any_parts (λ o free other now v w q a b c. refl) (λ free other now q. refl) Any (λ free other now q. tt) N.instant N.instant (still items) n vs past g.free g'.free now tt refl met p)
      (still items f vs past free other now h) met p

-- So a reaction over what is given is one over whatever else is given.
pub given_otherwise : (choices : Choices) (program : List Item) (f : List ℕ) (inputs : List (List Value)) (frees others : List Instant) (past : Past) → length others ≡ length inputs → ReactionOf (chosen_meaning choices real program f) inputs frees past
    → ReactionOf (chosen_meaning choices real program f) inputs others past
given_otherwise choices program f [] [] [] [] e r = tt
given_otherwise choices program f [] [] (o ∷ others) [] e r = absurd (omega arith)
given_otherwise choices program f [] [] others (now ∷ past) e r = absurd r
given_otherwise choices program f [] (free ∷ frees) others past e r = absurd r
given_otherwise choices program f (vs ∷ inputs) [] others past e r = absurd r
given_otherwise choices program f (vs ∷ inputs) (free ∷ frees) others [] e r = absurd r
given_otherwise choices program f (vs ∷ inputs) (free ∷ frees) [] (now ∷ past) e r = absurd (omega arith)
given_otherwise choices program f (vs ∷ inputs) (free ∷ frees) (o ∷ others) (now ∷ past) e r =
    (given_otherwise choices program f inputs frees others past (omega arith) r.0, λ p. r.1 p ∙ still choices (types_of program) (reverse program) f vs past free o now tt r.1 p)
