-- Reactions of a program, before and after.
use Rattle.std.proofs.Common.{◌≡◌, ℕ, List, [], ◌∷◌, map, reverse, refl, sym, ap, ap₂, subst, ◌∙◌}
use Rattle.std.proofs.Math.Path.{fun_ext}
use Rattle.hp_base.specs.declared.value.Value.{Value}
use Rattle.hp_base.specs.declared.value.Value.TheVariants.{Nil}
use Rattle.hp_tree.specs.declared.program.Item.{Item}
use Rattle.hp_tree.specs.Operators.{real}
use Rattle.hp_tree.specs.Instant.{Named, Instant, Past}
use Rattle.hp_tree.specs.Meaning.{nodes, meaning, types_of as program_types}
use Rattle.hp_tree.specs.Reaction.{Reaction, outputs_at}
use Rattle.hp_meaning.specs.Causal.OneReaction.{ReactionOf}
use Rattle.hp_meaning.proofs.CausalLemmas.Unique.{one_instant, only_reaction, same_pasts}
use Rattle.hp_automata.specs.Lowering.{enumerations, lowered_item, lowered_program}
use Rattle.law_automata.specs.Lowered.Removable.{IsRemovable}
use Rattle.law_automata.specs.Lowered.Standing.{Along, Stands}
use Rattle.law_automata.specs.Lowered.Giving.{reading}
use Rattle.law_automata.specs.Lowered.Laws.{ReadLaw, RealLaw, OnlyLaw, OutputsLaw}
use Rattle.law_automata.proofs.LoweredLemmas.Programs.{instant_met, callees, removable_reverse, types_same, map_reverse}

pub reads : ReadLaw
reads u program ok f [] [] [] [] r h d = ([], tt, tt)
reads u program ok f (inputs ∷ earlier) (free ∷ frees) (free' ∷ frees') (now ∷ past) r h d =
    let before = reads u program ok f earlier frees frees' past r.0 h.1 d.1 in
    let made = instant_met u program ok f inputs (record { past = past; free = free }) (record { past = before.0; free = free' }) now before.2 h.0 (λ there. d.0) (fun_ext r.1) in
    (made.0 ∷ before.0, (before.1, λ p. ap (λ i. i p) made.1), (made.2, before.2))
reads u program ok f [] (free ∷ frees) frees' past r h d = absurd r
reads u program ok f [] [] (free ∷ frees) past r h d = absurd h
reads u program ok f [] [] [] (now ∷ past) r h d = absurd r
reads u program ok f (inputs ∷ earlier) [] frees' past r h d = absurd r
reads u program ok f (inputs ∷ earlier) (free ∷ frees) [] past r h d = absurd h
reads u program ok f (inputs ∷ earlier) (free ∷ frees) (free' ∷ frees') [] r h d = absurd r

-- the same in the words of the language
abbrev nil : Value → Value
nil given = Nil

real_so : (program : List Item) (f : List ℕ) (inputs : List (List Value)) (frees : List Instant) (past : Past) → Reaction program f inputs frees past → ReactionOf (meaning (reading nil) program f) inputs frees past
real_so program f [] [] [] r = r
real_so program f (i ∷ inputs) (free ∷ frees) (now ∷ past) r = (real_so program f inputs frees past r.0, r.1)
real_so program f [] (free ∷ frees) past r = absurd r
real_so program f [] [] (now ∷ past) r = absurd r
real_so program f (i ∷ inputs) [] past r = absurd r
real_so program f (i ∷ inputs) (free ∷ frees) [] r = absurd r

so_real : (program : List Item) (f : List ℕ) (inputs : List (List Value)) (frees : List Instant) (past : Past) → ReactionOf (meaning (reading nil) program f) inputs frees past → Reaction program f inputs frees past
so_real program f [] [] [] r = r
so_real program f (i ∷ inputs) (free ∷ frees) (now ∷ past) r = (so_real program f inputs frees past r.0, r.1)
so_real program f [] (free ∷ frees) past r = absurd r
so_real program f [] [] (now ∷ past) r = absurd r
so_real program f (i ∷ inputs) [] past r = absurd r
so_real program f (i ∷ inputs) (free ∷ frees) [] r = absurd r

pub real_law : RealLaw
real_law program ok f inputs frees frees' past r h d =
    let made = reads nil program ok f inputs frees frees' past (real_so program f inputs frees past r) h d in
    (made.0, so_real (lowered_program program) f inputs frees' made.0 made.1, made.2)

pub only_law : OnlyLaw
only_law program ok ranked f inputs frees frees' past past' r h d r' =
    let made = reads nil program ok f inputs frees frees' past (real_so program f inputs frees past r) h d in
    let said = meaning (reading nil) (lowered_program program) f in
    let only = only_reaction said (λ i g. one_instant (reading nil) (lowered_program program) f i g ranked) inputs frees' made.0 past' made.1 (real_so (lowered_program program) f inputs frees' past' r') in
    subst (Along (Stands program f) past) (same_pasts made.0 past' only) made.2

module _ (program : List Item) (ok : IsRemovable program) (f : List ℕ) where
  outputs_same : (nodes (program_types (lowered_program program)) real (reverse (lowered_program program))).outputs f ≡ (nodes (program_types program) real (reverse program)).outputs f
  outputs_same =
      ap₂ (λ ts items. (nodes ts real items).outputs f) (types_same (enumerations [] program) program) (map_reverse (lowered_item (enumerations [] program)) program)
      ∙ (callees (program_types program) nil (enumerations [] program) (reverse program) (removable_reverse program ok)).outputs f

  values_same : (os : List (List ℕ)) (i j : Instant) → ((x : List ℕ) → i (Named x ∷ []) ≡ j (Named x ∷ [])) → map (λ x. j (Named x ∷ [])) os ≡ map (λ x. i (Named x ∷ [])) os
  values_same [] i j h = refl
  values_same (o ∷ os) i j h = ap₂ (λ v vs. v ∷ vs) (sym (h o)) (values_same os i j h)

  outputs_along : (past past' : Past) → Along (Stands program f) past past' → map (outputs_at (lowered_program program) f) past' ≡ map (outputs_at program f) past
  outputs_along [] [] a = refl
  outputs_along (i ∷ past) (j ∷ past') a =
      ap₂ (λ vs rest. vs ∷ rest)
      (ap (map (λ x. j (Named x ∷ []))) outputs_same
      ∙ values_same ((nodes (program_types program) real (reverse program)).outputs f) i j ((callees (program_types program) nil (enumerations [] program) (reverse program) (removable_reverse program ok)).named f i j a.0))
      (outputs_along past past' a.1)
  outputs_along [] (j ∷ past') a = absurd a
  outputs_along (i ∷ past) [] a = absurd a

pub outputs_law : OutputsLaw
outputs_law program ok f past past' a = outputs_along program ok f past past' a
