-- Reactions in which each instance keeps a determined rule are one. Both follow some strategy, and for each strategy there is one reaction.
use Rattle.std.proofs.Common.{◌≡◌, inl, inr, List, [], ◌∷◌, ◌++◌, map, sym, ◌∙◌, ap}
use Rattle.std.specs.Prelude.{drop, reverse}
use Rattle.hp_base.specs.declared.value.Value.{Value}
use Rattle.hp_tree.specs.declared.program.Item.{Item}
use Rattle.hp_tree.specs.Programs.{Node}
use Rattle.hp_tree.specs.Instant.{Place, Instant, Past}
use Rattle.hp_tree.specs.Reaction.{outputs_at}
use Rattle.hp_meaning.specs.Causal.Causality.{IsRanked}
use Rattle.hp_meaning.specs.Causal.OneReaction.{SamePasts}
use Rattle.hp_meaning.specs.Contract.Forgetting.{ContractsCallNothing}
use Rattle.hp_meaning.specs.Contract.FreePlaces.{IsEarly}
use Rattle.hp_meaning.specs.Contract.Game.{Choice, IsNext, Permitted, IsChosen, OneChoiceLaw}
use Rattle.hp_meaning.specs.Contract.ChosenRuns.{ChoiceRule}
use Rattle.hp_meaning.specs.Contract.SteeredRuns.{AllClocksRight, OneReactionByLaw}
use Rattle.hp_meaning.proofs.CausalLemmas.Unique.{same_pasts}
use Rattle.law_choices.specs.Once.Laws.{IsDetermined, OneReactionUnder, DeterminedLaw, FollowedLaw, OneChosenReactionLaw, OneChosenRunLaw}
use Rattle.law_choices.proofs.OnceLemmas.Deciding.{Same, same_value}
use Rattle.law_choices.proofs.OnceLemmas.Tests.{first_at}
use Rattle.law_choices.proofs.OnceLemmas.Strategies.{Surely, makes_front, makes_back, all_keep, some_strategy}
use Rattle.law_choices.proofs.OnceLemmas.Gathering.{gathered}

-- ---- the same pasts

-- Pasts that cannot differ agree.
surely_same : (p q : Past) → Surely (p ≡ q) → SamePasts p q
surely_same [] [] h = tt
surely_same [] (j ∷ q) h = absurd (h (λ e. absurd (cc)))
surely_same (i ∷ p) [] h = absurd (h (λ e. absurd (cc)))
surely_same (i ∷ p) (j ∷ q) h = ((λ s. at_place s (same_value (i s) (j s))), surely_same p q (λ none. h (λ e. none (ap (λ (past : Past). drop 1 past) e))))
  where
    at_place : (s : Place) → Same (i s) (j s) → i s ≡ j s
    at_place s (inl e) = e
    at_place s (inr f) = absurd (h (λ e. f (ap (λ (past : Past). first_at past s) e)))

module _ (one_by : OneReactionByLaw) where
  pub one_reaction : (program : List Item) (rule : ChoiceRule) → IsRanked program → AllClocksRight program → ContractsCallNothing program → IsDetermined program rule → OneReactionUnder program rule
  one_reaction program rule ranked right nothing_called determined f inputs past other h k =
      let a = gathered rule (reverse program) f past h.2 in
      let b = gathered rule (reverse program) f other k.2 in
      surely_same past other
      (λ none. some_strategy program rule determined (a.0 ++ b.0) (all_keep rule a.0 b.0 a.1 b.1)
      (λ s.
      let one = one_by program s.0 f inputs ranked right nothing_called s.1 in
      none
      (same_pasts past one.past (one.only past (h.0, h.1, a.2 s.0 (makes_front s.0 a.0 b.0 s.2)))
      ∙ sym (same_pasts other one.past (one.only other (k.0, k.1, b.2 s.0 (makes_back s.0 a.0 b.0 s.2)))))))

-- ---- rules that are determined

module _ (program : List Item) (n : Node) (history : Past) (inputs : List Value) (early other : Instant) (same : (p : Place) → IsEarly program n p → early p ≡ other p) where
  next_so : (c : Choice) (now : Instant) → IsNext program n history inputs early c now → IsNext program n history inputs other c now
  next_so c now next = record { free = next.free; fits = next.fits; agrees = λ p is. next.agrees p is ∙ same p is; meets = next.meets }

  permitted_before : (c : Choice) → Permitted program n history inputs other c → Permitted program n history inputs early c
  permitted_before c h now next = h now (next_so c now next)

chosen_before : (program : List Item) (n : Node) (history : Past) (inputs : List Value) (early other : Instant) → ((p : Place) → IsEarly program n p → early p ≡ other p) → (c : Choice) → IsChosen program n history inputs other c → IsChosen program n history inputs early c
chosen_before program n history inputs early other same c is =
    let back = λ (p : Place) (e : IsEarly program n p). sym (same p e) in
    record {
      fits = is.fits;
      greatest = λ d l p. let g = is.greatest d l (permitted_before program n history inputs other early back d p) in (permitted_before program n history inputs early other same c g.0, g.1);
      else_preferred = λ none. is.else_preferred (λ d l p. none d l (permitted_before program n history inputs early other same d p));
    }

pub chosen_is_determined : OneChoiceLaw → DeterminedLaw
chosen_is_determined one program n history inputs early other c d same h k = one program n history inputs early c d h (chosen_before program n history inputs early other same d k)

-- What a strategy gives is determined.
pub followed_is_determined : FollowedLaw
followed_is_determined program s is n history inputs early other c d same h k = h ∙ is.early_alone n history inputs early other same ∙ sym k

-- ---- runs

module _ (one_by : OneReactionByLaw) (determined : DeterminedLaw) where
  pub one_chosen_reaction : OneChosenReactionLaw
  one_chosen_reaction program ranked right nothing_called = one_reaction one_by program (IsChosen program) ranked right nothing_called (determined program)

  pub one_chosen_run : OneChosenRunLaw
  one_chosen_run program ranked right nothing_called f inputs outputs others a b =
      let same =
      same_pasts a.past b.past
      (one_chosen_reaction program ranked right nothing_called f (reverse inputs) a.past b.past (a.frees, a.reaction.reaction, a.chosen) (b.frees, b.reaction.reaction, b.chosen)) in
      sym a.gives ∙ ap (λ past. reverse (map (outputs_at program f) past)) same ∙ b.gives
