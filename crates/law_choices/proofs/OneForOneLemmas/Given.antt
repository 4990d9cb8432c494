-- Removing automata keeps reactions one for one, where the values of controllable variables are given.
use Rattle.std.proofs.Common.{◌≡◌, suc, List, [], ◌∷◌, length, refl, ap, ◌∙◌}
use Rattle.hp_meaning.specs.Causal.OneReaction.{ReactionLaw}
use Rattle.hp_meaning.specs.Causal.RanksOfPoints.{AllRanksLaw}
use Rattle.hp_automata.specs.Lowering.{lowered_program}
use Rattle.law_automata.specs.Lowered.Standing.{Along}
use Rattle.law_automata.specs.Lowered.Laws.{SameControls, OnlyLaw, OutputsLaw, RanksLaw}
use Rattle.law_automata.specs.Lowerable.Laws.{DecidedLaw}
use Rattle.law_choices.specs.OneForOne.Laws.{GivenLaw}

-- lists that are related one by one are as long
as_long : {A B : Type 0} (P : A → B → Type 0) (xs : List A) (ys : List B) → Along P xs ys → length ys ≡ length xs
as_long P [] [] h = refl
as_long P (x ∷ xs) (y ∷ ys) h = ap suc (as_long P xs ys h.1)
as_long P [] (y ∷ ys) h = absurd h
as_long P (x ∷ xs) [] h = absurd h

pub given_law : ReactionLaw → AllRanksLaw → RanksLaw → DecidedLaw → OnlyLaw → OutputsLaw → GivenLaw
given_law one all_ranks low_ranks decided only outputs program after ranks r ok fall f n inputs frees frees' e i long fits same =
    let ranked = all_ranks after ranks fall in
    let low = low_ranks after ok ranked in
    let before = one after f inputs frees ranked long in
    let behind = one (lowered_program after) f inputs frees' low (as_long (SameControls after f) frees frees' same ∙ long) in
    let told = decided program after ranks r fall f n inputs frees before.past e i fits before.is_one in
    let stands = only after ok low f inputs frees frees' before.past behind.past before.is_one same told behind.is_one in
    record { before = before; behind = behind; stands = stands; outputs = outputs after ok f before.past behind.past stands }
