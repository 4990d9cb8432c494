-- Without controllable variables each reaction is a run of chosen values.
use Rattle.std.proofs.Common.{◌≡◌, ℕ, List, [], ◌∷◌, map, refl, sym, ap, subst}
use Rattle.std.specs.Prelude.{Bool, true, false, reverse}
use Rattle.std.specs.Str.{bytes_eq}
use Rattle.std.specs.Bool.{MatchBool}
use Rattle.hp_base.specs.declared.value.Value.{Value}
use Rattle.hp_tree.specs.declared.program.Item.{Item}
use Rattle.hp_tree.specs.declared.program.Item.TheVariants.{TypeItem, NodeItem}
use Rattle.hp_tree.specs.Blocks.{Decl}
use Rattle.hp_tree.specs.Programs.{Node}
use Rattle.hp_tree.specs.Instant.{Controls, Instant, Past, part}
use Rattle.hp_tree.specs.Meaning.{types_of, controls_of}
use Rattle.hp_meaning.specs.Causal.Runs.{NoControls}
use Rattle.hp_meaning.proofs.CausalLemmas.Run.{none_reverse}
use Rattle.hp_meaning.specs.Contract.Game.{Choice, choices_of, AreChoices, first_of, Permitted, AtMost, IsChosen}
use Rattle.hp_meaning.specs.Contract.ChosenRuns.{Chosen, ChosenThroughout, UncontrolledLaw}
use Rattle.hp_tree.specs.Reaction.{row_of}

either_way : {P Q : Type 0} (t : Bool) → P → Q → MatchBool t P Q
either_way true p q = p
either_way false p q = q

no_row : (ds : List Decl) (i : Instant) → ds ≡ [] → row_of ds i ≡ []
no_row [] i e = refl
no_row (d ∷ ds) i e = absurd (cc)

pub no_choice : (program : List Item) (n : Node) (history : Past) (inputs : List Value) (early : Instant) → controls_of n.contract ≡ [] → IsChosen program n history inputs early []
no_choice program n history inputs early e =
    record {
      fits = subst (λ ds. AreChoices (types_of program) ds []) (sym e) tt;
      greatest = λ d l p. only d (subst (λ ds. AreChoices (types_of program) ds d) e l) p;
      else_preferred = λ none. sym (ap (map (λ (x : Decl). first_of (choices_of (types_of program) x.ty))) e);
    }
  where
    only : (d : Choice) → AreChoices (types_of program) [] d → Permitted program n history inputs early d → Permitted program n history inputs early [] × AtMost (types_of program) (controls_of n.contract) d []
    only [] l p = (p, subst (λ ds. AtMost (types_of program) ds [] []) (sym e) tt)
    only (v ∷ d) l p = absurd l

chosen_now : (program items : List Item) (f : List ℕ) (past : Past) (now : Instant) → NoControls items → Chosen program items f past now
chosen_now program [] f past now r = tt
chosen_now program (TypeItem t ∷ earlier) f past now r = chosen_now program earlier f past now r
chosen_now program (NodeItem n ∷ earlier) f past now r =
    either_way (bytes_eq n.name f)
    (subst (IsChosen program n _ _ _) (sym (no_row (controls_of n.contract) (part Controls now) r.0)) (no_choice program n _ _ _ r.0), λ k d b there. chosen_now program earlier _ _ _ r.1)
    (chosen_now program earlier f past now r.1)

chosen_always : (program : List Item) (f : List ℕ) (past : Past) → NoControls program → ChosenThroughout program f past
chosen_always program f [] r = tt
chosen_always program f (now ∷ past) r = (chosen_always program f past r, chosen_now program (reverse program) f past now (none_reverse program r))

pub uncontrolled : UncontrolledLaw
uncontrolled program f inputs outputs r run =
    let s = run.some in
    record { frees = s.0; past = s.1; reaction = s.2; chosen = chosen_always program f s.1 r; gives = run.every s.0 s.1 s.2 }
