-- What is said of the program of a text in one walk is what is said of it with its inlined calls replaced.
use Rattle.std.proofs.Common.{◌≡◌, ℕ, List, Option, None, Some, refl, sym, ap, ◌∙◌}
use Rattle.hp_base.specs.declared.limit.Limit.{Limit}
use Rattle.hp_tree.specs.declared.program.Item.{Item}
use Rattle.hp_expand.specs.Sizes as sizes
use Rattle.hp_expand.specs.Shapes as shapes
use Rattle.hp_expand.specs.Shapes.{breach_in}
use Rattle.hp_expand.specs.Counts.{limit_of}
use Rattle.hp_expand.specs.Formed as walk
use Rattle.hp_expand.specs.Refusals.{first_of, refusal_of, IsFormed}
use Rattle.hp_expand.specs.Numbering.{no_node, replaced}
use Rattle.hp_expand.proofs.FormedLaws.{formed_law}
use Rattle.hp_expand.proofs.LeftLaws.{left_law}
use Rattle.law_judged.proofs.TypedLemmas.ProgramLaws.{typed}
use Rattle.law_judged.proofs.PlainLemmas.Spelled.{found_of, merges_full}
use Rattle.hp_compile.specs.Judged.{IsJudged}
use Rattle.hp_compile.specs.Counts.{counts, first_passed}
use Rattle.std.specs.Prelude.{option_map}
use Rattle.hp_compile.specs.Shapes.{HasShapes, first_shape}
use Rattle.hp_compile.specs.Arranged.{IsWellFormed, first_breach, said_of}
use Rattle.hp_compile.proofs.CountLemmas.Types.{Breach}
use Rattle.hp_compile.proofs.CountLemmas.Same.{AllInlineNone, AllFit, calls_fit, same_counts}
use Rattle.hp_compile.proofs.CountLemmas.Tests.{ItemsTests, items_read, replaced_tests}
use Rattle.hp_compile.proofs.CountLemmas.Plain.{plain_counts, keep_limits}
use Rattle.hp_compile.proofs.CountLemmas.Shaped.{none_inlined, shaped_inlined, none_passed}
use Rattle.hp_compile.proofs.CountLemmas.Breaches.{told_at, shapes_told}
use Rattle.hp_compile.proofs.CountLemmas.Quiet.{none_tied}
use Rattle.hp_compile.proofs.CountLemmas.Contracts.{inline_same, all_shaped}

no_limit : (limit : Option (List ℕ × Limit)) → first_of None limit ≡ None → limit ≡ None
no_limit None h = refl
no_limit (Some l) h = absurd cc

no_breach : (breach : Option (List ℕ × Breach)) (limit : Option (List ℕ × Limit)) → first_of breach limit ≡ None → breach ≡ None
no_breach None limit h = refl
no_breach (Some b) limit h = absurd cc

module _ (text : List ℕ) (program : List Item) (judged : IsJudged text program) where
  tests : ItemsTests (replaced program)
  tests =
      let p = judged.program_of in
      replaced_tests program (items_read 200 64 (Some 64) (Some 64) (Some 63) program (found_of text p.tokens program p.spelled.read p.read).0.0)

  fits : AllInlineNone shapes.nothing_known program → AllFit sizes.nothing_known no_node program
  fits inlined =
      let p = judged.program_of in
      calls_fit program judged.named (typed program judged.named judged.typed (merges_full text p.tokens program p.spelled p.read)) inlined

  one_limit : AllInlineNone shapes.nothing_known program → limit_of program ≡ first_passed (counts (replaced program))
  one_limit inlined = same_counts program (fits inlined) ∙ sym (plain_counts (replaced program) (left_law program) tests)

  pub one_breach : refusal_of program ≡ first_breach program
  one_breach = by (breach_in program) refl ∙ ap (λ b. said_of b (first_passed (counts (replaced program)))) (sym told)
    where
      told : first_shape program ≡ option_map told_at (breach_in program)
      told = shapes_told program

      by : (b : Option (List ℕ × Breach)) → breach_in program ≡ b → first_of b (limit_of program) ≡ said_of (option_map told_at b) (first_passed (counts (replaced program)))
      by None e = ap (first_of None) (one_limit (none_inlined shapes.nothing_known program e))
      by (Some b) e = refl

  -- shapes by the walk, and with inlined calls replaced
  shaped : walk.HasShapes program → HasShapes program
  shaped h =
      let inlined = shaped_inlined shapes.nothing_known program h in
      let each = (all_shaped sizes.nothing_known shapes.nothing_known no_node none_tied program inlined (fits inlined) (left_law program) tests).0 h in
      record { inlined = (inline_same shapes.nothing_known program).1 inlined; calls = each.0; controls = each.1 }

  walked : HasShapes program → walk.HasShapes program
  walked h =
      let inlined = (inline_same shapes.nothing_known program).0 h.inlined in
      (all_shaped sizes.nothing_known shapes.nothing_known no_node none_tied program inlined (fits inlined) (left_law program) tests).1 (h.calls, h.controls)

  pub well_formed : IsFormed program → IsWellFormed program
  well_formed f =
      let found = breach_in program in
      let limit = limit_of program in
      let none : limit ≡ None = no_limit limit (sym (ap (λ b. first_of b limit) (no_breach found limit f)) ∙ f) in
      record {
        shapes = shaped ((formed_law program).1 f).0;
        limits = (keep_limits (counts (replaced program))).1 (sym (one_limit (none_inlined shapes.nothing_known program (no_breach found limit f))) ∙ none);
      }

  pub formed : IsWellFormed program → IsFormed program
  formed w =
      let h = walked w.shapes in
      (formed_law program).0
      (h, none_passed sizes.nothing_known 0 program (one_limit (shaped_inlined shapes.nothing_known program h) ∙ (keep_limits (counts (replaced program))).0 w.limits))
