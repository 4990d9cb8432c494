use Rattle.std.proofs.Common.{List, sym, ap, ◌∙◌, subst}
use Rattle.std.specs.Prelude.{All}
use Rattle.hp_clocks.specs.declared.solved.SolvedNode.{SolvedNode}
use Rattle.hp_clocks.specs.Writing.{Path}
use Rattle.hp_clocks.specs.Answers.{AreShort, ArePaths, IsFirstLong, IsKnown, all_paths}
use Rattle.hp_clocks.proofs.AnswerLaws.{all_known, are_paths, refuses_long, err_refuses}
use Rattle.hp_clocks.proofs.solved.find_clocks.Goals as goal

pub check_lengths-requires : goal.check_lengths-requires
check_lengths-requires c =
    record { known = subst (λ z. All (λ (s : SolvedNode). IsKnown s.solution) z) (sym c.deref.ensures.value) (all_known c.args.items.now c.in_ok-solved.solved.items c.in_ok-solved.ensures.solved) }

pub all_paths-requires : goal.all_paths-requires
all_paths-requires c =
    record { known = subst (λ z. All (λ (s : SolvedNode). IsKnown s.solution) z) (sym c.deref-2.ensures.value) (all_known c.args.items.now c.in_ok-solved.solved.items c.in_ok-solved.ensures.solved) }

pub returns-in_err-check_lengths-clause-refused : goal.returns-in_err-check_lengths-clause-refused
returns-in_err-check_lengths-clause-refused c =
    let ss = c.in_ok-solved.solved.items in
    let e = c.in_err-check_lengths.field-0.0 in
    err_refuses c.args.items.now c.from_residual-in_err-check_lengths.result e c.from_residual-in_err-check_lengths.ensures.1
    (refuses_long c.args.items.now ss e c.in_ok-solved.ensures.solved (subst (λ z. IsFirstLong z e) c.deref.ensures.value c.in_err-check_lengths.ensures.long))

pub returns-clause-found : goal.returns-clause-found
returns-clause-found c =
    let ss = c.in_ok-solved.solved.items in
    subst (λ (ps : List Path). ArePaths c.args.items.now ps) (sym (c.in_ok-all_paths.ensures ∙ ap all_paths c.deref-2.ensures.value))
    (are_paths c.args.items.now ss c.in_ok-solved.ensures.solved (subst AreShort c.deref.ensures.value c.in_ok-check_lengths.ensures.short))
