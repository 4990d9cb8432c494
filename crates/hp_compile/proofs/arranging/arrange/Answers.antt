use Rattle.std.proofs.Common.{◌≡◌, List, ap, sym, subst}
use Rattle.hp_tree.specs.declared.program.Item.{Item}
use Rattle.hp_clocks.specs.Answers.{AreNamed, HaveClocks, NoneLong, Refuses}
use Rattle.hp_init.specs.Answers.{NamesLate}
use Rattle.hp_init.specs.Initialised.{IsInitialised}
use Rattle.hp_meaning.specs.Causal.RanksOfPoints.{AllFall}
use Rattle.hp_cause.specs.Answers.{lists}
use Rattle.hp_cause.specs.Ordering.{AllNodesCausal}
use Rattle.hp_expand.specs.Numbering.{replaced}
use Rattle.hp_compile.specs.Arranged.{HasClocks}
use Rattle.hp_compile.specs.Refusals.{IsRefused, of_expanding, of_clocks, of_init, of_cause}
use Rattle.hp_compile.specs.declared.refusal.Refusal.TheVariants.{OutOfMemory}
use Rattle.hp_compile.proofs.ReadyLaws.{named, ready}
use Rattle.hp_compile.proofs.FormLaws.{formed, well_formed}
use Rattle.hp_compile.proofs.RefusalLaws.{handed, form_refuses, form_memory, clocks_refuse, init_refuses, cause_refuses}
use Rattle.hp_compile.proofs.arranging.arrange.Goals as goal

pub returns-in_err-expanded-clause-refused : goal.returns-in_err-expanded-clause-refused
returns-in_err-expanded-clause-refused c = λ text judged.
    handed (IsRefused text) c.from_residual.result (of_expanding c.in_err-expanded.field-0.0) c.from_residual.ensures.1
    (form_refuses text c.args.program.now c.in_err-expanded.field-0.0 judged c.in_err-expanded.ensures.refused)

pub returns-in_err-expanded-clause-accepted : goal.returns-in_err-expanded-clause-accepted
returns-in_err-expanded-clause-accepted c = λ a.
    let memory = form_memory c.requires.0 c.args.program.now c.in_err-expanded.field-0.0 c.requires.1 a.well_formed c.in_err-expanded.ensures.refused in
    handed (λ e. e ≡ OutOfMemory) c.from_residual.result (of_expanding c.in_err-expanded.field-0.0) c.from_residual.ensures.1 (ap of_expanding memory)

pub returns-in_err-clocked-clause-refused : goal.returns-in_err-clocked-clause-refused
returns-in_err-clocked-clause-refused c = λ text judged.
    let error = c.in_err-clocked.field-0.0 in
    handed (IsRefused text) c.from_residual-in_err-clocked.result (of_clocks error) c.from_residual-in_err-clocked.ensures.1
    (clocks_refuse text c.args.program.now error judged c.in_ok-expanded.ensures.formed
    (subst (λ p. Refuses p error) c.in_ok-expanded.ensures.replaced c.in_err-clocked.ensures.refused))

pub returns-in_err-clocked-clause-accepted : goal.returns-in_err-clocked-clause-accepted
returns-in_err-clocked-clause-accepted c = λ a.
    let program : List Item = c.args.program.now in
    let same : c.in_ok-expanded.expanded ≡ replaced program = c.in_ok-expanded.ensures.replaced in
    let names : AreNamed (replaced program) = named c.requires.0 program c.requires.1 (formed c.requires.0 program c.requires.1 a.well_formed) in
    let memory = c.in_err-clocked.ensures.accepted (subst HaveClocks (sym same) a.clocks) (subst NoneLong (sym same) a.short) (subst AreNamed (sym same) names) in
    handed (λ e. e ≡ OutOfMemory) c.from_residual-in_err-clocked.result (of_clocks c.in_err-clocked.field-0.0) c.from_residual-in_err-clocked.ensures.1 (ap of_clocks memory)

pub returns-in_err-initialised-clause-refused : goal.returns-in_err-initialised-clause-refused
returns-in_err-initialised-clause-refused c = λ text judged.
    let error = c.in_err-initialised.field-0.0 in
    let same : c.in_ok-expanded.expanded ≡ replaced c.args.program.now = c.in_ok-expanded.ensures.replaced in
    handed (IsRefused text) c.from_residual-in_err-initialised.result (of_init error) c.from_residual-in_err-initialised.ensures.1
    (init_refuses text c.args.program.now c.in_ok-clocked.clocked error judged c.in_ok-expanded.ensures.formed
    (subst (λ p. HasClocks p c.in_ok-clocked.clocked) same c.in_ok-clocked.ensures.written)
    (subst (λ p. NamesLate p error) same c.in_err-initialised.ensures.late))

pub order-requires : goal.order-requires
order-requires c =
    ready c.requires.0 c.args.program.now c.in_ok-clocked.clocked c.requires.1 c.in_ok-expanded.ensures.formed
    (subst (λ p. HasClocks p c.in_ok-clocked.clocked) c.in_ok-expanded.ensures.replaced c.in_ok-clocked.ensures.written)

pub returns-in_err-ordered-clause-refused : goal.returns-in_err-ordered-clause-refused
returns-in_err-ordered-clause-refused c = λ text judged.
    let error = c.in_err-ordered.field-0.0 in
    let same : c.in_ok-expanded.expanded ≡ replaced c.args.program.now = c.in_ok-expanded.ensures.replaced in
    handed (IsRefused text) c.from_residual-in_err-ordered.result (of_cause error) c.from_residual-in_err-ordered.ensures.1
    (cause_refuses text c.args.program.now c.in_ok-clocked.clocked error judged c.in_ok-expanded.ensures.formed
    (subst (λ p. HasClocks p c.in_ok-clocked.clocked) same c.in_ok-clocked.ensures.written)
    (subst IsInitialised same c.in_ok-initialised.ensures.initialised)
    c.in_err-ordered.ensures.cycle)

pub returns-clause-arranged : goal.returns-clause-arranged
returns-clause-arranged c =
    let same : c.in_ok-expanded.expanded ≡ replaced c.args.program.now = c.in_ok-expanded.ensures.replaced in
    let one : c.in_ok-ordered.ordered.program ≡ c.in_ok-clocked.clocked = c.in_ok-ordered.ensures.program in
    record {
      well_formed = well_formed c.requires.0 c.args.program.now c.requires.1 c.in_ok-expanded.ensures.formed;
      clocks = subst (HasClocks (replaced c.args.program.now)) (sym one) (subst (λ p. HasClocks p c.in_ok-clocked.clocked) same c.in_ok-clocked.ensures.written);
      initialised = subst IsInitialised same c.in_ok-initialised.ensures.initialised;
      causal = subst AllNodesCausal (sym one) c.in_ok-ordered.ensures.causal;
      ordered = subst (λ p. AllFall p (lists c.in_ok-ordered.ordered.ranks.items)) (sym one) c.in_ok-ordered.ensures.ordered;
    }
