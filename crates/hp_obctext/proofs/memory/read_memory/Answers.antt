use Rattle.std.proofs.Common.{◌≡◌, ◌++◌, length, Option, None, Some, Ok, Err, refl, sym, ap, subst, ◌∙◌}
use Rattle.std.specs.Prelude.{IsSome}
use Rattle.std.specs.Result.{result_err}
use Rattle.hp_lines.specs.Lines.{texts_of}
use Rattle.hp_lines.specs.Values.{values_of}
use Rattle.hp_obctext.specs.MemoryKinds.{kinds_at, misfit}
use Rattle.hp_obctext.specs.MemoryReading.{first_words}
use Rattle.hp_obctext.specs.MemoryTexts.{Says}
use Rattle.hp_obctext.specs.declared.memory.error.MemErr.{MemErr}
use Rattle.hp_obctext.specs.declared.memory.error.MemErr.TheVariants as error
use Rattle.hp_obctext.proofs.MemoryFitting.{fitting, accepted, same_misfit, read_values}
use Rattle.hp_obctext.proofs.MemoryRefusing.{one_checkpoint, one_place, no_place}
use Rattle.hp_obctext.proofs.MemoryValues.{same_some}
use Rattle.hp_obctext.proofs.memory.read_memory.Goals as goal

pub returns-in-Err-clause-read : goal.returns-in-Err-clause-read
returns-in-Err-clause-read c = λ values k e.
    let o = c.args.o.now in
    let f = fitting o.types o.machines c.args.node.now c.args.now.now values c.types-types.ensures.form c.requires.machine c.requires.kinds k in
    let ws = texts_of (kinds_at o.types c.args.now.now) values in
    let r = c.in-Err.ensures.refused in
    absurd (no_place c.args.text.now c.args.node.now ws r.0 r.1.1 (subst (λ t. Says t c.args.node.now ws) (sym e) f.says))

pub returns-in-Err-clause-fits : goal.returns-in-Err-clause-fits
returns-in-Err-clause-fits c = λ name ws s. let r = c.in-Err.ensures.refused in absurd (no_place c.args.text.now name ws r.0 r.1.1 s)

pub returns-in-Err-clause-syntax : goal.returns-in-Err-clause-syntax
returns-in-Err-clause-syntax c = λ span n.
    let r = c.in-Err.ensures.refused in
    ap Err (r.1.0 ∙ ap error.Syntax (one_place c.args.text.now r.0 span r.1.1 n))

pub returns-in-Err-judge-clause-fits : goal.returns-in-Err-judge-clause-fits
returns-in-Err-judge-clause-fits c = λ name vs s.
    let o = c.args.o.now in
    let now = c.args.now.now in
    let node = c.args.node.now in
    let found = c.in-Ok.checkpoint in
    let k = c.in-Ok.ensures.read in
    let ws = k.0 in
    sym (ap result_err c.in-Err-judge.is) ∙ c.judge.ensures ws k.1.0.checkpoint_is.values k.1.1 k.1.2
    ∙ ap (λ z. misfit z (kinds_at c.types-types.result.now now) found.node.now ws) c.as_bytes.ensures.value
    ∙ ap (λ types. misfit node (kinds_at types now) found.node.now ws) c.types-types.ensures.types
    ∙ same_misfit node (kinds_at o.types now) c.args.text.now found.node.now name ws vs k.1.0 s

pub returns-in-Err-judge-clause-read : goal.returns-in-Err-judge-clause-read
returns-in-Err-judge-clause-read c = λ values k e.
    let o = c.args.o.now in
    let node = c.args.node.now in
    let f = fitting o.types o.machines node c.args.now.now values c.types-types.ensures.form c.requires.machine c.requires.kinds k in
    let ws = texts_of (kinds_at o.types c.args.now.now) values in
    let both : ◌≡◌ {A = Option MemErr} (Some c.in-Err-judge.misfit) None =
    returns-in-Err-judge-clause-fits c node ws (subst (λ t. Says t node ws) (sym e) f.says) ∙ f.fits in
    absurd cc

pub returns-in-Err-judge-clause-syntax : goal.returns-in-Err-judge-clause-syntax
returns-in-Err-judge-clause-syntax c = λ span n. let k = c.in-Ok.ensures.read in absurd (no_place c.args.text.now c.in-Ok.checkpoint.node.now k.0 span n k.1.0)

pub fill-requires-clause-spelled : goal.fill-requires-clause-spelled
fill-requires-clause-spelled c =
    let now = c.args.now.now in
    let found = c.in-Ok.checkpoint in
    let k = c.in-Ok.ensures.read in
    let types = c.types-types.result.now in
    let fits = sym (ap result_err c.in_default.is) ∙ c.judge.ensures k.0 k.1.0.checkpoint_is.values k.1.1 k.1.2 in
    let a = accepted types now c.as_bytes.result.now found.node.now found.lines.now k.0 k.1.0.checkpoint_is.values k.1.2 fits in
    subst (λ ws. IsSome (values_of (kinds_at types now) ws)) (sym a.words) a.some

pub returns-clause-fits : goal.returns-clause-fits
returns-clause-fits c = λ name vs s.
    let o = c.args.o.now in
    let now = c.args.now.now in
    let node = c.args.node.now in
    let found = c.in-Ok.checkpoint in
    let k = c.in-Ok.ensures.read in
    let ws = k.0 in
    sym (ap result_err c.in_default.is) ∙ c.judge.ensures ws k.1.0.checkpoint_is.values k.1.1 k.1.2
    ∙ ap (λ z. misfit z (kinds_at c.types-types.result.now now) found.node.now ws) c.as_bytes.ensures.value
    ∙ ap (λ types. misfit node (kinds_at types now) found.node.now ws) c.types-types.ensures.types
    ∙ same_misfit node (kinds_at o.types now) c.args.text.now found.node.now name ws vs k.1.0 s

pub returns-clause-syntax : goal.returns-clause-syntax
returns-clause-syntax c = λ span n. let k = c.in-Ok.ensures.read in absurd (no_place c.args.text.now c.in-Ok.checkpoint.node.now k.0 span n k.1.0)

pub returns-clause-values : goal.returns-clause-values
returns-clause-values c =
    let o = c.args.o.now in
    let now = c.args.now.now in
    let found = c.in-Ok.checkpoint in
    let k = c.in-Ok.ensures.read in
    let fits = returns-clause-fits c found.node.now k.0 k.1.0 in
    let a = accepted o.types now c.args.node.now found.node.now found.lines.now k.0 k.1.0.checkpoint_is.values k.1.2 fits in
    let filled = ap (values_of (kinds_at o.types now)) (sym a.words) ∙ ap (λ types. values_of (kinds_at types now) (first_words (length now) found.lines.now)) (sym c.types-types.ensures.types) ∙ c.fill.ensures in
    (read_values o.types c.args.node.now found.node.now c.args.text.now now c.fill.new.into k.0 c.requires.kinds k.1.0 a.node_is filled).0

pub returns-clause-text : goal.returns-clause-text
returns-clause-text c =
    let o = c.args.o.now in
    let now = c.args.now.now in
    let found = c.in-Ok.checkpoint in
    let k = c.in-Ok.ensures.read in
    let fits = returns-clause-fits c found.node.now k.0 k.1.0 in
    let a = accepted o.types now c.args.node.now found.node.now found.lines.now k.0 k.1.0.checkpoint_is.values k.1.2 fits in
    let filled = ap (values_of (kinds_at o.types now)) (sym a.words) ∙ ap (λ types. values_of (kinds_at types now) (first_words (length now) found.lines.now)) (sym c.types-types.ensures.types) ∙ c.fill.ensures in
    (read_values o.types c.args.node.now found.node.now c.args.text.now now c.fill.new.into k.0 c.requires.kinds k.1.0 a.node_is filled).1

pub returns-clause-read : goal.returns-clause-read
returns-clause-read c = λ values h e.
    let o = c.args.o.now in
    let now = c.args.now.now in
    let node = c.args.node.now in
    let found = c.in-Ok.checkpoint in
    let k = c.in-Ok.ensures.read in
    let f = fitting o.types o.machines node now values c.types-types.ensures.form c.requires.machine c.requires.kinds h in
    let ws = texts_of (kinds_at o.types now) values in
    let one = one_checkpoint c.args.text.now found.node.now node k.0 ws k.1.0 (subst (λ t. Says t node ws) (sym e) f.says) in
    let fits = returns-clause-fits c found.node.now k.0 k.1.0 in
    let a = accepted o.types now node found.node.now found.lines.now k.0 k.1.0.checkpoint_is.values k.1.2 fits in
    let filled = ap (values_of (kinds_at o.types now)) (sym a.words) ∙ ap (λ types. values_of (kinds_at types now) (first_words (length now) found.lines.now)) (sym c.types-types.ensures.types) ∙ c.fill.ensures in
    (refl, same_some c.fill.new.into values (sym filled ∙ ap (values_of (kinds_at o.types now)) one.1 ∙ f.spelled_are))
