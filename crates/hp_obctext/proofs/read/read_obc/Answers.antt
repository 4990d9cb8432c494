use Rattle.std.proofs.Common.{◌≤◌, length, Ok, Err, inl, ap, subst, arith}
use Rattle.hp_base.specs.Limits.{most}
use Rattle.hp_base.specs.declared.limit.What.TheVariants as what
use Rattle.hp_obctext.specs.declared.error.ObcErr.TheVariants as error
use Rattle.hp_obctext.specs.Rules.{in_file, IsBreach}
use Rattle.hp_obctext.specs.Texts.{file_seen}
use Rattle.hp_obctext.proofs.Answering.{same_machines, not_broken, one_breach, keeps_all}
use Rattle.hp_obctext.proofs.Forming.{breaks_form}
use Rattle.hp_obctext.proofs.FormMachines.{file_form}
use Rattle.hp_obctext.proofs.OneRefusal.{no_file, passed_on}
use Rattle.hp_obctext.proofs.read.read_obc.Goals as goal

pub built-requires : goal.built-requires
built-requires c =
    let file = file_seen c.in_ok-file.file in
    file_form file c.in_ok-file.ensures.file.0 (subst (IsBreach (in_file file)) c.in-None.is c.in_ok-number.ensures)

pub returns-in-Some-clause-refused : goal.returns-in-Some-clause-refused
returns-in-Some-clause-refused c =
    let file = file_seen c.in_ok-file.file in
    let limit = c.most-limit.ensures in
    let small = c.if-text-limit.false in
    let within : length c.args.text.now ≤ most what.Text = omega (arith, limit, small) in
    breaks_form c.args.text.now file c.in-Some.number c.place_of.result within c.in_ok-file.ensures.file (subst (IsBreach (in_file file)) c.in-Some.is c.in_ok-number.ensures) c.place_of.ensures

pub returns-in-Some-clause-read : goal.returns-in-Some-clause-read
returns-in-Some-clause-read c = λ o t.
    let file = file_seen c.in_ok-file.file in
    absurd (not_broken c.args.text.now file c.in-Some.number o c.in_ok-file.ensures.file (subst (IsBreach (in_file file)) c.in-Some.is c.in_ok-number.ensures) t)

pub returns-in-Some-clause-form : goal.returns-in-Some-clause-form
returns-in-Some-clause-form c = λ span b.
    inl (ap (λ s. Err (error.Form s)) (one_breach c.args.text.now c.place_of.result span (returns-in-Some-clause-refused c) b))

pub returns-in_ok-built-in-None-clause-read : goal.returns-in_ok-built-in-None-clause-read
returns-in_ok-built-in-None-clause-read c = λ o t.
    let file = file_seen c.in_ok-file.file in
    inl (ap Ok (same_machines c.args.text.now file c.in_ok-built-in-None.field-0 o c.in_ok-file.ensures.file c.in_ok-built-in-None.ensures t))

pub returns-in_ok-built-in-None-clause-form : goal.returns-in_ok-built-in-None-clause-form
returns-in_ok-built-in-None-clause-form c = λ span b.
    let file = file_seen c.in_ok-file.file in
    absurd (keeps_all c.args.text.now file span c.in_ok-file.ensures.file (subst (IsBreach (in_file file)) c.in-None.is c.in_ok-number.ensures) b)

pub returns-in-Some-clause-syntax : goal.returns-in-Some-clause-syntax
returns-in-Some-clause-syntax c = λ span r. absurd (no_file c.args.text.now span (file_seen c.in_ok-file.file) r c.in_ok-file.ensures.file)

pub returns-in_ok-built-in-None-clause-syntax : goal.returns-in_ok-built-in-None-clause-syntax
returns-in_ok-built-in-None-clause-syntax c = λ span r. absurd (no_file c.args.text.now span (file_seen c.in_ok-file.file) r c.in_ok-file.ensures.file)

pub returns-in_err-file-clause-syntax : goal.returns-in_err-file-clause-syntax
returns-in_err-file-clause-syntax c = λ span r. passed_on c.from_residual.result c.in_err-file.field-0.0 span c.from_residual.ensures.1 (c.in_err-file.ensures.syntax span r)
