use Rattle.std.proofs.Common.{◌++◌, ◌∷◌, ap, ◌∙◌, codes}
use Rattle.hp_obctext.specs.Files.{each, type_words, machine_words}
use Rattle.hp_obctext.specs.Found.{type_entries}
use Rattle.hp_base.specs.Known.Known.{lookup}
use Rattle.hp_obctext.specs.Words.{fixed, printed}
use Rattle.hp_obctext.proofs.RoundTrip.{printed_text}
use Rattle.hp_obctext.proofs.Saying.{all_found}
use Rattle.hp_obctext.proofs.print.print_obc.Goals as goal

pub returns-clause-text : goal.returns-clause-text
returns-clause-text c =
    c.in_ok-text_of.ensures
    ∙ ap (λ ms. printed (fixed (codes "obc") ∷ fixed (codes "1") ∷ each type_words c.args.o.now.types ++ each machine_words ms))
    (all_found c.args.o.now.types c.in_ok-types.types (λ x. c.in_ok-types.ensures x ∙ ap (λ ts. lookup (type_entries ts) x) c.types.ensures.types) c.args.o.now.machines)

pub returns-clause-machines : goal.returns-clause-machines
returns-clause-machines c = λ h. printed_text c.in_ok-text_of.field-0.items c.args.o.now c.types.ensures.form (returns-clause-text c) h
