use Rattle.std.proofs.Common.{Some, sym, ap, ◌∙◌}
use Rattle.hp_cause.proofs.TableLaws.{path_by, path-number}
use Rattle.hp_cause.proofs.table.Locals.path.Goals as goal

pub returns-in-None : goal.returns-in-None
returns-in-None c = sym (ap (path_by c.args.self.now.decls.now) (sym c.find.ensures ∙ c.in-None.is)) ∙ path-number c.args.self.now.decls.now c.args.name.now

pub returns-in-Some-None : goal.returns-in-Some-None
returns-in-Some-None c = sym (ap (path_by c.args.self.now.decls.now) (sym c.find.ensures ∙ c.in-Some-None.is ∙ ap Some c.in-Some-None.field-0-is)) ∙ path-number c.args.self.now.decls.now c.args.name.now

pub returns-in-Some-Some : goal.returns-in-Some-Some
returns-in-Some-Some c = c.path_at.ensures ∙ sym (ap (path_by c.args.self.now.decls.now) (sym c.find.ensures ∙ c.in-Some-Some.is ∙ ap Some c.in-Some-Some.field-0-is)) ∙ path-number c.args.self.now.decls.now c.args.name.now
