use Rattle.std.proofs.Common.{length, sym, ap, subst, arith}
use Rattle.hp_base.specs.Kinds.{SignatureData, AreOfKinds, kinds_of}
use Rattle.hp_base.specs.SignatureView.{kinds_seen}
use Rattle.hp_lines.proofs.ReadLaws.{length_kinds}
use Rattle.hp_lines.proofs.LineLaws.{as_many_values}
use Rattle.hp_lines.proofs.write.write_line.Goals as goal

pub append_words-requires-clause-lengths : goal.append_words-requires-clause-lengths
append_words-requires-clause-lengths c =
    let outputs = c.s.inside.outputs.items in
    let values = c.args.values.now in
    let kinds : AreOfKinds (kinds_seen outputs) values =
    subst (λ (s : SignatureData). AreOfKinds (kinds_of s.outputs) values) (sym c.s.view_is) c.requires.kinds in
    omega (arith, as_many_values (kinds_seen outputs) values kinds, length_kinds outputs, ap length c.deref.ensures.value)
