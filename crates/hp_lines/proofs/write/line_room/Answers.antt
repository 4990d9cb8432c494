use Rattle.std.proofs.Common.{◌≡◌, ◌≤◌, ◌⊎◌, length, sym, ap, subst, ◌∙◌}
use Rattle.hp_base.specs.Kinds.{SignatureData, kinds_of}
use Rattle.hp_base.specs.SignatureView.{kinds_seen}
use Rattle.hp_lines.specs.Lines.{line_of, line_bound}
use Rattle.hp_lines.proofs.LineLaws.{line_is_bounded}
use Rattle.hp_lines.proofs.write.line_room.Goals as goal

pub returns-clause-bounds : goal.returns-clause-bounds
returns-clause-bounds c = λ values h.
    let kinds = kinds_of c.args.s.now.outputs in
    let room-is : c.room_of_line.result ≡ line_bound kinds =
    c.room_of_line.ensures
    ∙ ap (λ ports. line_bound (kinds_seen ports)) c.deref.ensures.value
    ∙ ap (λ (s : SignatureData). line_bound (kinds_of s.outputs)) c.s.view_is in
    subst (λ n. (length (line_of kinds values) ≤ n) ⊎ (n ≡ 18446744073709551615)) (sym room-is) (line_is_bounded kinds values h)
