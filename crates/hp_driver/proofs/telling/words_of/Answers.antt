use Rattle.std.proofs.Common.{◌∙◌, ◌++◌, take, ap}
use Rattle.hp_base.specs.Kinds.{kinds_of, kind_seen, SignatureData}
use Rattle.hp_base.specs.SignatureView.{kinds_seen}
use Rattle.hp_driver.specs.Telling.{word_kinds}
use Rattle.hp_driver.proofs.Shown.{words_added}
use Rattle.hp_driver.proofs.telling.words_of.Goals as goal

-- src/telling.rt:87:1
pub returns : goal.returns
returns c =
    words_added (kinds_seen c.new-outputs.result.items) (kinds_seen c.add_kinds.new.outputs.items) (kinds_seen c.add_kind.new.outputs.items) (kinds_seen c.add_kind-2.new.outputs.items)
    (take c.args.count (kinds_seen c.deref.result.now)) (kind_seen c.in_ok-assumed.assumed) (kind_seen c.in_ok-enforced.enforced) _ _
    (ap kinds_seen c.new-outputs.ensures.items) c.in_ok-add_kinds.ensures c.in_ok-assumed.ensures c.in_ok-enforced.ensures c.in_ok-add_kind.ensures c.in_ok-add_kind-2.ensures
    ∙ ap (λ ports. take c.args.count (kinds_seen ports) ++ word_kinds) c.deref.ensures.value
    ∙ ap (λ (s : SignatureData). take c.args.count (kinds_of s.outputs) ++ word_kinds) c.s.view_is
