use Rattle.std.proofs.Common.{◌≡◌, ◌∙◌, rules, arith, map, [], ◌∷◌, sym, codes}
use Rattle.std.specs.String.{string_bytes}
use Rattle.hp_driver.specs.Command.{IsSegmentOf}
use Rattle.hp_driver.proofs.SegmentWords.{five, is_resume}
use Rattle.hp_driver.proofs.words.resumed_segment.Goals as goal

pub returns : goal.returns
returns c =
    let words = c.args.words.now in
    let resume : c.as_str.result.now ≡ codes "resume" = search rules in
    let are : map string_bytes words ≡ codes "resume" ∷ c.as_str-2.result.now ∷ c.as_str-3.result.now ∷ c.as_str-4.result.now ∷ c.as_str-5.result.now ∷ [] =
    five string_bytes words c.command-item.result c.file-item.result c.node-item.result c.mem-item.result c.out-item.result (omega arith) c.command-item.is c.file-item.is c.node-item.is c.mem-item.is c.out-item.is
    ∙ (λ i. (sym c.as_str.ensures.value ∙ resume) i ∷ sym c.as_str-2.ensures.value i ∷ sym c.as_str-3.ensures.value i ∷ sym c.as_str-4.ensures.value i ∷ sym c.as_str-5.ensures.value i ∷ []) in
    IsSegmentOf.to_resume (is_resume (map string_bytes words) c.as_str-2.result.now c.as_str-3.result.now c.as_str-4.result.now c.as_str-5.result.now are _ _ _ _ c.in_ok-file.ensures c.in_ok-mem.ensures)
