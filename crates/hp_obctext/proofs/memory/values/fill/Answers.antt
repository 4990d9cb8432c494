use Rattle.std.proofs.Common.{◌≡◌, ◌+◌, ◌-◌, ◌<◌, ◌++◌, [], ◌∷◌, length, take, drop, None, Some, sym, ap, subst, ◌∙◌, append_assoc, arith}
use Rattle.std.proofs.lemmas.List.{take_more_set}
use Rattle.hp_base.specs.declared.value.Value.TheVariants.{Absent}
use Rattle.hp_lines.specs.Values.{value_of, values_of}
use Rattle.std.specs.Prelude.{slice_index_or, slice_set}
use Rattle.hp_obctext.specs.MemoryKinds.{kind_at, kinds_at}
use Rattle.hp_obctext.specs.MemoryReading.{first_words}
use Rattle.hp_obctext.proofs.MemoryValues.{some_is, same_some, fill_step}
use Rattle.hp_obctext.proofs.memory.values.fill.Goals as goal

pub loop-i-init : goal.loop-i-init
loop-i-init c =
    let kinds = kinds_at c.args.types.now c.args.now.now in
    let n = length c.args.now.now in
    let s = some_is (values_of kinds (first_words n c.args.lines.now)) c.requires.spelled in
    let zero : n - 0 ≡ n = omega arith in
    (s.0, ap (λ m. values_of kinds (first_words m c.args.lines.now)) zero ∙ s.1, s.1)

pub unreachable-requires : goal.unreachable-requires
unreachable-requires c =
    let types = c.args.types.now in
    let now = c.args.now.now in
    let i = c.loop-i.i in
    let less : i < length now = omega arith in
    let s = fill_step types now i Absent c.loop-i.rest.now c.loop-i.invariant.0 less c.loop-i.invariant.1 in
    let none = ap (value_of (kind_at types (slice_index_or now i Absent))) (sym c.first_word.ensures.word) ∙ sym c.value_like.ensures ∙ c.in_default.is in
    let both : None ≡ Some s.value = sym none ∙ s.first_is in
    cc

pub loop-i-preserved : goal.loop-i-preserved
loop-i-preserved c =
    let types = c.args.types.now in
    let now = c.args.now.now in
    let i = c.loop-i.i in
    let v = c.in-Some.value in
    let less : i < length now = omega arith in
    let s = fill_step types now i Absent c.loop-i.rest.now c.loop-i.invariant.0 less c.loop-i.invariant.1 in
    let some = ap (value_of (kind_at types (slice_index_or now i Absent))) (sym c.first_word.ensures.word) ∙ sym c.value_like.ensures ∙ c.in-Some.is in
    let same : s.value ≡ v = same_some s.value v (sym s.first_is ∙ some) in
    let long = c.loop-i.auto.into in
    let places = c.requires.places in
    let room : i < length c.loop-i.into = omega (arith, long, places) in
    let whole : take (i + 1) (slice_set c.loop-i.into i v) ++ s.others ≡ take i c.loop-i.into ++ v ∷ s.others =
    ap (λ z. z ++ s.others) (take_more_set c.loop-i.into i v room) ∙ append_assoc (take i c.loop-i.into) (v ∷ []) s.others in (
      s.others,
      ap (λ z. values_of (kinds_at types (drop (i + 1) now)) (first_words (length now - (i + 1)) z)) c.behind_line-rest.ensures ∙ s.others_are,
      c.loop-i.invariant.2 ∙ ap (λ z. Some (take i c.loop-i.into ++ z)) (s.all ∙ ap (λ z. z ∷ s.others) same) ∙ ap Some (sym whole),
    )
