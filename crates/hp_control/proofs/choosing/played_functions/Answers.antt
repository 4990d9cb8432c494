use Rattle.std.proofs.Common.{◌≡◌, Bool, true, false, not, length, refl, sym, ap, subst, ◌∙◌}
use Rattle.hp_diagram.specs.Diagrams.{Means}
use Rattle.hp_diagram.proofs.Choices.{Keeps-trans, Means-keeps}
use Rattle.hp_boolx.specs.Game.{bad, permitted, preferred, valid_choice}
use Rattle.hp_boolx.specs.Machine.{Machine, IsMachine, game}
use Rattle.hp_boolx.specs.Search.{Bits, Set}
use Rattle.hp_boolx.specs.Solved.{IsChoice}
use Rattle.hp_boolx.proofs.GateLaws.{game-form}
use Rattle.hp_boolx.proofs.SolvedLaws.{win-choice}
use Rattle.hp_synth.specs.Layouts.{place}
use Rattle.hp_synth.specs.Playing.{Ends}
use Rattle.hp_synth.specs.Rounds.{IsCounts}
use Rattle.hp_synth.specs.Valued.{all, through, states, earlies, control_from, over, OfChoice}
use Rattle.hp_synth.specs.declared.layout.Layout.{Layout}
use Rattle.hp_synth.specs.declared.played.End.TheVariants.{Won}
use Rattle.hp_synth.proofs.RoundSteps.{if_ok-map}
use Rattle.hp_control.specs.Controlling.{AreFunctionsAt, AreLeft}
use Rattle.hp_control.proofs.choosing.played_functions.Goals as goal

pub without_bad-requires-clause-choices : goal.without_bad-requires-clause-choices
without_bad-requires-clause-choices c =
    let m = c.args.m.now in
    let choices = c.choices-choices.ensures (game m) (game-form m c.vars-vars.ensures.kept) c.requires.played in
    c.bad.ensures.keeps.has _ choices.has

pub returns-in_err-permitted-clause-keeps : goal.returns-in_err-permitted-clause-keeps
returns-in_err-permitted-clause-keeps c = Keeps-trans _ _ _ c.bad.ensures.keeps c.without_bad.ensures.keeps

pub returns-clause-keeps : goal.returns-clause-keeps
returns-clause-keeps c = Keeps-trans _ _ _ (Keeps-trans _ _ _ c.bad.ensures.keeps c.without_bad.ensures.keeps) c.bits.ensures.keeps

not-not : (b : Bool) → not (not b) ≡ b
not-not true = refl
not-not false = refl

pub returns-clause-ok : goal.returns-clause-ok
returns-clause-ok c =
    let m = c.args.m.now in
    let g = game m in
    let p = c.args.p.now in
    let before = c.bad.new.self.table in
    let t = c.without_bad.new.t in
    let l = c.bad.new.self.layout in
    let played = c.requires.played in
    let kept : IsMachine m = subst IsMachine c.m.view_is c.m.invariant in
    let form = game-form m kept in
    let ends : Ends g (place p.layout) p.table played.count (Won c.in-Won.lost) = subst (Ends g (place p.layout) p.table played.count) c.in-Won.is played.ends in
    let X = ends.0 in
    let same : l ≡ p.layout = c.in_ok-worse.ensures.layout in
    let counts = subst (λ (k : Layout). IsCounts g k.counts) (sym same) played.counts in
    let prefer : c.deref.result.now ≡ m.prefer = c.deref.ensures.value ∙ ap (λ (n : Machine). n.prefer) c.m.view_is in
    let q : Bits → Bits → Set = λ r u. permitted g X r u in
    let choices = Means-keeps p.table before c.bad.ensures.keeps (over (place p.layout) (OfChoice g (valid_choice g))) c.choices-choices.result (c.choices-choices.ensures g form played) in
    let choices_at = subst (λ (k : Layout). Means before (over (place k) (OfChoice g (valid_choice g))) c.choices-choices.result) (sym same) choices in
    let worse = c.in_ok-worse.ensures.ok g X form played ends.1 in
    let worse_at = subst (λ (k : Layout). Means before (λ v. bad g X (all g (through (place k) v))) c.in_ok-worse.worse) (sym same) worse in
    let left : AreLeft g (place l) t (control_from g) g.control q c.in_ok-permitted.permitted = c.in_ok-permitted.ensures.ok g X counts choices_at worse_at in
    let there : AreLeft g (place l) t (control_from g) (length c.deref.result.now) q c.in_ok-permitted.permitted =
    subst (λ n. AreLeft g (place l) t (control_from g) n q c.in_ok-permitted.permitted) (sym (ap (λ (bs : Bits). length bs) prefer ∙ kept.prefer)) left in
    let twice : (λ (s : Bits). not (not (X s))) ≡ X = λ j. λ s. not-not (X s) j in
    let chosen : (r u : Bits) → IsChoice g r u (preferred m.prefer (permitted g X r u)) = λ r u. subst (λ (Y : Set). IsChoice g r u (preferred m.prefer (permitted g Y r u))) twice (win-choice g form (λ s. not (X s)) ends.2 r u) in
    if_ok-map c.bits.result (λ funs is. subst (λ (k : Layout). AreFunctionsAt g (place k) c.bits.new.t funs.items) same
    (λ v.
    let w = through (place l) v in
    let value = is g q counts there v ∙ ap (λ (bs : Bits). preferred bs (q (states g w) (earlies g w))) prefer in
    subst (λ (bits : Bits). IsChoice g (states g w) (earlies g w) bits) (sym value) (chosen (states g w) (earlies g w))))
    c.bits.ensures.ok
