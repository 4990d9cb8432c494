use Rattle.std.proofs.Common.{◌≡◌, ◌↔◌, suc, ◌+◌, ◌<◌, inl, inr, IsTrue, length, slice_index_or, sym, ap, subst, ◌∙◌, arith, true≢false}
use Rattle.std.proofs.lemmas.Bool.{cases_lt}
use Rattle.hp_boolx.specs.Solved.{rank, rank_step}
use Rattle.hp_diagram.specs.declared.reference.Ref.{Ref}
use Rattle.hp_diagram.specs.Diagrams.{Means}
use Rattle.hp_diagram.proofs.Choices.{Keeps-refl, Keeps-trans, Means-keeps}
use Rattle.hp_synth.specs.Sought.{base_at}
use Rattle.hp_synth.specs.Layouts.{place, IsLayout}
use Rattle.hp_synth.specs.Valued.{over, OfState}
use Rattle.hp_synth.proofs.SoughtLaws.{all-keeps}
use Rattle.hp_cert.specs.Steps.{IsStrong}
use Rattle.hp_cert.proofs.StepLaws.{set_at, sets_len, nothing_means}
use Rattle.hp_cert.proofs.steps.first_weak.Goals as goal

pub loop-k-init : goal.loop-k-init
loop-k-init c =
    let none = ap (λ (r : Ref). r.index) c.zero-lower.ensures in
    record {
      keeps = Keeps-refl c.args.t.now c.vars-vars.ensures.reduced;
      lower = omega (arith, none);
      strong = λ g Xs form counts all ranks. (nothing_means g (place c.args.layout.now) c.args.t.now c.zero-lower.result c.zero-lower.ensures, λ j h. absurd (omega (arith, h)));
    }

pub loop-k-preserved : goal.loop-k-preserved
loop-k-preserved c =
    let d : Ref = record { index = 0 } in
    let t0 = c.args.t.now in
    let t = c.loop-k.t in
    let u = c.rank_holds.new.t in
    let k = c.loop-k.k in
    let rs = c.args.ranks.now in
    let old = c.loop-k.invariant in
    let less : k < length rs = omega arith in
    let upper = slice_index_or rs k d in
    record {
      keeps = Keeps-trans t0 t u old.keeps c.rank_holds.ensures.keeps;
      lower = c.rank_holds.ensures.keeps.has upper (old.keeps.has upper (c.requires.ranks k d less));
      strong = λ g Xs form counts all ranks.
          let s = old.strong g Xs form counts all ranks in
          let at = Means-keeps t0 t old.keeps (over (place c.args.layout.now) (OfState g (rank Xs (suc k)))) upper (set_at g (place c.args.layout.now) t0 Xs rs ranks k d less) in
          let holds : IsTrue c.in_ok-rank_holds.field-0 ↔ IsTrue (rank_step g (rank Xs k) (rank Xs (suc k))) =
          c.in_ok-rank_holds.ensures.ok g (rank Xs k) (rank Xs (suc k)) form counts (all-keeps t0 t (base_at (place c.args.layout.now) g) c.args.roots.now old.keeps all) s.0 at in
          let now : IsStrong g Xs k = holds.0 c.if-not-branch.false in
          let one : suc k ≡ k + 1 = omega arith in (
            subst (λ n. Means u (over (place c.args.layout.now) (OfState g (rank Xs n))) upper) one (Means-keeps t u c.rank_holds.ensures.keeps (over (place c.args.layout.now) (OfState g (rank Xs (suc k)))) upper at),
            λ j h. elim (cases_lt j k) [
              | inl before ↦ s.1 j before
              | inr far ↦ let last : k ≡ j = omega (arith, far, h) in subst (λ n. IsStrong g Xs n) last now
            ],
          );
    }

pub returns-then-not-branch-clause-keeps : goal.returns-then-not-branch-clause-keeps
returns-then-not-branch-clause-keeps c = Keeps-trans _ _ _ c.loop-k.invariant.keeps c.rank_holds.ensures.keeps

pub returns-then-not-branch-clause-ok : goal.returns-then-not-branch-clause-ok
returns-then-not-branch-clause-ok c = λ g Xs form counts all ranks.
    let d : Ref = record { index = 0 } in
    let t0 = c.args.t.now in
    let t = c.loop-k.t in
    let k = c.loop-k.k in
    let rs = c.args.ranks.now in
    let old = c.loop-k.invariant in
    let less : k < length rs = omega arith in
    let upper = slice_index_or rs k d in
    let s = old.strong g Xs form counts all ranks in
    let at = Means-keeps t0 t old.keeps (over (place c.args.layout.now) (OfState g (rank Xs (suc k)))) upper (set_at g (place c.args.layout.now) t0 Xs rs ranks k d less) in
    let holds : IsTrue c.in_ok-rank_holds.field-0 ↔ IsTrue (rank_step g (rank Xs k) (rank Xs (suc k))) =
    c.in_ok-rank_holds.ensures.ok g (rank Xs k) (rank Xs (suc k)) form counts (all-keeps t0 t (base_at (place c.args.layout.now) g) c.args.roots.now old.keeps all) s.0 at in
    let len = sets_len g (place c.args.layout.now) t0 Xs rs ranks in
    (omega (arith, len, less), s.1, λ strong. true≢false (sym (holds.1 strong) ∙ c.if-not-branch.true))

pub returns-clause-ok : goal.returns-clause-ok
returns-clause-ok c = λ g Xs form counts all ranks k l.
    let s = c.loop-k.invariant.strong g Xs form counts all ranks in
    let len = sets_len g (place c.args.layout.now) c.args.t.now Xs c.args.ranks.now ranks in
    let far = c.loop-k-test.false in
    s.1 k (omega (arith, len, l, far))

pub returns-in_err-rank_holds-clause-keeps : goal.returns-in_err-rank_holds-clause-keeps
returns-in_err-rank_holds-clause-keeps c = Keeps-trans _ _ _ c.loop-k.invariant.keeps c.rank_holds.ensures.keeps

pub rank_holds-requires-clause-layout : goal.rank_holds-requires-clause-layout
rank_holds-requires-clause-layout c = subst (λ n. IsLayout n c.args.layout.now) (sym c.loop-k.invariant.keeps.vars) c.requires.layout
