use Rattle.std.proofs.Common.{Bool, List, length, slice_index_or, sym, ap, subst, ◌∙◌}
use Rattle.hp_boolx.specs.Machine.{game}
use Rattle.hp_diagram.specs.Diagrams.{Diagrams}
use Rattle.hp_synth.specs.Layouts.{place, IsLayout}
use Rattle.hp_synth.specs.Sought.{base_at}
use Rattle.hp_synth.proofs.SoughtLaws.{all-keeps}
use Rattle.hp_cert.specs.Marks.{AreClosed}
use Rattle.hp_cert.specs.Steps.{AreOfMarked}
use Rattle.hp_cert.proofs.FunctionLaws.{reference_means}
use Rattle.hp_cert.proofs.conditions.build.Goals as goal

pub functions-requires-clause-closed : goal.functions-requires-clause-closed
functions-requires-clause-closed c = let P : List Bool → Type 0 = λ ms. AreClosed c.args.lines.now ms 0 in subst P (sym c.deref.ensures.value) c.in_ok-marks.ensures.closed

pub prepare-requires-clause-layout : goal.prepare-requires-clause-layout
prepare-requires-clause-layout c = subst (λ n. IsLayout n c.in_ok-layout.layout) (sym (ap (λ (d : Diagrams). d.vars) c.in_ok-table.ensures ∙ c.vars.ensures.vars)) c.in_ok-layout.ensures.layout

pub functions-requires-clause-layout : goal.functions-requires-clause-layout
functions-requires-clause-layout c = subst (λ n. IsLayout n c.in_ok-layout.layout) (sym (c.prepare.ensures.keeps.vars ∙ ap (λ (d : Diagrams). d.vars) c.in_ok-table.ensures ∙ c.vars.ensures.vars)) c.in_ok-layout.ensures.layout

pub returns : goal.returns
returns c =
    let t = c.prepare.new.t in
    let u = c.functions.new.t in
    let lines = c.args.lines.now in
    let layout = c.in_ok-layout.layout in
    let at_places = place layout in
    let ms = c.in_ok-marks.marks.items in
    let refs = c.in_ok-lines.lines.items in
    let are : AreOfMarked at_places u lines ms refs (length lines) = subst (λ (ns : List Bool). AreOfMarked at_places u lines ns refs (length lines)) c.deref.ensures.value c.in_ok-lines.ensures.ok in
    let vars = c.functions.ensures.keeps.vars ∙ c.prepare.ensures.keeps.vars ∙ ap (λ (d : Diagrams). d.vars) c.in_ok-table.ensures ∙ c.vars.ensures.vars in
    record {
      placed = subst (λ n. IsLayout n layout) (sym vars) c.in_ok-layout.ensures.layout;
      counts = c.in_ok-layout.ensures.counts;
      vars = vars;
      reduced = c.functions.ensures.keeps.reduced;
      roots_mean = all-keeps t u (base_at at_places (game c.args.m.now)) c.in_ok-roots.roots.items c.functions.ensures.keeps c.in_ok-roots.ensures.ok;
      len = are.len;
      functions = λ k l. reference_means at_places u lines ms refs (length lines) are (slice_index_or c.args.numbers.now k 0) (c.requires.numbers k 0 l).0 (c.in_ok-marks.ensures.sound.begun k 0 l);
    }
