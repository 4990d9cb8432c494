-- The laws of drawn blocks so far.
use Rattle.std.proofs.Common.{[], refl, sym, subst}
use Rattle.hp_tree.specs.Blocks.{block}
use Rattle.hp_tree.specs.Meaning.{node_among}
use Rattle.hp_meaning.specs.Contract.Memory.{remembers_block}
use Rattle.law_games.specs.Wires.WiredBlocks.{next_block}
use Rattle.law_games.specs.Wires.WiredCallees.{callee_wires}
use Rattle.law_games.specs.Wiretyped.Callees.{CalleeTyped, CalleeKept, CalleeGiven}
use Rattle.law_drawing.specs.Carrying.Calls.{supposes_on, owes_on}
use Rattle.law_drawing.specs.Carrying.Laws.{slots_of}
use Rattle.law_drawing.specs.Carrying.BlockLaws.{EnterLaw, ClockLaw, DefinitionLaw, CallDefinitionLaw}
use Rattle.hp_tree.specs.Instant.{Instance, part, top}
use Rattle.hp_tree.specs.Meaning as meaning
use Rattle.hp_meaning.specs.Causal.Points.{calls}
use Rattle.hp_drawing.specs.Places.{on_clock}
use Rattle.hp_tree.specs.Expressions.{call}
use Rattle.hp_drawing.specs.DrawnExpressions.{drawn, drawn_call}
use Rattle.hp_drawing.specs.DrawnBlocks as drawing
use Rattle.hp_drawing.specs.DrawnBlocks.{define_all, define_each}
use Rattle.law_drawing.specs.Carrying.Drawing.{IsDrawn}
use Rattle.law_drawing.proofs.CarryingLemmas.Steps.{both, ended}
use Rattle.law_drawing.proofs.CarryingLemmas.Stored.{ready-more, ready-on}
use Rattle.law_drawing.proofs.CarryingLemmas.Parts.{held-behind}
use Rattle.law_drawing.proofs.CarryingLemmas.ExpressionLaws.{expression}
use Rattle.law_drawing.proofs.CarryingLemmas.Expressions.{call-drawn}
use Rattle.law_drawing.proofs.CarryingLemmas.Definitions.{all-defined, each-defined, single-right}
use Rattle.law_drawing.proofs.CarryingLemmas.Enter.{enter-drawn}
use Rattle.law_drawing.proofs.CarryingLemmas.Paths.{entered-clocks}
use Rattle.law_drawing.proofs.CarryingLemmas.Clocks.{tells-fit, args-fit, clock-drawn}

pub entered : EnterLaw
entered F V ds es m now stay w place here cut kept s ns I r h =
    let C = callee_wires F.types F.earlier in
    let x = enter-drawn F.slot F.raw F.next F.given (supposes_on F.showing F.wires) (owes_on F.showing F.wires) F.types F.told (node_among F.earlier) V.names V.last V.drawn_scope place here cut kept
    V.scope V.has_last V.types ds es now w (remembers_block F.types C.remembers (block ds es) m.start []) m.memory stay (next_block F.types C (block ds es) V.names V.last m now) I.stored I.same
    (CalleeTyped F.types F.earlier) s ns I.numbered r I.shaped I.sound I.known I.typed I.apart I.lasts I.outer_lasts (λ x. refl) (λ x. refl) h in
    record { numbers = x.0; drawn_is = x.1; ready = x.2; shaped = x.3; paths = λ y. entered-clocks F.told V.drawn_scope place ds es s y }

pub clocked : ClockLaw
clocked F V ds ys e t s ns I =
    let x = clock-drawn F.slot F.next (supposes_on F.showing F.wires) (owes_on F.showing F.wires) F.types F.told V.scope I.numbered V.standing V.names I.named V.drawn_scope ds ys e s ns I.solved I.values I.paths (tells-fit V.scope e t I.type_is) I.right in
    record { numbers = x.0; drawn_is = x.1; clock_is = x.2 }

pub defined : DefinitionLaw
defined F V ds ys e t m now stay w place here cut kept s ns K S single I W a r h =
    let sup = supposes_on F.showing F.wires in
    let owe = owes_on F.showing F.wires in
    let z = V.drawn_scope in
    let ck = meaning.clock_of ds ys e in
    let c = clocked F V ds ys e t s ns I in
    let line = drawing.clock_of F.told z ds ys e s in
    let r1 = ready-more F.slot F.next sup owe F.types V.names V.last z place [] here cut kept s ns [] [] line.1 c.numbers c.drawn_is r in
    let place' = on_clock place line.0 in
    let r2 = ready-on F.slot F.types V.names V.last z place [] ck here cut kept line.1 c.numbers line.0 r1 c.clock_is in
    let ss = slots_of F V e w in
    let cs = calls e w in
    let x = expression F V e ck t m now stay w place' here cut kept line.1 c.numbers K S W r2 (held-behind F.slot F.next sup owe F.raw F.given s ns [] [] line.1 c.numbers ss c.drawn_is h) in
    let v = drawn F.told F.brings z place' e line.1 in
    let d1 = both F.slot F.next sup owe s ns [] [] line.1 c.numbers ss cs v.1 x.numbers c.drawn_is x.drawn_is in
    let r3 = ready-more F.slot F.next sup owe F.types V.names V.last z place [] here cut kept line.1 c.numbers ss cs v.1 x.numbers x.drawn_is r1 in
    let d2 = all-defined F.slot F.next sup owe z V.names ys (top now) v.0 v.1 x.numbers x.drawn_is.solved r3.values x.carried a in
    let d3 = ended F.slot F.next sup owe s ns ss cs v.1 x.numbers (define_all z ys v.0 v.1) x.numbers d1 d2 in
    record { numbers = x.numbers; drawn_is = subst (λ b. IsDrawn F.slot F.next sup owe s ns ss cs b x.numbers) (sym (single-right F.told F.brings z place' ys e line.1 single)) d3 }

pub call-defined : CallDefinitionLaw
call-defined F V ds ys at f inlined es n m now stay w place here cut kept s ns K S ps right I each r h =
    let sup = supposes_on F.showing F.wires in
    let owe = owes_on F.showing F.wires in
    let z = V.drawn_scope in
    let e = call at f inlined es in
    let ck = meaning.clock_of ds ys e in
    let c = clock-drawn F.slot F.next sup owe F.types F.told V.scope S.numbered V.standing V.names S.named z ds ys e s ns r.solved r.values ps (args-fit V.scope es n.inputs I.args) right in
    let line = drawing.clock_of F.told z ds ys e s in
    let r1 = ready-more F.slot F.next sup owe F.types V.names V.last z place [] here cut kept s ns [] [] line.1 c.0 c.1 r in
    let place' = on_clock place line.0 in
    let r2 = ready-on F.slot F.types V.names V.last z place [] ck here cut kept line.1 c.0 line.0 r1 c.2 in
    let ss = slots_of F V e w in
    let cs = calls e w in
    let x = call-drawn F.types (callee_wires F.types F.earlier) (node_among F.earlier) (CalleeTyped F.types F.earlier) (CalleeKept F.types F.earlier) (CalleeGiven F.types F.earlier) F.told F.brings F.outs F.callee F.slot F.raw F.next F.given F.wires F.showing K
    V.scope V.standing V.has_last V.names V.last S.numbered S.named V.types z S.shaped at f inlined es ck n m now stay w place' here cut kept I.on I.sound I.found I.args I.shape I.fits I.typed I.solves I.zeros I.given I.stored I.placed I.same
    line.1 c.0 r2 (held-behind F.slot F.next sup owe F.raw F.given s ns [] [] line.1 c.0 ss c.1 h) in
    let v = drawn_call F.told F.brings z place' f es line.1 in
    let d1 = both F.slot F.next sup owe s ns [] [] line.1 c.0 ss cs v.1 x.0 c.1 x.1 in
    let r3 = ready-more F.slot F.next sup owe F.types V.names V.last z place [] here cut kept line.1 c.0 ss cs v.1 x.0 x.1 r1 in
    let d2 = each-defined F.slot F.next sup owe z V.names ys n.outputs (part Instance now) v.0 0 v.1 x.0 x.1.solved r3.values x.2 each in
    record { numbers = x.0; drawn_is = ended F.slot F.next sup owe s ns ss cs v.1 x.0 (define_each z v.0 0 ys v.1) x.0 d1 d2 }
