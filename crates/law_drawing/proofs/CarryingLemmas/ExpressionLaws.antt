-- The law of drawn expressions, and that nothing is asked where nothing is called.
use Rattle.std.proofs.Common.{◌≡◌, ℕ, List, [], ◌∷◌, Some}
use Rattle.hp_tree.specs.declared.program.Item.{Item}
use Rattle.hp_tree.specs.Meaning.{node_among}
use Rattle.hp_tree.specs.Programs.{Node}
use Rattle.law_games.specs.Wires.WiredCallees.{callee_wires}
use Rattle.law_games.specs.Wiretyped.Callees.{CalleeTyped, CalleeKept, CalleeGiven}
use Rattle.law_drawing.specs.Carrying.Laws.{ExpressionLaw, NoCallsLaw}
use Rattle.law_drawing.proofs.CarryingLemmas.Expressions.{expr-drawn}

pub expression : ExpressionLaw
expression F V e clock t m now stay w place here cut kept s ns K S I r h =
    let x = expr-drawn F.types (callee_wires F.types F.earlier) (node_among F.earlier) (CalleeTyped F.types F.earlier) (CalleeKept F.types F.earlier) (CalleeGiven F.types F.earlier) F.told F.brings F.outs F.callee F.slot F.raw F.next F.given F.wires F.showing K
    V.scope V.standing V.has_last V.names V.last S.numbered S.named V.types V.drawn_scope S.shaped e clock t m now stay w place here cut kept I.on I.sound I.type_is I.shape I.fits I.typed I.solves I.zeros I.given I.stored I.placed I.same s ns r h in
    record { numbers = x.0; drawn_is = x.1; carried = x.2.0; mark = x.2.1 }

none-among : (items : List Item) (f : List ℕ) (n : Node) → items ≡ [] → node_among items f ≡ Some n → ⊥
none-among [] f n e h = cc
none-among (i ∷ items) f n e h = cc

pub no-calls : NoCallsLaw
no-calls F e = record {
  known = λ f n h. absurd (none-among F.earlier f n e h);
  names = λ f n h. absurd (none-among F.earlier f n e h);
  there = λ f n ins m now h. absurd (none-among F.earlier f n e h);
  begins = λ f n c ins m now stays w place names clock here cut kept s ns h. absurd (none-among F.earlier f n e h);
}
