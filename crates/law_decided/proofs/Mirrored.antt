-- The machine of a contract mirrors the node.
use Rattle.law_drawing.specs.Mirrors.Drawn.{DrawnMirrorsLaw}
use Rattle.law_games.proofs.ReadyGamesLemmas.Ordered.{text_order}
use Rattle.law_decided.specs.Mirrored.{MachinesLaw}
use Rattle.law_decided.proofs.Outcomes.{named}

pub mirrored : DrawnMirrorsLaw → MachinesLaw
mirrored law text tokens program after ranks a f n e m is =
    let order = text_order text tokens program after ranks a.spelled a.read a.named a.typed a.defined a.formed a.initialised a.clocks a.fall in
    let st = named after f n e in
    let d = is.drawn in
    record { earlier = st.0; stands = st.1; mirrors = law program after ranks order st.0 n st.1 d.0 m d.1.0 d.1.1 }
