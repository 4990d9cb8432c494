-- The clocked equations that are made of a node of a program stand for its flat names; its controllable variables are inputs of these.
use Rattle.std.proofs.Common.{◌≡◌, ℕ, List, [], ◌∷◌, ◌++◌, length, map, sym, ap, subst, ◌∙◌}
use Rattle.std.specs.Prelude.{reverse}
use Rattle.std.proofs.lemmas.List.{append_assoc, length-map}
use Rattle.std.proofs.Math.Path.{fun_ext}
use Rattle.hp_base.specs.declared.value.Value.{Value}
use Rattle.hp_tree.specs.declared.program.Item.{Item}
use Rattle.hp_tree.specs.declared.program.Item.TheVariants.{NodeItem}
use Rattle.hp_tree.specs.Blocks.{Decl, Block, block, Eqns, no_eqn, more_eqns, Eqn, define, switch, reset, automaton, Arms, no_arm, more_arms}
use Rattle.hp_tree.specs.Programs.{Node}
use Rattle.hp_tree.specs.Operators.{filled}
use Rattle.hp_tree.specs.Instant.{Place}
use Rattle.hp_tree.specs.Meaning.{types_of, names_of, controls_of}
use Rattle.hp_flat.specs.Nodes.{FlatNode}
use Rattle.law_equations.specs.Flattened.Flatten.{FlatName, Prefix, flatten}
use Rattle.law_equations.specs.Flattened.Timely.{Lowered, AllLowered, OneLowered, ArmsLowered}
use Rattle.law_equations.specs.Flattened.Lifted.{in_body}
use Rattle.law_equations.specs.Flattened.Behaves.{EachCallIn}
use Rattle.law_equations.specs.Flattened.Numbered.{AreEquationsFor}
use Rattle.law_equations.specs.Made.Keeping.{NodeKeeps, IsKept}
use Rattle.law_equations.specs.Made.Labels.{AreMadeAt, block_labels, events}
use Rattle.law_equations.specs.Made.Making.{Known, outputs_of}
use Rattle.law_equations.specs.Made.Standing.{Knows}
use Rattle.law_equations.specs.Made.Blocks.{DeclaredOnce, IsPlain, ArePlain, OnePlain, ArmsPlain}
use Rattle.law_equations.specs.Made.Laws.{body_name}
use Rattle.law_equations.specs.Answered.Answering.{filled_nodes, AreApart, IsCalled}
use Rattle.law_equations.specs.Answered.Laws.{IsMade}
use Rattle.law_equations.proofs.AnsweredLemmas.NodeAnswerLaws.{block_so, none_later}
use Rattle.law_equations.proofs.AnsweredLemmas.FlatCallLaws.{flatten_same}
use Rattle.law_choices.specs.Choosing.Choices.{Choices}
use Rattle.law_choices.specs.Runs.Chosen.{chosen_nodes}
use Rattle.law_choices.proofs.RunsLemmas.Chosen.{outputs_alike}
use Rattle.law_equations.proofs.MadeLemmas.MadeLaw.{NamesStand, stands-placed}
use Rattle.law_choices.specs.Flat.Answering.{chosen_filled}
use Rattle.law_choices.specs.Flat.Places.{AreAlone}
use Rattle.law_choices.proofs.FlatLemmas.Alone.{events-alone}
use Rattle.law_choices.proofs.FlatLemmas.Behave.{outputs_behind}

-- A node of a program without automata, and clocked equations that stand for its flat names, with its controllable variables behind its inputs.
pub record StandsFlat (choices : Choices) (program : List Item) (fills : List ℕ → Place → Value) (later earlier : List Item) (n : Node) (means : ℕ → FlatName) (flat : FlatNode) : Type 0 where
  pub stands : reverse program ≡ later ++ NodeItem n ∷ earlier
  pub lowered : Lowered n.body
  pub calls : EachCallIn (IsCalled earlier fills (fills n.name)) n.body in_body
  pub inputs_differ : DeclaredOnce n.inputs
  pub controls_differ : DeclaredOnce (controls_of n.contract)
  pub equations :
      AreEquationsFor means (flatten (types_of program) (chosen_nodes choices (types_of program) filled earlier).outputs (fills n.name) n) (names_of n.inputs ++ names_of (controls_of n.contract))
      (λ f. length ((chosen_filled choices program).outputs f)) flat
  pub outputs : map means flat.outputs ≡ map body_name (names_of n.outputs)

-- a plain block has no automata
mutual
  lowered_block : (b : Block) → IsPlain b → Lowered b
  lowered_block (block ds es) h = lowered_eqns es h.2

  lowered_eqns : (es : Eqns) → ArePlain es → AllLowered es
  lowered_eqns no_eqn h = tt
  lowered_eqns (more_eqns e es) h = (lowered_eqn e h.1.0, lowered_eqns es h.1.1)

  lowered_eqn : (e : Eqn) → OnePlain e → OneLowered e
  lowered_eqn (define s ys e) h = tt
  lowered_eqn (switch s e arms) h = lowered_arms arms h
  lowered_eqn (reset s b e) h = lowered_block b h
  lowered_eqn (automaton s ss) h = absurd h

  lowered_arms : (arms : Arms) → ArmsPlain arms → ArmsLowered arms
  lowered_arms no_arm h = tt
  lowered_arms (more_arms c b s arms) h = (lowered_block b h.0, lowered_arms arms h.1)

-- Where the remembered names of a node are of K, so are those that variables stand for. The variables of the names of the body stand for these, and those of what compares or calls for the places of that; this alone defines them.
pub stands_flat : (K : FlatName → Type 0) (choices : Choices) (program : List Item) (fills : List ℕ → Place → Value) (k : Known) → AreApart (reverse program) → Knows (types_of program) (filled_nodes program).outputs k
    → (later earlier : List Item) (n : Node) (flat : FlatNode) → IsMade program fills later earlier k n flat → NodeKeeps K (types_of program) (fills n.name) n
    → (means : ℕ → FlatName) × StandsFlat choices program fills later earlier n means flat × ((x : ℕ) → IsKept K (means x)) × NamesStand k n n.body means
    × AreMadeAt means (events flat.eqns) (block_labels (filled_nodes program).outputs n.body in_body []) × AreAlone flat
stands_flat K choices program fills k apart knows later earlier n flat is keeps =
    let types = types_of program in
    let whole = filled_nodes program in
    let chosen = chosen_filled choices program in
    let before = chosen_nodes choices types filled earlier in
    let kept = stands-placed K types whole.outputs k (fills n.name) n flat knows is.ready keeps is.inputs is.outputs is.equations in
    let s = kept.0 in
    let split : reverse program ≡ (later ++ NodeItem n ∷ []) ++ earlier = is.stands ∙ sym (append_assoc later (NodeItem n ∷ []) earlier) in
    let alike : (f : List ℕ) → whole.outputs f ≡ chosen.outputs f = λ f. sym (outputs_alike choices types filled (reverse program) f) in
    let called = λ (f : List ℕ) (here : Prefix) (c : IsCalled earlier fills (fills n.name) f here).
    alike f
    ∙ ap (λ (xs : List Item). (chosen_nodes choices types filled xs).outputs f) split
    ∙ outputs_behind choices types filled (later ++ NodeItem n ∷ []) earlier f (none_later (later ++ NodeItem n ∷ []) earlier f (subst AreApart split apart) c.declared) in
    let same : flatten types whole.outputs (fills n.name) n ≡ flatten types before.outputs (fills n.name) n =
    fun_ext (flatten_same types whole.outputs before.outputs (fills n.name) n (block_so (IsCalled earlier fills (fills n.name)) (λ f here. whole.outputs f ≡ before.outputs f) called n.body in_body is.calls)) in
    let counts : (λ g. length (outputs_of (k.nodes g))) ≡ (λ f. length (chosen.outputs f)) =
    fun_ext (λ f. sym (ap (λ (os : List (List ℕ)). length os) (knows.calls f) ∙ length-map (outputs_of (k.nodes f)) (λ (d : Decl). d.name)) ∙ ap (λ (os : List (List ℕ)). length os) (alike f)) in (
      s.means,
      record {
        stands = is.stands;
        lowered = lowered_block n.body is.ready.plain;
        calls = is.calls;
        inputs_differ = is.ready.inputs;
        controls_differ = is.ready.controls;
        equations =
            subst (λ c. AreEquationsFor s.means (flatten types before.outputs (fills n.name) n) (names_of n.inputs ++ names_of (controls_of n.contract)) c flat) counts
            (subst (λ F. AreEquationsFor s.means F (names_of n.inputs ++ names_of (controls_of n.contract)) (λ g. length (outputs_of (k.nodes g))) flat) same s.equations);
        outputs = s.outputs_are;
      },
      kept.1,
      kept.2,
      kept.3,
      events-alone types whole.outputs (fills n.name) n s.means (names_of n.inputs ++ names_of (controls_of n.contract)) (λ g. length (outputs_of (k.nodes g))) flat s.equations kept.3,
    )
