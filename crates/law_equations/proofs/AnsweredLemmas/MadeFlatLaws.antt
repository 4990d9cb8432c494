-- Equations that are made of a node of a program stand for its flat names.
use Rattle.std.proofs.Common.{◌≡◌, ℕ, List, [], ◌∷◌, ◌++◌, length, map, sym, ap, subst, ◌∙◌}
use Rattle.std.specs.Prelude.{⊤, reverse}
use Rattle.std.proofs.lemmas.List.{append_assoc, append-nil, length-map}
use Rattle.std.proofs.Math.Path.{fun_ext}
use Rattle.hp_tree.specs.declared.program.Item.{Item}
use Rattle.hp_tree.specs.declared.program.Item.TheVariants.{NodeItem}
use Rattle.hp_tree.specs.Blocks.{Decl, Block, block, Eqns, no_eqn, more_eqns, Eqn, define, switch, reset, automaton, Arms, no_arm, more_arms}
use Rattle.hp_tree.specs.Operators.{filled}
use Rattle.hp_base.specs.declared.value.Value.{Value}
use Rattle.hp_tree.specs.Programs.{Node}
use Rattle.hp_tree.specs.Instant.{Place}
use Rattle.hp_tree.specs.Meaning.{types_of, names_of, controls_of, nodes}
use Rattle.hp_meaning.specs.Causal.Runs.{NoControls}
use Rattle.hp_meaning.proofs.CausalLemmas.Run.{none_reverse}
use Rattle.hp_flat.specs.Nodes.{FlatNode}
use Rattle.law_equations.specs.Flattened.Flatten.{FlatName, Prefix, flatten}
use Rattle.law_equations.specs.Flattened.Timely.{Lowered, AllLowered, OneLowered, ArmsLowered}
use Rattle.law_equations.specs.Flattened.Lifted.{in_body}
use Rattle.law_equations.specs.Flattened.Numbered.{AreEquationsFor}
use Rattle.law_equations.specs.Made.Keeping.{NodeKeeps, IsKept}
use Rattle.law_equations.specs.Made.Making.{Known, outputs_of}
use Rattle.law_equations.specs.Made.Standing.{Knows}
use Rattle.law_equations.specs.Made.Blocks.{IsPlain, ArePlain, OnePlain, ArmsPlain}
use Rattle.law_equations.specs.Made.Laws.{names}
use Rattle.law_equations.proofs.MadeLemmas.MadeLaw.{stands-kept, any_kept}
use Rattle.law_equations.specs.Answered.Answering.{filled_nodes, AreApart, IsCalled}
use Rattle.law_equations.specs.Answered.Laws.{IsFlat, IsMade, MadeFlatLaw}
use Rattle.law_equations.proofs.AnsweredLemmas.AnswerLaws.{outputs_behind}
use Rattle.law_equations.proofs.AnsweredLemmas.NodeAnswerLaws.{block_so, uncontrolled_at, none_later}
use Rattle.law_equations.proofs.AnsweredLemmas.FlatCallLaws.{flatten_same}

-- a plain block has no automata
mutual
  lowered_block : (b : Block) → IsPlain b → Lowered b
  lowered_block (block ds es) h = lowered_eqns es h.2

  lowered_eqns : (es : Eqns) → ArePlain es → AllLowered es
  lowered_eqns no_eqn h = tt
  lowered_eqns (more_eqns e es) h = (lowered_eqn e h.1.0, lowered_eqns es h.1.1)

  lowered_eqn : (e : Eqn) → OnePlain e → OneLowered e
  lowered_eqn (define s ys e) h = tt
  lowered_eqn (switch s e arms) h = lowered_arms arms h
  lowered_eqn (reset s b e) h = lowered_block b h
  lowered_eqn (automaton s ss) h = absurd h

  lowered_arms : (arms : Arms) → ArmsPlain arms → ArmsLowered arms
  lowered_arms no_arm h = tt
  lowered_arms (more_arms c b s arms) h = (lowered_block b h.0, lowered_arms arms h.1)

counted : (k : Known) (outputs : List ℕ → List (List ℕ)) → ((f : List ℕ) → outputs f ≡ map (λ (d : Decl). d.name) (outputs_of (k.nodes f))) → (f : List ℕ) → length (outputs_of (k.nodes f)) ≡ length (outputs f)
counted k outputs calls f = sym (ap (λ (os : List (List ℕ)). length os) (calls f) ∙ length-map (outputs_of (k.nodes f)) (λ (d : Decl). d.name))

no_names : (ds : List Decl) → ds ≡ [] → names ds ≡ []
no_names ds e = ap names e

-- Where the remembered names of a node are of K, so are those that variables stand for.
pub made_flat_kept : (K : FlatName → Type 0) (program : List Item) (fills : List ℕ → Place → Value) (k : Known) → NoControls program → AreApart (reverse program) → Knows (types_of program) (filled_nodes program).outputs k
    → (later earlier : List Item) (n : Node) (flat : FlatNode) → IsMade program fills later earlier k n flat → NodeKeeps K (types_of program) (fills n.name) n
    → (means : ℕ → FlatName) × IsFlat program fills later earlier n means flat × ((x : ℕ) → IsKept K (means x))
made_flat_kept K program fills k none apart knows later earlier n flat is keeps =
    let types = types_of program in
    let whole = filled_nodes program in
    let before = nodes types filled earlier in
    let kept = stands-kept K types whole.outputs k (fills n.name) n flat knows is.ready keeps is.inputs is.outputs is.equations in
    let s = kept.0 in
    let split : reverse program ≡ (later ++ NodeItem n ∷ []) ++ earlier = is.stands ∙ sym (append_assoc later (NodeItem n ∷ []) earlier) in
    let called = λ (f : List ℕ) (here : Prefix) (c : IsCalled earlier fills (fills n.name) f here).
    ap (λ (xs : List Item). (nodes types filled xs).outputs f) split
    ∙ outputs_behind types filled (later ++ NodeItem n ∷ []) earlier f (none_later (later ++ NodeItem n ∷ []) earlier f (subst AreApart split apart) c.declared) in
    let same : flatten types whole.outputs (fills n.name) n ≡ flatten types before.outputs (fills n.name) n =
    fun_ext (flatten_same types whole.outputs before.outputs (fills n.name) n (block_so (IsCalled earlier fills (fills n.name)) (λ f here. whole.outputs f ≡ before.outputs f) called n.body in_body is.calls)) in
    let controls = uncontrolled_at later earlier n (subst NoControls is.stands (none_reverse program none)) in
    let inputs : names n.inputs ++ names (controls_of n.contract) ≡ names_of n.inputs = ap (λ (xs : List (List ℕ)). names n.inputs ++ xs) (no_names (controls_of n.contract) controls) ∙ append-nil (names n.inputs) in
    let counts : (λ g. length (outputs_of (k.nodes g))) ≡ (λ f. length (whole.outputs f)) = fun_ext (counted k whole.outputs knows.calls) in (
      s.means,
      record {
        stands = is.stands;
        lowered = lowered_block n.body is.ready.plain;
        calls = is.calls;
        inputs_differ = is.ready.inputs;
        equations =
            subst (λ c. AreEquationsFor s.means (flatten types before.outputs (fills n.name) n) (names_of n.inputs) c flat) counts
            (subst (λ xs. AreEquationsFor s.means (flatten types before.outputs (fills n.name) n) xs (λ g. length (outputs_of (k.nodes g))) flat) inputs
            (subst (λ F. AreEquationsFor s.means F (names n.inputs ++ names (controls_of n.contract)) (λ g. length (outputs_of (k.nodes g))) flat) same s.equations));
        outputs = s.outputs_are;
      },
      kept.1,
    )

pub made_flat : MadeFlatLaw
made_flat program fills k none apart knows later earlier n flat is =
    let any = made_flat_kept (λ a. ⊤) program fills k none apart knows later earlier n flat is (any_kept (types_of program) (fills n.name) n) in
    (any.0, any.1)
