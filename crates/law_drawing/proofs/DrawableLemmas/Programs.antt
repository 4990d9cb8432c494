-- Each node of a ready program can be drawn.
use Rattle.std.proofs.Common.{◌≡◌, ℕ, List, [], ◌∷◌, ◌++◌, reverse, refl, sym, subst, ◌∙◌}
use Rattle.std.specs.Prelude.{Some}
use Rattle.hp_tree.specs.declared.program.Item.{Item}
use Rattle.hp_tree.specs.declared.program.Item.TheVariants.{TypeItem, NodeItem}
use Rattle.hp_tree.specs.Programs.{TypeDecl, Node}
use Rattle.hp_tree.specs.Meaning.{types_of, node_among}
use Rattle.hp_base.specs.Known.Known.{lookup}
use Rattle.hp_names.specs.Scopes as names
use Rattle.law_judged.specs.Typed.Scopes.{Scope}
use Rattle.law_judged.proofs.TypedLemmas.ProgramLaws.{typed}
use Rattle.law_judged.specs.Named.Scoped.{NodeScoped, EachNode}
use Rattle.law_judged.proofs.NamedLemmas.Judged.{scoped}
use Rattle.hp_expand.specs.Shapes as shapes
use Rattle.hp_expand.specs.Numbering.{no_node, replaced}
use Rattle.law_judged.proofs.ReplacedLemmas.CallsFit.{calls_fit}
use Rattle.law_judged.proofs.ReplacedLemmas.Enough.{few_variables}
use Rattle.law_judged.proofs.ReplacedLemmas.Marks.{all_few_calls}
use Rattle.law_judged.proofs.ReplacedLemmas.JudgedReplaced.{all_can}
use Rattle.law_judged.proofs.ReplacedLemmas.ReplacedNodes.{none_ready}
use Rattle.law_judged.specs.Once.Once.{DefinedOnce}
use Rattle.law_judged.proofs.OnceLemmas.Clocks.{kept}
use Rattle.law_judged.proofs.OnceLemmas.ReplacedNodes.{judged_once}
use Rattle.law_values.specs.Valued.Judged.{NodeSound}
use Rattle.law_values.specs.Valued.Values.{scope_behind, Classing, class_behind, AreAccepted}
use Rattle.law_values.specs.Accepted.Laws.{IsReady}
use Rattle.law_values.specs.Accepted.Written.{AreClocked}
use Rattle.law_values.proofs.AcceptedLemmas.Views.{entry_cases}
use Rattle.law_automata.proofs.LowerableLemmas.Texts.{clocked_of, each_reverse}
use Rattle.law_automata.specs.Readied.Single.{NodeSingle}
use Rattle.law_automata.proofs.ReadiedLemmas.Whole.{ready_scoped, single_law}
use Rattle.law_values.specs.Filled.Firsts.{DeclsHaveFirsts, NodeHasFirsts}
use Rattle.law_wellmade.proofs.TimelyLemmas.DifferLaws.{so_far_none}
use Rattle.law_wellmade.proofs.TestedLemmas.JudgedAround.{no_variables}
use Rattle.law_games.proofs.ReadyGamesLemmas.Constructors.{HaveOwn, have_own, owns_constructors}
use Rattle.law_games.proofs.ReadyGamesLemmas.Settled.{same_types, firsts, class}
use Rattle.hp_drawing.specs.Told.{Told, told_of}
use Rattle.law_drawing.specs.Carrying.Typing.{AreNumbered}
use Rattle.law_drawing.specs.Carrying.Drawable.{NodeDrawable}
use Rattle.law_drawing.specs.Carrying.Nodes.{EarlierDrawable}
use Rattle.law_drawing.specs.Drawable.Laws.{DrawableLaw}
use Rattle.law_drawing.proofs.DrawableLemmas.Members.{Owned, OwnType, Rich}
use Rattle.law_drawing.proofs.DrawableLemmas.Settled.{node_drawable}
use Rattle.law_drawing.proofs.DrawableLemmas.Numbers.{numbered}
use Rattle.law_drawing.proofs.DrawableLemmas.Walk.{AllMade, all_made}

-- ---- items behind others

pub each_behind : (P : Node → Type 0) (later items : List Item) → EachNode P (later ++ items) → EachNode P items
each_behind P [] items u = u
each_behind P (TypeItem t ∷ later) items u = each_behind P later items u
each_behind P (NodeItem n ∷ later) items u = each_behind P later items u.1

made_behind : (types : List TypeDecl) (later items : List Item) → AllMade types (later ++ items) → AllMade types items
made_behind types [] items u = u
made_behind types (TypeItem t ∷ later) items u = made_behind types later items u
made_behind types (NodeItem n ∷ later) items u = made_behind types later items u.1

once_clocked : (xs ys : List Item) → AreClocked xs ys → EachNode DefinedOnce xs → EachNode DefinedOnce ys
once_clocked [] [] c p = tt
once_clocked (TypeItem t ∷ xs) (y ∷ ys) c p = subst (λ z. EachNode DefinedOnce (z ∷ ys)) (sym c.0) (once_clocked xs ys c.1 p)
once_clocked (NodeItem n ∷ xs) (y ∷ ys) c p = subst (λ z. EachNode DefinedOnce (z ∷ ys)) (sym c.0.1.1) (kept n c.0.0 p.0, once_clocked xs ys c.1 p.1)
once_clocked [] (y ∷ ys) c p = absurd c
once_clocked (TypeItem t ∷ xs) [] c p = absurd c
once_clocked (NodeItem n ∷ xs) [] c p = absurd c

-- ---- what is known behind items

outputs_first : (types : List TypeDecl) (items : List Item) → EachNode (NodeHasFirsts types) items → (f : List ℕ) (m : Node) → lookup (scope_behind items).nodes f ≡ Some m → DeclsHaveFirsts types m.outputs
outputs_first types [] k f m h = absurd (cc)
outputs_first types (TypeItem t ∷ earlier) k f m h = outputs_first types earlier k f m h
outputs_first types (NodeItem y ∷ earlier) k f m h =
    entry_cases (scope_behind earlier).nodes y.name y f m h (λ z. outputs_first types earlier k.1 f m z) (λ e w z. subst (λ (q : Node). DeclsHaveFirsts types q.outputs) w k.0.outputs)

rich_behind : (types : List TypeDecl) (items : List Item) → EachNode (NodeHasFirsts types) items → Rich types (scope_behind items)
rich_behind types items k = ((λ x t h. absurd (let q = sym (no_variables items x) ∙ h in cc)), outputs_first types items k)

-- ---- the nodes

all_drawable : (types : List TypeDecl) (told : Told) (classing : Classing) (items : List Item) → ((s : Scope) → Owned types s → AreNumbered types told s) → OwnType types → AreAccepted types classing items → AllMade types items → EachNode NodeScoped items → EachNode NodeSingle items → EachNode DefinedOnce items → EachNode (NodeHasFirsts types) items → EarlierDrawable types told items
all_drawable types told classing [] number own a made sc single once first = tt
all_drawable types told classing (TypeItem t ∷ items) number own a made sc single once first = all_drawable types told classing items number own a made sc single once first
all_drawable types told classing (NodeItem y ∷ items) number own a made sc single once first =
    let s = scope_behind items in
    let m = made.0.0 in
    let at = made.0.1.0 in
    let e = made.0.1.1.0 in
    let short = made.0.1.1.1.0 in
    let tidy = made.0.1.1.1.1.0 in
    let scoped_m = made.0.1.1.1.1.1.0 in
    let owned = made.0.1.1.1.1.1.1 in
    let nodes = node_among items in (
      (
        number s owned,
        subst (λ z. NodeDrawable s z) (sym e)
            (node_drawable types nodes s owned own (rich_behind types items first.1) (no_variables items) at m short tidy scoped_m (subst (λ z. NodeSound types nodes s z) e a.0.sound) (subst NodeScoped e sc.0) (subst NodeSingle e single.0) (subst DefinedOnce e once.0)
            (subst (NodeHasFirsts types) e first.0)),
      ),
      all_drawable types told (class_behind classing) items number own a.1 made.1 sc.1 single.1 once.1 first.1,
    )

-- ---- programs

pub ready_once : (program after : List Item) → IsReady program after → EachNode DefinedOnce after
ready_once program after r = once_clocked (replaced program) after (clocked_of (replaced program) after r.clocks) (judged_once program r.named r.typed r.defined r.limits r.merges r.names r.calls)

ready_made : (program after : List Item) → IsReady program after → AllMade (types_of program) (reverse after)
ready_made program after r =
    let has_types = typed program r.named r.typed r.merges in
    let can = all_can no_node program (scoped program r.named r.defined) r.names (calls_fit program r.named has_types) (all_few_calls no_node program r.calls) (few_variables program r.limits) in
    all_made (types_of program) [] names.nothing [] [] no_node shapes.nothing_known program after refl so_far_none refl r.named r.typed has_types (λ f. ((tt, tt), ((tt, tt), tt))) none_ready (λ f. refl) can r.shapes (clocked_of (replaced program) after r.clocks) tt

pub drawable : DrawableLaw
drawable program after ranks o earlier n st =
    let r = o.ready in
    let types = types_of after in
    let same : types ≡ types_of program = same_types program after ranks o earlier n st in
    let here = NodeItem n ∷ earlier in
    let cut : (P : Node → Type 0) → EachNode P after → EachNode P here = λ P u. each_behind P st.0 here (subst (EachNode P) st.1 (each_reverse P after u)) in
    let made : AllMade types here = made_behind types st.0 here (subst (AllMade types) st.1 (subst (λ z. AllMade z (reverse after)) (sym same) (ready_made program after r))) in
    let haves : HaveOwn types = subst HaveOwn (sym same) (have_own program names.nothing r.named) in
    let own : OwnType types = λ t c h. subst (λ z. OwnType z) (sym same) (λ u d k. owns_constructors program r.named u d k) t c h in
    let a = class program after ranks o earlier n st in
    let all =
    all_drawable types (told_of after) a.0 here (λ s owned. numbered after s haves owned) own a.1 made (cut NodeScoped (ready_scoped program after r)) (cut NodeSingle (single_law program after r)) (cut DefinedOnce (ready_once program after r)) (firsts program after ranks o earlier n st) in
    record { node = all.0.1; callable = all.1; numbered = all.0.0 }
