-- Where tests fit in a ready program, they are typed in the program without its automata.
use Rattle.std.proofs.Common.{◌≡◌, ℕ, List, [], ◌∷◌, map, reverse, refl, sym, ap, ◌∙◌, subst}
use Rattle.std.specs.Prelude.{⊤, Bool, true, false, if◌then◌else◌, Option, None, Some}
use Rattle.std.specs.Str.{bytes_eq}
use Rattle.hp_base.specs.declared.ty.Const.{Const}
use Rattle.hp_base.specs.declared.ty.Const.TheVariants as const
use Rattle.hp_tree.specs.declared.program.Item.{Item}
use Rattle.hp_tree.specs.declared.program.Item.TheVariants.{TypeItem, NodeItem}
use Rattle.hp_tree.specs.Blocks.{Decl}
use Rattle.hp_tree.specs.Programs.{TypeDecl, Node}
use Rattle.hp_tree.specs.Meaning.{types_of, node_among}
use Rattle.hp_base.specs.Known.Known.{lookup, with_entry}
use Rattle.hp_typing.specs.Scopes.{with_type, with_constructors}
use Rattle.hp_typing.specs.Types.{enum_of}
use Rattle.law_judged.proofs.TypedLemmas.ProgramLaws.{typed}
use Rattle.law_judged.specs.Named.Scopes.{Scope}
use Rattle.law_judged.specs.Named.Scoped.{NodeScoped, EachNode}
use Rattle.law_judged.proofs.NamedLemmas.Judged.{scoped}
use Rattle.hp_expand.specs.Numbering.{no_node, with_node, replaced_node, replaced_items, replaced}
use Rattle.law_judged.specs.Replaced.Fitting.{NodeNames}
use Rattle.law_judged.proofs.ReplacedLemmas.CallsFit.{calls_fit}
use Rattle.law_judged.proofs.ReplacedLemmas.Enough.{few_variables}
use Rattle.law_judged.proofs.ReplacedLemmas.Marks.{all_few_calls}
use Rattle.law_judged.proofs.ReplacedLemmas.JudgedReplaced.{all_can}
use Rattle.law_values.specs.Valued.Judged.{ConstantIs, NodeSound}
use Rattle.law_values.specs.Valued.Values.{scope_behind, Classing, class_behind, AreAccepted}
use Rattle.law_values.specs.Accepted.Laws.{IsReady}
use Rattle.law_values.specs.Accepted.Written.{AreClocked}
use Rattle.law_values.proofs.AcceptedLemmas.Views.{constant_is}
use Rattle.law_values.proofs.AcceptedLemmas.SoundNodes.{node_more, AllSound, judged_sound}
use Rattle.law_values.proofs.AcceptedLemmas.ClocksKept.{SameDecls}
use Rattle.law_values.proofs.AcceptedLemmas.Swaps.{NodesAlike}
use Rattle.law_values.proofs.AcceptedLemmas.Assembled.{types_replaced, types_clocked}
use Rattle.law_values.proofs.AcceptedLemmas.Laws.{accepted}
use Rattle.hp_automata.specs.Lowering.{Enumerations, enumerations, lowered_node, lowered_item}
use Rattle.law_automata.specs.Lowered.OldNames.{IsOld}
use Rattle.law_automata.specs.Lowered.Removable.{NodeOk}
use Rattle.law_automata.proofs.LowerableLemmas.OldNodes.{program_old, old_clocked}
use Rattle.law_automata.proofs.LowerableLemmas.Texts.{clocked_of, each_reverse, onto}
use Rattle.law_automata.specs.Readied.Sound.{SoundBehind, ConstantsBehind}
use Rattle.law_automata.proofs.ReadiedLemmas.HasConstants.{ready_constants_law}
use Rattle.law_automata.proofs.ReadiedLemmas.Whole.{ready_scoped}
use Rattle.std.proofs.Common.{◌++◌, ⊎_elim}
use Rattle.hp_typing.specs.Scopes.{with_variables, inside_node}
use Rattle.hp_names.specs.Scopes as names
use Rattle.hp_names.specs.Rules.{ItemsAreNamed}
use Rattle.law_judged.specs.Named.Scopes.{NameScope}
use Rattle.law_judged.specs.Named.Scoped.{no_names, also}
use Rattle.law_judged.proofs.NamedLemmas.Sets.{or_cases}
use Rattle.hp_tree.specs.Programs.{Contract}
use Rattle.hp_tree.specs.Meaning.{declares, controls_of}
use Rattle.std.specs.Prelude.{option_map}
use Rattle.law_values.specs.Valued.Judged.{no_lasts, lasts_in, body_scope}
use Rattle.law_values.proofs.AcceptedLemmas.Keeps.{Grows}
use Rattle.hp_automata.specs.Lowering.{Types, types_of as name_types, lowered_contract, lowered_body_of}
use Rattle.law_automata.proofs.LoweredLemmas.Nodes.{itself_renames}
use Rattle.law_automata.specs.Readied.Constants.{HasConstant, NodeTypes}
use Rattle.law_automata.specs.Readied.Sound.{AroundOld, IsGround}
use Rattle.law_automata.proofs.ReadiedLemmas.SoundNodes.{place}
use Rattle.law_automata.proofs.ReadiedLemmas.SoundPrograms.{low_onto, each_ok, ready_sound_law}
use Rattle.law_wellmade.specs.Timely.Tested.{NodeTested, AreTested}
use Rattle.law_wellmade.proofs.TimelyLemmas.DifferLaws.{Grounds, grounds_more, SoFar, so_far_none, so_far_type, so_far_node, append_more, grounds_of}
use Rattle.law_wellmade.specs.Tested.Fits.{BlockFits, NodeFits, FitBehind}
use Rattle.law_wellmade.specs.Tested.Laws.{FittedLaw}
use Rattle.law_wellmade.proofs.TestedLemmas.Fitted.{block_tested}
use Rattle.law_wellmade.proofs.TestedLemmas.LoweredFits.{block_fits}
use Rattle.law_wellmade.proofs.TestedLemmas.SwappedFits.{node_to}

-- ---- items of one shape: the same types, and nodes of the same names

abbrev SameShape : List Item → List Item → Type 0
SameShape [] [] = ⊤
SameShape (TypeItem t ∷ xs) (TypeItem u ∷ ys) = (u ≡ t) × SameShape xs ys
SameShape (NodeItem n ∷ xs) (NodeItem m ∷ ys) = (m.name ≡ n.name) × SameShape xs ys
SameShape xs ys = ⊥

shape_replaced : (nodes : List ℕ → Node) (items : List Item) → SameShape items (replaced_items nodes items)
shape_replaced nodes [] = tt
shape_replaced nodes (TypeItem t ∷ items) = (refl, shape_replaced nodes items)
shape_replaced nodes (NodeItem n ∷ items) = (refl, shape_replaced (with_node nodes (replaced_node nodes n)) items)

shape_clocked : (xs ys zs : List Item) → SameShape xs ys → AreClocked ys zs → SameShape xs zs
shape_clocked [] [] [] s c = tt
shape_clocked (TypeItem t ∷ xs) (TypeItem u ∷ ys) (z ∷ zs) s c = subst (λ w. SameShape (TypeItem t ∷ xs) (w ∷ zs)) (sym c.0) (s.0, shape_clocked xs ys zs s.1 c.1)
shape_clocked (NodeItem n ∷ xs) (NodeItem m ∷ ys) (z ∷ zs) s c = subst (λ w. SameShape (NodeItem n ∷ xs) (w ∷ zs)) (sym c.0.1.1) (s.0, shape_clocked xs ys zs s.1 c.1)
shape_clocked [] [] (z ∷ zs) s c = absurd c
shape_clocked [] (y ∷ ys) zs s c = absurd s
shape_clocked (TypeItem t ∷ xs) [] zs s c = absurd s
shape_clocked (NodeItem n ∷ xs) [] zs s c = absurd s
shape_clocked (TypeItem t ∷ xs) (NodeItem m ∷ ys) zs s c = absurd s
shape_clocked (NodeItem n ∷ xs) (TypeItem u ∷ ys) zs s c = absurd s
shape_clocked (TypeItem t ∷ xs) (TypeItem u ∷ ys) [] s c = absurd c
shape_clocked (NodeItem n ∷ xs) (NodeItem m ∷ ys) [] s c = absurd c

-- ---- what is known where the nodes stand

no_variables : (done : List Item) (x : List ℕ) → lookup (scope_behind done).variables x ≡ None
no_variables [] x = refl
no_variables (TypeItem t ∷ done) x = no_variables done x
no_variables (NodeItem n ∷ done) x = no_variables done x

constant_there : (types : List TypeDecl) (s r : Scope) → r.constructors ≡ s.constructors → (c : Const) → ConstantIs types s c → ConstantIs types r c
constant_there types s r e (const.B b) f = f
constant_there types s r e (const.I n) f = f
constant_there types s r e (const.E c) f = λ t h. f t (ap (λ z. enum_of (lookup z c)) (sym e) ∙ h)

record Alongside (done there : List Item) : Type 0 where
  conses : (scope_behind there).constructors ≡ (scope_behind done).constructors
  kinds : (scope_behind there).types ≡ (scope_behind done).types
  none : (f : List ℕ) → node_among done f ≡ None → node_among there f ≡ None

along_node : (done there : List Item) (n m : Node) → m.name ≡ n.name → Alongside done there → Alongside (NodeItem n ∷ done) (NodeItem m ∷ there)
along_node done there n m e a = record { conses = a.conses; kinds = a.kinds; none = λ f h. subst (λ z. (if bytes_eq z f then Some m else node_among there f) ≡ None) (sym e) (by f (bytes_eq n.name f) h) }
  where
    by : (f : List ℕ) (b : Bool) → (if b then Some n else node_among done f) ≡ None → (if b then Some m else node_among there f) ≡ None
    by f true h = absurd cc
    by f false h = a.none f h

abbrev type_behind : Scope → TypeDecl → List (List ℕ × TypeDecl)
type_behind s t = with_entry s.types t.name t

along_type : (done there : List Item) (t u : TypeDecl) → u ≡ t → Alongside done there → Alongside (TypeItem t ∷ done) (TypeItem u ∷ there)
along_type done there t u e a =
    record {
      conses = ap (λ z. with_constructors (scope_behind there).constructors z.name z.cons) e ∙ ap (λ z. with_constructors z t.name t.cons) a.conses;
      kinds = ap (λ (z : TypeDecl). with_entry (scope_behind there).types z.name z) e ∙ ap (λ z. with_entry z t.name t) a.kinds;
      none = a.none;
    }

pub grounds_there : (types : List TypeDecl) (s r : Scope) → r.constructors ≡ s.constructors → r.types ≡ s.types → Grounds types s → Grounds types r
grounds_there types s r e k g = record { known = λ c u h. let q = g.known c u (ap (λ z. lookup z c) (sym e) ∙ h) in (q.0, ap (λ z. lookup z u) k ∙ q.1, q.2, q.3) }

abbrev pub Ground : List TypeDecl → List Item → Node → Type 0
Ground types earlier n = ((c : Const) → ConstantIs types (scope_behind earlier) c) × ((node_among earlier n.name ≡ None) × Grounds types (scope_behind earlier))

abbrev pub GroundBehind : List TypeDecl → List Item → Type 0
GroundBehind types [] = ⊤
GroundBehind types (TypeItem t ∷ earlier) = GroundBehind types earlier
GroundBehind types (NodeItem n ∷ earlier) = Ground types earlier n × GroundBehind types earlier

ground : (types before : List TypeDecl) (s : NameScope) (done there xs ys : List Item) → types ≡ before ++ types_of xs → SoFar before s (scope_behind done) → ItemsAreNamed s xs → Alongside done there → AllSound types done xs → SameShape xs ys → GroundBehind types there → GroundBehind types (onto ys there)
ground types before n done there [] [] split p k a h s g = g
ground types before n done there (TypeItem t ∷ xs) (TypeItem u ∷ ys) split p k a h s g =
    ground types (before ++ t ∷ []) (names.behind n (TypeItem t)) (TypeItem t ∷ done) (TypeItem u ∷ there) xs ys (split ∙ sym (append_more before t (types_of xs))) (so_far_type before n (scope_behind done) t p k.0.0) k.1 (along_type done there t u s.0 a) h s.1 g
ground types before n done there (NodeItem x ∷ xs) (NodeItem m ∷ ys) split p k a h s g =
    ground types before (names.behind n (NodeItem x)) (NodeItem x ∷ done) (NodeItem m ∷ there) xs ys split (so_far_node before n (scope_behind done) x p) k.1 (along_node done there x m s.0 a) h.1 s.1 (
      (
        (λ c. constant_there types (scope_behind done) (scope_behind there) a.conses c (constant_is types (node_among done) (scope_behind done) h.0.0 c)),
        (
          a.none m.name (subst (λ z. node_among done z ≡ None) (sym s.0) (sym (h.0.0.known_nodes x.name) ∙ h.0.1.0)),
          grounds_there types (scope_behind done) (scope_behind there) a.conses a.kinds (subst (λ (ts : List TypeDecl). Grounds ts (scope_behind done)) (sym split) (grounds_of before (types_of xs) n (scope_behind done) p)),
        ),
      ),
      g,
    )
ground types before n done there [] (y ∷ ys) split p k a h s g = absurd s
ground types before n done there (TypeItem t ∷ xs) [] split p k a h s g = absurd s
ground types before n done there (NodeItem x ∷ xs) [] split p k a h s g = absurd s
ground types before n done there (TypeItem t ∷ xs) (NodeItem m ∷ ys) split p k a h s g = absurd s
ground types before n done there (NodeItem x ∷ xs) (TypeItem u ∷ ys) split p k a h s g = absurd s

-- ---- a node without automata

controls_same : (enums : Enumerations) (tys : Types) (o : Option Contract) → controls_of (option_map (lowered_contract enums tys) o) ≡ controls_of o
controls_same enums tys None = refl
controls_same enums tys (Some c) = refl

pub node_fits : (types : List TypeDecl) (among : List ℕ → Option Node) (enums : Enumerations) (s : Scope) (n : Node) → IsGround types among s → ((x : List ℕ) → lookup s.variables x ≡ None) → NodeTypes (HasConstant enums s) n → AroundOld n → NodeScoped n → NodeOk n → NodeSound types among s n
    → NodeFits types s n → NodeFits types s (lowered_node enums n)
node_fits types among enums s n g e t old sc ok h fits =
    let cs = controls_of n.contract in
    let lasts = lasts_in n.outputs no_lasts in
    let p = place types among enums s n g e sc.once t.0 cs (also no_names n.outputs) (λ x q. ⊎_elim (λ w. w) (λ w. absurd (cc w)) (or_cases (declares n.outputs x) false q)) lasts old h.1.0.0 h.1.0.1 h.1.1.0 in
    subst (λ z. BlockFits types (with_variables (inside_node s n) z) (lowered_body_of enums (name_types n) n.span n.body)) (sym (controls_same enums (name_types n) n.contract))
    (block_fits types among enums s itself_renames p n.span [] n.body ok.body sc.body t.1.1 h.1.1.1.1.0 (λ x q. absurd cc) (λ x q. absurd cc) fits)

-- ---- without automata

same_decls : (ds : List Decl) → SameDecls ds ds
same_decls [] = tt
same_decls (d ∷ ds) = ((refl, (refl, refl)), same_decls ds)

module _ (types : List TypeDecl) (enums : Enumerations) where
  abbrev low : List Item → List Item
  low items = map (lowered_item enums) items

  record Behind (earlier : List Item) : Type 0 where
    same : scope_behind (low earlier) ≡ record (scope_behind earlier) { nodes = (scope_behind (low earlier)).nodes }
    alike : (f : List ℕ) → NodesAlike (node_among earlier f) (node_among (low earlier) f)
    known : (f : List ℕ) → lookup (scope_behind earlier).nodes f ≡ node_among earlier f
    known_low : (f : List ℕ) → lookup (scope_behind (low earlier)).nodes f ≡ node_among (low earlier) f

  abbrev scope_with : Scope → Node → Scope → Scope
  scope_with z m w = record z { nodes = with_entry w.nodes m.name m }

  none_alike : (o p : Option Node) → NodesAlike o p → o ≡ None → p ≡ None
  none_alike None None a h = refl
  none_alike None (Some m) a h = absurd a
  none_alike (Some n) p a h = absurd cc

  behind_node : (n : Node) (earlier : List Item) → node_among earlier n.name ≡ None → Behind earlier → Behind (NodeItem n ∷ earlier)
  behind_node n earlier fresh b =
      record {
        same = ap (λ z. scope_with z (lowered_node enums n) (scope_behind (low earlier))) b.same;
        alike = λ f. by f (bytes_eq n.name f);
        known = λ f. node_more (scope_behind earlier) n (node_among earlier) (b.known n.name ∙ fresh) b.known f;
        known_low = λ f. node_more (scope_behind (low earlier)) (lowered_node enums n) (node_among (low earlier)) (b.known_low n.name ∙ none_alike (node_among earlier n.name) (node_among (low earlier) n.name) (b.alike n.name) fresh) b.known_low f;
      }
    where
      by : (f : List ℕ) (c : Bool) → NodesAlike (if c then Some n else node_among earlier f) (if c then Some (lowered_node enums n) else node_among (low earlier) f)
      by f true = (same_decls n.inputs, same_decls n.outputs)
      by f false = b.alike f

  behind : (earlier : List Item) → GroundBehind types earlier → Behind earlier
  behind [] g = record { same = refl; alike = λ f. tt; known = λ f. refl; known_low = λ f. refl }
  behind (TypeItem t ∷ earlier) g = let b = behind earlier g in record { same = ap (λ z. with_type z t) b.same; alike = b.alike; known = b.known; known_low = b.known_low }
  behind (NodeItem n ∷ earlier) g = behind_node n earlier g.0.1.0 (behind earlier g.1)

  found_low : (earlier : List Item) (f : List ℕ) (n : Node) → node_among earlier f ≡ Some n → node_among (low earlier) f ≡ Some (lowered_node enums n)
  found_low [] f n h = absurd cc
  found_low (TypeItem t ∷ earlier) f n h = found_low earlier f n h
  found_low (NodeItem m ∷ earlier) f n h = by (bytes_eq m.name f) h (found_low earlier f n)
    where
      the : {A : Type 0} (a b : A) → Some a ≡ Some b → a ≡ b
      the {A} a b h = cc

      by : (b : Bool) → (if b then Some m else node_among earlier f) ≡ Some n → (node_among earlier f ≡ Some n → node_among (low earlier) f ≡ Some (lowered_node enums n)) → (if b then Some (lowered_node enums m) else node_among (low earlier) f) ≡ Some (lowered_node enums n)
      by true h r = ap (λ z. Some (lowered_node enums z)) (the m n h)
      by false h r = r h

  grows_low : (earlier : List Item) → ((c : Const) → ConstantIs types (scope_behind earlier) c) → Behind earlier → Grows types (node_among (low earlier)) (scope_behind earlier) (record (scope_behind earlier) { nodes = (scope_behind (low earlier)).nodes })
  grows_low earlier c b = record {
    conses = λ x t h. h;
    nodes = λ f n h. (lowered_node enums n, (b.known_low f ∙ found_low earlier f n (sym (b.known f) ∙ h), (refl, refl)));
    constants = λ k. constant_there types (scope_behind earlier) (record (scope_behind earlier) { nodes = (scope_behind (low earlier)).nodes }) refl k (c k);
    known = b.known_low;
  }

  node_tested : (n : Node) (earlier : List Item) → Ground types earlier n → Behind earlier → NodeFits types (scope_behind earlier) (lowered_node enums n) → NodeSound types (node_among (low earlier)) (scope_behind (low earlier)) (lowered_node enums n)
      → NodeTested types (scope_behind (low earlier)) (lowered_node enums n)
  node_tested n earlier g b fits sound =
      let s = scope_behind earlier in
      let ns = (scope_behind (low earlier)).nodes in
      let r : Scope = record s { nodes = ns } in
      let m = lowered_node enums n in
      let fits_there : NodeFits types (scope_behind (low earlier)) m = subst (λ z. NodeFits types z m) (sym b.same) (node_to types (node_among (low earlier)) ns m s (grows_low earlier g.0 b) fits) in
      let there : Grounds types (scope_behind (low earlier)) = subst (Grounds types) (sym b.same) (grounds_there types s r refl refl g.1.1) in
      let l = scope_behind (low earlier) in
      block_tested types (node_among (low earlier)) m.body (body_scope l m) (lasts_in m.outputs no_lasts)
      (grounds_more types (controls_of m.contract) (inside_node l m) (grounds_more types m.outputs (with_variables l m.inputs) (grounds_more types m.inputs l there))) fits_there sound.1.1.1.1.0

  all_tested : (class : Classing) (items : List Item) → GroundBehind types items → AreAccepted types class items → EachNode NodeScoped items → EachNode (NodeNames IsOld) items → EachNode NodeOk items → ConstantsBehind enums items → SoundBehind types (low items) → FitBehind types items → AreTested types (low items)
  all_tested class [] g a sc o ok h low_sound fits = tt
  all_tested class (TypeItem t ∷ items) g a sc o ok h low_sound fits = all_tested class items g a sc o ok h low_sound fits
  all_tested class (NodeItem n ∷ items) g a sc o ok h low_sound fits =
      let b = behind items g.1 in (
        node_tested n items g.0 b (node_fits types (node_among items) enums (scope_behind items) n (g.0.0, b.known) (no_variables items) h.0 o.0.interface sc.0 ok.0 a.0.sound fits.0) low_sound.0,
        all_tested (class_behind class) items g.1 a.1 sc.1 o.1 ok.1 h.1 low_sound.1 fits.1,
      )

-- what is known behind each node of a ready program
pub ready_grounds : (program after : List Item) → IsReady program after → GroundBehind (types_of after) (reverse after)
ready_grounds program after r =
    let has_types = typed program r.named r.typed r.merges in
    let all_scoped = scoped program r.named r.defined in
    let sound = judged_sound program all_scoped r.armed r.named r.typed has_types r.defined in
    let clocked = clocked_of (replaced program) after r.clocks in
    let same : types_of after ≡ types_of program = types_clocked (replaced program) after clocked ∙ types_replaced no_node program in
    let shape = shape_clocked program (replaced program) after (shape_replaced no_node program) clocked in
    subst (λ z. GroundBehind z (reverse after)) (sym same)
    (ground (types_of program) [] names.nothing [] [] program after refl so_far_none r.named (record { conses = refl; kinds = refl; none = λ f e. e }) sound shape tt)

pub fitted_law : FittedLaw
fitted_law program after r ok cons fits =
    let h = ready_constants_law program after r cons in
    let enums = enumerations [] after in
    let types = types_of after in
    let has_types = typed program r.named r.typed r.merges in
    let all_scoped = scoped program r.named r.defined in
    let clocked = clocked_of (replaced program) after r.clocks in
    let can = all_can no_node program all_scoped r.names (calls_fit program r.named has_types) (all_few_calls no_node program r.calls) (few_variables program r.limits) in
    let a = accepted program after r in
    let low_sound : SoundBehind types (low types enums (reverse after)) = subst (SoundBehind types) (sym (low_onto types enums after [])) (ready_sound_law program after r ok cons) in
    subst (AreTested types) (low_onto types enums after [])
    (all_tested types enums a.0 (reverse after) (ready_grounds program after r) a.1 (each_reverse NodeScoped after (ready_scoped program after r)) (each_reverse (NodeNames IsOld) after (old_clocked (replaced program) after clocked (program_old program can)))
    (each_reverse NodeOk after (each_ok after ok)) h low_sound fits)
