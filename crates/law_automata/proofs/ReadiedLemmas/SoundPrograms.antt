-- A ready program without its automata is sound.
use Rattle.std.proofs.Common.{◌≡◌, ℕ, List, [], ◌∷◌, map, reverse, refl, sym, ap, ◌∙◌, subst}
use Rattle.std.specs.Prelude.{⊤, Bool, true, false, if◌then◌else◌, Option, None, Some}
use Rattle.std.specs.Str.{bytes_eq}
use Rattle.hp_base.specs.declared.ty.Const.{Const}
use Rattle.hp_base.specs.declared.ty.Const.TheVariants as const
use Rattle.hp_tree.specs.declared.program.Item.{Item}
use Rattle.hp_tree.specs.declared.program.Item.TheVariants.{TypeItem, NodeItem}
use Rattle.hp_tree.specs.Blocks.{Decl}
use Rattle.hp_tree.specs.Programs.{TypeDecl, Node}
use Rattle.hp_tree.specs.Meaning.{types_of, node_among}
use Rattle.hp_base.specs.Known.Known.{lookup, with_entry}
use Rattle.hp_typing.specs.Scopes.{with_type, with_constructors}
use Rattle.hp_typing.specs.Types.{enum_of}
use Rattle.law_judged.proofs.TypedLemmas.ProgramLaws.{typed}
use Rattle.law_judged.specs.Named.Scopes.{Scope}
use Rattle.law_judged.specs.Named.Scoped.{NodeScoped, EachNode}
use Rattle.law_judged.proofs.NamedLemmas.Judged.{scoped}
use Rattle.hp_expand.specs.Numbering.{no_node, with_node, replaced_node, replaced_items, replaced}
use Rattle.law_judged.specs.Replaced.Fitting.{NodeNames}
use Rattle.law_judged.proofs.ReplacedLemmas.CallsFit.{calls_fit}
use Rattle.law_judged.proofs.ReplacedLemmas.Enough.{few_variables}
use Rattle.law_judged.proofs.ReplacedLemmas.Marks.{all_few_calls}
use Rattle.law_judged.proofs.ReplacedLemmas.JudgedReplaced.{all_can}
use Rattle.law_values.specs.Valued.Judged.{ConstantIs, NodeSound}
use Rattle.law_values.specs.Valued.Values.{scope_behind, Classing, class_behind, AreAccepted}
use Rattle.law_values.specs.Accepted.Written.{AreClocked}
use Rattle.law_values.proofs.AcceptedLemmas.Views.{constant_is}
use Rattle.law_values.proofs.AcceptedLemmas.SoundNodes.{node_more, AllSound, judged_sound}
use Rattle.law_values.proofs.AcceptedLemmas.ClocksKept.{SameDecls}
use Rattle.law_values.proofs.AcceptedLemmas.Swaps.{NodesAlike, node_to}
use Rattle.law_values.proofs.AcceptedLemmas.Assembled.{types_replaced, types_clocked}
use Rattle.law_values.proofs.AcceptedLemmas.Laws.{accepted}
use Rattle.hp_automata.specs.Lowering.{Enumerations, enumerations, lowered_node, lowered_item}
use Rattle.law_automata.specs.Lowered.OldNames.{IsOld}
use Rattle.law_automata.specs.Lowered.Removable.{NodeOk, IsRemovable}
use Rattle.law_automata.proofs.LowerableLemmas.OldNodes.{program_old, old_clocked}
use Rattle.law_automata.proofs.LowerableLemmas.Texts.{clocked_of, each_reverse, onto}
use Rattle.law_automata.specs.Readied.Sound.{SoundBehind, ConstantsBehind, ReadySoundLaw}
use Rattle.law_automata.proofs.ReadiedLemmas.HasConstants.{ready_constants_law}
use Rattle.law_automata.proofs.ReadiedLemmas.SoundNodes.{sound_law}
use Rattle.law_automata.proofs.ReadiedLemmas.Whole.{ready_scoped}

-- ---- items of one shape: the same types, and nodes of the same names

abbrev SameShape : List Item → List Item → Type 0
SameShape [] [] = ⊤
SameShape (TypeItem t ∷ xs) (TypeItem u ∷ ys) = (u ≡ t) × SameShape xs ys
SameShape (NodeItem n ∷ xs) (NodeItem m ∷ ys) = (m.name ≡ n.name) × SameShape xs ys
SameShape xs ys = ⊥

shape_replaced : (nodes : List ℕ → Node) (items : List Item) → SameShape items (replaced_items nodes items)
shape_replaced nodes [] = tt
shape_replaced nodes (TypeItem t ∷ items) = (refl, shape_replaced nodes items)
shape_replaced nodes (NodeItem n ∷ items) = (refl, shape_replaced (with_node nodes (replaced_node nodes n)) items)

shape_clocked : (xs ys zs : List Item) → SameShape xs ys → AreClocked ys zs → SameShape xs zs
shape_clocked [] [] [] s c = tt
shape_clocked (TypeItem t ∷ xs) (TypeItem u ∷ ys) (z ∷ zs) s c = subst (λ w. SameShape (TypeItem t ∷ xs) (w ∷ zs)) (sym c.0) (s.0, shape_clocked xs ys zs s.1 c.1)
shape_clocked (NodeItem n ∷ xs) (NodeItem m ∷ ys) (z ∷ zs) s c = subst (λ w. SameShape (NodeItem n ∷ xs) (w ∷ zs)) (sym c.0.1.1) (s.0, shape_clocked xs ys zs s.1 c.1)
shape_clocked [] [] (z ∷ zs) s c = absurd c
shape_clocked [] (y ∷ ys) zs s c = absurd s
shape_clocked (TypeItem t ∷ xs) [] zs s c = absurd s
shape_clocked (NodeItem n ∷ xs) [] zs s c = absurd s
shape_clocked (TypeItem t ∷ xs) (NodeItem m ∷ ys) zs s c = absurd s
shape_clocked (NodeItem n ∷ xs) (TypeItem u ∷ ys) zs s c = absurd s
shape_clocked (TypeItem t ∷ xs) (TypeItem u ∷ ys) [] s c = absurd c
shape_clocked (NodeItem n ∷ xs) (NodeItem m ∷ ys) [] s c = absurd c

-- ---- what is known where the nodes stand

no_variables : (done : List Item) (x : List ℕ) → lookup (scope_behind done).variables x ≡ None
no_variables [] x = refl
no_variables (TypeItem t ∷ done) x = no_variables done x
no_variables (NodeItem n ∷ done) x = no_variables done x

abbrev GroundBehind : List TypeDecl → List Item → Type 0
GroundBehind types [] = ⊤
GroundBehind types (TypeItem t ∷ earlier) = GroundBehind types earlier
GroundBehind types (NodeItem n ∷ earlier) = (((c : Const) → ConstantIs types (scope_behind earlier) c) × (node_among earlier n.name ≡ None)) × GroundBehind types earlier

constant_there : (types : List TypeDecl) (s r : Scope) → r.constructors ≡ s.constructors → (c : Const) → ConstantIs types s c → ConstantIs types r c
constant_there types s r e (const.B b) f = f
constant_there types s r e (const.I n) f = f
constant_there types s r e (const.E c) f = λ t h. f t (ap (λ z. enum_of (lookup z c)) (sym e) ∙ h)

record Alongside (done there : List Item) : Type 0 where
  conses : (scope_behind there).constructors ≡ (scope_behind done).constructors
  none : (f : List ℕ) → node_among done f ≡ None → node_among there f ≡ None

along_node : (done there : List Item) (n m : Node) → m.name ≡ n.name → Alongside done there → Alongside (NodeItem n ∷ done) (NodeItem m ∷ there)
along_node done there n m e a = record { conses = a.conses; none = λ f h. subst (λ z. (if bytes_eq z f then Some m else node_among there f) ≡ None) (sym e) (by f (bytes_eq n.name f) h) }
  where
    by : (f : List ℕ) (b : Bool) → (if b then Some n else node_among done f) ≡ None → (if b then Some m else node_among there f) ≡ None
    by f true h = absurd cc
    by f false h = a.none f h

ground : (types : List TypeDecl) (done there xs ys : List Item) → Alongside done there → AllSound types done xs → SameShape xs ys → GroundBehind types there → GroundBehind types (onto ys there)
ground types done there [] [] a h s g = g
ground types done there (TypeItem t ∷ xs) (TypeItem u ∷ ys) a h s g =
    ground types (TypeItem t ∷ done) (TypeItem u ∷ there) xs ys
    (record { conses = ap (λ z. with_constructors (scope_behind there).constructors z.name z.cons) s.0 ∙ ap (λ z. with_constructors z t.name t.cons) a.conses; none = a.none }) h s.1 g
ground types done there (NodeItem n ∷ xs) (NodeItem m ∷ ys) a h s g =
    ground types (NodeItem n ∷ done) (NodeItem m ∷ there) xs ys (along_node done there n m s.0 a) h.1 s.1 (
      (
        (λ c. constant_there types (scope_behind done) (scope_behind there) a.conses c (constant_is types (node_among done) (scope_behind done) h.0.0 c)),
        a.none m.name (subst (λ z. node_among done z ≡ None) (sym s.0) (sym (h.0.0.known_nodes n.name) ∙ h.0.1.0)),
      ),
      g,
    )
ground types done there [] (y ∷ ys) a h s g = absurd s
ground types done there (TypeItem t ∷ xs) [] a h s g = absurd s
ground types done there (NodeItem n ∷ xs) [] a h s g = absurd s
ground types done there (TypeItem t ∷ xs) (NodeItem m ∷ ys) a h s g = absurd s
ground types done there (NodeItem n ∷ xs) (TypeItem u ∷ ys) a h s g = absurd s

-- ---- without automata

same_decls : (ds : List Decl) → SameDecls ds ds
same_decls [] = tt
same_decls (d ∷ ds) = ((refl, (refl, refl)), same_decls ds)

module _ (types : List TypeDecl) (enums : Enumerations) where
  abbrev low : List Item → List Item
  low items = map (lowered_item enums) items

  record Behind (earlier : List Item) : Type 0 where
    same : scope_behind (low earlier) ≡ record (scope_behind earlier) { nodes = (scope_behind (low earlier)).nodes }
    alike : (f : List ℕ) → NodesAlike (node_among earlier f) (node_among (low earlier) f)
    known : (f : List ℕ) → lookup (scope_behind earlier).nodes f ≡ node_among earlier f
    known_low : (f : List ℕ) → lookup (scope_behind (low earlier)).nodes f ≡ node_among (low earlier) f

  abbrev scope_with : Scope → Node → Scope → Scope
  scope_with z m w = record z { nodes = with_entry w.nodes m.name m }

  none_alike : (o p : Option Node) → NodesAlike o p → o ≡ None → p ≡ None
  none_alike None None a h = refl
  none_alike None (Some m) a h = absurd a
  none_alike (Some n) p a h = absurd cc

  behind_node : (n : Node) (earlier : List Item) → node_among earlier n.name ≡ None → Behind earlier → Behind (NodeItem n ∷ earlier)
  behind_node n earlier fresh b =
      record {
        same = ap (λ z. scope_with z (lowered_node enums n) (scope_behind (low earlier))) b.same;
        alike = λ f. by f (bytes_eq n.name f);
        known = λ f. node_more (scope_behind earlier) n (node_among earlier) (b.known n.name ∙ fresh) b.known f;
        known_low = λ f. node_more (scope_behind (low earlier)) (lowered_node enums n) (node_among (low earlier)) (b.known_low n.name ∙ none_alike (node_among earlier n.name) (node_among (low earlier) n.name) (b.alike n.name) fresh) b.known_low f;
      }
    where
      by : (f : List ℕ) (c : Bool) → NodesAlike (if c then Some n else node_among earlier f) (if c then Some (lowered_node enums n) else node_among (low earlier) f)
      by f true = (same_decls n.inputs, same_decls n.outputs)
      by f false = b.alike f

  behind : (earlier : List Item) → GroundBehind types earlier → Behind earlier
  behind [] g = record { same = refl; alike = λ f. tt; known = λ f. refl; known_low = λ f. refl }
  behind (TypeItem t ∷ earlier) g = let b = behind earlier g in record { same = ap (λ z. with_type z t) b.same; alike = b.alike; known = b.known; known_low = b.known_low }
  behind (NodeItem n ∷ earlier) g = behind_node n earlier g.0.1 (behind earlier g.1)

  sound_there : (n : Node) (earlier : List Item) → ((c : Const) → ConstantIs types (scope_behind earlier) c) → Behind earlier → NodeSound types (node_among earlier) (scope_behind earlier) (lowered_node enums n) → NodeSound types (node_among (low earlier)) (scope_behind (low earlier)) (lowered_node enums n)
  sound_there n earlier c b ok =
      let s = scope_behind earlier in
      let ns = (scope_behind (low earlier)).nodes in
      let alike : (f : List ℕ) → NodesAlike (lookup s.nodes f) (lookup ns f) =
      λ f. subst (λ z. NodesAlike z (lookup ns f)) (sym (b.known f)) (subst (λ z. NodesAlike (node_among earlier f) z) (sym (b.known_low f)) (b.alike f)) in
      subst (λ z. NodeSound types (node_among (low earlier)) z (lowered_node enums n)) (sym b.same) (node_to types (node_among earlier) (node_among (low earlier)) ns b.known_low (lowered_node enums n) s alike ok)

  all_sound : (class : Classing) (items : List Item) → GroundBehind types items → AreAccepted types class items → EachNode NodeScoped items → EachNode (NodeNames IsOld) items → EachNode NodeOk items → ConstantsBehind enums items → SoundBehind types (low items)
  all_sound class [] g a sc o ok h = tt
  all_sound class (TypeItem t ∷ items) g a sc o ok h = all_sound class items g a sc o ok h
  all_sound class (NodeItem n ∷ items) g a sc o ok h =
      let b = behind items g.1 in (
        sound_there n items g.0.0 b (sound_law types (node_among items) enums (scope_behind items) n (g.0.0, b.known) (no_variables items) h.0 o.0.interface sc.0 ok.0 a.0.sound),
        all_sound (class_behind class) items g.1 a.1 sc.1 o.1 ok.1 h.1,
      )

  pub low_onto : (xs ys : List Item) → low (onto xs ys) ≡ onto (low xs) (low ys)
  low_onto [] ys = refl
  low_onto (x ∷ xs) ys = low_onto xs (x ∷ ys)

pub each_ok : (items : List Item) → IsRemovable items → EachNode NodeOk items
each_ok [] h = tt
each_ok (TypeItem t ∷ items) h = each_ok items h
each_ok (NodeItem n ∷ items) h = (h.0, each_ok items h.1)

pub ready_sound_law : ReadySoundLaw
ready_sound_law program after r ok cons =
    let h = ready_constants_law program after r cons in
    let enums = enumerations [] after in
    let has_types = typed program r.named r.typed r.merges in
    let names = scoped program r.named r.defined in
    let sound = judged_sound program names r.armed r.named r.typed has_types r.defined in
    let clocked = clocked_of (replaced program) after r.clocks in
    let can = all_can no_node program names r.names (calls_fit program r.named has_types) (all_few_calls no_node program r.calls) (few_variables program r.limits) in
    let same : types_of after ≡ types_of program = types_clocked (replaced program) after clocked ∙ types_replaced no_node program in
    let shape = shape_clocked program (replaced program) after (shape_replaced no_node program) clocked in
    let grounds : GroundBehind (types_of after) (reverse after) =
    subst (λ z. GroundBehind z (reverse after)) (sym same) (ground (types_of program) [] [] program after (record { conses = refl; none = λ f e. e }) sound shape tt) in
    let a = accepted program after r in
    subst (SoundBehind (types_of after)) (low_onto (types_of after) enums after [])
    (all_sound (types_of after) enums a.0 (reverse after) grounds a.1 (each_reverse NodeScoped after (ready_scoped program after r)) (each_reverse (NodeNames IsOld) after (old_clocked (replaced program) after clocked (program_old program can)))
    (each_reverse NodeOk after (each_ok after ok)) h)
