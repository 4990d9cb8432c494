-- The names of the clocked equations of a ready program, also where variables are controllable.
use Rattle.std.proofs.Common.{◌≡◌, ℕ, ◌⊎◌, inl, inr, ◌≤◌, ◌^◌, true, false, List, [], ◌∷◌, ◌++◌, length, map, refl, sym, subst, ◌∙◌}
use Rattle.std.specs.Prelude.{codes, IsTrue}
use Rattle.std.specs.List.{AllByRecursion}
use Rattle.std.specs.Str.{bytes_eq}
use Rattle.hp_tree.specs.Blocks.{Decl, Block, block}
use Rattle.hp_tree.specs.Meaning.{declares, controls_of}
use Rattle.hp_tree.specs.Programs.{Node}
use Rattle.hp_tree.specs.declared.program.Item.{Item}
use Rattle.hp_tree.specs.declared.program.Item.TheVariants.{TypeItem, NodeItem}
use Rattle.hp_meaning.specs.Clocking.Clocking.{AreOnce}
use Rattle.law_judged.specs.Named.Scoped.{Names, also, no_names, interface, AreFresh, BlockScoped, NodeScoped, EachNode}
use Rattle.law_judged.proofs.NamedLemmas.Judged.{scoped}
use Rattle.law_judged.proofs.NamedLemmas.Sets.{declares_append, false_if, name_same, once_append, or_cases, or_left, or_right, same_name}
use Rattle.law_judged.proofs.TypedLemmas.ProgramLaws.{typed}
use Rattle.hp_expand.specs.Numbering.{no_node, replaced}
use Rattle.law_judged.specs.Replaced.Fitting.{BlockNames, NodeNames}
use Rattle.law_judged.proofs.ReplacedLemmas.CallsFit.{calls_fit}
use Rattle.law_judged.proofs.ReplacedLemmas.Enough.{few_variables}
use Rattle.law_judged.proofs.ReplacedLemmas.Marks.{all_few_calls}
use Rattle.law_judged.proofs.ReplacedLemmas.JudgedReplaced.{all_can}
use Rattle.law_values.specs.Accepted.Laws.{IsReady}
use Rattle.hp_automata.specs.Lowering.{Enumerations, enumerations, lowered_item, lowered_program}
use Rattle.law_automata.specs.Lowered.OldNames.{IsOld}
use Rattle.law_automata.specs.Lowered.Removable.{AllOldDecls}
use Rattle.law_automata.proofs.LowerableLemmas.OldNodes.{program_old, old_clocked}
use Rattle.law_automata.proofs.LowerableLemmas.Texts.{clocked_of}
use Rattle.law_automata.proofs.ReadiedLemmas.Controls.{ControlsOnce, controls_once}
use Rattle.law_automata.proofs.ReadiedLemmas.Whole.{ready_scoped}
use Rattle.hp_flat.specs.declared.node.Variable.{Variable}
use Rattle.hp_flat.specs.Nodes.{FlatNode}
use Rattle.law_equations.specs.Followed.Premises.{names}
use Rattle.law_equations.specs.Fitting.Fitting.{FreeNamesLaw, NamesLaw, NodeNamed}
use Rattle.law_equations.specs.Made.Blocks.{locals_of}
use Rattle.law_equations.specs.Made.Making.{Known, new_name, sketch_node}
use Rattle.hp_complete.specs.Declaring.{known_of}
use Rattle.hp_complete.specs.Made.{AreMadeOf, IsMadeOf}
use Rattle.law_wellmade.specs.Apart.Apart.{LoweredLaw, ScopedLaw}
use Rattle.law_wellmade.specs.Suited.Suited.{HasFew}
use Rattle.law_choices.specs.Undisturbed.Laws.{ApartLaw, ControlsApart}
use Rattle.law_controlled.specs.Names.{HasNames, IsAdded, PlantNamesLaw}

-- ---- what is declared is old

old_decls : (ds : List Decl) → ((x : List ℕ) → IsTrue (declares ds x) → IsOld x) → AllOldDecls ds
old_decls [] h = tt
old_decls (d ∷ ds) h = (h d.name (or_left (bytes_eq d.name d.name) (declares ds d.name) (name_same d.name d.name refl)), old_decls ds (λ x k. h x (or_right (bytes_eq d.name x) (declares ds x) k)))

fresh_locals : (seen own : Names) (b : Block) → BlockScoped seen own b → AreFresh seen (locals_of b)
fresh_locals seen own (block ds es) h = h.1

old_locals : (b : Block) → BlockNames IsOld b → AllOldDecls (locals_of b)
old_locals (block ds es) h = old_decls ds h.0

-- ---- what is declared once

once_first : (ds es : List Decl) → AreOnce (ds ++ es) → AreOnce ds
once_first [] es h = tt
once_first (d ∷ ds) es h = (
  false_if (declares ds d.name) (λ t. absurd (cc (sym h.0, declares_append ds es d.name ∙ or_left (declares ds d.name) (declares es d.name) t))),
  once_first ds es h.1,
)

once_last : (ds es : List Decl) → AreOnce (ds ++ es) → AreOnce es
once_last [] es h = h
once_last (d ∷ ds) es h = once_last ds es h.1

once_apart : (ds es : List Decl) → AreOnce (ds ++ es) → AreFresh (declares ds) es
once_apart [] es h x l k = absurd (cc k)
once_apart (d ∷ ds) es h x l k = by (or_cases (bytes_eq d.name x) (declares ds x) k) (λ g. once_apart ds es h.1 x l g)
  where
    by : IsTrue (bytes_eq d.name x) ⊎ IsTrue (declares ds x) → (IsTrue (declares ds x) → ⊥) → ⊥
    by (inl e) rest =
        let there : IsTrue (declares (ds ++ es) d.name) = subst (λ z. IsTrue (declares (ds ++ es) z)) (sym (same_name d.name x e)) (subst IsTrue (sym (declares_append ds es x)) (or_right (declares ds x) (declares es x) l)) in
        let no : true ≡ false = sym there ∙ h.0 in
        absurd cc
    by (inr g) rest = rest g

-- inputs, controllable variables and outputs
module _ (ins controls outs : List Decl) (once : AreOnce (ins ++ outs)) (own : AreOnce controls) (apart : AreFresh (also (also no_names ins) outs) controls) where
  input_seen : (x : List ℕ) → IsTrue (declares ins x) → IsTrue (also (also no_names ins) outs x)
  input_seen x h = or_right (declares outs x) (also no_names ins x) (or_left (declares ins x) (no_names x) h)

  output_seen : (x : List ℕ) → IsTrue (declares outs x) → IsTrue (also (also no_names ins) outs x)
  output_seen x h = or_left (declares outs x) (also no_names ins x) h

  all_once : AreOnce ((ins ++ controls) ++ outs)
  all_once =
      once_append (ins ++ controls) outs (once_append ins controls (once_first ins outs once) own (λ x l k. apart x l (input_seen x k))) (once_last ins outs once)
      (λ x l k. by x l (or_cases (declares ins x) (declares controls x) (subst IsTrue (declares_append ins controls x) k)))
    where
      by : (x : List ℕ) → IsTrue (declares outs x) → IsTrue (declares ins x) ⊎ IsTrue (declares controls x) → ⊥
      by x l (inl k) = once_apart ins outs once x l k
      by x l (inr k) = apart x k (output_seen x l)

-- ---- nodes

named_node : ScopedLaw → (n : Node) → NodeScoped n → NodeNames IsOld n → ControlsOnce n → ControlsApart n → NodeNamed n
named_node law n s old own apart =
    let cs = controls_of n.contract in
    let inner : (x : List ℕ) → IsTrue (interface n x) → IsOld x = λ x h. old.interface x (or_right (declares cs x) (interface n x) h) in
    law n (all_once n.inputs cs n.outputs s.once own apart)
    (fresh_locals (also (interface n) cs) (also no_names n.outputs) n.body s.body)
    (record {
      inputs = old_decls n.inputs (λ x h. inner x (or_right (declares n.outputs x) (also no_names n.inputs x) (or_left (declares n.inputs x) (no_names x) h)));
      controls = old_decls cs (λ x h. old.interface x (or_left (declares cs x) (interface n x) h));
      outputs = old_decls n.outputs (λ x h. inner x (or_left (declares n.outputs x) (also no_names n.inputs x) h));
      locals = old_locals n.body old.body;
    })

each_named : ScopedLaw → LoweredLaw → (enums : Enumerations) (items : List Item) → EachNode NodeScoped items → EachNode (NodeNames IsOld) items → EachNode ControlsOnce items → EachNode ControlsApart items
    → EachNode NodeNamed (map (lowered_item enums) items)
each_named law low enums [] s old own apart = tt
each_named law low enums (TypeItem t ∷ items) s old own apart = each_named law low enums items s old own apart
each_named law low enums (NodeItem n ∷ items) s old own apart = (low enums n (named_node law n s.0 old.0 own.0 apart.0), each_named law low enums items s.1 old.1 own.1 apart.1)

-- The names of each node of a ready program without its automata are apart.
named_nodes : ScopedLaw → LoweredLaw → ApartLaw → (program after : List Item) → IsReady program after → EachNode NodeNamed (lowered_program after)
named_nodes law low apart program after r =
    let clocked = clocked_of (replaced program) after r.clocks in
    let can = all_can no_node program (scoped program r.named r.defined) r.names (calls_fit program r.named (typed program r.named r.typed r.merges)) (all_few_calls no_node program r.calls) (few_variables program r.limits) in
    each_named law low (enumerations [] after) after (ready_scoped program after r) (old_clocked (replaced program) after clocked (program_old program can)) (controls_once program after r.named clocked) (apart program after r)

-- ---- clocked equations

-- the names of added variables are made as those of others
no_added : (k : ℕ) (xs : List (List ℕ)) → AllByRecursion (λ x. x ≡ new_name (codes "w") k → ⊥) xs → AllByRecursion (λ x. x ≡ new_name (codes "b") k → ⊥) xs → AllByRecursion (λ (x : List ℕ). IsAdded k x → ⊥) xs
no_added k [] w b = tt
no_added k (x ∷ xs) w b = (by, no_added k xs w.1 b.1)
  where
    by : IsAdded k x → ⊥
    by (inl e) = w.0 e
    by (inr e) = b.0 e

pub record MadeLaws : Type 0 where
  pub names : NamesLaw
  pub free : FreeNamesLaw

module _ (laws : MadeLaws) (k : Known) where
  has_names : (n : Node) (f : FlatNode) → NodeNamed n → IsMadeOf k n f → HasFew f → HasNames f
  has_names n f named made few =
      let own = laws.names k n named (subst (λ (vs : List Variable). length vs ≤ 2 ^ 64) made.variables few) in
      subst (λ (vs : List Variable). HasNames (record { name = f.name; variables = vs; inputs = f.inputs; outputs = f.outputs; eqns = f.eqns })) (sym made.variables)
      (record {
        names_free = record { differ = own.0; own = own.1 };
        free = λ j above below. no_added j (names (sketch_node k n).variables) (laws.free k n named (codes "w") j above below) (laws.free k n named (codes "b") j above below);
      })

  all_have_names : (items : List Item) (fs : List FlatNode) → EachNode NodeNamed items → AreMadeOf k items fs → AllByRecursion HasFew fs → AllByRecursion HasNames fs
  all_have_names [] [] named made few = tt
  all_have_names [] (f ∷ fs) named made few = absurd made
  all_have_names (TypeItem t ∷ items) fs named made few = all_have_names items fs named made few
  all_have_names (NodeItem n ∷ items) [] named made few = absurd made
  all_have_names (NodeItem n ∷ items) (f ∷ fs) named made few = (has_names n f named.0 made.0 few.0, all_have_names items fs named.1 made.1 few.1)

pub plant_names : ScopedLaw → LoweredLaw → ApartLaw → MadeLaws → PlantNamesLaw
plant_names law low apart laws program after r plants made few = all_have_names laws (known_of (lowered_program after)) (lowered_program after) plants (named_nodes law low apart program after r) made few
