-- What the machines of a program ask of its nodes without automata.
use Rattle.std.proofs.Common.{◌≡◌, ℕ, Bool, true, false, ◌||◌, if◌then◌else◌, List, [], ◌∷◌, ◌++◌, map, reverse, refl, sym, ap, subst, ◌∙◌}
use Rattle.std.specs.Prelude.{IsTrue, Some}
use Rattle.std.specs.Str.{bytes_eq}
use Rattle.std.proofs.lemmas.List.{append_assoc, append-nil, reverse-append}
use Rattle.hp_base.specs.declared.value.Value.{Value}
use Rattle.hp_obc.specs.Form.{has_name}
use Rattle.hp_tree.specs.Blocks.{Decl, Block, block}
use Rattle.hp_tree.specs.Instant.{Place}
use Rattle.hp_tree.specs.Meaning.{declares, controls_of, node_among}
use Rattle.hp_tree.specs.Programs.{TypeDecl, Node}
use Rattle.hp_tree.specs.declared.program.Item.{Item}
use Rattle.hp_tree.specs.declared.program.Item.TheVariants.{TypeItem, NodeItem}
use Rattle.hp_meaning.specs.Causal.Runs.{NoControls}
use Rattle.hp_meaning.specs.Clocking.Clocking.{AreOnce}
use Rattle.law_judged.specs.Named.Scoped.{Names, also, no_names, interface, AreFresh, BlockScoped, NodeScoped, EachNode}
use Rattle.law_judged.proofs.NamedLemmas.Judged.{scoped}
use Rattle.law_judged.proofs.NamedLemmas.Sets.{name_same, or_left, or_right}
use Rattle.law_judged.proofs.TypedLemmas.ProgramLaws.{typed}
use Rattle.hp_expand.specs.Numbering.{no_node, replaced}
use Rattle.law_judged.specs.Replaced.Fitting.{BlockNames, NodeNames}
use Rattle.law_judged.proofs.ReplacedLemmas.CallsFit.{calls_fit}
use Rattle.law_judged.proofs.ReplacedLemmas.Enough.{few_variables}
use Rattle.law_judged.proofs.ReplacedLemmas.Marks.{all_few_calls}
use Rattle.law_judged.proofs.ReplacedLemmas.JudgedReplaced.{all_can}
use Rattle.law_values.specs.Accepted.Laws.{IsReady}
use Rattle.hp_automata.specs.Lowering.{Enumerations, enumerations, lowered_item, lowered_program}
use Rattle.law_automata.specs.Lowered.OldNames.{IsOld}
use Rattle.law_automata.specs.Lowered.Removable.{AllOldDecls}
use Rattle.law_automata.proofs.LowerableLemmas.OldNodes.{program_old, old_clocked}
use Rattle.law_automata.proofs.LowerableLemmas.Texts.{clocked_of}
use Rattle.law_values.specs.Valued.Values.{scope_behind}
use Rattle.law_values.specs.Valued.Judged.{NodeSound}
use Rattle.law_equations.specs.Flattened.Behaves.{EachCallIn}
use Rattle.law_equations.specs.Flattened.Lifted.{in_body}
use Rattle.law_equations.specs.Made.Making.{Known}
use Rattle.law_equations.specs.Answered.Answering.{has_node}
use Rattle.law_automata.specs.Readied.Laws.{IsWhole}
use Rattle.law_automata.specs.Readied.Sound.{SoundBehind}
use Rattle.law_automata.proofs.ReadiedLemmas.Whole.{ready_scoped}
use Rattle.law_wellmade.specs.Begun.Laws.{BodyReady}
use Rattle.law_equations.specs.Made.Blocks.{locals_of}
use Rattle.law_equations.specs.Fitting.Fitting.{NodeNamed}
use Rattle.law_wellmade.specs.Apart.Apart.{ScopedLaw, LoweredLaw}
use Rattle.law_wellmade.specs.Suited.Suited.{IsAsked, AreAsked}
use Rattle.law_history.proofs.StreamsLemmas.Calls.{node_calls}

-- ---- names

old_decls : (ds : List Decl) → ((x : List ℕ) → IsTrue (declares ds x) → IsOld x) → AllOldDecls ds
old_decls [] h = tt
old_decls (d ∷ ds) h = (h d.name (or_left (bytes_eq d.name d.name) (declares ds d.name) (name_same d.name d.name refl)), old_decls ds (λ x k. h x (or_right (bytes_eq d.name x) (declares ds x) k)))

none_old : (ds : List Decl) → ds ≡ [] → AllOldDecls ds
none_old [] e = tt
none_old (d ∷ ds) e = absurd cc

fresh_locals : (seen own : Names) (b : Block) → BlockScoped seen own b → AreFresh seen (locals_of b)
fresh_locals seen own (block ds es) h = h.1

old_locals : (b : Block) → BlockNames IsOld b → AllOldDecls (locals_of b)
old_locals (block ds es) h = old_decls ds h.0

named_node : ScopedLaw → (n : Node) → NodeScoped n → NodeNames IsOld n → controls_of n.contract ≡ [] → NodeNamed n
named_node law n s old none =
    let cs = controls_of n.contract in
    let inner : (x : List ℕ) → IsTrue (interface n x) → IsOld x = λ x h. old.interface x (or_right (declares cs x) (interface n x) h) in
    law n (subst (λ ds. AreOnce ((n.inputs ++ ds) ++ n.outputs)) (sym none) (subst (λ ds. AreOnce (ds ++ n.outputs)) (sym (append-nil n.inputs)) s.once))
    (fresh_locals (also (interface n) cs) (also no_names n.outputs) n.body s.body)
    (record {
      inputs = old_decls n.inputs (λ x h. inner x (or_right (declares n.outputs x) (also no_names n.inputs x) (or_left (declares n.inputs x) (no_names x) h)));
      controls = none_old cs none;
      outputs = old_decls n.outputs (λ x h. inner x (or_left (declares n.outputs x) (also no_names n.inputs x) h));
      locals = old_locals n.body old.body;
    })

each_named : ScopedLaw → LoweredLaw → (enums : Enumerations) (items : List Item) → EachNode NodeScoped items → EachNode (NodeNames IsOld) items → NoControls items → EachNode NodeNamed (map (lowered_item enums) items)
each_named law low enums [] s old none = tt
each_named law low enums (TypeItem t ∷ items) s old none = each_named law low enums items s old none
each_named law low enums (NodeItem n ∷ items) s old none = (low enums n (named_node law n s.0 old.0 none.0), each_named law low enums items s.1 old.1 none.1)

-- The names of each node of a ready program without its automata are apart.
pub ready_named : ScopedLaw → LoweredLaw → (program after : List Item) → IsReady program after → NoControls after → EachNode NodeNamed (lowered_program after)
ready_named law low program after r none =
    let clocked = clocked_of (replaced program) after r.clocks in
    let can = all_can no_node program (scoped program r.named r.defined) r.names (calls_fit program r.named (typed program r.named r.typed r.merges)) (all_few_calls no_node program r.calls) (few_variables program r.limits) in
    each_named law low (enumerations [] after) after (ready_scoped program after r) (old_clocked (replaced program) after clocked (program_old program can)) none

-- ---- calls; items stand with the last one first

-- the names of the nodes of some items
abbrev pub names_behind : List Item → List (List ℕ)
names_behind [] = []
names_behind (TypeItem t ∷ items) = names_behind items
names_behind (NodeItem n ∷ items) = n.name ∷ names_behind items

pub names_have : (items : List Item) (f : List ℕ) → has_name (names_behind items) f ≡ has_node items f
names_have [] f = refl
names_have (TypeItem t ∷ items) f = names_have items f
names_have (NodeItem n ∷ items) f = ap (λ b. bytes_eq n.name f || b) (names_have items f)

pub among_has : (items : List Item) (f : List ℕ) (n : Node) → node_among items f ≡ Some n → IsTrue (has_node items f)
among_has [] f n e = absurd cc
among_has (TypeItem t ∷ items) f n e = among_has items f n e
among_has (NodeItem m ∷ items) f n e = by (bytes_eq m.name f) (among_has items f n) e
  where
    by : (b : Bool) → (node_among items f ≡ Some n → IsTrue (has_node items f)) → (if b then Some m else node_among items f) ≡ Some n → IsTrue (b || has_node items f)
    by true r e = refl
    by false r e = r e

sound_at : (types : List TypeDecl) (later earlier : List Item) (n : Node) → SoundBehind types (later ++ NodeItem n ∷ earlier) → NodeSound types (node_among earlier) (scope_behind earlier) n
sound_at types [] earlier n h = h.0
sound_at types (TypeItem t ∷ later) earlier n h = sound_at types later earlier n h
sound_at types (NodeItem m ∷ later) earlier n h = sound_at types later earlier n h.1

module _ (types : List TypeDecl) (items : List Item) (sound : SoundBehind types items) (later earlier : List Item) (n : Node) (stands : items ≡ later ++ NodeItem n ∷ earlier) where
  -- Each call in a node of a sound program is of a node before it.
  pub calls_before : EachCallIn (λ f here. IsTrue (has_node earlier f)) n.body in_body
  calls_before = node_calls (λ f. IsTrue (has_node earlier f)) types (node_among earlier) (λ f m e. among_has earlier f m e) (scope_behind earlier) n (sound_at types later earlier n (subst (SoundBehind types) stands sound))

  pub calls_named : EachCallIn (λ f here. IsTrue (has_name (names_behind earlier) f)) n.body in_body
  calls_named =
      node_calls (λ f. IsTrue (has_name (names_behind earlier) f)) types (node_among earlier) (λ f m e. subst IsTrue (sym (names_have earlier f)) (among_has earlier f m e)) (scope_behind earlier) n
      (sound_at types later earlier n (subst (SoundBehind types) stands sound))

-- ---- the nodes of a program, one after the other

-- a program whose items in front are these, with the last one first, and whose rest is that
abbrev pub Splits : List Item → List Item → List Item → Type 0
Splits items before rest = items ≡ reverse rest ++ before

pub split_next : (items before rest : List Item) (i : Item) → Splits items before (i ∷ rest) → items ≡ reverse rest ++ i ∷ before
split_next items before rest i e = e ∙ ap (λ xs. xs ++ before) (reverse-append (i ∷ []) rest) ∙ append_assoc (reverse rest) (i ∷ []) before

pub split_first : (program : List Item) → Splits (reverse program) [] program
split_first program = sym (append-nil (reverse program))

module _ (types : List TypeDecl) (k : Known) (fills : List ℕ → Place → Value) (items : List Item) (sound : SoundBehind types items)
    (begun : (later earlier : List Item) (n : Node) → items ≡ later ++ NodeItem n ∷ earlier → BodyReady k (fills n.name) n) where
  pub one_asked : (later earlier : List Item) (n : Node) → items ≡ later ++ NodeItem n ∷ earlier → IsWhole n → NodeNamed n → IsAsked k (fills n.name) (names_behind earlier) n
  one_asked later earlier n stands w named = record {
    ready = record {
      inputs = w.inputs;
      controls = w.controls;
      outputs = w.outputs;
      plain = w.plain;
      defined = w.defined;
      nothing_else = w.nothing_else;
      first_values = begun later earlier n stands;
    };
    named = named;
    calls = calls_named types items sound later earlier n stands;
  }

  pub are_asked : (before rest : List Item) → Splits items before rest → EachNode IsWhole rest → EachNode NodeNamed rest → AreAsked k fills (names_behind before) rest
  are_asked before [] e w named = tt
  are_asked before (TypeItem t ∷ rest) e w named = are_asked (TypeItem t ∷ before) rest (split_next items before rest (TypeItem t) e) w named
  are_asked before (NodeItem n ∷ rest) e w named =
      let next = split_next items before rest (NodeItem n) e in
      (one_asked (reverse rest) before n next w.0 named.0, are_asked (NodeItem n ∷ before) rest next w.1 named.1)
