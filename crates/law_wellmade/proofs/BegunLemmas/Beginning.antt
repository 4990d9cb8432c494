-- The registers of a sound program begin, where the types of its names have first values.
use Rattle.std.proofs.Common.{◌≡◌, ℕ, Bool, true, false, if◌then◌else◌, List, [], ◌∷◌, ◌++◌, reverse, refl, sym, ap, subst, ◌∙◌}
use Rattle.std.specs.Prelude.{IsTrue, IsFalse}
use Rattle.std.specs.Str.{bytes_eq}
use Rattle.std.proofs.lemmas.Slice.Eq.{bytes_eq-Decides}
use Rattle.std.proofs.lemmas.List.{append_assoc}
use Rattle.hp_base.specs.declared.ty.Ty.{Ty}
use Rattle.hp_tree.specs.declared.program.Item.{Item}
use Rattle.hp_tree.specs.declared.program.Item.TheVariants.{TypeItem, NodeItem}
use Rattle.hp_tree.specs.Programs.{TypeDecl, Node}
use Rattle.hp_tree.specs.Instant.{Body, Instant, Place}
use Rattle.hp_tree.specs.Values.{IsOf}
use Rattle.hp_tree.specs.Meaning.{node_among}
use Rattle.law_judged.specs.Named.Scoped.{EachNode}
use Rattle.law_values.specs.Valued.Judged.{NodeSound, body_scope}
use Rattle.law_values.specs.Valued.Given.{NodeGiven}
use Rattle.law_values.specs.Valued.Values.{scope_behind, either_of, GivenFits}
use Rattle.law_equations.specs.Flattened.Behaves.{EachCallIn}
use Rattle.law_equations.specs.Flattened.Lifted.{in_body}
use Rattle.law_equations.specs.Made.Making.{Known, Body as BodyStanding, base_site, unknown, over, flat_type, first_value}
use Rattle.law_equations.specs.Made.Blocks.{ReadyBlock}
use Rattle.law_equations.specs.Made.Laws.{around_body}
use Rattle.law_values.specs.Filled.Firsts.{HasFirst, NodeHasFirsts}
use Rattle.hp_complete.specs.Declaring.{known_of}
use Rattle.law_automata.specs.Readied.Sound.{SoundBehind}
use Rattle.law_equations.specs.Answered.Answering.{has_node, AreApart, IsCalled}
use Rattle.law_equations.proofs.AnsweredLemmas.AnswerLaws.{unnamed, others_unnamed}
use Rattle.law_equations.proofs.AnsweredLemmas.NodeAnswerLaws.{none_later, none_here}
use Rattle.law_wellmade.specs.Begun.Firsts.{node_firsts, firsts_among}
use Rattle.law_wellmade.proofs.BegunLemmas.BlockRegisters.{body_ready}
use Rattle.law_wellmade.proofs.BegunLemmas.CallsBegun.{in_scope}
use Rattle.law_wellmade.proofs.BegunLemmas.FillsFit.{node_fits}
use Rattle.law_wellmade.proofs.BegunLemmas.Grounds.{grounded}
use Rattle.law_wellmade.proofs.BegunLemmas.Items.{no_variables, outputs_first}

pub sound_at : (types : List TypeDecl) (later earlier : List Item) (n : Node) → SoundBehind types (later ++ NodeItem n ∷ earlier) → NodeSound types (node_among earlier) (scope_behind earlier) n
sound_at types [] earlier n h = h.0
sound_at types (TypeItem t ∷ later) earlier n h = sound_at types later earlier n h
sound_at types (NodeItem m ∷ later) earlier n h = sound_at types later earlier n h.1

-- ---- what is given fits

module _ (k : Known) (types : List TypeDecl) (good : (t : Ty) → HasFirst types t → IsOf types t (first_value (flat_type k.types t))) where
  pub all_fit : (items : List Item) → SoundBehind types items → EachNode (NodeHasFirsts types) items → (f : List ℕ) → GivenFits types false (λ given. given) items f (firsts_among k items f)
  all_fit [] s h f = tt
  all_fit (TypeItem t ∷ items) s h f = all_fit items s h f
  all_fit (NodeItem n ∷ items) s h f =
      by (bytes_eq n.name f)
      (node_fits k types (node_among items) good (outputs_first types items h.1) (firsts_among k items) (GivenFits types false (λ given. given) items) (all_fit items s.1 h.1) (scope_behind items) n (no_variables items) s.0 h.0)
      (all_fit items s.1 h.1 f)
    where
      by : (b : Bool) → NodeGiven types false (λ given. given) (GivenFits types false (λ given. given) items) (scope_behind items) n (node_firsts k (firsts_among k items) (scope_behind items) n)
          → GivenFits types false (λ given. given) items f (firsts_among k items f)
          → either_of b (NodeGiven types false (λ given. given) (GivenFits types false (λ given. given) items) (scope_behind items) n (if b then node_firsts k (firsts_among k items) (scope_behind items) n else firsts_among k items f))
          (GivenFits types false (λ given. given) items f (if b then node_firsts k (firsts_among k items) (scope_behind items) n else firsts_among k items f))
      by true a b = a
      by false a b = b

-- ---- what is given to a node

module _ (k : Known) where
  firsts_behind : (later earlier : List Item) (f : List ℕ) → IsFalse (has_node later f) → (p : Place) → firsts_among k (later ++ earlier) f p ≡ firsts_among k earlier f p
  firsts_behind [] earlier f none p = refl
  firsts_behind (TypeItem t ∷ later) earlier f none p = firsts_behind later earlier f none p
  firsts_behind (NodeItem n ∷ later) earlier f none p =
      ap (λ (i : Instant). i p) (unnamed (bytes_eq n.name f) (has_node later f) _ (firsts_among k (later ++ earlier) f) none)
      ∙ firsts_behind later earlier f (others_unnamed (bytes_eq n.name f) (has_node later f) none) p

  own_firsts : (items later earlier : List Item) (n : Node) → items ≡ later ++ NodeItem n ∷ earlier → AreApart items → (p : Place) → firsts_among k items n.name p ≡ node_firsts k (firsts_among k earlier) (scope_behind earlier) n p
  own_firsts items later earlier n stands apart p =
      let own : Instant = node_firsts k (firsts_among k earlier) (scope_behind earlier) n in
      ap (λ (xs : List Item). firsts_among k xs n.name p) stands ∙ firsts_behind later (NodeItem n ∷ earlier) n.name (none_here later earlier n (subst AreApart stands apart)) p
      ∙ ap (λ (c : Bool). (if c then own else firsts_among k earlier n.name) p) ((bytes_eq-Decides n.name n.name).1 refl)

  earlier_firsts : (items later earlier : List Item) (n : Node) → items ≡ later ++ NodeItem n ∷ earlier → AreApart items → (f : List ℕ) → IsTrue (has_node earlier f) → (p : Place) → firsts_among k earlier f p ≡ firsts_among k items f p
  earlier_firsts items later earlier n stands apart f there p =
      let split : items ≡ (later ++ NodeItem n ∷ []) ++ earlier = stands ∙ sym (append_assoc later (NodeItem n ∷ []) earlier) in
      sym (ap (λ (xs : List Item). firsts_among k xs f p) split ∙ firsts_behind (later ++ NodeItem n ∷ []) earlier f (none_later (later ++ NodeItem n ∷ []) earlier f (subst AreApart split apart) there) p)

  pub calls_begun : (items later earlier : List Item) (n : Node) → items ≡ later ++ NodeItem n ∷ earlier → AreApart items → EachCallIn (λ f here. IsTrue (has_node earlier f)) n.body in_body
      → EachCallIn (IsCalled earlier (firsts_among k items) (firsts_among k items n.name)) n.body in_body
  calls_begun items later earlier n stands apart h =
      in_scope k (firsts_among k earlier) (firsts_among k items n.name) earlier (firsts_among k items) (earlier_firsts items later earlier n stands apart)
      n.body (body_scope (scope_behind earlier) n) in_body (λ p. own_firsts items later earlier n stands apart (Body ∷ p)) (λ p w. w) h

pub bodies_ready : (types : List TypeDecl) (program later earlier : List Item) (n : Node) → reverse program ≡ later ++ NodeItem n ∷ earlier → AreApart (reverse program) → SoundBehind types (reverse program)
    → ReadyBlock (known_of program) (firsts_among (known_of program) (reverse program) n.name) BodyStanding (over (around_body (known_of program) n).0 unknown) base_site n.body in_body (around_body (known_of program) n).1
bodies_ready types program later earlier n stands apart sound =
    let k = known_of program in
    body_ready k types (node_among earlier) (firsts_among k earlier) (firsts_among k (reverse program) n.name) (scope_behind earlier) n (no_variables earlier) (grounded program later earlier n stands apart)
    (sound_at types later earlier n (subst (SoundBehind types) stands sound)) (λ p. own_firsts k (reverse program) later earlier n stands apart (Body ∷ p))
