-- Early values that are the same wherever an instant looks at them: the same instants come with both, so the same is permitted.
use Rattle.std.proofs.Common.{◌≡◌, ℕ, List, [], ◌∷◌, ◌++◌, refl, sym, ap, subst, ◌∙◌}
use Rattle.std.specs.Prelude.{Bool, true, false, IsTrue, if◌then◌else◌, reverse, All}
use Rattle.hp_base.specs.declared.value.Value.{Value}
use Rattle.hp_base.specs.declared.value.Value.TheVariants.{Star}
use Rattle.hp_tree.specs.declared.program.Item.{Item}
use Rattle.hp_tree.specs.Blocks.{Decl}
use Rattle.hp_tree.specs.Programs.{Node}
use Rattle.hp_tree.specs.Operators.{marked, is_there}
use Rattle.hp_tree.specs.Instant.{Controls, Named, Fresh, First, Second, Instance, Place, Instant, Past}
use Rattle.hp_tree.specs.Meaning.{types_of, node_among}
use Rattle.hp_meaning.specs.Causal.Agreement.{AgreeAtFree}
use Rattle.hp_meaning.specs.Causal.Points.{Placed}
use Rattle.hp_meaning.specs.Causal.Steering.{steered_by}
use Rattle.hp_meaning.proofs.CausalLemmas.LookedAt.{abstract_given}
use Rattle.hp_meaning.specs.Contract.FreePlaces.{IsAbstractOf, IsEarly, OutputFits, calls_of, declared_outputs, instance_at}
use Rattle.hp_meaning.specs.Contract.Game.{Choice, at_controls, IsNext, Permitted}
use Rattle.law_choices.specs.Chosen.Laws.{is_seen}
use Rattle.law_choices.proofs.ChosenLemmas.Seen.{each_of, seen_marks, seen_output}

-- the same at each early place at which an instant looks
abbrev pub SameWhereSeen : List Item → Node → Instant → Instant → Instant → Type 0
SameWhereSeen program n early others now = (q : Place) → IsEarly program n q → IsTrue (is_seen now q) → early q ≡ others q

module _ (program : List Item) (n : Node) (h : Past) (inputs : List Value) (early others : Instant) (c : Choice) (now : Instant) (same : SameWhereSeen program n early others now) (x : IsNext program n h inputs early c now) where
  -- what is given where the instant looks, and the other early values elsewhere
  abbrev beside : Instant
  beside p = if is_seen now p then x.free p else others p

  same-seen : (p : Place) → is_seen now p ≡ true → x.free p ≡ beside p
  same-seen p s = sym (ap (λ b. if b then x.free p else others p) s)

  agree : AgreeAtFree now (steered_by x.free (at_controls c)) (steered_by beside (at_controls c))
  agree = record { comparisons = by; outputs = at }
    where
      by : (p : Place) → now (p ++ (First ∷ [])) ≡ Star → now (p ++ (Second ∷ [])) ≡ Star → now p ≡ steered_by x.free (at_controls c) p → steered_by x.free (at_controls c) p ≡ steered_by beside (at_controls c) p
      by (Controls ∷ p) f t e = refl
      by p f t e = same-seen p (seen_marks now p f t)

      at : (p : Place) (y : List ℕ) → IsTrue (is_there (now (p ++ (Instance ∷ Fresh ∷ [])))) → now (p ++ (Instance ∷ Named y ∷ [])) ≡ marked (steered_by x.free (at_controls c) (p ++ (Instance ∷ Named y ∷ [])))
          → marked (steered_by x.free (at_controls c) (p ++ (Instance ∷ Named y ∷ []))) ≡ marked (steered_by beside (at_controls c) (p ++ (Instance ∷ Named y ∷ [])))
      at (Controls ∷ p) y t e = refl
      at p y t e = ap marked (same-seen (p ++ (Instance ∷ Named y ∷ [])) (seen_output now p y t))

  beside-others : (p : Place) → IsEarly program n p → beside p ≡ others p
  beside-others p e = by (is_seen now p) (same p e)
    where
      by : (b : Bool) → (IsTrue b → early p ≡ others p) → (if b then x.free p else others p) ≡ others p
      by true k = x.agrees p e ∙ k refl
      by false k = refl

  abbrev CallFits : Instant → Placed → Type 0
  CallFits given k = IsTrue (is_there (instance_at k now (Fresh ∷ []))) → All (OutputFits (types_of program) k given) (declared_outputs (node_among (reverse program) k.point.name))

  output-fits : (k : Placed) (d : Decl) → IsTrue (is_there (instance_at k now (Fresh ∷ []))) → OutputFits (types_of program) k x.free d → OutputFits (types_of program) k beside d
  output-fits k d t g = subst (IsAbstractOf (types_of program) d.ty) (same-seen (k.place ++ (Instance ∷ Named d.name ∷ [])) (seen_output now k.place d.name t)) g

  pub next-other : IsNext program n h inputs others c now
  next-other =
      record {
        free = beside;
        fits = record {
          comparisons = λ p f t e.
              let s = same-seen p (seen_marks now p f t) in
              let r = x.fits.comparisons p f t (e ∙ sym s) in
              (r.0, sym s ∙ r.1);
          outputs = each_of (CallFits x.free) (CallFits beside) (calls_of n)
              (λ k f t. each_of (OutputFits (types_of program) k x.free) (OutputFits (types_of program) k beside) (declared_outputs (node_among (reverse program) k.point.name)) (λ d g. output-fits k d t g) (f t)) x.fits.outputs;
        };
        agrees = beside-others;
        meets = abstract_given program n.name inputs h (steered_by x.free (at_controls c)) (steered_by beside (at_controls c)) now agree (λ q. refl) x.meets;
      }

-- So what is permitted with the ones is permitted with the others.
pub permitted-other : (program : List Item) (n : Node) (h : Past) (inputs : List Value) (early others : Instant) (c : Choice)
    → ((now : Instant) → IsNext program n h inputs others c now → SameWhereSeen program n others early now) → Permitted program n h inputs early c → Permitted program n h inputs others c
permitted-other program n h inputs early others c same P now x hyp = P now (next-other program n h inputs others early c now (same now x) x) hyp
