-- Gates of what a node assumes and enforces tell what its machine supposes and owes, where the node calls nothing.
use Rattle.std.proofs.Common.{◌≡◌, ℕ, Bool, List, [], ◌∷◌, refl, sym, ap, subst, ◌∙◌}
use Rattle.std.specs.Prelude.{◌&&◌, ◌||◌, not}
use Rattle.std.specs.List.{list_all}
use Rattle.std.proofs.Math.Bool.{and-true}
use Rattle.hp_base.specs.declared.value.Value.{Value}
use Rattle.hp_base.specs.declared.value.Value.TheVariants.{Absent, Nil, B, E, I, Star}
use Rattle.hp_tree.specs.Instant.{Assume, Enforce, Instant}
use Rattle.hp_tree.specs.Operators.{marked}
use Rattle.hp_tree.specs.Programs.{Node}
use Rattle.hp_meaning.specs.Causal.Points.{Placed}
use Rattle.hp_meaning.specs.Contract.Duties.{assumes, duty, enforces, holds_or_missing, hypothesis}
use Rattle.hp_meaning.specs.Contract.Forgetting.{erased}
use Rattle.hp_meaning.specs.Contract.FreePlaces.{calls_of, instance_at}
use Rattle.hp_boolx.specs.Machine.{Machine}
use Rattle.hp_boolx.specs.Search.{Bits}
use Rattle.hp_circuit.specs.declared.circuit.Circuit.{Circuit}
use Rattle.hp_circuit.specs.declared.circuit.Shape.TheVariants.{Truth}
use Rattle.hp_circuit.specs.Adding.{at}
use Rattle.hp_circuit.specs.Forms.{Carries}
use Rattle.hp_circuit.specs.Giving.{IsGateOf}
use Rattle.hp_circuit.specs.Machines.{IsMachineOf}
use Rattle.hp_circuit.specs.Meaning.{holds}
use Rattle.hp_drawing.specs.Told.{told_of}
use Rattle.law_drawing.specs.Uncalled.Laws.{UncalledLaw}
use Rattle.law_choices.specs.Playing.Drawn.{DrawnOwedLaw}

-- ---- what a node supposes and owes that calls nothing

holds-marked : (v : Value) → holds_or_missing (marked v) ≡ holds_or_missing v
holds-marked Absent = refl
holds-marked Nil = refl
holds-marked (B b) = refl
holds-marked (E t c) = refl
holds-marked (I n) = refl
holds-marked Star = refl

pub supposed-alone : (n : Node) → calls_of n ≡ [] → (now : Instant) → hypothesis n (erased now) ≡ assumes now
supposed-alone n none now =
    ap (λ (cs : List Placed). assumes (erased now) && list_all (λ c. not (assumes (instance_at c (erased now))) || enforces (instance_at c (erased now))) cs) none ∙ and-true (assumes (erased now)) ∙ holds-marked (now (Assume ∷ []))

pub owed-alone : (n : Node) → calls_of n ≡ [] → (now : Instant) → duty n (erased now) ≡ enforces now
owed-alone n none now = ap (λ (cs : List Placed). enforces (erased now) && list_all (λ c. assumes (instance_at c (erased now))) cs) none ∙ and-true (enforces (erased now)) ∙ holds-marked (now (Enforce ∷ []))

-- ---- gates

-- over plain values, so that gates are not unfolded
joined-values : (a b c d : Bool) → a ≡ b → b ≡ c → d ≡ c → a ≡ d
joined-values a b c d e f g = e ∙ f ∙ sym g

-- two gates of one wire have one value
module _ (name : List ℕ) (c : Circuit) (m : Machine) (made : IsMachineOf name c m) where
  one-wire : (w u gate other : ℕ) → IsGateOf c made.places m.gates w gate → Carries c.shapes.items u Truth → w ≡ u → (v : Bits) → at m.gates v other ≡ holds ((made.meant v).numbers u) → at m.gates v gate ≡ at m.gates v other
  one-wire w u gate other g carries e v h =
      let meant = made.meant v in
      joined-values (at m.gates v gate) (holds (meant.numbers w)) (holds (meant.numbers u)) (at m.gates v other)
      (g.value (subst (λ k. Carries c.shapes.items k Truth) (sym e) carries) v meant.numbers meant.solves) (ap (λ k. holds (meant.numbers k)) e) h

pub drawn_owed_law : UncalledLaw → DrawnOwedLaw
drawn_owed_law uncalled program n c m is made none assume enforce a e =
    let own = uncalled (told_of program) n none in
    let form = made.form in
    let same_hyp : c.assume ≡ c.hyp = is.assume ∙ own.assume ∙ sym own.hyp ∙ sym is.hyp in
    record {
      assume_there = a.there;
      enforce_there = e.there;
      supposes = λ v. one-wire n.name c m made c.assume c.hyp assume m.hyp a form.hyp same_hyp v (made.meant v).hyp;
      owes = λ v. one-wire n.name c m made _ c.duty enforce m.duty e form.duty (sym own.duty ∙ sym is.duty) v (made.meant v).duty;
    }
