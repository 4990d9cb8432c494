-- A node among the items of a program.
use Rattle.std.proofs.Common.{◌≡◌, ℕ, List, [], ◌∷◌, ◌++◌, refl, ◌∙◌}
use Rattle.std.specs.Prelude.{Bool, true, false, ◌||◌, if◌then◌else◌, IsTrue, IsFalse, Some}
use Rattle.std.specs.Str.{bytes_eq}
use Rattle.std.proofs.lemmas.Slice.Eq.{bytes_eq-Decides}
use Rattle.hp_tree.specs.declared.program.Item.{Item}
use Rattle.hp_tree.specs.declared.program.Item.TheVariants.{TypeItem, NodeItem}
use Rattle.hp_tree.specs.Programs.{TypeDecl, Node}
use Rattle.hp_tree.specs.Instant.{Instant}
use Rattle.hp_tree.specs.Meaning.{node_among}
use Rattle.hp_meaning.specs.Causal.Causality.{Ranked, IsRanked}
use Rattle.law_judged.specs.Named.Scoped.{EachNode}
use Rattle.law_values.specs.Valued.Given.{NodeGiven}
use Rattle.law_values.specs.Valued.Values.{scope_behind, either_of, Classing, class_here, class_behind, NodeAccepted, AreAccepted, GivenFits}
use Rattle.law_equations.specs.Answered.Answering.{has_node}
use Rattle.law_equations.proofs.AnsweredLemmas.AnswerLaws.{others_unnamed, unnamed}
use Rattle.law_wellmade.specs.Timely.Tested.{NodeTested, AreTested}
use Rattle.law_wellmade.proofs.TimelyLemmas.Actual.{first}

pub record Accepted (types : List TypeDecl) (n : Node) (earlier : List Item) : Type 0 where
  pub class : Classing
  pub node : NodeAccepted types (node_among earlier) (scope_behind earlier) (class_here class) n
  pub others : AreAccepted types (class_behind class) earlier

pub accepted_at : (types : List TypeDecl) (later : List Item) (n : Node) (earlier : List Item) (class : Classing) → AreAccepted types class (later ++ NodeItem n ∷ earlier) → Accepted types n earlier
accepted_at types [] n earlier class ok = record { class = class; node = ok.0; others = ok.1 }
accepted_at types (TypeItem t ∷ later) n earlier class ok = accepted_at types later n earlier class ok
accepted_at types (NodeItem m ∷ later) n earlier class ok = accepted_at types later n earlier (class_behind class) ok.1

pub tested_at : (types : List TypeDecl) (later : List Item) (n : Node) (earlier : List Item) → AreTested types (later ++ NodeItem n ∷ earlier) → NodeTested types (scope_behind earlier) n
tested_at types [] n earlier h = h.0
tested_at types (TypeItem t ∷ later) n earlier h = tested_at types later n earlier h
tested_at types (NodeItem m ∷ later) n earlier h = tested_at types later n earlier h.1

pub ranked_at : (later : List Item) (n : Node) (earlier : List Item) → IsRanked (later ++ NodeItem n ∷ earlier) → Ranked n × IsRanked earlier
ranked_at [] n earlier h = h
ranked_at (TypeItem t ∷ later) n earlier h = ranked_at later n earlier h
ranked_at (NodeItem m ∷ later) n earlier h = ranked_at later n earlier h.1

first_unnamed : (c d : Bool) → IsFalse (c || d) → IsFalse c
first_unnamed true d h = absurd (cc)
first_unnamed false d h = refl

pub given_at : (types : List TypeDecl) (later : List Item) (n : Node) (earlier : List Item) (free : Instant) → IsFalse (has_node later n.name) → GivenFits types false first (later ++ NodeItem n ∷ earlier) n.name free → NodeGiven types false first (GivenFits types false first earlier) (scope_behind earlier) n free
given_at types [] n earlier free f h = by (bytes_eq n.name n.name) ((bytes_eq-Decides n.name n.name).1 refl) h
  where
    by : (d : Bool) → IsTrue d → either_of d (NodeGiven types false first (GivenFits types false first earlier) (scope_behind earlier) n free) (GivenFits types false first earlier n.name free) → NodeGiven types false first (GivenFits types false first earlier) (scope_behind earlier) n free
    by true e h = h
    by false e h = absurd (cc)
given_at types (TypeItem t ∷ later) n earlier free f h = given_at types later n earlier free f h
given_at types (NodeItem m ∷ later) n earlier free f h =
    given_at types later n earlier free (others_unnamed (bytes_eq m.name n.name) (has_node later n.name) f)
    (by (bytes_eq m.name n.name) (first_unnamed (bytes_eq m.name n.name) (has_node later n.name) f) h)
  where
    by : (d : Bool) → IsFalse d → either_of d (NodeGiven types false first (GivenFits types false first (later ++ NodeItem n ∷ earlier)) (scope_behind (later ++ NodeItem n ∷ earlier)) m free) (GivenFits types false first (later ++ NodeItem n ∷ earlier) n.name free) → GivenFits types false first (later ++ NodeItem n ∷ earlier) n.name free
    by true e h = absurd (cc)
    by false e h = h

pub among_behind : (later xs : List Item) (f : List ℕ) → IsFalse (has_node later f) → node_among (later ++ xs) f ≡ node_among xs f
among_behind [] xs f h = refl
among_behind (TypeItem t ∷ later) xs f h = among_behind later xs f h
among_behind (NodeItem m ∷ later) xs f h = unnamed (bytes_eq m.name f) (has_node later f) (Some m) (node_among (later ++ xs) f) h ∙ among_behind later xs f (others_unnamed (bytes_eq m.name f) (has_node later f) h)

pub has_among : (items : List Item) (f : List ℕ) (m : Node) → node_among items f ≡ Some m → IsTrue (has_node items f)
has_among [] f m e = absurd (cc)
has_among (TypeItem t ∷ items) f m e = has_among items f m e
has_among (NodeItem n ∷ items) f m e = by (bytes_eq n.name f) e (λ g. has_among items f m g)
  where
    by : (b : Bool) → (if b then Some n else node_among items f) ≡ Some m → (node_among items f ≡ Some m → IsTrue (has_node items f)) → IsTrue (b || has_node items f)
    by true e g = refl
    by false e g = g e

pub each_at : (P : Node → Type 0) (later : List Item) (n : Node) (earlier : List Item) → EachNode P (later ++ NodeItem n ∷ earlier) → P n × EachNode P earlier
each_at P [] n earlier h = h
each_at P (TypeItem t ∷ later) n earlier h = each_at P later n earlier h
each_at P (NodeItem m ∷ later) n earlier h = each_at P later n earlier h.1
