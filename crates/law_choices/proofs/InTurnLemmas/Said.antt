-- What is said of all nodes.
use Rattle.std.proofs.Common.{◌≡◌, ℕ, Bool, true, false, if◌then◌else◌, List, [], ◌∷◌, refl, sym, ap, ◌∙◌}
use Rattle.std.specs.List.{AllByRecursion}
use Rattle.std.specs.Str.{bytes_eq}
use Rattle.hp_obc.specs.Machines.{ObcType}
use Rattle.hp_automata.specs.NewNames.{is_new}
use Rattle.law_automata.proofs.LoweredLemmas.Apart.{bytes_same, bytes_differ}
use Rattle.hp_flat.specs.declared.node.Variable.{Variable}
use Rattle.hp_flat.specs.Nodes.{FlatNode}
use Rattle.law_equations.specs.Meaning.Kinding.{Callees, HasValue, kinds_at}
use Rattle.law_equations.specs.Meaning.Reactions.{inputs_of}
use Rattle.law_equations.specs.Shaped.Shaped.{IsHeaded}
use Rattle.law_choices.specs.OnClocks.Meaning.{HasSome}
use Rattle.law_choices.proofs.OnClocksLemmas.Meanings.{kinds_some}
use Rattle.law_choices.specs.InTurn.Nodes.{also_said}

-- two say the same of a name
abbrev pub SaySame : Callees → Callees → List ℕ → Type 0
SaySame callees others f = (others.takes f ≡ callees.takes f) × (others.gives f ≡ callees.gives f)

module _ (types : List ObcType) (callees : Callees) where
  pub passed : (n : FlatNode) (ns : List FlatNode) (f : List ℕ) → bytes_eq n.name f ≡ false → SaySame (also_said types ns callees) (also_said types (n ∷ ns) callees) f
  passed n ns f e = (
    ap (λ b. if b then kinds_at types n (inputs_of n) else (also_said types ns callees).takes f) e,
    ap (λ b. if b then kinds_at types n n.outputs else (also_said types ns callees).gives f) e,
  )

  pub said_own : (n : FlatNode) (ns : List FlatNode) → IsHeaded types (also_said types (n ∷ ns) callees) n
  said_own n ns = record {
    takes = ap (λ b. if b then kinds_at types n (inputs_of n) else (also_said types ns callees).takes n.name) (bytes_same n.name);
    gives = ap (λ b. if b then kinds_at types n n.outputs else (also_said types ns callees).gives n.name) (bytes_same n.name);
  }

  -- of a name without the sign the same is said, where all these nodes have it
  pub said_old : (ns : List FlatNode) (f : List ℕ) → AllByRecursion (λ (n : FlatNode). is_new n.name ≡ true) ns → is_new f ≡ false → SaySame callees (also_said types ns callees) f
  said_old [] f h g = (refl, refl)
  said_old (n ∷ ns) f h g =
      let apart : bytes_eq n.name f ≡ false = bytes_differ n.name f (λ e. absurd (let r : true ≡ false = sym h.0 ∙ ap is_new e ∙ g in cc)) in
      let here = passed n ns f apart in
      let later = said_old ns f h.1 g in
      (here.0 ∙ later.0, here.1 ∙ later.1)

  -- what is given has values
  pub said_some : (ns : List FlatNode) → AllByRecursion (λ (n : FlatNode). AllByRecursion (λ (v : Variable). HasValue types v.ty) n.variables) ns → ((f : List ℕ) → AllByRecursion HasSome (callees.gives f))
      → (f : List ℕ) → AllByRecursion HasSome ((also_said types ns callees).gives f)
  said_some [] h g f = g f
  said_some (n ∷ ns) h g f = by (bytes_eq n.name f) (said_some ns h.1 g f)
    where
      by : (b : Bool) → AllByRecursion HasSome ((also_said types ns callees).gives f) → AllByRecursion HasSome (if b then kinds_at types n n.outputs else (also_said types ns callees).gives f)
      by true later = kinds_some types n n.outputs h.0
      by false later = later
