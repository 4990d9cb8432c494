-- What the parts of an automaton know of it.
use Rattle.std.proofs.Common.{◌≡◌, ℕ, suc, ◌+◌, ◌<◌, ◌≤◌, get_or, length, drop, map, Bool, true, false, cond, if◌then◌else◌, List, [], ◌∷◌, Option, Some, refl, sym, ap, ◌∙◌}
use Rattle.std.proofs.Math.Numerals.{add-one}
use Rattle.hp_base.specs.declared.span.Span.{Span}
use Rattle.hp_tree.specs.Blocks.{no_state, states_of}
use Rattle.hp_tree.specs.BlockView.{state_seen}
use Rattle.hp_tree.specs.declared.block.State.{State}
use Rattle.hp_tree.specs.Meaning.{number_of}
use Rattle.hp_tables.specs.Defining.Names.{names_of_states}
use Rattle.hp_automata.specs.Names.{once}
use Rattle.hp_automata.specs.Lowering.{Frame, count_of, frame}
use Rattle.hp_automata.specs.Held.{or_first, put_target}
use Rattle.hp_automata.proofs.ListLaws.{drop-next, drop-end}

pub chosen : (d : Bool) (k : ℕ) (o : Option ℕ) → or_first (cond d (Some k) o) ≡ (if d then k else or_first o)
chosen true k o = refl
chosen false k o = refl

-- ---- the numbers of states

pub numbers-end : (qs : List State) (i : ℕ) → length qs ≤ i → number_of 0 no_state ≡ number_of i (states_of (map state_seen (drop i qs)))
numbers-end qs i h = sym (ap (λ more. number_of i (states_of (map state_seen more))) (drop-end qs i h))

pub numbers-next : (qs : List State) (i k : ℕ) (q : State) → k ≡ i + 1 → i < length qs → q ≡ get_or qs i q
    → put_target (number_of k (states_of (map state_seen (drop k qs)))) q.name i ≡ number_of i (states_of (map state_seen (drop i qs)))
numbers-next qs i k q next h p =
    let rest = states_of (map state_seen (drop k qs)) in
    let higher : k ≡ suc i = next ∙ add-one i in
    ap (λ m. put_target (number_of m rest) q.name i) higher
    ∙ ap (λ m. number_of i (states_of (state_seen q ∷ map state_seen (drop m qs)))) next
    ∙ sym (ap (λ more. number_of i (states_of (map state_seen more))) (drop-next qs i q h p))

pub count-length : (qs : List State) → count_of (states_of (map state_seen qs)) ≡ length qs
count-length [] = refl
count-length (q ∷ qs) = ap (λ n. n + 1) (count-length qs) ∙ add-one (length qs)

abbrev pub made : Span → ℕ → ℕ → (List ℕ → ℕ) → List (List ℕ) → Frame
made s d n target names = record { at = s; depth = d; count = n; target = target; names = names }

pub framed : (s : Span) (d n : ℕ) (target : List ℕ → ℕ) (names : List (List ℕ)) (qs : List State) → n ≡ length qs → target ≡ number_of 0 (states_of (map state_seen qs))
    → names ≡ once (names_of_states (states_of (map state_seen qs))) → made s d n target names ≡ frame s d (states_of (map state_seen qs))
framed s d n target names qs count targets named =
    let counted = count ∙ sym (count-length qs) in
    λ j. made s d (counted j) (targets j) (named j)
