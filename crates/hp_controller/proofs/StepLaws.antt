-- Registers follow their machine.
use Rattle.std.proofs.Common.{◌≡◌, ℕ, zero, suc, ◌+◌, Bool, List, [], ◌∷◌, ◌++◌, length, map, refl, sym, ap, ap₂, ◌∙◌, arith}
use Rattle.std.specs.List.{AllByRecursion, range_with_len}
use Rattle.std.proofs.lemmas.List.{length-append}
use Rattle.hp_base.specs.declared.value.Value.{Value}
use Rattle.hp_base.specs.declared.value.Value.TheVariants.{B}
use Rattle.hp_boolx.specs.Machine.{Machine, IsMachine, game, at_gate}
use Rattle.hp_boolx.specs.Search.{Bits}
use Rattle.hp_boolx.specs.Game.{joined}
use Rattle.hp_flat.specs.declared.equation.Atom.TheVariants.{Variable as Read}
use Rattle.law_equations.specs.Meaning.Instants.{Instant, atom, atoms, history, since, is_true}
use Rattle.law_equations.specs.Meaning.Reactions.{Answers, Holds}
use Rattle.hp_controller.specs.Gates.{gate_at, gate_eqns, HaveBits}
use Rattle.hp_controller.specs.Steps.{register_eqns, asking_eqn, Placing, register_places, control_places, places, step_eqns, bits_of, AreBits, AlwaysHold, state_after, StepsLaw, IsRow, AnswersAsController, AnswersLaw, IsSteered, AlwaysSteered, SteeredLaw}
use Rattle.hp_controller.proofs.ControllerLaws.{first_of, rest_of, in_front, behind}
use Rattle.hp_controller.proofs.GateLaws.{gate_read}

have_bits : (i : Instant) (xs : List ℕ) → AreBits i xs → HaveBits xs i (bits_of i xs)
have_bits i [] h x = refl
have_bits i (y ∷ ys) h zero = h.0
have_bits i (y ∷ ys) h (suc x) = have_bits i ys h.1 x

bits_append : (i : Instant) (xs ys : List ℕ) → bits_of i (xs ++ ys) ≡ bits_of i xs ++ bits_of i ys
bits_append i [] ys = refl
bits_append i (x ∷ xs) ys = ap (λ bs. is_true (i x) ∷ bs) (bits_append i xs ys)

-- at first
first_values : (answers : Answers) (now : Instant) (first gates count : ℕ) (init : Bits) (next : List ℕ) → length init ≡ length next → AllByRecursion (Holds answers [] now) (register_eqns first gates count init next)
    → map now (range_with_len first (length init)) ≡ map (λ b. B b) init
first_values answers now first gates count [] next same h = refl
first_values answers now first gates count (b ∷ init) [] same h = absurd (omega (arith, same))
first_values answers now first gates count (b ∷ init) (n ∷ next) same h =
    ap₂ (λ v vs. v ∷ vs) (ap first_of (h.0 refl)) (first_values answers now (first + 1) gates count init next (omega (arith, same)) h.1)

-- and later: what the gates had before
next_values : (answers : Answers) (now i : Instant) (past : List Instant) (first gates count : ℕ) (init : Bits) (next : List ℕ) → length init ≡ length next → AllByRecursion (Holds answers (i ∷ past) now) (register_eqns first gates count init next)
    → map now (range_with_len first (length init)) ≡ map (λ n. atom i (gate_at gates count n)) next
next_values answers now i past first gates count [] [] same h = refl
next_values answers now i past first gates count [] (n ∷ next) same h = absurd (omega (arith, same))
next_values answers now i past first gates count (b ∷ init) [] same h = absurd (omega (arith, same))
next_values answers now i past first gates count (b ∷ init) (n ∷ next) same h =
    ap₂ (λ v vs. v ∷ vs) (ap first_of (h.0 refl)) (next_values answers now i past (first + 1) gates count init next (omega (arith, same)) h.1)

each_mapped : (f : ℕ → Value) (g : ℕ → Bool) → ((n : ℕ) → f n ≡ B (g n)) → (ns : List ℕ) → map f ns ≡ map (λ b. B b) (map g ns)
each_mapped f g h [] = refl
each_mapped f g h (n ∷ ns) = ap₂ (λ v vs. v ∷ vs) (h n) (each_mapped f g h ns)

pub steps : StepsLaw
steps m p name answers now past machine hold bits = by past hold bits
  where
    sizes : length m.init ≡ length m.next
    sizes = machine.init ∙ sym machine.next

    registers : (past : List Instant) (now : Instant) → AllByRecursion (Holds answers past now) (step_eqns m p name) → AllByRecursion (Holds answers past now) (register_eqns p.registers p.gates (length m.gates) m.init m.next)
    registers past now h =
        in_front (Holds answers past now) (register_eqns p.registers p.gates (length m.gates) m.init m.next) (asking_eqn name (register_places m p ++ p.early) p.control m.control ∷ gate_eqns (places m p) p.gates 0 m.gates) h

    gates : (past : List Instant) (now : Instant) → AllByRecursion (Holds answers past now) (step_eqns m p name) → AllByRecursion (Holds answers past now) (gate_eqns (places m p) p.gates 0 m.gates)
    gates past now h =
        let rest = behind (Holds answers past now) (register_eqns p.registers p.gates (length m.gates) m.init m.next) (asking_eqn name (register_places m p ++ p.early) p.control m.control ∷ gate_eqns (places m p) p.gates 0 m.gates) h in
        rest.1

    by : (past : List Instant) → AlwaysHold answers (step_eqns m p name) (now ∷ past) → AllByRecursion (λ (i : Instant). AreBits i (places m p)) past → map now (register_places m p) ≡ map (λ b. B b) (state_after m p past)
    by [] h b =
        ap (λ n. map now (range_with_len p.registers n)) (sym machine.init) ∙ first_values answers now p.registers p.gates (length m.gates) m.init m.next sizes (registers [] now h.0)
    by (i ∷ past) h b =
        let v = bits_of i (places m p) in
        let joins : v ≡ joined (bits_of i (register_places m p)) (bits_of i p.early) (bits_of i (control_places m p)) (bits_of i p.late) =
        bits_append i (register_places m p) (p.early ++ (control_places m p ++ p.late))
        ∙ ap (λ bs. bits_of i (register_places m p) ++ bs) (bits_append i p.early (control_places m p ++ p.late) ∙ ap (λ bs. bits_of i p.early ++ bs) (bits_append i (control_places m p) p.late)) in
        ap (λ n. map now (range_with_len p.registers n)) (sym machine.init)
        ∙ next_values answers now i past p.registers p.gates (length m.gates) m.init m.next sizes (registers (i ∷ past) now h.0)
        ∙ each_mapped (λ n. atom i (gate_at p.gates (length m.gates) n)) (λ n. at_gate m v n) (gate_read answers past i (places m p) p.gates m.gates v (have_bits i (places m p) b.0) (gates past i h.1.0)) m.next
        ∙ ap (λ w. map (λ b. B b) ((game m).next w)) joins

-- ---- with a controller

are_bits : (now : Instant) (xs : List ℕ) (bs : Bits) → map now xs ≡ map (λ b. B b) bs → AreBits now xs
are_bits now [] bs h = tt
are_bits now (x ∷ xs) [] h = absurd cc
are_bits now (x ∷ xs) (b ∷ bs) h =
    let here : now x ≡ B b = ap first_of h in
    (here ∙ sym (ap (λ v. B (is_true v)) here), are_bits now xs bs (ap rest_of h))

read_bits : (now : Instant) (xs : List ℕ) → AreBits now xs → map now xs ≡ map (λ b. B b) (bits_of now xs)
read_bits now [] h = refl
read_bits now (x ∷ xs) h = ap₂ (λ v vs. v ∷ vs) h.0 (read_bits now xs h.1)

bits_both : (now : Instant) (xs ys : List ℕ) → AreBits now xs → AreBits now ys → AreBits now (xs ++ ys)
bits_both now [] ys h g = g
bits_both now (x ∷ xs) ys h g = (h.0, bits_both now xs ys h.1 g)

mapped_both : (f : ℕ → Value) (xs ys : List ℕ) → map f (xs ++ ys) ≡ map f xs ++ map f ys
mapped_both f [] ys = refl
mapped_both f (x ∷ xs) ys = ap (λ vs. f x ∷ vs) (mapped_both f xs ys)

values_both : (xs ys : Bits) → map (λ b. B b) (xs ++ ys) ≡ map (λ b. B b) xs ++ map (λ b. B b) ys
values_both [] ys = refl
values_both (x ∷ xs) ys = ap (λ vs. B x ∷ vs) (values_both xs ys)

asked : (now : Instant) (xs : List ℕ) → map (atom now) (map (λ x. Read x) xs) ≡ map now xs
asked now [] = refl
asked now (x ∷ xs) = ap (λ vs. now x ∷ vs) (asked now xs)

bits_many : (now : Instant) (xs : List ℕ) → length (bits_of now xs) ≡ length xs
bits_many now [] = refl
bits_many now (x ∷ xs) = ap suc (bits_many now xs)

gates_many : (f : ℕ → Bool) (ns : List ℕ) → length (map f ns) ≡ length ns
gates_many f [] = refl
gates_many f (n ∷ ns) = ap suc (gates_many f ns)

module _ (m : Machine) (p : Placing) (name : List ℕ) (answers : Answers) (machine : IsMachine m) (as_many : length p.early ≡ m.early) (controller : AnswersAsController answers m name) where
  state_many : (past : List Instant) → length (state_after m p past) ≡ m.registers
  state_many [] = machine.init
  state_many (now ∷ past) = gates_many (λ n. at_gate m (joined (bits_of now (register_places m p)) (bits_of now p.early) (bits_of now (control_places m p)) (bits_of now p.late)) n) m.next ∙ machine.next

  all_bits : (past : List Instant) (now : Instant) → IsSteered m p past now → AreBits now p.early → AreBits now p.late → AreBits now (places m p)
  all_bits past now s e l =
      bits_both now (register_places m p) (p.early ++ (control_places m p ++ p.late)) (are_bits now (register_places m p) (state_after m p past) s.registers)
      (bits_both now p.early (control_places m p ++ p.late) e (bits_both now (control_places m p) p.late (are_bits now (control_places m p) s.choice s.controls) l))

  each_bits : (past : List Instant) → AlwaysSteered m p past → AllByRecursion (λ (i : Instant). AreBits i p.early × AreBits i p.late) past → AllByRecursion (λ (i : Instant). AreBits i (places m p)) past
  each_bits [] s b = tt
  each_bits (now ∷ past) s b = (all_bits past now s.0 b.0.0 b.0.1, each_bits past s.1 b.1)

  asking : (past : List Instant) (now : Instant) → AllByRecursion (Holds answers past now) (step_eqns m p name) → Holds answers past now (asking_eqn name (register_places m p ++ p.early) p.control m.control)
  asking past now h =
      let rest = behind (Holds answers past now) (register_eqns p.registers p.gates (length m.gates) m.init m.next) (asking_eqn name (register_places m p ++ p.early) p.control m.control ∷ gate_eqns (places m p) p.gates 0 m.gates) h in
      rest.0

  -- what is asked at an instant
  given : (past : List Instant) (now : Instant) → map now (register_places m p) ≡ map (λ b. B b) (state_after m p past) → AreBits now p.early → atoms now (map (λ x. Read x) (register_places m p ++ p.early)) ≡ map (λ b. B b) (state_after m p past ++ bits_of now p.early)
  given past now registers early =
      asked now (register_places m p ++ p.early) ∙ mapped_both now (register_places m p) p.early
      ∙ ap₂ (λ vs ws. vs ++ ws) registers (read_bits now p.early early)
      ∙ sym (values_both (state_after m p past) (bits_of now p.early))

  row_is : (past : List Instant) (now : Instant) → map now (register_places m p) ≡ map (λ b. B b) (state_after m p past) → AreBits now p.early → IsRow m (atoms now (map (λ x. Read x) (register_places m p ++ p.early)))
  row_is past now registers early = (
    state_after m p past ++ bits_of now p.early,
    length-append (state_after m p past) (bits_of now p.early) ∙ ap₂ (λ a b. a + b) (state_many past) (bits_many now p.early ∙ as_many),
    given past now registers early,
  )

  rows : (past : List Instant) → AlwaysSteered m p past → AllByRecursion (λ (i : Instant). AreBits i p.early × AreBits i p.late) past → AllByRecursion (IsRow m) (history [] [] (λ (i : Instant). atoms i (map (λ x. Read x) (register_places m p ++ p.early))) past)
  rows [] s b = tt
  rows (now ∷ past) s b = let here = s.0 in (row_is past now here.registers b.0.0, rows past s.1 b.1)

  steered : (instants : List Instant) → AlwaysHold answers (step_eqns m p name) instants → AllByRecursion (λ (i : Instant). AreBits i p.early × AreBits i p.late) instants → AlwaysSteered m p instants
  steered [] h b = tt
  steered (now ∷ past) h b =
      let before = steered past h.1 b.1 in
      let registers = steps m p name answers now past machine h (each_bits past before b.1) in
      let earlier = since [] [] (λ (i : Instant). atoms i (map (λ x. Read x) (register_places m p ++ p.early))) past now in
      let told = controller (state_after m p past) (bits_of now p.early) earlier (state_many past) (bits_many now p.early ∙ as_many) (rows past before b.1) in (
        record { registers = registers; choice = told.0; chosen = told.1; controls = asking past now h.0 refl ∙ ap (λ vs. answers name vs earlier) (given past now registers b.0.0) ∙ told.2 },
        before,
      )

pub steered_law : SteeredLaw
steered_law m p name answers instants machine as_many controller hold bits = steered m p name answers machine as_many controller instants hold bits

pub controllers_answer : AnswersLaw
controllers_answer m node answers controller gives r u earlier lr lu rows =
    let size : length (r ++ u) ≡ m.registers + m.early = length-append r u ∙ ap₂ (λ a b. a + b) lr lu in
    let answer = gives (map (λ b. B b) (r ++ u)) earlier (r ++ u, size, refl) rows in
    let told = controller.gives answers answer.1 r u answer.0 lr lu (answer.2.1) in
    (told.0, told.1, answer.3 ∙ told.2)
