-- What a history leaves in memory: the value of each register after it, and its bits.
-- Source: own. A register without a past holds zeros, a `last` variable its constant, and an automaton its first state without a pending restart. What a block holds is of its own past.
use Rattle.std.specs.Prelude.{ℕ, Bool, true, false, if◌then◌else◌, List, [], ◌∷◌, ◌++◌, Option, None, Some, reverse}
use Rattle.std.specs.Str.{bytes_eq}
use Rattle.hp_base.specs.declared.value.Value.{Value}
use Rattle.hp_base.specs.declared.value.Value.TheVariants.{Absent, Nil, B, E}
use Rattle.hp_tree.specs.declared.block.Trans.{Trans}
use Rattle.hp_tree.specs.declared.program.Item.{Item}
use Rattle.hp_tree.specs.Expressions.{Expr, constant, variable, last_of, one, two, choose, pre, fby, arrow, when_is, merge, call, Exprs, no_expr, more_exprs, Parts, no_part, more_parts}
use Rattle.hp_tree.specs.Blocks.{Decl, Block, block, Eqns, no_eqn, more_eqns, Eqn, define, switch, reset, automaton, Arms, no_arm, more_arms, States, no_state, more_states}
use Rattle.hp_tree.specs.Programs.{TypeDecl, Contract, Node}
use Rattle.hp_tree.specs.Operators.{abstraction, constant_of}
use Rattle.hp_tree.specs.Instant.{Body, Observer, Assume, Enforce, Named, Fresh, Equations, Head, Tail, Right, Test, Arms as ArmsOf, States as StatesOf, Until, Unless, First, Second, Third, Args, Instance, Instant, Past, part, parts, top, own, newest, at_first, nothing, with_one, with_two, with_three, in_row, with_row, with_instance, of_two, in_block, in_right, with_arms, with_body, in_state, with_words, in_observer}
use Rattle.hp_tree.specs.Meaning.{Names, absent, lasts, state_word, selected, types_of, node_among}
use Rattle.hp_meaning.specs.Contract.Codes.{to_bits}
use Rattle.hp_meaning.specs.Contract.Slots.{width_of, Register, registers, zero_at}

-- A memory holds a value at the place of a register; of `fby` and `->` at the word whether it begins anew, whether there is a past.
abbrev pub remembering : Value → Value → Instant → Instant → Instant
remembering v b i j [] = v
remembering v b i j (Fresh ∷ []) = b
remembering v b i j (First ∷ p) = i p
remembering v b i j (Second ∷ p) = j p
remembering v b i j p = Absent

abbrev pub has_past : Past → Value
has_past past = at_first past (B false) (B true)

-- a name that is declared `last` here
abbrev pub is_last : List Decl → List ℕ → Bool
is_last [] x = false
is_last (d ∷ ds) x = if bytes_eq d.name x then (elim d.last [ None ↦ false | Some c ↦ true ]) else is_last ds x

-- `callee` is what is remembered of an instance of the node of a name
module _ (types : List TypeDecl) (callee : List ℕ → Instant → Past → Instant) where
  -- the `last` variables of a block
  abbrev remembered_lasts : List Decl → Past → Names
  remembered_lasts ds past x = if is_last ds x then lasts (λ c. abstraction.constant (constant_of types c)) ds past absent x else Absent

  abbrev mutual
    pub remembers : Expr → Instant → Past → Instant
    remembers (constant s c) zero past = nothing
    remembers (variable s x) zero past = nothing
    remembers (last_of s x) zero past = nothing
    remembers (one s o a) zero past = with_one Absent (remembers a (part First zero) (parts First past))
    remembers (two s o a b) zero past =
        with_two Absent (remembers a (part First zero) (parts First past)) (remembers b (part Second zero) (parts Second past))
    remembers (choose s a b c) zero past =
        with_three Absent (remembers a (part First zero) (parts First past)) (remembers b (part Second zero) (parts Second past)) (remembers c (part Third zero) (parts Third past))
    remembers (pre s a) zero past =
        remembering (newest (top zero) (parts First past)) Absent (remembers a (part First zero) (parts First past)) nothing
    remembers (fby s a b) zero past =
        remembering (at_first (parts First past) (top zero) (newest Nil (parts Second past))) (has_past (parts First past))
        (remembers a (part First zero) (parts First past)) (remembers b (part Second zero) (parts Second past))
    remembers (arrow s a b) zero past =
        remembering Absent (has_past (parts First past)) (remembers a (part First zero) (parts First past)) (remembers b (part Second zero) (parts Second past))
    remembers (when_is s a c x) zero past = with_one Absent (remembers a (part First zero) (parts First past))
    remembers (merge s x ps) zero past = with_row Absent (remembers_parts ps (part Args zero) (parts Args past))
    remembers (call s f inlined es) zero past =
        with_instance Absent (remembers_all es (part Args zero) (parts Args past)) (callee f (part Instance zero) (own (parts Instance past)))

    pub remembers_all : Exprs → Instant → Past → List Instant
    remembers_all no_expr zero past = []
    remembers_all (more_exprs e es) zero past = remembers e (part Head zero) (parts Head past) ∷ remembers_all es (part Tail zero) (parts Tail past)

    pub remembers_parts : Parts → Instant → Past → List Instant
    remembers_parts no_part zero past = []
    remembers_parts (more_parts c e ps) zero past = remembers e (part Head zero) (parts Head past) ∷ remembers_parts ps (part Tail zero) (parts Tail past)

  abbrev pub remembers_conditions : List Trans → Instant → Past → List Instant
  remembers_conditions [] zero past = []
  remembers_conditions (t ∷ ts) zero past = remembers t.cond (part Head zero) (parts Head past) ∷ remembers_conditions ts (part Tail zero) (parts Tail past)

  abbrev mutual
    pub remembers_block : Block → Instant → Past → Instant
    remembers_block (block ds es) zero past = in_block (remembered_lasts ds past) Absent (remembers_equations es (part Equations zero) (parts Equations past))

    pub remembers_equations : Eqns → Instant → Past → Instant
    remembers_equations no_eqn zero past = nothing
    remembers_equations (more_eqns e es) zero past =
        of_two (remembers_equation e (part Head zero) (parts Head past)) (remembers_equations es (part Tail zero) (parts Tail past))

    pub remembers_equation : Eqn → Instant → Past → Instant
    remembers_equation (define s ys e) zero past = in_right (remembers e (part Right zero) (parts Right past))
    remembers_equation (switch s e arms) zero past =
        with_arms (remembers e (part Test zero) (parts Test past)) (remembers_arms arms (part ArmsOf zero) (parts ArmsOf past))
    remembers_equation (reset s b e) zero past =
        with_body (remembers e (part Test zero) (parts Test past)) (remembers_block b (part Body zero) (own (parts Body past)))
    remembers_equation (automaton s ss) zero past =
        with_words Absent (state_word (selected past).state) (B (selected past).restart) (remembers_states ss (part StatesOf zero) (parts StatesOf past))

    pub remembers_arms : Arms → Instant → Past → Instant
    remembers_arms no_arm zero past = nothing
    remembers_arms (more_arms c b s arms) zero past =
        of_two (remembers_block b (part Head zero) (own (parts Head past))) (remembers_arms arms (part Tail zero) (parts Tail past))

    pub remembers_states : States → Instant → Past → Instant
    remembers_states no_state zero past = nothing
    remembers_states (more_states f b until unless s ss) zero past =
        of_two
        (in_state
        (remembers_block b (part Body (part Head zero)) (own (parts Body (parts Head past))))
        (in_row (remembers_conditions until (part Until (part Head zero)) (parts Until (parts Head past))))
        (in_row (remembers_conditions unless (part Unless (part Head zero)) (parts Unless (parts Head past)))))
        (remembers_states ss (part Tail zero) (parts Tail past))

  abbrev remembers_told : Option Expr → Instant → Past → Instant
  remembers_told None zero past = nothing
  remembers_told (Some e) zero past = remembers e zero past

  abbrev pub remembers_contract : Option Contract → Instant → Past → Instant
  remembers_contract None zero past = nothing
  remembers_contract (Some c) zero past =
      in_observer
      (remembers_block c.body (part Observer zero) (own (parts Observer past)))
      (remembers_told c.assume (part Assume zero) (parts Assume past))
      (remembers_told c.enforce (part Enforce zero) (parts Enforce past))

-- ---- nodes

-- the memory of `last` outputs, of a body and of a contract's part
abbrev pub in_memory : Names → Instant → Instant → Instant
in_memory outputs body observer (Named x ∷ []) = outputs x
in_memory outputs body observer (Body ∷ p) = body p
in_memory outputs body observer p = observer p

abbrev nothing_called : List ℕ → Instant → Past → Instant
nothing_called f zero past = nothing

-- Of an instance its contract's part is remembered, with its `last` outputs where it has a contract.
abbrev pub remembers_callee : List TypeDecl → Option Node → Instant → Past → Instant
remembers_callee types None zero past = nothing
remembers_callee types (Some n) zero past =
    elim n.contract [
      | None ↦ nothing
      | Some c ↦ in_memory (remembered_lasts types nothing_called n.outputs past) nothing (remembers_contract types nothing_called (Some c) zero past)
    ]

abbrev pub remembers_node : List Item → Node → Instant → Past → Instant
remembers_node program n zero past =
    let types = types_of program in
    let callee : List ℕ → Instant → Past → Instant = λ f z h. remembers_callee types (node_among (reverse program) f) z h in
    in_memory (remembered_lasts types callee n.outputs past)
    (remembers_block types callee n.body (part Body zero) (own (parts Body past)))
    (remembers_contract types callee n.contract zero past)

-- the memory after an abstract history of a node
abbrev pub memory : List Item → Node → Past → Instant
memory program n history = remembers_node program n (zero_at (registers program n)) history

-- ---- bits

-- the number of a truth value or of a constructor; what is absent or Nil counts as zeros
abbrev pub number_in : Value → ℕ
number_in (B true) = 1
number_in (E t k) = k
number_in v = 0

abbrev pub bits_in : List Register → Instant → List Bool
bits_in [] mem = []
bits_in (r ∷ rs) mem = to_bits (width_of r.1) (number_in (mem r.0)) ++ bits_in rs mem

-- the bits of a history, in the order of the registers
abbrev pub bits : List Item → Node → Past → List Bool
bits program n history = bits_in (registers program n) (memory program n history)
